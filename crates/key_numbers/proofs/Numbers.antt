-- The bytes of a number write it.
use Rattle.std.proofs.Common.{◌≡◌, ℕ, ◌<◌, ◌^◌}
use Rattle.std.specs.Hash.{le_bytes}
use Rattle.std.proofs.lemmas.Nat.{from_le_bytes-to_le_bytes_8}
use Rattle.key_numbers.specs.Numbers.{write_number}

pub number_is_written : (n i : ℕ) → i < 2 ^ 64 → write_number n (le_bytes 8 i) ≡ i
unfolding le_bytes
number_is_written n i small = from_le_bytes-to_le_bytes_8 i small
