-- The number that a key gives.
use Rattle.std.specs.Prelude.{ℕ, List, length, nat_eq, if◌then◌else◌}
use Rattle.std.specs.Int.{w64, from_le_bytes}

-- eight bytes are the number that they write, the lowest first, and any other bytes leave it
abbrev pub write_number : ℕ → List ℕ → ℕ
write_number n bytes = if nat_eq (length bytes) 8 then from_le_bytes w64 bytes else n
