-- Depths of 32 bits, of wholes and of their parts.
use Rattle.std.proofs.Common.{◌≡◌, ℕ, ◌+◌, max, arith}
use Rattle.es3_grammar.specs.Sums.{capped}

pub capped_above : (n : ℕ) → capped (capped n + 1) ≡ capped (n + 1)
capped_above n = omega arith

pub capped_max : (n m : ℕ) → max (capped n) (capped m) ≡ capped (max n m)
capped_max n m = omega arith

-- a whole of two parts, or of three, no level above them
pub of_two : (a b n m k d : ℕ) → n ≡ capped a → m ≡ capped b → k ≡ max n m → d ≡ max a b → k ≡ capped d
of_two a b n m k d p q r e = omega arith
