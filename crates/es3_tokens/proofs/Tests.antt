-- Tests of numbers and truth values, by what they decide.
use Rattle.std.proofs.Common.{◌≡◌, ◌≢◌, ℕ, ◌≤◌, ◌<◌, ◌&&◌, not, Bool, true, false, refl, arith, nat_eq, nat_lt, nat_le}
use Rattle.std.proofs.lemmas.Bool.Decides.{nat_tests}

pub eq_test : (n : ℕ) → nat_eq n n ≡ true
eq_test n = grind (arith, nat_tests)

pub ne_test : (n m : ℕ) → n ≢ m → nat_eq n m ≡ false
ne_test n m h = grind (arith, nat_tests)

pub eq_of : (n m : ℕ) → nat_eq n m ≡ true → n ≡ m
eq_of n m h = grind (arith, nat_tests)

pub lt_test : (a b : ℕ) → a < b → nat_lt a b ≡ true
lt_test a b lt = grind (arith, nat_tests)

pub ge_test : (a b : ℕ) → b ≤ a → nat_lt a b ≡ false
ge_test a b lt = grind (arith, nat_tests)

pub le_test : (a b : ℕ) → a ≤ b → nat_le a b ≡ true
le_test a b le = grind (arith, nat_tests)

pub le_of : (a b : ℕ) → nat_le a b ≡ true → a ≤ b
le_of a b h = grind (arith, nat_tests)

pub and_parts : (a b : Bool) → (a && b) ≡ true → (a ≡ true) × (b ≡ true)
and_parts true b h = (refl, h)
and_parts false b h = absurd cc

pub and_false : (a b : Bool) → b ≡ false → (a && b) ≡ false
and_false true b h = h
and_false false b h = refl

pub false_of : (a : Bool) → not a ≡ true → a ≡ false
false_of true h = absurd cc
false_of false h = refl
