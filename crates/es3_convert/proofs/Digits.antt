-- The value of digits, of which one more is read at a time.
use Rattle.std.proofs.Common.{◌≡◌, ℕ, ◌+◌, ◌*◌, ◌<◌, ◌≤◌, ◌^◌, List, None, length, take, get_or, pos, false, refl, sym, arith}
use Rattle.std.specs.Char.{digit_value}
use Rattle.std.specs.Str.Parse.{digits_value}
use Rattle.std.proofs.lemmas.Int.{ints}
use Rattle.std.proofs.lemmas.Int.Digits.{digits_value_more}
use Rattle.std.proofs.lemmas.Str.Parse.{digits_value-take-le}
use Rattle.caja_num.specs.Numbers.{is_whole, whole}

-- one digit more
pub one_more : (b i v d : ℕ) (us : List ℕ) → i < length us → v ≡ digits_value b (take i us) → d ≡ digit_value (get_or us i 0) → v * b + d ≡ digits_value b (take (i + 1) us)
one_more b i v d us less is digit = rw (is, digit) (sym (digits_value_more b us i less))

no_number : (n : ℕ) → 2 ^ 53 ≤ n → None ≡ whole (pos n)
no_number n large = let out : is_whole (pos n) ≡ false = grind (arith, ints) in rw out refl

-- digits whose front is too large are no number
pub too_large : (b i v : ℕ) (us : List ℕ) → 1 ≤ b → v ≡ digits_value b (take i us) → 2 ^ 53 ≤ v → None ≡ whole (pos (digits_value b us))
too_large b i v us some is large = no_number (digits_value b us) (omega (arith, is, digits_value-take-le b us i some))
