-- The longest front of a text that is something (ES3 7: the longest input element is taken).
use Rattle.std.specs.Prelude.{ℕ, zero, suc, List, Option, Some, None, take}

abbrev pub or_shorter : {A : Type 0} → Option A → ℕ → Option (A × ℕ) → Option (A × ℕ)
or_shorter (Some a) n r = Some (a, n)
or_shorter None n r = r

-- f says what a whole text is: here, what the longest front of at most n characters is, of those that are something, and how many characters it has
unfoldable pub longest : {A : Type 0} → (List ℕ → Option A) → ℕ → List ℕ → Option (A × ℕ)
longest f zero s = None
longest f (suc n) s = or_shorter (f (take (suc n) s)) (suc n) (longest f n s)
