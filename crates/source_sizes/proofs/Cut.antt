-- There are no more tokens than bytes.
use Rattle.std.proofs.Common.{◌≡◌, ℕ, zero, suc, ◌+◌, ◌≤◌, Bool, true, false, List, [], ◌∷◌, length, Ok, Err, refl, subst, arith}
use Rattle.std.specs.Prelude.{nat_eq, nat_lt, if◌then◌else◌, IfOk}
use Rattle.std.specs.Char.{len_utf8}
use Rattle.std.specs.Str.{chars, is_utf8}
use Rattle.std.specs.Str.Lossy.{utf8_valid_len}
use Rattle.std.proofs.lemmas.Bool.Decides.{nat_tests}
use Rattle.std.proofs.lemmas.List.Sums.{sum_by-cons}
use Rattle.std.proofs.lemmas.Str.{IsUtf8-from_is_utf8, len_utf8_bounds}
use Rattle.es3_tokens.specs.Tokens as tokens
use Rattle.es3_tokens.specs.Cut.{Answer, Step, skip, accept, refuse, front, width, goes, point, cut_from, cut_chars, cut}
use Rattle.es3_tokens.specs.Refusals.{not_utf8, too_long}
use Rattle.es3_tokens.proofs.Sources.{width_chars}

at_most : (n m : ℕ) → nat_lt n m ≡ false → m ≤ n
at_most n m e = grind (arith, nat_tests)

-- so many tokens at most, where there are some
abbrev AtMost : ℕ → Answer → Type 0
AtMost n a = IfOk a (λ ts. length ts ≤ n)

one_more : (n : ℕ) (t : tokens.Placed) (a : Answer) → AtMost n a → AtMost (suc n) (front t a)
one_more n t (Ok ts) h = omega (arith, h)
one_more n t (Err e) h = tt

no_less : (n : ℕ) (a : Answer) → AtMost n a → AtMost (suc n) a
no_less n (Ok ts) h = omega (arith, h)
no_less n (Err e) h = tt

goes_few : (f : ℕ → Bool → Bool → Answer) (p : ℕ) (l o : Bool) (s : List ℕ) (e : Step) (n : ℕ) → ((k : ℕ) (m q : Bool) → AtMost n (f k m q)) → AtMost (suc n) (goes f p l o s e)
goes_few f p l o s (skip m k) n h = no_less n _ (h _ _ _)
goes_few f p l o s (accept t k) n h = one_more n _ _ (h _ _ _)
goes_few f p l o s (refuse r) n h = tt

-- a token takes a character at least
cut_few : (n p : ℕ) (l o : Bool) (s : List ℕ) → AtMost (length s) (cut_from n p l o s)
unfolding cut_from
cut_few n p l o [] = omega arith
cut_few (suc n) p l o (c ∷ s) = no_less (length s) _ (cut_few n (p + len_utf8 c) l o s)
cut_few zero p l o (c ∷ s) = goes_few (λ n m q. cut_from n (p + len_utf8 c) m q s) p l o (c ∷ s) (point o (c ∷ s)) (length s) (λ n m q. cut_few n (p + len_utf8 c) m q s)

chars_few : (s : List ℕ) → AtMost (length s) (cut_chars s)
chars_few [] = omega arith
chars_few (c ∷ s) = marked (nat_eq c 0xFEFF)
  where
    marked : (b : Bool) → AtMost (length (c ∷ s)) (if b then cut_from 0 3 false true s else cut_from 0 0 false true (c ∷ s))
    marked true = no_less (length s) _ (cut_few 0 3 false true s)
    marked false = cut_few 0 0 false true (c ∷ s)

-- and a character a byte
width_few : (s : List ℕ) → length s ≤ width s
width_few [] = omega arith
width_few (c ∷ s) = let h = len_utf8_bounds c in omega (arith, width_few s, h.0, sum_by-cons len_utf8 c s)

-- what holds of a source that is cut
record Fits (n : ℕ) (source : List ℕ) (ts : List tokens.Placed) : Type 0 where
  whole : length source ≤ n
  fewer : length ts ≤ length source

fits : (n : ℕ) (source : List ℕ) (a : Bool) (b : Bool) → nat_lt n (length source) ≡ a → is_utf8 source ≡ b
    → IfOk (if a then Err (too_long, 0) else if b then cut_chars (chars source) else Err (not_utf8, utf8_valid_len source)) (Fits n source)
fits n source true b e h = tt
fits n source false false e h = tt
fits n source false true e h = within (cut_chars (chars source)) (chars_few (chars source))
  where
    within : (r : Answer) → AtMost (length (chars source)) r → IfOk r (Fits n source)
    within (Ok ts) i = record { whole = at_most n (length source) e; fewer = omega (arith, i, width_few (chars source), width_chars source (IsUtf8-from_is_utf8 source h)) }
    within (Err r) i = tt

cut_fits : (n : ℕ) (source : List ℕ) (ts : List tokens.Placed) → cut n source ≡ Ok ts → Fits n source ts
cut_fits n source ts e = subst (λ r. IfOk r (Fits n source)) e (fits n source (nat_lt n (length source)) (is_utf8 source) refl refl)

pub tokens_fit : (n : ℕ) (source : List ℕ) (ts : List tokens.Placed) → cut n source ≡ Ok ts → length ts ≤ length source
tokens_fit n source ts e = (cut_fits n source ts e).fewer

pub source_fits : (n : ℕ) (source : List ℕ) (ts : List tokens.Placed) → cut n source ≡ Ok ts → length source ≤ n
source_fits n source ts e = (cut_fits n source ts e).whole
