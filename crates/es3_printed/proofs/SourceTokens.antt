-- What a source is cut into are tokens (ES3 7.5 to 7.8).
use Rattle.std.proofs.Common.{◌≡◌, ℕ, zero, suc, ◌+◌, ◌-◌, ◌^◌, ◌<◌, ◌≤◌, ◌&&◌, ◌||◌, ◌/◌, ◌%◌, Bool, true, false, cond, List, [], ◌∷◌, pos, Option, Some, None, Ok, Err, refl, sym, subst, inl, inr, arith, nat_eq, nat_lt, nat_le, length, take}
use Rattle.std.specs.Prelude.{if◌then◌else◌}
use Rattle.std.specs.List.{All, list_all, position_from}
use Rattle.std.specs.Char.{digit_value, len_utf8}
use Rattle.std.specs.Char.Escape.{encode_utf16}
use Rattle.std.specs.Str.{chars, is_utf8}
use Rattle.std.specs.Str.Lossy.{utf8_valid_len}
use Rattle.std.specs.Str.Parse.{AllDigits, digits_value}
use Rattle.std.proofs.Math.Utf8.{scalar, scalars, scalar_cases}
use Rattle.std.proofs.str.Utf16.{one_unit, two_units}
use Rattle.std.proofs.lemmas.Bool.{and_parts, cases_lt}
use Rattle.std.proofs.lemmas.Bool.Decides.{nat_tests}
use Rattle.std.proofs.lemmas.Int.Digits.{digits_value-lt}
use Rattle.std.proofs.lemmas.List.{length-take-le}
use Rattle.std.proofs.lemmas.List.Elements.{All-append, All-cons, All-head, All-nil, All-tail, All-take}
use Rattle.std.proofs.lemmas.Str.{IsUtf8-from_is_utf8, scalars-chars}
use Rattle.caja_units.specs.Units.{same_units}
use Rattle.es3_tree.specs.Token.{Token, num, punct, puncts, text, words}
use Rattle.es3_tokens.specs.Back.{IsToken}
use Rattle.es3_tokens.specs.Characters.{begins, is_digit, is_hex, is_line, is_quote}
use Rattle.es3_tokens.specs.Cut.{Answer, Step, accept, cut, cut_chars, cut_from, front, gap_step, goes, point, refusal_step, refuse, skip, token_step}
use Rattle.es3_tokens.specs.Gaps.{gap}
use Rattle.es3_tokens.specs.Longest.{longest, or_shorter}
use Rattle.es3_tokens.specs.Numbers.{number}
use Rattle.es3_tokens.specs.Refusals.{Refusal, not_utf8, number_form, number_too_large, refusal_at, too_long}
use Rattle.es3_tokens.specs.Steps.{number_step}
use Rattle.es3_tokens.specs.Texts.{Reading, after, body, broken, by_digits, closed, escape, escaped, text_units, unclosed, units_of}
use Rattle.es3_tokens.specs.Tokens.{Placed, is_name, made, name_or_word, named, or_else, place_in, whole_token}
use Rattle.es3_tokens.proofs.Classes.{no_digit_no_zero}
use Rattle.es3_tokens.proofs.Numbers.{point_number}
use Rattle.es3_tokens.proofs.Tests.{le_of}

abbrev AreCharacters : List ℕ → Type 0
AreCharacters s = All (λ c. c < 1114112) s

abbrev AreUnits : List ℕ → Type 0
AreUnits us = All (λ u. u < 65536) us

no_units : AreUnits []
no_units = All-nil (λ u. u < 65536)

one_small : (u : ℕ) → u < 65536 → AreUnits (u ∷ [])
one_small u lt = All-cons (λ u. u < 65536) u [] lt no_units

two_small : (u v : ℕ) → u < 65536 → v < 65536 → AreUnits (u ∷ v ∷ [])
two_small u v lt le = All-cons (λ u. u < 65536) u (v ∷ []) lt (one_small v le)

-- ---- the units of a text

char_units : (c : ℕ) → c < 1114112 → AreUnits (encode_utf16 c)
char_units c h =
    elim (cases_lt c 65536) [
      | inl low ↦ subst AreUnits (sym (one_unit c low)) (one_small c low)
      | inr high ↦ subst AreUnits (sym (two_units c high))
          (two_small (0xD800 + (c - 0x1_0000) / 0x400) (0xDC00 + (c - 0x1_0000) % 0x400) (omega arith) (omega arith))
    ]

abbrev AreSmall : Reading → Type 0
AreSmall (closed us n) = AreUnits us
AreSmall unclosed = Unit {0}
AreSmall broken = Unit {0}

small_if : (b : Bool) (x y : Reading) → AreSmall x → AreSmall y → AreSmall (if b then x else y)
small_if true x y f g = f
small_if false x y f g = g

small_after : (us : List ℕ) (n : ℕ) (r : Reading) → AreUnits us → AreSmall r → AreSmall (after us n r)
small_after us n (closed vs m) h f = All-append (λ u. u < 65536) us vs h f
small_after us n unclosed h f = tt
small_after us n broken h f = tt

small_escaped : (f : ℕ → Reading) (r : Reading) → AreSmall r → ((n : ℕ) → AreSmall (f n)) → AreSmall (escaped f r)
small_escaped f (closed us n) h g = small_after us 1 (f n) h (g n)
small_escaped f unclosed h g = tt
small_escaped f broken h g = tt

hex_digits : (w : List ℕ) → list_all is_hex w ≡ true → AllDigits 16 w
hex_digits [] h = tt
hex_digits (c ∷ w) h = let p = and_parts (is_hex c) (list_all is_hex w) h in (hex_value c p.0, hex_digits w p.1)
  where
    hex_value : (c : ℕ) → is_hex c ≡ true → digit_value c < 16
    hex_value c h = grind (arith, nat_tests)

small_digits : (n : ℕ) (s : List ℕ) → 16 ^ n ≤ 65536 → AreSmall (by_digits n s)
small_digits n s le = by_test n s le (nat_le n (length s) && list_all is_hex (take n s)) refl
  where
    by_test : (n : ℕ) (s : List ℕ) → 16 ^ n ≤ 65536 → (b : Bool)
        → (nat_le n (length s) && list_all is_hex (take n s)) ≡ b → AreSmall (if b then closed (digits_value 16 (take n s) ∷ []) (n + 1) else broken)
    by_test n s le false e = tt
    by_test n s le true e =
        let p = and_parts (nat_le n (length s)) (list_all is_hex (take n s)) e in
        let size : length (take n s) ≡ n = length-take-le n s (le_of n (length s) p.0) in
        let lt = subst (λ (k : ℕ). digits_value 16 (take n s) < 16 ^ k) size (digits_value-lt 16 (take n s) (hex_digits (take n s) p.1)) in
        one_small (digits_value 16 (take n s)) (omega (arith, lt, le))

small_escape : (s : List ℕ) → AreCharacters s → AreSmall (escape s)
small_escape [] h = tt
small_escape (c ∷ s) h =
    small_if (nat_eq c 98) _ _ (one_small 8 (omega arith))
    (small_if (nat_eq c 116) _ _ (one_small 9 (omega arith))
    (small_if (nat_eq c 110) _ _ (one_small 10 (omega arith))
    (small_if (nat_eq c 118) _ _ (one_small 11 (omega arith))
    (small_if (nat_eq c 102) _ _ (one_small 12 (omega arith))
    (small_if (nat_eq c 114) _ _ (one_small 13 (omega arith))
    (small_if (nat_eq c 120) _ _ (small_digits 2 s (omega arith))
    (small_if (nat_eq c 117) _ _ (small_digits 4 s (omega arith))
    (small_if (nat_eq c 48) _ _ (small_if (begins is_digit s) broken _ tt (one_small 0 (omega arith)))
    (small_if (is_digit c || is_line c) broken (closed (encode_utf16 c) 1) tt (char_units c (All-head (λ c. c < 1114112) c s h)))))))))))

small_body : (q n : ℕ) (s : List ℕ) → AreCharacters s → AreSmall (body q n s)
unfolding body
small_body q n [] h = tt
small_body q (suc n) (c ∷ s) h = small_after [] 1 (body q n s) no_units (small_body q n s (All-tail (λ c. c < 1114112) c s h))
small_body q zero (c ∷ s) h =
    let rest = All-tail (λ c. c < 1114112) c s h in
    small_if (nat_eq c q) (closed [] 1) _ no_units
    (small_if (is_line c) unclosed _ tt
    (small_if (nat_eq c 92) _ _ (small_escaped (λ n. body q n s) (escape s) (small_escape s rest) (λ n. small_body q n s rest))
    (small_after (encode_utf16 c) 1 (body q zero s) (char_units c (All-head (λ c. c < 1114112) c s h)) (small_body q zero s rest))))

-- ---- the token that some characters are

abbrev IfSome : {A : Type 0} → (A → Type 0) → Option A → Type 0
IfSome P None = Unit {0}
IfSome P (Some a) = P a

if_made : {A : Type 0} (P : A → Type 0) (f : A → Token) (o : Option A) → ((a : A) → P a → IsToken (f a)) → IfSome P o → IfSome IsToken (made f o)
if_made P f None g h = tt
if_made P f (Some a) g h = g a h

if_either : (a b : Option Token) → IfSome IsToken a → IfSome IsToken b → IfSome IsToken (or_else a b)
if_either None b h g = g
if_either (Some x) b h g = h

-- a place in a table lies within it
place_within : {A : Type 0} (p : A → Bool) (i m : ℕ) (xs : List A) → i + length xs ≤ m → IfSome (λ n. n < m) (position_from p i xs)
place_within p i m [] le = tt
place_within p i m (x ∷ xs) le = by_test (p x) i m (position_from p (i + 1) xs) (omega arith) (place_within p (i + 1) m xs (omega arith))
  where
    by_test : (b : Bool) (i m : ℕ) (o : Option ℕ) → i < m → IfSome (λ n. n < m) o → IfSome (λ n. n < m) (cond b (Some i) o)
    by_test true i m o lt h = lt
    by_test false i m o lt h = h

name_token : (w : List ℕ) (o : Option ℕ) → is_name w ≡ true → place_in words w ≡ o → IfSome (λ n. n < length words) o → IsToken (name_or_word w o)
name_token w None h e lt = (h, e)
name_token w (Some n) h e lt = lt

text_small : (w : List ℕ) → AreCharacters w → IfSome AreUnits (text_units w)
text_small [] h = tt
text_small (q ∷ s) h =
    by_quote (is_quote q) (units_of (length s) (body q 0 s))
    (by_size (length s) (body q 0 s) (small_body q 0 s (All-tail (λ c. c < 1114112) q s h)))
  where
    by_quote : (b : Bool) (o : Option (List ℕ)) → IfSome AreUnits o → IfSome AreUnits (if b then o else None)
    by_quote true o h = h
    by_quote false o h = tt

    by_test : (b : Bool) (us : List ℕ) → AreUnits us → IfSome AreUnits (if b then Some us else None)
    by_test true us h = h
    by_test false us h = tt

    by_size : (k : ℕ) (r : Reading) → AreSmall r → IfSome AreUnits (units_of k r)
    by_size k (closed us n) h = by_test (nat_eq k n) us h
    by_size k unclosed h = tt
    by_size k broken h = tt

-- a number is told by its digits, below, and not here
whole_is : (w : List ℕ) → AreCharacters w → number w ≡ None → IfSome IsToken (whole_token w)
whole_is w h e =
    by_name w (is_name w) refl (or_else (made (λ n. num (pos n)) (number w)) (or_else (made text (text_units w)) (made punct (place_in puncts w))))
    (if_either (made (λ n. num (pos n)) (number w)) (or_else (made text (text_units w)) (made punct (place_in puncts w)))
    (subst (λ (o : Option ℕ). IfSome IsToken (made (λ n. num (pos n)) o)) (sym e) tt)
    (if_either (made text (text_units w)) (made punct (place_in puncts w))
    (if_made AreUnits text (text_units w) (λ us g. g) (text_small w h))
    (if_made (λ n. n < length puncts) punct (place_in puncts w) (λ n g. g) (place_within (same_units w) 0 (length puncts) puncts (omega arith)))))
  where
    by_name : (w : List ℕ) (b : Bool) → is_name w ≡ b → (o : Option Token) → IfSome IsToken o → IfSome IsToken (if b then Some (named w) else o)
    by_name w true e o h = name_token w (place_in words w) e refl (place_within (same_units w) 0 (length words) words (omega arith))
    by_name w false e o h = h

-- ---- the step at a point

abbrev Accepts : Step → Type 0
Accepts (skip m k) = Unit {0}
Accepts (accept t k) = IsToken t
Accepts (refuse r) = Unit {0}

longest_is : (f : List ℕ → Option Token) (n : ℕ) (s : List ℕ) → ((k : ℕ) → IfSome IsToken (f (take k s))) → Accepts (token_step (longest f n s))
unfolding longest
longest_is f zero s h = tt
longest_is f (suc n) s h = by_front (f (take (suc n) s)) (suc n) (longest f n s) (h (suc n)) (longest_is f n s h)
  where
    by_front : (a : Option Token) (n : ℕ) (r : Option (Token × ℕ)) → IfSome IsToken a → Accepts (token_step r) → Accepts (token_step (or_shorter a n r))
    by_front None n r h g = g
    by_front (Some t) n r h g = h

gap_or : (g : Option (Bool × ℕ)) (x : Step) → Accepts x → Accepts (gap_step g x)
gap_or None x h = h
gap_or (Some r) x h = tt

refusal_or : (r : Option Refusal) (x : Step) → Accepts x → Accepts (refusal_step r x)
refusal_or None x h = h
refusal_or (Some r) x h = tt

number_is : (r : Option (ℕ × ℕ)) (s : List ℕ) → Accepts (number_step r s)
number_is None s = tt
number_is (Some r) s = by_form _ (nat_lt r.0 (2 ^ 53)) r refl
  where
    by_form : (a b : Bool) (r : ℕ × ℕ) → nat_lt r.0 (2 ^ 53) ≡ b
        → Accepts (refusal_step (if a then Some number_form else (if b then None else Some number_too_large)) (accept (num (pos r.0)) r.1))
    by_form true b r e = tt
    by_form false false r e = tt
    by_form false true r e = (r.0, refl, below r.0 (2 ^ 53) e)
      where
        below : (n m : ℕ) → nat_lt n m ≡ true → n < m
        below n m h = grind (arith, nat_tests)

no_number : (c : ℕ) (s : List ℕ) (k : ℕ) → is_digit c ≡ false → number (take k (c ∷ s)) ≡ None
no_number c s zero h = refl
no_number c s (suc k) h = let z = no_digit_no_zero c h in rw (z, h) refl

point_is : (o : Bool) (c : ℕ) (s : List ℕ) → AreCharacters (c ∷ s) → Accepts (point o (c ∷ s))
unfolding point
point_is o c s h = by_digit o c s h (is_digit c) refl
  where
    at_other : (o : Bool) (c : ℕ) (s : List ℕ) → AreCharacters (c ∷ s) → is_digit c ≡ false → Accepts (point o (c ∷ s))
    at_other o c s h e =
        gap_or (longest gap (length (c ∷ s)) (c ∷ s)) _ (refusal_or (refusal_at o (c ∷ s)) _
        (longest_is whole_token (length (c ∷ s)) (c ∷ s) (λ k. whole_is (take k (c ∷ s)) (All-take (λ c. c < 1114112) k (c ∷ s) h) (no_number c s k e))))

    by_digit : (o : Bool) (c : ℕ) (s : List ℕ) → AreCharacters (c ∷ s) → (b : Bool) → is_digit c ≡ b → Accepts (point o (c ∷ s))
    by_digit o c s h true e = subst Accepts (sym (point_number o c s e)) (number_is (longest number (suc (length s)) (c ∷ s)) (c ∷ s))
    by_digit o c s h false e = at_other o c s h e

-- ---- a whole source

abbrev AreIn : Answer → Type 0
AreIn (Ok ts) = All (λ t. IsToken t.token) ts
AreIn (Err e) = Unit {0}

front_is : (t : Placed) (a : Answer) → IsToken t.token → AreIn a → AreIn (front t a)
front_is t (Ok ts) h g = All-cons (λ t. IsToken t.token) t ts h g
front_is t (Err e) h g = tt

goes_is : (f : ℕ → Bool → Bool → Answer) (p : ℕ) (l o : Bool) (s : List ℕ) (x : Step)
    → Accepts x → ((n : ℕ) (m q : Bool) → AreIn (f n m q)) → AreIn (goes f p l o s x)
goes_is f p l o s (skip m n) h g = g _ _ _
goes_is f p l o s (accept t n) h g = front_is _ _ h (g _ _ _)
goes_is f p l o s (refuse r) h g = tt

from_is : (n p : ℕ) (l o : Bool) (s : List ℕ) → AreCharacters s → AreIn (cut_from n p l o s)
unfolding cut_from
from_is n p l o [] h = All-nil (λ t. IsToken t.token)
from_is (suc n) p l o (c ∷ s) h = from_is n _ l o s (All-tail (λ c. c < 1114112) c s h)
from_is zero p l o (c ∷ s) h =
    goes_is (λ n m q. cut_from n (p + len_utf8 c) m q s) p l o (c ∷ s) (point o (c ∷ s)) (point_is o c s h)
    (λ n m q. from_is n (p + len_utf8 c) m q s (All-tail (λ c. c < 1114112) c s h))

are_characters : (s : List ℕ) → scalars s ≡ true → AreCharacters s
are_characters [] h = All-nil (λ c. c < 1114112)
are_characters (c ∷ s) h = let p = and_parts (scalar c) (scalars s) h in All-cons (λ c. c < 1114112) c s (below c p.0) (are_characters s p.1)
  where
    below : (c : ℕ) → scalar c ≡ true → c < 1114112
    below c h = elim (scalar_cases c h) [ inl low ↦ omega arith | inr high ↦ high.1 ]

cut_is : (limit : ℕ) (source : List ℕ) → AreIn (cut limit source)
cut_is limit source = by_limit (nat_lt limit (length source)) source
  where
    by_mark : (b : Bool) (x y : Answer) → AreIn x → AreIn y → AreIn (if b then x else y)
    by_mark true x y h g = h
    by_mark false x y h g = g

    of_characters : (s : List ℕ) → AreCharacters s → AreIn (cut_chars s)
    of_characters [] h = All-nil (λ t. IsToken t.token)
    of_characters (c ∷ s) h = by_mark (nat_eq c 0xFEFF) _ _ (from_is 0 3 false true s (All-tail (λ c. c < 1114112) c s h)) (from_is 0 0 false true (c ∷ s) h)

    by_utf8 : (b : Bool) (source : List ℕ) → is_utf8 source ≡ b → AreIn (if b then cut_chars (chars source) else Err (not_utf8, utf8_valid_len source))
    by_utf8 true source e = of_characters (chars source) (are_characters (chars source) (scalars-chars source (IsUtf8-from_is_utf8 source e)))
    by_utf8 false source e = tt

    by_limit : (b : Bool) (source : List ℕ)
        → AreIn (if b then Err (too_long, 0) else (if is_utf8 source then cut_chars (chars source) else Err (not_utf8, utf8_valid_len source)))
    by_limit true source = tt
    by_limit false source = by_utf8 (is_utf8 source) source refl

pub cut_tokens : (limit : ℕ) (source : List ℕ) (ts : List Placed) → cut limit source ≡ Ok ts → All (λ t. IsToken t.token) ts
cut_tokens limit source ts e = subst AreIn e (cut_is limit source)
