-- What is written of texts and values begins no markup and ends no value.
use Rattle.std.proofs.Common.{◌≡◌, ℕ, Bool, true, false, ◌||◌, not, List, [], ◌∷◌, ◌++◌, refl, ap, ◌∙◌, nat_eq, codes}
use Rattle.std.specs.List.{list_all, flat_map}
use Rattle.caja_units.specs.Utf8.{utf8_of}
use Rattle.html_kept.specs.Printed.{shown, shown_value, is_no_mark, is_no_quote}
use Rattle.html_kept.proofs.Chars.{and_left, and_right, and_both, by_test}

all_append : (p : ℕ → Bool) (xs ys : List ℕ) → list_all p xs ≡ true → list_all p ys ≡ true → list_all p (xs ++ ys) ≡ true
all_append p [] ys e f = f
all_append p (x ∷ xs) ys e f = and_both (p x) (list_all p (xs ++ ys)) (and_left (p x) (list_all p xs) e) (all_append p xs ys (and_right (p x) (list_all p xs) e) f)

flat_all : (p : ℕ → Bool) (f : ℕ → List ℕ) (xs : List ℕ) → ((x : ℕ) → list_all p (f x) ≡ true) → list_all p (flat_map f xs) ≡ true
flat_all p f [] h = refl
flat_all p f (x ∷ xs) h = all_append p (f x) (flat_map f xs) (h x) (flat_all p f xs h)

other : (b : ℕ) → nat_eq b 60 ≡ false → nat_eq b 62 ≡ false → is_no_mark b ≡ true
other b e f = ap (λ x. not (x || nat_eq b 62)) e ∙ ap (λ x. not x) f

shown_quiet : (b : ℕ) → list_all is_no_mark (shown b) ≡ true
shown_quiet b =
    by_test Quiet (nat_eq b 38) (codes "&amp;") _ (λ _. refl)
    (λ _. by_test Quiet (nat_eq b 60) (codes "&lt;") _ (λ _. refl) (λ e. by_test Quiet (nat_eq b 62) (codes "&gt;") (b ∷ []) (λ _. refl) (λ f. and_both (is_no_mark b) true (other b e f) refl)))
  where
    Quiet : List ℕ → Type 0
    Quiet x = list_all is_no_mark x ≡ true

no_quote : (b : ℕ) → nat_eq b 34 ≡ false → is_no_mark b ≡ true → is_no_quote b ≡ true
no_quote b e f = and_both (not (nat_eq b 34)) (is_no_mark b) (ap (λ x. not x) e) f

shown_unquoted : (b : ℕ) → nat_eq b 34 ≡ false → list_all is_no_quote (shown b) ≡ true
shown_unquoted b q =
    by_test Quiet (nat_eq b 38) (codes "&amp;") _ (λ _. refl)
    (λ _. by_test Quiet (nat_eq b 60) (codes "&lt;") _ (λ _. refl) (λ e. by_test Quiet (nat_eq b 62) (codes "&gt;") (b ∷ []) (λ _. refl) (λ f. and_both (is_no_quote b) true (no_quote b q (other b e f)) refl)))
  where
    Quiet : List ℕ → Type 0
    Quiet x = list_all is_no_quote x ≡ true

value_quiet : (b : ℕ) → list_all is_no_quote (shown_value b) ≡ true
value_quiet b = by_test Quiet (nat_eq b 34) (codes "&quot;") (shown b) (λ _. refl) (λ e. shown_unquoted b e)
  where
    Quiet : List ℕ → Type 0
    Quiet x = list_all is_no_quote x ≡ true

pub text_is_quiet : (us : List ℕ) → list_all is_no_mark (flat_map shown (utf8_of us)) ≡ true
text_is_quiet us = flat_all is_no_mark shown (utf8_of us) shown_quiet

pub value_is_quiet : (us : List ℕ) → list_all is_no_quote (flat_map shown_value (utf8_of us)) ≡ true
value_is_quiet us = flat_all is_no_quote shown_value (utf8_of us) value_quiet
