-- The laws of numbers for characters that are not split.
use Rattle.std.proofs.Common.{◌≡◌, ℕ, suc, ◌+◌, ◌^◌, ◌≤◌, ◌<◌, ◌&&◌, Bool, true, false, List, [], ◌∷◌, Option, Some, None, refl, sym, ap, ◌∙◌, arith, nat_eq, nat_lt, min, length, take, drop}
use Rattle.std.proofs.Common.{to_z, w64}
use Rattle.std.proofs.lemmas.Int.{to_z_pos}
use Rattle.caja_num.specs.Numbers.{whole}
use Rattle.std.specs.Str.Parse.{digits_value}
use Rattle.std.specs.Prelude.{ℤ, pos, if◌then◌else◌}
use Rattle.std.specs.List.{list_all, prefix_len, All}
use Rattle.std.proofs.lemmas.Bool.Decides.{nat_tests}
use Rattle.std.proofs.lemmas.List.Sums.{AllPass-from_list_all}
use Rattle.es3_tokens.proofs.Longest.{passes}
use Rattle.es3_tokens.proofs.Numbers.{longest_decimal, longest_hex, longest_no_hex, longest_zero, point_number}
use Rattle.es3_tokens.proofs.Tests.{and_parts, eq_of, ge_test, lt_test}
use Rattle.es3_tokens.specs.Characters.{begins, is_digit, is_hex}
use Rattle.es3_tokens.specs.Cut.{Step, accept, point, refusal_step, refuse}
use Rattle.es3_tokens.specs.Longest.{longest}
use Rattle.es3_tokens.specs.Numbers.{is_x, number}
use Rattle.es3_tokens.specs.Refusals.{goes_on, number_form, number_too_large}
use Rattle.es3_tokens.specs.Steps.{IsNumber, number_step}
use Rattle.es3_tree.specs.Token.{num}

-- what is done at a number v of n characters, which goes on with what may not follow it if b says so
abbrev decided : Bool → ℕ → ℕ → Step
decided b v n = refusal_step (if b then Some number_form else if nat_lt v (2 ^ 53) then None else Some number_too_large) (accept (num (pos v)) n)

abbrev Decides : Step → Bool → ℕ → ℕ → Type 0
Decides p b v n = (b ≡ true → p ≡ refuse number_form) × (b ≡ false → v < 2 ^ 53 → p ≡ accept (num (pos v)) n) × (b ≡ false → 2 ^ 53 ≤ v → p ≡ refuse number_too_large)

decides : (p : Step) (b : Bool) (v w n : ℕ) → p ≡ decided b w n → v ≡ min w (2 ^ 53) → Decides p b v n
decides p b v w n e is = (
  λ t. e ∙ ap (λ b. decided b w n) t,
  λ f lt.
      let l : w < 2 ^ 53 = omega (arith, is) in
      let q : w ≡ v = omega (arith, is) in
      e ∙ ap (λ b. decided b w n) f ∙ ap (λ b. refusal_step (if b then None else Some number_too_large) (accept (num (pos w)) n)) (lt_test w (2 ^ 53) l) ∙ ap (λ k. accept (num (pos k)) n) q,
  λ f le.
      let l : 2 ^ 53 ≤ w = omega (arith, is) in
      e ∙ ap (λ b. decided b w n) f ∙ ap (λ b. refusal_step (if b then None else Some number_too_large) (accept (num (pos w)) n)) (ge_test w (2 ^ 53) l),
)

pub number_front : (o : Bool) (s : List ℕ) (b : Bool) (v n : ℕ) → begins is_digit s ≡ true → IsNumber (v, n) (longest number (length s) s) → b ≡ begins goes_on (drop n s) → Decides (point o s) b v n
number_front o [] b v n h is e = absurd cc
number_front o (c ∷ s) b v n h is e = by_number (c ∷ s) (point o (c ∷ s)) b v n (longest number (suc (length s)) (c ∷ s)) (point_number o c s h) is e
  where
    by_number : (s : List ℕ) (p : Step) (b : Bool) (v n : ℕ) (r : Option (ℕ × ℕ)) → p ≡ number_step r s → IsNumber (v, n) r → b ≡ begins goes_on (drop n s) → Decides p b v n
    by_number s p b v n None i is e = absurd is
    by_number s p b v n (Some r) i is e =
        let f : begins goes_on (drop r.1 s) ≡ b = ap (λ k. begins goes_on (drop k s)) (sym is.1) ∙ sym e in
        decides p b v r.0 n (i ∙ ap (λ b. decided b r.0 r.1) f ∙ ap (decided b r.0) (sym is.1)) is.0

-- the number at the front, as the code finds it
digit_hex : (c : ℕ) → is_digit c ≡ true → is_hex c ≡ true
digit_hex c h = grind (arith, nat_tests)

all_hex : (w : List ℕ) → list_all is_digit w ≡ true → list_all is_hex w ≡ true
all_hex [] h = refl
all_hex (c ∷ w) h = let p = and_parts (is_digit c) (list_all is_digit w) h in ap (λ b. b && list_all is_hex w) (digit_hex c p.0) ∙ all_hex w p.1

digits_all : (s : List ℕ) (k n : ℕ) → begins is_digit s ≡ true → k ≡ prefix_len is_digit (drop 1 s) → n ≡ 1 + k → list_all is_digit (take n s) ≡ true
digits_all [] k n h e i = absurd cc
digits_all (c ∷ s) k n h e i =
    let f : suc (prefix_len is_digit s) ≡ n = omega (arith, e) in
    ap (λ j. list_all is_digit (take j (c ∷ s))) (sym f) ∙ ap (λ b. b && list_all is_digit (take (prefix_len is_digit s) s)) h ∙ passes is_digit s

pub decimal_digits : (s : List ℕ) (k n : ℕ) → begins is_digit s ≡ true → k ≡ prefix_len is_digit (drop 1 s) → n ≡ 1 + k → All (λ c. is_hex c ≡ true) (take n s)
decimal_digits s k n h e i = AllPass-from_list_all is_hex (take n s) (all_hex (take n s) (digits_all s k n h e i))

pub hex_digits_all : (s : List ℕ) (k : ℕ) → k ≡ prefix_len is_hex s → All (λ c. is_hex c ≡ true) (take k s)
hex_digits_all s k e = AllPass-from_list_all is_hex (take k s) (ap (λ j. list_all is_hex (take j s)) e ∙ passes is_hex s)

abbrev is_zero : ℕ → Bool
is_zero c = nat_eq c 48

pub decimal_front : (s : List ℕ) (k n v : ℕ) → begins is_digit s ≡ true → begins is_zero s ≡ false → k ≡ prefix_len is_digit (drop 1 s) → n ≡ 1 + k → v ≡ min (digits_value 10 (take n s)) (2 ^ 53) → IsNumber (v, n) (longest number (length s) s)
decimal_front [] k n v h z e i w = absurd cc
decimal_front (c ∷ s) k n v h z e i w =
    let f : suc (prefix_len is_digit s) ≡ n = omega (arith, e) in
    rw (longest_decimal c s h z) (w ∙ ap (λ j. min (digits_value 10 (take j (c ∷ s))) (2 ^ 53)) (sym f), sym f)

pub zero_front : (s : List ℕ) → begins is_zero s ≡ true → begins is_x (drop 1 s) ≡ false → IsNumber (0, 1) (longest number (length s) s)
zero_front [] z h = absurd cc
zero_front (c ∷ s) z h = rw (eq_of c 48 z) (rw (longest_zero s h) (refl, refl))

pub no_hex_front : (s w : List ℕ) (k : ℕ) → begins is_zero s ≡ true → begins is_x (drop 1 s) ≡ true → w ≡ drop 2 s → k ≡ prefix_len is_hex w → k ≡ 0 → IsNumber (0, 1) (longest number (length s) s)
no_hex_front [] w k z x a e h = absurd cc
no_hex_front (c ∷ []) w k z x a e h = absurd cc
no_hex_front (c ∷ y ∷ s) w k z x a e h = rw (eq_of c 48 z) (rw (longest_no_hex y s (sym (ap (prefix_len is_hex) a) ∙ sym e ∙ h)) (refl, refl))

pub hex_front : (s w : List ℕ) (k n v : ℕ) → begins is_zero s ≡ true → begins is_x (drop 1 s) ≡ true → w ≡ drop 2 s → k ≡ prefix_len is_hex w → 0 < k → n ≡ k + 2 → v ≡ min (digits_value 16 (take k w)) (2 ^ 53) → IsNumber (v, n) (longest number (length s) s)
hex_front [] w k n v z x a e some i u = absurd cc
hex_front (c ∷ []) w k n v z x a e some i u = absurd cc
hex_front (c ∷ y ∷ s) w k n v z x a e some i u =
    rw (eq_of c 48 z) (rw (longest_hex y s k x (sym (e ∙ ap (prefix_len is_hex) a)) some) (u ∙ ap (λ t. min (digits_value 16 (take k t)) (2 ^ 53)) a, let q : n ≡ suc (suc k) = omega arith in q))

-- a natural number as one of the language
whole_test : (v : ℕ) (b : Bool) → nat_lt v (2 ^ 53) ≡ b → whole (pos v) ≡ (if b then Some (pos v) else None)
whole_test v b e = ap (λ b. if b then Some (pos v) else None) e

pub whole_some : (v : ℕ) (n : ℤ) → whole (pos v) ≡ Some n → (v < 2 ^ 53) × (n ≡ pos v)
whole_some v n e = by_test v n (nat_lt v (2 ^ 53)) refl e
  where
    by_test : (v : ℕ) (n : ℤ) (b : Bool) → nat_lt v (2 ^ 53) ≡ b → whole (pos v) ≡ Some n → (v < 2 ^ 53) × (n ≡ pos v)
    by_test v n true h e = (grind (arith, nat_tests), let q = sym e ∙ whole_test v true h in cc q)
    by_test v n false h e = absurd (let q = sym e ∙ whole_test v false h in cc q)

pub whole_none : (v : ℕ) → whole (pos v) ≡ None → 2 ^ 53 ≤ v
whole_none v e = by_test v (nat_lt v (2 ^ 53)) refl e
  where
    by_test : (v : ℕ) (b : Bool) → nat_lt v (2 ^ 53) ≡ b → whole (pos v) ≡ None → 2 ^ 53 ≤ v
    by_test v true h e = absurd (let q = sym e ∙ whole_test v true h in cc q)
    by_test v false h e = grind (arith, nat_tests)

pub whole_cast : (v : ℕ) (o : Option ℤ) → v ≤ 2 ^ 53 → whole (to_z w64 v) ≡ o → whole (pos v) ≡ o
whole_cast v o le e = ap whole (sym (to_z_pos w64 v (omega arith))) ∙ e
