-- A text in quotes, by its first and its last unit.
use Rattle.std.proofs.Common.{◌≡◌, ℕ, ◌+◌, ◌-◌, ◌<◌, Bool, true, false, ◌&&◌, ◌||◌, List, [], ◌∷◌, ◌++◌, refl, sym, ap, ◌∙◌, arith, length, take, get_or, nat_eq}
use Rattle.std.specs.Prelude.{if◌then◌else◌}
use Rattle.std.proofs.Math.Seq.{take-length}
use Rattle.std.proofs.lemmas.List.{take_more}
use Rattle.caja_units.specs.Units.{same_units}
use Rattle.caja_units.proofs.Texts.{same_units-from_equal}
use Rattle.css_kept.specs.Table.{is_without, unquoted}
use Rattle.css_values.specs.Closed.{is_closed}

and_true : (b : Bool) → (b && true) ≡ b
and_true true = refl
and_true false = refl

own : (c : ℕ) → nat_eq c c ≡ true
own c = sym (and_true (nat_eq c c)) ∙ same_units-from_equal (c ∷ []) (c ∷ []) refl

same_ends : (m : List ℕ) (q l : ℕ) → same_units (m ++ q ∷ []) (m ++ l ∷ []) ≡ nat_eq q l
same_ends [] q l = and_true (nat_eq q l)
same_ends (c ∷ m) q l = ap (λ b. b && same_units (m ++ q ∷ []) (m ++ l ∷ [])) (own c) ∙ same_ends m q l

last_is : (q : ℕ) (s : List ℕ) → 0 < length s → same_units (take (length s - 1) s ++ q ∷ []) s ≡ nat_eq q (get_or s (length s - 1) 0)
last_is q s some =
    let n : ℕ = length s - 1 in
    let less : n < length s = omega arith in
    let one : length s ≡ n + 1 = omega arith in
    let whole : s ≡ take n s ++ get_or s n 0 ∷ [] = sym (take-length s) ∙ ap (λ k. take k s) one ∙ take_more s n 0 less in
    ap (λ (x : List ℕ). same_units (take n s ++ q ∷ []) x) whole ∙ same_ends (take n s) q (get_or s n 0)

closes : (q : ℕ) (s : List ℕ) → 0 < length s → ((nat_eq q 34 || nat_eq q 39) && same_units (take (length s - 1) s ++ q ∷ []) s && is_without q (take (length s - 1) s)) ≡ is_closed q s
closes q s some = ap (λ b. (nat_eq q 34 || nat_eq q 39) && b && is_without q (take (length s - 1) s)) (last_is q s some)

pub in_quotes : (q : ℕ) (s u : List ℕ) → 0 < length s → is_closed q s ≡ true → u ≡ take (length s - 1) s → u ≡ unquoted (q ∷ s)
in_quotes q s u some e f = f ∙ sym (ap (λ b. if b then take (length s - 1) s else q ∷ s) (closes q s some ∙ e))

pub bare : (q : ℕ) (s : List ℕ) → 0 < length s → is_closed q s ≡ false → q ∷ s ≡ unquoted (q ∷ s)
bare q s some e = sym (ap (λ b. if b then take (length s - 1) s else q ∷ s) (closes q s some ∙ e))

none_closes : (b : Bool) (s u : List ℕ) → (if (b && false) && true then s else u) ≡ u
none_closes true s u = refl
none_closes false s u = refl

-- a unit with nothing behind it
pub alone : (q : ℕ) (s : List ℕ) → length s ≡ 0 → q ∷ s ≡ unquoted (q ∷ s)
alone q [] e = sym (none_closes (nat_eq q 34 || nat_eq q 39) [] (q ∷ []))
alone q (c ∷ s) e = absurd (omega (arith, e))
