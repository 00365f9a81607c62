-- Where no name stands twice by the test of a manifest, no two cells have one name.
use Rattle.std.proofs.Common.{◌≡◌, ℕ, zero, suc, ◌+◌, Bool, true, false, ◌||◌, List, [], ◌∷◌, ◌++◌, Some, None, refl, sym, ap, ◌∙◌, subst}
use Rattle.std.specs.Prelude.{if◌then◌else◌}
use Rattle.std.proofs.lemmas.Bool.{false≢true}
use Rattle.std.proofs.lemmas.List.Folds.{list_any-append}
use Rattle.caja_units.specs.Units.{same_units}
use Rattle.caja_units.proofs.Texts.{same_units-from_equal}
use Rattle.es3_tokens.specs.Tokens.{is_one_of}
use Rattle.page_manifest.specs.Bound.{repeated}
use Rattle.page_manifest.specs.Valid.{AreOnce}
use Rattle.cell_numbers.specs.Names.{IsNamed, AreNamedOnce}

left_of : (a b : Bool) → (a || b) ≡ false → a ≡ false
left_of true b e = e
left_of false b e = refl

or_right : (a b : Bool) → b ≡ true → (a || b) ≡ true
or_right true b e = refl
or_right false b e = e

-- what passes behind one more name passes before it
before_it : (x n : List ℕ) (before : List (List ℕ)) → is_one_of x (before ++ n ∷ []) ≡ false → is_one_of x before ≡ false
before_it x n before e = left_of (is_one_of x before) (is_one_of x (n ∷ [])) (sym (list_any-append (same_units x) before (n ∷ [])) ∙ e)

its_own : (x : List ℕ) (before : List (List ℕ)) → is_one_of x (before ++ x ∷ []) ≡ true
its_own x before = list_any-append (same_units x) before (x ∷ []) ∙ or_right (is_one_of x before) (is_one_of x (x ∷ [])) (ap (λ b. b || false) (same_units-from_equal x x refl))

record Passes (before : List (List ℕ)) (i : ℕ) (n : List ℕ) (names : List (List ℕ)) : Type 0 where
  new : is_one_of n before ≡ false
  rest : repeated (before ++ n ∷ []) (i + 1) names ≡ None

passes : (before : List (List ℕ)) (i : ℕ) (n : List ℕ) (names : List (List ℕ)) → repeated before i (n ∷ names) ≡ None → Passes before i n names
passes before i n names e = at (is_one_of n before) refl e
  where
    at : (b : Bool) → is_one_of n before ≡ b → (if b then Some i else repeated (before ++ n ∷ []) (i + 1) names) ≡ None → Passes before i n names
    at true h f = absurd cc
    at false h f = record { new = h; rest = f }

the_name : {x y : List ℕ} → Some x ≡ Some y → x ≡ y
the_name e = cc

-- none of the names stands before them
none_before : (before : List (List ℕ)) (i : ℕ) (names : List (List ℕ)) → repeated before i names ≡ None → (c : ℕ) (x : List ℕ) → IsNamed names c x → is_one_of x before ≡ false
none_before before i [] e c x named = absurd cc
none_before before i (n ∷ names) e zero x named = subst (λ y. is_one_of y before ≡ false) (the_name named) (passes before i n names e).new
none_before before i (n ∷ names) e (suc c) x named = before_it x n before (none_before (before ++ n ∷ []) (i + 1) names (passes before i n names e).rest c x named)

-- the first name doesn't stand behind itself
not_again : (before : List (List ℕ)) (i : ℕ) (n : List ℕ) (names : List (List ℕ)) → repeated before i (n ∷ names) ≡ None → (c : ℕ) (x : List ℕ) → Some n ≡ Some x → IsNamed names c x → ⊥
not_again before i n names e c x is named =
    let new = none_before (before ++ n ∷ []) (i + 1) names (passes before i n names e).rest c x named in
    false≢true (sym new ∙ ap (λ y. is_one_of x (before ++ y ∷ [])) (the_name is) ∙ its_own x before)

each_once : (before : List (List ℕ)) (i : ℕ) (names : List (List ℕ)) → repeated before i names ≡ None → AreNamedOnce names
each_once before i [] e c d x named too = absurd cc
each_once before i (n ∷ names) e zero zero x named too = refl
each_once before i (n ∷ names) e zero (suc d) x named too = absurd (not_again before i n names e d x named too)
each_once before i (n ∷ names) e (suc c) zero x named too = absurd (not_again before i n names e c x too named)
each_once before i (n ∷ names) e (suc c) (suc d) x named too = ap suc (each_once (before ++ n ∷ []) (i + 1) names (passes before i n names e).rest c d x named too)

pub named_once : (names : List (List ℕ)) → AreOnce names → AreNamedOnce names
named_once names e = each_once [] 0 names e
