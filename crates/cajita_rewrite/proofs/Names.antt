-- What a table has of names that are added one by one, or list by list.
use Rattle.std.proofs.Common.{◌≡◌, ℕ, ◌+◌, ◌<◌, ◌≤◌, Bool, true, false, List, [], ◌∷◌, ◌++◌, ◌||◌, if◌then◌else◌, Option, Some, None, is_some, Bor, length, get_or, drop, refl, sym, ap, ◌∙◌, arith}
use Rattle.std.proofs.lemmas.List.{at_drop_more}
use Rattle.std.proofs.lemmas.List.Folds.{list_any-append}
use Rattle.std.proofs.lemmas.Bool.Decides.{nat_tests}
use Rattle.std.specs.Bool.{◌==◌}
use Rattle.std.specs.List.{list_any}
use Rattle.std.specs.Option.{option_copied}
use Rattle.caja_units.specs.Units.{same_units}
use Rattle.caja_units.proofs.Texts.{same_units-equal}
use Rattle.cajita_rewrite.specs.Table.{with_name, with_all}

-- the names of one list, then those of another
pub with_all-append : (names xs ys : List (List ℕ)) → with_all names (xs ++ ys) ≡ with_all (with_all names xs) ys
with_all-append names [] ys = refl
with_all-append names (x ∷ xs) ys = with_all-append (with_name names x) xs ys

pub ruleset all_of_two = (with_all-append)

-- what is lent is there where its value is
pub copied-found : {T : Type 0} (o : Option (Bor T)) → is_some o ≡ is_some (option_copied o)
copied-found None = refl
copied-found (Some x) = refl

-- a name is found if it was there or was added
swapped : (a b c : Bool) → ((a || b) || c) ≡ (b || (a || c))
swapped true true c = refl
swapped true false c = refl
swapped false b c = refl

last : (p a : Bool) → (p || (a || false)) ≡ (a || p)
last true true = refl
last true false = refl
last false true = refl
last false false = refl

found-one : (q x : List ℕ) (names : List (List ℕ)) → list_any (same_units q) (with_name names x) ≡ (same_units q x || list_any (same_units q) names)
found-one q x names =
    let cases = elim (list_any (same_units x) names) as (λ b. list_any (same_units x) names ≡ b → list_any (same_units q) (if b then names else names ++ x ∷ []) ≡ (same_units q x || list_any (same_units q) names)) [
      | true ↦ λ there. known q x names there
      | false ↦ λ new. list_any-append (same_units q) names (x ∷ []) ∙ last (list_any (same_units q) names) (same_units q x)
    ] in cases refl
  where
    known : (q x : List ℕ) (names : List (List ℕ)) → list_any (same_units x) names ≡ true → list_any (same_units q) names ≡ (same_units q x || list_any (same_units q) names)
    known q x names there =
        let cases = elim (same_units q x) as (λ b. same_units q x ≡ b → list_any (same_units q) names ≡ (b || list_any (same_units q) names)) [
          | true ↦ λ same. ap (λ z. list_any (same_units z) names) (same_units-equal q x same) ∙ there
          | false ↦ λ other. refl
        ] in cases refl

found : (q : List ℕ) (names xs : List (List ℕ)) → list_any (same_units q) (with_all names xs) ≡ (list_any (same_units q) xs || list_any (same_units q) names)
found q names [] = refl
found q names (x ∷ xs) =
    found q (with_name names x) xs
    ∙ ap (λ b. list_any (same_units q) xs || b) (found-one q x names)
    ∙ sym (swapped (same_units q x) (list_any (same_units q) xs) (list_any (same_units q) names))

or_none : (b : Bool) → (b || false) ≡ b
or_none true = refl
or_none false = refl

pub found-all : (q : List ℕ) (xs : List (List ℕ)) → list_any (same_units q) (with_all [] xs) ≡ list_any (same_units q) xs
found-all q xs = found q [] xs ∙ or_none (list_any (same_units q) xs)

-- without names nothing is added
pub none_asked : (xs : List (List ℕ)) → (length xs == 0) ≡ true → length xs ≤ 0
none_asked [] h = omega arith
none_asked (x ∷ xs) h = absurd (grind (arith, nat_tests))

-- a list gone over up to i, with the element there
pub added-turn : {A : Type 0} (all : List A → List (List ℕ)) (ds : List (List ℕ)) (xs : List A) (i : ℕ) (x : A) (names more : List (List ℕ)) → i < length xs → x ≡ get_or xs i x
    → all (x ∷ drop (i + 1) xs) ≡ ds ++ all (drop (i + 1) xs) → more ≡ with_all names ds
    → with_all more (all (drop (i + 1) xs)) ≡ with_all names (all (drop i xs))
added-turn all ds xs i x names more h is parts now =
    ap (λ m. with_all m (all (drop (i + 1) xs))) now
    ∙ sym (with_all-append names ds (all (drop (i + 1) xs)))
    ∙ ap (with_all names) (sym parts ∙ ap (λ z. all (z ∷ drop (i + 1) xs)) is ∙ sym (at_drop_more all xs i x h))
