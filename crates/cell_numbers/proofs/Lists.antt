-- Pairs, scopes and variables, with their values anew.
use Rattle.std.proofs.Common.{◌≡◌, ℕ, Bool, true, false, List, [], ◌∷◌, ◌++◌, Option, Some, None, refl, sym, ap, ◌∙◌}
use Rattle.std.specs.Prelude.{map, option_map, is_some, slice_get, slice_set, if◌then◌else◌}
use Rattle.std.proofs.lemmas.List.{map-append, map-set}
use Rattle.std.proofs.lemmas.Option.{slice_get-map}
use Rattle.caja_units.specs.Units.{same_units}
use Rattle.cajita_meaning.specs.World as W
use Rattle.cajita_meaning.specs.World.{Value, undefined, Pairs}
use Rattle.cajita_meaning.specs.Doing as d
use Rattle.cajita_meaning.specs.Doing.{Item}
use Rattle.cajita_meaning.specs.Asking as A
use Rattle.cell_numbers.specs.Renumbering.{Renumbering, value_anew, values_anew, pairs_anew, item_anew, items_anew}

-- one of two things, mapped
pub picked_mapped : {X Y : Type 0} (h : X → Y) (b : Bool) (x y : X) → (if b then h x else h y) ≡ h (if b then x else y)
picked_mapped h true x y = refl
picked_mapped h false x y = refl

module _ (f : Renumbering) where
  -- the first of values, and a value where there is one

  pub first_anew : (vs : List Value) → A.first (values_anew f vs) ≡ value_anew f (A.first vs)
  first_anew [] = refl
  first_anew (v ∷ vs) = refl

  pub or_nothing_anew : (o : Option Value) → d.or_nothing (option_map (value_anew f) o) ≡ value_anew f (d.or_nothing o)
  or_nothing_anew None = refl
  or_nothing_anew (Some v) = refl

  -- something is told behind the others
  pub behind : (z is also : List Item) → also ≡ items_anew f is → items_anew f z ++ also ≡ items_anew f (z ++ is)
  behind z is also e = ap (λ l. items_anew f z ++ l) e ∙ sym (map-append (item_anew f) z is)

  -- pairs

  pub value_at_anew : (x : List ℕ) (ps : Pairs) → W.value_at x (pairs_anew f ps) ≡ option_map (value_anew f) (W.value_at x ps)
  value_at_anew x [] = refl
  value_at_anew x ((y, v) ∷ ps) = elim (same_units x y) as (λ b. (if b then Some (value_anew f v) else W.value_at x (pairs_anew f ps)) ≡ option_map (value_anew f) (if b then Some v else W.value_at x ps)) [ true ↦ refl | false ↦ value_at_anew x ps ]

  pub with_value_anew : (x : List ℕ) (v : Value) (ps : Pairs) → W.with_value x (value_anew f v) (pairs_anew f ps) ≡ pairs_anew f (W.with_value x v ps)
  with_value_anew x v [] = refl
  with_value_anew x v ((y, u) ∷ ps) =
      elim (same_units x y) as (λ b. (if b then (y, value_anew f v) ∷ pairs_anew f ps else (y, value_anew f u) ∷ W.with_value x (value_anew f v) (pairs_anew f ps)) ≡ pairs_anew f (if b then (y, v) ∷ ps else (y, u) ∷ W.with_value x v ps)) [
        | true ↦ refl
        | false ↦ ap (λ (l : Pairs). (y, value_anew f u) ∷ l) (with_value_anew x v ps)
      ]

  pub with_values_anew : (qs ps : Pairs) → W.with_values (pairs_anew f qs) (pairs_anew f ps) ≡ pairs_anew f (W.with_values qs ps)
  with_values_anew [] ps = refl
  with_values_anew ((k, v) ∷ qs) ps = ap (W.with_values (pairs_anew f qs)) (with_value_anew k v ps) ∙ with_values_anew qs (W.with_value k v ps)

  pub paired_anew : (ks : List (List ℕ)) (vs : List Value) → A.paired ks (values_anew f vs) ≡ pairs_anew f (A.paired ks vs)
  paired_anew [] vs = refl
  paired_anew (k ∷ ks) [] = refl
  paired_anew (k ∷ ks) (v ∷ vs) = ap (λ (l : Pairs). (k, value_anew f v) ∷ l) (paired_anew ks vs)

  -- variables that are declared, and parameters

  var_anew : (x : List ℕ) (names : Pairs) (o : Option Value) → (if is_some (option_map (value_anew f) o) then pairs_anew f names else pairs_anew f names ++ (x, undefined) ∷ []) ≡ pairs_anew f (if is_some o then names else names ++ (x, undefined) ∷ [])
  var_anew x names None = sym (map-append (λ p. (p.0, value_anew f p.1)) names ((x, undefined) ∷ []))
  var_anew x names (Some v) = refl

  pub with_vars_anew : (xs : List (List ℕ)) (names : Pairs) → W.with_vars xs (pairs_anew f names) ≡ pairs_anew f (W.with_vars xs names)
  with_vars_anew [] names = refl
  with_vars_anew (x ∷ xs) names =
      ap (λ o. W.with_vars xs (if is_some o then pairs_anew f names else pairs_anew f names ++ (x, undefined) ∷ [])) (value_at_anew x names) ∙ ap (W.with_vars xs) (var_anew x names (W.value_at x names))
      ∙ with_vars_anew xs (if is_some (W.value_at x names) then names else names ++ (x, undefined) ∷ [])

  pub with_params_anew : (xs : List (List ℕ)) (vs : List Value) (names : Pairs) → W.with_params xs (values_anew f vs) (pairs_anew f names) ≡ pairs_anew f (W.with_params xs vs names)
  with_params_anew [] vs names = refl
  with_params_anew (x ∷ xs) [] names = ap (W.with_params xs []) (with_value_anew x undefined names) ∙ with_params_anew xs [] (W.with_value x undefined names)
  with_params_anew (x ∷ xs) (v ∷ vs) names = ap (W.with_params xs (values_anew f vs)) (with_value_anew x v names) ∙ with_params_anew xs vs (W.with_value x v names)

  -- the names of a new scope
  pub names_anew : (vars params : List (List ℕ)) (vs : List Value) → W.with_vars vars (W.with_params params (values_anew f vs) []) ≡ pairs_anew f (W.with_vars vars (W.with_params params vs []))
  names_anew vars params vs = ap (W.with_vars vars) (with_params_anew params vs []) ∙ with_vars_anew vars (W.with_params params vs [])

  -- scopes

  scope_anew : (o : Option Pairs) → W.scope_at (option_map (pairs_anew f) o) ≡ pairs_anew f (W.scope_at o)
  scope_anew None = refl
  scope_anew (Some ps) = refl

  scope_at_anew : (ss : List Pairs) (n : ℕ) → W.scope_at (slice_get (map (pairs_anew f) ss) n) ≡ pairs_anew f (W.scope_at (slice_get ss n))
  scope_at_anew ss n = ap W.scope_at (slice_get-map (pairs_anew f) ss n) ∙ scope_anew (slice_get ss n)

  first_of_anew : (a b : Option Value) → A.first_of (option_map (value_anew f) a) (option_map (value_anew f) b) ≡ option_map (value_anew f) (A.first_of a b)
  first_of_anew None b = refl
  first_of_anew (Some v) b = refl

  pub lookup_anew : (chain : List ℕ) (ss : List Pairs) (x : List ℕ) → A.lookup chain (map (pairs_anew f) ss) x ≡ option_map (value_anew f) (A.lookup chain ss x)
  lookup_anew [] ss x = refl
  lookup_anew (n ∷ chain) ss x =
      let ps = W.scope_at (slice_get ss n) in
      ap (λ qs. A.first_of (W.value_at x qs) (A.lookup chain (map (pairs_anew f) ss) x)) (scope_at_anew ss n) ∙ ap (λ o. A.first_of o (A.lookup chain (map (pairs_anew f) ss) x)) (value_at_anew x ps)
      ∙ ap (λ o. A.first_of (option_map (value_anew f) (W.value_at x ps)) o) (lookup_anew chain ss x) ∙ first_of_anew (W.value_at x ps) (A.lookup chain ss x)

  -- a name that is bound in a scope
  pub declared_anew : (n : ℕ) (x : List ℕ) (v : Value) (ss : List Pairs) → slice_set (map (pairs_anew f) ss) n (W.with_value x (value_anew f v) (W.scope_at (slice_get (map (pairs_anew f) ss) n))) ≡ map (pairs_anew f) (slice_set ss n (W.with_value x v (W.scope_at (slice_get ss n))))
  declared_anew n x v ss =
      ap (λ qs. slice_set (map (pairs_anew f) ss) n (W.with_value x (value_anew f v) qs)) (scope_at_anew ss n) ∙ ap (λ qs. slice_set (map (pairs_anew f) ss) n qs) (with_value_anew x v (W.scope_at (slice_get ss n)))
      ∙ sym (map-set (pairs_anew f) ss n (W.with_value x v (W.scope_at (slice_get ss n))))

  -- one of two lists of scopes, by whether a variable is found
  chosen_anew : (o : Option Value) (ss ts : List Pairs) → (if is_some (option_map (value_anew f) o) then map (pairs_anew f) ss else map (pairs_anew f) ts) ≡ map (pairs_anew f) (if is_some o then ss else ts)
  chosen_anew None ss ts = refl
  chosen_anew (Some v) ss ts = refl

  pub assigned_anew : (chain : List ℕ) (x : List ℕ) (v : Value) (ss : List Pairs) → A.assigned chain x (value_anew f v) (map (pairs_anew f) ss) ≡ map (pairs_anew f) (A.assigned chain x v ss)
  assigned_anew [] x v ss = refl
  assigned_anew (n ∷ chain) x v ss =
      let ps = W.scope_at (slice_get ss n) in
      let set = slice_set (map (pairs_anew f) ss) n (W.with_value x (value_anew f v) (W.scope_at (slice_get (map (pairs_anew f) ss) n))) in
      ap (λ l. if is_some (W.value_at x (W.scope_at (slice_get (map (pairs_anew f) ss) n))) then set else l) (assigned_anew chain x v ss)
      ∙ ap (λ l. if is_some (W.value_at x (W.scope_at (slice_get (map (pairs_anew f) ss) n))) then l else map (pairs_anew f) (A.assigned chain x v ss)) (declared_anew n x v ss)
      ∙ ap (λ o. if is_some o then map (pairs_anew f) (slice_set ss n (W.with_value x v ps)) else map (pairs_anew f) (A.assigned chain x v ss)) (ap (W.value_at x) (scope_at_anew ss n) ∙ value_at_anew x ps)
      ∙ chosen_anew (W.value_at x ps) (slice_set ss n (W.with_value x v ps)) (A.assigned chain x v ss)
