-- The parameters of a call begin with the values of its arguments, whatever else its scope has.
use Rattle.std.proofs.Common.{◌≡◌, ℕ, Bool, true, false, List, [], ◌∷◌, Some, refl, sym, ◌∙◌}
use Rattle.std.specs.Prelude.{◌||◌}
use Rattle.caja_units.specs.Units.{same_units}
use Rattle.es3_objects.specs.declared.value.Value.TheVariants.{Undefined}
use Rattle.es3_objects.proofs.Keys.{same_key-refl}
use Rattle.es3_language.specs.Store.{Names, name_value, with_name, with_vars, with_params}
use Rattle.cajita_tree.specs.Tree as c
use Rattle.cajita_simulation.specs.Guest.{AreDistinct, NewFuncs, is_among, is_declared}
use Rattle.cajita_simulation.proofs.Relation.{EsValue}
use Rattle.cajita_simulation.proofs.Heaps.Names.{name_value-with_name, name_value-with_name-other}
use Rattle.cajita_simulation.proofs.Heaps.ArgumentItems.{ParamsAre}
use Rattle.cajita_simulation.proofs.Load.Names.{with_vars-bound}
use Rattle.cajita_simulation.proofs.Declaring.Stores.{bound_names}
use Rattle.cajita_simulation.proofs.Declaring.Names.{left_none, declared_name, functions_other}

-- a name that is no parameter's has the value that it had
params_other : (x : List ℕ) (xs : List (List ℕ)) (vs : List EsValue) (names : Names) → is_among xs x ≡ false → name_value x (with_params xs vs names) ≡ name_value x names
params_other x [] vs names out = refl
params_other x (y ∷ ys) [] names out =
    let apart = left_none (same_units x y) (is_among ys x) out in
    params_other x ys [] (with_name y Undefined names) apart.1 ∙ name_value-with_name-other y x Undefined names apart.0
params_other x (y ∷ ys) (v ∷ vs) names out =
    let apart = left_none (same_units x y) (is_among ys x) out in
    params_other x ys vs (with_name y v names) apart.1 ∙ name_value-with_name-other y x v names apart.0

params_first : (xs : List (List ℕ)) (vs : List EsValue) (names : Names) → AreDistinct xs → ParamsAre xs vs (with_params xs vs names)
params_first [] vs names once = tt
params_first (x ∷ xs) [] names once = tt
params_first (x ∷ xs) (v ∷ vs) names once = (params_other x xs vs (with_name x v names) once.0 ∙ name_value-with_name x v names, params_first xs vs (with_name x v names) once.1)

either_way : (a : Bool) → (a || true) ≡ true
either_way true = refl
either_way false = refl

-- names of which each parameter has what it has in others
pub params_from : (xs : List (List ℕ)) (vs : List EsValue) (names more : Names) → ((x : List ℕ) (v : EsValue) → is_among xs x ≡ true → name_value x names ≡ Some v → name_value x more ≡ Some v) → ParamsAre xs vs names → ParamsAre xs vs more
params_from [] vs names more kept are = tt
params_from (x ∷ xs) [] names more kept are = tt
params_from (x ∷ xs) (v ∷ vs) names more kept are =
    (kept x v (rw (same_key-refl x) refl) are.0, params_from xs vs names more (λ y u among. kept y u (rw among (either_way (same_units y x)))) are.1)

not_true : (b : Bool) → (b ≡ true → ⊥) → b ≡ false
not_true true f = absurd (f refl)
not_true false f = refl

-- a variable that is called as a parameter is that parameter, and no function is called so
pub params_there : (params names : List (List ℕ)) (fs : c.Tree c.funcs) (place : ℕ) (vars' : List (List ℕ)) (qs : List EsValue) → AreDistinct params → NewFuncs params names fs → ParamsAre params qs (bound_names fs place (with_vars vars' (with_params params qs [])))
params_there params names fs place vars' qs once new =
    let first = with_params params qs [] in
    params_from params qs first (bound_names fs place (with_vars vars' first))
    (λ x v among is.
    let no_function : is_declared fs x ≡ false = not_true (is_declared fs x) (λ e. cc (sym (declared_name params names fs x new e).no_param ∙ among)) in
    functions_other fs place (with_vars vars' first) x no_function ∙ with_vars-bound x vars' first v is)
    (params_first params qs [] once)
