-- The names of a module's function when its imports are there, beside those of the direct meaning.
use Rattle.std.proofs.Common.{◌≡◌, ℕ, zero, suc, ◌<◌, Bool, true, false, List, [], ◌∷◌, Option, Some, None, cond, refl, sym, ap, ◌∙◌, subst, arith}
use Rattle.std.specs.Prelude.{is_some, ◌||◌}
use Rattle.std.specs.Cmp.Lexicographic.{same_text}
use Rattle.caja_units.specs.Units.{same_units, is_hidden}
use Rattle.es3_objects.proofs.Keys.{same_key-refl}
use Rattle.es3_objects.specs.declared.value.Value.TheVariants as es
use Rattle.es3_heap.specs.Objects.{Objects}
use Rattle.es3_language.specs.Store.{Names, name_value, with_name, first_names}
use Rattle.es3_language.specs.Arguments.{is_arguments}
use Rattle.cajita_tree.specs.Tree as c
use Rattle.cajita_rewrite.specs.Rewrite.{runtime_name, arguments_copy, result_name, temp_name, temps}
use Rattle.cajita_meaning.specs.World as world
use Rattle.cajita_meaning.specs.World.{Value, Pairs, undefined, value_at, with_value, with_params}
use Rattle.heap_rows.specs.Opening.{runtime_id}
use Rattle.cajita_meaning.specs.World.{Object}
use Rattle.cajita_meaning.specs.Asking.{func_name}
use Rattle.heap_rows.specs.Opening.{first, place_of}
use Rattle.es3_language.specs.Store.{Store}
use Rattle.cajita_simulation.specs.Guest.{Names as KnownNames, is_among, is_declared, module_names, GuestName, NewFuncs, Guest}
use Rattle.cajita_simulation.proofs.Heaps.Names.{name_value-with_name, name_value-with_name-other}
use Rattle.cajita_simulation.proofs.Temporaries.{temp_hidden}
use Rattle.cajita_simulation.proofs.Relation.{EsValue, Val, Vals, OptVal, Tags, ObjectsAre, ScopeIs, optval_keep}
use Rattle.cajita_simulation.proofs.Declaring.Stores.{named_store, bound_names}
use Rattle.cajita_simulation.proofs.Declaring.Names.{declared_name, name_new, functions_bound, functions_other, pairs_other, bound_pairs, Placed}
use Rattle.cajita_simulation.proofs.Declaring.Relation.{Few, keeps_all, declared_alike, stored_out}
use Rattle.cajita_simulation.specs.Scopes.{stored_name}
use Rattle.cajita_simulation.proofs.Scopes.{stored_is}
use Rattle.es3_language.specs.Hoisting.{vars_of}
use Rattle.cajita_simulation.proofs.Written.{value_at-with_value, value_at-with_value-other}
use Rattle.cajita_simulation.proofs.Load.Names.{Module, module_body, module_vars, with_vars-unbound, copy_unknown, Declares, undefined_value, value_at-bound, value_at-unbound, own_names, own_never, vars_known, temps_known, result_known, vars_bound, hidden_there, open_there, runtime_there}
use Rattle.cajita_simulation.proofs.Load.Entering.{module_code, first_values}

-- one of so many temporaries
abbrev pub is_temp : ℕ → List ℕ → Bool
is_temp zero x = false
is_temp (suc n) x = same_units x (temp_name n) || is_temp n x

pub temp_is : (n i : ℕ) → i < n → is_temp n (temp_name i) ≡ true
temp_is zero i lt = absurd (omega (arith, lt))
temp_is (suc n) i lt = Rattle.row_simulation.proofs.Changes.by_number i n (is_temp (suc n) (temp_name i) ≡ true)
    (λ same. subst (λ k. (same_units (temp_name i) (temp_name k) || is_temp n (temp_name i)) ≡ true) same (ap (λ b. b || is_temp n (temp_name i)) (same_key-refl (temp_name i))))
    (λ other. either (same_units (temp_name i) (temp_name n)) (temp_is n i (omega (arith, lt, other))))
  where
    either : (b : Bool) {c : Bool} → c ≡ true → (b || c) ≡ true
    either true e = refl
    either false e = e

pub record IsTemp (n : ℕ) (x : List ℕ) : Type 0 where
  pub number : ℕ
  pub few : number < n
  pub is : x ≡ temp_name number

pub temp_of : (n : ℕ) (x : List ℕ) → is_temp n x ≡ true → IsTemp n x
temp_of zero x e = absurd cc
temp_of (suc n) x e =
    let cases = elim (same_units x (temp_name n)) as (λ b. same_units x (temp_name n) ≡ b → (b || is_temp n x) ≡ true → IsTemp (suc n) x) [
      | true ↦ λ same f. record { number = n; few = omega arith; is = same_text x (temp_name n) (sym same) }
      | false ↦ λ same f. let q = temp_of n x f in record { number = q.number; few = omega (arith, q.few); is = q.is }
    ] in cases refl e

-- imports by their values, one after another
abbrev pub imported : List (List ℕ) → List EsValue → Names → Names
imported [] us names = names
imported (x ∷ xs) [] names = names
imported (x ∷ xs) (e ∷ us) names = imported xs us (with_name x e names)

-- another name has what it had
imported-other : (xs : List (List ℕ)) (us : List EsValue) (names : Names) (x : List ℕ) → is_among xs x ≡ false → name_value x (imported xs us names) ≡ name_value x names
imported-other [] us names x none = refl
imported-other (y ∷ xs) [] names x none = refl
imported-other (y ∷ xs) (e ∷ us) names x none =
    let cases = elim (same_units x y) as (λ b. same_units x y ≡ b → (b || is_among xs x) ≡ false → name_value x (imported xs us (with_name y e names)) ≡ name_value x names) [
      | true ↦ λ same f. absurd cc
      | false ↦ λ same f. imported-other xs us (with_name y e names) x f ∙ name_value-with_name-other y x e names same
    ] in cases refl none

-- a name that is bound stays so
pub bound_still : (x y : List ℕ) (e : EsValue) (names : Names) → is_some (name_value x names) ≡ true → is_some (name_value x (with_name y e names)) ≡ true
bound_still x y e names there =
    let cases = elim (same_units x y) as (λ b. same_units x y ≡ b → is_some (name_value x (with_name y e names)) ≡ true) [
      | true ↦ λ same. ap is_some (ap (λ k. name_value k (with_name y e names)) (same_text x y (sym same)) ∙ name_value-with_name y e names)
      | false ↦ λ same. ap is_some (name_value-with_name-other y x e names same) ∙ there
    ] in cases refl

imported-bound : (xs : List (List ℕ)) (us : List EsValue) (names : Names) (x : List ℕ) → is_some (name_value x names) ≡ true → is_some (name_value x (imported xs us names)) ≡ true
imported-bound [] us names x there = there
imported-bound (y ∷ xs) [] names x there = there
imported-bound (y ∷ xs) (e ∷ us) names x there = imported-bound xs us (with_name y e names) x (bound_still x y e names there)

-- the names that a module may read
abbrev pub known : Module → List ℕ → Bool
known q x = module_names q.imports q.vars q.funcs x

-- the names that its function begins with, and those when the imports are read; its first function stands at this place
abbrev pub names_of : Module → ℕ → List EsValue → Names
names_of q place us = imported q.imports us (bound_names q.funcs place (first_names (module_code q) (first_values q)))

-- what the names are when the statements begin
pub record Opens (q : Module) (place : ℕ) (us : List EsValue) : Type 0 where
  pub result : name_value result_name (names_of q place us) ≡ Some es.Undefined
  pub temps : (x : List ℕ) → is_temp (temps c.stmts q.list) x ≡ true → (e : EsValue) × (name_value x (names_of q place us) ≡ Some e)
  pub runtime : name_value runtime_name (names_of q place us) ≡ Some (es.Obj runtime_id)
  pub names : (x : List ℕ) → known q x ≡ true → is_some (name_value x (names_of q place us)) ≡ true

-- no import, no variable and no function has a name of the rewriting's own
pub record GuestNames (q : Module) : Type 0 where
  pub imports : (x : List ℕ) → is_among q.imports x ≡ true → GuestName x
  pub vars : (x : List ℕ) → is_among q.vars x ≡ true → GuestName x
  pub funcs : NewFuncs q.imports q.vars q.funcs

no_import : {q : Module} → GuestNames q → (x : List ℕ) → is_hidden x ≡ true → is_among q.imports x ≡ false
no_import {q = q} guests x hidden =
    let cases = elim (is_among q.imports x) as (λ b. is_among q.imports x ≡ b → b ≡ false) [
      | true ↦ λ is. cc (sym hidden ∙ (guests.imports x is).open_name)
      | false ↦ λ is. refl
    ] in cases refl

pub no_function : {q : Module} → GuestNames q → (x : List ℕ) → is_hidden x ≡ true → is_declared q.funcs x ≡ false
no_function {q = q} guests x hidden =
    let cases = elim (is_declared q.funcs x) as (λ b. is_declared q.funcs x ≡ b → b ≡ false) [
      | true ↦ λ is. cc (sym hidden ∙ (declared_name q.imports q.vars q.funcs x guests.funcs is).guest.open_name)
      | false ↦ λ is. refl
    ] in cases refl

-- a hidden name has what it has at first
hidden_first : {q : Module} → GuestNames q → (place : ℕ) (us : List EsValue) (x : List ℕ) → is_hidden x ≡ true → name_value x (names_of q place us) ≡ name_value x (first_names (module_code q) (first_values q))
hidden_first {q = q} guests place us x hidden =
    imported-other q.imports us (bound_names q.funcs place (first_names (module_code q) (first_values q))) x (no_import guests x hidden) ∙ functions_other q.funcs place (first_names (module_code q) (first_values q)) x (no_function guests x hidden)

pub opens : (vs free : KnownNames) (q : Module) (place : ℕ) (us : List EsValue) → Guest vs free c.stmts q.list → Declares q → GuestNames q → Opens q place us
opens vs free q place us guest same guests = record {
  result = hidden_first guests place us result_name refl ∙ hidden_there q.object (module_vars q) result_name refl refl (result_known q);
  temps = λ x is. let p = temp_of (temps c.stmts q.list) x is in
      subst (λ k. (e : EsValue) × (name_value k (names_of q place us) ≡ Some e)) (sym p.is)
      (es.Undefined, hidden_first guests place us (temp_name p.number) (temp_hidden p.number) ∙ hidden_there q.object (module_vars q) (temp_name p.number) refl refl (temps_known q p.number p.few));
  runtime = hidden_first guests place us runtime_name refl ∙ runtime_there q.object (module_vars q);
  names = λ x is. imported-bound q.imports us (bound_names q.funcs place first) x (functions_bound q.funcs place first x ∙ bound x is);
}
  where
    first : Names
    first = first_names (module_code q) (first_values q)

    either : (a b : Bool) → b ≡ true → (a || b) ≡ true
    either true b e = refl
    either false b e = e

    turned : (a b : Bool) → ((false || a) || b) ≡ true → (b || a) ≡ true
    turned true true e = refl
    turned true false e = refl
    turned false true e = refl
    turned false false e = cc

    name_of : (x : List ℕ) → (is_among q.imports x || is_among q.vars x) ≡ true → GuestName x
    name_of x is =
        let cases = elim (is_among q.imports x) as (λ b. is_among q.imports x ≡ b → (b || is_among q.vars x) ≡ true → GuestName x) [
          | true ↦ λ e f. guests.imports x e
          | false ↦ λ e f. guests.vars x f
        ] in cases refl is

    bound : (x : List ℕ) → known q x ≡ true → (is_declared q.funcs x || is_some (name_value x (first_names (module_code q) (first_values q)))) ≡ true
    bound x is =
        let cases = elim (is_declared q.funcs x) as (λ b. (b || ((false || is_among q.vars x) || is_among q.imports x)) ≡ true → (b || is_some (name_value x (first_names (module_code q) (first_values q)))) ≡ true) [
          | true ↦ λ e. refl
          | false ↦ λ e.
              let among = turned (is_among q.vars x) (is_among q.imports x) e in
              let guest' = name_of x among in
              vars_bound x (module_vars q) (own_names q.object) (vars_known vs free q x guest same guest'.open_name guest'.own_name ∙ among)
        ] in cases is

-- imports and variables on both sides

-- a name has an import's value on both sides, or none on the direct one and what it had at first on the other
pub data Bound (h : Objects) (o : Option Value) (o' first : Option EsValue) : Type 0 where
  by_import : (v : Value) (e : EsValue) → o ≡ Some v → o' ≡ Some e → Val h v e → Bound h o o' first
  by_none : o ≡ None → o' ≡ first → Bound h o o' first

bound_next : (h : Objects) (y x : List ℕ) (v : Value) (e : EsValue) (pairs : Pairs) (names : Names) (first : Option EsValue) → Val h v e → Bound h (value_at x pairs) (name_value x names) first → Bound h (value_at x (with_value y v pairs)) (name_value x (with_name y e names)) first
bound_next h y x v e pairs names first is b =
    let cases = elim (same_units x y) as (λ s. same_units x y ≡ s → Bound h (value_at x (with_value y v pairs)) (name_value x (with_name y e names)) first) [
      | true ↦ λ same. subst (λ k. Bound h (value_at k (with_value y v pairs)) (name_value k (with_name y e names)) first) (sym (same_text x y (sym same))) (by_import v e (value_at-with_value y v pairs) (name_value-with_name y e names) is)
      | false ↦ λ same. rw (value_at-with_value-other y x v pairs same, name_value-with_name-other y x e names same) b
    ] in cases refl

all_bound : (h : Objects) (x : List ℕ) (first : Option EsValue) (xs : List (List ℕ)) (vs : List Value) (us : List EsValue) (pairs : Pairs) (names : Names) → Vals h vs us → Rattle.std.specs.Prelude.length vs ≡ Rattle.std.specs.Prelude.length xs → Bound h (value_at x pairs) (name_value x names) first → Bound h (value_at x (with_params xs vs pairs)) (name_value x (imported xs us names)) first
all_bound h x first [] vs us pairs names are long b = b
all_bound h x first (y ∷ xs) (v ∷ vs) (e ∷ us) pairs names are long b = all_bound h x first xs vs us (with_value y v pairs) (with_name y e names) are.1 (omega (arith, long)) (bound_next h y x v e pairs names first are.0 b)
all_bound h x first (y ∷ xs) [] us pairs names are long b = absurd (omega (arith, long))
all_bound h x first (y ∷ xs) (v ∷ vs) [] pairs names are long b = absurd are

-- a parameter has a value on the direct side

params_still : (x : List ℕ) (xs : List (List ℕ)) (us : List Value) (ps : Pairs) (w : Value) → value_at x ps ≡ Some w → (u : Value) × (value_at x (with_params xs us ps) ≡ Some u)
params_still x [] us ps w e = (w, e)
params_still x (y ∷ xs) [] ps w e =
    let cases = elim (same_units x y) as (λ b. same_units x y ≡ b → (t : Value) × (value_at x (with_params xs [] (with_value y undefined ps)) ≡ Some t)) [
      | true ↦ λ same. params_still x xs [] (with_value y undefined ps) undefined (ap (λ k. value_at k (with_value y undefined ps)) (same_text x y (sym same)) ∙ value_at-with_value y undefined ps)
      | false ↦ λ same. params_still x xs [] (with_value y undefined ps) w (value_at-with_value-other y x undefined ps same ∙ e)
    ] in cases refl
params_still x (y ∷ xs) (u ∷ us) ps w e =
    let cases = elim (same_units x y) as (λ b. same_units x y ≡ b → (t : Value) × (value_at x (with_params xs us (with_value y u ps)) ≡ Some t)) [
      | true ↦ λ same. params_still x xs us (with_value y u ps) u (ap (λ k. value_at k (with_value y u ps)) (same_text x y (sym same)) ∙ value_at-with_value y u ps)
      | false ↦ λ same. params_still x xs us (with_value y u ps) w (value_at-with_value-other y x u ps same ∙ e)
    ] in cases refl

params_bound : (x : List ℕ) (xs : List (List ℕ)) (us : List Value) (ps : Pairs) → is_among xs x ≡ true → Rattle.std.specs.Prelude.length us ≡ Rattle.std.specs.Prelude.length xs → value_at x (with_params xs us ps) ≡ None → ⊥
params_bound x [] us ps known long none = cc
params_bound x (y ∷ xs) [] ps known long none = omega (arith, long)
params_bound x (y ∷ xs) (u ∷ us) ps known long none =
    let cases = elim (same_units x y) as (λ b. same_units x y ≡ b → (b || is_among xs x) ≡ true → ⊥) [
      | true ↦ λ same f. let p = params_still x xs us (with_value y u ps) u (ap (λ k. value_at k (with_value y u ps)) (same_text x y (sym same)) ∙ value_at-with_value y u ps) in cc (sym none ∙ p.1)
      | false ↦ λ same f. params_bound x xs us (with_value y u ps) f (omega (arith, long)) none
    ] in cases refl known

both_undefined : (h : Objects) (b : Bool) → OptVal h (undefined_value undefined b) (undefined_value es.Undefined b)
both_undefined h true = tt
both_undefined h false = tt

-- each variable and each import is bound on both sides alike
pub bound_alike : (names free : KnownNames) (h : Objects) (q : Module) (vs : List Value) (us : List EsValue) → Guest names free c.stmts q.list → Declares q → GuestNames q → Vals h vs us → Rattle.std.specs.Prelude.length vs ≡ Rattle.std.specs.Prelude.length q.imports → (x : List ℕ) → is_hidden x ≡ false → OptVal h (value_at x (world.with_vars q.vars (with_params q.imports vs []))) (name_value x (imported q.imports us (first_names (module_code q) (first_values q))))
bound_alike names free h q vs us guest same guests are long x shown =
    let first = first_names (module_code q) (first_values q) in
    let b = all_bound h x (name_value x first) q.imports vs us [] first are long (by_none refl refl) in
    by_bound (value_at x (with_params q.imports vs [])) (name_value x (imported q.imports us (first_names (module_code q) (first_values q)))) refl refl b
  where
    unbound : is_among q.imports x ≡ false → name_value x (first_names (module_code q) (first_values q)) ≡ undefined_value es.Undefined (is_among q.vars x)
    unbound none =
        let cases = elim (is_arguments x) as (λ b. is_arguments x ≡ b → name_value x (first_names (module_code q) (first_values q)) ≡ undefined_value es.Undefined (is_among q.vars x)) [
          | false ↦ λ own. open_there q.object (module_vars q) x shown ∙ ap (λ b. undefined_value es.Undefined b) (vars_known names free q x guest same shown own ∙ ap (λ b. b || is_among q.vars x) none)
          | true ↦ λ own. open_there q.object (module_vars q) x shown ∙ ap (λ b. undefined_value es.Undefined b) (own_never (Rattle.es3_language.specs.Hoisting.vars_of (Rattle.cajita_simulation.proofs.Load.Names.module_body q)) x own ∙ sym (no_var own))
        ] in cases refl
      where
        no_var : is_arguments x ≡ true → is_among q.vars x ≡ false
        no_var own =
            let cases = elim (is_among q.vars x) as (λ b. is_among q.vars x ≡ b → b ≡ false) [
              | true ↦ λ is. cc (sym own ∙ (guests.vars x is).own_name)
              | false ↦ λ is. refl
            ] in cases refl

    never : is_among q.imports x ≡ true → value_at x (with_params q.imports vs []) ≡ None → ⊥
    never known none = params_bound x q.imports vs [] known long none

    by_bound : (o : Option Value) (o' : Option EsValue) → value_at x (with_params q.imports vs []) ≡ o → name_value x (imported q.imports us (first_names (module_code q) (first_values q))) ≡ o' → Bound h (value_at x (with_params q.imports vs [])) (name_value x (imported q.imports us (first_names (module_code q) (first_values q)))) (name_value x (first_names (module_code q) (first_values q))) → OptVal h (value_at x (world.with_vars q.vars (with_params q.imports vs []))) (name_value x (imported q.imports us (first_names (module_code q) (first_values q))))
    by_bound o o' eo eo' (by_import v e a b is) = rw (value_at-bound x q.vars (with_params q.imports vs []) v a, b) is
    by_bound o o' eo eo' (by_none a b) =
        let cases = elim (is_among q.imports x) as (λ k. is_among q.imports x ≡ k → OptVal h (value_at x (world.with_vars q.vars (with_params q.imports vs []))) (name_value x (imported q.imports us (first_names (module_code q) (first_values q))))) [
          | true ↦ λ known. absurd (never known a)
          | false ↦ λ none. rw (value_at-unbound x q.vars (with_params q.imports vs []) a, b, unbound none) (both_undefined h (is_among q.vars x))
        ] in cases refl

-- a name that has the same value in both has it when imports are read
imported-same : (xs : List (List ℕ)) (us : List EsValue) (a b : Names) (x : List ℕ) → name_value x a ≡ name_value x b → name_value x (imported xs us a) ≡ name_value x (imported xs us b)
imported-same [] us a b x same = same
imported-same (y ∷ xs) [] a b x same = same
imported-same (y ∷ xs) (e ∷ us) a b x same =
    imported-same xs us (with_name y e a) (with_name y e b) x
    (let cases = elim (same_units x y) as (λ t. same_units x y ≡ t → name_value x (with_name y e a) ≡ name_value x (with_name y e b)) [
      | true ↦ λ is. subst (λ k. name_value x (with_name k e a) ≡ name_value x (with_name k e b)) (same_text x y (sym is)) (name_value-with_name x e a ∙ sym (name_value-with_name x e b))
      | false ↦ λ is. name_value-with_name-other y x e a is ∙ same ∙ sym (name_value-with_name-other y x e b is)
    ] in cases refl)

-- each is where the interpreter has it
stored_alike : (names free : KnownNames) (h : Objects) (q : Module) (vs : List Value) (us : List EsValue) → Guest names free c.stmts q.list → Declares q → GuestNames q → Vals h vs us → Rattle.std.specs.Prelude.length vs ≡ Rattle.std.specs.Prelude.length q.imports → ScopeIs h (world.with_vars q.vars (with_params q.imports vs [])) (imported q.imports us (first_names (module_code q) (first_values q)))
stored_alike names free h q vs us guest same guests are long x shown =
    let first = first_names (module_code q) (first_values q) in
    let pairs = world.with_vars q.vars (with_params q.imports vs []) in
    let alike = bound_alike names free h q vs us guest same guests are long x shown in
    let cases = elim (is_arguments x) as (λ b. is_arguments x ≡ b → OptVal h (value_at x (world.with_vars q.vars (with_params q.imports vs []))) (name_value (cond b arguments_copy x) (imported q.imports us (first_names (module_code q) (first_values q))))) [
      | false ↦ λ own. alike
      | true ↦ λ own.
          let no_import_too : is_among q.imports x ≡ false = not_true (is_among q.imports x) (λ e. cc (sym own ∙ (guests.imports x e).own_name)) in
          let here : name_value x (imported q.imports us first) ≡ None = imported-other q.imports us first x no_import_too ∙ open_there q.object (module_vars q) x shown ∙ ap (λ b. undefined_value es.Undefined b) (own_never (vars_of (module_body q)) x own) in
          let no_var : is_among q.vars arguments_copy ≡ false = not_true (is_among q.vars arguments_copy) (λ e. no_open (guests.vars arguments_copy e).open_name) in
          let there : name_value arguments_copy (imported q.imports us first) ≡ None = imported-other q.imports us first arguments_copy (no_import guests arguments_copy refl) ∙ with_vars-unbound arguments_copy (module_vars q) (own_names q.object) refl ∙ ap (λ b. undefined_value es.Undefined b) (copy_unknown names free q guest same (no_import guests arguments_copy refl) no_var) in
          rw there (subst (λ o. OptVal h (value_at x pairs) o) here alike)
    ] in cases refl
  where
    no_open : is_hidden arguments_copy ≡ false → ⊥
    no_open e = cc

    not_true : (b : Bool) → (b ≡ true → ⊥) → b ≡ false
    not_true true f = absurd (f refl)
    not_true false f = refl

-- so is each function
pub module_alike : (names free : KnownNames) (q : Module) (g : Tags) (s : Store) (by : ℕ) (direct chain : List ℕ) {objects : ℕ → List Object} {m : ℕ} → by < 64 → Few q.funcs m → ObjectsAre first place_of objects s.heap m → (vs : List Value) (us : List EsValue) → Guest names free c.stmts q.list → Declares q → GuestNames q → Vals s.heap vs us → Rattle.std.specs.Prelude.length vs ≡ Rattle.std.specs.Prelude.length q.imports
    → ScopeIs (named_store q.funcs chain by s).heap (bound_pairs q.funcs direct by objects (world.with_vars q.vars (with_params q.imports vs []))) (names_of q (Rattle.std.specs.Prelude.length s.heap.list) us)
module_alike names free q g s by direct chain {objects = objects} below few old vs us guest same guests are long x shown =
    let place = Rattle.std.specs.Prelude.length s.heap.list in
    let pairs = world.with_vars q.vars (with_params q.imports vs []) in
    let firsts = first_names (module_code q) (first_values q) in
    let h = (named_store q.funcs chain by s).heap in
    let cases = elim (is_declared q.funcs x) as (λ b. is_declared q.funcs x ≡ b → OptVal h (value_at x (bound_pairs q.funcs direct by objects pairs)) (name_value (stored_name x) (names_of q place us))) [
      | true ↦ λ is.
          let new = declared_name q.imports q.vars q.funcs x guests.funcs is in
          subst (λ k. OptVal h (value_at x (bound_pairs q.funcs direct by objects pairs)) (name_value k (names_of q place us))) (sym (stored_is x new.guest))
          (rw (imported-other q.imports us (bound_names q.funcs place firsts) x new.no_param) (declared_alike q.funcs g s by direct chain below few old x is pairs firsts))
      | false ↦ λ out.
          let out' = stored_out q.imports q.vars q.funcs x guests.funcs out in
          rw (pairs_other q.funcs direct by objects pairs x out, imported-same q.imports us (bound_names q.funcs place firsts) firsts (stored_name x) (functions_other q.funcs place firsts (stored_name x) out'))
          (optval_keep {i = 0} {j = 0} (record { objects = keeps_all q.funcs g s by direct chain below few old; more = omega arith }) _ _ (stored_alike names free s.heap q vs us guest same guests are long x shown))
    ] in cases refl

-- each function's name is that of its place, when imports are read
pub module_placed : (xs vars : List (List ℕ)) (fs : c.Tree c.funcs) (place : ℕ) (us : List EsValue) (names : Names) → NewFuncs xs vars fs → Placed fs place names → Placed fs place (imported xs us names)
module_placed xs vars c.no_funcs place us names new p = tt
module_placed xs vars (c.more_funcs f fs) place us names new p =
    let n = name_new xs vars f fs new.0 in
    (imported-other xs us names (func_name f) n.1 ∙ p.0, module_placed xs vars fs (suc (suc place)) us names new.1 p.1)
