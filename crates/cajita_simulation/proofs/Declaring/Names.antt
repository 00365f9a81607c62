-- The names of the functions that a body declares, on both sides.
use Rattle.std.proofs.Common.{◌≡◌, ℕ, suc, Bool, true, false, List, [], ◌∷◌, ◌++◌, length, Some, None, cond, refl, sym, ap, ◌∙◌, subst, arith}
use Rattle.std.specs.Prelude.{is_some, nat_eq, slice_get, slice_set, ◌||◌}
use Rattle.std.specs.Cmp.Lexicographic.{same_text}
use Rattle.std.proofs.Math.Path.{fun_ext}
use Rattle.std.proofs.Math.Seq.{set-append_seam}
use Rattle.std.proofs.lemmas.Bool.Decides.{nat_tests}
use Rattle.caja_units.specs.Units.{same_units}
use Rattle.es3_objects.specs.declared.value.Value.TheVariants as es
use Rattle.es3_language.specs.Store.{Names, name_value, with_name}
use Rattle.cajita_tree.specs.Tree as c
use Rattle.cajita_meaning.specs.Asking.{func_name}
use Rattle.cajita_meaning.specs.World as World
use Rattle.cajita_meaning.specs.World.{Pairs, Object, a_closure, made_name, value_at, with_value, with_last, next_scope, scope_at, declare, World as State}
use Rattle.cajita_simulation.specs.Guest.{is_among, is_declared, GuestName, NewFunc, NewFuncs}
use Rattle.cajita_simulation.proofs.Heaps.Lists.{slice_get-push}
use Rattle.cajita_simulation.proofs.Heaps.Names.{name_value-with_name, name_value-with_name-other}
use Rattle.cajita_simulation.proofs.Written.{value_at-with_value-other, same_place}
use Rattle.cajita_simulation.proofs.Declaring.Stores.{bound_names}

-- what is known of their names

pub left_none : (a b : Bool) → (a || b) ≡ false → (a ≡ false) × (b ≡ false)
left_none true b e = cc
left_none false b e = (refl, e)

pub name_new : (params names : List (List ℕ)) (f : c.Tree c.func) (fs : c.Tree c.funcs) → NewFunc params names f fs → GuestName (func_name f) × (is_among params (func_name f) ≡ false) × (is_among names (func_name f) ≡ false) × (is_declared fs (func_name f) ≡ false)
name_new params names (c.fun None ps args body) fs new = absurd new
name_new params names (c.fun (Some x) ps args body) fs new = new

pub record NewName (params names : List (List ℕ)) (x : List ℕ) : Type 0 where
  pub guest : GuestName x
  pub no_param : is_among params x ≡ false
  pub no_name : is_among names x ≡ false

pub declared_name : (params names : List (List ℕ)) (fs : c.Tree c.funcs) (x : List ℕ) → NewFuncs params names fs → is_declared fs x ≡ true → NewName params names x
declared_name params names c.no_funcs x new e = cc
declared_name params names (c.more_funcs f fs) x new e =
    let cases = elim (same_units x (func_name f)) as (λ b. same_units x (func_name f) ≡ b → (b || is_declared fs x) ≡ true → NewName params names x) [
      | true ↦ λ same e.
          let p = name_new params names f fs new.0 in
          subst (λ q. NewName params names q) (sym (same_text x (func_name f) (sym same))) (record { guest = p.0; no_param = p.1; no_name = p.2 })
      | false ↦ λ other e. declared_name params names fs x new.1 e
    ] in cases refl e

-- in the interpreter

or_swap : (a b d : Bool) → (a || (b || d)) ≡ ((b || a) || d)
or_swap true true d = refl
or_swap true false d = refl
or_swap false true d = refl
or_swap false false d = refl

pub name_bound : (x y : List ℕ) (v : Rattle.es3_objects.specs.declared.value.Value.Value) (names : Names) → is_some (name_value x (with_name y v names)) ≡ (same_units x y || is_some (name_value x names))
name_bound x y v names =
    let cases = elim (same_units x y) as (λ b. same_units x y ≡ b → is_some (name_value x (with_name y v names)) ≡ (b || is_some (name_value x names))) [
      | true ↦ λ same. subst (λ q. is_some (name_value x (with_name q v names)) ≡ true) (same_text x y (sym same)) (ap is_some (name_value-with_name x v names))
      | false ↦ λ other. ap is_some (name_value-with_name-other y x v names other)
    ] in cases refl

pub functions_bound : (fs : c.Tree c.funcs) (place : ℕ) (names : Names) (x : List ℕ) → is_some (name_value x (bound_names fs place names)) ≡ (is_declared fs x || is_some (name_value x names))
functions_bound c.no_funcs place names x = refl
functions_bound (c.more_funcs f fs) place names x =
    functions_bound fs (suc (suc place)) (with_name (func_name f) (es.Obj place) names) x
    ∙ ap (λ b. is_declared fs x || b) (name_bound x (func_name f) (es.Obj place) names)
    ∙ or_swap (is_declared fs x) (same_units x (func_name f)) (is_some (name_value x names))

pub functions_other : (fs : c.Tree c.funcs) (place : ℕ) (names : Names) (x : List ℕ) → is_declared fs x ≡ false → name_value x (bound_names fs place names) ≡ name_value x names
functions_other c.no_funcs place names x out = refl
functions_other (c.more_funcs f fs) place names x out =
    let parts = left_none (same_units x (func_name f)) (is_declared fs x) out in
    functions_other fs (suc (suc place)) (with_name (func_name f) (es.Obj place) names) x parts.1 ∙ name_value-with_name-other (func_name f) x (es.Obj place) names parts.0

-- each name is that of its function's place
abbrev pub Placed : c.Tree c.funcs → ℕ → Names → Type 0
Placed c.no_funcs place names = Unit {0}
Placed (c.more_funcs f fs) place names = (name_value (func_name f) names ≡ Some (es.Obj place)) × Placed fs (suc (suc place)) names

pub placed : (params vars : List (List ℕ)) (fs : c.Tree c.funcs) (place : ℕ) (names : Names) → NewFuncs params vars fs → Placed fs place (bound_names fs place names)
placed params vars c.no_funcs place names new = tt
placed params vars (c.more_funcs f fs) place names new =
    let p = name_new params vars f fs new.0 in
    (functions_other fs (suc (suc place)) (with_name (func_name f) (es.Obj place) names) (func_name f) p.3 ∙ name_value-with_name (func_name f) (es.Obj place) names, placed params vars fs (suc (suc place)) (with_name (func_name f) (es.Obj place) names) new.1)

-- in the world: each function's name has the closure, whose name is the module's next one

abbrev pub all_objects : c.Tree c.funcs → List ℕ → ℕ → (ℕ → List Object) → ℕ → List Object
all_objects c.no_funcs chain by objects = objects
all_objects (c.more_funcs f fs) chain by objects = all_objects fs chain by (with_last by (a_closure f chain) objects)

abbrev pub bound_pairs : c.Tree c.funcs → List ℕ → ℕ → (ℕ → List Object) → Pairs → Pairs
bound_pairs c.no_funcs chain by objects pairs = pairs
bound_pairs (c.more_funcs f fs) chain by objects pairs = bound_pairs fs chain by (with_last by (a_closure f chain) objects) (with_value (func_name f) (World.object (made_name by (length (objects by)))) pairs)

pub pairs_other : (fs : c.Tree c.funcs) (chain : List ℕ) (by : ℕ) (objects : ℕ → List Object) (pairs : Pairs) (x : List ℕ) → is_declared fs x ≡ false → value_at x (bound_pairs fs chain by objects pairs) ≡ value_at x pairs
pairs_other c.no_funcs chain by objects pairs x out = refl
pairs_other (c.more_funcs f fs) chain by objects pairs x out =
    let parts = left_none (same_units x (func_name f)) (is_declared fs x) out in
    let v = World.object (made_name by (length (objects by))) in
    pairs_other fs chain by (with_last by (a_closure f chain) objects) (with_value (func_name f) v pairs) x parts.1 ∙ value_at-with_value-other (func_name f) x v pairs parts.0

-- the world with the closures; and where they were made one after another, each then bound in the scope of a number
abbrev pub objects_world : c.Tree c.funcs → List ℕ → ℕ → State → State
objects_world fs chain by w = record { objects = all_objects fs chain by w.objects; scopes = w.scopes; cells = w.cells; queues = w.queues; revoked = w.revoked; nodes = w.nodes; handlers = w.handlers }

abbrev pub declared_world : c.Tree c.funcs → ℕ → List ℕ → ℕ → State → State
declared_world c.no_funcs n chain by w = w
declared_world (c.more_funcs f fs) n chain by w = declared_world fs n chain by (declare by n (func_name f) (World.object (World.next_name by w)) (World.with_object by (a_closure f chain) w))

same_self : (n : ℕ) → nat_eq n n ≡ true
same_self n = grind (arith, nat_tests)

-- a name of the last scope takes a value
pub scope_declared : (by : ℕ) (x : List ℕ) (v : World.Value) (p : Pairs) (scopes : ℕ → List Pairs) → let longer = with_last by p scopes in World.with_list by (slice_set (longer by) (length (scopes by)) (with_value x v (scope_at (slice_get (longer by) (length (scopes by)))))) longer ≡ with_last by (with_value x v p) scopes
scope_declared by x v p scopes = fun_ext (λ k.
    let q = with_value x v p in
    let there : with_last by p scopes by ≡ scopes by ++ p ∷ [] = ap (λ b. cond b (scopes by ++ p ∷ []) (scopes by)) (same_self by) in
    let changed : slice_set (with_last by p scopes by) (length (scopes by)) (with_value x v (scope_at (slice_get (with_last by p scopes by) (length (scopes by))))) ≡ scopes by ++ q ∷ [] =
    ap (λ l. slice_set l (length (scopes by)) (with_value x v (scope_at (slice_get l (length (scopes by)))))) there ∙ ap (λ o. slice_set (scopes by ++ p ∷ []) (length (scopes by)) (with_value x v (scope_at o))) (slice_get-push (scopes by) p) ∙ set-append_seam (scopes by) p [] q in
    let cases = elim (nat_eq k by) as (λ b. nat_eq k by ≡ b → cond b (slice_set (with_last by p scopes by) (length (scopes by)) (with_value x v (scope_at (slice_get (with_last by p scopes by) (length (scopes by)))))) (cond b (scopes k ++ p ∷ []) (scopes k)) ≡ cond b (scopes k ++ q ∷ []) (scopes k)) [
      | true ↦ λ same. changed ∙ ap (λ j. scopes j ++ q ∷ []) (sym (same_place k by same))
      | false ↦ λ other. refl
    ] in cases refl)

pub world_is : (fs : c.Tree c.funcs) (chain : List ℕ) (by : ℕ) (p : Pairs) (w : State) → declared_world fs (next_scope by w) chain by (World.with_scope by p w) ≡ World.with_scope by (bound_pairs fs chain by w.objects p) (objects_world fs chain by w)
world_is c.no_funcs chain by p w = refl
world_is (c.more_funcs f fs) chain by p w =
    let v = World.object (World.next_name by w) in
    let made = World.with_object by (a_closure f chain) w in
    ap (λ scopes. declared_world fs (next_scope by w) chain by (record { objects = made.objects; scopes = scopes; cells = w.cells; queues = w.queues; revoked = w.revoked; nodes = w.nodes; handlers = w.handlers })) (scope_declared by (func_name f) v p w.scopes)
    ∙ world_is fs chain by (with_value (func_name f) v p) made
