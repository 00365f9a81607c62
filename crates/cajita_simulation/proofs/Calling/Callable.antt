-- What a plain call may call: asSimpleFunc answers nothing else, and it stays so.
use Rattle.std.proofs.Common.{◌≡◌, ℕ, zero, suc, true, List, [], ◌∷◌, Option, Some, None, refl}
use Rattle.std.specs.Prelude.{slice_get}
use Rattle.es3_language.specs.Store.{Store}
use Rattle.rows.specs.Rows as r
use Rattle.rows.specs.Rows.{Native, Sight, held}
use Rattle.rows.specs.Guards as guards
use Rattle.cajita_tree.specs.Tree as c
use Rattle.cajita_meaning.specs.World as World
use Rattle.cajita_meaning.specs.World.{Name, made_name, cell_name, own_name, built_name, tools_name, facet_name, forward_name, Value, object, Object, a_record, an_array, a_closure, an_error, World as State}
use Rattle.cajita_meaning.specs.Doing as direct
use Rattle.cajita_meaning.specs.Asking.{native_at}
use Rattle.cajita_meaning.specs.Direct.{Item}
use Rattle.cajita_simulation.proofs.Relation.{Tags, Stays}
use Rattle.cajita_simulation.proofs.Rows.{IsPlain, EndsPlainly, GivesOnly}

-- a closure, or a function that no module made
abbrev pub IsFunctionName : State → Name → Type 0
IsFunctionName w (made_name m n) = (f : c.Tree c.func) × (chain : List ℕ) × (slice_get (w.objects m) n ≡ Some (a_closure f chain))
IsFunctionName w n = (f : Native) × (native_at n ≡ Some f)

abbrev pub IsCallable : State → Value → Type 0
IsCallable w (object n) = IsFunctionName w n
IsCallable w v = ⊥

-- a function is seen so

abbrev pub IsFunctionSight : Sight → Type 0
IsFunctionSight (r.a_function sort) = Unit {0}
IsFunctionSight (r.a_stranger true) = Unit {0}
IsFunctionSight s = ⊥

closure_seen : (n : ℕ) (o : Option Object) → IsFunctionSight (direct.see_made n o).sight → (f : c.Tree c.func) × (chain : List ℕ) × (o ≡ Some (a_closure f chain))
closure_seen n None is = absurd is
closure_seen n (Some (a_record frozen ps)) is = absurd is
closure_seen n (Some (an_array frozen vs)) is = absurd is
closure_seen n (Some (a_closure f chain)) is = (f, chain, refl)
closure_seen n (Some (an_error maker message)) is = absurd is

name_seen : (w : State) (n : ℕ) (o : Name) → IsFunctionSight (direct.see_object w n o).sight → IsFunctionName w o
name_seen w n (made_name m i) is = closure_seen n (slice_get (w.objects m) i) is
name_seen w n (built_name f) is = (f, refl)
name_seen w n (tools_name t) is = absurd is
name_seen w n (facet_name root k) is = absurd is
name_seen w n (own_name m zero) is = (r.say, refl)
name_seen w n (own_name m (suc i)) is = (r.later, refl)
name_seen w n (cell_name k zero) is = absurd is
name_seen w n (cell_name k (suc zero)) is = (r.get, refl)
name_seen w n (cell_name k (suc (suc i))) is = (r.set, refl)
name_seen w n (forward_name m p k zero) is = absurd is
name_seen w n (forward_name m p k (suc zero)) is = (r.forward_get, refl)
name_seen w n (forward_name m p k (suc (suc i))) is = (r.forward_set, refl)

pub callable_seen : (w : State) (n : ℕ) (v : Value) → IsFunctionSight (direct.see w n v).sight → IsCallable w v
callable_seen w n World.undefined is = absurd is
callable_seen w n World.null is = absurd is
callable_seen w n (World.truth b) is = absurd is
callable_seen w n (World.number i) is = absurd is
callable_seen w n (World.text us) is = absurd is
callable_seen w n (object o) is = name_seen w n o is

-- the row of asSimpleFunc

simple_ends : (s : Sight) → EndsPlainly (guards.simple_end (held 0) s)
simple_ends (r.a_function (r.exophoric q)) = tt
simple_ends (r.a_function sort) = tt
simple_ends s = tt

pub simple_plain : IsPlain guards.as_simple_func
simple_plain = λ s. simple_ends s

answered_function : (by : ℕ) (w : State) (z : List Item) (v : Value) (vs : List Value) (ways : List (List Name)) (s : Sight) (P : Value → Type 0) → (IsFunctionSight s → P v) → GivesOnly P (direct.finish by (guards.simple_end (held 0) s) (record { values = v ∷ vs; ways = ways }) w z).outcome
answered_function by w z v vs ways (r.a_function (r.exophoric q)) P f = tt
answered_function by w z v vs ways (r.a_function sort) P f = f tt
answered_function by w z v vs ways s P f = tt

pub simple_gives : (by : ℕ) (w : State) (v : Value) → GivesOnly (IsCallable w) (direct.does by guards.as_simple_func (direct.given (v ∷ [])) w []).outcome
simple_gives by w v = answered_function by w [] v _ _ (direct.see w 1 v).sight (IsCallable w) (callable_seen w 1 v)

-- it stays so

name_stays : {w w' : State} {g g' : Tags} {s s' : Store} {i j : ℕ} (n : Name) → Stays w g s i w' g' s' j → IsFunctionName w n → IsFunctionName w' n
name_stays (made_name m n) k is = (is.0, is.1, k.closed.closures m n is.0 is.1 is.2)
name_stays (built_name f) k is = is
name_stays (tools_name t) k is = is
name_stays (facet_name root i) k is = is
name_stays (own_name m i) k is = is
name_stays (cell_name c i) k is = is
name_stays (forward_name m p c i) k is = is

pub callable_stays : {w w' : State} {g g' : Tags} {s s' : Store} {i j : ℕ} (v : Value) → Stays w g s i w' g' s' j → IsCallable w v → IsCallable w' v
callable_stays (object n) k is = name_stays n k is
callable_stays v k is = absurd is
