-- The guards of the runtime's object: what a call of one of them comes to.
use Rattle.std.proofs.Common.{◌≡◌, ℕ, ◌<◌, Bool, true, false, List, Some, cond, refl, lit<}
use Rattle.std.specs.Prelude.{codes}
use Rattle.plans.specs.Plans.{enter, ends}
use Rattle.caja_units.specs.Units.{is_hidden}
use Rattle.es3_objects.specs.declared.value.Value.{Value}
use Rattle.es3_objects.specs.declared.value.Value.TheVariants.{Obj}
use Rattle.es3_objects.specs.declared.value.FuncKind.TheVariants.{Simple}
use Rattle.es3_objects.specs.declared.value.Tag.TheVariants as tag
use Rattle.es3_heap.specs.Objects.{Objects, hidden_attrs, object_at, callable_of, tag_of}
use Rattle.es3_heap.specs.Properties.{own}
use Rattle.es3_objects.specs.Reading.{property}
use Rattle.es3_language.specs.Store.{Store}
use Rattle.es3_language.specs.References.{member, get_member}
use Rattle.es3_language.specs.Meaning.{Env, Plan, native_call, called, do_call}
use Rattle.heap_rows.specs.Opening.{first, first_count, runtime_id}
use Rattle.cajita_simulation.proofs.Heaps.Opened.{IsOpened, get_first}

-- a member of the runtime's object is the function of a row of the guards, which has no name in the log
pub record IsGuard (guard : List ℕ) (row : ℕ) : Type 0 where
  pub object : ℕ
  pub within : object < first_count
  pub member : own first runtime_id guard ≡ Some (property guard (Obj object) hidden_attrs)
  pub callable : callable_of (object_at first object) ≡ Some (record { kind = Simple row; maker = 0 })
  pub unnamed : tag_of (object_at first object) ≡ tag.None

-- where each stands, and its number

pub load_module-guard : IsGuard (codes "loadModule") 64
unfolding first
load_module-guard = record { object = 12; within = lit< tt; member = refl; callable = refl; unnamed = refl }

pub read_import-guard : IsGuard (codes "readImport") 65
unfolding first
read_import-guard = record { object = 13; within = lit< tt; member = refl; callable = refl; unnamed = refl }

pub func-guard : IsGuard (codes "func") 66
unfolding first
func-guard = record { object = 14; within = lit< tt; member = refl; callable = refl; unnamed = refl }

pub args-guard : IsGuard (codes "args") 67
unfolding first
args-guard = record { object = 15; within = lit< tt; member = refl; callable = refl; unnamed = refl }

pub initialize_array-guard : IsGuard (codes "initializeArray") 68
unfolding first
initialize_array-guard = record { object = 16; within = lit< tt; member = refl; callable = refl; unnamed = refl }

pub initialize_map-guard : IsGuard (codes "initializeMap") 69
unfolding first
initialize_map-guard = record { object = 17; within = lit< tt; member = refl; callable = refl; unnamed = refl }

pub key-guard : IsGuard (codes "key") 70
unfolding first
key-guard = record { object = 18; within = lit< tt; member = refl; callable = refl; unnamed = refl }

pub read_pub-guard : IsGuard (codes "readPub") 71
unfolding first
read_pub-guard = record { object = 19; within = lit< tt; member = refl; callable = refl; unnamed = refl }

pub set_pub-guard : IsGuard (codes "setPub") 72
unfolding first
set_pub-guard = record { object = 20; within = lit< tt; member = refl; callable = refl; unnamed = refl }

pub delete_pub-guard : IsGuard (codes "deletePub") 73
unfolding first
delete_pub-guard = record { object = 21; within = lit< tt; member = refl; callable = refl; unnamed = refl }

pub in_pub-guard : IsGuard (codes "inPub") 74
unfolding first
in_pub-guard = record { object = 22; within = lit< tt; member = refl; callable = refl; unnamed = refl }

pub keys_pub-guard : IsGuard (codes "keysPub") 75
unfolding first
keys_pub-guard = record { object = 23; within = lit< tt; member = refl; callable = refl; unnamed = refl }

pub call_pub-guard : IsGuard (codes "callPub") 76
unfolding first
call_pub-guard = record { object = 24; within = lit< tt; member = refl; callable = refl; unnamed = refl }

pub as_simple_func-guard : IsGuard (codes "asSimpleFunc") 77
unfolding first
as_simple_func-guard = record { object = 25; within = lit< tt; member = refl; callable = refl; unnamed = refl }

pub construct-guard : IsGuard (codes "construct") 78
unfolding first
construct-guard = record { object = 26; within = lit< tt; member = refl; callable = refl; unnamed = refl }

pub instance_of-guard : IsGuard (codes "instanceOf") 79
unfolding first
instance_of-guard = record { object = 27; within = lit< tt; member = refl; callable = refl; unnamed = refl }

runtime_unnamed : tag_of (object_at first runtime_id) ≡ tag.None
unfolding first
runtime_unnamed = refl

-- the runtime's object has no name in the log
pub runtime_tag : (h : Objects) → IsOpened h → tag_of (object_at h runtime_id) ≡ tag.None
runtime_tag h is = rw (is.first runtime_id (lit< tt)) runtime_unnamed

-- the guard is read
pub guard_member : (guard : List ℕ) (row : ℕ) (g : IsGuard guard row) (h : Objects) → IsOpened h → get_member h (Obj runtime_id) guard ≡ Obj g.object
guard_member guard row g h is = get_first h runtime_id guard _ is (lit< tt) g.member

pub guard_callable : (guard : List ℕ) (row : ℕ) (g : IsGuard guard row) (h : Objects) → IsOpened h → callable_of (object_at h g.object) ≡ Some (record { kind = Simple row; maker = 0 })
guard_callable guard row g h is = rw (is.first g.object g.within) g.callable

pub guard_tag : (guard : List ℕ) (row : ℕ) (g : IsGuard guard row) (h : Objects) → IsOpened h → tag_of (object_at h g.object) ≡ tag.None
guard_tag guard row g h is = rw (is.first g.object g.within) g.unnamed

either_way : {X : Type 0} (b : Bool) (x : X) → cond b x x ≡ x
either_way true x = refl
either_way false x = refl

-- 11.2.3: a call of the guard enters it, with the runtime's object as its receiver, and nothing is recorded
pub guard_call : (guard : List ℕ) (row : ℕ) → IsGuard guard row → (vs : List Value) (env : Env) (s : Store) → IsOpened s.heap → do_call (called (member (Obj runtime_id) guard)) vs env s ≡ enter (native_call row (Obj runtime_id) vs env) s ends
guard_call guard row g vs env s is =
    let entered : Plan = enter (native_call row (Obj runtime_id) vs env) s ends in
    rw (guard_member guard row g s.heap is, runtime_tag s.heap is, guard_callable guard row g s.heap is, guard_tag guard row g s.heap is) (either_way (is_hidden guard) entered)
