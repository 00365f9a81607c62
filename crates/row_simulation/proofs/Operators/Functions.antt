-- A value that corresponds to one of a world may be called where its class is that of functions.
use Rattle.std.proofs.Common.{◌≡◌, ℕ, zero, suc, Bool, true, List, Option, Some, None, refl}
use Rattle.std.specs.Prelude.{is_some}
use Rattle.es3_heap.specs.Objects as heap
use Rattle.es3_heap.specs.Objects.{Callable, Objects}
use Rattle.es3_heap.specs.Properties.{find}
use Rattle.es3_objects.specs.declared.value.Value.TheVariants as es
use Rattle.rows.specs.Rows as r
use Rattle.cajita_meaning.specs.World.{Name, made_name, cell_name, own_name, built_name, tools_name, facet_name, forward_name, Value, undefined, null, truth, number, text, object, Pairs, Object, a_record, an_array, a_closure, an_error}
use Rattle.heap_rows.specs.Marks.{simple_mark}
use Rattle.heap_rows.specs.Doing.{sort_seen}
use Rattle.row_simulation.specs.OperatorLaw.{is_function, IsTyped}
use Rattle.row_simulation.proofs.Relation.{EsValue, Val, IsRecord, IsFunction, Is, IsNamed, ObjectsAre}

abbrev IsWhole : heap.Object → Type 0
IsWhole o = is_some o.callable ≡ is_function o.class

callable_there : (simple : Bool) (c : Option Callable) (sort : r.Sort) → sort_seen simple c ≡ r.a_function sort → is_some c ≡ true
callable_there simple None sort e = cc
callable_there simple (Some c) sort e = refl

function_whole : (sort : r.Sort) (o : heap.Object) → IsFunction sort o → IsWhole o
function_whole sort o is = rw is.class (callable_there (is_some (find simple_mark o.props)) o.callable sort is.kind)

record_whole : (h : Objects) (frozen : Bool) (ps : Pairs) (o : heap.Object) → IsRecord h frozen ps o → IsWhole o
record_whole h frozen ps o is = rw (is.class, is.no_call) refl

object_whole : (h : Objects) (a : Object) (o : heap.Object) → Is h a o → IsWhole o
object_whole h (a_record frozen ps) o is = record_whole h frozen ps o is
object_whole h (an_array frozen vs) o is = rw (is.class, is.no_call) refl
object_whole h (a_closure f chain) o is = function_whole r.closure o is
object_whole h (an_error maker message) o is = rw (is.class, is.no_call) refl

named_whole : (objects : ℕ → List Object) (h : Objects) (n : Name) (o : heap.Object) → IsNamed objects h n o → IsWhole o
named_whole objects h (made_name a b) o is = object_whole h is.object o is.is
named_whole objects h (cell_name a zero) o is = record_whole h true _ o is
named_whole objects h (cell_name a (suc b)) o is = function_whole r.simple o is.1.is
named_whole objects h (own_name a b) o is = function_whole r.simple o is.1.is
named_whole objects h (built_name f) o is = function_whole _ o is.1.is
named_whole objects h (tools_name t) o is = record_whole h true _ o is
named_whole objects h (facet_name root k) o is = rw is refl
named_whole objects h (forward_name a b d e) o is = absurd is

pub typed : (first : Objects) (places : r.Native → ℕ) (objects : ℕ → List Object) (h : Objects) (m : ℕ) → ObjectsAre first places objects h m → (v : Value) (e : EsValue) → Val h v e → IsTyped h e
typed first places objects h m o undefined es.Undefined p = tt
typed first places objects h m o null es.Null p = tt
typed first places objects h m o (truth a) (es.Bool b) p = tt
typed first places objects h m o (number a) (es.Num b) p = tt
typed first places objects h m o (text a) (es.Text b) p = tt
typed first places objects h m o (object n) (es.Obj i) p = let s = o.each n i p in rw s.there (named_whole objects h n s.stored s.is)
typed first places objects h m o _ _ p = absurd p
