-- What is seen of a value: of an object enough for each operator, and of all else the value itself.
use Rattle.std.proofs.Common.{◌≡◌, ℕ, Bool, true, false, Option, Some, None, refl}
use Rattle.std.specs.Prelude.{is_some}
use Rattle.es3_objects.specs.declared.value.Value.TheVariants as es
use Rattle.es3_objects.specs.declared.value.Class.{Class}
use Rattle.es3_objects.specs.declared.value.Class.TheVariants as class
use Rattle.es3_objects.specs.declared.value.FuncKind.{FuncKind}
use Rattle.es3_objects.specs.declared.value.FuncKind.TheVariants as kind
use Rattle.es3_heap.specs.Objects.{Callable, Objects, object_at, class_of, callable_of}
use Rattle.es3_heap.specs.Properties.{own}
use Rattle.rows.specs.Rows as r
use Rattle.rows.specs.Rows.{Handle, Sight, Row}
use Rattle.rows.specs.Core.{seen_true}
use Rattle.rows.specs.Guards.{is_textual}
use Rattle.rows.specs.Operators.{is_object, is_nothing, counted}
use Rattle.heap_rows.specs.Marks.{simple_mark}
use Rattle.heap_rows.specs.Doing as es3
use Rattle.heap_rows.specs.Doing.{sort_seen}
use Rattle.row_simulation.proofs.Relation.{EsValue}

-- an object is seen as one, whatever its class

kind_seen : (simple : Bool) (c : Callable) (k : FuncKind) → c.kind ≡ k → is_object (sort_seen simple (Some c)) ≡ true
kind_seen true c (kind.Code n) e = rw e refl
kind_seen false c (kind.Code n) e = rw e refl
kind_seen simple c (kind.Simple n) e = rw e refl
kind_seen simple c (kind.Constructor n) e = rw e refl
kind_seen simple c (kind.Exophoric n w) e = rw e refl

sort_object : (simple : Bool) (c : Option Callable) → is_object (sort_seen simple c) ≡ true
sort_object simple None = refl
sort_object simple (Some c) = kind_seen simple c c.kind refl

class_object : (n : ℕ) (h : Objects) (o : ℕ) (c : Class) → is_object (es3.see_object n h o c).sight ≡ true
class_object n h o class.Object = refl
class_object n h o class.Array = refl
class_object n h o class.Function = sort_object (is_some (own h o simple_mark)) (callable_of (object_at h o))
class_object n h o class.Error = refl
class_object n h o class.Node = refl

pub object_seen : (h : Objects) (n o : ℕ) → is_object (es3.see h n (es.Obj o)).sight ≡ true
object_seen h n o = class_object n h o (class_of (object_at h o))

-- and so it has a text, is not nothing, counts as true, and as itself

textual_object : (s : Sight) → is_object s ≡ true → is_textual s ≡ true
textual_object r.nothing e = cc
textual_object r.a_null e = cc
textual_object (r.a_truth b) e = cc
textual_object (r.a_number n) e = cc
textual_object (r.a_text us) e = cc
textual_object s e = refl

pub object_textual : (h : Objects) (n o : ℕ) → is_textual (es3.see h n (es.Obj o)).sight ≡ true
object_textual h n o = textual_object (es3.see h n (es.Obj o)).sight (object_seen h n o)

pub object_something : (s : Sight) → is_object s ≡ true → is_nothing s ≡ false
object_something r.nothing e = cc
object_something r.a_null e = cc
object_something s e = refl

pub object_true : (s : Sight) → is_object s ≡ true → seen_true s ≡ true
object_true r.nothing e = cc
object_true r.a_null e = cc
object_true (r.a_truth b) e = cc
object_true (r.a_number n) e = cc
object_true (r.a_text us) e = cc
object_true s e = refl

pub object_counted : (x : Handle) (s : Sight) (go : Handle → Sight → Row) → is_object s ≡ true → counted x s go ≡ go x s
object_counted x (r.a_truth b) go e = cc
object_counted x s go e = refl

-- a value that is no object, and what is seen of it

abbrev pub IsPrimitive : EsValue → Type 0
IsPrimitive (es.Obj o) = ⊥
IsPrimitive x = Unit {0}

abbrev pub primitive_sight : EsValue → Sight
primitive_sight es.Null = r.a_null
primitive_sight (es.Bool b) = r.a_truth b
primitive_sight (es.Num n) = r.a_number n
primitive_sight (es.Text us) = r.a_text us
primitive_sight x = r.nothing
