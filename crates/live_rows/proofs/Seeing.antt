-- What is seen of a value among closed objects: the values in it are live.
use Rattle.std.proofs.Common.{ℕ, ◌+◌, Bool, true, false, List, [], ◌∷◌, Option, Some, None, All, length, cond}
use Rattle.std.specs.Prelude.{is_some}
use Rattle.std.proofs.lemmas.List.Elements.{All-nil, All-cons, All-head, All-tail, All-map}
use Rattle.caja_units.specs.Units.{is_hidden}
use Rattle.es3_objects.specs.declared.value.Value.{Value}
use Rattle.es3_objects.specs.declared.value.Value.TheVariants as v
use Rattle.es3_objects.specs.declared.value.Class.{Class}
use Rattle.es3_objects.specs.declared.value.Class.TheVariants as class
use Rattle.es3_objects.specs.declared.value.FuncKind.{FuncKind}
use Rattle.es3_objects.specs.declared.value.FuncKind.TheVariants as kind
use Rattle.es3_heap.specs.Objects.{Property, Callable, Objects, object_at, props_of, class_of, callable_of}
use Rattle.es3_heap.specs.Properties.{own}
use Rattle.es3_convert.specs.Conversions.{array_items}
use Rattle.es3_live.specs.Live.{IsLive, AreClosed}
use Rattle.es3_live.proofs.Reading.{LiveProps, object_holds, props_live, array_items_live}
use Rattle.rows.specs.Rows as r
use Rattle.rows.specs.Rows.{Handle, handles, keyed_handles}
use Rattle.heap_rows.specs.Marks.{simple_mark}
use Rattle.heap_rows.specs.Doing.{Seen, only, guests, sort_seen, see_object, see}
use Rattle.live_rows.specs.Named.{IsHeld, IsSeen}

-- the properties that modules see

abbrev pub Pair : Type 0
Pair = List ℕ × Value

abbrev pub LivePairs : ℕ → List Pair → Type 0
LivePairs n ps = All (λ (p : Pair). IsLive n p.1) ps

guests_live : (n : ℕ) (ps : List Property) → LiveProps n ps → LivePairs n (guests ps)
guests_live n [] live = All-nil (λ (p : Pair). IsLive n p.1)
guests_live n (p ∷ ps) live =
    let rest = guests_live n ps (All-tail (λ (q : Property). IsLive n q.value) p ps live) in
    elim (is_hidden p.key) as (λ b. LivePairs n (cond b (guests ps) ((p.key, p.value) ∷ guests ps))) [
      | true ↦ rest
      | false ↦ All-cons (λ (q : Pair). IsLive n q.1) (p.key, p.value) (guests ps) (All-head (λ (q : Property). IsLive n q.value) p ps live) rest
    ]

pub guests_of_live : (h : Objects) (o : ℕ) → AreClosed h → LivePairs (length h.list) (guests (props_of (object_at h o)))
guests_of_live h o closed = guests_live (length h.list) (props_of (object_at h o)) (props_live (length h.list) (object_at h o) (object_holds h o closed))

-- their handles

pub handles_held : {V : Type 0} (n : ℕ) (vs : List V) → All IsHeld (handles n vs)
handles_held n [] = All-nil IsHeld
handles_held n (x ∷ vs) = All-cons IsHeld (r.held n) (handles (n + 1) vs) tt (handles_held (n + 1) vs)

abbrev IsPairHeld : List ℕ × Handle → Type 0
IsPairHeld p = IsHeld p.1

keyed_held : (n : ℕ) (ps : List Pair) → All IsPairHeld (keyed_handles n ps)
keyed_held n [] = All-nil IsPairHeld
keyed_held n ((k, x) ∷ ps) = All-cons IsPairHeld (k, r.held n) (keyed_handles (n + 1) ps) tt (keyed_held (n + 1) ps)

-- what is seen

pub record Sees (n : ℕ) (s : Seen) : Type 0 where
  pub sight : IsSeen s.sight
  pub values : All (IsLive n) s.values

sees_only : (n : ℕ) (s : r.Sight) → IsSeen s → Sees n (only s)
sees_only n s seen = record { sight = seen; values = All-nil (IsLive n) }

kind_seen : (simple : Bool) (k : FuncKind) (m : ℕ) → IsSeen (sort_seen simple (Some (record { kind = k; maker = m })))
kind_seen true (kind.Code n) m = tt
kind_seen false (kind.Code n) m = tt
kind_seen simple (kind.Simple n) m = tt
kind_seen simple (kind.Constructor n) m = tt
kind_seen simple (kind.Exophoric n w) m = tt

function_seen : (simple : Bool) (c : Option Callable) → IsSeen (sort_seen simple c)
function_seen simple None = tt
function_seen simple (Some c) = kind_seen simple c.kind c.maker

object_sees : (n : ℕ) (h : Objects) (o : ℕ) (c : Class) → AreClosed h → Sees (length h.list) (see_object n h o c)
object_sees n h o class.Object closed =
    let ps = guests (props_of (object_at h o)) in
    record { sight = keyed_held n ps; values = All-map (IsLive (length h.list)) (λ (p : Pair). p.1) ps (guests_of_live h o closed) }
object_sees n h o class.Array closed = record { sight = handles_held n (array_items h o); values = array_items_live h o closed }
object_sees n h o class.Function closed = sees_only (length h.list) _ (function_seen (is_some (own h o simple_mark)) (callable_of (object_at h o)))
object_sees n h o class.Error closed = sees_only (length h.list) _ tt
object_sees n h o class.Node closed = sees_only (length h.list) r.a_node tt

pub sees : (n : ℕ) (h : Objects) (x : Value) → AreClosed h → Sees (length h.list) (see h n x)
sees n h (v.Obj o) closed = object_sees n h o (class_of (object_at h o)) closed
sees n h v.Undefined closed = sees_only (length h.list) r.nothing tt
sees n h v.Null closed = sees_only (length h.list) r.a_null tt
sees n h (v.Bool b) closed = sees_only (length h.list) (r.a_truth b) tt
sees n h (v.Num i) closed = sees_only (length h.list) (r.a_number i) tt
sees n h (v.Text us) closed = sees_only (length h.list) (r.a_text us) tt
