-- What is read of closed objects is live: prototypes, properties, the values of keys and the items of arrays.
use Rattle.std.proofs.Common.{ℕ, zero, suc, ◌+◌, true, false, List, [], ◌∷◌, Option, Some, None, All, length, cond}
use Rattle.std.specs.Prelude.{slice_get}
use Rattle.std.proofs.lemmas.List.Elements.{All-nil, All-cons, All-head, All-tail}
use Rattle.caja_units.specs.Units.{same_units}
use Rattle.caja_units.specs.Index.{number_units}
use Rattle.es3_heap.specs.Objects.{Property, Object, Objects, object_at, props_of, proto_of}
use Rattle.es3_heap.specs.Properties.{find, own, or_else, lookup_from, get, value_of, length_key, length_of}
use Rattle.es3_convert.specs.Conversions.{items_from, array_items}
use Rattle.es3_live.specs.Live.{IsLive, IsLiveId, HoldsLive, AreClosed}

-- properties with live values
abbrev pub LiveProps : ℕ → List Property → Type 0
LiveProps n ps = All (λ (p : Property). IsLive n p.value) ps

-- an object that there may be
abbrev pub HoldsIfThere : ℕ → Option Object → Type 0
HoldsIfThere n None = Unit {0}
HoldsIfThere n (Some o) = HoldsLive n o

holds_within : (n : ℕ) (xs : List Object) (i : ℕ) → All (HoldsLive n) xs → HoldsIfThere n (slice_get xs i)
holds_within n [] i all = tt
holds_within n (x ∷ xs) zero all = All-head (HoldsLive n) x xs all
holds_within n (x ∷ xs) (suc i) all = holds_within n xs i (All-tail (HoldsLive n) x xs all)

-- an object of the store, if there is one of the number
pub object_holds : (h : Objects) (o : ℕ) → AreClosed h → HoldsIfThere (length h.list) (object_at h o)
object_holds h o closed = holds_within (length h.list) h.list o closed.objects

pub props_live : (n : ℕ) (x : Option Object) → HoldsIfThere n x → LiveProps n (props_of x)
props_live n None holds = All-nil (λ (p : Property). IsLive n p.value)
props_live n (Some o) holds = holds.values

pub proto_live : (n : ℕ) (x : Option Object) → HoldsIfThere n x → IsLiveId n (proto_of x)
proto_live n None holds = tt
proto_live n (Some o) holds = holds.proto

pub find_live : (n : ℕ) (k : List ℕ) (ps : List Property) → LiveProps n ps → IsLive n (value_of (find k ps))
find_live n k [] live = tt
find_live n k (p ∷ ps) live =
    elim (same_units k p.key) as (λ b. IsLive n (value_of (cond b (Some p) (find k ps)))) [
      | true ↦ All-head (λ (q : Property). IsLive n q.value) p ps live
      | false ↦ find_live n k ps (All-tail (λ (q : Property). IsLive n q.value) p ps live)
    ]

-- an own property's value
pub own_live : (h : Objects) (o : ℕ) (k : List ℕ) → AreClosed h → IsLive (length h.list) (value_of (own h o k))
own_live h o k closed = find_live (length h.list) k (props_of (object_at h o)) (props_live (length h.list) (object_at h o) (object_holds h o closed))

or_else_live : (n : ℕ) (p q : Option Property) → IsLive n (value_of p) → IsLive n (value_of q) → IsLive n (value_of (or_else p q))
or_else_live n None q first second = second
or_else_live n (Some p) q first second = first

lookup_live : (m : ℕ) (h : Objects) (o : Option ℕ) (k : List ℕ) → AreClosed h → IsLive (length h.list) (value_of (lookup_from m h o k))
lookup_live m h None k closed = tt
lookup_live zero h (Some o) k closed = tt
lookup_live (suc m) h (Some o) k closed =
    or_else_live (length h.list) (own h o k) (lookup_from m h (proto_of (object_at h o)) k) (own_live h o k closed) (lookup_live m h (proto_of (object_at h o)) k closed)

-- 8.6.2.1
pub get_live : (h : Objects) (o : ℕ) (k : List ℕ) → AreClosed h → IsLive (length h.list) (get h o k)
get_live h o k closed = lookup_live (length h.list) h (Some o) k closed

items_live : (n i : ℕ) (h : Objects) (o : ℕ) → AreClosed h → All (IsLive (length h.list)) (items_from n i h o)
items_live zero i h o closed = All-nil (IsLive (length h.list))
items_live (suc n) i h o closed =
    All-cons (IsLive (length h.list)) (value_of (own h o (number_units i))) (items_from n (i + 1) h o) (own_live h o (number_units i) closed) (items_live n (i + 1) h o closed)

pub array_items_live : (h : Objects) (o : ℕ) → AreClosed h → All (IsLive (length h.list)) (array_items h o)
array_items_live h o closed = items_live (length_of (value_of (own h o length_key))) 0 h o closed
