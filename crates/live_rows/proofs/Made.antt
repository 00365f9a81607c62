-- A new object of the running module, which is answered or thrown: an array, a record, an error.
use Rattle.std.proofs.Common.{ℕ, ◌+◌, ◌<◌, Bool, true, false, List, [], ◌∷◌, All, length, arith}
use Rattle.std.specs.Prelude.{map, codes}
use Rattle.std.proofs.lemmas.List.Elements.{All-nil, All-cons, All-head, All-tail}
use Rattle.caja_units.specs.Index.{number_units}
use Rattle.es3_objects.specs.declared.value.Value.{Value}
use Rattle.es3_objects.specs.declared.value.Value.TheVariants as v
use Rattle.es3_objects.specs.declared.value.Class.{Class}
use Rattle.es3_objects.specs.declared.value.Class.TheVariants as class
use Rattle.es3_objects.specs.declared.value.Proto.{Proto}
use Rattle.es3_objects.specs.declared.value.Proto.TheVariants as proto
use Rattle.es3_heap.specs.Objects.{Object, Objects, plain_attrs, hidden_attrs, object_at, class_of, with_object}
use Rattle.es3_heap.specs.Making.{length_property, item_properties, array_object, error_object}
use Rattle.es3_language.specs.Natives.{Reply, value_reply, throw_reply}
use Rattle.es3_live.specs.Live.{IsLive, HoldsLive, AreClosed}
use Rattle.es3_live.specs.Keeps.{LiveReply}
use Rattle.es3_live.proofs.Reading.{LiveProps}
use Rattle.es3_live.proofs.Writing.{Grown, grown_trans, named_grown}
use Rattle.es3_live.proofs.Making.{with_object_grown, new_within, array_grown, proto_there, error_grown}
use Rattle.heap_rows.specs.Marks.{frozen_mark}
use Rattle.heap_rows.specs.Doing.{Told, frozen_if, makes, copied, pairs_in, pairs_of, record_object}
use Rattle.live_rows.specs.Live.{LiveDone}
use Rattle.live_rows.proofs.Changes.{LiveProp, defined_live}
use Rattle.live_rows.proofs.Seeing.{Pair, LivePairs, guests_of_live}

-- with the next name of the module

named_live : (give : Value → Reply) (by : ℕ) (o : Object) (h : Objects) (y : List Told) → ((n i : ℕ) → i < n → LiveReply n (give (v.Obj i))) → Grown h (with_object h o) → LiveDone h (makes give by o h y)
named_live give by o h y answer first =
    let second = named_grown (with_object h o) (length h.list) by first.closed in
    let new = new_within h o in
    let more = second.later.more in
    record { later = (grown_trans first second).later; closed = second.closed; answer = answer _ (length h.list) (omega arith) }

answers_live : (by : ℕ) (o : Object) (h : Objects) (y : List Told) → Grown h (with_object h o) → LiveDone h (makes value_reply by o h y)
answers_live by o h y grown = named_live value_reply by o h y (λ n i within. within) grown

-- errors

pub throws_live : (by : ℕ) (message : List ℕ) (h : Objects) (y : List Told) → AreClosed h → LiveDone h (makes throw_reply by (error_object proto.TypeError (codes "TypeError") message) h y)
throws_live by message h y closed =
    named_live throw_reply by (error_object proto.TypeError (codes "TypeError") message) h y (λ n i within. within) (error_grown h proto.TypeError (codes "TypeError") message closed)

pub error_live : (by : ℕ) (p : Proto) (name message : List ℕ) (h : Objects) (y : List Told) → AreClosed h → LiveDone h (makes value_reply by (error_object p name message) h y)
error_live by p name message h y closed = answers_live by (error_object p name message) h y (error_grown h p name message closed)

-- arrays and records, frozen or not

frozen_holds : (n : ℕ) (frozen : Bool) (o : Object) → HoldsLive n o → HoldsLive n (frozen_if frozen o)
frozen_holds n true o holds = record { proto = holds.proto; values = defined_live n frozen_mark (v.Bool true) hidden_attrs o.props tt holds.values }
frozen_holds n false o holds = holds

made_live : (frozen : Bool) (by : ℕ) (o : Object) (h : Objects) (y : List Told) → AreClosed h → HoldsLive (length h.list) o → LiveDone h (makes value_reply by (frozen_if frozen o) h y)
made_live frozen by o h y closed holds = answers_live by (frozen_if frozen o) h y (with_object_grown h (frozen_if frozen o) closed (frozen_holds (length h.list) frozen o holds))

item_properties_live : (n i : ℕ) (vs : List Value) → All (IsLive n) vs → LiveProps n (item_properties i vs)
item_properties_live n i [] live = All-nil (LiveProp n)
item_properties_live n i (x ∷ vs) live =
    All-cons (LiveProp n) (record { key = number_units i; value = x; attrs = plain_attrs }) (item_properties (i + 1) vs) (All-head (IsLive n) x vs live) (item_properties_live n (i + 1) vs (All-tail (IsLive n) x vs live))

pub array_live : (frozen : Bool) (by : ℕ) (vs : List Value) (h : Objects) (y : List Told) → AreClosed h → All (IsLive (length h.list)) vs → LiveDone h (makes value_reply by (frozen_if frozen (array_object vs)) h y)
array_live frozen by vs h y closed live =
    let n = length h.list in
    made_live frozen by (array_object vs) h y closed
    (record { proto = proto_there h proto.Array closed; values = All-cons (LiveProp n) (length_property (length vs)) (item_properties 0 vs) tt (item_properties_live n 0 vs live) })

copied_live : (n : ℕ) (ps : List Pair) → LivePairs n ps → LiveProps n (copied ps)
copied_live n [] live = All-nil (LiveProp n)
copied_live n ((k, x) ∷ ps) live =
    All-cons (LiveProp n) (record { key = k; value = x; attrs = plain_attrs }) (copied ps) (All-head (λ (p : Pair). IsLive n p.1) (k, x) ps live) (copied_live n ps (All-tail (λ (p : Pair). IsLive n p.1) (k, x) ps live))

pairs_in_live : (c : Class) (h : Objects) (o : ℕ) → AreClosed h → LivePairs (length h.list) (pairs_in c h o)
pairs_in_live class.Object h o closed = guests_of_live h o closed
pairs_in_live c h o closed = All-nil (λ (p : Pair). IsLive (length h.list) p.1)

pairs_live : (h : Objects) (x : Value) → AreClosed h → LivePairs (length h.list) (pairs_of h x)
pairs_live h (v.Obj o) closed = pairs_in_live (class_of (object_at h o)) h o closed
pairs_live h x closed = All-nil (λ (p : Pair). IsLive (length h.list) p.1)

pub copy_live : (frozen : Bool) (by : ℕ) (x : Value) (h : Objects) (y : List Told) → AreClosed h → LiveDone h (makes value_reply by (frozen_if frozen (record_object (copied (pairs_of h x)))) h y)
copy_live frozen by x h y closed =
    made_live frozen by (record_object (copied (pairs_of h x))) h y closed
    (record { proto = proto_there h proto.Object closed; values = copied_live (length h.list) (pairs_of h x) (pairs_live h x closed) })

-- the array of keys has no name

texts_live : (n : ℕ) (ks : List (List ℕ)) → All (IsLive n) (map v.Text ks)
texts_live n [] = All-nil (IsLive n)
texts_live n (k ∷ ks) = All-cons (IsLive n) (v.Text k) (map v.Text ks) tt (texts_live n ks)

pub keys_live : (ks : List (List ℕ)) (h : Objects) (y : List Told) → AreClosed h → LiveDone h (record { reply = value_reply (v.Obj (length h.list)); heap = with_object h (array_object (map v.Text ks)); items = y })
keys_live ks h y closed =
    let grown = array_grown h (map v.Text ks) closed (texts_live (length h.list) ks) in
    record { later = grown.later; closed = grown.closed; answer = new_within h (array_object (map v.Text ks)) }
