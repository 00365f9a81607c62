-- What is live stays live where there are more objects.
use Rattle.std.proofs.Common.{ℕ, ◌≤◌, List, Option, Some, None, All, refl, ◌∙◌, le_trans, lt_of_lt_of_le, arith}
use Rattle.std.proofs.lemmas.List.Elements.{All-weaker}
use Rattle.es3_objects.specs.declared.value.Value.{Value}
use Rattle.es3_objects.specs.declared.value.Value.TheVariants.{Undefined, Null, Bool as Truth, Num, Text, Obj}
use Rattle.es3_heap.specs.Objects.{Property, Object, Objects}
use Rattle.es3_language.specs.Store.{Owner, activation, own_name, caught, with_object_of, Scope}
use Rattle.es3_language.specs.References.{Ref, unresolved, slot, own_arguments, in_object, named, member, just}
use Rattle.es3_live.specs.Live.{IsLive, IsLiveId, HoldsLive, Later}
use Rattle.es3_live.specs.Runs.{IsLiveOrNone, LiveOwner, LiveScope, LiveRef}

pub live_more : {n m : ℕ} (v : Value) → n ≤ m → IsLive n v → IsLive m v
live_more Undefined le l = tt
live_more Null le l = tt
live_more (Truth b) le l = tt
live_more (Num a) le l = tt
live_more (Text us) le l = tt
live_more (Obj o) le l = lt_of_lt_of_le l le

pub all_more : {n m : ℕ} (vs : List Value) → n ≤ m → All (IsLive n) vs → All (IsLive m) vs
all_more {n = n} {m = m} vs le l = All-weaker (IsLive n) (IsLive m) (λ v. live_more v le) vs l

pub none_more : {n m : ℕ} (v : Option Value) → n ≤ m → IsLiveOrNone n v → IsLiveOrNone m v
none_more None le l = tt
none_more (Some v) le l = live_more v le l

pub id_more : {n m : ℕ} (o : Option ℕ) → n ≤ m → IsLiveId n o → IsLiveId m o
id_more None le l = tt
id_more (Some o) le l = lt_of_lt_of_le l le

pub holds_more : {n m : ℕ} (o : Object) → n ≤ m → HoldsLive n o → HoldsLive m o
holds_more {n = n} {m = m} o le l = record {
  proto = id_more o.proto le l.proto;
  values = All-weaker (λ (p : Property). IsLive n p.value) (λ p. IsLive m p.value) (λ p. live_more p.value le) o.props l.values;
}

owner_more : {n m : ℕ} (w : Owner) → n ≤ m → LiveOwner n w → LiveOwner m w
owner_more (activation f xs vs) le l = (live_more f le l.0, all_more vs le l.1)
owner_more own_name le l = tt
owner_more caught le l = tt
owner_more (with_object_of o) le l = lt_of_lt_of_le l le

pub scope_more : {n m : ℕ} (s : Scope) → n ≤ m → LiveScope n s → LiveScope m s
scope_more {n = n} {m = m} s le l = record {
  owner = owner_more s.owner le l.owner;
  names = All-weaker (λ (p : List ℕ × Value). IsLive n p.1) (λ p. IsLive m p.1) (λ p. live_more p.1 le) s.names l.names;
}

pub ref_more : {n m : ℕ} (r : Ref) → n ≤ m → LiveRef n r → LiveRef m r
ref_more (unresolved x) le l = tt
ref_more (slot c x) le l = tt
ref_more (own_arguments c) le l = tt
ref_more (in_object o x) le l = lt_of_lt_of_le l le
ref_more (named o x) le l = lt_of_lt_of_le l le
ref_more (member v k) le l = live_more v le l
ref_more (just v) le l = live_more v le l

-- objects that are later than themselves, and than what came between

pub later_refl : (h : Objects) → Later h h
later_refl h = record { more = omega arith; classes = λ o within. refl; functions = λ o within. refl }

pub later_trans : {h h' h'' : Objects} → Later h h' → Later h' h'' → Later h h''
later_trans a b = record {
  more = le_trans a.more b.more;
  classes = λ o within. b.classes o (lt_of_lt_of_le within a.more) ∙ a.classes o within;
  functions = λ o within. b.functions o (lt_of_lt_of_le within a.more) ∙ a.functions o within;
}
