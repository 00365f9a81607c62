-- The arguments object keeps a store live: where it is made, written, or deleted from.
use Rattle.std.proofs.Common.{ℕ, ◌+◌, cond, Bool, ◌<◌, List, [], ◌∷◌, ◌++◌, Option, Some, None, All, IfSome, is_some, codes, pos, nat_eq, length, slice_get, lt_of_lt_of_le, le_trans}
use Rattle.std.proofs.lemmas.List.Elements.{All-cons, All-head, All-tail, All-push, All-weaker}
use Rattle.caja_units.specs.Units.{same_units}
use Rattle.caja_units.specs.Index.{number_units}
use Rattle.es3_objects.specs.declared.value.Value.{Value}
use Rattle.es3_objects.specs.declared.value.Value.TheVariants.{Num, Obj}
use Rattle.es3_objects.specs.declared.value.Class.TheVariants as class
use Rattle.es3_objects.specs.declared.value.Proto.TheVariants as proto
use Rattle.es3_heap.specs.Objects.{Objects, hidden_attrs}
use Rattle.es3_heap.specs.Properties.{own, put, define, delete, can_delete, length_key}
use Rattle.es3_heap.specs.Making.{proto_id, made}
use Rattle.es3_language.specs.Store.{Names, Owner, activation, own_name, caught, with_object_of, Scope, Shared, Store, name_value, scope_at}
use Rattle.es3_language.specs.Arguments.{arguments_name, value_or, with_items, with_arguments_object, shared_items, made_for, made_at, with_arguments, put_item, put_items, put_shared, is_fixed, write_slot, parameter_of, write_parameter, put_member, unshared, without_item, delete_member}
use Rattle.es3_live.specs.Live.{IsLive, AreClosed}
use Rattle.es3_live.specs.Runs.{IsLiveOrNone, LiveScope, LiveOwner, LiveStore}
use Rattle.es3_live.proofs.Growth.{live_more, all_more, scope_more}
use Rattle.es3_kept.proofs.Next.{Next, same_store}
use Rattle.es3_kept.proofs.Parts.{either}
use Rattle.es3_kept.proofs.Names.{LiveName, LiveNames, name_value_live}
use Rattle.es3_live.proofs.Writing.{Grown, same_objects, grown_trans, define_grown, put_grown, delete_grown}
use Rattle.es3_live.proofs.Making.{proto_there, new_within, made_grown}
use Rattle.es3_kept.proofs.Stores.{count, next_trans, LiveShared, shared_more, with_heap_live, with_slot_live, scope_live, Made}

-- making it

value_or_live : (n : ℕ) (v : Value) (w : Option Value) → IsLive n v → IsLiveOrNone n w → IsLive n (value_or v w)
value_or_live n v None l m = l
value_or_live n v (Some w) l m = m

names_more : {h h' : Objects} (names : Names) → Grown h h' → LiveNames (length h.list) names → LiveNames (length h'.list) names
names_more {h = h} {h' = h'} names w l = All-weaker (LiveName (length h.list)) (LiveName (length h'.list)) (λ p. live_more p.1 w.later.more) names l

live_either : (n : ℕ) (b : Bool) (v w : Value) → IsLive n v → IsLive n w → IsLive n (cond b v w)
live_either n b v w l m = either (IsLive n) b v w l m

-- one more item, and then what keeps objects closed that are later
one_item : (o i : ℕ) (v : Value) (h : Objects) (next : Objects → Objects) → ((g : Objects) → Grown h g → Grown g (next g)) → AreClosed h → IsLive (length h.list) v → Grown h (next (define h o (number_units i) v hidden_attrs))
one_item o i v h next go c a =
    let w = define_grown h o (number_units i) v hidden_attrs c a in
    grown_trans w (go (define h o (number_units i) v hidden_attrs) w)

with_items_grown : (o i : ℕ) (xs : List (List ℕ)) (vs : List Value) (names : Names) (h : Objects) → AreClosed h → All (IsLive (length h.list)) vs → LiveNames (length h.list) names → Grown h (with_items o i xs vs names h)
with_items_grown o i xs [] names h c a l = same_objects h c
with_items_grown o i [] (v ∷ vs) names h c a l =
    one_item o i v h (with_items o (i + 1) [] vs names) (λ g w. with_items_grown o (i + 1) [] vs names g w.closed (all_more vs w.later.more (All-tail (IsLive (length h.list)) v vs a)) (names_more names w l)) c (All-head (IsLive (length h.list)) v vs a)
with_items_grown o i (x ∷ xs) (v ∷ vs) names h c a l =
    let n = length h.list in
    let argument : IsLive n v = All-head (IsLive n) v vs a in
    let parameter : IsLive n (value_or v (name_value x names)) = value_or_live n v (name_value x names) argument (name_value_live n x names l) in
    one_item o i _ h (with_items o (i + 1) xs vs names) (λ g w. with_items_grown o (i + 1) xs vs names g w.closed (all_more vs w.later.more (All-tail (IsLive n) v vs a)) (names_more names w l)) c (search live_either)

arguments_made : (f : Value) (xs : List (List ℕ)) (vs : List Value) (names : Names) (h : Objects) → AreClosed h → IsLive (length h.list) f → All (IsLive (length h.list)) vs → LiveNames (length h.list) names → Made h (with_arguments_object f xs vs names h)
arguments_made f xs vs names h c b a l =
    let o = length h.list in
    let plain = made class.Object (Some (proto_id proto.Object)) h in
    let p : Grown h plain = made_grown h class.Object (Some (proto_id proto.Object)) c (proto_there h proto.Object c) in
    let called = define plain o (codes "callee") f hidden_attrs in
    let q : Grown plain called = define_grown plain o (codes "callee") f hidden_attrs p.closed (live_more f p.later.more b) in
    let counted = define called o length_key (Num (pos (length vs))) hidden_attrs in
    let r : Grown called counted = define_grown called o length_key (Num (pos (length vs))) hidden_attrs q.closed tt in
    let before : Grown h counted = grown_trans p (grown_trans q r) in
    let t : Grown counted (with_arguments_object f xs vs names h) = with_items_grown o 0 xs vs names counted r.closed (all_more vs before.later.more a) (names_more names before l) in
    record { grown = grown_trans before t; there = lt_of_lt_of_le (new_within h _) (le_trans q.later.more (le_trans r.later.more t.later.more)) }

-- a store with an arguments object more
shared_live : (s : Store) (h : Objects) (g : Shared) → LiveStore s → Made s.heap h → g.object < length h.list → Next s.heap (record s { heap = h; shared = s.shared ++ g ∷ [] })
shared_live s h g l m there = record {
  store = record {
    heap = m.grown.closed;
    scopes = All-weaker (LiveScope (count s)) (LiveScope (length h.list)) (λ x. scope_more x m.grown.later.more) s.scopes l.scopes;
    globals = lt_of_lt_of_le l.globals m.grown.later.more;
    shared = All-push (λ (i : Shared). i.object < length h.list) s.shared g (shared_more s.shared m.grown.later.more l.shared) there;
  };
  later = m.grown.later;
}

made_for_live : (w : Owner) (c : ℕ) (names : Names) (s : Store) → LiveStore s → LiveOwner (count s) w → LiveNames (count s) names → Next s.heap (made_for w c names s)
made_for_live (activation f xs vs) c names s l a b =
    let m = arguments_made f xs vs names s.heap l.heap a.0 a.1 b in
    let h = with_arguments_object f xs vs names s.heap in
    let g : Shared = record { object = length s.heap.list; scope = c; items = shared_items 0 xs vs } in
    let n = shared_live s h g l m m.there in
    next_trans n (with_slot_live c arguments_name (Obj (length s.heap.list)) (record s { heap = h; shared = s.shared ++ g ∷ [] }) n.store m.there)
made_for_live own_name c names s l a b = same_store s l
made_for_live caught c names s l a b = same_store s l
made_for_live (with_object_of o) c names s l a b = same_store s l

made_at_live : (x : Option Scope) (c : ℕ) (s : Store) → LiveStore s → IfSome x (LiveScope (count s)) → Next s.heap (made_at x c s)
made_at_live None c s l m = same_store s l
made_at_live (Some x) c s l m = made_for_live x.owner c x.names s l m.owner m.names

pub with_arguments_live : (c : ℕ) (s : Store) → LiveStore s → Next s.heap (with_arguments c s)
with_arguments_live c s l =
    either (Next s.heap) (is_some (name_value arguments_name (scope_at (slice_get s.scopes c)))) s (made_at (slice_get s.scopes c) c s) (same_store s l) (made_at_live (slice_get s.scopes c) c s l (scope_live c s l))

-- writing

put_item_grown : (o : ℕ) (k : List ℕ) (v : Value) (h : Objects) → AreClosed h → IsLive (length h.list) v → Grown h (put_item o k v h)
put_item_grown o k v h c a = either (Grown h) (is_some (own h o k)) (put h o k v) h (put_grown h o k v c a) (same_objects h c)

put_items_grown : (o : ℕ) (items : List (List ℕ × List ℕ)) (x : List ℕ) (v : Value) (h : Objects) → AreClosed h → IsLive (length h.list) v → Grown h (put_items o items x v h)
put_items_grown o [] x v h c a = same_objects h c
put_items_grown o ((k, y) ∷ rest) x v h c a =
    let w = either (Grown h) (same_units x y) (put_item o k v h) h (put_item_grown o k v h c a) (same_objects h c) in
    grown_trans w (put_items_grown o rest x v _ w.closed (live_more v w.later.more a))

put_shared_grown : (gs : List Shared) (c : ℕ) (x : List ℕ) (v : Value) (h : Objects) → AreClosed h → IsLive (length h.list) v → Grown h (put_shared gs c x v h)
put_shared_grown [] c x v h closed a = same_objects h closed
put_shared_grown (g ∷ gs) c x v h closed a =
    either (Grown h) (nat_eq g.scope c) (put_items g.object g.items x v h) (put_shared gs c x v h) (put_items_grown g.object g.items x v h closed a) (put_shared_grown gs c x v h closed a)

pub write_slot_live : (c : ℕ) (x : List ℕ) (v : Value) (s : Store) → LiveStore s → IsLive (count s) v → Next s.heap (write_slot c x v s)
write_slot_live c x v s l a =
    let w = put_shared_grown s.shared c x v s.heap l.heap a in
    let n = with_heap_live s (put_shared s.shared c x v s.heap) l w in
    either (Next s.heap) (is_fixed (slice_get s.scopes c)) s _ (same_store s l) (next_trans n (with_slot_live c x v _ n.store (live_more v w.later.more a)))

write_parameter_live : (p : Option (ℕ × List ℕ)) (v : Value) (s : Store) → LiveStore s → IsLive (count s) v → Next s.heap (write_parameter p v s)
write_parameter_live None v s l a = same_store s l
write_parameter_live (Some (c, x)) v s l a = write_slot_live c x v s l a

pub put_member_live : (o : ℕ) (k : List ℕ) (v : Value) (s : Store) → LiveStore s → IsLive (count s) v → Next s.heap (put_member o k v s)
put_member_live o k v s l a =
    let w = put_grown s.heap o k v l.heap a in
    let n = with_heap_live s (put s.heap o k v) l w in
    next_trans n (write_parameter_live (parameter_of s.shared o k) v _ n.store (live_more v w.later.more a))

-- deleting

unshared_live : (n o : ℕ) (k : List ℕ) (gs : List Shared) → LiveShared n gs → LiveShared n (unshared o k gs)
unshared_live n o k [] l = l
unshared_live n o k (g ∷ gs) l =
    let P : Shared → Type 0 = λ i. i.object < n in
    All-cons P _ (unshared o k gs) (either P (nat_eq g.object o) (record g { items = without_item k g.items }) g (All-head P g gs l) (All-head P g gs l)) (unshared_live n o k gs (All-tail P g gs l))

pub delete_member_live : (o : ℕ) (k : List ℕ) (s : Store) → LiveStore s → Next s.heap (delete_member o k s)
delete_member_live o k s l =
    let w = delete_grown s.heap o k l.heap in
    let n = with_heap_live s (delete s.heap o k) l w in
    let m = length (delete s.heap o k).list in
    record {
      store = record { heap = n.store.heap; scopes = n.store.scopes; globals = n.store.globals; shared = either (LiveShared m) (can_delete s.heap o k) (unshared o k s.shared) s.shared (unshared_live m o k s.shared n.store.shared) n.store.shared };
      later = w.later;
    }
