-- What guards come to names live objects alone, and they keep objects closed.
use Rattle.std.proofs.Common.{◌≡◌, ℕ, zero, suc, ◌+◌, ◌<◌, ◌≤◌, Bool, true, false, List, [], ◌∷◌, Option, Some, None, Result, Ok, Err, All, length, arith}
use Rattle.std.specs.Prelude.{codes}
use Rattle.std.proofs.lemmas.List.Elements.{All-nil, All-cons, All-head, All-tail, All-weaker}
use Rattle.plans.specs.Plans.{Fault}
use Rattle.es3_objects.specs.declared.value.Value.{Value}
use Rattle.es3_objects.specs.declared.value.Value.TheVariants as v
use Rattle.es3_objects.specs.declared.value.Class.{Class}
use Rattle.es3_objects.specs.declared.value.Class.TheVariants as class
use Rattle.es3_objects.specs.declared.value.Proto.TheVariants as proto
use Rattle.es3_heap.specs.Objects.{Objects, plain_attrs, hidden_attrs, object_at, class_of}
use Rattle.es3_heap.specs.Properties.{own, value_of, length_key, define}
use Rattle.es3_heap.specs.Making.{proto_id, plain_object, made}
use Rattle.es3_convert.specs.Conversions.{and_then, text_of}
use Rattle.es3_live.specs.Live.{IsLive, AreClosed}
use Rattle.es3_live.proofs.Growth.{live_more, later_refl}
use Rattle.es3_live.proofs.Reading.{own_live, array_items_live}
use Rattle.es3_live.proofs.Writing.{Grown, same_objects, grown_trans, define_grown, named_grown}
use Rattle.es3_live.proofs.Making.{made_grown, new_within, proto_there}
use Rattle.rows.specs.Rows.{Native, Row}
use Rattle.rows.specs.Guards as rows
use Rattle.heap_rows.specs.Natives.{is_common}
use Rattle.heap_rows.specs.Marks.{simple_mark, frozen_mark, marked}
use Rattle.heap_rows.specs.Doing.{Done}
use Rattle.heap_rows.specs.Opening.{place_of, built_ins_there, empty_page}
use Rattle.live_rows.specs.Named.{RowNames}
use Rattle.live_rows.specs.Live.{IsThere, LiveDone}
use Rattle.live_rows.proofs.Named.{common_there}
use Rattle.live_rows.proofs.Kept.{empty_live}
use Rattle.live_rows.proofs.Rows.{does_live}
use Rattle.live_rows.proofs.Ends.{gives_live, stops_live}
use Rattle.live_rows.proofs.Made.{throws_live}
use Rattle.row_outcomes.specs.Comes.{throws}
use Rattle.row_outcomes.specs.Arguments.{argument, told, after}
use Rattle.freeze_marks.specs.Records.{with_pairs}
use Rattle.guard_runtime.specs.declared.Guard.{Guard}
use Rattle.guard_runtime.specs.declared.Guard.TheVariants as g
use Rattle.guard_runtime.specs.Guards.{by_row, list_in, list_of, on_list, load_by, load_module, read_import, func_of, func, is_length, counted_items, items_of, initialize_array_of, initialize_array, keyed, new_record, initialize_map, without_list, call_pub_on, done_of}
use Rattle.guard_runtime.proofs.GuardNames as names

-- arguments

argument_live : (n i : ℕ) (xs : List Value) → All (IsLive n) xs → IsLive n (argument i xs)
argument_live n i [] live = tt
argument_live n zero (x ∷ xs) live = All-head (IsLive n) x xs live
argument_live n (suc i) (x ∷ xs) live = argument_live n i xs (All-tail (IsLive n) x xs live)

one_live : (n : ℕ) (x : Value) → IsLive n x → All (IsLive n) (x ∷ [])
one_live n x live = All-cons (IsLive n) x [] live (All-nil (IsLive n))

thrown_live : (message : List ℕ) (by : ℕ) (h : Objects) → AreClosed h → LiveDone h (throws message by h)
thrown_live message by h closed = throws_live by message h [] closed

-- the rows of the tables

row_live : (q : Row) (by : ℕ) (vs : List Value) (h : Objects) → built_ins_there h → AreClosed h → All (IsLive (length h.list)) vs → ((P : Native → Type 0) → ((f : Native) → is_common f ≡ true → P f) → RowNames P q) → LiveDone h (by_row q by vs h)
row_live q by vs h there closed live named =
    (does_live place_of by q vs h empty_page [] (named (IsThere place_of h) (λ f common. common_there h f there common)) closed live (empty_live (length h.list))).done

-- lists

abbrev LiveList : ℕ → Option (List Value) → Type 0
LiveList n None = Unit {0}
LiveList n (Some xs) = All (IsLive n) xs

list_in_live : (c : Class) (h : Objects) (o : ℕ) → AreClosed h → LiveList (length h.list) (list_in c h o)
list_in_live class.Array h o closed = array_items_live h o closed
list_in_live c h o closed = tt

list_live : (h : Objects) (x : Value) → AreClosed h → LiveList (length h.list) (list_of h x)
list_live h (v.Obj o) closed = list_in_live (class_of (object_at h o)) h o closed
list_live h x closed = tt

on_list_live : (found : Option (List Value)) (by : ℕ) (h : Objects) (go : List Value → Done) → AreClosed h → LiveList (length h.list) found → ((xs : List Value) → All (IsLive (length h.list)) xs → LiveDone h (go xs)) → LiveDone h (on_list found by h go)
on_list_live None by h go closed live each = thrown_live (codes "bad argument") by h closed
on_list_live (Some xs) by h go closed live each = each xs live

counted_live : (b : Bool) (h : Objects) (o : ℕ) → AreClosed h → LiveList (length h.list) (counted_items b h o)
counted_live true h o closed = array_items_live h o closed
counted_live false h o closed = tt

items_live : (h : Objects) (x : Value) → AreClosed h → LiveList (length h.list) (items_of h x)
items_live h (v.Obj o) closed = counted_live (is_length (value_of (own h o length_key))) h o closed
items_live h x closed = tt

-- a conversion, and then the rest
after_live : {A : Type 0} (t : Result A Fault) (h : Objects) (go : A → Done) → AreClosed h → ((x : A) → LiveDone h (go x)) → LiveDone h (after t h go)
after_live (Ok x) h go closed live = live x
after_live (Err f) h go closed live = stops_live f h [] closed

-- loadModule

load_by_live : (c : Class) (runtime imports by o : ℕ) (h : Objects) → AreClosed h → runtime < length h.list → imports < length h.list → o < length h.list → LiveDone h (load_by c runtime imports by o h)
load_by_live class.Function runtime imports by o h closed first second live =
    let n = length h.list in
    record { later = later_refl h; closed = closed; answer = (live, tt, All-cons (IsLive n) (v.Obj runtime) (v.Obj imports ∷ []) first (one_live n (v.Obj imports) second)) }
load_by_live c runtime imports by o h closed first second live = thrown_live (codes "not a function") by h closed

pub load_module_live : (runtime imports by : ℕ) (f : Value) (h : Objects) → AreClosed h → runtime < length h.list → imports < length h.list → IsLive (length h.list) f → LiveDone h (load_module runtime imports by f h)
load_module_live runtime imports by (v.Obj o) h closed first second live = load_by_live (class_of (object_at h o)) runtime imports by o h closed first second live
load_module_live runtime imports by f h closed first second live = thrown_live (codes "not a function") by h closed

-- readImport

told_live : (t : Result (List ℕ) Fault) (h : Objects) (o : ℕ) → AreClosed h → LiveDone h (told (and_then t (λ us. Ok (value_of (own h o us)))) h)
told_live (Ok us) h o closed = gives_live (value_of (own h o us)) h h [] (same_objects h closed) (own_live h o us closed)
told_live (Err f) h o closed = stops_live f h [] closed

read_import_live : (by : ℕ) (x k : Value) (h : Objects) → AreClosed h → LiveDone h (read_import by x k h)
read_import_live by (v.Obj o) k h closed = told_live (text_of h k) h o closed
read_import_live by x k h closed = thrown_live (codes "bad argument") by h closed

-- func

func_of_live : (c : Class) (by o : ℕ) (h : Objects) → AreClosed h → o < length h.list → LiveDone h (func_of c by o h)
func_of_live class.Function by o h closed live =
    let first = define_grown h o simple_mark (v.Bool true) hidden_attrs closed tt in
    let second = define_grown (marked h o simple_mark) o frozen_mark (v.Bool true) hidden_attrs first.closed tt in
    let third = named_grown (marked (marked h o simple_mark) o frozen_mark) o by second.closed in
    gives_live (v.Obj o) h _ [] (grown_trans first (grown_trans second third)) live
func_of_live c by o h closed live = thrown_live (codes "not a function") by h closed

func_live : (by : ℕ) (x : Value) (h : Objects) → AreClosed h → IsLive (length h.list) x → LiveDone h (func by x h)
func_live by (v.Obj o) h closed live = func_of_live (class_of (object_at h o)) by o h closed live
func_live by x h closed live = thrown_live (codes "not a function") by h closed

-- initializeArray

initialize_array_of_live : (c : Class) (by o : ℕ) (h : Objects) → AreClosed h → o < length h.list → LiveDone h (initialize_array_of c by o h)
initialize_array_of_live class.Array by o h closed live = gives_live (v.Obj o) h _ [] (named_grown h o by closed) live
initialize_array_of_live c by o h closed live = thrown_live (codes "bad argument") by h closed

initialize_array_live : (by : ℕ) (x : Value) (h : Objects) → AreClosed h → IsLive (length h.list) x → LiveDone h (initialize_array by x h)
initialize_array_live by (v.Obj o) h closed live = initialize_array_of_live (class_of (object_at h o)) by o h closed live
initialize_array_live by x h closed live = thrown_live (codes "bad argument") by h closed

-- initializeMap

abbrev Pair : Type 0
Pair = List ℕ × Value

abbrev LivePairs : ℕ → List Pair → Type 0
LivePairs n ps = All (λ (p : Pair). IsLive n p.1) ps

abbrev LiveKeyed : ℕ → Result (List Pair) Fault → Type 0
LiveKeyed n (Ok ps) = LivePairs n ps
LiveKeyed n (Err e) = Unit {0}

pair_live : (n : ℕ) (p : Pair) (rest : Result (List Pair) Fault) → IsLive n p.1 → LiveKeyed n rest → LiveKeyed n (and_then rest (λ ps. Ok (p ∷ ps)))
pair_live n p (Ok ps) value live = All-cons (λ (q : Pair). IsLive n q.1) p ps value live
pair_live n p (Err e) value live = tt

key_live : (n : ℕ) (t : Result (List ℕ) Fault) (go : List ℕ → Result (List Pair) Fault) → ((us : List ℕ) → LiveKeyed n (go us)) → LiveKeyed n (and_then t go)
key_live n (Ok us) go live = live us
key_live n (Err e) go live = tt

keyed_live : (n : ℕ) (h : Objects) (xs : List Value) → All (IsLive n) xs → LiveKeyed n (keyed h xs)
keyed_live n h [] live = All-nil (λ (p : Pair). IsLive n p.1)
keyed_live n h (k ∷ []) live = key_live n (text_of h k) (λ us. Ok ((us, v.Undefined) ∷ [])) (λ us. All-cons (λ (p : Pair). IsLive n p.1) (us, v.Undefined) [] tt (All-nil (λ (p : Pair). IsLive n p.1)))
keyed_live n h (k ∷ x ∷ rest) live =
    let behind = All-tail (IsLive n) k (x ∷ rest) live in
    key_live n (text_of h k) (λ us. and_then (keyed h rest) (λ ps. Ok ((us, x) ∷ ps)))
    (λ us. pair_live n (us, x) (keyed h rest) (All-head (IsLive n) x rest behind) (keyed_live n h rest (All-tail (IsLive n) x rest behind)))

pairs_more : (n m : ℕ) (ps : List Pair) → n ≤ m → LivePairs n ps → LivePairs m ps
pairs_more n m ps le live = All-weaker (λ (p : Pair). IsLive n p.1) (λ p. IsLive m p.1) (λ p. live_more p.1 le) ps live

with_pairs_grown : (ps : List Pair) (o : ℕ) (h : Objects) → AreClosed h → LivePairs (length h.list) ps → Grown h (with_pairs ps o h)
with_pairs_grown [] o h closed live = same_objects h closed
with_pairs_grown (p ∷ rest) o h closed live =
    let n = length h.list in
    let first = define_grown h o p.0 p.1 plain_attrs closed (All-head (λ (q : Pair). IsLive n q.1) p rest live) in
    let next = define h o p.0 p.1 plain_attrs in
    grown_trans first (with_pairs_grown rest o next first.closed (pairs_more n (length next.list) rest first.later.more (All-tail (λ (q : Pair). IsLive n q.1) p rest live)))

new_record_live : (by : ℕ) (h : Objects) (ps : List Pair) → AreClosed h → LivePairs (length h.list) ps → LiveDone h (new_record by h ps)
new_record_live by h ps closed live =
    let p = Some (proto_id proto.Object) in
    let first = made_grown h class.Object p closed (proto_there h proto.Object closed) in
    let empty = made class.Object p h in
    let second = with_pairs_grown ps (length h.list) empty first.closed (pairs_more (length h.list) (length empty.list) ps first.later.more live) in
    let third = named_grown (with_pairs ps (length h.list) empty) (length h.list) by second.closed in
    let new = new_within h (plain_object class.Object p) in
    let filled = second.later.more in
    let more = third.later.more in
    record { later = (grown_trans first (grown_trans second third)).later; closed = third.closed; answer = omega arith }

keyed_record_live : (by : ℕ) (h : Objects) (pairs : Result (List Pair) Fault) → AreClosed h → LiveKeyed (length h.list) pairs → LiveDone h (after pairs h (new_record by h))
keyed_record_live by h (Ok ps) closed live = new_record_live by h ps closed live
keyed_record_live by h (Err f) closed live = stops_live f h [] closed

initialize_map_live : (by : ℕ) (x : Value) (h : Objects) → AreClosed h → LiveDone h (initialize_map by x h)
initialize_map_live by x h closed =
    on_list_live (list_of h x) by h (λ xs. after (keyed h xs) h (new_record by h)) closed (list_live h x closed) (λ xs live. keyed_record_live by h (keyed h xs) closed (keyed_live (length h.list) h xs live))

-- callPub

without_list_live : (by : ℕ) (o k : Value) (h : Objects) → AreClosed h → LiveDone h (without_list by o k h)
without_list_live by (v.Obj o) k h closed = after_live (text_of h k) h (λ us. throws (codes "bad argument") by h) closed (λ us. thrown_live (codes "bad argument") by h closed)
without_list_live by o k h closed = thrown_live (codes "bad argument") by h closed

call_pub_on_live : (found : Option (List Value)) (by : ℕ) (o k : Value) (h : Objects) → built_ins_there h → AreClosed h → IsLive (length h.list) o → IsLive (length h.list) k → LiveList (length h.list) found → LiveDone h (call_pub_on found by o k h)
call_pub_on_live None by o k h there closed receiver key live = without_list_live by o k h closed
call_pub_on_live (Some xs) by o k h there closed receiver key live =
    let n = length h.list in
    row_live (rows.call_pub (2 + length xs)) by (o ∷ k ∷ xs) h there closed (All-cons (IsLive n) o (k ∷ xs) receiver (All-cons (IsLive n) k xs key live)) (λ P common. names.call_pub_names P common (2 + length xs))

-- each guard

module _ (by : ℕ) (vs : List Value) (h : Objects) (there : built_ins_there h) (closed : AreClosed h) (live : All (IsLive (length h.list)) vs) where
  at : (i : ℕ) → IsLive (length h.list) (argument i vs)
  at i = argument_live (length h.list) i vs live

  two : All (IsLive (length h.list)) (argument 0 vs ∷ argument 1 vs ∷ [])
  two = All-cons (IsLive (length h.list)) (argument 0 vs) (argument 1 vs ∷ []) (at 0) (one_live (length h.list) (argument 1 vs) (at 1))

  three : All (IsLive (length h.list)) (argument 0 vs ∷ argument 1 vs ∷ argument 2 vs ∷ [])
  three =
      All-cons (IsLive (length h.list)) (argument 0 vs) (argument 1 vs ∷ argument 2 vs ∷ []) (at 0)
      (All-cons (IsLive (length h.list)) (argument 1 vs) (argument 2 vs ∷ []) (at 1) (one_live (length h.list) (argument 2 vs) (at 2)))

  each_live : (guard : Guard) → LiveDone h (done_of guard by vs h)
  each_live g.ReadImport = read_import_live by (argument 0 vs) (argument 1 vs) h closed
  each_live g.Func = func_live by (argument 0 vs) h closed (at 0)
  each_live g.Args =
      on_list_live (items_of h (argument 0 vs)) by h (λ xs. by_row (rows.args (length xs)) by xs h) closed (items_live h (argument 0 vs) closed) (λ xs items. row_live (rows.args (length xs)) by xs h there closed items (λ P common. names.args_names P common (length xs)))
  each_live g.InitializeArray = initialize_array_live by (argument 0 vs) h closed (at 0)
  each_live g.InitializeMap = initialize_map_live by (argument 0 vs) h closed
  each_live g.Key = row_live rows.key by (argument 0 vs ∷ []) h there closed (one_live (length h.list) (argument 0 vs) (at 0)) (λ P common. names.key_names P common)
  each_live g.ReadPub = row_live (rows.read_pub 2) by (argument 0 vs ∷ argument 1 vs ∷ []) h there closed two (λ P common. names.read_pub_names P common)
  each_live g.SetPub = row_live (rows.set_pub 3) by (argument 0 vs ∷ argument 1 vs ∷ argument 2 vs ∷ []) h there closed three (λ P common. names.set_pub_names P common)
  each_live g.DeletePub = row_live (rows.delete_pub 2) by (argument 0 vs ∷ argument 1 vs ∷ []) h there closed two (λ P common. names.delete_pub_names P common)
  each_live g.InPub = row_live rows.in_pub by (argument 0 vs ∷ argument 1 vs ∷ []) h there closed two (λ P common. names.in_pub_names P common)
  each_live g.KeysPub = row_live rows.keys_pub by (argument 0 vs ∷ []) h there closed (one_live (length h.list) (argument 0 vs) (at 0)) (λ P common. names.keys_pub_names P common)
  each_live g.CallPub = call_pub_on_live (list_of h (argument 2 vs)) by (argument 0 vs) (argument 1 vs) h there closed (at 0) (at 1) (list_live h (argument 2 vs) closed)
  each_live g.AsSimpleFunc = row_live rows.as_simple_func by (argument 0 vs ∷ []) h there closed (one_live (length h.list) (argument 0 vs) (at 0)) (λ P common. names.as_simple_func_names P common)
  each_live g.Construct =
      on_list_live (list_of h (argument 1 vs)) by h (λ xs. by_row (rows.construct (suc (length xs))) by (argument 0 vs ∷ xs) h) closed (list_live h (argument 1 vs) closed)
      (λ xs items. row_live (rows.construct (suc (length xs))) by (argument 0 vs ∷ xs) h there closed (All-cons (IsLive (length h.list)) (argument 0 vs) xs (at 0) items) (λ P common. names.construct_names P common (suc (length xs))))
  each_live g.InstanceOf = row_live rows.instance_of by (argument 0 vs ∷ argument 1 vs ∷ []) h there closed two (λ P common. names.instance_of_names P common)

pub guard_live : (guard : Guard) (by : ℕ) (vs : List Value) (h : Objects) → built_ins_there h → AreClosed h → All (IsLive (length h.list)) vs → LiveDone h (done_of guard by vs h)
guard_live guard by vs h there closed live = each_live by vs h there closed live guard
