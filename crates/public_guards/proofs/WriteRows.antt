-- What the rows of the guards that write and delete come to.
use Rattle.std.proofs.Common.{◌≡◌, ℕ, zero, suc, ◌<◌, ◌≤◌, Bool, true, false, List, [], ◌∷◌, ◌++◌, length, Option, Some, None, set, cond, refl, sym, ap, ◌∙◌, arith}
use Rattle.std.specs.Prelude.{is_some, nat_lt, codes, map}
use Rattle.std.proofs.lemmas.List.{length-map}
use Rattle.caja_units.specs.Index.{array_index}
use Rattle.es3_objects.specs.declared.value.Value.{Value}
use Rattle.es3_objects.specs.declared.value.Value.TheVariants as v
use Rattle.es3_objects.specs.declared.value.Class.{Class}
use Rattle.es3_objects.specs.declared.value.Class.TheVariants as class
use Rattle.es3_heap.specs.Objects.{Objects, object_at, class_of, callable_of}
use Rattle.es3_heap.specs.Properties.{own}
use Rattle.es3_heap.specs.Items.{set_items}
use Rattle.es3_convert.specs.Conversions.{array_items}
use Rattle.rows.specs.Rows as r
use Rattle.rows.specs.Rows.{Handle, Sight, held, handles, most_items}
use Rattle.rows.specs.Public as public
use Rattle.rows.specs.Public.{Change, refused, of_key, of_item, is_bad, item_or_new, at_item, pub_set, pub_delete}
use Rattle.rows.specs.Guards as rows
use Rattle.rows.specs.Guards.{write_end, delete_end}
use Rattle.heap_rows.specs.Marks.{is_frozen, simple_mark}
use Rattle.heap_rows.specs.Doing.{Done, Told, value_in, see, see_object, gives, too_long, finish}
use Rattle.heap_rows.specs.Opening.{place_of}
use Rattle.heap_rows.proofs.Handles.{length-handles}
use Rattle.row_outcomes.specs.Comes.{throws}
use Rattle.row_outcomes.specs.Arrays.{changed_array}
use Rattle.row_outcomes.proofs.Arguments.{function_sight}
use Rattle.row_outcomes.proofs.Arrays.{items_stand, stand_now}
use Rattle.public_properties.specs.Keys.{at_object}
use Rattle.public_properties.proofs.Alike.{Alike}
use Rattle.public_properties.proofs.AtKey.{IsSomething, at_key-is}
use Rattle.public_guards.specs.ByRow.{by_row}
use Rattle.public_guards.specs.Writing.{unless, with_item, item_set, object_set, set_answer, object_delete, delete_answer}

-- what is refused alike, whether the object is frozen or not
refused_anyway : (frozen : Bool) (message : List ℕ) (by : ℕ) (vs : List Value) (h : Objects) (y : List Told) → Alike (finish place_of by (r.throws message) vs h y) (unless frozen message by h (throws message by h))
refused_anyway true message by vs h y = record { reply = refl; heap = refl }
refused_anyway false message by vs h y = record { reply = refl; heap = refl }

-- setPub

module _ (by : ℕ) (us : List ℕ) (vs : List Value) (h : Objects) (y : List Told) where
  abbrev written : Change → Sight → Done
  written c s = finish place_of by (write_end c s (held 0) us (held 2)) vs h y

  unless_written : (bad : Bool) (message : List ℕ) (c : Change) (s : Sight) (d : Done) → (bad ≡ false → Alike (written c s) d) → Alike (written (public.unless bad message c) s) (unless bad message by h d)
  unless_written true message c s d go = record { reply = refl; heap = refl }
  unless_written false message c s d go = go refl

  -- what is neither a record nor an array
  other_written : (s : Sight) (frozen : Bool) → Alike (written (public.unless (is_bad us) (codes "bad key") (refused (codes "not writable"))) s) (unless (is_bad us) (codes "bad key") by h (unless frozen (codes "not writable") by h (throws (codes "not writable") by h)))
  other_written s frozen =
      unless_written (is_bad us) (codes "bad key") (refused (codes "not writable")) s (unless frozen (codes "not writable") by h (throws (codes "not writable") by h)) (λ fine. refused_anyway frozen (codes "not writable") by vs h y)

  plain_written : (s : Sight) → Alike (written (public.unless (is_bad us) (codes "bad key") (refused (codes "not writable"))) s) (unless (is_bad us) (codes "bad key") by h (throws (codes "not writable") by h))
  plain_written s = other_written s false

-- an item in the place of one, or a new last one

held_item : (vs : List Value) (xs : List Handle) (zs : List Value) (i : ℕ) (x : Handle) (z : Value) → map (value_in place_of vs) xs ≡ zs → value_in place_of vs x ≡ z → map (value_in place_of vs) (item_or_new xs i x) ≡ with_item zs i z
held_item vs [] [] i x z stand stands = rw stands refl
held_item vs [] (w ∷ zs) i x z stand stands = absurd (cc stand)
held_item vs (y ∷ xs) [] i x z stand stands = absurd (cc stand)
held_item vs (y ∷ xs) (w ∷ zs) zero x z stand stands = let rest : map (value_in place_of vs) xs ≡ zs = cc stand in rw (stands, rest) refl
held_item vs (y ∷ xs) (w ∷ zs) (suc i) x z stand stands =
    let first : value_in place_of vs y ≡ w = cc stand in
    let rest : map (value_in place_of vs) xs ≡ zs = cc stand in
    rw (first, held_item vs xs zs i x z rest stands) refl

abbrev before : ℕ → Value → Value → List Value
before o k x = v.Obj o ∷ k ∷ x ∷ []

by_count : (b : Bool) (x : Value) (g h : Objects) (y : List Told) → Alike (cond b (gives x g y) (too_long h y)) (cond b (gives x g []) (too_long h []))
by_count true x g h y = record { reply = refl; heap = refl }
by_count false x g h y = record { reply = refl; heap = refl }

items_written : (by o : ℕ) (k x : Value) (us : List ℕ) (h : Objects) (y : List Told) (ys : List Handle) (zs : List Value) → class_of (object_at h o) ≡ class.Array → is_frozen h o ≡ false → map (value_in place_of (before o k x ++ array_items h o)) ys ≡ zs
    → Alike (finish place_of by (r.sets_items (held 0) ys (held 2)) (before o k x ++ array_items h o) h y) (changed_array o zs x h)
items_written by o k x us h y ys zs is open_ stand =
    let count : length ys ≡ length zs = sym (length-map ys (value_in place_of (before o k x ++ array_items h o))) ∙ ap length stand in
    rw (stand, count, is, open_) (by_count (nat_lt (length zs) most_items) x (set_items h o zs) h y)

item_written : (i : Option ℕ) (by o : ℕ) (k x : Value) (us : List ℕ) (h : Objects) (frozen : Bool) (y : List Told) → class_of (object_at h o) ≡ class.Array → is_frozen h o ≡ false →
    let xs = handles 3 (array_items h o) in
    Alike (finish place_of by (write_end (at_item i (length xs)) (r.an_array frozen xs) (held 0) us (held 2)) (before o k x ++ array_items h o) h y) (item_set i o x by h)
item_written None by o k x us h frozen y is open_ = record { reply = refl; heap = refl }
item_written (Some i) by o k x us h frozen y is open_ =
    let items = array_items h o in
    let xs = handles 3 items in
    let vs = before o k x ++ items in
    let stand = stand_now vs xs items (items_stand (before o k x) items 3 refl) in
    rw (length-handles 3 items)
    (elim (nat_lt (length items) i) as (λ b. Alike (finish place_of by (write_end (cond b (refused (codes "not writable")) (of_item i)) (r.an_array frozen xs) (held 0) us (held 2)) vs h y) (cond b (throws (codes "not writable") by h) (changed_array o (with_item items i x) x h))) [
      | true ↦ record { reply = refl; heap = refl }
      | false ↦ items_written by o k x us h y (item_or_new xs i (held 2)) (with_item items i x) is open_ (held_item vs xs items i (held 2) x stand refl)
    ])

object_written : (by o : ℕ) (k x : Value) (us : List ℕ) (h : Objects) (c : Class) (y : List Told) → class_of (object_at h o) ≡ c →
    let seen = see_object 3 h o c in
    Alike (finish place_of by (write_end (pub_set seen.sight us) seen.sight (held 0) us (held 2)) (before o k x ++ seen.values) h y) (unless (is_bad us) (codes "bad key") by h (unless (is_frozen h o) (codes "not writable") by h (object_set c o us x by h)))
object_written by o k x us h class.Object y is =
    let seen = see_object 3 h o class.Object in
    let vs = before o k x ++ seen.values in
    let cases = elim (is_bad us) as (λ bad. is_bad us ≡ bad → Alike (finish place_of by (write_end (public.unless bad (codes "bad key") (public.unless (is_frozen h o) (codes "not writable") of_key)) seen.sight (held 0) us (held 2)) vs h y) (unless bad (codes "bad key") by h (unless (is_frozen h o) (codes "not writable") by h (object_set class.Object o us x by h)))) [
      | true ↦ λ bad. record { reply = refl; heap = refl }
      | false ↦ λ fine.
          let open_cases = elim (is_frozen h o) as (λ frozen. is_frozen h o ≡ frozen → Alike (finish place_of by (write_end (public.unless frozen (codes "not writable") of_key) seen.sight (held 0) us (held 2)) vs h y) (unless frozen (codes "not writable") by h (object_set class.Object o us x by h))) [
            | true ↦ λ frozen. record { reply = refl; heap = refl }
            | false ↦ λ open_. record { reply = refl; heap = rw (is, open_, fine) refl }
          ] in open_cases refl
    ] in cases refl
object_written by o k x us h class.Array y is =
    let items = array_items h o in
    let xs = handles 3 items in
    let s = r.an_array (is_frozen h o) xs in
    let vs = before o k x ++ items in
    unless_written by us vs h y (is_bad us) (codes "bad key") (public.unless (is_frozen h o) (codes "not writable") (at_item (array_index us) (length xs))) s (unless (is_frozen h o) (codes "not writable") by h (object_set class.Array o us x by h)) (λ fine.
    unless_written by us vs h y (is_frozen h o) (codes "not writable") (at_item (array_index us) (length xs)) s (object_set class.Array o us x by h) (λ open_.
    item_written (array_index us) by o k x us h (is_frozen h o) y is open_))
object_written by o k x us h class.Function y is =
    function_sight (λ s. Alike (finish place_of by (write_end (pub_set s us) s (held 0) us (held 2)) (before o k x ++ []) h y) (unless (is_bad us) (codes "bad key") by h (unless (is_frozen h o) (codes "not writable") by h (throws (codes "not writable") by h))))
    (λ q. other_written by us (before o k x ++ []) h y (r.a_function q) (is_frozen h o)) (other_written by us (before o k x ++ []) h y (r.a_stranger true) (is_frozen h o)) (is_some (own h o simple_mark)) (callable_of (object_at h o))
object_written by o k x us h class.Error y is = other_written by us (before o k x ++ []) h y (see_object 3 h o class.Error).sight (is_frozen h o)
object_written by o k x us h class.Node y is = other_written by us (before o k x ++ []) h y r.a_node (is_frozen h o)

value_written : (by : ℕ) (o k x : Value) (us : List ℕ) (h : Objects) (y : List Told) →
    let seen = see h 3 o in
    IsSomething seen.sight → Alike (finish place_of by (write_end (pub_set seen.sight us) seen.sight (held 0) us (held 2)) ((o ∷ k ∷ x ∷ []) ++ seen.values) h y) (set_answer o x by h us)
value_written by v.Undefined k x us h y some = absurd some
value_written by v.Null k x us h y some = absurd some
value_written by (v.Bool b) k x us h y some = plain_written by us ((v.Bool b ∷ k ∷ x ∷ []) ++ []) h y (r.a_truth b)
value_written by (v.Num n) k x us h y some = plain_written by us ((v.Num n ∷ k ∷ x ∷ []) ++ []) h y (r.a_number n)
value_written by (v.Text ts) k x us h y some = plain_written by us ((v.Text ts ∷ k ∷ x ∷ []) ++ []) h y (r.a_text ts)
value_written by (v.Obj o) k x us h y some = object_written by o k x us h (class_of (object_at h o)) y refl

pub set_pub-is : (by : ℕ) (o k x : Value) (h : Objects) → Alike (by_row (rows.set_pub 3) by (o ∷ k ∷ x ∷ []) h) (at_object o k by h (set_answer o x by h))
set_pub-is by o k x h =
    at_key-is by r.to_set o k (x ∷ []) h (λ s us. r.ends (write_end (pub_set s us) s (held 0) us (held 2))) (set_answer o x by h) (λ us some y. value_written by o k x us h y some) []

-- deletePub

module _ (by : ℕ) (us : List ℕ) (vs : List Value) (h : Objects) (y : List Told) where
  abbrev deleted : Change → Done
  deleted c = finish place_of by (delete_end c (held 0) us) vs h y

  unless_deleted : (bad : Bool) (message : List ℕ) (c : Change) (d : Done) → (bad ≡ false → Alike (deleted c) d) → Alike (deleted (public.unless bad message c)) (unless bad message by h d)
  unless_deleted true message c d go = record { reply = refl; heap = refl }
  unless_deleted false message c d go = go refl

  -- what is no record
  other_deleted : (frozen : Bool) → Alike (deleted (public.unless (is_bad us) (codes "bad key") (refused (codes "not deletable")))) (unless (is_bad us) (codes "bad key") by h (unless frozen (codes "not deletable") by h (throws (codes "not deletable") by h)))
  other_deleted frozen =
      unless_deleted (is_bad us) (codes "bad key") (refused (codes "not deletable")) (unless frozen (codes "not deletable") by h (throws (codes "not deletable") by h)) (λ fine. refused_anyway frozen (codes "not deletable") by vs h y)

object_deleted : (by o : ℕ) (k : Value) (us : List ℕ) (h : Objects) (c : Class) (y : List Told) → class_of (object_at h o) ≡ c →
    let seen = see_object 2 h o c in
    Alike (finish place_of by (delete_end (pub_delete seen.sight us) (held 0) us) ((v.Obj o ∷ k ∷ []) ++ seen.values) h y) (unless (is_bad us) (codes "bad key") by h (unless (is_frozen h o) (codes "not deletable") by h (object_delete c o us by h)))
object_deleted by o k us h class.Object y is =
    let seen = see_object 2 h o class.Object in
    let vs = (v.Obj o ∷ k ∷ []) ++ seen.values in
    let cases = elim (is_bad us) as (λ bad. is_bad us ≡ bad → Alike (finish place_of by (delete_end (public.unless bad (codes "bad key") (public.unless (is_frozen h o) (codes "not deletable") of_key)) (held 0) us) vs h y) (unless bad (codes "bad key") by h (unless (is_frozen h o) (codes "not deletable") by h (object_delete class.Object o us by h)))) [
      | true ↦ λ bad. record { reply = refl; heap = refl }
      | false ↦ λ fine.
          let open_cases = elim (is_frozen h o) as (λ frozen. is_frozen h o ≡ frozen → Alike (finish place_of by (delete_end (public.unless frozen (codes "not deletable") of_key) (held 0) us) vs h y) (unless frozen (codes "not deletable") by h (object_delete class.Object o us by h))) [
            | true ↦ λ frozen. record { reply = refl; heap = refl }
            | false ↦ λ open_. record { reply = refl; heap = rw (is, open_, fine) refl }
          ] in open_cases refl
    ] in cases refl
object_deleted by o k us h class.Array y is = other_deleted by us ((v.Obj o ∷ k ∷ []) ++ array_items h o) h y (is_frozen h o)
object_deleted by o k us h class.Function y is =
    function_sight (λ s. Alike (finish place_of by (delete_end (pub_delete s us) (held 0) us) ((v.Obj o ∷ k ∷ []) ++ []) h y) (unless (is_bad us) (codes "bad key") by h (unless (is_frozen h o) (codes "not deletable") by h (throws (codes "not deletable") by h))))
    (λ q. other_deleted by us ((v.Obj o ∷ k ∷ []) ++ []) h y (is_frozen h o)) (other_deleted by us ((v.Obj o ∷ k ∷ []) ++ []) h y (is_frozen h o)) (is_some (own h o simple_mark)) (callable_of (object_at h o))
object_deleted by o k us h class.Error y is = other_deleted by us ((v.Obj o ∷ k ∷ []) ++ []) h y (is_frozen h o)
object_deleted by o k us h class.Node y is = other_deleted by us ((v.Obj o ∷ k ∷ []) ++ []) h y (is_frozen h o)

value_deleted : (by : ℕ) (o k : Value) (us : List ℕ) (h : Objects) (y : List Told) →
    let seen = see h 2 o in
    IsSomething seen.sight → Alike (finish place_of by (delete_end (pub_delete seen.sight us) (held 0) us) ((o ∷ k ∷ []) ++ seen.values) h y) (delete_answer o by h us)
value_deleted by v.Undefined k us h y some = absurd some
value_deleted by v.Null k us h y some = absurd some
value_deleted by (v.Bool b) k us h y some = other_deleted by us ((v.Bool b ∷ k ∷ []) ++ []) h y false
value_deleted by (v.Num n) k us h y some = other_deleted by us ((v.Num n ∷ k ∷ []) ++ []) h y false
value_deleted by (v.Text ts) k us h y some = other_deleted by us ((v.Text ts ∷ k ∷ []) ++ []) h y false
value_deleted by (v.Obj o) k us h y some = object_deleted by o k us h (class_of (object_at h o)) y refl

pub delete_pub-is : (by : ℕ) (o k : Value) (h : Objects) → Alike (by_row (rows.delete_pub 2) by (o ∷ k ∷ []) h) (at_object o k by h (delete_answer o by h))
delete_pub-is by o k h = at_key-is by r.to_delete o k [] h (λ s us. r.ends (delete_end (pub_delete s us) (held 0) us)) (delete_answer o by h) (λ us some y. value_deleted by o k us h y some) []

-- the items that are written

pub item_there : (xs : List Value) (i : ℕ) (x : Value) → i < length xs → set xs i x ≡ with_item xs i x
item_there [] i x less = absurd (omega (arith, less))
item_there (y ∷ ys) zero x less = refl
item_there (y ∷ ys) (suc i) x less = ap (λ l. y ∷ l) (item_there ys i x (omega (arith, less)))

pub item_behind : (xs : List Value) (i : ℕ) (x : Value) → length xs ≤ i → xs ++ x ∷ [] ≡ with_item xs i x
item_behind [] i x past = refl
item_behind (y ∷ ys) zero x past = absurd (omega (arith, past))
item_behind (y ∷ ys) (suc i) x past = ap (λ l. y ∷ l) (item_behind ys i x (omega (arith, past)))
