-- What the rows of the guards that read come to.
use Rattle.std.proofs.Common.{◌≡◌, ℕ, Bool, true, false, List, [], ◌∷◌, ◌++◌, length, Option, Some, None, Result, Ok, Err, cond, refl, sym, ap, subst}
use Rattle.std.specs.Prelude.{is_some, not, ◌&&◌}
use Rattle.plans.specs.Plans.{Fault}
use Rattle.caja_units.specs.Units.{is_hidden}
use Rattle.es3_objects.specs.declared.value.Stop.{Stop}
use Rattle.es3_objects.specs.declared.value.Value.{Value}
use Rattle.es3_objects.specs.declared.value.Value.TheVariants as v
use Rattle.es3_objects.specs.declared.value.Class.{Class}
use Rattle.es3_objects.specs.declared.value.Class.TheVariants as class
use Rattle.es3_heap.specs.Objects.{Objects, object_at, class_of, callable_of, props_of}
use Rattle.es3_heap.specs.Properties.{own}
use Rattle.es3_convert.specs.Conversions.{text_of}
use Rattle.es3_language.specs.Natives.{value_reply}
use Rattle.rows.specs.Rows as r
use Rattle.rows.specs.Rows.{Handle, Sight, held, keyed_handles}
use Rattle.rows.specs.Public.{value_at, pub_get, pub_has}
use Rattle.rows.specs.Guards as rows
use Rattle.rows.specs.Guards.{read_end, has_end}
use Rattle.heap_rows.specs.Marks.{simple_mark}
use Rattle.heap_rows.specs.Doing.{Told, guests, value_in, see, see_object, touched_value, gives, finish, with_result}
use Rattle.heap_rows.specs.Opening.{place_of, empty_page}
use Rattle.row_outcomes.specs.declared.Outcome.{Outcome}
use Rattle.row_outcomes.specs.Comes.{Comes}
use Rattle.row_outcomes.specs.Arguments.{after}
use Rattle.row_outcomes.proofs.Arguments.{handle_now, function_sight}
use Rattle.public_properties.specs.Reading.{public_read}
use Rattle.public_properties.specs.Having.{public_has}
use Rattle.public_properties.specs.Keys.{at_object}
use Rattle.public_properties.proofs.Alike.{Alike, comes_alike}
use Rattle.public_properties.proofs.AtKey.{at_key-is}
use Rattle.public_properties.proofs.Present.{own_seen, public_has-is}
use Rattle.public_properties.proofs.Properties.{property_stands}
use Rattle.public_guards.specs.ByRow.{by_row}
use Rattle.public_guards.specs.Reading.{record_read, after_read, read_answer, has_answer}

-- readPub

-- a handle is answered
answered : (by : ℕ) (vs : List Value) (h g : Objects) (x : Handle) (z : Value) (y : List Told) → value_in place_of vs x ≡ z → h ≡ g → Alike (finish place_of by (r.answers x) vs h y) (gives z g [])
answered by vs h g x z y stands same = record { reply = ap value_reply stands; heap = same }

and_not : (b : Bool) → (b && false) ≡ false
and_not true = refl
and_not false = refl

-- a key that isn't seen in a record leaves no mark
unseen : (n : ℕ) (vs : List Value) (h : Objects) (o : ℕ) (us : List ℕ) → length vs ≡ n → is_some (value_at us (keyed_handles n (guests (props_of (object_at h o))))) ≡ false → (is_some (own h o us) && not (is_hidden us)) ≡ false
unseen n vs h o us len none =
    let cases = elim (is_hidden us) as (λ b. is_hidden us ≡ b → (is_some (own h o us) && not b) ≡ false) [
      | true ↦ λ hidden. and_not (is_some (own h o us))
      | false ↦ λ seen. rw (sym (own_seen n vs h o us len seen), none) refl
    ] in cases refl

abbrev IsNoRecord : Sight → Type 0
IsNoRecord (r.a_record frozen ps) = ⊥
IsNoRecord s = Unit {0}

no_record : (s : Sight) (o : Handle) (us : List ℕ) → IsNoRecord s → read_end s o us ≡ r.answers (pub_get o s us)
no_record (r.a_record frozen ps) o us is = absurd is
no_record s o us is = refl

other_read : (by : ℕ) (vs : List Value) (h g : Objects) (s : Sight) (us : List ℕ) (z : Value) (y : List Told) → IsNoRecord s → value_in place_of vs (pub_get (held 0) s us) ≡ z → h ≡ g
    → Alike (finish place_of by (read_end s (held 0) us) vs h y) (gives z g [])
other_read by vs h g s us z y is stands same =
    subst (λ e. Alike (finish place_of by e vs h y) (gives z g [])) (sym (no_record s (held 0) us is)) (answered by vs h g (pub_get (held 0) s us) z y stands same)

-- of an object, by its class
object_read : (by o : ℕ) (k : Value) (h : Objects) (c : Class) (us : List ℕ) (z : Value) (y : List Told) → class_of (object_at h o) ≡ c →
    let seen = see_object 2 h o c in
    value_in place_of ((v.Obj o ∷ k ∷ []) ++ seen.values) (pub_get (held 0) seen.sight us) ≡ z
    → Alike (finish place_of by (read_end seen.sight (held 0) us) ((v.Obj o ∷ k ∷ []) ++ seen.values) h y) (gives z (record_read c h o us) [])
object_read by o k h class.Object us z y is stands =
    let ps = guests (props_of (object_at h o)) in
    let seen = see_object 2 h o class.Object in
    let vs = (v.Obj o ∷ k ∷ []) ++ seen.values in
    let x = pub_get (held 0) seen.sight us in
    let cases = elim (is_some (value_at us (keyed_handles 2 ps))) as (λ b. is_some (value_at us (keyed_handles 2 ps)) ≡ b → Alike (finish place_of by (cond b (r.reads_key (held 0) us x) (r.answers x)) vs h y) (gives z (record_read class.Object h o us) [])) [
      | true ↦ λ some. record { reply = ap value_reply stands; heap = rw is refl }
      | false ↦ λ none. answered by vs h (record_read class.Object h o us) x z y stands (rw (unseen 2 (v.Obj o ∷ k ∷ []) h o us refl none) refl)
    ] in cases refl
object_read by o k h class.Array us z y is stands = other_read by ((v.Obj o ∷ k ∷ []) ++ (see_object 2 h o class.Array).values) h h (see_object 2 h o class.Array).sight us z y tt stands refl
object_read by o k h class.Function us z y is stands =
    other_read by ((v.Obj o ∷ k ∷ []) ++ (see_object 2 h o class.Function).values) h h (see_object 2 h o class.Function).sight us z y (function_sight IsNoRecord (λ q. tt) tt (is_some (own h o simple_mark)) (callable_of (object_at h o))) stands refl
object_read by o k h class.Error us z y is stands = other_read by ((v.Obj o ∷ k ∷ []) ++ (see_object 2 h o class.Error).values) h h (see_object 2 h o class.Error).sight us z y tt stands refl
object_read by o k h class.Node us z y is stands = other_read by ((v.Obj o ∷ k ∷ []) ++ (see_object 2 h o class.Node).values) h h (see_object 2 h o class.Node).sight us z y tt stands refl

value_read : (by : ℕ) (x k : Value) (h : Objects) (us : List ℕ) (z : Value) (y : List Told) →
    let seen = see h 2 x in
    value_in place_of ((x ∷ k ∷ []) ++ seen.values) (pub_get (held 0) seen.sight us) ≡ z
    → Alike (finish place_of by (read_end seen.sight (held 0) us) ((x ∷ k ∷ []) ++ seen.values) h y) (gives z (after_read h x us) [])
value_read by v.Undefined k h us z y stands = other_read by ((v.Undefined ∷ k ∷ []) ++ []) h h r.nothing us z y tt stands refl
value_read by v.Null k h us z y stands = other_read by ((v.Null ∷ k ∷ []) ++ []) h h r.a_null us z y tt stands refl
value_read by (v.Bool b) k h us z y stands = other_read by (((v.Bool b) ∷ k ∷ []) ++ []) h h (r.a_truth b) us z y tt stands refl
value_read by (v.Num n) k h us z y stands = other_read by (((v.Num n) ∷ k ∷ []) ++ []) h h (r.a_number n) us z y tt stands refl
value_read by (v.Text ts) k h us z y stands = other_read by (((v.Text ts) ∷ k ∷ []) ++ []) h h (r.a_text ts) us z y tt stands refl
value_read by (v.Obj o) k h us z y stands = object_read by o k h (class_of (object_at h o)) us z y refl stands

pub read_pub-is : (by : ℕ) (x k : Value) (h : Objects) → Alike (by_row (rows.read_pub 2) by (x ∷ k ∷ []) h) (at_object x k by h (read_answer x h))
read_pub-is by x k h =
    at_key-is by r.to_get x k [] h (λ s us. r.ends (read_end s (held 0) us)) (read_answer x h) (λ us some y.
    let seen = see h 2 x in
    let vs = (x ∷ k ∷ []) ++ seen.values in
    value_read by x k h us (public_read h x us) y (handle_now vs (pub_get (held 0) seen.sight us) (public_read h x us) (property_stands x (k ∷ []) h us))) []

-- inPub

has_ends : (found : Option Bool) (by : ℕ) (vs : List Value) (h : Objects) (y : List Told) → Alike (finish place_of by (has_end found) vs h y) (has_answer found by h)
has_ends None by vs h y = record { reply = refl; heap = refl }
has_ends (Some b) by vs h y = record { reply = refl; heap = refl }

has_at : (by : ℕ) (k x : Value) (h : Objects) (text : Result (List ℕ) Fault) →
    let seen = see h 2 x in
    let vs = (k ∷ x ∷ []) ++ seen.values in
    Alike (with_result text h empty_page [] (λ us. record { done = finish place_of by (has_end (pub_has seen.sight us)) vs h (touched_value by r.to_has x h (us ∷ [])); page = empty_page })).done (after text h (λ us. has_answer (public_has h x us) by h))
has_at by k x h (Ok us) =
    let seen = see h 2 x in
    let vs = (k ∷ x ∷ []) ++ seen.values in
    let y = touched_value by r.to_has x h (us ∷ []) in
    subst (λ f. Alike (finish place_of by (has_end f) vs h y) (has_answer (public_has h x us) by h)) (sym (public_has-is (k ∷ x ∷ []) h x us)) (has_ends (public_has h x us) by vs h y)
has_at by k x h (Err f) = record { reply = refl; heap = refl }

pub in_pub-is : (by : ℕ) (k x : Value) (h : Objects) → Alike (by_row rows.in_pub by (k ∷ x ∷ []) h) (after (text_of h k) h (λ us. has_answer (public_has h x us) by h))
in_pub-is by k x h = has_at by k x h (text_of h k)

pub in_pub-comes : (by : ℕ) (k x : Value) (h g : Objects) (us : List ℕ) (a : Result Outcome Stop) → text_of h k ≡ Ok us → Comes (has_answer (public_has h x us) by h) a g → Comes (by_row rows.in_pub by (k ∷ x ∷ []) h) a g
in_pub-comes by k x h g us a text comes =
    comes_alike _ (after (text_of h k) h (λ us. has_answer (public_has h x us) by h)) a g (in_pub-is by k x h) (rw text comes)
