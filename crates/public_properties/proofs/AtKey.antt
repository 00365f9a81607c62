-- What a row comes to that looks for an object and then takes the text of a key.
use Rattle.std.proofs.Common.{◌≡◌, ℕ, suc, List, [], ◌∷◌, ◌++◌, length, Option, Some, None, Result, Ok, Err, refl, sym, ap, subst}
use Rattle.std.specs.Prelude.{is_some, codes}
use Rattle.plans.specs.Plans.{Fault}
use Rattle.es3_objects.specs.declared.value.Stop.{Stop}
use Rattle.es3_objects.specs.declared.value.Stop.TheVariants as stop
use Rattle.es3_objects.specs.declared.value.Value.{Value}
use Rattle.es3_objects.specs.declared.value.Value.TheVariants as v
use Rattle.es3_objects.specs.declared.value.Class.{Class}
use Rattle.es3_objects.specs.declared.value.Class.TheVariants as class
use Rattle.es3_heap.specs.Objects.{Objects, object_at, class_of, callable_of}
use Rattle.es3_heap.specs.Properties.{own}
use Rattle.es3_convert.specs.Answers.{Answers}
use Rattle.es3_convert.specs.Conversions.{and_then, text_of}
use Rattle.rows.specs.Rows as r
use Rattle.rows.specs.Rows.{Row, Handle, Sight, Touch, held}
use Rattle.rows.specs.Guards.{on_object, at_key}
use Rattle.heap_rows.specs.Marks.{simple_mark}
use Rattle.heap_rows.specs.Doing.{Done, Told, see, see_object, with_result, does}
use Rattle.heap_rows.specs.Opening.{place_of, empty_page}
use Rattle.row_outcomes.specs.declared.Outcome.{Outcome}
use Rattle.row_outcomes.specs.Comes.{Comes, throws}
use Rattle.row_outcomes.specs.Arguments.{after}
use Rattle.row_outcomes.proofs.Arguments.{function_sight}
use Rattle.public_properties.specs.Keys.{object_key, on_key, at_object}
use Rattle.public_properties.proofs.Alike.{Alike, comes_alike}

-- what a row comes to with these values in hand, whatever was touched before
abbrev pub Comes_to : ℕ → Row → List Value → Objects → Done → Type 0
Comes_to by row vs h d = (y : List Told) → Alike (does place_of by row vs h empty_page y).done d

-- what is seen of an object is something
abbrev pub IsSomething : Sight → Type 0
IsSomething r.nothing = ⊥
IsSomething r.a_null = ⊥
IsSomething s = Unit {0}

object_something : (n : ℕ) (h : Objects) (o : ℕ) (c : Class) → IsSomething (see_object n h o c).sight
object_something n h o class.Object = tt
object_something n h o class.Array = tt
object_something n h o class.Function = function_sight IsSomething (λ q. tt) tt (is_some (own h o simple_mark)) (callable_of (object_at h o))
object_something n h o class.Error = tt
object_something n h o class.Node = tt

some_object : (t : Touch) (o k : Handle) (go : Sight → List ℕ → Row) (s : Sight) → IsSomething s → on_object t o k go s ≡ r.as_text k (λ us. r.touches t o (us ∷ []) (go s us))
some_object t o k go r.nothing is = absurd is
some_object t o k go r.a_null is = absurd is
some_object t o k go s is = refl

-- a conversion, and then the rest
abbrev found : List ℕ → Result (Option (List ℕ)) Fault
found us = Ok (Some us)

text_then : (by : ℕ) (t : Touch) (o : Handle) (vs : List Value) (h : Objects) (go : List ℕ → Row) (answer : List ℕ → Done) (text : Result (List ℕ) Fault) (y : List Told) → ((us : List ℕ) → Comes_to by (go us) vs h (answer us))
    → Alike (with_result text h empty_page y (λ us. does place_of by (r.touches t o (us ∷ []) (go us)) vs h empty_page y)).done (after (and_then text found) h (λ f. on_key f by h answer))
text_then by t o vs h go answer (Ok us) y each = each us _
text_then by t o vs h go answer (Err f) y each = record { reply = refl; heap = refl }

seen_key : (by : ℕ) (t : Touch) (vs more : List Value) (x k : Value) (h : Objects) (go : Sight → List ℕ → Row) (answer : List ℕ → Done) (s : Sight) (y : List Told) → IsSomething s → ((us : List ℕ) → Comes_to by (go s us) ((x ∷ k ∷ vs) ++ more) h (answer us))
    → Alike (does place_of by (on_object t (held 0) (held 1) go s) ((x ∷ k ∷ vs) ++ more) h empty_page y).done (after (and_then (text_of h k) found) h (λ f. on_key f by h answer))
seen_key by t vs more x k h go answer s y is each =
    subst (λ row. Alike (does place_of by row ((x ∷ k ∷ vs) ++ more) h empty_page y).done (after (and_then (text_of h k) found) h (λ f. on_key f by h answer))) (sym (some_object t (held 0) (held 1) go s is))
    (text_then by t (held 0) ((x ∷ k ∷ vs) ++ more) h (go s) answer (text_of h k) y each)

-- the object and the key are the first two values
pub at_key-is : (by : ℕ) (t : Touch) (x k : Value) (vs : List Value) (h : Objects) (go : Sight → List ℕ → Row) (answer : List ℕ → Done)
    → ((us : List ℕ) → let seen = see h (suc (suc (length vs))) x in IsSomething seen.sight → Comes_to by (go seen.sight us) ((x ∷ k ∷ vs) ++ seen.values) h (answer us))
    → Comes_to by (at_key t (held 0) (held 1) go) (x ∷ k ∷ vs) h (at_object x k by h answer)
at_key-is by t v.Undefined k vs h go answer each = λ y. record { reply = refl; heap = refl }
at_key-is by t v.Null k vs h go answer each = λ y. record { reply = refl; heap = refl }
at_key-is by t (v.Bool b) k vs h go answer each = λ y. seen_key by t vs [] (v.Bool b) k h go answer (r.a_truth b) y tt (λ us. each us tt)
at_key-is by t (v.Num n) k vs h go answer each = λ y. seen_key by t vs [] (v.Num n) k h go answer (r.a_number n) y tt (λ us. each us tt)
at_key-is by t (v.Text us) k vs h go answer each = λ y. seen_key by t vs [] (v.Text us) k h go answer (r.a_text us) y tt (λ k. each k tt)
at_key-is by t (v.Obj o) k vs h go answer each = λ y.
    let n = suc (suc (length vs)) in
    let c = class_of (object_at h o) in
    let seen = see_object n h o c in
    let some = object_something n h o c in
    seen_key by t vs seen.values (v.Obj o) k h go answer seen.sight y some (λ us. each us some)

-- an outcome of a function that does so is the row's

pub at_some : (d : Done) (x k : Value) (by : ℕ) (h g : Objects) (answer : List ℕ → Done) (us : List ℕ) (r : Result Outcome Stop) → Alike d (at_object x k by h answer) → object_key h x k ≡ Ok (Some us) → Comes (answer us) r g → Comes d r g
at_some d x k by h g answer us r alike key comes =
    comes_alike d (at_object x k by h answer) r g alike
    (subst (λ q. Comes q r g) (sym (ap (λ f. after f h (λ found. on_key found by h answer)) key)) comes)

pub at_none : (d : Done) (x k : Value) (by : ℕ) (h g : Objects) (answer : List ℕ → Done) (r : Result Outcome Stop) → Alike d (at_object x k by h answer) → object_key h x k ≡ Ok None → Comes (throws (codes "no object") by h) r g → Comes d r g
at_none d x k by h g answer r alike key comes =
    comes_alike d (at_object x k by h answer) r g alike
    (subst (λ q. Comes q r g) (sym (ap (λ f. after f h (λ found. on_key found by h answer)) key)) comes)

-- a fault of a conversion is what is told in its place
pub fault_comes : {A : Type 0} (e : Stop) (t : Result A Fault) (h : Objects) (answer : A → Done) → Answers {A = A} (Err e) t → Comes (after t h answer) (Err e) h
fault_comes stop.Number t h answer is = rw is (refl, refl)
fault_comes stop.Depth t h answer is = rw is (refl, refl)
fault_comes stop.Convert t h answer is = rw is (refl, refl)
fault_comes stop.Steps t h answer is = is
fault_comes stop.Memory t h answer is = tt

pub at_fault : (d : Done) (x k : Value) (by : ℕ) (h : Objects) (answer : List ℕ → Done) (e : Stop) → Alike d (at_object x k by h answer) → Answers {A = Option (List ℕ)} (Err e) (object_key h x k) → Comes d (Err e) h
at_fault d x k by h answer e alike is = comes_alike d (at_object x k by h answer) (Err e) h alike (fault_comes e (object_key h x k) h (λ found. on_key found by h answer) is)
