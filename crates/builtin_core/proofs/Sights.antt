-- What is seen of a value, by its kind, and what the rows that ask for it come to.
use Rattle.std.proofs.Common.{◌≡◌, ℕ, suc, Bool, true, false, List, [], ◌∷◌, length, refl, ap, ◌∙◌}
use Rattle.std.specs.Prelude.{is_some}
use Rattle.es3_objects.specs.declared.value.Value.{Value}
use Rattle.es3_objects.specs.declared.value.Value.TheVariants as v
use Rattle.es3_objects.specs.declared.value.Class.{Class}
use Rattle.es3_objects.specs.declared.value.Class.TheVariants as class
use Rattle.es3_heap.specs.Objects.{Objects, object_at, class_of, callable_of}
use Rattle.es3_heap.specs.Properties.{own}
use Rattle.es3_convert.specs.Comparisons.{truth_of}
use Rattle.rows.specs.Rows as r
use Rattle.rows.specs.Rows.{Sight}
use Rattle.rows.specs.Arguments as rows
use Rattle.rows.specs.Core.{seen_array, seen_record, seen_true, is_callable}
use Rattle.heap_rows.specs.Marks.{simple_mark}
use Rattle.heap_rows.specs.Doing.{Done, see, see_object, value_in, gives}
use Rattle.heap_rows.specs.Opening.{place_of}
use Rattle.row_outcomes.specs.Comes.{row_done}
use Rattle.row_outcomes.specs.Arguments.{argument}
use Rattle.row_outcomes.proofs.Arguments.{argument_held, handle_now, function_sight}
use Rattle.builtin_core.specs.Seeing.{is_class_array, has_class_array, is_class_object, has_class_object, is_class_function, has_class_function}

-- the facts that are told of what is seen of an object

array_object : (n : ℕ) (h : Objects) (o : ℕ) (c : Class) → seen_array (see_object n h o c).sight ≡ is_class_array c
array_object n h o class.Object = refl
array_object n h o class.Array = refl
array_object n h o class.Function = function_sight (λ s. seen_array s ≡ false) (λ q. refl) refl (is_some (own h o simple_mark)) (callable_of (object_at h o))
array_object n h o class.Error = refl
array_object n h o class.Node = refl

array_seen : (n : ℕ) (h : Objects) (x : Value) → seen_array (see h n x).sight ≡ has_class_array h x
array_seen n h v.Undefined = refl
array_seen n h v.Null = refl
array_seen n h (v.Bool b) = refl
array_seen n h (v.Num i) = refl
array_seen n h (v.Text us) = refl
array_seen n h (v.Obj o) = array_object n h o (class_of (object_at h o))

record_object : (n : ℕ) (h : Objects) (o : ℕ) (c : Class) → seen_record (see_object n h o c).sight ≡ is_class_object c
record_object n h o class.Object = refl
record_object n h o class.Array = refl
record_object n h o class.Function = function_sight (λ s. seen_record s ≡ false) (λ q. refl) refl (is_some (own h o simple_mark)) (callable_of (object_at h o))
record_object n h o class.Error = refl
record_object n h o class.Node = refl

record_seen : (n : ℕ) (h : Objects) (x : Value) → seen_record (see h n x).sight ≡ has_class_object h x
record_seen n h v.Undefined = refl
record_seen n h v.Null = refl
record_seen n h (v.Bool b) = refl
record_seen n h (v.Num i) = refl
record_seen n h (v.Text us) = refl
record_seen n h (v.Obj o) = record_object n h o (class_of (object_at h o))

true_object : (n : ℕ) (h : Objects) (o : ℕ) (c : Class) → seen_true (see_object n h o c).sight ≡ true
true_object n h o class.Object = refl
true_object n h o class.Array = refl
true_object n h o class.Function = function_sight (λ s. seen_true s ≡ true) (λ q. refl) refl (is_some (own h o simple_mark)) (callable_of (object_at h o))
true_object n h o class.Error = refl
true_object n h o class.Node = refl

true_seen : (n : ℕ) (h : Objects) (x : Value) → seen_true (see h n x).sight ≡ truth_of x
true_seen n h v.Undefined = refl
true_seen n h v.Null = refl
true_seen n h (v.Bool b) = refl
true_seen n h (v.Num i) = refl
true_seen n h (v.Text []) = refl
true_seen n h (v.Text (u ∷ us)) = refl
true_seen n h (v.Obj o) = true_object n h o (class_of (object_at h o))

callable_object : (n : ℕ) (h : Objects) (o : ℕ) (c : Class) → is_callable (see_object n h o c).sight ≡ is_class_function c
callable_object n h o class.Object = refl
callable_object n h o class.Array = refl
callable_object n h o class.Function = function_sight (λ s. is_callable s ≡ true) (λ q. refl) refl (is_some (own h o simple_mark)) (callable_of (object_at h o))
callable_object n h o class.Error = refl
callable_object n h o class.Node = refl

pub callable_seen : (n : ℕ) (h : Objects) (x : Value) → is_callable (see h n x).sight ≡ has_class_function h x
callable_seen n h v.Undefined = refl
callable_seen n h v.Null = refl
callable_seen n h (v.Bool b) = refl
callable_seen n h (v.Num i) = refl
callable_seen n h (v.Text us) = refl
callable_seen n h (v.Obj o) = callable_object n h o (class_of (object_at h o))

-- what is told of the first argument
abbrev tells : Bool → Objects → Done
tells b h = gives (v.Bool b) h []

told : (f : Sight → Bool) (g : Value → Bool) (this : Value) (args : List Value) (h : Objects) → ((x : Value) → f (see h (suc (length args)) x).sight ≡ g x)
    → tells (f (see h (suc (length args)) (value_in place_of (this ∷ args) (rows.argument 0 (suc (length args))))).sight) h ≡ tells (g (argument 0 args)) h
told f g this args h same = ap (λ b. tells b h) (same _ ∙ ap g (handle_now (this ∷ args) (rows.argument 0 (suc (length args))) (argument 0 args) (argument_held place_of 0 this args)))

pub is_array-is : (by : ℕ) (this : Value) (args : List Value) (h : Objects) → row_done r.is_array by this args h ≡ gives (v.Bool (has_class_array h (argument 0 args))) h []
is_array-is by this args h = told seen_array (has_class_array h) this args h (array_seen (suc (length args)) h)

pub is_record-is : (by : ℕ) (this : Value) (args : List Value) (h : Objects) → row_done r.is_record by this args h ≡ gives (v.Bool (has_class_object h (argument 0 args))) h []
is_record-is by this args h = told seen_record (has_class_object h) this args h (record_seen (suc (length args)) h)

pub truth_from-is : (by : ℕ) (this : Value) (args : List Value) (h : Objects) → row_done r.truth_from by this args h ≡ gives (v.Bool (truth_of (argument 0 args))) h []
truth_from-is by this args h = told seen_true truth_of this args h (true_seen (suc (length args)) h)
