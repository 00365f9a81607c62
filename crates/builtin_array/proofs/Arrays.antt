-- What the rows of methods of arrays make of their receiver.
use Rattle.std.proofs.Common.{◌≡◌, ℕ, suc, Bool, true, false, List, [], ◌∷◌, ◌++◌, length, Option, refl, sym, ap, ◌∙◌}
use Rattle.std.specs.Prelude.{codes, is_some, map}
use Rattle.std.proofs.lemmas.List.{length-map}
use Rattle.es3_objects.specs.declared.value.Value.{Value}
use Rattle.es3_objects.specs.declared.value.Value.TheVariants as v
use Rattle.es3_objects.specs.declared.value.Class.{Class}
use Rattle.es3_objects.specs.declared.value.Class.TheVariants as class
use Rattle.es3_heap.specs.Objects.{Objects, Callable, object_at, class_of, callable_of}
use Rattle.es3_heap.specs.Properties.{own}
use Rattle.es3_convert.specs.Conversions.{array_items}
use Rattle.rows.specs.Rows as r
use Rattle.rows.specs.Rows.{Row, Handle, Sight, Ending, held, handles, ends}
use Rattle.rows.specs.Arguments.{array_seen, on_array, open_seen, on_open_array}
use Rattle.heap_rows.specs.Marks.{is_frozen, simple_mark}
use Rattle.heap_rows.specs.Doing.{Done, value_in, sort_seen, see_object, does}
use Rattle.heap_rows.specs.Opening.{place_of, empty_page}
use Rattle.row_outcomes.specs.Arrays.{changed_array}
use Rattle.row_outcomes.proofs.Arguments.{function_sight}
use Rattle.builtin_array.specs.Receivers.{array_of_class, array_of, unless_frozen, opened, open_array_of, on_receiver}

-- a row, or the end of one, with a receiver and arguments in hand, and what was seen behind them
abbrev pub comes : ℕ → Row → Value → List Value → Objects → Done
comes by row this vs h = (does place_of by row (this ∷ vs) h empty_page []).done

-- what is no array
abbrev pub IsNoArray : Sight → Type 0
IsNoArray (r.an_array frozen xs) = ⊥
IsNoArray s = Unit {0}

pub function_seen : (simple : Bool) (c : Option Callable) → IsNoArray (sort_seen simple c)
function_seen simple c = function_sight IsNoArray (λ q. tt) tt simple c

no_array : (go : List Handle → Row) (s : Sight) → IsNoArray s → array_seen go s ≡ ends (r.throws (codes "bad receiver"))
no_array go (r.an_array frozen xs) is = absurd is
no_array go s is = refl

no_open_array : (go : List Handle → Ending) (s : Sight) → IsNoArray s → open_seen go s ≡ r.throws (codes "bad receiver")
no_open_array go (r.an_array frozen xs) is = absurd is
no_open_array go s is = refl

-- a method of arrays

array_at : (by : ℕ) (o : ℕ) (args : List Value) (h : Objects) (c : Class) (go : List Handle → Row) (answer : ℕ → Done)
    → (c ≡ class.Array → comes by (go (handles (suc (length args)) (array_items h o))) (v.Obj o) (args ++ array_items h o) h ≡ answer o)
    → comes by (array_seen go (see_object (suc (length args)) h o c).sight) (v.Obj o) (args ++ (see_object (suc (length args)) h o c).values) h ≡ on_receiver (array_of_class c o) by h answer
array_at by o args h class.Object go answer at_items = refl
array_at by o args h class.Array go answer at_items = at_items refl
array_at by o args h class.Function go answer at_items = rw (no_array go (sort_seen (is_some (own h o simple_mark)) (callable_of (object_at h o))) (function_seen (is_some (own h o simple_mark)) (callable_of (object_at h o)))) refl
array_at by o args h class.Error go answer at_items = refl
array_at by o args h class.Node go answer at_items = refl

pub on_array_is : (by : ℕ) (this : Value) (args : List Value) (h : Objects) (go : List Handle → Row) (answer : ℕ → Done)
    → ((o : ℕ) → this ≡ v.Obj o → class_of (object_at h o) ≡ class.Array → comes by (go (handles (suc (length args)) (array_items h o))) this (args ++ array_items h o) h ≡ answer o)
    → comes by (on_array go) this args h ≡ on_receiver (array_of h this) by h answer
on_array_is by v.Undefined args h go answer at_items = refl
on_array_is by v.Null args h go answer at_items = refl
on_array_is by (v.Bool b) args h go answer at_items = refl
on_array_is by (v.Num n) args h go answer at_items = refl
on_array_is by (v.Text us) args h go answer at_items = refl
on_array_is by (v.Obj o) args h go answer at_items = array_at by o args h (class_of (object_at h o)) go answer (at_items o refl)

-- a method that changes an array

open_at : (by : ℕ) (o : ℕ) (args : List Value) (h : Objects) (frozen : Bool) (go : List Handle → Ending) (answer : ℕ → Done)
    → (frozen ≡ false → comes by (ends (go (handles (suc (length args)) (array_items h o)))) (v.Obj o) (args ++ array_items h o) h ≡ answer o)
    → comes by (ends (open_seen go (r.an_array frozen (handles (suc (length args)) (array_items h o))))) (v.Obj o) (args ++ array_items h o) h ≡ on_receiver (unless_frozen frozen o) by h answer
open_at by o args h true go answer at_items = refl
open_at by o args h false go answer at_items = at_items refl

open_array_at : (by : ℕ) (o : ℕ) (args : List Value) (h : Objects) (c : Class) (go : List Handle → Ending) (answer : ℕ → Done)
    → (c ≡ class.Array → is_frozen h o ≡ false → comes by (ends (go (handles (suc (length args)) (array_items h o)))) (v.Obj o) (args ++ array_items h o) h ≡ answer o)
    → comes by (ends (open_seen go (see_object (suc (length args)) h o c).sight)) (v.Obj o) (args ++ (see_object (suc (length args)) h o c).values) h ≡ on_receiver (opened h (array_of_class c o)) by h answer
open_array_at by o args h class.Object go answer at_items = refl
open_array_at by o args h class.Array go answer at_items = open_at by o args h (is_frozen h o) go answer (at_items refl)
open_array_at by o args h class.Function go answer at_items = rw (no_open_array go (sort_seen (is_some (own h o simple_mark)) (callable_of (object_at h o))) (function_seen (is_some (own h o simple_mark)) (callable_of (object_at h o)))) refl
open_array_at by o args h class.Error go answer at_items = refl
open_array_at by o args h class.Node go answer at_items = refl

-- a value that may be changed as an array
pub record IsOpen (this : Value) (h : Objects) (o : ℕ) : Type 0 where
  pub value : this ≡ v.Obj o
  pub class : class_of (object_at h o) ≡ class.Array
  pub writable : is_frozen h o ≡ false

pub on_open_array_is : (by : ℕ) (this : Value) (args : List Value) (h : Objects) (go : List Handle → Ending) (answer : ℕ → Done)
    → ((o : ℕ) → IsOpen this h o → comes by (ends (go (handles (suc (length args)) (array_items h o)))) this (args ++ array_items h o) h ≡ answer o)
    → comes by (on_open_array go) this args h ≡ on_receiver (open_array_of h this) by h answer
on_open_array_is by v.Undefined args h go answer at_items = refl
on_open_array_is by v.Null args h go answer at_items = refl
on_open_array_is by (v.Bool b) args h go answer at_items = refl
on_open_array_is by (v.Num n) args h go answer at_items = refl
on_open_array_is by (v.Text us) args h go answer at_items = refl
on_open_array_is by (v.Obj o) args h go answer at_items = open_array_at by o args h (class_of (object_at h o)) go answer (λ c f. at_items o (record { value = refl; class = c; writable = f }))

-- the receiver gets other items

pub changed : (by : ℕ) (this : Value) (vs : List Value) (h : Objects) (o : ℕ) (xs : List Handle) (zs : List Value) (x : Handle) (z : Value) → IsOpen this h o
    → map (value_in place_of (this ∷ vs)) xs ≡ zs → value_in place_of (this ∷ vs) x ≡ z → comes by (ends (r.sets_items (held 0) xs x)) this vs h ≡ changed_array o zs z h
changed by this vs h o xs zs x z is stand stands =
    let count : length xs ≡ length zs = sym (length-map xs (value_in place_of (this ∷ vs))) ∙ ap length stand in
    rw (stand, count, stands, is.value, is.class, is.writable) refl
