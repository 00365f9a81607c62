-- The handle that a row has for a public property of its first value stands for what is read.
use Rattle.std.proofs.Common.{◌≡◌, ℕ, zero, suc, ◌+◌, Bool, true, false, ◌||◌, List, [], ◌∷◌, ◌++◌, length, Option, Some, None, cond, refl, sym, ap, ◌∙◌, subst, append_assoc, arith}
use Rattle.std.specs.Prelude.{slice_get, option_map, is_some, nat_lt, codes, pos, map}
use Rattle.std.specs.Cmp.Lexicographic.{same_text}
use Rattle.std.proofs.lemmas.Bool.Decides.{nat_tests}
use Rattle.std.proofs.lemmas.Option.{same_Some}
use Rattle.caja_units.specs.Units.{same_units, is_hidden}
use Rattle.caja_units.specs.Index.{array_index, number_units}
use Rattle.es3_objects.specs.declared.value.Value.{Value}
use Rattle.es3_objects.specs.declared.value.Value.TheVariants as v
use Rattle.es3_objects.specs.declared.value.Class.{Class}
use Rattle.es3_objects.specs.declared.value.Class.TheVariants as class
use Rattle.es3_objects.specs.declared.value.FuncKind.TheVariants as kind
use Rattle.es3_heap.specs.Objects.{Property, Callable, Objects, object_at, class_of, callable_of, props_of}
use Rattle.es3_heap.specs.Properties.{own, value_of, length_key}
use Rattle.es3_objects.specs.Reading.{kind_of}
use Rattle.es3_convert.specs.Conversions.{items_from, array_items}
use Rattle.rows.specs.Rows as r
use Rattle.rows.specs.Rows.{Native, Handle, held, handles, keyed_handles}
use Rattle.rows.specs.Names.{method, is_of_text, text_methods, array_methods, function_methods, node_methods}
use Rattle.rows.specs.Public.{value_at, item_at, of_value, or_undefined, property, pub_get}
use Rattle.heap_rows.specs.Marks.{is_frozen, simple_mark}
use Rattle.heap_rows.specs.Doing.{value_in, guests, sort_seen, text_in, see, see_object}
use Rattle.heap_rows.specs.Opening.{place_of}
use Rattle.heap_rows.proofs.Handles.{item_held, length-handles, key_held}
use Rattle.row_outcomes.proofs.Arguments.{Stands}
use Rattle.guard_marks.specs.Functions.{is_for_modules_if}
use Rattle.public_properties.specs.Reading.{method_value, item_count, item_or_method, object_value, public_value, public_read}

-- a key that is not hidden is what counts
hidden_in : (vs : List Value) (b : Bool) (x : Handle) (z : Value) → (b ≡ false → value_in place_of vs x ≡ z) → value_in place_of vs (cond b r.undefined x) ≡ cond b v.Undefined z
hidden_in vs true x z same = refl
hidden_in vs false x z same = same refl

-- methods, where the receiver is the first value

object_method : (o : ℕ) (rest : List Value) (table : List (List ℕ × Native)) (k : List ℕ) → value_in place_of (v.Obj o ∷ rest) (or_undefined (of_value (held 0) (method table k))) ≡ method_value table k
object_method o rest [] k = refl
object_method o rest (m ∷ table) k =
    elim (same_units k m.0) as (λ b. value_in place_of (v.Obj o ∷ rest) (or_undefined (of_value (held 0) (cond b (Some m.1) (method table k)))) ≡ cond b (v.Obj (place_of m.1)) (method_value table k)) [
      | true ↦ refl
      | false ↦ object_method o rest table k
    ]

abbrev AreOfText : List (List ℕ × Native) → Type 0
AreOfText [] = Unit {0}
AreOfText (m ∷ table) = (is_of_text m.1 ≡ true) × AreOfText table

text_method : (us : List ℕ) (rest : List Value) (table : List (List ℕ × Native)) (k : List ℕ) → AreOfText table → value_in place_of (v.Text us ∷ rest) (or_undefined (of_value (held 0) (method table k))) ≡ method_value table k
text_method us rest [] k are = refl
text_method us rest (m ∷ table) k are =
    elim (same_units k m.0) as (λ b. value_in place_of (v.Text us ∷ rest) (or_undefined (of_value (held 0) (cond b (Some m.1) (method table k)))) ≡ cond b (v.Obj (place_of m.1)) (method_value table k)) [
      | true ↦ rw are.0 refl
      | false ↦ text_method us rest table k are.1
    ]

-- of texts
text_property : (us : List ℕ) (rest : List Value) (k : List ℕ) → value_in place_of (v.Text us ∷ rest) (or_undefined (property (held 0) (r.a_text us) k)) ≡ cond (same_units k length_key) (v.Num (pos (length us))) (method_value text_methods k)
text_property us rest k =
    elim (same_units k length_key) as (λ b. value_in place_of (v.Text us ∷ rest) (or_undefined (cond b (Some (r.number (pos (length us)))) (of_value (held 0) (method text_methods k)))) ≡ cond b (v.Num (pos (length us))) (method_value text_methods k)) [
      | true ↦ refl
      | false ↦ text_method us rest text_methods k (refl, (refl, (refl, (refl, (refl, (refl, (refl, (refl, tt))))))))
    ]

-- of functions
function_property : (simple : Bool) (c : Option Callable) (o : ℕ) (rest : List Value) (k : List ℕ) → value_in place_of (v.Obj o ∷ rest) (or_undefined (property (held 0) (sort_seen simple c) k)) ≡ cond (is_for_modules_if simple (kind_of c)) (method_value function_methods k) v.Undefined
function_property simple None o rest k = refl
function_property simple (Some c) o rest k =
    elim c.kind as (λ q. let d : Callable = record { kind = q; maker = c.maker } in value_in place_of (v.Obj o ∷ rest) (or_undefined (property (held 0) (sort_seen simple (Some d)) k)) ≡ cond (is_for_modules_if simple (Some q)) (method_value function_methods k) v.Undefined) [
      | kind.Code n ↦ elim simple as (λ b. let d : Callable = record { kind = kind.Code n; maker = c.maker } in value_in place_of (v.Obj o ∷ rest) (or_undefined (property (held 0) (sort_seen b (Some d)) k)) ≡ cond b (method_value function_methods k) v.Undefined) [
        | true ↦ object_method o rest function_methods k
        | false ↦ refl
      ]
      | kind.Simple n ↦ object_method o rest function_methods k
      | kind.Constructor n ↦ object_method o rest function_methods k
      | kind.Exophoric n w ↦ object_method o rest function_methods k
    ]

-- of errors
error_part : (f : List ℕ → List ℕ) (k : List ℕ) (vs : List Value) → value_in place_of vs (or_undefined (cond (same_units k (codes "name")) (Some (r.text (f (codes "name")))) (cond (same_units k (codes "message")) (Some (r.text (f (codes "message")))) None)))
    ≡ cond (same_units k (codes "name") || same_units k (codes "message")) (v.Text (f k)) v.Undefined
error_part f k vs =
    let name = elim (same_units k (codes "name")) as (λ b. same_units k (codes "name") ≡ b → value_in place_of vs (or_undefined (cond b (Some (r.text (f (codes "name")))) (cond (same_units k (codes "message")) (Some (r.text (f (codes "message")))) None))) ≡ cond (b || same_units k (codes "message")) (v.Text (f k)) v.Undefined) [
      | true ↦ λ e. ap (λ j. v.Text (f j)) (sym (same_text k (codes "name") (sym e)))
      | false ↦ λ e.
          let message = elim (same_units k (codes "message")) as (λ b. same_units k (codes "message") ≡ b → value_in place_of vs (or_undefined (cond b (Some (r.text (f (codes "message")))) None)) ≡ cond b (v.Text (f k)) v.Undefined) [
            | true ↦ λ e. ap (λ j. v.Text (f j)) (sym (same_text k (codes "message") (sym e)))
            | false ↦ λ e. refl
          ] in message refl
    ] in name refl

-- of arrays

length-items : (n i : ℕ) (h : Objects) (o : ℕ) → length (items_from n i h o) ≡ n
length-items zero i h o = refl
length-items (suc n) i h o = ap suc (length-items n (i + 1) h o)

no_less : (j : ℕ) → nat_lt j 0 ≡ false
no_less j = grind (arith, nat_tests)

first_less : (n : ℕ) → nat_lt 0 (suc n) ≡ true
first_less n = grind (arith, nat_tests)

next_less : (j n : ℕ) → nat_lt (suc j) (suc n) ≡ nat_lt j n
next_less j n = grind (arith, nat_tests)

items_get : (n i j : ℕ) (h : Objects) (o : ℕ) → slice_get (items_from n i h o) j ≡ cond (nat_lt j n) (Some (value_of (own h o (number_units (j + i))))) None
items_get zero i j h o = rw (no_less j) refl
items_get (suc n) i zero h o = let e : 0 + i ≡ i = omega arith in rw (first_less n, e) refl
items_get (suc n) i (suc j) h o = let e : suc j + i ≡ j + (i + 1) = omega arith in rw (next_less j n, e) (items_get n (i + 1) j h o)

pub own_item : (j : ℕ) (h : Objects) (o : ℕ) → slice_get (array_items h o) j ≡ cond (nat_lt j (item_count h o)) (Some (value_of (own h o (number_units j)))) None
own_item j h o =
    let e : j + 0 ≡ j = omega arith in
    items_get (item_count h o) 0 j h o ∙ ap (λ m. cond (nat_lt j (item_count h o)) (Some (value_of (own h o (number_units m)))) None) e

pub item_count-is : (h : Objects) (o : ℕ) → length (array_items h o) ≡ item_count h o
item_count-is h o = length-items (item_count h o) 0 h o

-- what an option gives, or another one in its place
picked : (vs : List Value) (q m : Option Handle) (b : Bool) (w u : Value) → option_map (value_in place_of vs) q ≡ cond b (Some w) None → value_in place_of vs (or_undefined m) ≡ u → value_in place_of vs (or_undefined (cond (is_some q) q m)) ≡ cond b w u
picked vs None m true w u e f = cc
picked vs None m false w u e f = f
picked vs (Some x) m true w u e f = same_Some (value_in place_of vs x) w e
picked vs (Some x) m false w u e f = cc

-- an item, where the items of the first value stand behind the others
item_property : (i : Option ℕ) (o n : ℕ) (rest more : List Value) (h : Objects) (k : List ℕ) → suc (length rest) ≡ n →
    let xs = handles n (array_items h o) in
    value_in place_of ((v.Obj o ∷ rest) ++ (array_items h o ++ more)) (or_undefined (cond (is_some (item_at i xs)) (item_at i xs) (of_value (held 0) (method array_methods k)))) ≡ item_or_method i h o k
item_property None o n rest more h k len = object_method o (rest ++ (array_items h o ++ more)) array_methods k
item_property (Some i) o n rest more h k len =
    picked ((v.Obj o ∷ rest) ++ (array_items h o ++ more)) (slice_get (handles n (array_items h o)) i) (of_value (held 0) (method array_methods k)) (nat_lt i (item_count h o)) (value_of (own h o (number_units i))) (method_value array_methods k)
    (item_held place_of (v.Obj o ∷ rest) (array_items h o) more n i len ∙ own_item i h o)
    (object_method o (rest ++ (array_items h o ++ more)) array_methods k)

array_property : (o n : ℕ) (rest more : List Value) (h : Objects) (frozen : Bool) (k : List ℕ) → suc (length rest) ≡ n
    → value_in place_of ((v.Obj o ∷ rest) ++ (array_items h o ++ more)) (or_undefined (property (held 0) (r.an_array frozen (handles n (array_items h o))) k)) ≡ object_value class.Array h o k
array_property o n rest more h frozen k len =
    let vs = (v.Obj o ∷ rest) ++ (array_items h o ++ more) in
    let xs = handles n (array_items h o) in
    let count : length xs ≡ item_count h o = length-handles n (array_items h o) ∙ item_count-is h o in
    elim (same_units k length_key) as (λ b. value_in place_of vs (or_undefined (cond b (Some (r.number (pos (length xs)))) (cond (is_some (item_at (array_index k) xs)) (item_at (array_index k) xs) (of_value (held 0) (method array_methods k))))) ≡ cond b (v.Num (pos (item_count h o))) (item_or_method (array_index k) h o k)) [
      | true ↦ ap (λ n. v.Num (pos n)) count
      | false ↦ item_property (array_index k) o n rest more h k len
    ]

-- of records
found : (vs : List Value) (q : Option Handle) (w : Option Property) → option_map (value_in place_of vs) q ≡ option_map (λ p. p.value) w → value_in place_of vs (or_undefined q) ≡ value_of w
found vs None None e = refl
found vs None (Some p) e = let wrong : None ≡ Some p.value = e in cc
found vs (Some x) None e = let wrong : Some (value_in place_of vs x) ≡ None = e in cc
found vs (Some x) (Some p) e = same_Some (value_in place_of vs x) p.value e

-- of an object, by its class
object_property : (o n : ℕ) (rest more : List Value) (h : Objects) (c : Class) (us : List ℕ) → suc (length rest) ≡ n → is_hidden us ≡ false →
    let seen = see_object n h o c in
    value_in place_of ((v.Obj o ∷ rest) ++ (seen.values ++ more)) (or_undefined (property (held 0) seen.sight us)) ≡ object_value c h o us
object_property o n rest more h class.Object us len seen =
    let ps = props_of (object_at h o) in
    found ((v.Obj o ∷ rest) ++ (map (λ p. p.1) (guests ps) ++ more)) (value_at us (keyed_handles n (guests ps))) (own h o us) (key_held place_of us (v.Obj o ∷ rest) ps more n len seen)
object_property o n rest more h class.Array us len seen = array_property o n rest more h (is_frozen h o) us len
object_property o n rest more h class.Function us len seen = function_property (is_some (own h o simple_mark)) (callable_of (object_at h o)) o (rest ++ ([] ++ more)) us
object_property o n rest more h class.Error us len seen =
    let part : List ℕ → List ℕ = λ k. text_in (value_of (own h o k)) in
    error_part part us ((v.Obj o ∷ rest) ++ ([] ++ more))
object_property o n rest more h class.Node us len seen = object_method o (rest ++ ([] ++ more)) node_methods us

-- the first value's property, among all that is seen of it and more behind
pub property_stands : (o : Value) (rest : List Value) (h : Objects) (us : List ℕ) →
    let seen = see h (suc (length rest)) o in
    Stands ((o ∷ rest) ++ seen.values) (pub_get (held 0) seen.sight us) (public_read h o us)
property_stands v.Undefined rest h us = λ more. hidden_in (((v.Undefined ∷ rest) ++ []) ++ more) (is_hidden us) (or_undefined (property (held 0) r.nothing us)) v.Undefined (λ seen. refl)
property_stands v.Null rest h us = λ more. hidden_in (((v.Null ∷ rest) ++ []) ++ more) (is_hidden us) (or_undefined (property (held 0) r.a_null us)) v.Undefined (λ seen. refl)
property_stands (v.Bool b) rest h us = λ more. hidden_in ((((v.Bool b) ∷ rest) ++ []) ++ more) (is_hidden us) (or_undefined (property (held 0) (r.a_truth b) us)) v.Undefined (λ seen. refl)
property_stands (v.Num n) rest h us = λ more. hidden_in ((((v.Num n) ∷ rest) ++ []) ++ more) (is_hidden us) (or_undefined (property (held 0) (r.a_number n) us)) v.Undefined (λ seen. refl)
property_stands (v.Text ts) rest h us = λ more. hidden_in (((v.Text ts ∷ rest) ++ []) ++ more) (is_hidden us) (or_undefined (property (held 0) (r.a_text ts) us)) (public_value h (v.Text ts) us) (λ seen. text_property ts ((rest ++ []) ++ more) us)
property_stands (v.Obj o) rest h us = λ more.
    let n = suc (length rest) in
    let seen = see_object n h o (class_of (object_at h o)) in
    hidden_in (((v.Obj o ∷ rest) ++ seen.values) ++ more) (is_hidden us) (or_undefined (property (held 0) seen.sight us)) (object_value (class_of (object_at h o)) h o us) (λ apart.
    subst (λ l. value_in place_of l (or_undefined (property (held 0) seen.sight us)) ≡ object_value (class_of (object_at h o)) h o us) (sym (append_assoc (v.Obj o ∷ rest) seen.values more))
    (object_property o n rest more h (class_of (object_at h o)) us refl apart))
