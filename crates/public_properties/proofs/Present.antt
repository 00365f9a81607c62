-- Which keys a row sees in a value, and which it has.
use Rattle.std.proofs.Common.{◌≡◌, ℕ, Bool, true, false, List, [], ◌++◌, length, Option, Some, None, refl, ap, ◌∙◌}
use Rattle.std.specs.Prelude.{slice_get, option_map, is_some, nat_lt, not, ◌&&◌, ◌||◌, cond}
use Rattle.caja_units.specs.Units.{same_units, is_hidden}
use Rattle.caja_units.specs.Index.{array_index, number_units}
use Rattle.es3_objects.specs.declared.value.Value.{Value}
use Rattle.es3_objects.specs.declared.value.Value.TheVariants as v
use Rattle.es3_objects.specs.declared.value.Class.{Class}
use Rattle.es3_objects.specs.declared.value.Class.TheVariants as class
use Rattle.es3_heap.specs.Objects.{Objects, object_at, class_of, callable_of, props_of}
use Rattle.es3_heap.specs.Properties.{own, value_of, length_key}
use Rattle.es3_convert.specs.Conversions.{array_items}
use Rattle.rows.specs.Rows.{handles, keyed_handles}
use Rattle.rows.specs.Public.{value_at, item_at, pub_has}
use Rattle.heap_rows.specs.Marks.{simple_mark}
use Rattle.heap_rows.specs.Doing.{value_in, guests, see, see_object}
use Rattle.heap_rows.specs.Opening.{place_of}
use Rattle.heap_rows.proofs.Handles.{item_held, key_held}
use Rattle.row_outcomes.proofs.Arguments.{function_sight}
use Rattle.public_properties.specs.Reading.{item_count}
use Rattle.public_properties.specs.Having.{has_item, object_has, public_has}
use Rattle.public_properties.proofs.Properties.{own_item}

some_map : {A B C : Type 0} (f : A → C) (g : B → C) (p : Option A) (q : Option B) → option_map f p ≡ option_map g q → is_some p ≡ is_some q
some_map f g None None e = refl
some_map f g None (Some y) e = let wrong : None ≡ Some (g y) = e in cc
some_map f g (Some x) None e = let wrong : Some (f x) ≡ None = e in cc
some_map f g (Some x) (Some y) e = refl

some_if : {A B : Type 0} (f : A → B) (p : Option A) (b : Bool) (y : B) → option_map f p ≡ cond b (Some y) None → is_some p ≡ b
some_if f None true y e = cc
some_if f None false y e = refl
some_if f (Some x) true y e = refl
some_if f (Some x) false y e = cc

has_item-is : (i : Option ℕ) (h : Objects) (o : ℕ) (n : ℕ) (vs more : List Value) → length vs ≡ n → is_some (item_at i (handles n (array_items h o))) ≡ has_item i h o
has_item-is None h o n vs more len = refl
has_item-is (Some i) h o n vs more len =
    some_if (value_in place_of (vs ++ (array_items h o ++ more))) (slice_get (handles n (array_items h o)) i) (nat_lt i (item_count h o)) (value_of (own h o (number_units i)))
    (item_held place_of vs (array_items h o) more n i len ∙ own_item i h o)

seen_key : (hidden b c : Bool) → (hidden ≡ false → b ≡ c) → (not hidden && b) ≡ (not hidden && c)
seen_key true b c same = refl
seen_key false b c same = same refl

-- a record has each key that is seen in it
pub own_seen : (n : ℕ) (vs : List Value) (h : Objects) (o : ℕ) (us : List ℕ) → length vs ≡ n → is_hidden us ≡ false → is_some (value_at us (keyed_handles n (guests (props_of (object_at h o))))) ≡ is_some (own h o us)
own_seen n vs h o us len seen = some_map _ _ _ _ (key_held place_of us vs (props_of (object_at h o)) [] n len seen)

abbrev told : Bool → Option Bool
told b = Some b

object_has-is : (n : ℕ) (vs : List Value) (h : Objects) (o : ℕ) (c : Class) (us : List ℕ) → length vs ≡ n → pub_has (see_object n h o c).sight us ≡ Some (not (is_hidden us) && object_has c h o us)
object_has-is n vs h o class.Object us len = ap told (seen_key (is_hidden us) (is_some (value_at us (keyed_handles n (guests (props_of (object_at h o)))))) (is_some (own h o us)) (own_seen n vs h o us len))
object_has-is n vs h o class.Array us len = ap (λ b. told (not (is_hidden us) && (same_units us length_key || b))) (has_item-is (array_index us) h o n vs [] len)
object_has-is n vs h o class.Function us len =
    function_sight (λ s. pub_has s us ≡ Some (not (is_hidden us) && false)) (λ q. refl) refl (is_some (own h o simple_mark)) (callable_of (object_at h o))
object_has-is n vs h o class.Error us len = refl
object_has-is n vs h o class.Node us len = refl

pub public_has-is : (vs : List Value) (h : Objects) (x : Value) (us : List ℕ) → pub_has (see h (length vs) x).sight us ≡ public_has h x us
public_has-is vs h v.Undefined us = refl
public_has-is vs h v.Null us = refl
public_has-is vs h (v.Bool b) us = refl
public_has-is vs h (v.Num n) us = refl
public_has-is vs h (v.Text ts) us = refl
public_has-is vs h (v.Obj o) us = object_has-is (length vs) vs h o (class_of (object_at h o)) us refl
