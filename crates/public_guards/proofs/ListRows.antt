-- What the row of keysPub comes to.
use Rattle.std.proofs.Common.{◌≡◌, ℕ, true, false, List, [], ◌∷◌, ◌++◌, length, map, Option, Some, None, Result, cond, refl, sym, subst}
use Rattle.std.specs.Prelude.{nat_lt}
use Rattle.es3_objects.specs.declared.value.Stop.{Stop}
use Rattle.es3_objects.specs.declared.value.Value.{Value}
use Rattle.es3_objects.specs.declared.value.Value.TheVariants as v
use Rattle.es3_heap.specs.Objects.{Objects, with_object}
use Rattle.es3_heap.specs.Making.{array_object}
use Rattle.rows.specs.Rows as r
use Rattle.rows.specs.Rows.{most_items}
use Rattle.rows.specs.Guards as rows
use Rattle.rows.specs.Guards.{list_end}
use Rattle.heap_rows.specs.Doing.{Told, see, touched_value, gives, too_long, finish}
use Rattle.heap_rows.specs.Opening.{place_of}
use Rattle.row_outcomes.specs.declared.Outcome.{Outcome}
use Rattle.row_outcomes.specs.Comes.{Comes}
use Rattle.freeze_marks.specs.Listing.{public_keys}
use Rattle.freeze_marks.proofs.Rows.{value_is_keyed}
use Rattle.public_properties.proofs.Alike.{Alike, comes_alike}
use Rattle.public_guards.specs.ByRow.{by_row}
use Rattle.public_guards.specs.Listing.{keys_answer}

list_ends : (found : Option (List (List ℕ))) (by : ℕ) (vs : List Value) (h : Objects) (y : List Told) → Alike (finish place_of by (list_end found) vs h y) (keys_answer found by h)
list_ends None by vs h y = record { reply = refl; heap = refl }
list_ends (Some ks) by vs h y =
    elim (nat_lt (length ks) most_items) as (λ b. Alike (cond b (gives (v.Obj (length h.list)) (with_object h (array_object (map v.Text ks))) y) (too_long h y)) (cond b (gives (v.Obj (length h.list)) (with_object h (array_object (map v.Text ks))) []) (too_long h []))) [
      | true ↦ record { reply = refl; heap = refl }
      | false ↦ record { reply = refl; heap = refl }
    ]

pub keys_pub-is : (by : ℕ) (x : Value) (h : Objects) → Alike (by_row rows.keys_pub by (x ∷ []) h) (keys_answer (public_keys h x) by h)
keys_pub-is by x h =
    let seen = see h 1 x in
    let vs = (x ∷ []) ++ seen.values in
    let y = touched_value by r.to_keys x h [] in
    subst (λ f. Alike (finish place_of by (list_end f) vs h y) (keys_answer (public_keys h x) by h)) (sym (value_is_keyed 1 h x)) (list_ends (public_keys h x) by vs h y)

pub keys_pub-comes : (by : ℕ) (x : Value) (h g : Objects) (found : Option (List (List ℕ))) (a : Result Outcome Stop) → found ≡ public_keys h x → Comes (keys_answer found by h) a g → Comes (by_row rows.keys_pub by (x ∷ []) h) a g
keys_pub-comes by x h g found a is comes = comes_alike _ (keys_answer (public_keys h x) by h) a g (keys_pub-is by x h) (subst (λ f. Comes (keys_answer f by h) a g) is comes)
