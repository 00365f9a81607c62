-- An array gets other items.
use Rattle.std.proofs.Common.{ℕ, ◌+◌, List, [], ◌∷◌, All, length}
use Rattle.std.specs.Prelude.{pos, if◌then◌else◌}
use Rattle.std.proofs.lemmas.List.Elements.{All-head, All-tail}
use Rattle.caja_units.specs.Index.{number_units}
use Rattle.es3_objects.specs.declared.value.Value.{Value}
use Rattle.es3_objects.specs.declared.value.Value.TheVariants.{Num}
use Rattle.es3_heap.specs.Objects.{Property, Objects, plain_attrs, fixed_attrs, object_at, props_of, class_of}
use Rattle.es3_heap.specs.Properties.{length_key, defined}
use Rattle.es3_heap.specs.Items.{with_items, items_set, set_items}
use Rattle.es3_live.specs.Live.{IsLive, AreClosed}
use Rattle.es3_live.proofs.Reading.{LiveProps}
use Rattle.es3_live.proofs.Writing.{Grown, same_objects, with_props_grown}
use Rattle.heap_rows.specs.Marks.{is_frozen}
use Rattle.heap_rows.specs.Doing.{on_object, of_array}
use Rattle.live_rows.proofs.Changes.{grown_if, on_object_grown, of_array_grown, props_of_live, filter_live, defined_live}

with_items_live : (n i : ℕ) (vs : List Value) (ps : List Property) → All (IsLive n) vs → LiveProps n ps → LiveProps n (with_items i vs ps)
with_items_live n i [] ps values live = live
with_items_live n i (x ∷ vs) ps values live =
    with_items_live n (i + 1) vs (defined (number_units i) x plain_attrs ps) (All-tail (IsLive n) x vs values) (defined_live n (number_units i) x plain_attrs ps (All-head (IsLive n) x vs values) live)

-- the length is defined first, among the properties that stay
items_set_live : (n : ℕ) (vs : List Value) (ps : List Property) → All (IsLive n) vs → LiveProps n ps → LiveProps n (items_set vs ps)
items_set_live n vs ps values live = with_items_live n 0 vs _ values (defined_live n length_key (Num (pos (length vs))) fixed_attrs _ tt (filter_live n _ ps live))

set_items_grown : (h : Objects) (o : ℕ) (vs : List Value) → AreClosed h → All (IsLive (length h.list)) vs → Grown h (set_items h o vs)
set_items_grown h o vs closed live =
    let ps = props_of (object_at h o) in
    with_props_grown h o (items_set vs ps) closed (items_set_live (length h.list) vs ps live (props_of_live h o closed))

pub items_grown : (h : Objects) (o : Value) (vs : List Value) → AreClosed h → All (IsLive (length h.list)) vs
    → Grown h (on_object o h (λ i. of_array (class_of (object_at h i)) (if is_frozen h i then h else set_items h i vs) h))
items_grown h o vs closed live =
    on_object_grown o h _ closed (λ i. of_array_grown (class_of (object_at h i)) _ h closed
    (grown_if h (is_frozen h i) h (set_items h i vs) (same_objects h closed) (set_items_grown h i vs closed live)))
