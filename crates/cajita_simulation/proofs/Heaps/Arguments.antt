-- The arguments object of a call: the object behind those that there were, without a name, which has the items that the standard gives it (10.1.8).
use Rattle.std.proofs.Common.{◌≡◌, ℕ, ◌+◌, List, [], ◌∷◌, Some, None, cond, length, refl, ap, ◌∙◌}
use Rattle.std.specs.Prelude.{codes, pos}
use Rattle.caja_units.specs.Index.{number_units}
use Rattle.es3_objects.specs.declared.value.Value.{Value}
use Rattle.es3_objects.specs.declared.value.Value.TheVariants.{Num}
use Rattle.es3_objects.specs.declared.value.Class.TheVariants as class
use Rattle.es3_objects.specs.declared.value.Proto.TheVariants as proto
use Rattle.es3_heap.specs.Objects.{Property, Object, Objects, hidden_attrs, with_object}
use Rattle.es3_heap.specs.Properties.{defined, length_key}
use Rattle.es3_heap.specs.Making.{bare, proto_id}
use Rattle.es3_language.specs.Store.{Names, name_value}
use Rattle.es3_language.specs.Arguments.{comes_again, value_or, with_items, with_arguments_object}
use Rattle.cajita_simulation.proofs.Heaps.Made.{with_properties, defined_new}

-- the items from an index on, behind other properties
abbrev pub argument_items : ℕ → List (List ℕ) → List Value → Names → List Property → List Property
argument_items i xs [] names ps = ps
argument_items i [] (v ∷ vs) names ps = argument_items (i + 1) [] vs names (defined (number_units i) v hidden_attrs ps)
argument_items i (x ∷ xs) (v ∷ vs) names ps = argument_items (i + 1) xs vs names (defined (number_units i) (cond (comes_again x xs) v (value_or v (name_value x names))) hidden_attrs ps)

items_new : (h : Objects) (o : Object) (i : ℕ) (xs : List (List ℕ)) (vs : List Value) (names : Names) → with_items (length h.list) i xs vs names (with_object h o) ≡ with_object h (with_properties o (argument_items i xs vs names o.props))
items_new h o i xs [] names = refl
items_new h o i [] (v ∷ vs) names = ap (λ g. with_items (length h.list) (i + 1) [] vs names g) (defined_new h o (number_units i) v hidden_attrs) ∙ items_new h (with_properties o (defined (number_units i) v hidden_attrs o.props)) (i + 1) [] vs names
items_new h o i (x ∷ xs) (v ∷ vs) names =
    let u : Value = cond (comes_again x xs) v (value_or v (name_value x names)) in
    ap (λ g. with_items (length h.list) (i + 1) xs vs names g) (defined_new h o (number_units i) u hidden_attrs) ∙ items_new h (with_properties o (defined (number_units i) u hidden_attrs o.props)) (i + 1) xs vs names

abbrev pub counted : Value → ℕ → List Property
counted f n = defined length_key (Num (pos n)) hidden_attrs (defined (codes "callee") f hidden_attrs [])

abbrev pub arguments_object : Value → List (List ℕ) → List Value → Names → Object
arguments_object f xs vs names = with_properties (bare class.Object (Some (proto_id proto.Object)) None) (argument_items 0 xs vs names (counted f (length vs)))

pub arguments_new : (f : Value) (xs : List (List ℕ)) (vs : List Value) (names : Names) (h : Objects) → with_arguments_object f xs vs names h ≡ with_object h (arguments_object f xs vs names)
arguments_new f xs vs names h =
    let o = bare class.Object (Some (proto_id proto.Object)) None in
    let called = with_properties o (defined (codes "callee") f hidden_attrs []) in
    rw (defined_new h o (codes "callee") f hidden_attrs, defined_new h called length_key (Num (pos (length vs))) hidden_attrs)
    (items_new h (with_properties o (counted f (length vs))) 0 xs vs names)
