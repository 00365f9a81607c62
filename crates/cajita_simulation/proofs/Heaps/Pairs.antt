-- Keys and values: a new object that is given them, and a list that has them in turn.
use Rattle.std.proofs.Common.{◌≡◌, ℕ, false, List, [], ◌∷◌, Ok, length, refl, ◌∙◌}
use Rattle.caja_units.specs.Units.{same_units}
use Rattle.es3_objects.specs.declared.value.Value.{Value}
use Rattle.es3_objects.specs.declared.value.Value.TheVariants.{Text}
use Rattle.es3_heap.specs.Objects.{Property, Object, Objects, plain_attrs, with_object}
use Rattle.es3_heap.specs.Properties.{find, defined}
use Rattle.es3_objects.proofs.Laws.{find-defined-other}
use Rattle.es3_convert.specs.Conversions.{text_of, text_within}
use Rattle.guard_runtime.specs.Guards.{keyed, with_pairs}
use Rattle.cajita_simulation.proofs.Heaps.Made.{with_properties, defined_new}

-- properties and then these keys and values, each without attributes, in the place of what its key had, or last
abbrev pub pairs_defined : List (List ℕ × Value) → List Property → List Property
pairs_defined [] ps = ps
pairs_defined ((k, x) ∷ rest) ps = pairs_defined rest (defined k x plain_attrs ps)

pub with_pairs_new : (pairs : List (List ℕ × Value)) (h : Objects) (o : Object) → with_pairs pairs (length h.list) (with_object h o) ≡ with_object h (with_properties o (pairs_defined pairs o.props))
with_pairs_new [] h o = refl
with_pairs_new ((k, x) ∷ rest) h o =
    rw (defined_new h o k x plain_attrs) (with_pairs_new rest h (with_properties o (defined k x plain_attrs o.props)))

-- each key, as a text, and its value
abbrev pub in_turn : List (List ℕ × Value) → List Value
in_turn [] = []
in_turn ((k, x) ∷ rest) = Text k ∷ x ∷ in_turn rest

-- the text of a text
pub text_of_text : (h : Objects) (k : List ℕ) → text_of h (Text k) ≡ Ok k
unfolding text_within
text_of_text h k = refl

pub keyed_texts : (h : Objects) (pairs : List (List ℕ × Value)) → keyed h (in_turn pairs) ≡ Ok pairs
keyed_texts h [] = refl
keyed_texts h ((k, x) ∷ rest) = rw (text_of_text h k, keyed_texts h rest) refl

-- none of the pairs has the key
abbrev pub NoKey : List ℕ → List (List ℕ × Value) → Type 0
NoKey j [] = Unit {0}
NoKey j ((k, x) ∷ rest) = (same_units j k ≡ false) × NoKey j rest

pub find-pairs_defined-other : (j : List ℕ) (pairs : List (List ℕ × Value)) (ps : List Property) → NoKey j pairs → find j (pairs_defined pairs ps) ≡ find j ps
find-pairs_defined-other j [] ps none = refl
find-pairs_defined-other j ((k, x) ∷ rest) ps none = find-pairs_defined-other j rest (defined k x plain_attrs ps) none.1 ∙ find-defined-other j k x plain_attrs ps none.0
