-- Keys with values, and records of them (ES3 11.1.5).
use Rattle.std.specs.Prelude.{ℕ, Bool, false, ◌≡◌, List, [], ◌∷◌, ◌++◌}
use Rattle.std.specs.List.{list_any}
use Rattle.caja_units.specs.Units.{same_units}
use Rattle.es3_objects.specs.declared.value.Value.{Value}
use Rattle.es3_heap.specs.Objects.{Objects, plain_attrs}
use Rattle.es3_heap.specs.Properties.{define}

-- an object with these keys and values more
abbrev pub with_pairs : List (List ℕ × Value) → ℕ → Objects → Objects
with_pairs [] o h = h
with_pairs ((k, x) ∷ rest) o h = with_pairs rest o (define h o k x plain_attrs)

abbrev pub has_key : List ℕ → List (List ℕ × Value) → Bool
has_key k ps = list_any (λ p. same_units k p.0) ps

-- no key stands twice among these, nor among them and those before them
abbrev pub AreNew : List (List ℕ × Value) → List (List ℕ × Value) → Type 0
AreNew before [] = Unit {0}
AreNew before (p ∷ ps) = (has_key p.0 before ≡ false) × AreNew (before ++ p ∷ []) ps
