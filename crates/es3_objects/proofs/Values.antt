-- The items of an array, one after another.
use Rattle.std.proofs.Common.{◌≡◌, ℕ, suc, ◌+◌, ◌-◌, ◌<◌, List, [], ◌∷◌, ◌++◌, refl, arith, append_assoc}
use Rattle.caja_units.specs.Index.{number_units}
use Rattle.es3_objects.specs.declared.value.Value.{Value}
use Rattle.es3_objects.specs.Objects.{Property}
use Rattle.es3_objects.specs.Properties.{find, value_of}
use Rattle.es3_objects.specs.Items.{values_from}

-- where there is an item at the index, the items from there on are that item and the others
values_from-item : (n i : ℕ) (ps : List Property) → i < n → values_from (n - i) i ps ≡ value_of (find (number_units i) ps) ∷ values_from (n - (i + 1)) (i + 1) ps
values_from-item n i ps less =
    let more : n - i ≡ suc (n - (i + 1)) = omega arith in
    rw more refl

-- an item more of a list of items
pub values_from-more : (n i : ℕ) (ps : List Property) (before after all : List Value) (x : Value) → i < n
    → before ++ values_from (n - i) i ps ≡ all
    → x ≡ value_of (find (number_units i) ps)
    → after ≡ before ++ x ∷ []
    → after ++ values_from (n - (i + 1)) (i + 1) ps ≡ all
values_from-more n i ps before after all x less is item pushed =
    rw (pushed, append_assoc, item, ← values_from-item n i ps less) is
