-- A name of a scope, after a write.
use Rattle.std.proofs.Common.{◌≡◌, ℕ, true, false, List, [], ◌∷◌, Some, cond, refl, sym, ap, ◌∙◌}
use Rattle.std.specs.Cmp.Lexicographic.{same_text}
use Rattle.caja_units.specs.Units.{same_units}
use Rattle.es3_objects.specs.declared.value.Value.{Value}
use Rattle.es3_objects.proofs.Keys.{same_key-refl}
use Rattle.es3_language.specs.Store.{Names, name_value, with_name}

-- a name that was written has that value
pub name_value-with_name : (x : List ℕ) (v : Value) (names : Names) → name_value x (with_name x v names) ≡ Some v
name_value-with_name x v [] = rw (same_key-refl x) refl
name_value-with_name x v ((y, w) ∷ rest) =
    let cases = elim (same_units x y) as (λ b. same_units x y ≡ b → name_value x (cond b ((y, v) ∷ rest) ((y, w) ∷ with_name x v rest)) ≡ Some v) [
      | true ↦ λ is. rw is refl
      | false ↦ λ is. rw is (name_value-with_name x v rest)
    ] in cases refl

-- another name has what it had
pub name_value-with_name-other : (x y : List ℕ) (v : Value) (names : Names) → same_units y x ≡ false → name_value y (with_name x v names) ≡ name_value y names
name_value-with_name-other x y v [] ne = rw ne refl
name_value-with_name-other x y v ((z, w) ∷ rest) ne =
    let cases = elim (same_units x z) as (λ b. same_units x z ≡ b → name_value y (cond b ((z, v) ∷ rest) ((z, w) ∷ with_name x v rest)) ≡ name_value y ((z, w) ∷ rest)) [
      | true ↦ λ is. let other : same_units y z ≡ false = ap (same_units y) (sym (same_text x z (sym is))) ∙ ne in rw other refl
      | false ↦ λ is. ap (λ found. cond (same_units y z) (Some w) found) (name_value-with_name-other x y v rest ne)
    ] in cases refl
