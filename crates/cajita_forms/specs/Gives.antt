-- What a part that may have no resolved form gives, or memory was wanting.
use Rattle.std.specs.Prelude.{◌≡◌, Option, option_map, Result, Ok, Err, IfOk}
use Rattle.caja_units.specs.declared.Memory.{Memory}
use Rattle.cajita_forms.specs.Options.{both}

pub record Gives {A T : Type 0} (answer : Result (Option A) Memory) (view : A → T) (wanted : Option T) : Type 0 where
  pub told : IfOk answer (λ found. option_map view found ≡ wanted)

-- two parts as one, which is there where both are
abbrev pub joined : {A B : Type 0} → Result (Option A) Memory → Result (Option B) Memory → Result (Option (A × B)) Memory
joined (Ok a) (Ok b) = Ok (both (λ x y. (x, y)) a b)
joined (Ok a) (Err e) = Err e
joined (Err e) b = Err e
