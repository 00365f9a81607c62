-- What the lowering of a part gives, where memory isn't wanting: the lowered part, and the next free number of a temporary.
use Rattle.std.specs.Prelude.{◌≡◌, ℕ, Result, Ok, Err, IfOk}
use Rattle.caja_units.specs.declared.Memory.{Memory}

pub record Gives {A T : Type 0} (answer : Result A Memory) (count : ℕ) (view : A → T) (wanted : T × ℕ) : Type 0 where
  pub told : IfOk answer (λ found. (view found, count) ≡ wanted)

-- two parts as one
abbrev pub joined : {A B : Type 0} → Result A Memory → Result B Memory → Result (A × B) Memory
joined (Ok a) (Ok b) = Ok (a, b)
joined (Ok a) (Err e) = Err e
joined (Err e) b = Err e
