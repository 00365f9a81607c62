-- Taking off the innermost of what waits.
use Rattle.std.specs.Prelude.{◌≡◌, ℕ, ◌≤◌, ◌<◌, List, [], ◌∷◌, ◌++◌, Option, Some, None}
use Rattle.es3_grammar.specs.Levels.{own}
use Rattle.es3_ops.specs.declared.grouping.Infix.{Infix}
use Rattle.es3_ops.specs.Views.{infix_join}

-- the last is of this level or above, and is taken off; or none is, and nothing is
abbrev pub Taken : {A : Type 0} → ℕ → List (A × Infix) → List (A × Infix) → Option (A × Infix) → Type 0
Taken {A} n before behind None = (behind ≡ before) × ((front : List (A × Infix)) (p : A × Infix) → before ≡ front ++ p ∷ [] → own (infix_join p.1) < n)
Taken {A} n before behind (Some p) = (before ≡ behind ++ p ∷ []) × (n ≤ own (infix_join p.1))
