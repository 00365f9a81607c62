-- An ending has no values but those that it was made of.
use Rattle.std.proofs.Common.{List, [], ◌∷◌}
use Rattle.acts.specs.Laws.{All, IfThere, IsMadeOf}
use Rattle.rows.specs.Nodes.{Rules}
use Rattle.cajita_meaning.specs.World.{Value, undefined}
use Rattle.cajita_meaning.specs.Asking.{first}
use Rattle.cajita_meaning.specs.Direct.{Completion, gave, normal, broke, continued, returned, threw, Ending, gives, finishes, yields, breaks, continues, returns, throws, forms, values_of, value_in, ending}

-- the first of values is one of them, or undefined
pub all_first : (P : Value → Type 0) → P undefined → (vs : List Value) → All P vs → P (first vs)
all_first P u [] h = u
all_first P u (v ∷ vs) h = h.0

-- each ending has values that it was made of
ends : (P : Value → Type 0) → P undefined → (e : Ending) (vs : List Value) → All P vs → All P (values_of (ending e vs))
ends P u gives vs h = (all_first P u vs h, tt)
ends P u finishes vs h = tt
ends P u yields vs h = (all_first P u vs h, tt)
ends P u (breaks l) vs h = tt
ends P u (continues l) vs h = tt
ends P u returns vs h = (all_first P u vs h, tt)
ends P u throws vs h = (all_first P u vs h, tt)

-- the value in an ending is one of its values
in_it : (P : Value → Type 0) (c : Completion) → All P (values_of c) → IfThere P (value_in c)
in_it P (gave v) h = h.0
in_it P (normal v) h = tt
in_it P (broke l) h = tt
in_it P (continued l) h = tt
in_it P (returned v) h = tt
in_it P (threw v) h = tt

pub made_of : (rules : Rules) → IsMadeOf (forms rules) (λ P. P undefined)
made_of rules = record { ending_of = ends; value_of = in_it }
