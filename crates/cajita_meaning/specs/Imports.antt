-- What every module may import: the fixed names with their values.
use Rattle.std.specs.Prelude.{ℕ, List, [], ◌∷◌, map, codes}
use Rattle.rows.specs.Rows.{error, type_error, range_error, makes, number_from, text_from, truth_from}
use Rattle.rows.specs.Names.{of_cajita, of_math}
use Rattle.cajita_meaning.specs.World.{built_name, tools_name, own_name, Value, undefined, object, Pairs, value_at}
use Rattle.cajita_meaning.specs.Doing.{or_nothing}

-- `say` and `later` are the module's own
abbrev pub fixed_imports : ℕ → Pairs
fixed_imports m =
    (codes "undefined", undefined) ∷ (codes "cajita", object (tools_name of_cajita)) ∷ (codes "Math", object (tools_name of_math))
    ∷ (codes "Error", object (built_name (makes error))) ∷ (codes "TypeError", object (built_name (makes type_error))) ∷ (codes "RangeError", object (built_name (makes range_error)))
    ∷ (codes "Number", object (built_name number_from)) ∷ (codes "String", object (built_name text_from)) ∷ (codes "Boolean", object (built_name truth_from))
    ∷ (codes "say", object (own_name m 0)) ∷ (codes "later", object (own_name m 1)) ∷ []

-- the values of imports, in their order, among these; undefined for a name that is none of them
abbrev pub imports_among : Pairs → List (List ℕ) → List Value
imports_among ps xs = map (λ x. or_nothing (value_at x ps)) xs

-- those of a module that is granted nothing
abbrev pub imported : ℕ → List (List ℕ) → List Value
imported m xs = imports_among (fixed_imports m) xs
