-- A run that was read up to some character, and what is read of the rest.
use Rattle.std.specs.Prelude.{ℕ, ◌+◌, List, Option, Some, None}
use Rattle.html_grammar.specs.Runs.{Run, units, unknown_at, after, run_length}

-- what was read so far, where the first unknown name stands if there is one, and what is read of the rest
abbrev pub joined : Option ℕ → List ℕ → ℕ → Run → Run
joined None us i r = after us i r
joined (Some k) us i r = unknown_at k (i + run_length r)

abbrev pub told : Option ℕ → List ℕ → ℕ → Run
told None us i = units us i
told (Some k) us i = unknown_at k i

abbrev pub first_of : Option ℕ → ℕ → Option ℕ
first_of None i = Some i
first_of (Some k) i = Some k
