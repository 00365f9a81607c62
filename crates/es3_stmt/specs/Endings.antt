-- What is read where the tokens end: a program, or nothing whole.
use Rattle.std.specs.Prelude.{◌∷◌, map, Option, Some, None}
use Rattle.es3_tree.specs.PlacedView as view
use Rattle.es3_tree.specs.PlacedView.{stmt}
use Rattle.es3_tree.specs.declared.Program.{Program}
use Rattle.es3_grammar.specs.Frames.{Stack, body, a_program}
use Rattle.es3_grammar.specs.Machine.{program_at, all_of}
use Rattle.es3_grammar.specs.Within.{Reading, program, broken, reading_of}
use Rattle.es3_stmt.specs.declared.ending.Closed.{Closed}
use Rattle.es3_stmt.specs.declared.ending.Closed.TheVariants as r

abbrev pub ended : Option Program → Reading
ended None = broken
ended (Some p) = program (view.program p)

-- within these frames, what the innermost made of the statement within it
abbrev pub closed : Closed → Stack → Reading
closed (r.Whole x) k = reading_of (all_of k (stmt x.tree.value))
closed (r.Program ss) k = reading_of (program_at (body a_program (map stmt ss.list.items) ∷ k))
closed r.Open k = broken
