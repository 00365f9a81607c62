-- What a frame makes of the statement within it, as the state behind it.
use Rattle.std.specs.Prelude.{◌∷◌, Option, Some, None}
use Rattle.es3_tree.specs.PlacedView.{stmt}
use Rattle.es3_grammar.specs.Spots.{Spot}
use Rattle.es3_grammar.specs.Frames as m
use Rattle.es3_grammar.specs.Machine.{begin, resume}
use Rattle.es3_steps.specs.declared.resume.Resumed.{Resumed}
use Rattle.es3_steps.specs.declared.resume.Resumed.TheVariants as r
use Rattle.es3_frames.specs.Views.{frame_of, state_of}

abbrev pub resumed : Resumed → m.Stack → Spot → Option m.State
resumed (r.Whole x) k c = resume k (stmt x.tree.value) c
resumed (r.Opens f s) k c = Some (state_of s (frame_of f ∷ k))
resumed (r.Begins f) k c = begin (frame_of f ∷ k) c
resumed r.Refused k c = None
