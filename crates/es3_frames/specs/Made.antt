-- An expression that was made, or none.
use Rattle.std.specs.Prelude.{Option, Some, None}
use Rattle.es3_tree.specs.PlacedView.{expr}
use Rattle.es3_grammar.specs.Levels.{E}
use Rattle.es3_frames.specs.declared.parts.Part.{Part}

abbrev pub made_of : Option Part → Option E
made_of None = None
made_of (Some x) = Some (expr x.tree.value)
