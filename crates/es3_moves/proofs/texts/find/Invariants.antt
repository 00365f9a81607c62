use Rattle.std.proofs.Common.{◌≡◌, drop}
use Rattle.es3_language.specs.Store.{name_value}
use Rattle.es3_moves.proofs.texts.find.Given as goal

abbrev pub invariant-loop-binding : goal.invariant-loop-binding
invariant-loop-binding l = name_value l.name l.names ≡ name_value l.name (drop l.binding-index l.names)
