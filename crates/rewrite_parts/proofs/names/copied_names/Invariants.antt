-- The names so far stand before those that are left.
use Rattle.std.proofs.Common.{◌≡◌, ◌++◌, drop}
use Rattle.es3_tree.specs.View.{names}
use Rattle.rewrite_parts.proofs.names.copied_names.Given as goal

abbrev pub invariant-loop-text : goal.invariant-loop-text
invariant-loop-text l = names l.names.items ++ drop l.text-index l.texts ≡ l.texts
