-- The first fault so far, and those of what is left.
use Rattle.std.proofs.Common.{◌≡◌, drop, option_map}
use Rattle.es3_tree.specs.PlacedView as source
use Rattle.valija_rules.specs.Faults.{all_declared}
use Rattle.cajita_rules.specs.Found.{fault_of, first_in, earlier_of}
use Rattle.valija_rules.proofs.faults_of_words.all_declared.Given as goal

abbrev pub invariant-loop-name : goal.invariant-loop-name
invariant-loop-name l =
    earlier_of (option_map fault_of l.found) (first_in (all_declared (source.words (drop l.name-index l.names))))
    ≡ first_in (all_declared (source.words l.names))
