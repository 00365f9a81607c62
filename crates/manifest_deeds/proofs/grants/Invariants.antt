use Rattle.std.proofs.Common.{◌≡◌, ◌++◌}
use Rattle.std.specs.Vec.Iter.{into_iter_items}
use Rattle.page_manifest.specs.Deeds.{all_given}
use Rattle.page_manifest.specs.View.{grants}
use Rattle.page_roots.specs.Roots.{number_in}
use Rattle.page_runner.specs.Deeds.{grants_of}
use Rattle.manifest_deeds.proofs.grants.Given as goal

abbrev pub invariant-loop-name : goal.invariant-loop-name
invariant-loop-name l = grants_of l.list.items ++ all_given (number_in l.roots) (grants (into_iter_items l.name-iterator)) ≡ all_given (number_in l.roots) (grants l.fn.granted.items)
