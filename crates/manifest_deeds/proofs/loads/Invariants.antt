use Rattle.std.proofs.Common.{◌≡◌, ◌≤◌, ◌+◌, ◌++◌, length, map}
use Rattle.std.specs.Prelude.{vec_len}
use Rattle.std.specs.Vec.Iter.{into_iter_items}
use Rattle.es3_tree.specs.View.{program}
use Rattle.page_manifest.specs.Deeds.{loads}
use Rattle.page_manifest.specs.View.{module_spec}
use Rattle.page_roots.specs.Roots.{number_in}
use Rattle.page_runner.specs.Deeds.{deeds_of}
use Rattle.manifest_deeds.proofs.loads.Given as goal

abbrev pub invariant-loop-owner : goal.invariant-loop-owner
invariant-loop-owner l = record {
  few : vec_len l.loads + length (into_iter_items l.owner-iterator) ≤ 64;
  so_far : deeds_of l.loads.items ++ loads (number_in l.roots) (vec_len l.loads) (map module_spec (into_iter_items l.owner-iterator)) (map program (into_iter_items l.left))
      ≡ loads (number_in l.roots) 0 (map module_spec l.fn.modules.items) (map program l.fn.programs.items);
}
