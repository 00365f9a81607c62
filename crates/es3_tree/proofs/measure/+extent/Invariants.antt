-- What was gone over and what is left make the whole.
use Rattle.std.proofs.Common.{◌≡◌, ◌+◌, ◌-◌, ◌^◌, ◌<◌, drop, min, max}
use Rattle.es3_tree.specs.Tree as tree
use Rattle.es3_tree.specs.View.{of_exprs, of_stmts, of_fields, of_items, of_cases}
use Rattle.es3_tree.specs.Measure.{nest, count}
use Rattle.es3_tree.proofs.measure.+extent.Given as goal

abbrev pub invariant-extent_of_exprs-loop-x : goal.invariant-extent_of_exprs-loop-x
invariant-extent_of_exprs-loop-x l =
    (min (max l.total.depth (nest tree.exprs (of_exprs (drop l.x-index l.xs)))) (2 ^ 32 - 1) ≡ min (nest tree.exprs (of_exprs l.xs)) (2 ^ 32 - 1))
    × (min (l.total.size + count tree.exprs (of_exprs (drop l.x-index l.xs))) (2 ^ 64 - 1) ≡ min (count tree.exprs (of_exprs l.xs)) (2 ^ 64 - 1))
    × (l.total.depth < 2 ^ 32)
    × (l.total.size < 2 ^ 64)

abbrev pub invariant-extent_of_stmts-loop-x : goal.invariant-extent_of_stmts-loop-x
invariant-extent_of_stmts-loop-x l =
    (min (max l.total.depth (nest tree.stmts (of_stmts (drop l.x-index l.xs)))) (2 ^ 32 - 1) ≡ min (nest tree.stmts (of_stmts l.xs)) (2 ^ 32 - 1))
    × (min (l.total.size + count tree.stmts (of_stmts (drop l.x-index l.xs))) (2 ^ 64 - 1) ≡ min (count tree.stmts (of_stmts l.xs)) (2 ^ 64 - 1))
    × (l.total.depth < 2 ^ 32)
    × (l.total.size < 2 ^ 64)

abbrev pub invariant-extent_of_fields-loop-x : goal.invariant-extent_of_fields-loop-x
invariant-extent_of_fields-loop-x l =
    (min (max l.total.depth (nest tree.fields (of_fields (drop l.x-index l.xs)))) (2 ^ 32 - 1) ≡ min (nest tree.fields (of_fields l.xs)) (2 ^ 32 - 1))
    × (min (l.total.size + count tree.fields (of_fields (drop l.x-index l.xs))) (2 ^ 64 - 1) ≡ min (count tree.fields (of_fields l.xs)) (2 ^ 64 - 1))
    × (l.total.depth < 2 ^ 32)
    × (l.total.size < 2 ^ 64)

abbrev pub invariant-extent_of_items-loop-x : goal.invariant-extent_of_items-loop-x
invariant-extent_of_items-loop-x l =
    (min (max l.total.depth (nest tree.items (of_items (drop l.x-index l.xs)))) (2 ^ 32 - 1) ≡ min (nest tree.items (of_items l.xs)) (2 ^ 32 - 1))
    × (min (l.total.size + count tree.items (of_items (drop l.x-index l.xs))) (2 ^ 64 - 1) ≡ min (count tree.items (of_items l.xs)) (2 ^ 64 - 1))
    × (l.total.depth < 2 ^ 32)
    × (l.total.size < 2 ^ 64)

abbrev pub invariant-extent_of_cases-loop-x : goal.invariant-extent_of_cases-loop-x
invariant-extent_of_cases-loop-x l =
    (min (max l.total.depth (nest tree.cases (of_cases (drop l.x-index l.xs)))) (2 ^ 32 - 1) ≡ min (nest tree.cases (of_cases l.xs)) (2 ^ 32 - 1))
    × (min (l.total.size + count tree.cases (of_cases (drop l.x-index l.xs))) (2 ^ 64 - 1) ≡ min (count tree.cases (of_cases l.xs)) (2 ^ 64 - 1))
    × (l.total.depth < 2 ^ 32)
    × (l.total.size < 2 ^ 64)
