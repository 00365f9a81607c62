use Rattle.std.proofs.Common.{◌≡◌, drop}
use Rattle.std.specs.Prelude.{map}
use Rattle.es3_tree.specs.View as v
use Rattle.es3_loading.proofs.Loading.{joined, code_tree, stmt_tree, item_tree, var_tree, property_tree, field_tree, clause_tree, case_tree}
use Rattle.es3_loading.proofs.load.+load.Given as goal

abbrev pub invariant-load_exprs-loop-e : goal.invariant-load_exprs-loop-e
invariant-load_exprs-loop-e l = joined code_tree v.expr l.codes.items (drop l.e-index l.es) ≡ map v.expr l.es

abbrev pub invariant-load_fields-loop-key : goal.invariant-load_fields-loop-key
invariant-load_fields-loop-key l = joined field_tree property_tree l.codes.items (drop l.key-index l.properties) ≡ map property_tree l.properties

abbrev pub invariant-load_body-loop-s : goal.invariant-load_body-loop-s
invariant-load_body-loop-s l = joined stmt_tree v.stmt l.codes.items (drop l.s-index l.ss) ≡ map v.stmt l.ss

abbrev pub invariant-load_vars-loop-item : goal.invariant-load_vars-loop-item
invariant-load_vars-loop-item l = joined var_tree item_tree l.codes.items (drop l.item-index l.items) ≡ map item_tree l.items

abbrev pub invariant-load_cases-loop-clause : goal.invariant-load_cases-loop-clause
invariant-load_cases-loop-clause l = joined case_tree clause_tree l.codes.items (drop l.clause-index l.clauses) ≡ map clause_tree l.clauses
