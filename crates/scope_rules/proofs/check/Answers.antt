use Rattle.std.proofs.Common.{[], ◌++◌, map, option_map, sym, ap, ◌∙◌}
use Rattle.es3_tree.specs.Tree as t
use Rattle.es3_tree.specs.PlacedView.{of_stmts}
use Rattle.es3_labels.specs.Around.{in_program}
use Rattle.es3_labels.specs.Misplaced.{misplaced}
use Rattle.cajita_tree.specs.View as view
use Rattle.cajita_names.specs.Rules.{fixed_names}
use Rattle.cajita_names.specs.Scope.{in_module}
use Rattle.cajita_rules.specs.Faults.{redeclared, faults_in, bad_label}
use Rattle.cajita_rules.specs.Found.{fault_of}
use Rattle.scope_rules.proofs.Checked.{never}
use Rattle.scope_rules.proofs.check.Goals as goal

pub returns-in_default-2 : goal.returns-in_default-2
returns-in_default-2 c =
    let ds = c.in_ok-declarations.declarations in
    let names = c.args.grants.now ++ fixed_names in
    let one = of_stmts c.deref-2.result.now in
    let labels = map bad_label (misplaced in_program t.stmts (of_stmts c.args.program.now.body.items)) in
    never ds names one (of_stmts c.deref-4.result.now) labels (option_map fault_of c.in_ok-found.field-0) (option_map view.body c.in_ok-body.field-0)
    (c.in_ok-found.ensures (redeclared [] ds ++ faults_in (in_module ds names) t.stmts one) labels c.first_fault-names.ensures c.first_bad_label.ensures).told
    (ap (option_map fault_of) c.in_default.is)
    (ap of_stmts (c.deref-2.ensures.value ∙ sym c.deref-4.ensures.value))
    c.in_ok-body.ensures.told
    (ap (option_map view.body) c.in_default-2.is)
