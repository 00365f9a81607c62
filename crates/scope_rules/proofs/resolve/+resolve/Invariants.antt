-- What is resolved stands before what is left.
use Rattle.std.proofs.Common.{◌≡◌, drop, option_map}
use Rattle.es3_tree.specs.Tree as tree
use Rattle.es3_tree.specs.PlacedView as source
use Rattle.scope_rules.specs.Resolve.{resolved, declared_functions}
use Rattle.scope_rules.proofs.Front as front
use Rattle.scope_rules.proofs.Front.{in_front}
use Rattle.scope_rules.proofs.resolve.+resolve.Given as goal

abbrev pub invariant-resolve_exprs-loop-expression : goal.invariant-resolve_exprs-loop-expression
invariant-resolve_exprs-loop-expression l = option_map (in_front front.expression l.done.items) (resolved tree.exprs (source.of_exprs (drop l.expression-index l.list))) ≡ resolved tree.exprs (source.of_exprs l.list)

abbrev pub invariant-resolve_fields-loop-key : goal.invariant-resolve_fields-loop-key
invariant-resolve_fields-loop-key l = option_map (in_front front.field l.done.items) (resolved tree.fields (source.of_fields (drop l.key-index l.fields))) ≡ resolved tree.fields (source.of_fields l.fields)

abbrev pub invariant-resolve_items-loop-item : goal.invariant-resolve_items-loop-item
invariant-resolve_items-loop-item l = option_map (in_front front.item l.done.items) (resolved tree.items (source.of_items (drop l.item-index l.items))) ≡ resolved tree.items (source.of_items l.items)

abbrev pub invariant-resolve_cases-loop-case : goal.invariant-resolve_cases-loop-case
invariant-resolve_cases-loop-case l = option_map (in_front front.clause l.done.items) (resolved tree.cases (source.of_cases (drop l.case-index l.cases))) ≡ resolved tree.cases (source.of_cases l.cases)

abbrev pub invariant-resolve_stmts-loop-statement : goal.invariant-resolve_stmts-loop-statement
invariant-resolve_stmts-loop-statement l = option_map (in_front front.statement l.done.items) (resolved tree.stmts (source.of_stmts (drop l.statement-index l.list))) ≡ resolved tree.stmts (source.of_stmts l.list)

abbrev pub invariant-resolve_funcs-loop-statement : goal.invariant-resolve_funcs-loop-statement
invariant-resolve_funcs-loop-statement l = option_map (in_front front.function l.done.items) (declared_functions (source.of_stmts (drop l.statement-index l.list))) ≡ declared_functions (source.of_stmts l.list)
