use Rattle.std.proofs.Common.{◌≡◌, ◌+◌, ◌*◌, ◌<◌, ◌++◌, subst}
use Rattle.std.specs.Prelude.{OnOk}
use Rattle.es3_tree.specs.Tree as t
use Rattle.es3_printed.specs.Tokens.{bare}
use Rattle.es3_printer.specs.Pieces.{pending}
use Rattle.es3_printer.specs.Nodes.{weight, nodes}
use Rattle.es3_printer.proofs.Seen.{a_call, a_new}
use Rattle.es3_printer.proofs.expression.print_expression.Goals as goal

pub returns-in-Call-clause-tokens : goal.returns-in-Call-clause-tokens
returns-in-Call-clause-tokens c = subst (λ q. OnOk c.print_call.result (pending c.print_call.new.rest.items ≡ bare t.expr c.args.in_head q ++ pending c.args.rest.now.items)) (a_call c.args.e.now c.deref-in-Call.result.now c.deref-in-Call-2.result.now c.in-Call.callee c.in-Call.arguments c.in-Call.is c.deref-in-Call.ensures c.deref-in-Call-2.ensures.value) c.print_call.ensures.tokens

pub returns-in-Call-clause-less : goal.returns-in-Call-clause-less
returns-in-Call-clause-less c = subst (λ q. OnOk c.print_call.result (weight c.print_call.new.rest.items < weight c.args.rest.now.items + 20 * nodes t.expr q)) (a_call c.args.e.now c.deref-in-Call.result.now c.deref-in-Call-2.result.now c.in-Call.callee c.in-Call.arguments c.in-Call.is c.deref-in-Call.ensures c.deref-in-Call-2.ensures.value) c.print_call.ensures.less

pub returns-in-New-clause-tokens : goal.returns-in-New-clause-tokens
returns-in-New-clause-tokens c = subst (λ q. OnOk c.print_new.result (pending c.print_new.new.rest.items ≡ bare t.expr c.args.in_head q ++ pending c.args.rest.now.items)) (a_new c.args.e.now c.deref-in-New.result.now c.deref-in-New-2.result.now c.in-New.maker c.in-New.arguments c.in-New.is c.deref-in-New.ensures c.deref-in-New-2.ensures.value) c.print_new.ensures.tokens

pub returns-in-New-clause-less : goal.returns-in-New-clause-less
returns-in-New-clause-less c = subst (λ q. OnOk c.print_new.result (weight c.print_new.new.rest.items < weight c.args.rest.now.items + 20 * nodes t.expr q)) (a_new c.args.e.now c.deref-in-New.result.now c.deref-in-New-2.result.now c.in-New.maker c.in-New.arguments c.in-New.is c.deref-in-New.ensures c.deref-in-New-2.ensures.value) c.print_new.ensures.less
