use Rattle.std.proofs.Common.{◌≡◌, ◌+◌, ◌*◌, ◌<◌, ◌++◌, false, subst}
use Rattle.std.specs.Prelude.{OnOk}
use Rattle.es3_tree.specs.Tree as t
use Rattle.es3_printed.specs.Tokens.{bare}
use Rattle.es3_printer.specs.Pieces.{pending}
use Rattle.es3_printer.specs.Nodes.{weight, nodes}
use Rattle.es3_printer.proofs.Seen.{a_switch}
use Rattle.es3_printer.proofs.statement.print_statement.Goals as goal

pub returns-in-Switch-clause-tokens : goal.returns-in-Switch-clause-tokens
returns-in-Switch-clause-tokens c = subst (λ q. OnOk c.print_switch.result (pending c.print_switch.new.rest.items ≡ bare t.stmt false q ++ pending c.args.rest.now.items)) (a_switch c.args.statement.now c.deref-in-Switch.result.now c.in-Switch.value c.in-Switch.cases c.in-Switch.is c.deref-in-Switch.ensures.value) c.print_switch.ensures.tokens

pub returns-in-Switch-clause-less : goal.returns-in-Switch-clause-less
returns-in-Switch-clause-less c = subst (λ q. OnOk c.print_switch.result (weight c.print_switch.new.rest.items < weight c.args.rest.now.items + 20 * nodes t.stmt q)) (a_switch c.args.statement.now c.deref-in-Switch.result.now c.in-Switch.value c.in-Switch.cases c.in-Switch.is c.deref-in-Switch.ensures.value) c.print_switch.ensures.less
