use Rattle.url_rule.specs.Table.{rows_of}
use Rattle.caja_cli.proofs.Statuses.{answered}
use Rattle.command_words.specs.declared.Command.TheVariants.{Run, Page, Gen}
use Rattle.caja_cli.proofs.perform.Goals as goal

pub returns-in-Run-clause-answer : goal.returns-in-Run-clause-answer
returns-in-Run-clause-answer g c = answered _ (Run c.in-Run.options) c.args.input.now c.run.result c.run.ensures.status

pub returns-in-Page-clause-answer : goal.returns-in-Page-clause-answer
returns-in-Page-clause-answer g c = answered _ (Page c.in-Page.options) c.args.input.now c.page.result c.page.ensures.status

pub returns-in-Gen-clause-answer : goal.returns-in-Gen-clause-answer
returns-in-Gen-clause-answer g c = answered (rows_of c.args.rule.now.table.items) (Gen c.in-Gen.count c.in-Gen.options) c.args.input.now c.generated.result c.generated.ensures.status
