use Rattle.std.proofs.Common.{[]}
use Rattle.page_runner.proofs.runner.Runner.click.Goals as goal

pub returns-clause-came : goal.returns-clause-came
returns-clause-came c = c.happen.ensures.came []
