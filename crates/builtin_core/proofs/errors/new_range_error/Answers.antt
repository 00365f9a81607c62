use Rattle.rows.specs.Rows as r
use Rattle.builtin_core.proofs.Makers.{new_error-is}
use Rattle.builtin_core.proofs.errors.new_range_error.Goals as goal

pub returns-clause-outcome : goal.returns-clause-outcome
returns-clause-outcome c = rw (new_error-is r.range_error c.args.by c.args.this.now c.args.args.now c.args.h.now) c.make.ensures.outcome
