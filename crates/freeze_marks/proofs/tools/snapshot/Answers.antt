use Rattle.std.proofs.Common.{true, subst}
use Rattle.row_outcomes.specs.Comes.{Comes}
use Rattle.freeze_marks.specs.Copies.{value_copy}
use Rattle.freeze_marks.proofs.Rows.{snapshot_row-is}
use Rattle.freeze_marks.proofs.tools.snapshot.Goals as goal

pub returns-clause-outcome : goal.returns-clause-outcome
returns-clause-outcome c =
    let h = c.args.h.now in
    rw (snapshot_row-is c.args.by c.args.this.now c.args.args.now h)
    (subst (λ x. Comes (value_copy true x c.args.by h) c.value_copy.result c.value_copy.new.h) c.value_or.ensures c.value_copy.ensures.outcome)
