use Rattle.row_outcomes.specs.Arguments.{told}
use Rattle.row_outcomes.proofs.Told.{told_comes}
use Rattle.builtin_array.specs.Receivers.{array_of}
use Rattle.builtin_array.specs.Arrays.{join}
use Rattle.builtin_array.proofs.Comes.{at_array, at_other}
use Rattle.builtin_array.proofs.Rows.{join-is}
use Rattle.builtin_array.proofs.texts.join.Goals as goal

pub returns-in-Ok-clause-outcome : goal.returns-in-Ok-clause-outcome
returns-in-Ok-clause-outcome c =
    at_array _ (array_of c.args.h.now c.args.this.now) c.array_of.result c.in-Ok.o c.args.by c.args.h.now c.args.h.now (λ o. told (join c.args.args.now o c.args.h.now) c.args.h.now) c.outcome_of.result (join-is c.args.by c.args.this.now c.args.args.now c.args.h.now) c.array_of.ensures c.in-Ok.is (told_comes c.text_of.result c.outcome_of.result (join c.args.args.now c.in-Ok.o c.args.h.now) c.args.h.now c.text_of.ensures c.outcome_of.ensures)

pub returns-in-Err : goal.returns-in-Err
returns-in-Err c = record {
  outcome = at_other _ (array_of c.args.h.now c.args.this.now) c.array_of.result c.in-Err.why c.args.by c.args.h.now c.refused.new.h (λ o. told (join c.args.args.now o c.args.h.now) c.args.h.now) c.refused.result (join-is c.args.by c.args.this.now c.args.args.now c.args.h.now) c.array_of.ensures c.in-Err.is c.refused.ensures.outcome;
  live = c.refused.ensures.live;
}
