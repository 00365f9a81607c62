use Rattle.builtin_array.specs.Receivers.{array_of}
use Rattle.builtin_array.specs.Arrays.{slice}
use Rattle.builtin_array.proofs.Comes.{at_array, at_other}
use Rattle.builtin_array.proofs.Rows.{slice-is}
use Rattle.builtin_array.proofs.parts.slice.Goals as goal

pub returns-in-Ok-clause-outcome : goal.returns-in-Ok-clause-outcome
returns-in-Ok-clause-outcome c =
    at_array _ (array_of c.args.h.now c.args.this.now) c.array_of.result c.in-Ok.o c.args.by c.args.h.now c.slice_of.new.h (λ o. slice c.args.by c.args.args.now o c.args.h.now) c.slice_of.result (slice-is c.args.by c.args.this.now c.args.args.now c.args.h.now) c.array_of.ensures c.in-Ok.is c.slice_of.ensures.outcome

pub returns-in-Err : goal.returns-in-Err
returns-in-Err c = record {
  outcome = at_other _ (array_of c.args.h.now c.args.this.now) c.array_of.result c.in-Err.why c.args.by c.args.h.now c.refused.new.h (λ o. slice c.args.by c.args.args.now o c.args.h.now) c.refused.result (slice-is c.args.by c.args.this.now c.args.args.now c.args.h.now) c.array_of.ensures c.in-Err.is c.refused.ensures.outcome;
  live = c.refused.ensures.live;
}
