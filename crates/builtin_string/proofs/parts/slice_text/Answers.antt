use Rattle.builtin_string.specs.Strings.{slice_text}
use Rattle.builtin_string.proofs.Comes.{at_text, at_other}
use Rattle.builtin_string.proofs.Rows.{slice_text-is}
use Rattle.builtin_string.proofs.parts.slice_text.Goals as goal

pub returns-in-Text-clause-outcome : goal.returns-in-Text-clause-outcome
returns-in-Text-clause-outcome c =
    at_text _ c.args.this.now c.args.by c.args.h.now (λ us. slice_text us c.args.args.now c.args.h.now) _ c.slice_of.result c.outcome_of.result (slice_text-is c.args.by c.args.this.now c.args.args.now c.args.h.now) c.in-Text.is c.slice_of.ensures c.outcome_of.ensures

pub returns-in_default : goal.returns-in_default
returns-in_default c = record {
  outcome = at_other _ c.args.this.now c.args.by c.args.h.now c.thrown.new.h (λ us. slice_text us c.args.args.now c.args.h.now) c.thrown.result (slice_text-is c.args.by c.args.this.now c.args.args.now c.args.h.now) c.in_default.not-Text c.thrown.ensures.outcome;
  live = c.thrown.ensures.live;
}
