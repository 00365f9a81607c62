use Rattle.builtin_string.specs.Strings.{concat_text}
use Rattle.builtin_string.proofs.Comes.{at_text, at_other}
use Rattle.builtin_string.proofs.Rows.{concat_text-is}
use Rattle.builtin_string.proofs.whole.concat_text.Goals as goal

pub returns-in-Text-clause-outcome : goal.returns-in-Text-clause-outcome
returns-in-Text-clause-outcome c =
    at_text _ c.args.this.now c.args.by c.args.h.now (λ us. concat_text us c.args.args.now c.args.h.now) _ c.joined.result c.outcome_of.result (concat_text-is c.args.by c.args.this.now c.args.args.now c.args.h.now) c.in-Text.is c.joined.ensures c.outcome_of.ensures

pub returns-in_default : goal.returns-in_default
returns-in_default c = record {
  outcome = at_other _ c.args.this.now c.args.by c.args.h.now c.thrown.new.h (λ us. concat_text us c.args.args.now c.args.h.now) c.thrown.result (concat_text-is c.args.by c.args.this.now c.args.args.now c.args.h.now) c.in_default.not-Text c.thrown.ensures.outcome;
  live = c.thrown.ensures.live;
}
