use Rattle.builtin_string.specs.Strings.{index_of}
use Rattle.builtin_string.proofs.Comes.{at_text, at_other}
use Rattle.builtin_string.proofs.Rows.{index_of-is}
use Rattle.builtin_string.proofs.places.index_of.Goals as goal

pub returns-in-Text-clause-outcome : goal.returns-in-Text-clause-outcome
returns-in-Text-clause-outcome c =
    at_text _ c.args.this.now c.args.by c.args.h.now (λ us. index_of us c.args.args.now c.args.h.now) _ c.first_index.result c.outcome_of.result (index_of-is c.args.by c.args.this.now c.args.args.now c.args.h.now) c.in-Text.is c.first_index.ensures c.outcome_of.ensures

pub returns-in_default : goal.returns-in_default
returns-in_default c = record {
  outcome = at_other _ c.args.this.now c.args.by c.args.h.now c.thrown.new.h (λ us. index_of us c.args.args.now c.args.h.now) c.thrown.result (index_of-is c.args.by c.args.this.now c.args.args.now c.args.h.now) c.in_default.not-Text c.thrown.ensures.outcome;
  live = c.thrown.ensures.live;
}
