use Rattle.builtin_string.specs.Strings.{split_done}
use Rattle.builtin_string.proofs.Comes.{done_at_text, done_at_other}
use Rattle.builtin_string.proofs.Rows.{split-is}
use Rattle.builtin_string.proofs.pieces.split.Goals as goal

pub returns-in-Text-clause-outcome : goal.returns-in-Text-clause-outcome
returns-in-Text-clause-outcome c =
    done_at_text _ c.args.this.now c.args.by c.args.h.now c.split_text.new.h (λ us. split_done c.args.by us c.args.args.now c.args.h.now) _ c.split_text.result (split-is c.args.by c.args.this.now c.args.args.now c.args.h.now) c.in-Text.is c.split_text.ensures.outcome

pub returns-in_default : goal.returns-in_default
returns-in_default c = record {
  outcome = done_at_other _ c.args.this.now c.args.by c.args.h.now c.thrown.new.h (λ us. split_done c.args.by us c.args.args.now c.args.h.now) c.thrown.result (split-is c.args.by c.args.this.now c.args.args.now c.args.h.now) c.in_default.not-Text c.thrown.ensures.outcome;
  live = c.thrown.ensures.live;
}
