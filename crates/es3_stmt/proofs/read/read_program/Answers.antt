use Rattle.std.proofs.Common.{refl, arith, sym, ap, ◌∙◌}
use Rattle.es3_grammar.specs.Answers.{answer_of}
use Rattle.es3_frames.specs.Views.{stack_of, state_of}
use Rattle.es3_grammar.specs.Frames.{start}
use Rattle.es3_stmt.proofs.Readings.{begun, few, stops, deepens, goes_on, ends}
use Rattle.es3_stmt.proofs.Telling.{told_answer}
use Rattle.es3_stmt.proofs.read.read_program.Goals as goal

pub loop-token-init : goal.loop-token-init
loop-token-init c = record {
  reads = begun _ _ (start (stack_of c.push.new.self)) (rw (c.in_ok-push.ensures.pushed, c.new-stack.ensures, c.new.ensures));
  few = omega arith;
}

pub turn-brackets-requires : goal.turn-brackets-requires
turn-brackets-requires c = let few = c.loop-token.invariant.few in omega arith

pub returns-in-None-clause-answer : goal.returns-in-None-clause-answer
returns-in-None-clause-answer c =
    rw (← c.deref-token-items.ensures.value)
    (stops _ _ _ _ c.token-item.result _ c.loop-token-test.true c.token-item.is c.loop-token.invariant.reads c.args.tokens.now.end (rw c.in-None.is at c.in_ok-next.ensures))

pub returns-then-not-is_within-clause-answer : goal.returns-then-not-is_within-clause-answer
returns-then-not-is_within-clause-answer c =
    rw (← c.deref-token-items.ensures.value)
    (deepens _ _ _ _ c.token-item.result _ c.loop-token-test.true c.token-item.is c.loop-token.invariant.reads c.args.tokens.now.end _ _ c.turn-brackets.ensures (sym c.is_within.ensures ∙ c.if-not-is_within.true) (rw c.in-Some.is at c.in_ok-next.ensures), refl)

pub loop-token-preserved : goal.loop-token-preserved
loop-token-preserved c =
    let within = sym c.is_within.ensures ∙ c.if-not-is_within.false in
    record {
      reads = goes_on _ _ _ _ c.token-item.result _ c.loop-token-test.true c.token-item.is c.loop-token.invariant.reads _ _ c.turn-brackets.ensures within (rw c.in-Some.is at c.in_ok-next.ensures);
      few = few _ _ (state_of c.in-Some.next (stack_of c.step.new.stack)) within;
    }

pub returns-in-Some-2-clause-answer : goal.returns-in-Some-2-clause-answer
returns-in-Some-2-clause-answer c =
    rw (← c.deref-token-items.ensures.value)
    (ends _ _ _ c.args.tokens.now.end _ _ c.loop-token-test.false c.loop-token.invariant.reads ∙ ap (answer_of c.args.tokens.now.end) (sym (rw c.in-Some-2.is at c.in_ok-program.ensures)))

pub returns-in-None-2-clause-answer : goal.returns-in-None-2-clause-answer
returns-in-None-2-clause-answer c =
    rw (← c.deref-token-items.ensures.value)
    (ends _ _ _ c.args.tokens.now.end _ _ c.loop-token-test.false c.loop-token.invariant.reads ∙ ap (answer_of c.args.tokens.now.end) (sym (rw c.in-None-2.is at c.in_ok-program.ensures)))

pub returns-in-None-clause-told : goal.returns-in-None-clause-told
returns-in-None-clause-told c = told_answer _ _ _ _ (returns-in-None-clause-answer c)

pub returns-then-not-is_within-clause-told : goal.returns-then-not-is_within-clause-told
returns-then-not-is_within-clause-told c = told_answer _ _ _ _ (returns-then-not-is_within-clause-answer c)

pub returns-in-Some-2-clause-told : goal.returns-in-Some-2-clause-told
returns-in-Some-2-clause-told c = told_answer _ _ _ _ (returns-in-Some-2-clause-answer c)

pub returns-in-None-2-clause-told : goal.returns-in-None-2-clause-told
returns-in-None-2-clause-told c = told_answer _ _ _ _ (returns-in-None-2-clause-answer c)
