use Rattle.std.proofs.Common.{refl, arith, sym, ap, inl, inr, map, drop, ◌+◌, ◌∙◌}
use Rattle.es3_grammar.specs.Frames.{want}
use Rattle.es3_frames.specs.Views.{spot_of, stack_of, state_of}
use Rattle.es3_stmt.specs.declared.read.ReadError.TheVariants as error
use Rattle.es3_stmt.proofs.Readings.{few}
use Rattle.es3_phrase.proofs.Fronts.{begun, positive, no_room, stops, deepens, goes_on, ends, counted_best}
use Rattle.es3_phrase.proofs.longest.Goals as goal

pub returns-then-nest-eq0 : goal.returns-then-nest-eq0
returns-then-nest-eq0 c = (no_room c.args.nest (map spot_of c.args.tokens.now) c.if-nest-eq0.true, inr c.if-nest-eq0.true, refl)

pub loop-before-init : goal.loop-before-init
loop-before-init c = record {
  on = begun _ _ _ (positive c.args.nest c.if-nest-eq0.false) (ap want c.new-stack.ensures);
  few = omega arith;
}

pub turn-brackets-requires : goal.turn-brackets-requires
turn-brackets-requires c = let low = c.loop-before.invariant.few in let room = c.requires in omega arith

pub returns-in-None : goal.returns-in-None
returns-in-None c =
    let found = stops _ _ _ _ c.index-tokens-before.result _ _ c.loop-before-test.true c.index-tokens-before.is c.loop-before.invariant.on (rw c.in-None.is at c.in_ok-next.ensures) in
    counted_best c.args.nest c.args.end (map spot_of c.args.tokens.now) c.loop-before.best (error.Syntax c.index-tokens-before.result.start) c.ok_or.result c.ok_or.ensures.value found.0
    (λ none. (none, inl (spot_of c.index-tokens-before.result, map spot_of (drop (c.loop-before.before + 1) c.args.tokens.now), found.1, refl)))

pub returns-then-not-is_within : goal.returns-then-not-is_within
returns-then-not-is_within c =
    let found = deepens _ _ _ _ c.index-tokens-before.result _ _ c.loop-before-test.true c.index-tokens-before.is c.loop-before.invariant.on _ _ c.turn-brackets.ensures (sym c.is_within.ensures ∙ c.if-not-is_within.true) (rw c.in-Some.is at c.in_ok-next.ensures) in
    counted_best c.args.nest c.args.end (map spot_of c.args.tokens.now) c.loop-before.best (error.TooDeep 0) c.ok_or-then-not-is_within.result c.ok_or-then-not-is_within.ensures.value found.0
    (λ none. (none, inl (spot_of c.index-tokens-before.result, map spot_of (drop (c.loop-before.before + 1) c.args.tokens.now), found.1), refl))

pub loop-before-preserved : goal.loop-before-preserved
loop-before-preserved c =
    let within = sym c.is_within.ensures ∙ c.if-not-is_within.false in
    record {
      on = goes_on _ _ _ _ c.index-tokens-before.result _ _ c.loop-before-test.true c.index-tokens-before.is c.loop-before.invariant.on _ _ c.is_phrase.result _ c.turn-brackets.ensures within (rw c.in-Some.is at c.in_ok-next.ensures) c.is_phrase.ensures c.better-best.ensures;
      few = few _ _ (state_of c.in-Some.next (stack_of c.step.new.stack)) within;
    }

pub returns : goal.returns
returns c =
    let found = ends _ _ _ _ _ _ c.loop-before-test.false c.loop-before.invariant.on in
    counted_best c.args.nest c.args.end (map spot_of c.args.tokens.now) c.loop-before.best (error.Syntax c.args.end) c.ok_or-2.result c.ok_or-2.ensures.value found.0
    (λ none. (none, inr (found.1, refl)))
