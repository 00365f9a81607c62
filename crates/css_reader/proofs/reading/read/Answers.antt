use Rattle.std.proofs.Common.{sym, ap, ◌∙◌, arith, refl}
use Rattle.std.specs.Prelude.{slice_index}
use Rattle.css_grammar.specs.Machine as m
use Rattle.css_tokens.specs.Views.{state_of, next_of}
use Rattle.css_reader.proofs.Endings.{goes_on, stops, gives_end}
use Rattle.css_reader.proofs.reading.read.Goals as goal

pub returns-in-None : goal.returns-in-None
returns-in-None c = stops c.loop-i.i (slice_index c.args.units.now c.loop-i.i) 0 c.args.units.now (state_of c.loop-i.mode c.loop-i.work) (m.read c.args.units.now) c.loop-i-test.true refl c.loop-i.invariant.rest
    (sym (ap (λ o. next_of o c.step.new.work) c.in-None.is) ∙ (c.in_ok-next.ensures ∙ ap (λ k. m.step (state_of c.loop-i.mode c.loop-i.work) k (slice_index c.args.units.now c.loop-i.i)) c.classify.ensures))

pub loop-i-preserved : goal.loop-i-preserved
loop-i-preserved c = record {
  rest = goes_on c.loop-i.i (slice_index c.args.units.now c.loop-i.i) 0 c.args.units.now (state_of c.loop-i.mode c.loop-i.work) (state_of c.in-Some.next c.step.new.work) (m.read c.args.units.now) c.loop-i-test.true refl c.loop-i.invariant.rest
      (sym (ap (λ o. next_of o c.step.new.work) c.in-Some.is) ∙ (c.in_ok-next.ensures ∙ ap (λ k. m.step (state_of c.loop-i.mode c.loop-i.work) k (slice_index c.args.units.now c.loop-i.i)) c.classify.ensures));
  within = omega (arith, c.loop-i-test.true);
}

pub returns : goal.returns
returns c = gives_end c.finish.result c.loop-i.i c.args.units.now (state_of c.loop-i.mode c.loop-i.work) c.loop-i-test.false c.finish.ensures c.loop-i.invariant.rest
