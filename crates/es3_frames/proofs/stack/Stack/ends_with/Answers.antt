use Rattle.std.proofs.Common.{[], List, sym, ap, ◌∙◌}
use Rattle.es3_frames.specs.Ending.{ends_all}
use Rattle.es3_frames.specs.Kept.{over}
use Rattle.es3_frames.specs.declared.stack.Entry.{Entry}
use Rattle.es3_frames.proofs.Stacks.{pushed, all_ended}
use Rattle.es3_frames.proofs.stack.Stack.ends_with.Goals as goal

pub returns-then-not-fills : goal.returns-then-not-fills
returns-then-not-fills c = sym (
    c.loop-entry.invariant
    ∙ ap (λ (es : List Entry). ends_all c.loop-entry.target (over es [])) c.in-Some.ensures.steps
    ∙ ap (ends_all c.loop-entry.target) (pushed c.next.new.self.iter.rest.now c.in-Some.entry.now [])
    ∙ c.if-not-fills.ensures (over c.next.new.self.iter.rest.now []))

pub loop-entry-preserved : goal.loop-entry-preserved
loop-entry-preserved c =
    c.loop-entry.invariant
    ∙ ap (λ (es : List Entry). ends_all c.loop-entry.target (over es [])) c.in-Some.ensures.steps
    ∙ ap (ends_all c.loop-entry.target) (pushed c.next.new.self.iter.rest.now c.in-Some.entry.now [])
    ∙ c.if-not-fills.ensures (over c.next.new.self.iter.rest.now [])

pub returns : goal.returns
returns c = sym (c.loop-entry.invariant ∙ all_ended c.loop-entry.target _ c.in-None.ensures.steps.0)
