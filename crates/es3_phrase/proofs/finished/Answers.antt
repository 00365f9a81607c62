use Rattle.std.proofs.Common.{Some, None, ap, sym, ◌∙◌}
use Rattle.es3_tree.specs.PlacedView.{expr}
use Rattle.es3_grammar.specs.Frames.{Stack}
use Rattle.es3_grammar.specs.Machine.{finished, phrase}
use Rattle.es3_grammar.specs.Longest.{is_phrase}
use Rattle.es3_frames.specs.Views.{frame_of, stack_of}
use Rattle.es3_phrase.proofs.Filling.{finished_on, none_open}
use Rattle.es3_phrase.proofs.finished.Goals as goal

pub loop-frame-preserved : goal.loop-frame-preserved
loop-frame-preserved c =
    finished_on (frame_of c.in-Some.frame) (stack_of c.pop.new.self) (expr c.loop-frame.part.tree.value) (Some (expr c.in-Some-2.made.tree.value)) (rw c.in-Some-2.is at c.in_ok-made.ensures)
    ∙ ap (λ (k : Stack). finished k (expr c.loop-frame.part.tree.value)) (sym c.in-Some.ensures)
    ∙ c.loop-frame.invariant

pub returns-in-None : goal.returns-in-None
returns-in-None c = sym (ap is_phrase (
    finished_on (frame_of c.in-Some.frame) (stack_of c.pop.new.self) (expr c.loop-frame.part.tree.value) None (rw c.in-None.is at c.in_ok-made.ensures)
    ∙ ap (λ (k : Stack). finished k (expr c.loop-frame.part.tree.value)) (sym c.in-Some.ensures)
    ∙ c.loop-frame.invariant))

pub returns : goal.returns
returns c = sym c.loop-frame.invariant ∙ none_open (stack_of c.loop-frame.stack) (expr c.loop-frame.part.tree.value) c.in_default.ensures.0 ∙ ap (λ x. phrase (expr x)) (sym c.into_inner.ensures)
