use Rattle.std.proofs.Common.{ap, ◌∙◌}
use Rattle.es3_tree.specs.PlacedView.{expr}
use Rattle.es3_grammar.specs.Levels.{is_target}
use Rattle.es3_frames.specs.Views.{stack_of}
use Rattle.es3_phrase.proofs.Alone.{no_expression}
use Rattle.es3_phrase.proofs.Filling.{expression_told}
use Rattle.es3_phrase.proofs.is_phrase.Goals as goal

pub returns-in_default : goal.returns-in_default
returns-in_default c = no_expression c.args.state.now (stack_of c.args.stack.now) c.in_default.not-Have c.in_default.not-Past

pub returns-in-Have : goal.returns-in-Have
returns-in-Have c =
    let told = c.is_target.ensures ∙ ap (λ x. is_target (expr x)) c.deref.ensures in
    expression_told c.args.state.now c.in-Have.part (stack_of c.args.stack.now) c.is_target.result c.ends_with.result c.in-Have.is told c.ends_with.ensures
