use Rattle.std.proofs.Common.{sym, ap, ◌∙◌}
use Rattle.html_grammar.specs.Trees.{snoc, element}
use Rattle.html_tree.specs.Views.{attrs_of, trees, tree}
use Rattle.html_reader.proofs.StackLemmas.{finish_law, other_law}
use Rattle.html_reader.proofs.reading.finish.Goals as goal

pub returns-then-not-same-clause-other : goal.returns-then-not-same-clause-other
returns-then-not-same-clause-other c = λ _ f p s x. other_law f p s x c.args.open.now.items c.pop.new.self.items c.in-Some.o c.args.here.now.items c.args.name.now c.in-Some.ensures.items (sym c.if-not-same.ensures.is)

pub returns-clause-closed : goal.returns-clause-closed
returns-clause-closed c = λ _ f p s x. finish_law f p s x c.args.open.now.items c.pop.new.self.items c.in-Some.o c.args.here.now.items c.args.name.now (trees c.push.new.list.items) c.in-Some.ensures.items (sym c.if-not-same.ensures.is)
    (c.in_ok-push.ensures.pushed ∙ ap (λ v. snoc (trees v.items) (tree c.make_element.result)) c.replace-content.ensures.after ∙ ap (snoc (trees c.in-Some.o.before.items)) (c.make_element.ensures ∙ ap (λ v. element c.in-Some.o.name (attrs_of c.in-Some.o.attrs.items) (trees v.items)) c.replace-content.ensures.value))
