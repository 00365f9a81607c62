use Rattle.std.proofs.Common.{not, option_copied, ap, sym, ◌∙◌}
use Rattle.es3_objects.specs.Properties.{may_delete}
use Rattle.es3_objects.specs.Reading.{property}
use Rattle.es3_objects.proofs.Listed.{seen, without-none, without-kept, without-taken}
use Rattle.es3_objects.proofs.properties.Properties.delete.Goals as goal

pub returns-in_default-clause-answer : goal.returns-in_default-clause-answer
returns-in_default-clause-answer c =
    let k = c.args.k.now in
    sym (ap may_delete (c.find.ensures ∙ ap (λ r. seen k (option_copied r)) c.in_default.is))

pub returns-in_default-clause-left : goal.returns-in_default-clause-left
returns-in_default-clause-left c =
    let k = c.args.k.now in
    without-none k c.args.self.now (c.find.ensures ∙ ap (λ r. seen k (option_copied r)) c.in_default.is)

pub returns-then-held-clause-answer : goal.returns-then-held-clause-answer
returns-then-held-clause-answer c =
    let k = c.args.k.now in
    sym (ap may_delete (c.find.ensures ∙ ap (λ r. seen k (option_copied r)) c.in-Some.is) ∙ ap not c.if-held.true)

pub returns-then-held-clause-left : goal.returns-then-held-clause-left
returns-then-held-clause-left c =
    let k = c.args.k.now in
    let held = c.in-Some.held.now in
    without-kept k c.args.self.now (property k held.value held.attrs) (c.find.ensures ∙ ap (λ r. seen k (option_copied r)) c.in-Some.is) c.if-held.true

pub returns-clause-answer : goal.returns-clause-answer
returns-clause-answer c =
    let k = c.args.k.now in
    sym (ap may_delete (c.find.ensures ∙ ap (λ r. seen k (option_copied r)) c.in-Some.is) ∙ ap not c.if-held.false)

pub returns-clause-left : goal.returns-clause-left
returns-clause-left c =
    let k = c.args.k.now in
    let held = c.in-Some.held.now in
    c.take.ensures ∙ without-taken k c.args.self.now (property k held.value held.attrs) (c.find.ensures ∙ ap (λ r. seen k (option_copied r)) c.in-Some.is) c.if-held.false
