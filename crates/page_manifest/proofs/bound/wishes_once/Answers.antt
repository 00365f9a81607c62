use Rattle.std.proofs.Common.{ap, sym, ◌∙◌, map}
use Rattle.page_manifest.specs.Bound as spec
use Rattle.page_manifest.specs.NamedView as wanted
use Rattle.page_manifest.proofs.Told.{wished}
use Rattle.page_manifest.proofs.bound.wishes_once.Goals as goal

pub returns-in-Some : goal.returns-in-Some
returns-in-Some c =
    ap (λ o. spec.unless o (λ _. (6, c.args.at)) (spec.wish_names (wanted.told c.args.owner.now)))
    (ap spec.once_each (wished c.args.owner.now.wishes.items ∙ ap (map (λ w. w.0)) (sym c.deref.ensures.value) ∙ sym c.in_ok-names.ensures ∙ sym c.deref-2.ensures.value) ∙ sym c.in-Some.ensures.is)

pub returns : goal.returns
returns c =
    ap (λ o. spec.unless o (λ _. (6, c.args.at)) (spec.wish_names (wanted.told c.args.owner.now)))
    (ap spec.once_each (wished c.args.owner.now.wishes.items ∙ ap (map (λ w. w.0)) (sym c.deref.ensures.value) ∙ sym c.in_ok-names.ensures ∙ sym c.deref-2.ensures.value) ∙ sym c.in-None.ensures.is)
