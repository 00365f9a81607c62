use Rattle.std.proofs.Common.{option_copied, ap, sym, ◌∙◌}
use Rattle.caja_units.specs.Index.{number_units}
use Rattle.property_tables.specs.Indexed.{entries}
use Rattle.es3_objects.specs.Held.{listed, with_length, taken}
use Rattle.es3_objects.proofs.Listed.{taken-listed, taken-other, item-other, without-fixed, without-free}
use Rattle.es3_objects.proofs.properties.Properties.delete_item.Goals as goal

pub returns-then-attrs-clause-answer : goal.returns-then-attrs-clause-answer
returns-then-attrs-clause-answer c =
    sym (without-fixed (number_units c.args.i) c.args.self.now (option_copied c.in_ok-found.found) c.in_ok-found.ensures (ap (λ a. a.dont_delete) (sym c.attrs_of-attrs.ensures) ∙ c.if-attrs.true)).0

pub returns-then-attrs-clause-left : goal.returns-then-attrs-clause-left
returns-then-attrs-clause-left c =
    (without-fixed (number_units c.args.i) c.args.self.now (option_copied c.in_ok-found.found) c.in_ok-found.ensures (ap (λ a. a.dont_delete) (sym c.attrs_of-attrs.ensures) ∙ c.if-attrs.true)).1

pub returns-clause-answer : goal.returns-clause-answer
returns-clause-answer c =
    sym (without-free (number_units c.args.i) c.args.self.now (option_copied c.in_ok-found.found) c.in_ok-found.ensures (ap (λ a. a.dont_delete) (sym c.attrs_of-attrs.ensures) ∙ c.if-attrs.false)).0

pub returns-clause-left : goal.returns-clause-left
returns-clause-left c =
    let l = c.self.inside.length in
    let es = entries c.self.inside.others in
    let k = number_units c.args.i in
    ap (λ x. with_length l (listed x)) c.in_ok-remove_at.ensures.ok ∙ ap (with_length l) (taken-listed k es)
    ∙ taken-other l k (listed es) (item-other l c.args.i c.requires) ∙ ap (taken k) c.self.view_is
    ∙ (without-free k c.args.self.now (option_copied c.in_ok-found.found) c.in_ok-found.ensures (ap (λ a. a.dont_delete) (sym c.attrs_of-attrs.ensures) ∙ c.if-attrs.false)).1
