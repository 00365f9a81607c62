use Rattle.std.proofs.Common.{◌≡◌, ◌∷◌, length, pos, refl, ap, sym, ◌∙◌, subst, rules}
use Rattle.std.proofs.lemmas.List.{append-nil}
use Rattle.property_tables.specs.Indexed.{present, entries}
use Rattle.es3_objects.specs.declared.value.Value.TheVariants.{Num}
use Rattle.es3_objects.specs.Objects.{fixed_attrs}
use Rattle.es3_objects.specs.Properties.{length_key}
use Rattle.es3_objects.specs.Making.{item_properties}
use Rattle.es3_objects.specs.Reading.{property}
use Rattle.es3_objects.specs.Held.{listed, ArePlain, IsPlain}
use Rattle.es3_objects.proofs.Listed.{items-listed}
use Rattle.es3_objects.proofs.Plain.{filled-plain}
use Rattle.es3_objects.proofs.properties.Properties.of_array.Goals as goal

pub returns : goal.returns
returns c =
    let count : c.len.result ≡ length c.args.items.items = search rules in
    let p = property length_key (Num c.whole.result) fixed_attrs in
    ap (λ x. p ∷ listed (entries x)) c.from_slots.ensures ∙ ap (λ es. p ∷ listed es) (append-nil (present 0 c.in_ok-slots.slots.items) ∙ ap (present 0) c.in_ok-slots.ensures)
    ∙ ap (λ ps. p ∷ ps) (items-listed 0 c.args.items.items) ∙ ap (λ n. property length_key (Num n) fixed_attrs ∷ item_properties 0 c.args.items.items) (c.whole.ensures ∙ ap pos count)

pub invariant_of-result : goal.invariant_of-result
invariant_of-result c = λ is. subst IsPlain (sym c.from_slots.ensures) (record { slots = subst ArePlain (sym c.in_ok-slots.ensures) (filled-plain c.args.items.items); alone = refl })
