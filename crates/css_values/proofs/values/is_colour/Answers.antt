use Rattle.std.proofs.Common.{◌≡◌, true, false, ◌||◌, sym, ap, ◌∙◌}
use Rattle.css_kept.specs.Table.{is_in, colours, is_hash}
use Rattle.css_values.proofs.values.is_colour.Goals as goal

pub returns-then-stands_in : goal.returns-then-stands_in
returns-then-stands_in c =
    let e : is_in colours c.args.value.now ≡ true = sym c.stands_in.ensures ∙ c.if-stands_in.true in
    c.if-stands_in.true ∙ sym (ap (λ b. b || is_hash c.args.value.now) e)

pub returns-else-stands_in : goal.returns-else-stands_in
returns-else-stands_in c =
    let e : is_in colours c.args.value.now ≡ false = sym c.stands_in.ensures ∙ c.if-stands_in.false in
    c.is_hash.ensures ∙ sym (ap (λ b. b || is_hash c.args.value.now) e)
