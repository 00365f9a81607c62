use Rattle.std.proofs.Common.{◌≡◌, List, ℕ, IfOk, subst, ◌∙◌}
use Rattle.std.specs.Prelude.{option_copied}
use Rattle.css_kept.specs.Table.{rows, values_in}
use Rattle.url_rule.specs.Table.{rows_of}
use Rattle.css_urls.specs.Answers.{for_sheets}
use Rattle.css_cajoler.specs.Views.{texts_in}
use Rattle.css_cajoler.proofs.table.values_of_property.Goals as goal

pub returns : goal.returns
returns g c =
    let a = for_sheets (rows_of c.args.urls.now.table.items) (option_copied c.args.base) in
    subst (λ (n : List ℕ). IfOk c.values_in.result (λ kept. texts_in kept ≡ values_in rows a n c.args.list.now)) (c.deref.ensures.value ∙ c.in_ok-fill.ensures) c.values_in.ensures
