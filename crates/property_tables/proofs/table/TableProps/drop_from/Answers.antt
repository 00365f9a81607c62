use Rattle.std.proofs.Common.{ℕ, List, rules, not, filter, ap, ◌∙◌}
use Rattle.indexmap.proofs.CallerLemmas.{filter-RetainsPairs}
use Rattle.property_tables.specs.Indexed.{is_index_from}
use Rattle.property_tables.proofs.table.TableProps.drop_from.Goals as goal

pub returns : goal.returns
returns g c =
    filter-RetainsPairs _ (λ (e : List ℕ × g.row.P.Denot). not (is_index_from c.args.n e.0)) _ (λ k v b w f call. search rules) _ _ c.retain.ensures.filtered
    ∙ ap (filter (λ (e : List ℕ × g.row.P.Denot). not (is_index_from c.args.n e.0))) c.self.view_is
