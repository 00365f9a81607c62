use Rattle.std.proofs.Common.{ℕ, List, ◌++◌, not, filter, take, ap, sym, subst, ◌∙◌}
use Rattle.property_tables.specs.Indexed.{Indexed, IsIndexed, present, entries, is_index_from}
use Rattle.property_tables.proofs.Slots.{drop_from-kept, drop_from-is}
use Rattle.property_tables.proofs.indexed.IndexedProps.drop_from.Goals as goal

pub invariant_of-self : goal.invariant_of-self
invariant_of-self g c =
    let xs = c.self.inside.slots.items in
    let os = c.self.inside.others in
    subst (λ l. IsIndexed l c.drop_from.new.self c.self.inside.mixed) (sym c.truncate.ensures.items)
    (subst (λ l. IsIndexed (take c.args.n xs) l c.self.inside.mixed) (sym c.drop_from.ensures) (drop_from-kept c.args.n (λ (e : List ℕ × g.row.P.Denot). not (is_index_from c.args.n e.0)) xs os c.self.invariant))

pub returns-clause-left : goal.returns-clause-left
returns-clause-left g c =
    let xs = c.self.inside.slots.items in
    let os = c.self.inside.others in
    ap (λ l. present 0 l ++ c.drop_from.new.self) c.truncate.ensures.items ∙ ap (λ l. present 0 (take c.args.n xs) ++ l) c.drop_from.ensures ∙ drop_from-is c.args.n xs os c.self.invariant
    ∙ ap (λ (v : Indexed g.row.P.Denot). filter (λ (e : List ℕ × g.row.P.Denot). not (is_index_from c.args.n e.0)) (entries v)) c.self.view_is
