use Rattle.std.proofs.Common.{◌∙◌, position, ◌≡◌, Some, None}
use Rattle.property_tables.proofs.Entries.{has_key, set-inserted, push-inserted}
use Rattle.property_tables.proofs.list.ListProps.insert.Goals as goal

pub returns-in-Some-clause-ok : goal.returns-in-Some-clause-ok
returns-in-Some-clause-ok g c =
    let es = c.self.inside.entries.items in
    let at : position (has_key c.args.k.now) es ≡ Some c.in-Some.at = cc in
    set-inserted c.args.k.now c.args.p es c.in-Some.at c.index_mut-entry.result.now at c.index_mut-entry.ensures.value ∙ cc

pub returns-in_ok-push-in-None-clause-ok : goal.returns-in_ok-push-in-None-clause-ok
returns-in_ok-push-in-None-clause-ok g c =
    let es = c.self.inside.entries.items in
    let at : position (has_key c.args.k.now) es ≡ None = cc in
    let added = push-inserted c.args.k.now c.args.p es at in
    cc (added, c.in_ok-push-in-None.ensures.items, c.in_ok-key-in-None.ensures)
