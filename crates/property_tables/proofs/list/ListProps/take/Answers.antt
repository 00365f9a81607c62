use Rattle.std.proofs.Common.{◌≡◌, Some, None, position, is_some, sym, ap}
use Rattle.property_tables.proofs.Entries.{has_key, none-looked_up, some-looked_up, none-removed, some-removed}
use Rattle.property_tables.proofs.list.ListProps.take.Goals as goal

pub returns-in-Some-clause-answer : goal.returns-in-Some-clause-answer
returns-in-Some-clause-answer g c =
    let at : position (has_key c.args.k.now) c.args.self.now ≡ Some c.in-Some.at = cc in
    sym (some-looked_up c.args.k.now c.args.self.now c.in-Some.at at)

pub returns-in-Some-clause-left : goal.returns-in-Some-clause-left
returns-in-Some-clause-left g c =
    let at : position (has_key c.args.k.now) c.args.self.now ≡ Some c.in-Some.at = cc in
    let left = some-removed c.args.k.now c.args.self.now c.in-Some.at at in
    cc (left, c.remove.ensures.items)

pub returns-in-None-clause-answer : goal.returns-in-None-clause-answer
returns-in-None-clause-answer g c =
    let at : position (has_key c.args.k.now) c.args.self.now ≡ None = cc in
    sym (ap is_some (none-looked_up c.args.k.now c.args.self.now at))

pub returns-in-None-clause-left : goal.returns-in-None-clause-left
returns-in-None-clause-left g c =
    let at : position (has_key c.args.k.now) c.args.self.now ≡ None = cc in
    sym (none-removed c.args.k.now c.args.self.now at)
