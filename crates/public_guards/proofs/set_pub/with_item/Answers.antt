use Rattle.std.proofs.Common.{◌≡◌, ◌<◌, ◌≤◌, ◌++◌, ◌∷◌, [], length, ◌∙◌, rules}
use Rattle.public_guards.proofs.WriteRows.{item_there, item_behind}
use Rattle.public_guards.proofs.set_pub.with_item.Goals as goal

pub returns-then-at-len : goal.returns-then-at-len
returns-then-at-len c =
    let within : c.args.at < length c.args.items.items = search rules in
    item_there c.args.items.items c.args.at c.args.value within

pub returns : goal.returns
returns c =
    let past : length c.args.items.items ≤ c.args.at = search rules in
    let pushed : c.push.new.self.items ≡ c.args.items.items ++ c.args.value ∷ [] = search rules in
    pushed ∙ item_behind c.args.items.items c.args.at c.args.value past
