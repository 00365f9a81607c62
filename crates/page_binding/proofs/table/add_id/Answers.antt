use Rattle.std.proofs.Common.{◌∙◌}
use Rattle.page_binding.proofs.Entering.{told_of, again, entered_new}
use Rattle.page_binding.proofs.table.add_id.Goals as goal

pub returns-then-is_some : goal.returns-then-is_some
returns-then-is_some c =
    again c.args.id.now c.args.tag.now c.args.least c.args.table.now
    (told_of c.args.id.now c.args.table.now c.get.result c.is_some.result c.get.ensures c.is_some.ensures ∙ c.if-is_some.true)

pub returns : goal.returns
returns c =
    entered_new c.args.id.now c.args.tag.now c.args.least c.args.table.now c.insert.new.self c.spells-is_input.result
    (told_of c.args.id.now c.args.table.now c.get.result c.is_some.result c.get.ensures c.is_some.ensures ∙ c.if-is_some.false)
    c.spells-is_input.ensures c.in_ok-insert.ensures.ok
