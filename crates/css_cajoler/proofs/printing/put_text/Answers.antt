use Rattle.std.proofs.Common.{◌≤◌, rules, length}
use Rattle.css_cajoler.proofs.Ascii.{whole}
use Rattle.css_cajoler.proofs.printing.put_text.Goals as goal

pub returns : goal.returns
returns c =
    let past : length c.args.text.now ≤ c.loop-i.i = search rules in
    whole c.loop-i.out.items c.args.out.now.items c.args.text.now c.loop-i.i past c.loop-i.invariant.written c.loop-i.invariant.rest
