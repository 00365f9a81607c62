use Rattle.std.proofs.Common.{◌≡◌, Ok, rules}
use Rattle.es3_convert.specs.Conversions.{text_of}
use Rattle.public_guards.proofs.ReadRows.{in_pub-comes}
use Rattle.public_guards.proofs.in_pub.in_pub.Goals as goal

pub returns-clause-outcome : goal.returns-clause-outcome
returns-clause-outcome c =
    let text : text_of c.args.h.now c.args.k.now ≡ Ok c.in_ok-key.key = search rules in
    in_pub-comes c.args.by c.args.k.now c.args.o.now c.args.h.now c.has_at.new.h c.in_ok-key.key c.has_at.result text c.has_at.ensures.outcome
