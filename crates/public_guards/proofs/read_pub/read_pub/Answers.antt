use Rattle.std.proofs.Common.{◌≡◌, Some, None, Ok, rules}
use Rattle.public_properties.specs.Keys.{object_key}
use Rattle.public_properties.proofs.AtKey.{at_some, at_none}
use Rattle.public_guards.specs.Reading.{read_answer}
use Rattle.public_guards.proofs.ReadRows.{read_pub-is}
use Rattle.public_guards.proofs.read_pub.read_pub.Goals as goal

pub returns-in-Some-clause-outcome : goal.returns-in-Some-clause-outcome
returns-in-Some-clause-outcome c =
    let h = c.args.h.now in
    let key : object_key h c.args.o.now c.args.k.now ≡ Ok (Some c.in-Some.key) = search rules in
    at_some _ c.args.o.now c.args.k.now c.args.by h c.read_at.new.h (read_answer c.args.o.now h) c.in-Some.key c.read_at.result (read_pub-is c.args.by c.args.o.now c.args.k.now h) key c.read_at.ensures.outcome

pub returns-in-None-clause-outcome : goal.returns-in-None-clause-outcome
returns-in-None-clause-outcome c =
    let h = c.args.h.now in
    let key : object_key h c.args.o.now c.args.k.now ≡ Ok None = search rules in
    at_none _ c.args.o.now c.args.k.now c.args.by h c.thrown.new.h (read_answer c.args.o.now h) c.thrown.result (read_pub-is c.args.by c.args.o.now c.args.k.now h) key c.thrown.ensures.outcome
