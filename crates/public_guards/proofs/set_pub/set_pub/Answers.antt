use Rattle.std.proofs.Common.{◌≡◌, Some, None, Ok, rules}
use Rattle.public_properties.specs.Keys.{object_key}
use Rattle.public_properties.proofs.AtKey.{at_some, at_none}
use Rattle.public_guards.specs.Writing.{set_answer}
use Rattle.public_guards.proofs.WriteRows.{set_pub-is}
use Rattle.public_guards.proofs.set_pub.set_pub.Goals as goal

pub returns-in-Some-clause-outcome : goal.returns-in-Some-clause-outcome
returns-in-Some-clause-outcome c =
    let h = c.args.h.now in
    let key : object_key h c.args.o.now c.args.k.now ≡ Ok (Some c.in-Some.key) = search rules in
    at_some _ c.args.o.now c.args.k.now c.args.by h c.set_at.new.h (set_answer c.args.o.now c.args.v.now c.args.by h) c.in-Some.key c.set_at.result (set_pub-is c.args.by c.args.o.now c.args.k.now c.args.v.now h) key c.set_at.ensures.outcome

pub returns-in-None-clause-outcome : goal.returns-in-None-clause-outcome
returns-in-None-clause-outcome c =
    let h = c.args.h.now in
    let key : object_key h c.args.o.now c.args.k.now ≡ Ok None = search rules in
    at_none _ c.args.o.now c.args.k.now c.args.by h c.thrown.new.h (set_answer c.args.o.now c.args.v.now c.args.by h) c.thrown.result (set_pub-is c.args.by c.args.o.now c.args.k.now c.args.v.now h) key c.thrown.ensures.outcome
