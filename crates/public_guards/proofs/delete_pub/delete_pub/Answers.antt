use Rattle.std.proofs.Common.{◌≡◌, Some, None, Ok, rules}
use Rattle.public_properties.specs.Keys.{object_key}
use Rattle.public_properties.proofs.AtKey.{at_some, at_none}
use Rattle.public_guards.specs.Writing.{delete_answer}
use Rattle.public_guards.proofs.WriteRows.{delete_pub-is}
use Rattle.public_guards.proofs.delete_pub.delete_pub.Goals as goal

pub returns-in-Some-clause-outcome : goal.returns-in-Some-clause-outcome
returns-in-Some-clause-outcome c =
    let h = c.args.h.now in
    let key : object_key h c.args.o.now c.args.k.now ≡ Ok (Some c.in-Some.key) = search rules in
    at_some _ c.args.o.now c.args.k.now c.args.by h c.delete_at.new.h (delete_answer c.args.o.now c.args.by h) c.in-Some.key c.delete_at.result (delete_pub-is c.args.by c.args.o.now c.args.k.now h) key c.delete_at.ensures.outcome

pub returns-in-None-clause-outcome : goal.returns-in-None-clause-outcome
returns-in-None-clause-outcome c =
    let h = c.args.h.now in
    let key : object_key h c.args.o.now c.args.k.now ≡ Ok None = search rules in
    at_none _ c.args.o.now c.args.k.now c.args.by h c.thrown.new.h (delete_answer c.args.o.now c.args.by h) c.thrown.result (delete_pub-is c.args.by c.args.o.now c.args.k.now h) key c.thrown.ensures.outcome
