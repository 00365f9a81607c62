use Rattle.std.proofs.Common.{◌≡◌, Some, None, rules}
use Rattle.freeze_marks.specs.Listing.{public_keys}
use Rattle.public_guards.proofs.ListRows.{keys_pub-comes}
use Rattle.public_guards.proofs.keys_pub.keys_pub.Goals as goal

pub returns-in-Some-clause-outcome : goal.returns-in-Some-clause-outcome
returns-in-Some-clause-outcome c =
    let found : Some c.in-Some.keys.items ≡ public_keys c.args.h.now c.args.o.now = search rules in
    keys_pub-comes c.args.by c.args.o.now c.args.h.now c.listed.new.h (Some c.in-Some.keys.items) c.listed.result found c.listed.ensures.outcome

pub returns-in-None-clause-outcome : goal.returns-in-None-clause-outcome
returns-in-None-clause-outcome c =
    let none : None ≡ public_keys c.args.h.now c.args.o.now = search rules in
    keys_pub-comes c.args.by c.args.o.now c.args.h.now c.thrown.new.h None c.thrown.result none c.thrown.ensures.outcome
