use Rattle.std.proofs.Common.{◌≡◌, Some, rules}
use Rattle.guard_runtime.specs.Guards.{items_of}
use Rattle.guard_runtime.proofs.ArgsRow.{args-comes}
use Rattle.guard_runtime.proofs.args.args.Goals as goal

pub returns-in-Some-clause-outcome : goal.returns-in-Some-clause-outcome
returns-in-Some-clause-outcome c =
    let found : Some c.in-Some.items.items ≡ items_of c.args.h.now c.args.l.now = search rules in
    args-comes c.args.by c.args.l.now c.args.h.now c.frozen_array.new.h c.in-Some.items.items c.frozen_array.result found c.frozen_array.ensures.outcome
