use Rattle.std.proofs.Common.{◌≡◌, rules}
use Rattle.public_properties.specs.Functions.{function_kind}
use Rattle.public_guards.proofs.CallRows.{construct-comes}
use Rattle.public_guards.proofs.construct_with.construct_with.Goals as goal

pub returns-clause-outcome : goal.returns-clause-outcome
returns-clause-outcome c =
    let kind : c.in_ok-kind.kind ≡ function_kind c.args.h.now c.args.f.now = search rules in
    construct-comes c.args.by c.args.f.now c.args.args.items c.args.h.now c.call_constructor.new.h c.in_ok-kind.kind c.call_constructor.result kind c.call_constructor.ensures.outcome
