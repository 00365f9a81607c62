use Rattle.std.proofs.Common.{◌≡◌, rules}
use Rattle.public_properties.specs.Functions.{function_kind}
use Rattle.public_guards.proofs.CallRows.{as_simple_func-comes}
use Rattle.public_guards.proofs.as_simple_func.as_simple_func.Goals as goal

pub returns-clause-outcome : goal.returns-clause-outcome
returns-clause-outcome c =
    let kind : c.in_ok-kind.kind ≡ function_kind c.args.h.now c.args.f.now = search rules in
    as_simple_func-comes c.args.by c.args.f.now c.args.h.now c.simple.new.h c.in_ok-kind.kind c.simple.result kind c.simple.ensures.outcome
