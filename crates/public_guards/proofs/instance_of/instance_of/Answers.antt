use Rattle.std.proofs.Common.{◌≡◌, Some, None, Result, Ok, ap, refl, rules}
use Rattle.es3_objects.specs.declared.value.Value.TheVariants.{Bool}
use Rattle.es3_objects.specs.declared.value.Stop.{Stop}
use Rattle.es3_language.specs.Natives.{value_reply}
use Rattle.row_outcomes.specs.declared.Outcome.{Outcome}
use Rattle.row_outcomes.specs.declared.Outcome.TheVariants.{Value as Answered}
use Rattle.public_properties.specs.Functions.{function_kind}
use Rattle.public_guards.specs.Calling.{made_by_kind}
use Rattle.public_guards.proofs.CallRows.{instance_of-comes}
use Rattle.public_guards.proofs.instance_of.instance_of.Goals as goal

pub returns-in_ok-found-in-Some-clause-outcome : goal.returns-in_ok-found-in-Some-clause-outcome
returns-in_ok-found-in-Some-clause-outcome c =
    let h = c.args.h.now in
    let kind : Some c.in-Some.kind ≡ function_kind h c.args.f.now = search rules in
    let found : made_by_kind c.in-Some.kind h c.args.x.now ≡ c.in_ok-found-in-Some.found = search rules in
    let answer : Result Outcome Stop = Ok (Answered (Bool c.in_ok-found-in-Some.found)) in
    instance_of-comes c.args.by c.args.x.now c.args.f.now h h (Some c.in-Some.kind) answer kind (ap (λ b. value_reply (Bool b)) found, refl)

pub returns-in-None-clause-outcome : goal.returns-in-None-clause-outcome
returns-in-None-clause-outcome c =
    let none : None ≡ function_kind c.args.h.now c.args.f.now = search rules in
    instance_of-comes c.args.by c.args.x.now c.args.f.now c.args.h.now c.thrown.new.h None c.thrown.result none c.thrown.ensures.outcome
