use Rattle.std.proofs.Common.{◌≡◌, true, Some, None, rules}
use Rattle.builtin_core.specs.Seeing.{has_class_function}
use Rattle.builtin_core.specs.Calls.{arguments_in}
use Rattle.builtin_core.proofs.Calls.{apply_comes, apply_refused}
use Rattle.builtin_core.proofs.functions.apply_function.Goals as goal

pub returns-in-Some-clause-outcome : goal.returns-in-Some-clause-outcome
returns-in-Some-clause-outcome c =
    let is : true ≡ has_class_function c.args.h.now c.args.this.now = search rules in
    let found : Some c.in-Some.items.items ≡ arguments_in c.args.h.now c.value_or.result.now = search rules in
    apply_comes c.args.by c.args.this.now c.args.args.now c.args.h.now _ _ _ c.invoke.result is c.value_or-in-Some.ensures c.value_or.ensures found c.invoke.ensures

pub returns-clause-outcome : goal.returns-clause-outcome
returns-clause-outcome c =
    let is : true ≡ has_class_function c.args.h.now c.args.this.now = search rules in
    let bad : None ≡ arguments_in c.args.h.now c.value_or.result.now = search rules in
    apply_refused c.args.by c.args.this.now c.args.args.now c.args.h.now c.thrown-in-None.new.h _ c.thrown-in-None.result is c.value_or.ensures bad c.thrown-in-None.ensures.outcome
