use Rattle.std.proofs.Common.{◌≡◌, ◌-◌, length, take, drop, true, rules}
use Rattle.builtin_core.specs.Seeing.{has_class_function}
use Rattle.builtin_core.proofs.Calls.{call_comes}
use Rattle.builtin_core.proofs.functions.call_function.Goals as goal

pub returns-in_ok-rest-in-len1-up-clause-outcome : goal.returns-in_ok-rest-in-len1-up-clause-outcome
returns-in_ok-rest-in-len1-up-clause-outcome c =
    let args = c.args.args.now in
    let is : true ≡ has_class_function c.args.h.now c.args.this.now = search rules in
    let others : c.in_ok-rest-in-len1-up.rest.items ≡ take (length args - 1) (drop 1 args) = search rules in
    call_comes c.args.by c.args.this.now args c.args.h.now _ _ c.invoke-in-len1-up.result is c.in-len1-up.len_at_least c.receiver-item.is others c.invoke-in-len1-up.ensures
