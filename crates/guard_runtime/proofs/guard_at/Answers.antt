use Rattle.std.proofs.Common.{◌≡◌, ◌-◌, false, ap, ◌∙◌, arith, rules}
use Rattle.std.specs.Prelude.{nat_lt, slice_get}
use Rattle.std.proofs.lemmas.Bool.Decides.{nat_tests}
use Rattle.guard_runtime.specs.declared.TheConstants.{GUARDS}
use Rattle.guard_runtime.proofs.guard_at.Goals as goal

pub returns : goal.returns
returns c =
    let at : c.in_ok-at.at ≡ c.args.number - 65 = search rules in
    let past : nat_lt c.args.number 65 ≡ false = grind (arith, nat_tests) in
    let found : c.copied.result ≡ slice_get GUARDS c.in_ok-at.at = search rules in
    rw past (found ∙ ap (slice_get GUARDS) at)
