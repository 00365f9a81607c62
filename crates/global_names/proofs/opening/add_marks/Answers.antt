use Rattle.std.proofs.Common.{◌≡◌, OnOk, subst}
use Rattle.global_names.specs.Opening.{array_calls, with_call_marks, with_marks}
use Rattle.global_names.proofs.opening.add_marks.Goals as goal

pub returns-clause-store : goal.returns-clause-store
unfolding with_marks
returns-clause-store c =
    subst (λ h. OnOk c.add_call_marks-2.result (c.add_call_marks-2.new.heap ≡ with_call_marks 2 array_calls h)) c.in_ok-add_call_marks.ensures.store c.add_call_marks-2.ensures.store
