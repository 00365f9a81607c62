use Rattle.std.proofs.Common.{◌≡◌, OnOk, subst}
use Rattle.row_outcomes.specs.Comes.{throws}
use Rattle.row_outcomes.proofs.type_error.Goals as goal

pub returns-clause-store : goal.returns-clause-store
returns-clause-store c =
    subst (λ us. OnOk c.named_error.result (c.named_error.new.h ≡ (throws us c.args.by c.args.h.now).heap)) c.in_ok-message.ensures c.named_error.ensures.store
