use Rattle.std.proofs.Common.{◌≡◌, OnOk, ap, ◌∙◌, subst}
use Rattle.rows.specs.Names.{text_methods, array_methods}
use Rattle.global_names.specs.Opening.{placed, with_methods, with_prototypes}
use Rattle.global_names.proofs.opening.add_prototypes.Goals as goal

pub returns-clause-store : goal.returns-clause-store
unfolding with_prototypes
returns-clause-store c =
    subst (λ h. OnOk c.add_methods-3.result (c.add_methods-3.new.heap ≡ with_methods 2 (placed array_methods) h))
    (c.in_ok-add_methods-2.ensures.store ∙ ap (with_methods 3 (placed text_methods)) c.in_ok-add_methods.ensures.store)
    c.add_methods-3.ensures.store
