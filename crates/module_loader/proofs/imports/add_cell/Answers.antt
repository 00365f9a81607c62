use Rattle.std.proofs.Common.{◌≡◌, OnOk, ◌∙◌, subst}
use Rattle.module_loader.proofs.Imported.{cell_is}
use Rattle.module_loader.proofs.imports.add_cell.Goals as goal

pub returns-clause-store : goal.returns-clause-store
returns-clause-store c =
    subst (λ g. OnOk c.add_record.result (c.add_record.new.heap ≡ g))
    (cell_is c.args.cell _ _ c.args.heap.now c.add_own_function.new.heap c.add_own_function-2.new.heap (c.number.ensures ∙ c.in_ok-get.ensures.id) c.in_ok-get.ensures.store (c.number-2.ensures ∙ c.in_ok-set.ensures.id) c.in_ok-set.ensures.store)
    c.add_record.ensures.store
