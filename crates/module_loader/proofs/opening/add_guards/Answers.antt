use Rattle.std.proofs.Common.{◌≡◌, OnOk, subst}
use Rattle.heap_rows.specs.Opening.{with_hidden_functions, guard_names, load_module}
use Rattle.module_loader.proofs.opening.add_guards.Goals as goal

pub returns-clause-store : goal.returns-clause-store
returns-clause-store c =
    subst (λ o. OnOk c.add_hidden_functions.result (c.add_hidden_functions.new.heap ≡ with_hidden_functions guard_names load_module o c.args.heap.now)) c.requires.place c.add_hidden_functions.ensures.store
