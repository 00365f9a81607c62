use Rattle.std.proofs.Common.{◌≡◌, ◌++◌, OnOk, ap, ◌∙◌, subst}
use Rattle.module_loader.proofs.Imported.{imports_are}
use Rattle.module_loader.proofs.imports.add_imports_of.Goals as goal

pub returns-clause-store : goal.returns-clause-store
returns-clause-store c =
    subst (λ g. OnOk c.new_record.result (c.new_record.new.h ≡ g))
    (imports_are c.args.owner c.args.granted.items _ c.args.heap.now c.requires.new (c.in_ok-append.ensures.items ∙ ap (λ l. l ++ c.args.granted.items) c.in_ok-values.ensures))
    c.new_record.ensures.store
