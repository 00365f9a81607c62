use Rattle.std.proofs.Common.{length, ap, ◌∙◌}
use Rattle.std.specs.Prelude.{codes}
use Rattle.es3_objects.specs.declared.value.Proto.TheVariants.{TypeError}
use Rattle.es3_heap.specs.Objects.{with_object}
use Rattle.es3_heap.specs.Making.{error_object, named}
use Rattle.module_loader.proofs.events.thrown.Goals as goal

pub returns-clause-store : goal.returns-clause-store
returns-clause-store c =
    c.in_ok-error.ensures.store ∙ ap (λ us. named (with_object c.args.h.now (error_object TypeError (codes "TypeError") us)) (length c.args.h.now.list) c.args.by) c.in_ok-message.ensures
