use Rattle.std.proofs.Common.{◌∙◌}
use Rattle.global_names.proofs.Named.{named_is}
use Rattle.global_names.proofs.opening.add_global_names.Goals as goal

pub returns-clause-store : goal.returns-clause-store
returns-clause-store c =
    named_is c.args.heap.now _ _ _ _ _ _ _ _ _ (c.number.ensures ∙ c.in_ok-object.ensures.id) c.in_ok-object.ensures.store c.in_ok-globals.ensures.id c.in_ok-globals.ensures.store c.in_ok-add_names.ensures.store c.in_ok-hide.ensures.store c.in_ok-hide-2.ensures.store c.in_ok-add_prototypes.ensures.store c.in_ok-add_marks.ensures.store
