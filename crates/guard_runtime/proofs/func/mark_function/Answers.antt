use Rattle.std.proofs.Common.{◌≡◌, refl, sym, ap, ◌∙◌, rules}
use Rattle.es3_heap.specs.Making.{named}
use Rattle.heap_rows.specs.Marks.{marked, simple_mark, frozen_mark}
use Rattle.guard_runtime.proofs.func.mark_function.Goals as goal

pub returns-clause-outcome : goal.returns-clause-outcome
returns-clause-outcome c =
    let o = c.args.o in
    let first : c.set_mark.new.h ≡ marked c.args.h.now o simple_mark = search rules in
    let second : c.set_mark-2.new.h ≡ marked c.set_mark.new.h o frozen_mark = search rules in
    (refl, sym (c.name_next.ensures.store ∙ ap (λ g. named g o c.args.by) (second ∙ ap (λ g. marked g o frozen_mark) first)))
