use Rattle.std.proofs.Common.{◌≡◌, ◌∙◌, ap, sym, cond, rules}
use Rattle.es3_objects.specs.declared.value.Value.TheVariants.{Obj}
use Rattle.es3_language.specs.Natives.{value_reply}
use Rattle.heap_rows.specs.Marks.{frozen_mark, marked}
use Rattle.freeze_marks.proofs.Fresh.{named-new}
use Rattle.freeze_marks.proofs.copies.finished.Goals as goal
use Rattle.freeze_marks.proofs.copies.finished.Goals.{then-closed+in_ok-map_err, else-closed}

pub returns-clause-outcome : goal.returns-clause-outcome
returns-clause-outcome c = λ g x is last.
    let h = c.args.h.now in
    let closed : c.if-closed.h ≡ cond c.args.closed (marked h c.args.o frozen_mark) h =
    elim c.if-closed.branch [
      | then-closed+in_ok-map_err w ↦ search rules
      | else-closed w ↦ search rules
    ] in
    (ap (λ o. value_reply (Obj o)) (sym last), named-new c.args.closed g h c.if-closed.h x c.args.o c.args.by is last closed ∙ sym c.name_next.ensures.store)
