use Rattle.std.proofs.Common.{◌≡◌, ℕ, List, length, refl, ◌∙◌}
use Rattle.es3_objects.specs.declared.value.Proto.{Proto}
use Rattle.es3_heap.specs.Objects.{Objects, with_object}
use Rattle.es3_heap.specs.Making.{error_object, named}
use Rattle.row_outcomes.proofs.named_error.Goals as goal

-- the error that was made, with its name as it was passed
named-error : (h g : Objects) (o by : ℕ) (p : Proto) (name kind message : List ℕ) → g ≡ with_object h (error_object p name message) → o ≡ length h.list → name ≡ kind
    → named g o by ≡ named (with_object h (error_object p kind message)) (length h.list) by
named-error h g o by p name kind message made last same = rw (made, last, same) refl

pub returns-clause-store : goal.returns-clause-store
returns-clause-store c =
    c.name_next.ensures.store ∙ named-error c.args.h.now _ _ c.args.by c.args.proto _ _ c.args.message c.in_ok-error.ensures.store c.in_ok-error.ensures.id c.in_ok-name.ensures
