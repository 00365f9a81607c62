use Rattle.std.proofs.Common.{◌≡◌, ℕ, ◌+◌, ◌<◌, Bool, true, false, not, List, Option, length, nat_eq, sym, ◌∙◌, arith}
use Rattle.std.specs.List.{slice_get}
use Rattle.std.specs.Option.{option_eq}
use Rattle.std.proofs.lemmas.Bool.{false_from_ne_true, not-true}
use Rattle.caja_units.specs.Units.{stands_at}
use Rattle.caja_units.proofs.Compared.{option_eq-from_equal, stands_at-reads, stands_at-from_reads}
use Rattle.caja_units.proofs.compare.is_at.Goals as goal

-- one unit that differs
differs : (us part : List ℕ) (place i : ℕ) (o p : Option ℕ) (b : Bool) → i < length part → o ≡ slice_get us (place + i) → p ≡ slice_get part i → b ≡ not (option_eq nat_eq o p) → b ≡ true → stands_at us part place ≡ false
differs us part place i o p b lt one other tested differ =
    false_from_ne_true (stands_at us part place) (λ stands.
    let same : o ≡ p = one ∙ stands_at-reads us part place i stands lt ∙ sym other in
    let yes = option_eq-from_equal o p same in
    let no = not-true (option_eq nat_eq o p) (sym tested ∙ differ) in cc)

pub returns-then-ne : goal.returns-then-ne
returns-then-ne c =
    sym (differs c.args.text.now c.args.part.now c.args.place c.loop-i.i c.at.result c.at-in-loop-i.result c.ne.result (omega arith) c.at.ensures c.at-in-loop-i.ensures c.ne.ensures c.if-ne.true)

pub returns : goal.returns
returns c = sym (stands_at-from_reads c.args.text.now c.args.part.now c.args.place (λ k lt. c.loop-i.invariant k (omega arith)))
