-- What a method of texts comes to at a text, and at another receiver.
use Rattle.std.proofs.Common.{◌≡◌, ℕ, List, Result, subst, refl, ◌∙◌}
use Rattle.std.specs.Prelude.{codes}
use Rattle.plans.specs.Plans.{Fault}
use Rattle.es3_objects.specs.declared.value.Stop.{Stop}
use Rattle.es3_objects.specs.declared.value.Value.{Value}
use Rattle.es3_objects.specs.declared.value.Value.TheVariants as v
use Rattle.es3_heap.specs.Objects.{Objects}
use Rattle.es3_convert.specs.Answers.{Answers}
use Rattle.heap_rows.specs.Doing.{Done}
use Rattle.row_outcomes.specs.declared.Outcome.{Outcome}
use Rattle.row_outcomes.specs.Comes.{Comes, throws}
use Rattle.row_outcomes.specs.Arguments.{told, outcome_of, at_text as done_at, text_method}
use Rattle.row_outcomes.proofs.Told.{told_comes}

pub at_text : (d : Done) (this : Value) (by : ℕ) (h : Objects) (answer : List ℕ → Result Value Fault) (us : List ℕ) (a : Result Value Stop) (r : Result Outcome Stop)
    → d ≡ text_method this by h answer → this ≡ v.Text us → Answers a (answer us) → r ≡ outcome_of a → Comes d r h
at_text d this by h answer us a r row is answers same =
    let whole : d ≡ told (answer us) h = subst (λ x. d ≡ text_method x by h answer) is row in
    rw whole (told_comes a r (answer us) h answers same)

-- what is done at a text, and at another receiver
pub done_at_text : (d : Done) (this : Value) (by : ℕ) (h g : Objects) (done : List ℕ → Done) (us : List ℕ) (r : Result Outcome Stop)
    → d ≡ done_at this by h done → this ≡ v.Text us → Comes (done us) r g → Comes d r g
done_at_text d this by h g done us r row is comes = rw (row, is) comes

other_thrown : (this : Value) (by : ℕ) (h : Objects) (done : List ℕ → Done) → ((us : List ℕ) → this ≡ v.Text us → ⊥) → done_at this by h done ≡ throws (codes "bad receiver") by h
other_thrown (v.Text us) by h done other = absurd (other us refl)
other_thrown x by h done other = refl

pub done_at_other : (d : Done) (this : Value) (by : ℕ) (h g : Objects) (done : List ℕ → Done) (r : Result Outcome Stop)
    → d ≡ done_at this by h done → ((us : List ℕ) → this ≡ v.Text us → ⊥) → Comes (throws (codes "bad receiver") by h) r g → Comes d r g
done_at_other d this by h g done r row other thrown = rw (row ∙ other_thrown this by h done other) thrown

pub at_other : (d : Done) (this : Value) (by : ℕ) (h g : Objects) (answer : List ℕ → Result Value Fault) (r : Result Outcome Stop)
    → d ≡ text_method this by h answer → ((us : List ℕ) → this ≡ v.Text us → ⊥) → Comes (throws (codes "bad receiver") by h) r g → Comes d r g
at_other d this by h g answer r row other thrown = done_at_other d this by h g (λ us. told (answer us) h) r row other thrown
