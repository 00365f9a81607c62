-- What the deeds of one page keep, wherever their runs are cut.
use Rattle.std.specs.Prelude.{ℕ, List, [], ◌∷◌}
use Rattle.plans.specs.Plans.{Run, over, stopped, out, run}
use Rattle.pages.specs.Pages.{Turn, Evaluator}

-- one thing holds where a run has come to its end, another where a fault or the want of a step ended it
abbrev pub Wherever : {E X S : Type 0} → (E → X → S → Type 0) → (X → S → Type 0) → Run E X S → Type 0
Wherever Over Cut (over e x z n) = Over e x z
Wherever Over Cut (stopped f x z n) = Cut x z
Wherever Over Cut (out x z n) = Cut x z

-- an evaluator with what holds between deeds, and what of it holds in the midst of them
pub record Keeping (D R T E X I S : Type 0) : Type 1 where
  pub evaluator : Evaluator D R T E X I S
  pub Holds : R → X → S → Type 0
  pub Cut : X → S → Type 0
  pub holds_cut : (r : R) (x : X) (z : S) → Holds r x z → Cut x z

module _ {D R T E X I S : Type 0} (K : Keeping D R T E X I S) where
  module _ (d : D) where
    -- the first turn keeps it from here, wherever it is cut, and where it has ended, so do the others
    abbrev pub TurnsKeep : List (Turn T E X I S) → R → X → S → Type 0
    TurnsKeep [] r x z = K.Holds r x z
    TurnsKeep (u ∷ us) r x z =
        (n : ℕ) → Wherever (λ e x1 z1. TurnsKeep us (K.evaluator.result d e r) x1 (K.evaluator.ended d e x1 z1)) K.Cut (run K.evaluator.language n (u x z) z)

    abbrev pub TurnsOrNoneKeep : List (Turn T E X I S) → R → X → S → Type 0
    TurnsOrNoneKeep [] r x z = K.Holds r x (K.evaluator.none d x z)
    TurnsOrNoneKeep (u ∷ us) r x z = TurnsKeep (u ∷ us) r x z

    -- wherever it holds, the deed begins so that its turns keep it
    abbrev pub DeedKeeps : Type 0
    DeedKeeps = (r : R) (x : X) (z : S) → K.Holds r x z → let b = K.evaluator.begin d r x z in TurnsOrNoneKeep b.turns r b.store b.kept

  abbrev pub DeedsKeep : List D → Type 0
  DeedsKeep [] = Unit {0}
  DeedsKeep (d ∷ ds) = DeedKeeps d × DeedsKeep ds
