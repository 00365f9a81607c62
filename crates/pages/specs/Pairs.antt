-- Two pages side by side, whose deeds go in pairs: what each pair owes.
use Rattle.std.specs.Prelude.{ℕ, suc, List, [], ◌∷◌}
use Rattle.plans.specs.Plans.{run}
use Rattle.matching.specs.Sides.{EndsOf, Sides}
use Rattle.matching.specs.Sentences.{SimulatedTo}
use Rattle.pages.specs.Pages.{Turn, Evaluator, GrowsOn}

-- two evaluators side by side, and when both go on: after so many deeds `After` speaks of the results, the stores and what is kept, each side's with the count of the steps that it
-- took. Of `sides` it matters what they afford, how they stop, what begins and what is longer, and how many steps are looked at; their `Ends` are a turn's alone
pub record PageSides (D R T E X I S D' R' T' E' X' I' S' : Type 0) : Type 1 where
  pub sides : Sides T E X I S T' E' X' I' S'
  pub left : Evaluator D R T E X I S
  pub right : Evaluator D' R' T' E' X' I' S'
  pub grows : GrowsOn left sides.Longer
  pub After : ℕ → EndsOf R X S R' X' S'
  pub after_affords : (i : ℕ) (r : R) (x : X) (z : S) (t : ℕ) (r' : R') (x' : X') (z' : S') (s : ℕ) → After i r x z t r' x' z' s → sides.Affords t s
  pub after_begins : (i : ℕ) (r : R) (x : X) (z : S) (t : ℕ) (r' : R') (x' : X') (z' : S') (s : ℕ) → After i r x z t r' x' z' s → sides.Begins z' z

module _ {D R T E X I S D' R' T' E' X' I' S' : Type 0} (P : PageSides D R T E X I S D' R' T' E' X' I' S') where
  module _ (i : ℕ) (d : D) (d' : D') where
    -- both sides have ended a turn, and then `Next` holds
    abbrev pub TurnEnds : EndsOf R X S R' X' S' → R → R' → EndsOf E X S E' X' S'
    TurnEnds Next r r' e x z t e' x' z' s = Next (P.left.result d e r) x (P.left.ended d e x z) t (P.right.result d' e' r') x' (P.right.ended d' e' x' z') s

    -- as many turns on both sides: the first two are simulated from here, and where they have ended, the others are in pairs
    abbrev pub TurnsPair : List (Turn T E X I S) → List (Turn T' E' X' I' S') → EndsOf R X S R' X' S'
    TurnsPair [] [] r x z t r' x' z' s = P.After (suc i) r x z t r' x' z' s
    TurnsPair (u ∷ us) (u' ∷ us') r x z t r' x' z' s =
        SimulatedTo P.sides (TurnEnds (TurnsPair us us') r r') t s (λ n. run P.left.language n (u x z) z) (λ m. run P.right.language m (u' x' z') z')
    TurnsPair _ _ r x z t r' x' z' s = ⊥

    abbrev pub TurnsOrNonePair : List (Turn T E X I S) → List (Turn T' E' X' I' S') → EndsOf R X S R' X' S'
    TurnsOrNonePair [] [] r x z t r' x' z' s = P.After (suc i) r x (P.left.none d x z) t r' x' (P.right.none d' x' z') s
    TurnsOrNonePair us us' r x z t r' x' z' s = TurnsPair us us' r x z t r' x' z' s

    -- wherever both go on after i deeds, the two deeds begin so that their turns are in pairs, and then both go on again
    abbrev pub DeedPair : Type 0
    DeedPair = (r : R) (x : X) (z : S) (t : ℕ) (r' : R') (x' : X') (z' : S') (s : ℕ) → P.After i r x z t r' x' z' s →
        let b = P.left.begin d r x z in let b' = P.right.begin d' r' x' z' in TurnsOrNonePair b.turns b'.turns r b.store b.kept t r' b'.store b'.kept s

  -- as many deeds on both sides, in pairs, after i others
  abbrev pub DeedsPair : ℕ → List D → List D' → Type 0
  DeedsPair i [] [] = Unit {0}
  DeedsPair i (d ∷ ds) (d' ∷ ds') = DeedPair i d d' × DeedsPair (suc i) ds ds'
  DeedsPair i _ _ = ⊥

-- how many deeds were done, with these behind i others
abbrev pub done : {D : Type 0} → ℕ → List D → ℕ
done i [] = i
done i (d ∷ ds) = done (suc i) ds
