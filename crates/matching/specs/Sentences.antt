-- What two plans that match come to under limits of steps, begun at any counts of steps.
use Rattle.std.specs.Prelude.{◌≡◌, ℕ, ◌≤◌, ◌+◌}
use Rattle.plans.specs.Plans.{Run, over, stopped, out, count_of, kept_of}
use Rattle.matching.specs.Sides.{EndsOf, Sides}

-- a run that wasn't cut
abbrev pub IsFinished : {E X S : Type 0} → Run E X S → Type 0
IsFinished (over e x z n) = Unit {0}
IsFinished (stopped f x z n) = Unit {0}
IsFinished (out x z n) = ⊥

-- two ends that are alike at the counts of steps that both took: of `all` steps the left side has n left, of `all'` steps the right side n'
pub record EndTogether {R X S R' X' S' : Type 0} (Ends : EndsOf R X S R' X' S') (all all' : ℕ) (e : R) (x : X) (z : S) (n : ℕ) (e' : R') (x' : X') (z' : S') (n' : ℕ) : Type 0 where
  pub taken : ℕ
  pub taken' : ℕ
  pub is_all : taken + n ≡ all
  pub is_all' : taken' + n' ≡ all'
  pub ends : Ends e x z taken e' x' z' taken'

module _ {T E X I S T' E' X' I' S' : Type 0} where
  -- no more than b steps of the right side are afforded by c of the left one
  abbrev pub Bounds : Sides T E X I S T' E' X' I' S' → ℕ → ℕ → Type 0
  Bounds A c b = (k : ℕ) → A.Affords c k → k ≤ b

  module _ {R R' : Type 0} where
    -- both came to an end, and alike ones; the runs count the steps that are left of `all` and of `all'`
    abbrev pub Together : Sides T E X I S T' E' X' I' S' → EndsOf R X S R' X' S' → ℕ → ℕ → Run R X S → Run R' X' S' → Type 0
    Together A Ends all all' (over e x z n) (over e' x' z' n') = EndTogether Ends all all' e x z n e' x' z' n'
    Together A Ends all all' (stopped f x z n) (stopped f' x' z' n') = A.Stops f x z f' x' z'
    Together A Ends all all' r q = ⊥

    -- three sentences on two sides, each a run for every number of steps. The left one has taken t steps before, the right one s: these count too. What ends alike is
    -- a parameter, since a page of many turns gives something else than a turn
    pub record SimulatedTo (A : Sides T E X I S T' E' X' I' S') (Ends : EndsOf R X S R' X' S') (t s : ℕ) (p : ℕ → Run R X S) (q : ℕ → Run R' X' S') : Type 0 where
      -- a left run that comes to an end after c steps: the right one comes to a like end after no more than b in all, where t + c steps afford no more than b
      pub forward : (n c b m : ℕ) → Bounds A (t + c) b → IsFinished (p n) → count_of (p n) + c ≡ n → b ≤ s + m → b ≤ A.most → Together A Ends (t + n) (s + m) (p n) (q m) × (s + m ≤ count_of (q m) + b)
      -- where the right one comes to an end, the left one comes to a like end with every number of steps that is large enough
      pub backward : (m : ℕ) → s + m ≤ A.most → IsFinished (q m) → (k : ℕ) × ((n : ℕ) → k ≤ n → Together A Ends (t + n) (s + m) (p n) (q m))
      -- what the right one keeps, however it was cut, is the beginning of what the left one keeps with every number of steps that is large enough
      pub cut : (m : ℕ) → s + m ≤ A.most → (k : ℕ) × ((n : ℕ) → k ≤ n → A.Begins (kept_of (q m)) (kept_of (p n)))

  -- the same of one turn, whose ends are those of the two plans
  abbrev pub Simulated : Sides T E X I S T' E' X' I' S' → ℕ → ℕ → (ℕ → Run E X S) → (ℕ → Run E' X' S') → Type 0
  Simulated A t s p q = SimulatedTo A A.Ends t s p q
