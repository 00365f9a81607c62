-- Two languages side by side: when a run of the right one is alike to a run of the left one.
use Rattle.std.specs.Prelude.{ℕ, ◌≤◌, ◌<◌}
use Rattle.plans.specs.Plans.{Fault, Plan, Language, Run, over, stopped, out, count_of, kept_of}
use Rattle.matching.specs.Unlimited.{ran, Grows}

-- what is said of two ends, each with the count of the steps that were taken
abbrev pub EndsOf : (E X S E' X' S' : Type 0) → Type 1
EndsOf E X S E' X' S' = E → X → S → ℕ → E' → X' → S' → ℕ → Type 0

-- what is alike at the ends of two runs, where one has faulted, and where both are cut; what the right one keeps is the beginning of what the left one keeps.
-- `Affords n m`: n steps of the left one afford m steps of the right one. `most` steps of the right one are looked at
pub record Sides (T E X I S T' E' X' I' S' : Type 0) : Type 1 where
  pub left : Language T E X I S
  pub right : Language T' E' X' I' S'
  pub Longer : S → S → Type 0
  pub grows : Grows left Longer
  pub Longer' : S' → S' → Type 0
  pub grows' : Grows right Longer'
  pub Affords : ℕ → ℕ → Type 0
  pub affords_more : (n k m : ℕ) → n ≤ k → Affords n m → Affords k m
  pub most : ℕ
  pub Ends : EndsOf E X S E' X' S'
  pub Stops : Fault → X → S → Fault → X' → S' → Type 0
  pub Outs : S → S' → Type 0
  pub Begins : S' → S → Type 0
  pub ends_begin : (e : E) (x : X) (z : S) (n : ℕ) (e' : E') (x' : X') (z' : S') (n' : ℕ) → Ends e x z n e' x' z' n' → Begins z' z
  pub stops_begin : (f : Fault) (x : X) (z : S) (f' : Fault) (x' : X') (z' : S') → Stops f x z f' x' z' → Begins z' z
  pub outs_begin : (z : S) (z' : S') → Outs z z' → Begins z' z
  pub begins_more : (a' b' : S') (a b : S) → Longer' a' b' → Begins b' a → Longer a b → Begins a' b

module _ {T E X I S T' E' X' I' S' : Type 0} where
  -- both came to alike ends, or both were cut; the runs count the steps that they took
  abbrev pub Alike : Sides T E X I S T' E' X' I' S' → Run E X S → Run E' X' S' → Type 0
  Alike A (over e x z n) (over e' x' z' n') = A.Ends e x z n e' x' z' n'
  Alike A (stopped f x z n) (stopped f' x' z' n') = A.Stops f x z f' x' z'
  Alike A (out x z n) (out x' z' n') = A.Outs z z'
  Alike A r t = ⊥

  -- the right run is as long and alike, or it was left where it had taken more steps than are looked at
  pub data Meets (A : Sides T E X I S T' E' X' I' S') (d many : ℕ) (u : Run E X S) (q : Run E' X' S') : Type 0 where
    alike : d ≤ many → A.Affords (count_of u) (count_of q) → Alike A u q → Meets A d many u q
    past : A.most < count_of q → A.Affords (count_of u) (count_of q) → A.Begins (kept_of q) (kept_of u) → Meets A d many u q

  -- the right plan has a run that meets the left plan's run of d tasks
  pub record Match (A : Sides T E X I S T' E' X' I' S') (d : ℕ) (p : Plan T E X I) (z : S) (n : ℕ) (q : Plan T' E' X' I') (z' : S') (n' : ℕ) : Type 0 where
    pub many : ℕ
    pub meets : Meets A d many (ran A.left d p z n) (ran A.right many q z' n')
