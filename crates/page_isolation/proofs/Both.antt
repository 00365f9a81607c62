-- Two runs, of which something is said where both came to their end.
use Rattle.std.proofs.Common.{ℕ, List, [], ◌∷◌}
use Rattle.plans.specs.Plans.{Fault, Run, over, stopped, out}
use Rattle.pages.specs.Pages.{Evaluator, chain, deed, page}

-- what is said of two ends
abbrev pub Ends : (E X S : Type 0) → Type 1
Ends E X S = E → X → S → E → X → S → Type 0

abbrev pub BothOver : {E X S : Type 0} → Ends E X S → Run E X S → Run E X S → Type 0
BothOver P (over e x z n) (over f v y m) = P e x z f v y
BothOver P (over e x z n) (stopped f v y m) = Unit {0}
BothOver P (over e x z n) (out v y m) = Unit {0}
BothOver P (stopped f x z n) q = Unit {0}
BothOver P (out x z n) q = Unit {0}

module _ {E X S : Type 0} (P : Ends E X S) where
  -- nothing is said where the second one was stopped, or cut
  before_stopped : (p : Run E X S) (f : Fault) (x : X) (z : S) (n : ℕ) → BothOver P p (stopped f x z n)
  before_stopped (over e x' z' m) f x z n = tt
  before_stopped (stopped g x' z' m) f x z n = tt
  before_stopped (out x' z' m) f x z n = tt

  before_out : (p : Run E X S) (x : X) (z : S) (n : ℕ) → BothOver P p (out x z n)
  before_out (over e x' z' m) x z n = tt
  before_out (stopped g x' z' m) x z n = tt
  before_out (out x' z' m) x z n = tt

-- and then of what follows
pub both_chain : {E R X S : Type 0} (P : Ends E X S) (Q : Ends R X S) (p q : Run E X S) (go on : E → X → S → ℕ → Run R X S) → BothOver P p q → ((e : E) (x : X) (z : S) (n : ℕ) (f : E) (v : X) (y : S) (m : ℕ) → P e x z f v y → BothOver Q (go e x z n) (on f v y m)) → BothOver Q (chain p go) (chain q on)
both_chain P Q (over e x z n) (over f v y m) go on h follows = follows e x z n f v y m h
both_chain P Q (over e x z n) (stopped f v y m) go on h follows = before_stopped Q (go e x z n) f v y m
both_chain P Q (over e x z n) (out v y m) go on h follows = before_out Q (go e x z n) v y m
both_chain P Q (stopped f x z n) q go on h follows = tt
both_chain P Q (out x z n) q go on h follows = tt

module _ {D R T E X I S : Type 0} (L : Evaluator D R T E X I S) (Holds : Ends R X S) where
  -- of two deeds that are done wherever it holds, it holds where both came to their end
  abbrev pub DeedsHold : D → D → Type 0
  DeedsHold d d' = (n m : ℕ) (r : R) (x : X) (z : S) (r' : R) (v : X) (y : S) → Holds r x z r' v y → BothOver Holds (deed L d n r x z) (deed L d' m r' v y)

  abbrev pub PairsHold : List D → List D → Type 0
  PairsHold [] [] = Unit {0}
  PairsHold (d ∷ ds) (d' ∷ ds') = DeedsHold d d' × PairsHold ds ds'
  PairsHold ds ds' = ⊥

  -- so it holds of two pages whose deeds go in such pairs
  pub pages_hold : (ds ds' : List D) → PairsHold ds ds' → (n m : ℕ) (r : R) (x : X) (z : S) (r' : R) (v : X) (y : S) → Holds r x z r' v y → BothOver Holds (page L ds n r x z) (page L ds' m r' v y)
  pages_hold [] [] pairs n m r x z r' v y h = h
  pages_hold (d ∷ ds) (d' ∷ ds') pairs n m r x z r' v y h =
      both_chain Holds Holds (deed L d n r x z) (deed L d' m r' v y) (λ r1 x1 z1 k. page L ds k r1 x1 z1) (λ r1 x1 z1 k. page L ds' k r1 x1 z1) (pairs.0 n m r x z r' v y h)
      (λ r1 x1 z1 i r2 v1 y1 j k. pages_hold ds ds' pairs.1 i j r1 x1 z1 r2 v1 y1 k)
  pages_hold ds ds' pairs n m r x z r' v y h = absurd pairs
