-- What a page comes to, whatever is done in it: deeds in order, the turns of each in order, each with the steps that are left.
use Rattle.std.specs.Prelude.{ℕ, ◌+◌, List, [], ◌∷◌}
use Rattle.plans.specs.Plans.{Plan, Language, Run, over, stopped, out, run}
use Rattle.matching.specs.Unlimited.{Grows}

-- a turn: its plan, by the store and by what is kept beside it when the turn begins
abbrev pub Turn : (T E X I S : Type 0) → Type 0
Turn T E X I S = X → S → Plan T E X I

-- how a deed begins: with this store, with this kept beside it, and with these turns
pub record Begun (T E X I S : Type 0) : Type 0 where
  pub store : X
  pub kept : S
  pub turns : List (Turn T E X I S)

-- how the deeds D of a page are done in a language. R is what a page has of the ends of turns, as the results of loads
pub record Evaluator (D R T E X I S : Type 0) : Type 0 where
  pub language : Language T E X I S
  -- a deed has all its turns when it begins
  pub begin : D → R → X → S → Begun T E X I S
  -- what is kept of a deed that has no turn
  pub none : D → X → S → S
  -- what is kept of how a turn ended, and the page's results then
  pub ended : D → E → X → S → S
  pub result : D → E → R → R

-- a run, and then what follows with the steps that are left; a fault, and the want of a step, end a page
abbrev pub chain : {E R X S : Type 0} → Run E X S → (E → X → S → ℕ → Run R X S) → Run R X S
chain (over e x z n) go = go e x z n
chain (stopped f x z n) go = stopped f x z n
chain (out x z n) go = out x z n

module _ {D R T E X I S : Type 0} (L : Evaluator D R T E X I S) where
  -- the turns of a deed, one after another
  abbrev pub turns : D → List (Turn T E X I S) → ℕ → R → X → S → Run R X S
  turns d [] n r x z = over r x z n
  turns d (u ∷ us) n r x z = chain (run L.language n (u x z) z) (λ e x1 z1 m. turns d us m (L.result d e r) x1 (L.ended d e x1 z1))

  abbrev pub turns_or_none : D → List (Turn T E X I S) → ℕ → R → X → S → Run R X S
  turns_or_none d [] n r x z = over r x (L.none d x z) n
  turns_or_none d (u ∷ us) n r x z = turns d (u ∷ us) n r x z

  abbrev pub deed : D → ℕ → R → X → S → Run R X S
  deed d n r x z = let b = L.begin d r x z in turns_or_none d b.turns n r b.store b.kept

  -- a page with n steps, from these results, this store and this kept: its deeds, one after another
  abbrev pub page : List D → ℕ → R → X → S → Run R X S
  page [] n r x z = over r x z n
  page (d ∷ ds) n r x z = chain (deed d n r x z) (λ r1 x1 z1 m. page ds m r1 x1 z1)

  -- nothing that is kept is lost, by runs or between them
  pub record GrowsOn (Longer : S → S → Type 0) : Type 0 where
    pub runs : Grows L.language Longer
    pub begun : (d : D) (r : R) (x : X) (z : S) → Longer z (L.begin d r x z).kept
    pub none : (d : D) (x : X) (z : S) → Longer z (L.none d x z)
    pub ended : (d : D) (e : E) (x : X) (z : S) → Longer z (L.ended d e x z)

abbrev pub store_of : {E X S : Type 0} → Run E X S → X
store_of (over e x z n) = x
store_of (stopped f x z n) = x
store_of (out x z n) = x

-- the same run with j more steps left
abbrev pub with_more : {E X S : Type 0} → ℕ → Run E X S → Run E X S
with_more j (over e x z n) = over e x z (n + j)
with_more j (stopped f x z n) = stopped f x z (n + j)
with_more j (out x z n) = out x z (n + j)
