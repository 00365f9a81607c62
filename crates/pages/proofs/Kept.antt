-- What each deed keeps, a page keeps, wherever it is cut.
use Rattle.std.proofs.Common.{ℕ, List, [], ◌∷◌}
use Rattle.plans.specs.Plans.{Run, over, stopped, out, run, kept_of}
use Rattle.pages.specs.Pages.{Turn, chain, turns, turns_or_none, deed, page, store_of}
use Rattle.pages.specs.Keeping.{Wherever, Keeping, TurnsKeep, TurnsOrNoneKeep, DeedKeeps, DeedsKeep}

-- a run, and then what follows
pub chain_keeps : {E R X S : Type 0} (Over : E → X → S → Type 0) (Next : R → X → S → Type 0) (Cut : X → S → Type 0) (q : Run E X S) (go : E → X → S → ℕ → Run R X S) → Wherever Over Cut q → ((e : E) (x : X) (z : S) (n : ℕ) → Over e x z → Wherever Next Cut (go e x z n)) → Wherever Next Cut (chain q go)
chain_keeps Over Next Cut (over e x z n) go h next = next e x z n h
chain_keeps Over Next Cut (stopped f x z n) go h next = h
chain_keeps Over Next Cut (out x z n) go h next = h

module _ {D R T E X I S : Type 0} (K : Keeping D R T E X I S) where
  pub turns_keep : (d : D) (us : List (Turn T E X I S)) (n : ℕ) (r : R) (x : X) (z : S) → TurnsKeep K d us r x z → Wherever K.Holds K.Cut (turns K.evaluator d us n r x z)
  turns_keep d [] n r x z h = h
  turns_keep d (u ∷ us) n r x z h =
      chain_keeps (λ e x1 z1. TurnsKeep K d us (K.evaluator.result d e r) x1 (K.evaluator.ended d e x1 z1)) K.Holds K.Cut (run K.evaluator.language n (u x z) z) (λ e x1 z1 m. turns K.evaluator d us m (K.evaluator.result d e r) x1 (K.evaluator.ended d e x1 z1)) (h n)
      (λ e x1 z1 m next. turns_keep d us m (K.evaluator.result d e r) x1 (K.evaluator.ended d e x1 z1) next)

  begun_keeps : (d : D) (us : List (Turn T E X I S)) (n : ℕ) (r : R) (x : X) (z : S) → TurnsOrNoneKeep K d us r x z → Wherever K.Holds K.Cut (turns_or_none K.evaluator d us n r x z)
  begun_keeps d [] n r x z h = h
  begun_keeps d (u ∷ us) n r x z h = turns_keep d (u ∷ us) n r x z h

  pub deed_keeps : (d : D) → DeedKeeps K d → (n : ℕ) (r : R) (x : X) (z : S) → K.Holds r x z → Wherever K.Holds K.Cut (deed K.evaluator d n r x z)
  deed_keeps d law n r x z h = let b = K.evaluator.begin d r x z in begun_keeps d b.turns n r b.store b.kept (law r x z h)

  pub page_keeps : (ds : List D) → DeedsKeep K ds → (n : ℕ) (r : R) (x : X) (z : S) → K.Holds r x z → Wherever K.Holds K.Cut (page K.evaluator ds n r x z)
  page_keeps [] laws n r x z h = h
  page_keeps (d ∷ ds) laws n r x z h =
      chain_keeps K.Holds K.Holds K.Cut (deed K.evaluator d n r x z) (λ r1 x1 z1 m. page K.evaluator ds m r1 x1 z1) (deed_keeps d laws.0 n r x z h) (λ r1 x1 z1 m next. page_keeps ds laws.1 m r1 x1 z1 next)

  always_cut : (q : Run R X S) → Wherever K.Holds K.Cut q → K.Cut (store_of q) (kept_of q)
  always_cut (over r x z n) h = K.holds_cut r x z h
  always_cut (stopped f x z n) h = h
  always_cut (out x z n) h = h

  -- what of it holds in the midst of deeds, holds however the page is left
  pub page_keeps_cut : (ds : List D) → DeedsKeep K ds → (n : ℕ) (r : R) (x : X) (z : S) → K.Holds r x z → K.Cut (store_of (page K.evaluator ds n r x z)) (kept_of (page K.evaluator ds n r x z))
  page_keeps_cut ds laws n r x z h = always_cut (page K.evaluator ds n r x z) (page_keeps ds laws n r x z h)
