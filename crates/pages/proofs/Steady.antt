-- More steps change nothing where a page has ended, no steps are won, and nothing that is kept is lost.
use Rattle.std.proofs.Common.{◌≡◌, ℕ, zero, suc, ◌+◌, ◌≤◌, List, [], ◌∷◌, ◌++◌, refl, sym, ap, ◌∙◌, arith}
use Rattle.std.proofs.Math.Path.{fun_ext}
use Rattle.plans.specs.Plans.{Plan, ends, stops, enter, tick, told, Language, bind, Run, over, stopped, out, run, count_of, kept_of}
use Rattle.plans.proofs.Laws.{run_count}
use Rattle.matching.specs.Sentences.{IsFinished}
use Rattle.matching.proofs.Limits.{run_grows}
use Rattle.pages.specs.Pages.{Turn, Evaluator, chain, turns, turns_or_none, deed, page, GrowsOn, with_more}

-- what a run is, as a function of its steps
pub record Steady {E X S : Type 0} (p : ℕ → Run E X S) : Type 0 where
  pub more : (n j : ℕ) → IsFinished (p n) → p (n + j) ≡ with_more j (p n)
  pub spent : (n : ℕ) → count_of (p n) ≤ n

-- of a turn

one_less : (n j : ℕ) → suc n + j ≡ suc (n + j)
one_less n j = omega arith

run_more : {T E X I S : Type 0} (L : Language T E X I S) (n j : ℕ) (p : Plan T E X I) (z : S) → IsFinished (run L n p z) → run L (n + j) p z ≡ with_more j (run L n p z)
run_more L n j (ends e x) z f = refl
run_more L n j (stops g x) z f = refl
run_more L n j (told i p) z f = run_more L n j p (L.note i z) f
run_more L zero j (enter t x k) z f = absurd f
run_more L (suc n) j (enter t x k) z f = ap (λ a. run L a (enter t x k) z) (one_less n j) ∙ run_more L n j (bind (L.plan t x z) k) (L.kept t x z) f
run_more L zero j (tick x p) z f = absurd f
run_more L (suc n) j (tick x p) z f = ap (λ a. run L a (tick x p) z) (one_less n j) ∙ run_more L n j p z f

pub run_steady : {T E X I S : Type 0} (L : Language T E X I S) (p : Plan T E X I) (z : S) → Steady (λ n. run L n p z)
run_steady L p z = record { more = λ n j f. run_more L n j p z f; spent = λ n. run_count L n p z }

pub over_steady : {R X S : Type 0} (r : R) (x : X) (z : S) → Steady (λ n. over r x z n)
over_steady r x z = record { more = λ n j f. refl; spent = λ n. omega arith }

-- of what is done one after another

module _ {E R X S : Type 0} where
  pub chain_finished : (r : Run E X S) (go : E → X → S → ℕ → Run R X S) → IsFinished (chain r go) → IsFinished r
  chain_finished (over e x z n) go f = tt
  chain_finished (stopped g x z n) go f = tt
  chain_finished (out x z n) go f = f

  chain_more : (j : ℕ) (r : Run E X S) (go : E → X → S → ℕ → Run R X S) → ((e : E) (x : X) (z : S) → Steady (go e x z)) → IsFinished (chain r go) → chain (with_more j r) go ≡ with_more j (chain r go)
  chain_more j (over e x z n) go h f = (h e x z).more n j f
  chain_more j (stopped g x z n) go h f = refl
  chain_more j (out x z n) go h f = absurd f

  chain_spent : (n : ℕ) (r : Run E X S) (go : E → X → S → ℕ → Run R X S) → count_of r ≤ n → ((e : E) (x : X) (z : S) → Steady (go e x z)) → count_of (chain r go) ≤ n
  chain_spent n (over e x z m) go le h = let a = (h e x z).spent m in omega arith
  chain_spent n (stopped g x z m) go le h = le
  chain_spent n (out x z m) go le h = le

  pub chain_steady : (p : ℕ → Run E X S) (go : E → X → S → ℕ → Run R X S) → Steady p → ((e : E) (x : X) (z : S) → Steady (go e x z)) → Steady (λ n. chain (p n) go)
  chain_steady p go s h = record {
    more = λ n j f. ap (λ r. chain r go) (s.more n j (chain_finished (p n) go f)) ∙ chain_more j (p n) go h f;
    spent = λ n. chain_spent n (p n) go (s.spent n) h;
  }

  -- what is kept of the first run lies in what is kept in the end
  pub chain_longer : (Longer : S → S → Type 0) → ((a : S) → Longer a a) → (r : Run E X S) (go : E → X → S → ℕ → Run R X S) → ((e : E) (x : X) (z : S) (n : ℕ) → Longer z (kept_of (go e x z n))) → Longer (kept_of r) (kept_of (chain r go))
  chain_longer Longer same (over e x z n) go h = h e x z n
  chain_longer Longer same (stopped g x z n) go h = same z
  chain_longer Longer same (out x z n) go h = same z

-- of pages

module _ {D R T E X I S : Type 0} (L : Evaluator D R T E X I S) where
  pub turns_steady : (d : D) (us : List (Turn T E X I S)) (r : R) (x : X) (z : S) → Steady (λ n. turns L d us n r x z)
  turns_steady d [] r x z = over_steady r x z
  turns_steady d (u ∷ us) r x z =
      chain_steady (λ n. run L.language n (u x z) z) (λ e x1 z1 m. turns L d us m (L.result d e r) x1 (L.ended d e x1 z1)) (run_steady L.language (u x z) z) (λ e x1 z1. turns_steady d us (L.result d e r) x1 (L.ended d e x1 z1))

  begun_steady : (d : D) (us : List (Turn T E X I S)) (r : R) (x : X) (z : S) → Steady (λ n. turns_or_none L d us n r x z)
  begun_steady d [] r x z = over_steady r x (L.none d x z)
  begun_steady d (u ∷ us) r x z = turns_steady d (u ∷ us) r x z

  pub deed_steady : (d : D) (r : R) (x : X) (z : S) → Steady (λ n. deed L d n r x z)
  deed_steady d r x z = let b = L.begin d r x z in begun_steady d b.turns r b.store b.kept

  pub page_steady : (ds : List D) (r : R) (x : X) (z : S) → Steady (λ n. page L ds n r x z)
  page_steady [] r x z = over_steady r x z
  page_steady (d ∷ ds) r x z = chain_steady (λ n. deed L d n r x z) (λ r1 x1 z1 m. page L ds m r1 x1 z1) (deed_steady d r x z) (λ r1 x1 z1. page_steady ds r1 x1 z1)

  pub page_more : (ds : List D) (n j : ℕ) (r : R) (x : X) (z : S) → IsFinished (page L ds n r x z) → page L ds (n + j) r x z ≡ with_more j (page L ds n r x z)
  page_more ds n j r x z f = (page_steady ds r x z).more n j f

  pub page_spent : (ds : List D) (n : ℕ) (r : R) (x : X) (z : S) → count_of (page L ds n r x z) ≤ n
  page_spent ds n r x z = (page_steady ds r x z).spent n

  chain_over : (q : Run R X S) → chain q over ≡ q
  chain_over (over r x z n) = refl
  chain_over (stopped f x z n) = refl
  chain_over (out x z n) = refl

  -- a page of one deed is that deed
  pub page_one : (d : D) (n : ℕ) (r : R) (x : X) (z : S) → page L (d ∷ []) n r x z ≡ deed L d n r x z
  page_one d n r x z = chain_over (deed L d n r x z)

  chain_chain : {E F : Type 0} (q : Run E X S) (go : E → X → S → ℕ → Run F X S) (on : F → X → S → ℕ → Run R X S) → chain (chain q go) on ≡ chain q (λ e x z n. chain (go e x z n) on)
  chain_chain (over e x z n) go on = refl
  chain_chain (stopped f x z n) go on = refl
  chain_chain (out x z n) go on = refl

  -- a page of some deeds and then of others is the one, and then the other with the steps that are left
  pub page_append : (ds es : List D) (n : ℕ) (r : R) (x : X) (z : S) → page L (ds ++ es) n r x z ≡ chain (page L ds n r x z) (λ r1 x1 z1 m. page L es m r1 x1 z1)
  page_append [] es n r x z = refl
  page_append (d ∷ ds) es n r x z =
      ap (chain (deed L d n r x z)) (fun_ext (λ r1. fun_ext (λ x1. fun_ext (λ z1. fun_ext (λ m. page_append ds es m r1 x1 z1)))))
      ∙ sym (chain_chain (deed L d n r x z) (λ r1 x1 z1 m. page L ds m r1 x1 z1) (λ r1 x1 z1 m. page L es m r1 x1 z1))

  module _ (Longer : S → S → Type 0) (G : GrowsOn L Longer) where
    after : {V : Type 0} (z : S) (q : Run V X S) (go : V → X → S → ℕ → Run R X S) → Longer z (kept_of q) → ((e : V) (x : X) (z : S) (n : ℕ) → Longer z (kept_of (go e x z n))) → Longer z (kept_of (chain q go))
    after z q go l h = G.runs.more z (kept_of q) (kept_of (chain q go)) l (chain_longer Longer G.runs.same q go h)

    -- from what a turn had kept when it ended
    pub from_ended : (d : D) (e : E) (x : X) (z : S) (y : S) → Longer (L.ended d e x z) y → Longer z y
    from_ended d e x z y l = G.runs.more z (L.ended d e x z) y (G.ended d e x z) l

    pub turns_grow : (d : D) (us : List (Turn T E X I S)) (n : ℕ) (r : R) (x : X) (z : S) → Longer z (kept_of (turns L d us n r x z))
    turns_grow d [] n r x z = G.runs.same z
    turns_grow d (u ∷ us) n r x z =
        after z (run L.language n (u x z) z) (λ e x1 z1 m. turns L d us m (L.result d e r) x1 (L.ended d e x1 z1)) (run_grows L.language Longer G.runs n (u x z) z)
        (λ e x1 z1 m. from_ended d e x1 z1 _ (turns_grow d us m (L.result d e r) x1 (L.ended d e x1 z1)))

    begun_grow : (d : D) (us : List (Turn T E X I S)) (n : ℕ) (r : R) (x : X) (z : S) → Longer z (kept_of (turns_or_none L d us n r x z))
    begun_grow d [] n r x z = G.none d x z
    begun_grow d (u ∷ us) n r x z = turns_grow d (u ∷ us) n r x z

    pub deed_grows : (d : D) (n : ℕ) (r : R) (x : X) (z : S) → Longer z (kept_of (deed L d n r x z))
    deed_grows d n r x z = let b = L.begin d r x z in G.runs.more z b.kept _ (G.begun d r x z) (begun_grow d b.turns n r b.store b.kept)

    pub page_grows : (ds : List D) (n : ℕ) (r : R) (x : X) (z : S) → Longer z (kept_of (page L ds n r x z))
    page_grows [] n r x z = G.runs.same z
    page_grows (d ∷ ds) n r x z = after z (deed L d n r x z) (λ r1 x1 z1 m. page L ds m r1 x1 z1) (deed_grows d n r x z) (λ r1 x1 z1 m. page_grows ds m r1 x1 z1)
