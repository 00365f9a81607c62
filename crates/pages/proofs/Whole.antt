-- From the law of each turn to the law of a page.
use Rattle.std.proofs.Common.{ℕ, suc, List, [], ◌∷◌}
use Rattle.plans.specs.Plans.{over, run}
use Rattle.matching.specs.Sentences.{SimulatedTo}
use Rattle.pages.specs.Pages.{Turn, turns, turns_or_none, deed, page}
use Rattle.pages.specs.Pairs.{PageSides, TurnEnds, TurnsPair, TurnsOrNonePair, DeedPair, DeedsPair, done}
use Rattle.pages.proofs.Steady.{run_steady, turns_steady, deed_steady, page_steady, from_ended, turns_grow, page_grows}
use Rattle.pages.proofs.Chain.{over_simulated, chain_simulated}

module _ {D R T E X I S D' R' T' E' X' I' S' : Type 0} (P : PageSides D R T E X I S D' R' T' E' X' I' S') where
  -- both go on from here, with nothing more to do
  nothing_more : (i : ℕ) (r : R) (x : X) (z : S) (t : ℕ) (r' : R') (x' : X') (z' : S') (s : ℕ) → P.After i r x z t r' x' z' s → SimulatedTo P.sides (P.After i) t s (λ n. over r x z n) (λ m. over r' x' z' m)
  nothing_more i r x z t r' x' z' s a = over_simulated P.sides (P.After i) r x z t r' x' z' s a (P.after_affords i r x z t r' x' z' s a) (P.after_begins i r x z t r' x' z' s a)

  turns_simulated : (i : ℕ) (d : D) (d' : D') (us : List (Turn T E X I S)) (us' : List (Turn T' E' X' I' S')) (r : R) (x : X) (z : S) (t : ℕ) (r' : R') (x' : X') (z' : S') (s : ℕ) → TurnsPair P i d d' us us' r x z t r' x' z' s → SimulatedTo P.sides (P.After (suc i)) t s (λ n. turns P.left d us n r x z) (λ m. turns P.right d' us' m r' x' z')
  turns_simulated i d d' [] [] r x z t r' x' z' s a = nothing_more (suc i) r x z t r' x' z' s a
  turns_simulated i d d' (u ∷ us) (u' ∷ us') r x z t r' x' z' s a =
      chain_simulated P.sides (TurnEnds P i d d' (TurnsPair P i d d' us us') r r') (P.After (suc i))
      (λ e x1 z1 m. turns P.left d us m (P.left.result d e r) x1 (P.left.ended d e x1 z1)) (λ e x1 z1 m. turns P.right d' us' m (P.right.result d' e r') x1 (P.right.ended d' e x1 z1))
      (λ e x1 z1. turns_steady P.left d us (P.left.result d e r) x1 (P.left.ended d e x1 z1)) (λ e x1 z1 m. from_ended P.left P.sides.Longer P.grows d e x1 z1 _ (turns_grow P.left P.sides.Longer P.grows d us m (P.left.result d e r) x1 (P.left.ended d e x1 z1)))
      (λ e x1 z1 t1 e' x1' z1' s1 next. turns_simulated i d d' us us' (P.left.result d e r) x1 (P.left.ended d e x1 z1) t1 (P.right.result d' e' r') x1' (P.right.ended d' e' x1' z1') s1 next)
      t s (λ n. run P.left.language n (u x z) z) (run_steady P.left.language (u x z) z) (λ m. run P.right.language m (u' x' z') z') a
  turns_simulated i d d' _ _ r x z t r' x' z' s a = absurd a

  begun_simulated : (i : ℕ) (d : D) (d' : D') (us : List (Turn T E X I S)) (us' : List (Turn T' E' X' I' S')) (r : R) (x : X) (z : S) (t : ℕ) (r' : R') (x' : X') (z' : S') (s : ℕ) → TurnsOrNonePair P i d d' us us' r x z t r' x' z' s → SimulatedTo P.sides (P.After (suc i)) t s (λ n. turns_or_none P.left d us n r x z) (λ m. turns_or_none P.right d' us' m r' x' z')
  begun_simulated i d d' [] [] r x z t r' x' z' s a = nothing_more (suc i) r x (P.left.none d x z) t r' x' (P.right.none d' x' z') s a
  begun_simulated i d d' (u ∷ us) (u' ∷ us') r x z t r' x' z' s a = turns_simulated i d d' (u ∷ us) (u' ∷ us') r x z t r' x' z' s a
  begun_simulated i d d' _ _ r x z t r' x' z' s a = absurd a

  pub deed_simulated : (i : ℕ) (d : D) (d' : D') → DeedPair P i d d' → (r : R) (x : X) (z : S) (t : ℕ) (r' : R') (x' : X') (z' : S') (s : ℕ) → P.After i r x z t r' x' z' s → SimulatedTo P.sides (P.After (suc i)) t s (λ n. deed P.left d n r x z) (λ m. deed P.right d' m r' x' z')
  deed_simulated i d d' pair r x z t r' x' z' s a =
      let b = P.left.begin d r x z in
      let b' = P.right.begin d' r' x' z' in
      begun_simulated i d d' b.turns b'.turns r b.store b.kept t r' b'.store b'.kept s (pair r x z t r' x' z' s a)

  -- two pages whose deeds go in pairs, from wherever both go on
  pub page_simulated : (i : ℕ) (ds : List D) (ds' : List D') → DeedsPair P i ds ds' → (r : R) (x : X) (z : S) (t : ℕ) (r' : R') (x' : X') (z' : S') (s : ℕ) → P.After i r x z t r' x' z' s → SimulatedTo P.sides (P.After (done i ds)) t s (λ n. page P.left ds n r x z) (λ m. page P.right ds' m r' x' z')
  page_simulated i [] [] pairs r x z t r' x' z' s a = nothing_more i r x z t r' x' z' s a
  page_simulated i (d ∷ ds) (d' ∷ ds') pairs r x z t r' x' z' s a =
      chain_simulated P.sides (P.After (suc i)) (P.After (done (suc i) ds))
      (λ r1 x1 z1 m. page P.left ds m r1 x1 z1) (λ r1 x1 z1 m. page P.right ds' m r1 x1 z1)
      (λ r1 x1 z1. page_steady P.left ds r1 x1 z1) (λ r1 x1 z1 m. page_grows P.left P.sides.Longer P.grows ds m r1 x1 z1)
      (λ r1 x1 z1 t1 r1' x1' z1' s1 next. page_simulated (suc i) ds ds' pairs.1 r1 x1 z1 t1 r1' x1' z1' s1 next)
      t s (λ n. deed P.left d n r x z) (deed_steady P.left d r x z) (λ m. deed P.right d' m r' x' z') (deed_simulated i d d' pairs.0 r x z t r' x' z' s a)
  page_simulated i _ _ pairs r x z t r' x' z' s a = absurd pairs
