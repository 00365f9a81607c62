-- The law of a turn: two plans that match, begun at any counts of steps, are simulated.
use Rattle.std.proofs.Common.{◌≡◌, ℕ, ◌+◌, ◌≤◌, sym, subst, arith}
use Rattle.plans.specs.Plans.{Fault, Plan, Run, over, stopped, out, run, count_of, kept_of}
use Rattle.matching.specs.Unlimited.{ran}
use Rattle.matching.specs.Sides.{Sides, Alike, Meets, alike, past, Match}
use Rattle.matching.specs.Sentences.{IsFinished, Bounds, Together, Simulated}
use Rattle.matching.proofs.Limits.{Below, Within, IsCut, run_below, ran_within, ran_past, below_kept, within_kept}

module _ {T E X I S T' E' X' I' S' : Type 0} (A : Sides T E X I S T' E' X' I' S') where
  abbrev Left : Type 0
  Left = Run E X S

  abbrev Right : Type 0
  Right = Run E' X' S'

  abbrev LeftBelow : ℕ → Left → Left → Type 0
  LeftBelow n r u = Below A.left A.Longer A.grows n r u

  abbrev LeftWithin : ℕ → Left → Left → Type 0
  LeftWithin n u r = Within A.left A.Longer A.grows n u r

  abbrev RightBelow : ℕ → Right → Right → Type 0
  RightBelow m v q = Below A.right A.Longer' A.grows' m v q

  abbrev RightWithin : ℕ → Right → Right → Type 0
  RightWithin m q v = Within A.right A.Longer' A.grows' m q v

  abbrev RightCut : Right → Right → Type 0
  RightCut v q = IsCut A.right A.Longer' A.grows' v q

  abbrev BothEnd : ℕ → ℕ → Left → Right → Type 0
  BothEnd all all' r v = Together A A.Ends all all' r v

  -- forward: r and v have all steps, u and q are the runs that meet

  forward_over : (all all' b k l : ℕ) (e : E) (x : X) (z : S) (q v : Right) → k + l ≡ all → b ≤ all' → count_of q ≤ b → Alike A (over e x z k) q → RightWithin all' q v → BothEnd all all' (over e x z l) v × (all' ≤ count_of v + b)
  forward_over all all' b k l e x z (over e' x' z' c') v is le few same w =
      let h = w (omega (arith, le, few)) in
      subst (λ v. BothEnd all all' (over e x z l) v × (all' ≤ count_of v + b)) (sym h.1) (record { taken = k; taken' = c'; is_all = is; is_all' = h.2; ends = same }, omega (arith, h.2, few))
  forward_over all all' b k l e x z (stopped f' x' z' c') v is le few same w = absurd same
  forward_over all all' b k l e x z (out x' z' c') v is le few same w = absurd same

  forward_stopped : (all all' b k l : ℕ) (f : Fault) (x : X) (z : S) (q v : Right) → b ≤ all' → count_of q ≤ b → Alike A (stopped f x z k) q → RightWithin all' q v → BothEnd all all' (stopped f x z l) v × (all' ≤ count_of v + b)
  forward_stopped all all' b k l f x z (over e' x' z' c') v le few same w = absurd same
  forward_stopped all all' b k l f x z (stopped f' x' z' c') v le few same w =
      let h = w (omega (arith, le, few)) in
      subst (λ v. BothEnd all all' (stopped f x z l) v × (all' ≤ count_of v + b)) (sym h.1) (same, omega (arith, h.2, few))
  forward_stopped all all' b k l f x z (out x' z' c') v le few same w = absurd same

  forward_alike : (all all' b : ℕ) (r u : Left) (q v : Right) → IsFinished r → LeftBelow all r u → Alike A u q → count_of q ≤ b → b ≤ all' → RightWithin all' q v → BothEnd all all' r v × (all' ≤ count_of v + b)
  forward_alike all all' b (over e x z l) u q v fin below same few le w =
      forward_over all all' b below.0 l e x z q v below.2 le few (subst (λ u. Alike A u q) below.1 same) w
  forward_alike all all' b (stopped f x z l) u q v fin below same few le w =
      forward_stopped all all' b below.0 l f x z q v le few (subst (λ u. Alike A u q) below.1 same) w
  forward_alike all all' b (out x z l) u q v fin below same few le w = absurd fin

  taken_of : (all c : ℕ) (r u : Left) → IsFinished r → count_of r + c ≡ all → LeftBelow all r u → count_of u ≡ c
  taken_of all c (over e x z l) u fin eq below = subst (λ u. count_of u ≡ c) (sym below.1) (omega (arith, below.2, eq))
  taken_of all c (stopped f x z l) u fin eq below = subst (λ u. count_of u ≡ c) (sym below.1) (omega (arith, below.2, eq))
  taken_of all c (out x z l) u fin eq below = absurd fin

  afforded : (all c b : ℕ) → Bounds A c b → (r u : Left) (q : Right) → IsFinished r → count_of r + c ≡ all → LeftBelow all r u → A.Affords (count_of u) (count_of q) → count_of q ≤ b
  afforded all c b bounds r u q fin eq below few = bounds (count_of q) (subst (λ k. A.Affords k (count_of q)) (taken_of all c r u fin eq below) few)

  forward_at : (all all' c b d many : ℕ) → Bounds A c b → (r u : Left) (q v : Right) → Meets A d many u q → IsFinished r → count_of r + c ≡ all → LeftBelow all r u → b ≤ all' → b ≤ A.most → RightWithin all' q v → BothEnd all all' r v × (all' ≤ count_of v + b)
  forward_at all all' c b d many bounds r u q v (alike enough few same) fin eq below le most w =
      forward_alike all all' b r u q v fin below same (afforded all c b bounds r u q fin eq below few) le w
  forward_at all all' c b d many bounds r u q v (past lt few begun) fin eq below le most w =
      let h = afforded all c b bounds r u q fin eq below few in
      absurd (omega (arith, h, lt, most))

  -- backward

  backward_alike : (all all' : ℕ) (u r : Left) (q v : Right) → IsFinished v → RightBelow all' v q → Alike A u q → count_of u ≤ all → LeftWithin all u r → BothEnd all all' r v
  backward_alike all all' (over e x z c) r q (over e' x' z' l) fin below same le w =
      subst (λ r. BothEnd all all' r (over e' x' z' l)) (sym (w le).1) (record { taken = c; taken' = below.0; is_all = (w le).2; is_all' = below.2; ends = subst (λ q. Alike A (over e x z c) q) below.1 same })
  backward_alike all all' (stopped f x z c) r q (over e' x' z' l) fin below same le w = absurd (subst (λ q. Alike A (stopped f x z c) q) below.1 same)
  backward_alike all all' (out x z c) r q (over e' x' z' l) fin below same le w = absurd (subst (λ q. Alike A (out x z c) q) below.1 same)
  backward_alike all all' (over e x z c) r q (stopped f' x' z' l) fin below same le w = absurd (subst (λ q. Alike A (over e x z c) q) below.1 same)
  backward_alike all all' (stopped f x z c) r q (stopped f' x' z' l) fin below same le w =
      subst (λ r. BothEnd all all' r (stopped f' x' z' l)) (sym (w le).1) (subst (λ q. Alike A (stopped f x z c) q) below.1 same)
  backward_alike all all' (out x z c) r q (stopped f' x' z' l) fin below same le w = absurd (subst (λ q. Alike A (out x z c) q) below.1 same)
  backward_alike all all' u r q (out x' z' l) fin below same le w = absurd fin

  not_cut : (v q : Right) → IsFinished v → RightCut v q → ⊥
  not_cut (over e x z m) q fin h = h
  not_cut (stopped f x z m) q fin h = h
  not_cut (out x z m) q fin h = fin

  -- cut

  alike_begins : (u : Left) (q : Right) → Alike A u q → A.Begins (kept_of q) (kept_of u)
  alike_begins (over e x z n) (over e' x' z' n') same = A.ends_begin e x z n e' x' z' n' same
  alike_begins (stopped f x z n) (stopped f' x' z' n') same = A.stops_begin f x z f' x' z' same
  alike_begins (out x z n) (out x' z' n') same = A.outs_begin z z' same
  alike_begins (over e x z n) (stopped f' x' z' n') same = absurd same
  alike_begins (over e x z n) (out x' z' n') same = absurd same
  alike_begins (stopped f x z n) (over e' x' z' n') same = absurd same
  alike_begins (stopped f x z n) (out x' z' n') same = absurd same
  alike_begins (out x z n) (over e' x' z' n') same = absurd same
  alike_begins (out x z n) (stopped f' x' z' n') same = absurd same

  cut_kept : (v q : Right) → RightCut v q → A.Longer' (kept_of v) (kept_of q)
  cut_kept (over e x z m) q h = absurd h
  cut_kept (stopped f x z m) q h = absurd h
  cut_kept (out x z m) q h = h

  module _ (t s : ℕ) (p : Plan T E X I) (z : S) (q : Plan T' E' X' I') (z' : S') where
    backward_at : (m n many : ℕ) → Meets A m many (ran A.left m p z t) (ran A.right many q z' s) → s + m ≤ A.most → IsFinished (run A.right m q z') → count_of (ran A.left m p z t) ≤ t + n → BothEnd (t + n) (s + m) (run A.left n p z) (run A.right m q z')
    backward_at m n many (alike enough few same) le fin more =
        backward_alike (t + n) (s + m) _ _ _ _ fin (run_below A.right A.Longer' A.grows' m many q z' s enough) same more (ran_within A.left A.Longer A.grows m n p z t)
    backward_at m n many (past lt few begun) le fin more =
        absurd (not_cut _ _ fin (ran_past A.right A.Longer' A.grows' many m q z' s (omega (arith, lt, le))))

    cut_at : (m n many : ℕ) → Meets A m many (ran A.left m p z t) (ran A.right many q z' s) → s + m ≤ A.most → count_of (ran A.left m p z t) ≤ t + n → A.Begins (kept_of (run A.right m q z')) (kept_of (run A.left n p z))
    cut_at m n many (alike enough few same) le more =
        A.begins_more _ _ _ _ (below_kept A.right A.Longer' A.grows' (s + m) _ _ (run_below A.right A.Longer' A.grows' m many q z' s enough)) (alike_begins _ _ same) (within_kept A.left A.Longer A.grows (t + n) _ _ (ran_within A.left A.Longer A.grows m n p z t) more)
    cut_at m n many (past lt few begun) le more =
        A.begins_more _ _ _ _ (cut_kept _ _ (ran_past A.right A.Longer' A.grows' many m q z' s (omega (arith, lt, le)))) begun (within_kept A.left A.Longer A.grows (t + n) _ _ (ran_within A.left A.Longer A.grows m n p z t) more)

    pub turn_simulated : ((d : ℕ) → Match A d p z t q z' s) → Simulated A t s (λ n. run A.left n p z) (λ m. run A.right m q z')
    turn_simulated whole = record {
      forward = λ n c b m bounds fin eq le most.
          forward_at (t + n) (s + m) (t + c) b n (whole n).many bounds _ _ _ _ (whole n).meets fin (omega (arith, eq)) (run_below A.left A.Longer A.grows n n p z t (omega arith)) le most (ran_within A.right A.Longer' A.grows' (whole n).many m q z' s);
      backward = λ m le fin. (count_of (ran A.left m p z t), λ n more. backward_at m n (whole m).many (whole m).meets le fin (omega (arith, more)));
      cut = λ m le. (count_of (ran A.left m p z t), λ n more. cut_at m n (whole m).many (whole m).meets le (omega (arith, more)));
    }
