-- What is simulated, and what follows it, are simulated.
use Rattle.std.proofs.Common.{◌≡◌, ℕ, ◌+◌, ◌-◌, ◌≤◌, refl, sym, subst, arith}
use Rattle.plans.specs.Plans.{Fault, Run, over, stopped, out, count_of, kept_of}
use Rattle.matching.specs.Sides.{EndsOf, Sides}
use Rattle.matching.specs.Sentences.{IsFinished, EndTogether, Bounds, Together, SimulatedTo}
use Rattle.pages.specs.Pages.{chain, with_more}
use Rattle.pages.proofs.Steady.{Steady, chain_finished, chain_longer}

module _ {T E X I S T' E' X' I' S' : Type 0} (A : Sides T E X I S T' E' X' I' S') where
  -- both are where they were
  pub over_simulated : {R R' : Type 0} (After : EndsOf R X S R' X' S') (r : R) (x : X) (z : S) (t : ℕ) (r' : R') (x' : X') (z' : S') (s : ℕ) → After r x z t r' x' z' s → A.Affords t s → A.Begins z' z → SimulatedTo A After t s (λ n. over r x z n) (λ m. over r' x' z' m)
  over_simulated After r x z t r' x' z' s a few b = record {
    forward = λ n c b m bounds f is le most. let h = bounds s (A.affords_more t (t + c) s (omega arith) few) in (both n m, omega (arith, h));
    backward = λ m le f. (0, λ n more. both n m);
    cut = λ m le. (0, λ n more. b);
  }
    where
      both : (n m : ℕ) → EndTogether After (t + n) (s + m) r x z n r' x' z' m
      both n m = record { taken = t; taken' = s; is_all = refl; is_all' = refl; ends = a }

  -- a left run that came to an end together with a right one
  together_finished : {V V' : Type 0} (Ends : EndsOf V X S V' X' S') (all all' : ℕ) (r : Run V X S) (q : Run V' X' S') → Together A Ends all all' r q → IsFinished r
  together_finished Ends all all' (over e x z n) (over e' x' z' n') p = tt
  together_finished Ends all all' (stopped f x z n) (stopped f' x' z' n') p = tt
  together_finished Ends all all' _ _ p = absurd p

  bounds_less : (c k b : ℕ) → c ≤ k → Bounds A k b → Bounds A c b
  bounds_less c k b le bounds = λ i few. bounds i (A.affords_more c k i le few)

  module _ {V V' R R' : Type 0} (Ends : EndsOf V X S V' X' S') (After : EndsOf R X S R' X' S') (go : V → X → S → ℕ → Run R X S) (go' : V' → X' → S' → ℕ → Run R' X' S') (steady : (e : V) (x : X) (z : S) → Steady (go e x z)) (grows : (e : V) (x : X) (z : S) (n : ℕ) → A.Longer z (kept_of (go e x z n))) where
    -- what follows is simulated wherever both go on
    abbrev pub Follows : Type 0
    Follows = (e : V) (x : X) (z : S) (t : ℕ) (e' : V') (x' : X') (z' : S') (s : ℕ) → Ends e x z t e' x' z' s → SimulatedTo A After t s (go e x z) (go' e' x' z')

    -- the steps that both had, counted from before the first run and from behind it
    recount : {all all' a a' : ℕ} (r : Run R X S) (q : Run R' X' S') → a ≡ all → a' ≡ all' → Together A After a a' r q → Together A After all all' r q
    recount {all = all} {a' = a'} r q is is' h = subst (λ i. Together A After all i r q) is' (subst (λ i. Together A After i a' r q) is h)

    -- forward

    forward_at : Follows → (t s n c b m : ℕ) (r : Run V X S) (q : Run V' X' S') → Bounds A (t + c) b → IsFinished (chain r go) → count_of (chain r go) + c ≡ n → count_of r ≤ n → b ≤ s + m → b ≤ A.most → ((c1 : ℕ) → c1 ≤ c → count_of r + c1 ≡ n → Together A Ends (t + n) (s + m) r q × (s + m ≤ count_of q + b)) → Together A After (t + n) (s + m) (chain r go) (chain q go') × (s + m ≤ count_of (chain q go') + b)
    forward_at follows t s n c b m (over e x z n1) q bounds f is few le most head =
        let sp = (steady e x z).spent n1 in first q (head (n - n1) (omega (arith, is, sp, few)) (omega (arith, few)))
      where
        first : (q : Run V' X' S') → Together A Ends (t + n) (s + m) (over e x z n1) q × (s + m ≤ count_of q + b) → Together A After (t + n) (s + m) (go e x z n1) (chain q go') × (s + m ≤ count_of (chain q go') + b)
        first (over e' x' z' m1) h =
            let sp = (steady e x z).spent n1 in
            let taken = h.0.taken in
            let taken' = h.0.taken' in
            let c2 = n1 - count_of (go e x z n1) in
            let u = (follows e x z taken e' x' z' taken' h.0.ends).forward n1 c2 b m1 (bounds_less (taken + c2) (t + c) b (omega (arith, h.0.is_all, is, sp, few)) bounds) f (omega (arith, sp)) (omega (arith, h.0.is_all', le)) most in
            (recount (go e x z n1) (go' e' x' z' m1) h.0.is_all h.0.is_all' u.0, omega (arith, u.1, h.0.is_all'))
        first (stopped f' x' z' m1) h = absurd h.0
        first (out x' z' m1) h = absurd h.0
    forward_at follows t s n c b m (stopped f x z n1) q bounds fin is few le most head = first q (head c (omega arith) is)
      where
        first : (q : Run V' X' S') → Together A Ends (t + n) (s + m) (stopped f x z n1) q × (s + m ≤ count_of q + b) → Together A After (t + n) (s + m) (stopped f x z n1) (chain q go') × (s + m ≤ count_of (chain q go') + b)
        first (stopped f' x' z' m1) h = h
        first (over e' x' z' m1) h = absurd h.0
        first (out x' z' m1) h = absurd h.0
    forward_at follows t s n c b m (out x z n1) q bounds f is few le most head = absurd f

    -- backward, from left runs that ended together with the right one, with more steps

    sums : (a b j t n : ℕ) → a + b ≡ t + n → a + (b + j) ≡ t + (n + j)
    sums a b j t n h = omega (arith, h)

    back_tail : Follows → (t n s m : ℕ) (r : Run V X S) (q : Run V' X' S') → s + m ≤ A.most → Together A Ends (t + n) (s + m) r q → IsFinished (chain q go') → (i : ℕ) × ((j : ℕ) → i ≤ j → Together A After (t + (n + j)) (s + m) (chain (with_more j r) go) (chain q go'))
    back_tail follows t n s m (over e x z n1) (over e' x' z' m1) le p f =
        let b = (follows e x z p.taken e' x' z' p.taken' p.ends).backward m1 (omega (arith, p.is_all', le)) f in
        (b.0, λ j more. recount (go e x z (n1 + j)) (go' e' x' z' m1) (sums p.taken n1 j t n p.is_all) p.is_all' (b.1 (n1 + j) (omega (arith, more))))
    back_tail follows t n s m (stopped f x z n1) (stopped f' x' z' m1) le p fin = (0, λ j more. p)
    back_tail follows t n s m _ _ le p f = absurd p

    cut_tail : Follows → (t n s m : ℕ) (r : Run V X S) (q : Run V' X' S') → s + m ≤ A.most → Together A Ends (t + n) (s + m) r q → (i : ℕ) × ((j : ℕ) → i ≤ j → A.Begins (kept_of (chain q go')) (kept_of (chain (with_more j r) go)))
    cut_tail follows t n s m (over e x z n1) (over e' x' z' m1) le p =
        let b = (follows e x z p.taken e' x' z' p.taken' p.ends).cut m1 (omega (arith, p.is_all', le)) in
        (b.0, λ j more. b.1 (n1 + j) (omega (arith, more)))
    cut_tail follows t n s m (stopped f x z n1) (stopped f' x' z' m1) le p = (0, λ j more. A.stops_begin f x z f' x' z' p)
    cut_tail follows t n s m _ _ le p = absurd p

    -- what holds of an ended run with more steps, holds of the runs with as many steps and more
    later_left : (p : ℕ → Run V X S) → Steady p → (P : ℕ → Run V X S → Type 0) (k i : ℕ) → IsFinished (p k) → ((j : ℕ) → i ≤ j → P (k + j) (with_more j (p k))) → (n : ℕ) → k + i ≤ n → P n (p n)
    later_left p st P k i f h n le =
        subst (λ a. P a (p a)) (omega (arith, le)) (subst (P (k + (n - k))) (sym (st.more k (n - k) f)) (h (n - k) (omega (arith, le))))

    module _ (follows : Follows) (t s : ℕ) (p : ℕ → Run V X S) (st : Steady p) where
      back_at : (m : ℕ) (q : Run V' X' S') → s + m ≤ A.most → IsFinished (chain q go') → (k : ℕ) × ((n : ℕ) → k ≤ n → Together A Ends (t + n) (s + m) (p n) q) → (i : ℕ) × ((n : ℕ) → i ≤ n → Together A After (t + n) (s + m) (chain (p n) go) (chain q go'))
      back_at m q le f back =
          let h = back.1 back.0 (omega arith) in
          let u = back_tail follows t back.0 s m (p back.0) q le h f in
          (back.0 + u.0, later_left p st (λ n r. Together A After (t + n) (s + m) (chain r go) (chain q go')) back.0 u.0 (together_finished Ends (t + back.0) (s + m) (p back.0) q h) u.1)

      cut_ended : (m : ℕ) (q : Run V' X' S') → s + m ≤ A.most → (k : ℕ) × ((n : ℕ) → k ≤ n → Together A Ends (t + n) (s + m) (p n) q) → (i : ℕ) × ((n : ℕ) → i ≤ n → A.Begins (kept_of (chain q go')) (kept_of (chain (p n) go)))
      cut_ended m q le back =
          let h = back.1 back.0 (omega arith) in
          let u = cut_tail follows t back.0 s m (p back.0) q le h in
          (back.0 + u.0, later_left p st (λ n r. A.Begins (kept_of (chain q go')) (kept_of (chain r go))) back.0 u.0 (together_finished Ends (t + back.0) (s + m) (p back.0) q h) u.1)

      cut_at : (m : ℕ) (q : Run V' X' S') → s + m ≤ A.most → (IsFinished q → (k : ℕ) × ((n : ℕ) → k ≤ n → Together A Ends (t + n) (s + m) (p n) q)) → (k : ℕ) × ((n : ℕ) → k ≤ n → A.Begins (kept_of q) (kept_of (p n))) → (i : ℕ) × ((n : ℕ) → i ≤ n → A.Begins (kept_of (chain q go')) (kept_of (chain (p n) go)))
      cut_at m (over e' x' z' n') le back cut = cut_ended m (over e' x' z' n') le (back tt)
      cut_at m (stopped f' x' z' n') le back cut = cut_ended m (stopped f' x' z' n') le (back tt)
      cut_at m (out x' z' n') le back cut =
          (cut.0, λ n more. A.begins_more z' z' (kept_of (p n)) (kept_of (chain (p n) go)) (A.grows'.same z') (cut.1 n more) (chain_longer A.Longer A.grows.same (p n) go grows))

      pub chain_simulated : (q : ℕ → Run V' X' S') → SimulatedTo A Ends t s p q → SimulatedTo A After t s (λ n. chain (p n) go) (λ m. chain (q m) go')
      chain_simulated q h = record {
        forward = λ n c b m bounds f is le most. forward_at follows t s n c b m (p n) (q m) bounds f is (st.spent n) le most (λ c1 less e. h.forward n c1 b m (bounds_less (t + c1) (t + c) b (omega (arith, less)) bounds) (chain_finished (p n) go f) e le most);
        backward = λ m le f. back_at m (q m) le f (h.backward m le (chain_finished (q m) go' f));
        cut = λ m le. cut_at m (q m) le (h.backward m le) (h.cut m le);
      }

-- the same said of other sides and other ends, which ask for no more
pub simulated_weaker : {T E X I S T' E' X' I' S' R R' : Type 0} (A B : Sides T E X I S T' E' X' I' S') (Ends Next : EndsOf R X S R' X' S')
    → ((n m : ℕ) → A.Affords n m → B.Affords n m)
    → B.most ≤ A.most
    → ((f : Fault) (x : X) (z : S) (f' : Fault) (x' : X') (z' : S') → A.Stops f x z f' x' z' → B.Stops f x z f' x' z')
    → ((y : S') (z : S) → A.Begins y z → B.Begins y z)
    → ((e : R) (x : X) (z : S) (n : ℕ) (e' : R') (x' : X') (z' : S') (n' : ℕ) → Ends e x z n e' x' z' n' → Next e x z n e' x' z' n')
    → (t s : ℕ) (p : ℕ → Run R X S) (q : ℕ → Run R' X' S') → SimulatedTo A Ends t s p q → SimulatedTo B Next t s p q
simulated_weaker {X = X} {S = S} {X' = X'} {S' = S'} {R = R} {R' = R'} A B Ends Next affords looked stops begins next t s p q h = record {
  forward = λ n c b m bounds f is le most. let u = h.forward n c b m (λ k few. bounds k (affords (t + c) k few)) f is le (omega (arith, looked, most)) in (both (t + n) (s + m) (p n) (q m) u.0, u.1);
  backward = λ m le f. let u = h.backward m (omega (arith, looked, le)) f in (u.0, λ n more. both (t + n) (s + m) (p n) (q m) (u.1 n more));
  cut = λ m le. let u = h.cut m (omega (arith, looked, le)) in (u.0, λ n more. begins (kept_of (q m)) (kept_of (p n)) (u.1 n more));
}
  where
    both : (all all' : ℕ) (r : Run R X S) (v : Run R' X' S') → Together A Ends all all' r v → Together B Next all all' r v
    both all all' (over e x z n) (over e' x' z' n') g = record { taken = g.taken; taken' = g.taken'; is_all = g.is_all; is_all' = g.is_all'; ends = next e x z g.taken e' x' z' g.taken' g.ends }
    both all all' (stopped f x z n) (stopped f' x' z' n') g = stops f x z f' x' z' g
    both all all' _ _ g = absurd g
