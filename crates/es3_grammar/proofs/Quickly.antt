-- The test by sums is the test by the shortest end, and so is the reading by it.
use Rattle.std.proofs.Common.{◌≡◌, ℕ, ◌*◌, Bool, cond, ◌&&◌, List, [], ◌∷◌, Option, Some, None, nat_le, refl, ap, sym, ◌∙◌}
use Rattle.es3_grammar.specs.Spots.{Spot}
use Rattle.es3_grammar.specs.Frames.{State}
use Rattle.es3_grammar.specs.Machine.{step, beginning}
use Rattle.es3_grammar.specs.Ends.{height}
use Rattle.es3_grammar.specs.Limit.{turn}
use Rattle.es3_grammar.specs.Within.{Reading, too_deep, is_within, goes_within, run_within, read_within}
use Rattle.es3_grammar.specs.Sums.{brackets_in, Steady, within_by, goes_quickly, run_quickly, read_quickly}
use Rattle.es3_grammar.proofs.OpenBrackets.{state_peaks}
use Rattle.es3_grammar.proofs.Turns.{step_turned}

pub within_same : (limit o : ℕ) (s : State) → Steady s → o ≡ brackets_in s → is_within limit o s ≡ within_by limit o s
within_same limit o s h e = rw e (ap (λ (n : ℕ). nat_le (height s) limit && nat_le n (2 * limit)) (state_peaks s h).is)

pub run_same : (k : List Spot) (limit o : ℕ) (s : State) → Steady s → o ≡ brackets_in s → run_quickly limit o k s ≡ run_within limit o k s
unfolding run_within run_quickly
run_same [] limit o s h e = refl
run_same (c ∷ k) limit o s h e = go (λ r g i. run_same k limit (turn o c) r g i) (step s c) refl
  where
    go : ((r : State) → Steady r → turn o c ≡ brackets_in r → run_quickly limit (turn o c) k r ≡ run_within limit (turn o c) k r) → (q : Option State) → step s c ≡ q
        → goes_quickly (run_quickly limit (turn o c) k) limit (turn o c) (c ∷ k) q ≡ goes_within (run_within limit (turn o c) k) limit (turn o c) (c ∷ k) q
    go rec None i = refl
    go rec (Some r) i = let m = step_turned s c r h i in
        let n : turn o c ≡ brackets_in r = ap (λ (x : ℕ). turn x c) e ∙ sym m.counted in
        ap (λ (b : Bool). cond b (run_quickly limit (turn o c) k r) (too_deep (c ∷ k))) (sym (within_same limit (turn o c) r m.steady n))
        ∙ ap (λ (x : Reading). cond (is_within limit (turn o c) r) x (too_deep (c ∷ k))) (rec r m.steady n)

pub read_same : (limit : ℕ) (u : List Spot) → read_quickly limit u ≡ read_within limit u
read_same limit u = run_same u limit 0 beginning tt refl
