-- The three sentences where no step was taken before.
use Rattle.std.proofs.Common.{◌≡◌, ℕ, ◌+◌, ◌≤◌, sym, subst, arith}
use Rattle.plans.specs.Plans.{Run, count_of, kept_of}
use Rattle.matching.specs.Sides.{EndsOf, Sides}
use Rattle.matching.specs.Sentences.{IsFinished, Bounds, Together, SimulatedTo}

module _ {T E X I S T' E' X' I' S' R R' : Type 0} {A : Sides T E X I S T' E' X' I' S'} {Ends : EndsOf R X S R' X' S'} {p : ℕ → Run R X S} {q : ℕ → Run R' X' S'} (from_start : SimulatedTo A Ends 0 0 p q) where
  none_before : (n : ℕ) → 0 + n ≡ n
  none_before n = omega arith

  together : (n m : ℕ) → Together A Ends (0 + n) (0 + m) (p n) (q m) → Together A Ends n m (p n) (q m)
  together n m h = subst (λ i. Together A Ends i m (p n) (q m)) (none_before n) (subst (λ j. Together A Ends (0 + n) j (p n) (q m)) (none_before m) h)

  pub forward : (n c b m : ℕ) → Bounds A c b → IsFinished (p n) → count_of (p n) + c ≡ n → b ≤ m → b ≤ A.most → Together A Ends n m (p n) (q m) × (m ≤ count_of (q m) + b)
  forward n c b m bounds fin eq le most =
      let h = from_start.forward n c b m (subst (λ i. Bounds A i b) (sym (none_before c)) bounds) fin eq (omega (arith, le)) most in
      (together n m h.0, omega (arith, h.1))

  pub backward : (m : ℕ) → m ≤ A.most → IsFinished (q m) → (k : ℕ) × ((n : ℕ) → k ≤ n → Together A Ends n m (p n) (q m))
  backward m le fin = let h = from_start.backward m (omega (arith, le)) fin in (h.0, λ n enough. together n m (h.1 n enough))

  pub cut : (m : ℕ) → m ≤ A.most → (k : ℕ) × ((n : ℕ) → k ≤ n → A.Begins (kept_of (q m)) (kept_of (p n)))
  cut m le = from_start.cut m (omega (arith, le))
