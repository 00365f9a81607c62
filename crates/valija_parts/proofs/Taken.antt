-- A form that takes temporaries before its parts take theirs.
use Rattle.std.proofs.Common.{◌≡◌, ℕ, ◌+◌, ◌<◌, ◌^◌, ap, ◌∙◌}
use Rattle.std.specs.Prelude.{Result, Ok, Err, IfOk}
use Rattle.caja_units.specs.declared.Memory.{Memory}
use Rattle.valija_forms.specs.Numbered.{Numbered, Takes, one, both, three}
use Rattle.valija_parts.specs.Gives.{Gives, joined}

pub taken_one : {A T D U : Type 0} (v : A → T) (u : D → U) (h : ℕ → T → U) (first : Result ℕ Memory) (r : Result A Memory) (x : Numbered T) (n c m k : ℕ) (j : Result (ℕ × A) Memory) (f : ℕ × A) (made : D)
    → Takes first n c m → Gives r k v (x m) → j ≡ joined first r → j ≡ Ok f → u made ≡ h f.0 (v f.1) → Gives (Ok made) k u (one (h n) x (n + c))
unfolding one
taken_one v u h (Ok i) (Ok a) x n c m k j f made t g is e done =
    let pair : f ≡ (i, a) = cc in
    record {
      told =
          ap (λ z. (z, k)) done
          ∙ ap (λ p. (h p.0 (v p.1), k)) pair
          ∙ ap (λ p. (h p (v a), k)) t.first
          ∙ ap (λ p. (h n p.0, p.1)) g.told
          ∙ ap (λ p. (h n (x p).0, (x p).1)) t.taken;
    }
taken_one v u h (Ok i) (Err o) x n c m k j f made t g is e done = absurd cc
taken_one v u h (Err o) r x n c m k j f made t g is e done = absurd cc

pub taken_both : {A B T S D U : Type 0} (v : A → T) (w : B → S) (u : D → U) (h : ℕ → T → S → U) (first : Result ℕ Memory) (r : Result A Memory) (q : Result B Memory)
    (x : Numbered T) (y : Numbered S) (n c m k l : ℕ) (i : Result (A × B) Memory) (j : Result (ℕ × (A × B)) Memory) (f : ℕ × (A × B)) (made : D)
    → Takes first n c m → Gives r k v (x m) → Gives q l w (y k) → i ≡ joined r q → j ≡ joined first i → j ≡ Ok f → u made ≡ h f.0 (v f.1.0) (w f.1.1)
    → Gives (Ok made) l u (both (h n) x y (n + c))
unfolding both
taken_both v w u h (Ok b) (Ok a1) (Ok a2) x y n c m k l i j f made t g1 g2 is it e done =
    let two : j ≡ Ok (b, (a1, a2)) = it ∙ ap (joined (Ok b)) is in
    let all : f ≡ (b, (a1, a2)) = cc in
    record {
      told =
          ap (λ z. (z, l)) done
          ∙ ap (λ p. (h p.0 (v p.1.0) (w p.1.1), l)) all
          ∙ ap (λ p. (h p (v a1) (w a2), l)) t.first
          ∙ ap (λ p. (h n (v a1) p.0, p.1)) g2.told
          ∙ ap (λ p. (h n p.0 (y p.1).0, (y p.1).1)) g1.told
          ∙ ap (λ p. (h n (x p).0 (y (x p).1).0, (y (x p).1).1)) t.taken;
    }
taken_both v w u h (Ok b) (Ok a1) (Err g) x y n c m k l i j f made t g1 g2 is it e done =
    let none : j ≡ Err g = it ∙ ap (joined (Ok b)) is in absurd cc
taken_both v w u h (Ok b) (Err g) q x y n c m k l i j f made t g1 g2 is it e done =
    let none : j ≡ Err g = it ∙ ap (joined (Ok b)) is in absurd cc
taken_both v w u h (Err g) r q x y n c m k l i j f made t g1 g2 is it e done = absurd cc

-- the first temporary of those that are at hand is far from the last number
pub fits_one : {A : Type 0} (first : Result ℕ Memory) (r : Result A Memory) (j : Result (ℕ × A) Memory) (f : ℕ × A)
    → IfOk first (λ i. i + 3 < 2 ^ 32) → j ≡ joined first r → j ≡ Ok f → f.0 + 3 < 2 ^ 32
fits_one (Ok i) (Ok a) j f h is e =
    let same : i ≡ f.0 = cc in
    rw same at h
fits_one (Ok i) (Err o) j f h is e = absurd cc
fits_one (Err o) r j f h is e = absurd cc

pub taken_three : {A B C T S R D U : Type 0} (v : A → T) (w : B → S) (z : C → R) (u : D → U) (h : ℕ → T → S → R → U) (first : Result ℕ Memory)
    (r : Result A Memory) (q : Result B Memory) (o : Result C Memory) (x : Numbered T) (y : Numbered S) (xs : Numbered R) (n c m k l d : ℕ)
    (i : Result (A × B) Memory) (b : Result ((A × B) × C) Memory) (j : Result (ℕ × ((A × B) × C)) Memory) (f : ℕ × ((A × B) × C)) (made : D)
    → Takes first n c m → Gives r k v (x m) → Gives q l w (y k) → Gives o d z (xs l) → i ≡ joined r q → b ≡ joined i o → j ≡ joined first b → j ≡ Ok f
    → u made ≡ h f.0 (v f.1.0.0) (w f.1.0.1) (z f.1.1) → Gives (Ok made) d u (three (h n) x y xs (n + c))
unfolding three
taken_three v w z u h (Ok a0) (Ok a1) (Ok a2) (Ok a3) x y xs n c m k l d i b j f made t g1 g2 g3 is it ij e done =
    let parts : j ≡ Ok (a0, ((a1, a2), a3)) = ij ∙ ap (joined (Ok a0)) (it ∙ ap (λ s. joined s (Ok a3)) is) in
    let all : f ≡ (a0, ((a1, a2), a3)) = cc in
    record {
      told =
          ap (λ p. (p, d)) done
          ∙ ap (λ p. (h p.0 (v p.1.0.0) (w p.1.0.1) (z p.1.1), d)) all
          ∙ ap (λ p. (h p (v a1) (w a2) (z a3), d)) t.first
          ∙ ap (λ p. (h n (v a1) (w a2) p.0, p.1)) g3.told
          ∙ ap (λ p. (h n (v a1) p.0 (xs p.1).0, (xs p.1).1)) g2.told
          ∙ ap (λ p. (h n p.0 (y p.1).0 (xs (y p.1).1).0, (xs (y p.1).1).1)) g1.told
          ∙ ap (λ p. (h n (x p).0 (y (x p).1).0 (xs (y (x p).1).1).0, (xs (y (x p).1).1).1)) t.taken;
    }
taken_three v w z u h (Ok a0) (Ok a1) (Ok a2) (Err g) x y xs n c m k l d i b j f made t g1 g2 g3 is it ij e done =
    let none : j ≡ Err g = ij ∙ ap (joined (Ok a0)) (it ∙ ap (λ s. joined s (Err g)) is) in absurd cc
taken_three v w z u h (Ok a0) (Ok a1) (Err g) o x y xs n c m k l d i b j f made t g1 g2 g3 is it ij e done =
    let none : j ≡ Err g = ij ∙ ap (joined (Ok a0)) (it ∙ ap (λ s. joined s o) is) in absurd cc
taken_three v w z u h (Ok a0) (Err g) q o x y xs n c m k l d i b j f made t g1 g2 g3 is it ij e done =
    let none : j ≡ Err g = ij ∙ ap (joined (Ok a0)) (it ∙ ap (λ s. joined s o) is) in absurd cc
taken_three v w z u h (Err g) r q o x y xs n c m k l d i b j f made t g1 g2 g3 is it ij e done = absurd cc
