-- A form of lowered parts: what it gives, where its parts give theirs.
use Rattle.std.proofs.Common.{◌≡◌, ℕ, ◌+◌, refl, sym, ap, subst, ◌∙◌}
use Rattle.std.specs.Prelude.{Result, Ok, Err, IfOk}
use Rattle.caja_units.specs.declared.Memory.{Memory}
use Rattle.valija_forms.specs.Numbered.{Numbered, Takes, one, both, three, four}
use Rattle.valija_parts.specs.Gives.{Gives, joined}

at_hand : {A T : Type 0} (v : A → T) (r : Result A Memory) (m : ℕ) (x : T × ℕ) (f : A) → Gives r m v x → r ≡ Ok f → (v f, m) ≡ x
at_hand v r m x f g e = (subst (λ a. Gives a m v x) e g).told

pub made_plain : {D U : Type 0} (u : D → U) (y : U) (n : ℕ) (made : D) → u made ≡ y → Gives (Ok made) n u (y, n)
made_plain u y n made is = record { told = ap (λ z. (z, n)) is }

pub made_whole : {D U : Type 0} (u : D → U) (y : U) (n : ℕ) (r : Result D Memory) → IfOk r (λ d. u d ≡ y) → Gives r n u (y, n)
made_whole u y n (Ok d) is = record { told = ap (λ z. (z, n)) is }
made_whole u y n (Err e) is = record { told = tt }

pub made_one : {A T D U : Type 0} (v : A → T) (u : D → U) (h : T → U) (r : Result A Memory) (x : Numbered T) (n m : ℕ) (f : A) (made : D)
    → Gives r m v (x n) → r ≡ Ok f → u made ≡ h (v f) → Gives (Ok made) m u (one h x n)
unfolding one
made_one v u h r x n m f made g e is = record { told = ap (λ z. (z, m)) is ∙ ap (λ p. (h p.0, p.1)) (at_hand v r m (x n) f g e) }

pub made_both : {A B T S D U : Type 0} (v : A → T) (w : B → S) (u : D → U) (h : T → S → U) (r : Result A Memory) (q : Result B Memory) (x : Numbered T) (y : Numbered S) (n m k : ℕ)
    (j : Result (A × B) Memory) (f : A × B) (made : D)
    → Gives r m v (x n) → Gives q k w (y m) → j ≡ joined r q → j ≡ Ok f → u made ≡ h (v f.0) (w f.1) → Gives (Ok made) k u (both h x y n)
unfolding both
made_both v w u h (Ok a) (Ok b) x y n m k j f made g i is e done =
    let pair : f ≡ (a, b) = cc in
    record {
      told =
          ap (λ z. (z, k)) done
          ∙ ap (λ p. (h (v p.0) (w p.1), k)) pair
          ∙ ap (λ p. (h (v a) p.0, p.1)) i.told
          ∙ ap (λ p. (h p.0 (y p.1).0, (y p.1).1)) g.told;
    }
made_both v w u h (Ok a) (Err o) x y n m k j f made g i is e done = absurd cc
made_both v w u h (Err o) q x y n m k j f made g i is e done = absurd cc

pub made_three : {A B C T S R D U : Type 0} (v : A → T) (w : B → S) (z : C → R) (u : D → U) (h : T → S → R → U) (r : Result A Memory) (q : Result B Memory) (p : Result C Memory)
    (x : Numbered T) (y : Numbered S) (o : Numbered R) (n m k l : ℕ) (j : Result (A × B) Memory) (i : Result ((A × B) × C) Memory) (f : (A × B) × C) (made : D)
    → Gives r m v (x n) → Gives q k w (y m) → Gives p l z (o k) → j ≡ joined r q → i ≡ joined j p → i ≡ Ok f → u made ≡ h (v f.0.0) (w f.0.1) (z f.1) → Gives (Ok made) l u (three h x y o n)
unfolding three
made_three v w z u h (Ok a) (Ok b) (Ok c) x y o n m k l j i f made ga gb gc is it e done =
    let two : i ≡ Ok ((a, b), c) = it ∙ ap (λ t. joined t (Ok c)) is in
    let all : f ≡ ((a, b), c) = cc in
    record {
      told =
          ap (λ t. (t, l)) done
          ∙ ap (λ t. (h (v t.0.0) (w t.0.1) (z t.1), l)) all
          ∙ ap (λ t. (h (v a) (w b) t.0, t.1)) gc.told
          ∙ ap (λ t. (h (v a) t.0 (o t.1).0, (o t.1).1)) gb.told
          ∙ ap (λ t. (h t.0 (y t.1).0 (o (y t.1).1).0, (o (y t.1).1).1)) ga.told;
    }
made_three v w z u h (Ok a) (Ok b) (Err g) x y o n m k l j i f made ga gb gc is it e done =
    let none : i ≡ Err g = it ∙ ap (λ t. joined t (Err g)) is in absurd cc
made_three v w z u h (Ok a) (Err g) p x y o n m k l j i f made ga gb gc is it e done =
    let none : i ≡ Err g = it ∙ ap (λ t. joined t p) is in absurd cc
made_three v w z u h (Err g) q p x y o n m k l j i f made ga gb gc is it e done =
    let none : i ≡ Err g = it ∙ ap (λ t. joined t p) is in absurd cc

pub made_four : {A B C E T S R Q D U : Type 0} (v : A → T) (w : B → S) (z : C → R) (c : E → Q) (u : D → U) (h : T → S → R → Q → U)
    (r : Result A Memory) (q : Result B Memory) (p : Result C Memory) (o : Result E Memory) (x : Numbered T) (y : Numbered S) (xs : Numbered R) (ys : Numbered Q) (n m k l d : ℕ)
    (j : Result (A × B) Memory) (i : Result (C × E) Memory) (b : Result ((A × B) × (C × E)) Memory) (f : (A × B) × (C × E)) (made : D)
    → Gives r m v (x n) → Gives q k w (y m) → Gives p l z (xs k) → Gives o d c (ys l) → j ≡ joined r q → i ≡ joined p o → b ≡ joined j i → b ≡ Ok f
    → u made ≡ h (v f.0.0) (w f.0.1) (z f.1.0) (c f.1.1) → Gives (Ok made) d u (four h x y xs ys n)
unfolding four
made_four v w z c u h (Ok a1) (Ok a2) (Ok a3) (Ok a4) x y xs ys n m k l d j i b f made g1 g2 g3 g4 is it ie e done =
    let both_pairs : b ≡ Ok ((a1, a2), (a3, a4)) = ie ∙ ap (λ t. joined t i) is ∙ ap (joined (Ok (a1, a2))) it in
    let all : f ≡ ((a1, a2), (a3, a4)) = cc in
    record {
      told =
          ap (λ t. (t, d)) done
          ∙ ap (λ t. (h (v t.0.0) (w t.0.1) (z t.1.0) (c t.1.1), d)) all
          ∙ ap (λ t. (h (v a1) (w a2) (z a3) t.0, t.1)) g4.told
          ∙ ap (λ t. (h (v a1) (w a2) t.0 (ys t.1).0, (ys t.1).1)) g3.told
          ∙ ap (λ t. (h (v a1) t.0 (xs t.1).0 (ys (xs t.1).1).0, (ys (xs t.1).1).1)) g2.told
          ∙ ap (λ t. (h t.0 (y t.1).0 (xs (y t.1).1).0 (ys (xs (y t.1).1).1).0, (ys (xs (y t.1).1).1).1)) g1.told;
    }
made_four v w z c u h (Ok a1) (Ok a2) (Ok a3) (Err g) x y xs ys n m k l d j i b f made g1 g2 g3 g4 is it ie e done =
    let none : b ≡ Err g = ie ∙ ap (λ t. joined t i) is ∙ ap (joined (Ok (a1, a2))) it in absurd cc
made_four v w z c u h (Ok a1) (Ok a2) (Err g) o x y xs ys n m k l d j i b f made g1 g2 g3 g4 is it ie e done =
    let none : b ≡ Err g = ie ∙ ap (λ t. joined t i) is ∙ ap (joined (Ok (a1, a2))) it in absurd cc
made_four v w z c u h (Ok a1) (Err g) p o x y xs ys n m k l d j i b f made g1 g2 g3 g4 is it ie e done =
    let none : b ≡ Err g = ie ∙ ap (λ t. joined t i) is in absurd cc
made_four v w z c u h (Err g) q p o x y xs ys n m k l d j i b f made g1 g2 g3 g4 is it ie e done =
    let none : b ≡ Err g = ie ∙ ap (λ t. joined t i) is in absurd cc
