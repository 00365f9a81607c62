-- A form of parts that may have no resolved form: what it gives, where its parts give theirs.
use Rattle.std.proofs.Common.{◌≡◌, Option, Some, None, option_map, refl, sym, ap, subst, ◌∙◌}
use Rattle.std.specs.Prelude.{Result, Ok, Err}
use Rattle.caja_units.specs.declared.Memory.{Memory}
use Rattle.cajita_forms.specs.Gives.{Gives, joined}
use Rattle.cajita_forms.specs.Options.{one, both, three, four, from}

at_hand : {A T : Type 0} (v : A → T) (r : Result (Option A) Memory) (x : Option T) (f : Option A) → Gives r v x → r ≡ Ok f → option_map v f ≡ x
at_hand v r x f g e = (subst (λ a. Gives a v x) e g).told

pub formed_one : {A T D U : Type 0} (v : A → T) (u : D → U) (h : T → U) (r : Result (Option A) Memory) (x : Option T) (f : Option A) (made : Option D)
    → Gives r v x → r ≡ Ok f → option_map u made ≡ one h (option_map v f) → Gives (Ok made) u (one h x)
formed_one v u h r x f made g e is = record { told = is ∙ ap (one h) (at_hand v r x f g e) }

pub formed_from : {A T D U : Type 0} (v : A → T) (u : D → U) (h : T → Option U) (r : Result (Option A) Memory) (x : Option T) (f : Option A) (made : Option D)
    → Gives r v x → r ≡ Ok f → option_map u made ≡ from h (option_map v f) → Gives (Ok made) u (from h x)
formed_from v u h r x f made g e is = record { told = is ∙ ap (from h) (at_hand v r x f g e) }

-- two parts as one
abbrev beside : {A B : Type 0} → A → B → A × B
beside a b = (a, b)

-- what each of two parts stands for
abbrev each : {A B T S : Type 0} → (A → T) → (B → S) → A × B → T × S
each v w p = (v p.0, w p.1)

abbrev of_two : {T S U : Type 0} → (T → S → U) → T × S → U
of_two h p = h p.0 p.1

abbrev of_three : {T S R U : Type 0} → (T → S → R → U) → (T × S) × R → U
of_three h p = h p.0.0 p.0.1 p.1

abbrev of_four : {T S R Q U : Type 0} → (T → S → R → Q → U) → (T × S) × (R × Q) → U
of_four h p = h p.0.0 p.0.1 p.1.0 p.1.1

option_of_each : {A B T S : Type 0} (v : A → T) (w : B → S) (f : Option A) (g : Option B) → option_map (each v w) (both beside f g) ≡ both beside (option_map v f) (option_map w g)
option_of_each v w (Some a) (Some b) = refl
option_of_each v w (Some a) None = refl
option_of_each v w None g = refl

of_each : {A B T S : Type 0} (v : A → T) (w : B → S) (r : Result (Option A) Memory) (q : Result (Option B) Memory) (x : Option T) (y : Option S)
    → Gives r v x → Gives q w y → Gives (joined r q) (each v w) (both beside x y)
of_each v w (Ok f) (Ok g) x y a b =
    record { told = option_of_each v w f g ∙ ap (λ o. both beside o (option_map w g)) a.told ∙ ap (both beside x) b.told }
of_each v w (Ok f) (Err e) x y a b = record { told = tt }
of_each v w (Err e) q x y a b = record { told = tt }

as_joined : {A B T S : Type 0} (v : A → T) (w : B → S) (r : Result (Option A) Memory) (q : Result (Option B) Memory) (x : Option T) (y : Option S) (j : Result (Option (A × B)) Memory)
    → Gives r v x → Gives q w y → j ≡ joined r q → Gives j (each v w) (both beside x y)
as_joined v w r q x y j a b e = subst (λ o. Gives o (each v w) (both beside x y)) (sym e) (of_each v w r q x y a b)

one_of_map : {A T U : Type 0} (v : A → T) (h : T → U) (f : Option A) → one (λ a. h (v a)) f ≡ one h (option_map v f)
one_of_map v h (Some a) = refl
one_of_map v h None = refl

-- a form of what its parts give together
formed_of : {A T D U : Type 0} (v : A → T) (u : D → U) (h : T → U) (r : Result (Option A) Memory) (x : Option T) (f : Option A) (made : Option D) (whole : Option U)
    → Gives r v x → r ≡ Ok f → option_map u made ≡ one (λ a. h (v a)) f → one h x ≡ whole → Gives (Ok made) u whole
formed_of v u h r x f made whole g e is w = record { told = is ∙ one_of_map v h f ∙ ap (one h) (at_hand v r x f g e) ∙ w }

two_of : {T S U : Type 0} (h : T → S → U) (x : Option T) (y : Option S) → one (of_two h) (both beside x y) ≡ both h x y
two_of h (Some a) (Some b) = refl
two_of h (Some a) None = refl
two_of h None y = refl

three_of : {T S R U : Type 0} (h : T → S → R → U) (x : Option T) (y : Option S) (o : Option R) → one (of_three h) (both beside (both beside x y) o) ≡ three h x y o
three_of h (Some a) (Some b) (Some c) = refl
three_of h (Some a) (Some b) None = refl
three_of h (Some a) None o = refl
three_of h None y o = refl

four_of : {T S R Q U : Type 0} (h : T → S → R → Q → U) (x : Option T) (y : Option S) (o : Option R) (l : Option Q) → one (of_four h) (both beside (both beside x y) (both beside o l)) ≡ four h x y o l
four_of h (Some a) (Some b) (Some c) (Some d) = refl
four_of h (Some a) (Some b) (Some c) None = refl
four_of h (Some a) (Some b) None l = refl
four_of h (Some a) None (Some c) (Some d) = refl
four_of h (Some a) None (Some c) None = refl
four_of h (Some a) None None l = refl
four_of h None y o l = refl

pub formed_both : {A B T S D U : Type 0} (v : A → T) (w : B → S) (u : D → U) (h : T → S → U) (r : Result (Option A) Memory) (q : Result (Option B) Memory) (x : Option T) (y : Option S)
    (j : Result (Option (A × B)) Memory) (f : Option (A × B)) (made : Option D)
    → Gives r v x → Gives q w y → j ≡ joined r q → j ≡ Ok f → option_map u made ≡ one (λ (p : A × B). h (v p.0) (w p.1)) f → Gives (Ok made) u (both h x y)
formed_both v w u h r q x y j f made a b c e is = formed_of (each v w) u (of_two h) j (both beside x y) f made (both h x y) (as_joined v w r q x y j a b c) e is (two_of h x y)

pub formed_three : {A B C T S R D U : Type 0} (v : A → T) (w : B → S) (z : C → R) (u : D → U) (h : T → S → R → U)
    (r : Result (Option A) Memory) (q : Result (Option B) Memory) (p : Result (Option C) Memory) (x : Option T) (y : Option S) (o : Option R)
    (j : Result (Option (A × B)) Memory) (k : Result (Option ((A × B) × C)) Memory) (f : Option ((A × B) × C)) (made : Option D)
    → Gives r v x → Gives q w y → Gives p z o → j ≡ joined r q → k ≡ joined j p → k ≡ Ok f
    → option_map u made ≡ one (λ (t : (A × B) × C). h (v t.0.0) (w t.0.1) (z t.1)) f → Gives (Ok made) u (three h x y o)
formed_three v w z u h r q p x y o j k f made a b c d e i is =
    formed_of (each (each v w) z) u (of_three h) k (both beside (both beside x y) o) f made (three h x y o)
    (as_joined (each v w) z j p (both beside x y) o k (as_joined v w r q x y j a b d) c e) i is (three_of h x y o)

pub formed_four : {A B C E T S R Q D U : Type 0} (v : A → T) (w : B → S) (z : C → R) (n : E → Q) (u : D → U) (h : T → S → R → Q → U)
    (r : Result (Option A) Memory) (q : Result (Option B) Memory) (p : Result (Option C) Memory) (m : Result (Option E) Memory) (x : Option T) (y : Option S) (o : Option R) (l : Option Q)
    (j : Result (Option (A × B)) Memory) (i : Result (Option (C × E)) Memory) (k : Result (Option ((A × B) × (C × E))) Memory) (f : Option ((A × B) × (C × E))) (made : Option D)
    → Gives r v x → Gives q w y → Gives p z o → Gives m n l → j ≡ joined r q → i ≡ joined p m → k ≡ joined j i → k ≡ Ok f
    → option_map u made ≡ one (λ (t : (A × B) × (C × E)). h (v t.0.0) (w t.0.1) (z t.1.0) (n t.1.1)) f → Gives (Ok made) u (four h x y o l)
formed_four v w z n u h r q p m x y o l j i k f made a b c d e g s t is =
    formed_of (each (each v w) (each z n)) u (of_four h) k (both beside (both beside x y) (both beside o l)) f made (four h x y o l)
    (as_joined (each v w) (each z n) j i (both beside x y) (both beside o l) k (as_joined v w r q x y j a b e) (as_joined z n p m o l i c d g) s) t is (four_of h x y o l)

-- a whole, which is its parts
pub as_given : {A T : Type 0} {r : Result (Option A) Memory} {v : A → T} {whole o : Option T} → whole ≡ o → Gives r v o → Gives r v whole
as_given {r = r} {v = v} e g = subst (Gives r v) (sym e) g
