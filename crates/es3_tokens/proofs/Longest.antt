-- The longest front.
use Rattle.std.proofs.Common.{◌≡◌, ℕ, zero, suc, ◌+◌, ◌≤◌, ◌<◌, Bool, true, false, cond, List, [], ◌∷◌, Option, Some, None, refl, sym, ap, subst, inl, inr, ◌∙◌, arith, length, take}
use Rattle.std.specs.Prelude.{if◌then◌else◌}
use Rattle.std.specs.List.{prefix_len, list_all}
use Rattle.std.proofs.lemmas.List.Sums.{prefix_len-le-length}
use Rattle.std.proofs.lemmas.Bool.Decides.{eqb_tells}
use Rattle.es3_tokens.proofs.Tests.{and_false}
use Rattle.es3_tokens.specs.Characters.{begins, is_empty}
use Rattle.es3_tokens.specs.Longest.{longest, or_shorter}
use Rattle.es3_tokens.specs.Tokens.{or_else}

-- where no front is anything, there is no longest one
pub longest_none : {A : Type 0} (f : List ℕ → Option A) (c : ℕ) (s : List ℕ) (m : ℕ) → ((j : ℕ) → j < m → f (c ∷ take j s) ≡ None) → longest f m (c ∷ s) ≡ None
unfolding longest
longest_none f c s zero h = refl
longest_none f c s (suc m) h = ap (λ o. or_shorter o (suc m) (longest f m (c ∷ s))) (h m (omega arith)) ∙ longest_none f c s m (λ j lt. h j (omega arith))

-- a front that is something, and no longer one is
pub longest_is : {A : Type 0} (f : List ℕ → Option A) (c : ℕ) (s : List ℕ) (n m : ℕ) (a : A) → n < m → f (c ∷ take n s) ≡ Some a → ((j : ℕ) → n < j → j < m → f (c ∷ take j s) ≡ None) → longest f m (c ∷ s) ≡ Some (a, suc n)
unfolding longest
longest_is f c s n zero a lt e more = absurd (omega arith)
longest_is f c s n (suc m) a lt e more =
    elim (eqb_tells n m) [
      | inl p ↦ (let h : f (c ∷ take m s) ≡ Some a = subst (λ (k : ℕ). f (c ∷ take k s) ≡ Some a) p.1 e in ap (λ o. or_shorter o (suc m) (longest f m (c ∷ s))) h ∙ ap (λ (k : ℕ). Some (a, suc k)) (sym p.1))
      | inr p ↦ ap (λ o. or_shorter o (suc m) (longest f m (c ∷ s))) (more m (omega arith) (omega arith)) ∙ longest_is f c s n m a (omega arith) e (λ j l k. more j l (omega arith))
    ]

-- what is the same on all that begins with c has the same longest front there
pub longest_same : {A : Type 0} (f g : List ℕ → Option A) (c : ℕ) (s : List ℕ) (m : ℕ) → ((w : List ℕ) → f (c ∷ w) ≡ g (c ∷ w)) → longest f m (c ∷ s) ≡ longest g m (c ∷ s)
unfolding longest
longest_same f g c s zero h = refl
longest_same f g c s (suc m) h = ap (λ o. or_shorter o (suc m) (longest f m (c ∷ s))) (h (take m s)) ∙ ap (or_shorter (g (c ∷ take m s)) (suc m)) (longest_same f g c s m h)

-- the longest front has a character, and no more than there may be
abbrev pub Within : {A : Type 0} → ℕ → Option (A × ℕ) → Type 0
Within m None = Unit {0}
Within m (Some r) = (0 < r.1) × (r.1 ≤ m)

within_more : {A : Type 0} (m : ℕ) (o : Option (A × ℕ)) → Within m o → Within (suc m) o
within_more m None h = tt
within_more m (Some r) h = (h.0, omega (arith, h.1))

within_or : {A : Type 0} (m : ℕ) (a : Option A) (o : Option (A × ℕ)) → Within m o → Within (suc m) (or_shorter a (suc m) o)
within_or m None o h = within_more m o h
within_or m (Some a) o h = (omega arith, omega arith)

pub longest_within : {A : Type 0} (f : List ℕ → Option A) (m : ℕ) (s : List ℕ) → Within m (longest f m s)
unfolding longest
longest_within f zero s = tt
longest_within f (suc m) s = within_or m (f (take (suc m) s)) (longest f m s) (longest_within f m s)

take_step : (p : ℕ → Bool) (x : ℕ) (xs : List ℕ) (b : Bool) → p x ≡ b → list_all p (take (cond b (1 + prefix_len p xs) 0) (x ∷ xs)) ≡ (cond b (list_all p (take (prefix_len p xs) xs)) true)
take_step p x xs true h = let e : 1 + prefix_len p xs ≡ suc (prefix_len p xs) = omega arith in rw (e, h) refl
take_step p x xs false h = refl

cond_true : (b : Bool) → cond b true true ≡ true
cond_true true = refl
cond_true false = refl

-- the first characters that pass do
pub passes : (p : ℕ → Bool) (s : List ℕ) → list_all p (take (prefix_len p s) s) ≡ true
passes p [] = refl
passes p (x ∷ xs) = take_step p x xs (p x) refl ∙ ap (λ b. cond (p x) b true) (passes p xs) ∙ cond_true (p x)

stops_step : (p : ℕ → Bool) (x : ℕ) (xs : List ℕ) (b : Bool) (j : ℕ) → p x ≡ b → (prefix_len p xs < j → list_all p (take j xs) ≡ false) → cond b (1 + prefix_len p xs) 0 < suc j → list_all p (x ∷ take j xs) ≡ false
stops_step p x xs true j h f lt = and_false (p x) (list_all p (take j xs)) (f (omega arith))
stops_step p x xs false j h f lt = rw h refl

-- and no more do
pub stops : (p : ℕ → Bool) (s : List ℕ) (j : ℕ) → prefix_len p s < j → j ≤ length s → list_all p (take j s) ≡ false
stops p s zero lt le = absurd (omega arith)
stops p [] (suc j) lt le = absurd (omega arith)
stops p (x ∷ xs) (suc j) lt le = stops_step p x xs (p x) j refl (λ l. stops p xs j l (omega arith)) lt

pub prefix_within : (p : ℕ → Bool) (s : List ℕ) → prefix_len p s ≤ length s
prefix_within p s = prefix_len-le-length p s

pub taken_some : (s : List ℕ) (j : ℕ) → 0 < j → j ≤ length s → is_empty (take j s) ≡ false
taken_some s zero lt le = absurd (omega arith)
taken_some [] (suc j) lt le = absurd (omega arith)
taken_some (x ∷ xs) (suc j) lt le = refl

-- what is something exactly where all that follows the first character passes
abbrev pub where_all : {A : Type 0} → (ℕ → Bool) → (List ℕ → A) → List ℕ → Option A
where_all p g w = if list_all p w then Some (g w) else None

pub longest_while : {A : Type 0} (f : List ℕ → Option A) (p : ℕ → Bool) (g : List ℕ → A) (c : ℕ) (s : List ℕ) → ((w : List ℕ) → f (c ∷ w) ≡ where_all p g w) → longest f (suc (length s)) (c ∷ s) ≡ Some (g (take (prefix_len p s) s), suc (prefix_len p s))
longest_while f p g c s h =
    let le = prefix_within p s in
    longest_is f c s (prefix_len p s) (suc (length s)) (g (take (prefix_len p s) s)) (omega (arith, le))
    (h (take (prefix_len p s) s) ∙ ap (λ b. if b then Some (g (take (prefix_len p s) s)) else None) (passes p s))
    (λ j lt k. h (take j s) ∙ ap (λ b. if b then Some (g (take j s)) else None) (stops p s j lt (omega arith)))

pub or_else_none : {A : Type 0} (o : Option A) → or_else o None ≡ o
or_else_none None = refl
or_else_none (Some a) = refl

pub begins_take : (p : ℕ → Bool) (s : List ℕ) (j : ℕ) → begins p (take (suc j) s) ≡ begins p s
begins_take p [] j = refl
begins_take p (c ∷ s) j = refl
