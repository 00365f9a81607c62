-- Tests of units, and the classes of those of ASCII.
use Rattle.std.proofs.Common.{◌≡◌, ◌⊎◌, inl, inr, ℕ, zero, suc, ◌<◌, ◌≤◌, Bool, true, false, ◌&&◌, ◌||◌, [], ◌∷◌, ◌++◌, refl, sym, ap, ◌∙◌, nat_eq, nat_lt, arith}
use Rattle.std.specs.List.{list_all}
use Rattle.std.proofs.lemmas.Bool.Decides.{nat_tests}
use Rattle.std.proofs.lemmas.List.Folds.{list_all-append}
use Rattle.css_grammar.specs.Characters.{Class, other, class}
use Rattle.css_grammar.specs.Sheets.{Text}

pub and_left : (a b : Bool) → (a && b) ≡ true → a ≡ true
and_left true b e = refl
and_left false b e = absurd cc

pub and_right : (a b : Bool) → (a && b) ≡ true → b ≡ true
and_right true b e = e
and_right false b e = absurd cc

pub and_both : (a b : Bool) → a ≡ true → b ≡ true → (a && b) ≡ true
and_both a b e f = ap (λ x. x && b) e ∙ f

pub or_parts : (a b : Bool) → (a || b) ≡ true → (a ≡ true) ⊎ (b ≡ true)
or_parts true b e = inl refl
or_parts false b e = inr e

abbrev pub is_ascii : ℕ → Bool
is_ascii c = nat_lt c 128

abbrev pub all_ascii : Text → Bool
all_ascii t = list_all is_ascii t

pub all_both : (p : ℕ → Bool) (s t : Text) → list_all p s ≡ true → list_all p t ≡ true → list_all p (s ++ t) ≡ true
all_both p s t h k = list_all-append p s t ∙ and_both (list_all p s) (list_all p t) h k

pub all_are : (p q : ℕ → Bool) → ((c : ℕ) → p c ≡ true → q c ≡ true) → (s : Text) → list_all p s ≡ true → list_all q s ≡ true
all_are p q g [] e = refl
all_are p q g (c ∷ s) e = and_both (q c) (list_all q s) (g c (and_left (p c) (list_all p s) e)) (all_are p q g s (and_right (p c) (list_all p s) e))

large_class : (c : ℕ) → 128 ≤ c → class c ≡ other
unfolding class
large_class c h = grind (arith, nat_tests)

abbrev pub is_other : Class → Bool
is_other other = true
is_other _ = false

pub ascii_class : (c : ℕ) (k : Class) → class c ≡ k → is_other k ≡ false → is_ascii c ≡ true
ascii_class c k e f = by_test (is_ascii c) refl
  where
    by_test : (b : Bool) → is_ascii c ≡ b → b ≡ true
    by_test true h = refl
    by_test false h = let le : 128 ≤ c = grind (arith, nat_tests) in absurd (let o : is_other k ≡ true = ap is_other (sym e ∙ large_class c le) in cc)

-- what holds of all numbers below n
abbrev pub below : ℕ → (ℕ → Bool) → Bool
below zero p = true
below (suc n) p = p n && below n p

pub below_is : (n : ℕ) (p : ℕ → Bool) (c : ℕ) → below n p ≡ true → c < n → p c ≡ true
below_is zero p c e lt = absurd (omega (arith, lt))
below_is (suc n) p c e lt = by_test (λ f. below_is n p c (and_right (p n) (below n p) e) f) (nat_eq c n) refl
  where
    by_test : (c < n → p c ≡ true) → (b : Bool) → nat_eq c n ≡ b → p c ≡ true
    by_test r true h = let f : c ≡ n = grind (arith, nat_tests) in ap p f ∙ and_left (p n) (below n p) e
    by_test r false h = r (let f : c < n = grind (arith, nat_tests) in f)
