-- What holds of the characters at the front that pass a test.
use Rattle.std.proofs.Common.{◌≡◌, ℕ, suc, ◌+◌, ◌-◌, Bool, true, false, cond, List, [], ◌∷◌, refl, sym, ap, ◌∙◌, arith, length, take, drop, get_or}
use Rattle.std.specs.List.{list_all, prefix_len, All}
use Rattle.std.proofs.Math.Seq.{take-length}
use Rattle.std.proofs.lemmas.List.{length-drop}
use Rattle.std.proofs.lemmas.Bool.Decides.{nat_tests}
use Rattle.std.proofs.lemmas.List.Sums.{AllPass-from_list_all}
use Rattle.html_grammar.specs.Characters.{is_digit, is_hex}

-- what is left of a text, as a slice to its end has it
pub rest_is : (n : ℕ) (s : List ℕ) → take (length s - n) (drop n s) ≡ drop n s
rest_is n s = ap (λ k. take k (drop n s)) (sym (length-drop n s)) ∙ take-length (drop n s)

take_step : (p : ℕ → Bool) (x : ℕ) (xs : List ℕ) (b : Bool) → p x ≡ b → list_all p (take (cond b (1 + prefix_len p xs) 0) (x ∷ xs)) ≡ (cond b (list_all p (take (prefix_len p xs) xs)) true)
take_step p x xs true h = let e : 1 + prefix_len p xs ≡ suc (prefix_len p xs) = omega arith in rw (e, h) refl
take_step p x xs false h = refl

cond_true : (b : Bool) → cond b true true ≡ true
cond_true true = refl
cond_true false = refl

passes : (p : ℕ → Bool) (s : List ℕ) → list_all p (take (prefix_len p s) s) ≡ true
passes p [] = refl
passes p (x ∷ xs) = take_step p x xs (p x) refl ∙ ap (λ b. cond (p x) b true) (passes p xs) ∙ cond_true (p x)

pub front_all : (p q : ℕ → Bool) (s : List ℕ) (n : ℕ) → ((c : ℕ) → p c ≡ true → q c ≡ true) → n ≡ prefix_len p s → All (λ c. q c ≡ true) (take n s)
front_all p q s n f e =
    let a : list_all p (take n s) ≡ true = ap (λ j. list_all p (take j s)) e ∙ passes p s in
    λ k d lt. f (get_or (take n s) k d) (AllPass-from_list_all p (take n s) a k d lt)

pub digit_is_hex : (c : ℕ) → is_digit c ≡ true → is_hex c ≡ true
digit_is_hex c h = grind (arith, nat_tests)
