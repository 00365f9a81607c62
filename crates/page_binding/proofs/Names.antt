-- Names among others.
use Rattle.std.proofs.Common.{◌≡◌, ℕ, Bool, true, false, ◌||◌, List, [], ◌∷◌, ◌++◌, refl, sym, ap, ◌∙◌, subst, inl, inr}
use Rattle.std.specs.Prelude.{◌⊎◌}
use Rattle.std.specs.List.{list_any}
use Rattle.std.proofs.lemmas.Bool.{true≢false, or_parts, or_cases, or_left, or_right}
use Rattle.std.proofs.lemmas.List.Folds.{list_any-append}
use Rattle.caja_units.specs.Units.{same_units}
use Rattle.caja_units.proofs.Texts.{same_units-equal, same_units-from_equal}
use Rattle.es3_tokens.specs.Tokens.{is_one_of}

-- functions that agree are equal
pub same_functions : {A B : Type 0} (f g : A → B) → ((x : A) → f x ≡ g x) → f ≡ g
same_functions f g h = λ i. λ x. h x i

pub same_tests : (a b : Bool) → (a ≡ true → b ≡ true) → (b ≡ true → a ≡ true) → a ≡ b
same_tests true b f g = sym (f refl)
same_tests false true f g = g refl
same_tests false false f g = refl

pub same_both : (x y : List ℕ) → same_units x y ≡ same_units y x
same_both x y =
    same_tests (same_units x y) (same_units y x) (λ h. same_units-from_equal y x (sym (same_units-equal x y h)))
    (λ h. same_units-from_equal x y (sym (same_units-equal y x h)))

pub itself : (x : List ℕ) → same_units x x ≡ true
itself x = same_units-from_equal x x refl

pub or_false : (a : Bool) → (a || false) ≡ a
or_false true = refl
or_false false = refl

pub or_swap : (a b : Bool) → (a || b) ≡ (b || a)
or_swap true true = refl
or_swap true false = refl
or_swap false true = refl
or_swap false false = refl

exchange : (a b c d : Bool) → ((a || b) || (c || d)) ≡ ((a || c) || (b || d))
exchange true b c d = refl
exchange false true true d = refl
exchange false true false d = refl
exchange false false true d = refl
exchange false false false d = refl

pub any_or : (p q : List ℕ → Bool) (xs : List (List ℕ)) → list_any (λ x. p x || q x) xs ≡ (list_any p xs || list_any q xs)
any_or p q [] = refl
any_or p q (x ∷ xs) = ap (λ b. (p x || q x) || b) (any_or p q xs) ∙ exchange (p x) (q x) (list_any p xs) (list_any q xs)

pub any_same : (p q : List ℕ → Bool) → ((x : List ℕ) → p x ≡ q x) → (xs : List (List ℕ)) → list_any p xs ≡ list_any q xs
any_same p q h xs = ap (λ f. list_any f xs) (same_functions p q h)

any_nothing : (xs : List (List ℕ)) → list_any (λ (x : List ℕ). false) xs ≡ false
any_nothing [] = refl
any_nothing (x ∷ xs) = any_nothing xs

-- some of the one are among the other, and the other way round
pub any_swap : (xs ys : List (List ℕ)) → list_any (λ x. is_one_of x ys) xs ≡ list_any (λ y. is_one_of y xs) ys
any_swap [] ys = sym (any_nothing ys)
any_swap (x ∷ xs) ys =
    ap (λ b. is_one_of x ys || b) (any_swap xs ys)
    ∙ ap (λ b. b || list_any (λ y. is_one_of y xs) ys) (any_same (same_units x) (λ y. same_units y x) (same_both x) ys)
    ∙ sym (any_or (λ y. same_units y x) (λ y. is_one_of y xs) ys)

-- one more at the end
pub one_of-push : (x n : List ℕ) (xs : List (List ℕ)) → is_one_of x (xs ++ n ∷ []) ≡ (is_one_of x xs || same_units x n)
one_of-push x n xs = list_any-append (same_units x) xs (n ∷ []) ∙ ap (λ b. is_one_of x xs || b) (or_false (same_units x n))

pub one_of-left : (x : List ℕ) (xs ys : List (List ℕ)) → is_one_of x xs ≡ true → is_one_of x (xs ++ ys) ≡ true
one_of-left x xs ys h = list_any-append (same_units x) xs ys ∙ or_left (is_one_of x xs) (is_one_of x ys) h

pub either_way : {A B C : Type 0} → A ⊎ B → (A → C) → (B → C) → C
either_way (inl a) f g = f a
either_way (inr b) f g = g b

-- where none passes, one among them doesn't
pub none_at : (p : List ℕ → Bool) (e : List ℕ) (xs : List (List ℕ)) → list_any p xs ≡ false → is_one_of e xs ≡ true → p e ≡ false
none_at p e [] none here = absurd (true≢false (sym here))
none_at p e (x ∷ xs) none here =
    let parts = or_parts (p x) (list_any p xs) none in
    either_way (or_cases (same_units e x) (is_one_of e xs) here) (λ same. subst (λ y. p y ≡ false) (sym (same_units-equal e x same)) parts.0) (none_at p e xs parts.1)

-- where none of the one is among the other, none passes
pub none_among : (ids xs : List (List ℕ)) → ((b : List ℕ) → is_one_of b xs ≡ true → is_one_of b ids ≡ false) → list_any (λ b. is_one_of b ids) xs ≡ false
none_among ids [] h = refl
none_among ids (x ∷ xs) h =
    ap (λ b. b || list_any (λ b. is_one_of b ids) xs) (h x (or_left (same_units x x) (is_one_of x xs) (itself x)))
    ∙ none_among ids xs (λ b m. h b (or_right (same_units b x) (is_one_of b xs) m))
