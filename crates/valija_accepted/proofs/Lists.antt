-- Truth values, lists that hold nothing, and names among others.
use Rattle.std.proofs.Common.{◌≡◌, ℕ, Bool, true, false, List, [], ◌∷◌, ◌++◌, cond, refl, sym, ap, ◌∙◌, subst}
use Rattle.std.specs.Prelude.{◌||◌, not}
use Rattle.std.specs.Cmp.Lexicographic.{same_text}
use Rattle.std.proofs.lemmas.Slice.Eq.{bytes_eq-Decides}
use Rattle.std.proofs.lemmas.List.Folds.{list_any-append}
use Rattle.caja_units.specs.Units.{same_units}
use Rattle.es3_tree.specs.Placed.{Word}
use Rattle.cajita_names.specs.Rules.{is_among}
use Rattle.cajita_names.specs.Once.{once_after}
use Rattle.cajita_rules.specs.Faults.{word_fault}

-- ---- truth values

pub never : {A : Type 0} → false ≡ true → A
never e = absurd cc

pub not_true : (b : Bool) → not b ≡ true → b ≡ false
not_true true e = never e
not_true false e = refl

pub not_false : (b : Bool) → not b ≡ false → b ≡ true
not_false true e = refl
not_false false e = never (sym e)

pub or_left : (a b : Bool) → (a || b) ≡ false → a ≡ false
or_left true b e = never (sym e)
or_left false b e = refl

pub or_right : (a b : Bool) → (a || b) ≡ false → b ≡ false
or_right true b e = never (sym e)
or_right false b e = e

pub neither : (a b : Bool) → a ≡ false → b ≡ false → (a || b) ≡ false
neither true b p q = never (sym p)
neither false b p q = q

pub left_there : (a b : Bool) → a ≡ true → (a || b) ≡ true
left_there true b e = refl
left_there false b e = never e

pub right_there : (a b : Bool) → b ≡ true → (a || b) ≡ true
right_there true b e = refl
right_there false b e = e

pub either : {A : Type 0} (a b : Bool) → (a || b) ≡ true → (a ≡ true → A) → (b ≡ true → A) → A
either true b e f g = f refl
either false b e f g = g e

-- what is refuted is not so
pub refuted : (b : Bool) → (b ≡ true → false ≡ true) → b ≡ false
refuted true f = sym (f refl)
refuted false f = refl

pub pick_front : {A : Type 0} (b : Bool) (x y : A) → b ≡ true → cond b x y ≡ x
pick_front true x y e = refl
pick_front false x y e = never e

pub pick_back : {A : Type 0} (b : Bool) (x y : A) → b ≡ false → cond b x y ≡ y
pick_back true x y e = never (sym e)
pick_back false x y e = refl

-- ---- lists that hold nothing

pub two : {A : Type 0} {fs gs : List A} → fs ≡ [] → gs ≡ [] → fs ++ gs ≡ []
two {gs = gs} p q = ap (λ l. l ++ gs) p ∙ q

pub no_front : {A : Type 0} (fs gs : List A) → fs ++ gs ≡ [] → fs ≡ []
no_front [] gs e = refl
no_front (f ∷ fs) gs e = absurd cc

pub no_back : {A : Type 0} (fs gs : List A) → fs ++ gs ≡ [] → gs ≡ []
no_back [] gs e = e
no_back (f ∷ fs) gs e = absurd cc

pub something : {A B : Type 0} (f : A) (fs : List A) → f ∷ fs ≡ [] → B
something f fs e = absurd cc

-- ---- a word that breaks no rule

pub no_fault : (rule : ℕ) (x : Word) (b : Bool) → b ≡ false → word_fault rule x b ≡ []
no_fault rule x true e = never (sym e)
no_fault rule x false e = refl

pub none_there : (rule : ℕ) (x : Word) (b : Bool) → word_fault rule x b ≡ [] → b ≡ false
none_there rule x true e = absurd cc
none_there rule x false e = refl

-- ---- names

pub same_self : (x : List ℕ) → same_units x x ≡ true
same_self x = (bytes_eq-Decides x x).1 refl

-- a name that is the same is as good
pub as_good : (P : List ℕ → Type 0) (k x : List ℕ) → same_units k x ≡ true → P x → P k
as_good P k x same p = subst P (sym (same_text k x (sym same))) p

pub among_front : (xs ys : List (List ℕ)) (k : List ℕ) → is_among xs k ≡ true → is_among (xs ++ ys) k ≡ true
among_front xs ys k there = list_any-append (same_units k) xs ys ∙ left_there (is_among xs k) (is_among ys k) there

pub among_back : (xs ys : List (List ℕ)) (k : List ℕ) → is_among ys k ≡ true → is_among (xs ++ ys) k ≡ true
among_back xs ys k there = list_any-append (same_units k) xs ys ∙ right_there (is_among xs k) (is_among ys k) there

pub among_one_of : {A : Type 0} (xs ys : List (List ℕ)) (k : List ℕ) → is_among (xs ++ ys) k ≡ true → (is_among xs k ≡ true → A) → (is_among ys k ≡ true → A) → A
among_one_of xs ys k there f g = either (is_among xs k) (is_among ys k) (sym (list_any-append (same_units k) xs ys) ∙ there) f g

-- each name once is the same names

or_false : (a : Bool) → (a || false) ≡ a
or_false true = refl
or_false false = refl

or_true : (b : Bool) → true ≡ (b || true)
or_true true = refl
or_true false = refl

or_assoc : (a b d : Bool) → ((a || b) || d) ≡ (a || (b || d))
or_assoc true b d = refl
or_assoc false b d = refl

absorbed : (a b : Bool) → (a ≡ true → b ≡ true) → (b || a) ≡ b
absorbed true b f = sym (or_true b) ∙ sym (f refl)
absorbed false b f = or_false b

pub once_same : (seen xs : List (List ℕ)) (k : List ℕ) → is_among (once_after seen xs) k ≡ (is_among seen k || is_among xs k)
once_same seen [] k = sym (or_false (is_among seen k))
once_same seen (x ∷ xs) k =
    let there : is_among seen x ≡ true → same_units k x ≡ true → is_among seen k ≡ true = λ seen_x same. as_good (λ z. is_among seen z ≡ true) k x same seen_x in
    let cases = elim (is_among seen x) as (λ b. is_among seen x ≡ b → is_among (once_after (cond b seen (seen ++ x ∷ [])) xs) k ≡ (is_among seen k || (same_units k x || is_among xs k))) [
      | true ↦ λ is. once_same seen xs k ∙ ap (λ b. b || is_among xs k) (sym (absorbed (same_units k x) (is_among seen k) (there is))) ∙ or_assoc (is_among seen k) (same_units k x) (is_among xs k)
      | false ↦ λ is. once_same (seen ++ x ∷ []) xs k ∙ ap (λ b. b || is_among xs k) (list_any-append (same_units k) seen (x ∷ []) ∙ ap (λ b. is_among seen k || b) (or_false (same_units k x))) ∙ or_assoc (is_among seen k) (same_units k x) (is_among xs k)
    ] in cases refl
