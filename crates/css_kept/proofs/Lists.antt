-- What holds of each item of a list, and of what stands first in one.
use Rattle.std.proofs.Common.{◌≡◌, ℕ, suc, ◌+◌, Bool, true, false, ◌&&◌, cond, List, [], ◌∷◌, ◌++◌, refl, ap, ◌∙◌, take, arith}
use Rattle.std.specs.List.{list_all, flat_map, prefix_len}
use Rattle.css_grammar.specs.Sheets.{Text, Declaration, Rule}
use Rattle.css_kept.specs.Kept.{filled}
use Rattle.css_kept.specs.OfTable.{Each}

pub each_append : {X : Type 0} (P : X → Type 0) (xs ys : List X) → Each P xs → Each P ys → Each P (xs ++ ys)
each_append P [] ys h k = k
each_append P (x ∷ xs) ys h k = (h.0, each_append P xs ys h.1 k)

pub each_more : {X : Type 0} (P : X → Type 0) (xs : List X) (x : X) → Each P xs → P x → Each P (xs ++ x ∷ [])
each_more P xs x h k = each_append P xs (x ∷ []) h (k, tt)

pub each_both : {X : Type 0} (P Q : X → Type 0) (xs : List X) → Each P xs → Each Q xs → Each (λ x. P x × Q x) xs
each_both P Q [] h k = tt
each_both P Q (x ∷ xs) h k = ((h.0, k.0), each_both P Q xs h.1 k.1)

-- of what f gives for each
pub each_flat : {X Y : Type 0} (P : Y → Type 0) (f : X → List Y) → ((x : X) → Each P (f x)) → (xs : List X) → Each P (flat_map f xs)
each_flat P f g [] = tt
each_flat P f g (x ∷ xs) = each_append P (f x) (flat_map f xs) (g x) (each_flat P f g xs)

-- and where Q holds of each
pub each_flat_where : {X Y : Type 0} (Q : X → Type 0) (P : Y → Type 0) (f : X → List Y) → ((x : X) → Q x → Each P (f x)) → (xs : List X) → Each Q xs → Each P (flat_map f xs)
each_flat_where Q P f g [] h = tt
each_flat_where Q P f g (x ∷ xs) h = each_append P (f x) (flat_map f xs) (g x h.0) (each_flat_where Q P f g xs h.1)

-- of a rule's selectors and of its declarations
abbrev pub Both : (Text → Type 0) → (Declaration → Type 0) → Rule → Type 0
Both S D r = Each S r.selectors × Each D r.declarations

pub each_filled : (S : Text → Type 0) (D : Declaration → Type 0) (ss : List Text) (ds : List Declaration) → Each S ss → Each D ds → Each (Both S D) (filled ss ds)
each_filled S D [] ds h k = tt
each_filled S D (s ∷ ss) [] h k = tt
each_filled S D (s ∷ ss) (d ∷ ds) h k = ((h, k), tt)

-- what stands first passes
pub front_all : (p : ℕ → Bool) (s : Text) → list_all p (take (prefix_len p s) s) ≡ true
front_all p [] = refl
front_all p (x ∷ xs) = by_test (front_all p xs) (p x) refl
  where
    by_test : list_all p (take (prefix_len p xs) xs) ≡ true → (b : Bool) → p x ≡ b → list_all p (take (cond b (1 + prefix_len p xs) 0) (x ∷ xs)) ≡ true
    by_test r true e = let k : 1 + prefix_len p xs ≡ suc (prefix_len p xs) = omega arith in rw k (ap (λ b. b && list_all p (take (prefix_len p xs) xs)) e ∙ r)
    by_test r false e = refl
