-- What is kept from left to right, behind a text that may go on, is what is kept.
use Rattle.std.proofs.Common.{◌≡◌, ◌≢◌, ℕ, List, [], ◌∷◌, ◌++◌, Option, None, Some, true, false, refl, sym, ap, ◌∙◌, arith, length, append_assoc}
use Rattle.std.specs.Prelude.{if◌then◌else◌}
use Rattle.html_grammar.specs.Tags.{Attr}
use Rattle.html_grammar.specs.Trees.{Tree, one, many, text_node, element, none, more, snoc, append}
use Rattle.html_grammar.proofs.Pieces.{append_none, append_snoc}
use Rattle.html_grammar.specs.Tables.{is_in}
use Rattle.html_kept.specs.Table.{Answers, dropped, listed, attr_value}
use Rattle.html_kept.specs.Kept.{with_value, kept_attrs, joined, kept, cleaned}

append_nil : (xs : List ℕ) → xs ++ [] ≡ xs
append_nil [] = refl
append_nil (x ∷ xs) = ap (λ (ys : List ℕ). x ∷ ys) (append_nil xs)

-- two texts, one behind the other
joined_both : (us vs : List ℕ) (r : Tree many) → joined (us ++ vs) r ≡ joined us (joined vs r)
joined_both [] vs r = refl
joined_both (c ∷ us) [] r = ap (λ (x : List ℕ). joined (c ∷ x) r) (append_nil us)
joined_both (c ∷ us) (d ∷ vs) none = refl
joined_both (c ∷ us) (d ∷ vs) (more (text_node ws) r) = ap (λ (x : List ℕ). more (text_node (c ∷ x)) r) (append_assoc us (d ∷ vs) ws)
joined_both (c ∷ us) (d ∷ vs) (more (element n xs ts) r) = refl

pub text_kept : (h : Tree many) (us vs ws : List ℕ) (r : Tree many) → ws ≡ us ++ vs → append h (joined ws r) ≡ append h (joined us (joined vs r))
text_kept h us vs ws r e = ap (λ (x : List ℕ). append h (joined x r)) e ∙ ap (append h) (joined_both us vs r)

snoc_is : (h : Tree many) (x : Tree one) → snoc h x ≡ append h (more x none)
snoc_is h x = sym (append_none (snoc h x)) ∙ append_snoc h none x

some_joined : (us : List ℕ) → length us ≢ 0 → joined us none ≡ more (text_node us) none
some_joined [] e = absurd (e refl)
some_joined (c ∷ us) e = refl

no_units : (us : List ℕ) → length us ≡ 0 → us ≡ []
no_units [] e = refl
no_units (c ∷ us) e = absurd (omega (arith, e))

pub nothing_ended : (h : Tree many) (us : List ℕ) → length us ≡ 0 → h ≡ append h (joined us none)
nothing_ended h us e = sym (ap (λ (x : List ℕ). append h (joined x none)) (no_units us e) ∙ append_none h)

pub nothing_left : (us : List ℕ) → length us ≡ 0 → us ≡ []
nothing_left us e = no_units us e

pub text_ended : (h g : Tree many) (us vs : List ℕ) → length us ≢ 0 → vs ≡ us → g ≡ snoc h (text_node vs) → g ≡ append h (joined us none)
text_ended h g us vs e f i = i ∙ ap (λ (x : List ℕ). snoc h (text_node x)) f ∙ snoc_is h (text_node us) ∙ ap (append h) (sym (some_joined us e))

append_three : (h g r : Tree many) → append (append h g) r ≡ append h (append g r)
append_three none g r = refl
append_three (more x h) g r = ap (more x) (append_three h g r)

joined_before : (us n : List ℕ) (xs : List Attr) (ts r : Tree many) → append (joined us none) (more (element n xs ts) r) ≡ joined us (more (element n xs ts) r)
joined_before [] n xs ts r = refl
joined_before (c ∷ us) n xs ts r = refl

-- an element behind a text that has ended
pub element_kept : (h g k : Tree many) (us vs n : List ℕ) (xs : List Attr) (ts r : Tree many) → g ≡ append h (joined us none) → k ≡ snoc g (element n xs ts) → vs ≡ [] → append k (joined vs r) ≡ append h (joined us (more (element n xs ts) r))
element_kept h g k us vs n xs ts r e f i =
    ap (λ (x : List ℕ). append k (joined x r)) i ∙ ap (λ k. append k r) f ∙ append_snoc g r (element n xs ts) ∙ ap (λ g. append g (more (element n xs ts) r)) e
    ∙ append_three h (joined us none) (more (element n xs ts) r) ∙ ap (append h) (joined_before us n xs ts r)

-- ---- attributes

pub with_split : (x : List ℕ) (o : Option (List ℕ)) (ys : List Attr) → with_value x o ys ≡ with_value x o [] ++ ys
with_split x None ys = refl
with_split x (Some us) ys = refl

append_assoc_attrs : (xs ys zs : List Attr) → (xs ++ ys) ++ zs ≡ xs ++ (ys ++ zs)
append_assoc_attrs xs ys zs = append_assoc xs ys zs

pub attr_kept : (a : Answers) (n : List ℕ) (k j : List Attr) (x : Attr) (o : Option (List ℕ)) (xs all : List Attr) → j ≡ k ++ with_value x.name o [] → o ≡ attr_value a n x.name x.value → k ++ kept_attrs a n (x ∷ xs) ≡ all
    → j ++ kept_attrs a n xs ≡ all
attr_kept a n k j x o xs all e f h =
    ap (λ (l : List Attr). l ++ kept_attrs a n xs) e ∙ append_assoc_attrs k (with_value x.name o []) (kept_attrs a n xs)
    ∙ ap (λ (l : List Attr). k ++ l) (sym (with_split x.name o (kept_attrs a n xs)) ∙ ap (λ o. with_value x.name o (kept_attrs a n xs)) f) ∙ h

-- ---- elements

pub element_dropped : (a : Answers) (n : List ℕ) (xs : List Attr) (ts r : Tree many) → is_in dropped n ≡ true → kept a one (element n xs ts) r ≡ r
element_dropped a n xs ts r e = ap (λ b. if b then r else if is_in listed n then more (element n (kept_attrs a n xs) (kept a many ts none)) r else kept a many ts r) e

pub element_unlisted : (a : Answers) (n : List ℕ) (xs : List Attr) (ts r : Tree many) → is_in dropped n ≡ false → is_in listed n ≡ false → kept a one (element n xs ts) r ≡ kept a many ts r
element_unlisted a n xs ts r e f =
    ap (λ b. if b then r else if is_in listed n then more (element n (kept_attrs a n xs) (kept a many ts none)) r else kept a many ts r) e
    ∙ ap (λ b. if b then more (element n (kept_attrs a n xs) (kept a many ts none)) r else kept a many ts r) f

pub element_listed : (a : Answers) (n : List ℕ) (xs : List Attr) (ts r : Tree many) → is_in dropped n ≡ false → is_in listed n ≡ true → kept a one (element n xs ts) r ≡ more (element n (kept_attrs a n xs) (cleaned a ts)) r
element_listed a n xs ts r e f =
    ap (λ b. if b then r else if is_in listed n then more (element n (kept_attrs a n xs) (kept a many ts none)) r else kept a many ts r) e
    ∙ ap (λ b. if b then more (element n (kept_attrs a n xs) (kept a many ts none)) r else kept a many ts r) f
