-- Laws of what stands in a tag, as a loop over its parts uses them.
use Rattle.std.proofs.Common.{◌≡◌, ℕ, zero, suc, ◌+◌, ◌-◌, ◌≤◌, ◌<◌, List, [], ◌∷◌, ◌++◌, Option, None, Some, refl, sym, ap, ◌∙◌, arith, length, drop, append_assoc, append-nil, drop-drop}
use Rattle.std.proofs.lemmas.List.{drop_all, length-drop}
use Rattle.html_grammar.specs.Tags.{Attr, Fault, bad_attr, Kind, Part, close, gap, attr, wrong, unclosed, part, Inside, closed, endless, or_later, before, attr_fault, goes, inside}

or_three : (f g h : Option Fault) → or_later f (or_later g h) ≡ or_later (or_later f g) h
or_three None g h = refl
or_three (Some x) g h = refl

before_before : (xs ys : List Attr) (f g : Option Fault) (z : Inside) → before xs f (before ys g z) ≡ before (xs ++ ys) (or_later f g) z
before_before xs ys f g (closed bs h n) = ap (λ (l : List Attr). closed l (or_later f (or_later g h)) n) (sym (append_assoc xs ys bs)) ∙ ap (λ k. closed ((xs ++ ys) ++ bs) k n) (or_three f g h)
before_before xs ys f g endless = refl

or_none : (f : Option Fault) → or_later f None ≡ f
or_none None = refl
or_none (Some x) = refl

pub inside_pass : (t : Kind) (seen : List (List ℕ)) (n i : ℕ) (s : List ℕ) → n ≤ length s → inside t seen n i s ≡ inside t seen 0 (i + n) (drop n s)
unfolding inside
inside_pass t seen zero i s le = ap (λ j. inside t seen 0 j s) (let z : i ≡ i + 0 = omega arith in z)
inside_pass t seen (suc n) i [] le = absurd (omega arith)
inside_pass t seen (suc n) i (c ∷ s) le = inside_pass t seen n (i + 1) s (omega arith) ∙ ap (λ j. inside t seen 0 j (drop n s)) (let z : i + 1 + n ≡ i + suc n = omega arith in z)

-- a part, and what follows it
stepped : (t : Kind) (seen : List (List ℕ)) (i : ℕ) (s : List ℕ) (x : Part) → 0 < length s → part t s ≡ x → (c : ℕ) × (r : List ℕ) × (s ≡ c ∷ r) × (inside t seen 0 i s ≡ goes t (λ seen n. inside t seen n (i + 1) r) seen i x)
unfolding inside
stepped t seen i [] x lt e = absurd (omega arith)
stepped t seen i (c ∷ r) x lt e = (c, r, refl, ap (goes t (λ seen n. inside t seen n (i + 1) r) seen i) e)

passed : (t : Kind) (seen : List (List ℕ)) (c n i : ℕ) (r s : List ℕ) → s ≡ c ∷ r → 0 < n → n ≤ length s → inside t seen (n - 1) (i + 1) r ≡ inside t seen 0 (i + n) (drop n s)
passed t seen c n i r s e pos le =
    let l : n - 1 ≤ length r = omega (arith, ap length e) in
    let m : n ≡ suc (n - 1) = omega arith in
    inside_pass t seen (n - 1) (i + 1) r l ∙ ap (λ j. inside t seen 0 j (drop (n - 1) r)) (let z : i + 1 + (n - 1) ≡ i + n = omega arith in z) ∙ ap (inside t seen 0 (i + n)) (sym (ap (drop n) e ∙ ap (λ j. drop j (c ∷ r)) m))

left : (s : List ℕ) (j : ℕ) → j < length s → 0 < length (drop j s)
left s j lt = omega (arith, length-drop j s)

pub loop_start : (x : Inside) → before [] None x ≡ x
loop_start (closed bs g n) = refl
loop_start endless = refl

pub loop_close : (t : Kind) (seen : List (List ℕ)) (xs : List Attr) (f : Option Fault) (i j n : ℕ) (s : List ℕ) (a : Inside) → j < length s → part t (drop j s) ≡ close n → before xs f (inside t seen 0 i (drop j s)) ≡ a → closed xs f (i + n) ≡ a
loop_close t seen xs f i j n s a lt e h =
    let y = stepped t seen i (drop j s) (close n) (left s j lt) e in
    ap (λ (l : List Attr). closed l f (i + n)) (sym (append-nil xs)) ∙ ap (λ g. closed (xs ++ []) g (i + n)) (sym (or_none f)) ∙ sym (ap (before xs f) y.3) ∙ h

pub going : (t : Kind) (seen : List (List ℕ)) (i j : ℕ) (s : List ℕ) (x : Part) (xs : List Attr) (g : Option Fault) (n : ℕ) (more : List (List ℕ)) → j < length s → part t (drop j s) ≡ x → 0 < n → n ≤ length (drop j s)
    → ((f : List (List ℕ) → ℕ → Inside) → goes t f seen i x ≡ before xs g (f more (n - 1))) → inside t seen 0 i (drop j s) ≡ before xs g (inside t more 0 (i + n) (drop (j + n) s))
going t seen i j s x xs g n more lt e pos le is =
    let y = stepped t seen i (drop j s) x (left s j lt) e in
    y.3 ∙ is (λ seen n. inside t seen n (i + 1) y.1) ∙ ap (before xs g) (passed t more y.0 n i y.1 (drop j s) y.2 pos le ∙ ap (inside t more 0 (i + n)) (drop-drop n j s))

pub loop_attr : (t : Kind) (seen : List (List ℕ)) (xs : List Attr) (f : Option Fault) (i j n : ℕ) (s : List ℕ) (x : Attr) (u : Option ℕ) (a : Inside) → j < length s → part t (drop j s) ≡ attr x u n → 0 < n → n ≤ length (drop j s)
    → before xs f (inside t seen 0 i (drop j s)) ≡ a → before (xs ++ x ∷ []) (or_later f (attr_fault t seen i x u)) (inside t (seen ++ x.name ∷ []) 0 (i + n) (drop (j + n) s)) ≡ a
loop_attr t seen xs f i j n s x u a lt e pos le h =
    sym (before_before xs (x ∷ []) f (attr_fault t seen i x u) (inside t (seen ++ x.name ∷ []) 0 (i + n) (drop (j + n) s)))
    ∙ ap (before xs f) (sym (going t seen i j s (attr x u n) (x ∷ []) (attr_fault t seen i x u) n (seen ++ x.name ∷ []) lt e pos le (λ f. refl))) ∙ h

pub loop_wrong : (t : Kind) (seen : List (List ℕ)) (xs : List Attr) (f : Option Fault) (i j : ℕ) (s : List ℕ) (a : Inside) → j < length s → part t (drop j s) ≡ wrong
    → before xs f (inside t seen 0 i (drop j s)) ≡ a → before xs (or_later f (Some (bad_attr, i))) (inside t seen 0 (i + 1) (drop (j + 1) s)) ≡ a
loop_wrong t seen xs f i j s a lt e h =
    ap (λ (l : List Attr). before l (or_later f (Some (bad_attr, i))) (inside t seen 0 (i + 1) (drop (j + 1) s))) (sym (append-nil xs))
    ∙ sym (before_before xs [] f (Some (bad_attr, i)) (inside t seen 0 (i + 1) (drop (j + 1) s)))
    ∙ ap (before xs f) (sym (going t seen i j s wrong [] (Some (bad_attr, i)) 1 seen lt e (omega arith) (left s j lt) (λ f. refl))) ∙ h

pub loop_gap : (t : Kind) (seen : List (List ℕ)) (xs : List Attr) (f : Option Fault) (i j : ℕ) (s : List ℕ) (a : Inside) → j < length s → part t (drop j s) ≡ gap
    → before xs f (inside t seen 0 i (drop j s)) ≡ a → before xs f (inside t seen 0 (i + 1) (drop (j + 1) s)) ≡ a
loop_gap t seen xs f i j s a lt e h =
    ap (before xs f) (sym (going t seen i j s gap [] None 1 seen lt e (omega arith) (left s j lt) (λ f. sym (loop_start (f seen 0))) ∙ loop_start (inside t seen 0 (i + 1) (drop (j + 1) s)))) ∙ h

pub loop_unclosed : (t : Kind) (seen : List (List ℕ)) (xs : List Attr) (f : Option Fault) (i j : ℕ) (s : List ℕ) (a : Inside) → j < length s → part t (drop j s) ≡ unclosed → before xs f (inside t seen 0 i (drop j s)) ≡ a → endless ≡ a
loop_unclosed t seen xs f i j s a lt e h = let y = stepped t seen i (drop j s) unclosed (left s j lt) e in sym (ap (before xs f) y.3) ∙ h

pub loop_end : (t : Kind) (seen : List (List ℕ)) (xs : List Attr) (f : Option Fault) (i j : ℕ) (s : List ℕ) (a : Inside) → length s ≤ j → before xs f (inside t seen 0 i (drop j s)) ≡ a → endless ≡ a
unfolding inside
loop_end t seen xs f i j s a le h = sym (ap (λ (r : List ℕ). before xs f (inside t seen 0 i r)) (drop_all j s le)) ∙ h
