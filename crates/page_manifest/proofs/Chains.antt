-- Answers of one step after another, and of one entry after another.
use Rattle.std.proofs.Common.{◌≡◌, ℕ, ◌+◌, ◌<◌, List, [], ◌∷◌, ◌++◌, length, map, drop, get_or, Result, Ok, Err, refl, sym, ap, subst, ◌∙◌, append_assoc}
use Rattle.std.proofs.lemmas.List.{map-append, at_drop_more}
use Rattle.page_manifest.specs.Faults.{Found, chain}
use Rattle.page_manifest.specs.Walk.{traverse}
use Rattle.page_manifest.specs.Answers.{Answers}
use Rattle.page_manifest.specs.declared.PageError.{PageError}

-- a step found something, and the next one goes on with it
pub goes_on : {A B C : Type 0} (w : C → B) (r : Result C PageError) {x : Found A} {a : A} (next : A → Found B) → x ≡ Ok a → Answers w r (next a) → Answers w r (chain x next)
goes_on w r next e h = subst (λ y. Answers w r y) (sym (ap (λ x. chain x next) e)) h

-- what was found in front, and what is found behind it
abbrev pub behind : {B : Type 0} → List B → Found (List B) → Found (List B)
behind bs x = chain x (λ cs. Ok (bs ++ cs))

turned : {B : Type 0} (bs : List B) (b : B) (x : Found (List B)) → behind bs (chain x (λ cs. Ok (b ∷ cs))) ≡ behind (bs ++ b ∷ []) x
turned bs b (Ok cs) = ap Ok (sym (append_assoc bs (b ∷ []) cs))
turned bs b (Err e) = refl

-- one more entry is found
pub turn :
    {A B C O : Type 0} (read : ℕ → B → Found C) (f : A → B) (v : O → C) (n : ℕ) (left : List A) (outs : List O) (whole : Found (List C)) → behind (map v outs) (traverse read n (map f left)) ≡ whole
    → (x : A) (rest : List A) (o : O) (after : List O) → left ≡ x ∷ rest → read n (f x) ≡ Ok (v o) → after ≡ outs ++ o ∷ [] → behind (map v after) (traverse read (n + 1) (map f rest)) ≡ whole
turn read f v n left outs whole so_far x rest o after is found added =
    ap (λ l. behind l (traverse read (n + 1) (map f rest))) (ap (map v) added ∙ map-append v outs (o ∷ []))
    ∙ sym (turned (map v outs) (v o) (traverse read (n + 1) (map f rest)))
    ∙ sym (ap (λ r. behind (map v outs) (chain r (λ c. chain (traverse read (n + 1) (map f rest)) (λ cs. Ok (c ∷ cs))))) found)
    ∙ sym (ap (λ l. behind (map v outs) (traverse read n (map f l))) is)
    ∙ so_far

-- what is left of a slice, at its next entry
pub next_entry : {A : Type 0} (xs : List A) (k : ℕ) (x : A) → k < length xs → x ≡ get_or xs k x → drop k xs ≡ x ∷ drop (k + 1) xs
next_entry xs k x h is = at_drop_more (λ l. l) xs k x h ∙ ap (λ y. y ∷ drop (k + 1) xs) (sym is)
