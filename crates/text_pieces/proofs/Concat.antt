-- Pieces one after another.
use Rattle.std.proofs.Common.{◌≡◌, ℕ, zero, suc, ◌+◌, ◌-◌, ◌<◌, ◌≤◌, min, List, [], ◌∷◌, ◌++◌, Some, length, get_or, take, drop, sym, ap, ◌∙◌, ⊎_elim, arith, append_assoc, append-nil, length-append, length-drop}
use Rattle.std.specs.List.{concat, slice_get}
use Rattle.std.proofs.lemmas.Bool.{cases_lt}
use Rattle.std.proofs.lemmas.List.{take_more, drop_more, drop_all, take_all, take-append-le, drop-append-le, get_or_append_left}
use Rattle.std.proofs.lemmas.List.Folds.{concat-append}
use Rattle.std.proofs.lemmas.Option.{slice_get-get_or}
use Rattle.std.proofs.Math.Seq.{take-append-add, drop-append-add}

-- one piece more
pub concat_more : (ps : List (List ℕ)) (i : ℕ) (p : List ℕ) → i < length ps → p ≡ get_or ps i p → concat (take (i + 1) ps) ≡ concat (take i ps) ++ p
concat_more ps i p lt is =
    ap concat (take_more ps i p lt) ∙ concat-append (take i ps) (get_or ps i p ∷ [])
    ∙ ap (λ (q : List ℕ). concat (take i ps) ++ q) (append-nil (get_or ps i p) ∙ sym is)

-- the pieces from a place on begin with the one there
pub concat_rest : (ps : List (List ℕ)) (i : ℕ) (p : List ℕ) → i < length ps → p ≡ get_or ps i p → concat (drop i ps) ≡ p ++ concat (drop (i + 1) ps)
concat_rest ps i p lt is =
    ap concat (drop_more ps i p lt) ∙ ap (λ (q : List ℕ). q ++ concat (drop (i + 1) ps)) (sym is)

pub concat_none : (ps : List (List ℕ)) (i : ℕ) → length ps ≤ i → concat (drop i ps) ≡ []
concat_none ps i le = ap concat (drop_all i ps le)

-- the unit at a place of two lists is one of the first, or of the second

read_front : (xs ys : List ℕ) (i : ℕ) → i < length xs → slice_get (xs ++ ys) i ≡ Some (get_or xs i 0)
read_front xs ys i lt =
    slice_get-get_or (xs ++ ys) i 0 (omega (arith, length-append xs ys)) ∙ ap Some (get_or_append_left xs ys 0 i lt)

read_behind : (xs ys : List ℕ) (i : ℕ) → length xs ≤ i → slice_get (xs ++ ys) i ≡ slice_get ys (i - length xs)
read_behind [] ys i le = let e : i ≡ i - 0 = omega arith in ap (slice_get ys) e
read_behind (x ∷ xs) ys zero le = absurd (omega arith)
read_behind (x ∷ xs) ys (suc i) le =
    let e : i - length xs ≡ suc i - length (x ∷ xs) = omega arith in read_behind xs ys i (omega arith) ∙ ap (slice_get ys) e

pub read_here : (ps : List (List ℕ)) (k : ℕ) (p : List ℕ) (i : ℕ) → k < length ps → p ≡ get_or ps k p → i < length p → slice_get (concat (drop k ps)) i ≡ Some (get_or p i 0)
read_here ps k p i lt is within =
    ap (λ (us : List ℕ). slice_get us i) (concat_rest ps k p lt is) ∙ read_front p (concat (drop (k + 1) ps)) i within

pub read_later : (ps : List (List ℕ)) (k : ℕ) (p : List ℕ) (i : ℕ) → k < length ps → p ≡ get_or ps k p → length p ≤ i → slice_get (concat (drop k ps)) i ≡ slice_get (concat (drop (k + 1) ps)) (i - length p)
read_later ps k p i lt is past =
    ap (λ (us : List ℕ). slice_get us i) (concat_rest ps k p lt is) ∙ read_behind p (concat (drop (k + 1) ps)) i past

-- so many units of two lists from a place on: some of the first, and then some of the second

drop_past : (xs ys : List ℕ) (i : ℕ) → length xs ≤ i → drop i (xs ++ ys) ≡ drop (i - length xs) ys
drop_past xs ys i le =
    let e : i ≡ length xs + (i - length xs) = omega arith in ap (λ k. drop k (xs ++ ys)) e ∙ drop-append-add xs ys (i - length xs)

cut_first : (q r : List ℕ) (left n : ℕ) → n ≡ min (length q) left → take left (q ++ r) ≡ take n q ++ take (left - n) r
cut_first q r left n is =
    ⊎_elim
    (λ (short : left < length q).
    let e : n ≡ left = omega arith in
    let none : left - n ≡ 0 = omega arith in
    take-append-le left q r (omega arith) ∙ sym (append-nil (take left q))
    ∙ sym (ap (λ k. take k q ++ []) e) ∙ sym (ap (λ k. take n q ++ take k r) none))
    (λ (long : length q ≤ left).
    let e : n ≡ length q = omega arith in
    let sum : left ≡ length q + (left - n) = omega arith in
    ap (λ k. take k (q ++ r)) sum ∙ take-append-add q r (left - n)
    ∙ ap (λ (us : List ℕ). us ++ take (left - n) r) (sym (take_all n q (omega arith))))
    (cases_lt left (length q))

pub cut : (p r : List ℕ) (skip left from n : ℕ) → from ≡ min skip (length p) → n ≡ min (length p - from) left → take left (drop skip (p ++ r)) ≡ take n (drop from p) ++ take (left - n) (drop (skip - from) r)
cut p r skip left from n start is =
    ⊎_elim
    (λ (here : skip < length p).
    let e : skip ≡ from = omega arith in
    let none : skip - from ≡ 0 = omega arith in
    ap (take left) (drop-append-le skip p r (omega arith))
    ∙ cut_first (drop skip p) r left n (omega (arith, length-drop skip p))
    ∙ ap (λ k. take n (drop k p) ++ take (left - n) r) e
    ∙ sym (ap (λ k. take n (drop from p) ++ take (left - n) (drop k r)) none))
    (λ (past : length p ≤ skip).
    let e : skip - length p ≡ skip - from = omega arith in
    let none : n ≡ 0 = omega arith in
    let all : left ≡ left - n = omega arith in
    ap (take left) (drop_past p r skip past)
    ∙ ap (λ k. take k (drop (skip - length p) r)) all
    ∙ ap (λ k. take (left - n) (drop k r)) e
    ∙ sym (ap (λ k. take k (drop from p) ++ take (left - n) (drop (skip - from) r)) none))
    (cases_lt skip (length p))

-- the pieces that stay, and a new one made of the others and of what is put beside them

pub appended : (ps kept near : List (List ℕ)) (us last : List ℕ) → ps ≡ kept ++ near → last ≡ concat near ++ us → concat (kept ++ last ∷ []) ≡ concat ps ++ us
appended ps kept near us last split is =
    concat-append kept (last ∷ [])
    ∙ ap (λ (q : List ℕ). concat kept ++ q) (append-nil last ∙ is)
    ∙ sym (append_assoc (concat kept) (concat near) us)
    ∙ ap (λ (q : List ℕ). q ++ us) (sym (concat-append kept near) ∙ ap concat (sym split))

pub prepended : (ps near kept : List (List ℕ)) (us first : List ℕ) → ps ≡ near ++ kept → first ≡ us ++ concat near → concat (first ∷ kept) ≡ us ++ concat ps
prepended ps near kept us first split is =
    ap (λ (q : List ℕ). q ++ concat kept) is
    ∙ append_assoc us (concat near) (concat kept)
    ∙ ap (λ (q : List ℕ). us ++ q) (sym (concat-append near kept) ∙ ap concat (sym split))
