-- Texts compared unit by unit.
use Rattle.std.proofs.Common.{◌≡◌, ℕ, zero, suc, ◌+◌, ◌-◌, ◌<◌, ◌≤◌, Bool, true, false, cond, nat_eq, nat_lt, List, [], ◌∷◌, ◌++◌, Option, Some, None, length, get_or, take, drop, refl, sym, ap, ◌∙◌, ⊎_elim, arith, length-append, length-drop}
use Rattle.std.specs.Prelude.{codes}
use Rattle.std.specs.List.{slice_get}
use Rattle.std.specs.Option.{option_eq}
use Rattle.std.proofs.lemmas.Bool.{cases_lt, cases_eq, cond-true, cond-false, eq-eqb, eqb-true, ne_eqb, lt-ltb, le-ltb}
use Rattle.std.proofs.lemmas.Grind.{same_number_lists}
use Rattle.std.proofs.lemmas.List.{drop_more, drop_all, length-take, get_or-append-add}
use Rattle.std.proofs.lemmas.List.Prefix.{at_from_reads, at_reads, end_from_reads}
use Rattle.std.proofs.lemmas.Option.{slice_get-get_or, slice_get_within, get_or_from_slice_get}
use Rattle.caja_units.specs.Units.{same_units, comes_before, stands_at, is_hidden}
use Rattle.caja_units.proofs.Texts.{same_units-equal, same_units-from_equal, is_hidden-end, is_hidden-from_end}
use Rattle.caja_units.proofs.Places.{stands_at-front, stands_at-from_front}

not_true : (b : Bool) → (b ≡ true → ⊥) → b ≡ false
not_true true h = absurd (h refl)
not_true false h = refl

-- the same where each unit is, and else not
pub same_units-from_reads : (us vs : List ℕ) → length us ≡ length vs → ((k : ℕ) → k < length us → get_or us k 0 ≡ get_or vs k 0) → same_units us vs ≡ true
same_units-from_reads us vs len h = same_units-from_equal us vs (same_number_lists us vs len h)

pub same_units-other : (us vs : List ℕ) → (us ≡ vs → ⊥) → same_units us vs ≡ false
same_units-other us vs h = not_true (same_units us vs) (λ e. h (same_units-equal us vs e))

-- which comes before: from a place on, where the units there are the same, where they differ, and where one text has none

before_here : (us vs : List ℕ) (i u v : ℕ) → slice_get us i ≡ Some u → slice_get vs i ≡ Some v
    → comes_before (drop i us) (drop i vs) ≡ cond (nat_eq u v) (comes_before (drop (i + 1) us) (drop (i + 1) vs)) (nat_lt u v)
before_here us vs i u v one other =
    ap (λ (xs : List ℕ). comes_before xs (drop i vs)) (drop_more us i 0 (slice_get_within us i u one) ∙ ap (λ x. x ∷ drop (i + 1) us) (get_or_from_slice_get us i u 0 one))
    ∙ ap (comes_before (u ∷ drop (i + 1) us)) (drop_more vs i 0 (slice_get_within vs i v other) ∙ ap (λ x. x ∷ drop (i + 1) vs) (get_or_from_slice_get vs i v 0 other))

pub comes_before-same : (us vs : List ℕ) (i u v : ℕ) → slice_get us i ≡ Some u → slice_get vs i ≡ Some v → u ≡ v → comes_before (drop i us) (drop i vs) ≡ comes_before (drop (i + 1) us) (drop (i + 1) vs)
comes_before-same us vs i u v one other same = before_here us vs i u v one other ∙ cond-true (nat_eq u v) _ _ (eq-eqb u v same)

pub comes_before-differs : (us vs : List ℕ) (i u v : ℕ) → slice_get us i ≡ Some u → slice_get vs i ≡ Some v → (u ≡ v → ⊥) → comes_before (drop i us) (drop i vs) ≡ nat_lt u v
comes_before-differs us vs i u v one other apart = before_here us vs i u v one other ∙ cond-false (nat_eq u v) _ _ (ne_eqb u v apart)

before_any : (us : List ℕ) → comes_before us [] ≡ false
before_any [] = refl
before_any (u ∷ us) = refl

after_none : (vs : List ℕ) → 0 < length vs → comes_before [] vs ≡ true
after_none [] some = absurd (omega arith)
after_none (v ∷ vs) some = refl

read_past : (us : List ℕ) (i : ℕ) → slice_get us i ≡ None → length us ≤ i
read_past us i none = ⊎_elim (λ (lt : i < length us). let some = slice_get-get_or us i 0 lt in cc) (λ (past : length us ≤ i). past) (cases_lt i (length us))

pub comes_before-longer : (us vs : List ℕ) (i : ℕ) → slice_get vs i ≡ None → comes_before (drop i us) (drop i vs) ≡ false
comes_before-longer us vs i none = ap (comes_before (drop i us)) (drop_all i vs (read_past vs i none)) ∙ before_any (drop i us)

pub comes_before-end : (us vs : List ℕ) (i : ℕ) → i ≡ length us → comes_before (drop i us) (drop i vs) ≡ nat_lt (length us) (length vs)
comes_before-end us vs i end =
    ap (λ (xs : List ℕ). comes_before xs (drop i vs)) (drop_all i us (omega arith))
    ∙ ⊎_elim
    (λ (lt : length us < length vs). after_none (drop i vs) (omega (arith, length-drop i vs)) ∙ sym (lt-ltb (length us) (length vs) lt))
    (λ (ge : length vs ≤ length us). ap (comes_before []) (drop_all i vs (omega arith)) ∙ sym (le-ltb (length us) (length vs) ge))
    (cases_lt (length us) (length vs))

pub no_read-within : (us : List ℕ) (i : ℕ) → i < length us → slice_get us i ≡ None → ⊥
no_read-within us i lt none = omega (arith, read_past us i none)

-- what `==` says of two reads

pub option_eq-equal : (o p : Option ℕ) → option_eq nat_eq o p ≡ true → o ≡ p
option_eq-equal None None e = refl
option_eq-equal None (Some v) e = cc
option_eq-equal (Some u) None e = cc
option_eq-equal (Some u) (Some v) e = ap Some (eqb-true u v e)

pub option_eq-from_equal : (o p : Option ℕ) → o ≡ p → option_eq nat_eq o p ≡ true
option_eq-from_equal None p e = rw (sym e) refl
option_eq-from_equal (Some u) p e = rw (sym e) (eq-eqb u u refl)

-- where a part stands, its units are read, and the other way round

pub stands_at-reads : (us part : List ℕ) (place i : ℕ) → stands_at us part place ≡ true → i < length part → slice_get us (place + i) ≡ slice_get part i
stands_at-reads us part place i stands lt =
    let front = stands_at-front us part place stands in
    let within : place + i < length us = omega (arith, ap length front, length-drop place us, length-append part (drop (length part) (drop place us))) in
    slice_get-get_or us (place + i) 0 within
    ∙ ap Some (at_reads 0 us part place (drop (length part) (drop place us)) front i lt)
    ∙ sym (slice_get-get_or part i 0 lt)

same_read : (us vs : List ℕ) (i j : ℕ) → j < length vs → slice_get us i ≡ slice_get vs j → (i < length us) × (get_or us i 0 ≡ get_or vs j 0)
same_read us vs i j lt e =
    let some = e ∙ slice_get-get_or vs j 0 lt in
    (slice_get_within us i (get_or vs j 0) some, get_or_from_slice_get us i (get_or vs j 0) 0 some)

pub stands_at-from_reads : (us part : List ℕ) (place : ℕ) → ((k : ℕ) → k < length part → slice_get us (place + k) ≡ slice_get part k) → stands_at us part place ≡ true
stands_at-from_reads us [] place h = stands_at-from_front us [] (drop place us) place refl
stands_at-from_reads us (u ∷ part) place h =
    let whole : List ℕ = u ∷ part in
    let last = same_read us whole (place + length part) (length part) (omega arith) (h (length part) (omega arith)) in
    stands_at-from_front us whole (drop (place + length whole) us) place
    (at_from_reads 0 us whole place (omega (arith, last.0)) (λ k lt. (same_read us whole (place + k) k lt (h k lt)).1))

-- the last two units of a hidden text
pub is_hidden-from_reads : (us : List ℕ) (end : ℕ) → end + 2 ≡ length us → slice_get us end ≡ Some 95 → slice_get us (end + 1) ≡ Some 95 → is_hidden us ≡ true
is_hidden-from_reads us end len one two =
    is_hidden-from_end us (take (length us - 2) us)
    (end_from_reads 0 us (codes "__") (omega arith) (λ i lt.
    ⊎_elim
    (λ (e : i ≡ 0). let at : length us - 2 + i ≡ end = omega arith in ap (λ k. get_or us k 0) at ∙ get_or_from_slice_get us end 95 0 one ∙ sym (ap (λ k. get_or (codes "__") k 0) e))
    (λ apart.
    let e : i ≡ 1 = omega arith in
    let at : length us - 2 + i ≡ end + 1 = omega arith in
    ap (λ k. get_or us k 0) at ∙ get_or_from_slice_get us (end + 1) 95 0 two ∙ sym (ap (λ k. get_or (codes "__") k 0) e))
    (cases_eq i 0)))

both : (i : ℕ) → i < 2 → Some (get_or (codes "__") i 0) ≡ Some 95
both zero lt = refl
both (suc zero) lt = refl
both (suc (suc i)) lt = absurd (omega arith)

pub is_hidden-reads : (us : List ℕ) (end i : ℕ) → end + 2 ≡ length us → i < 2 → is_hidden us ≡ true → slice_get us (end + i) ≡ Some 95
is_hidden-reads us end i len lt hidden =
    let front = take (length us - 2) us in
    let whole : us ≡ front ++ codes "__" = is_hidden-end us hidden in
    let first : length front ≡ end = omega (arith, length-take (length us - 2) us) in
    let at : end + i ≡ length front + i = omega arith in
    slice_get-get_or us (end + i) 0 (omega arith)
    ∙ ap (λ (vs : List ℕ). Some (get_or vs (end + i) 0)) whole
    ∙ ap (λ k. Some (get_or (front ++ codes "__") k 0)) at
    ∙ ap Some (get_or-append-add front (codes "__") i 0)
    ∙ both i lt
