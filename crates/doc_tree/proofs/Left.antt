-- Steps of printing.
use Rattle.std.proofs.Common.{◌≡◌, ℕ, zero, suc, ◌+◌, ◌-◌, ◌<◌, ◌≤◌, Bool, true, false, List, [], ◌∷◌, ◌++◌, append_assoc, Option, Some, None, length, cond, drop, refl, sym, ap, ◌∙◌, arith, length-append, get_or}
use Rattle.std.specs.Prelude.{slice_get, nat_lt}
use Rattle.std.proofs.Math.Seq.{drop-cons}
use Rattle.std.proofs.lemmas.Bool.Decides.{nat_tests}
use Rattle.doc_tree.specs.declared.printing.Level.{Level}
use Rattle.doc_nodes.specs.Rows.{Doc, row_at}
use Rattle.doc_tree.specs.Printing.{opening, ending, shown, printed}
use Rattle.doc_tree.specs.Levels.{left_of, left_of_all, weight, weight_of, weight_of_all}

none_behind : (xs : List ℕ) → xs ≡ xs ++ []
none_behind [] = refl
none_behind (x ∷ xs) = ap (λ ys. x ∷ ys) (none_behind xs)

-- the innermost level is printed first
left_of_all-last : (k : ℕ) (d : Doc) (fs : List Level) (f : Level) → left_of_all k d (fs ++ f ∷ []) ≡ left_of (k - length fs) d f ++ left_of_all k d fs
unfolding left_of_all
left_of_all-last k d [] f = let all : k - 0 ≡ k = omega arith in rw all (none_behind (left_of k d f))
left_of_all-last k d (g ∷ fs) f =
    let levels : (k - 1) - length fs ≡ k - suc (length fs) = omega arith in
    rw (left_of_all-last (k - 1) d fs f, levels, append_assoc) refl

weight_of_all-last : (k : ℕ) (d : Doc) (fs : List Level) (f : Level) → weight_of_all k d (fs ++ f ∷ []) ≡ weight_of (k - length fs) d f + weight_of_all k d fs
unfolding weight_of_all
weight_of_all-last k d [] f = let all : k - 0 ≡ k = omega arith in rw all (omega arith)
weight_of_all-last k d (g ∷ fs) f =
    let levels : (k - 1) - length fs ≡ k - suc (length fs) = omega arith in
    rw (weight_of_all-last (k - 1) d fs f, levels) (omega arith)

drop_at : (xs : List ℕ) (i c : ℕ) → slice_get xs i ≡ Some c → drop i xs ≡ c ∷ drop (suc i) xs
drop_at [] i c h = cc
drop_at (x ∷ xs) zero c h = let same : x ≡ c = cc in rw same refl
drop_at (x ∷ xs) (suc i) c h = drop_at xs i c h

drop_past : (xs : List ℕ) (i : ℕ) → slice_get xs i ≡ None → drop i xs ≡ []
drop_past [] zero h = refl
drop_past [] (suc i) h = refl
drop_past (x ∷ xs) zero h = cc
drop_past (x ∷ xs) (suc i) h = drop_past xs i h

none_printed : (k : ℕ) (d : Doc) → printed k d [] ≡ []
unfolding printed
none_printed zero d = refl
none_printed (suc k) d = refl

first_printed : (k : ℕ) (d : Doc) (n : ℕ) (ns : List ℕ) → printed (suc k) d (n ∷ ns) ≡ (opening (row_at d n) ++ (printed k d (shown d n) ++ ending (row_at d n))) ++ printed (suc k) d ns
unfolding printed
first_printed k d n ns = refl

first_weight : (k : ℕ) (d : Doc) (n : ℕ) (ns : List ℕ) → weight (suc k) d (n ∷ ns) ≡ 2 + weight k d (shown d n) + weight (suc k) d ns
unfolding weight
first_weight k d n ns = refl

abbrev pub level : ℕ → ℕ → Level
level n i = record { node = n; place = i }

abbrev pub next : Level → Level
next f = record { node = f.node; place = f.place + 1 }

abbrev pub first : ℕ → Level
first c = record { node = c; place = 0 }

-- a child is begun: what is left of it, and then what is left behind it
down : (k : ℕ) (d : Doc) (f : Level) (c : ℕ) → slice_get (shown d f.node) f.place ≡ Some c → left_of (suc k) d f ≡ opening (row_at d c) ++ (left_of k d (first c) ++ left_of (suc k) d (next f))
down k d f c h =
    let one : f.place + 1 ≡ suc f.place = omega arith in
    rw (one, drop_at (shown d f.node) f.place c h, first_printed k d c (drop (suc f.place) (shown d f.node))) (simp append_assoc)

lighter : (k : ℕ) (d : Doc) (f : Level) (c : ℕ) → slice_get (shown d f.node) f.place ≡ Some c → weight_of k d (first c) + weight_of (suc k) d (next f) < weight_of (suc k) d f
lighter k d f c h =
    let one : f.place + 1 ≡ suc f.place = omega arith in
    rw (one, drop_at (shown d f.node) f.place c h, first_weight k d c (drop (suc f.place) (shown d f.node))) (omega arith)

pub next_down : (may : Bool) (o : Option ℕ) (c : ℕ) → Some c ≡ cond may o None → (may ≡ true) × (o ≡ Some c)
next_down true o c h = (refl, sym h)
next_down false o c h = cc

-- a level that has a next child, where one more may stand under it
pub step-down : (most : ℕ) (d : Doc) (fs : List Level) (f : Level) (c : ℕ) (out : List ℕ) → length fs < most → slice_get (shown d f.node) f.place ≡ Some c → (out ++ opening (row_at d c)) ++ left_of_all most d ((fs ++ next f ∷ []) ++ first c ∷ []) ≡ out ++ left_of_all most d (fs ++ f ∷ [])
step-down most d fs f c out less h =
    let m = most - suc (length fs) in
    let here : most - length fs ≡ suc m = omega arith in
    let below : most - length (fs ++ next f ∷ []) ≡ m = omega (arith, length-append fs (next f ∷ [])) in
    rw (left_of_all-last most d (fs ++ next f ∷ []) (first c), left_of_all-last most d fs (next f), left_of_all-last most d fs f, below, here, down m d f c h) (simp append_assoc)

pub weight-down : (most : ℕ) (d : Doc) (fs : List Level) (f : Level) (c : ℕ) → length fs < most → slice_get (shown d f.node) f.place ≡ Some c → weight_of_all most d ((fs ++ next f ∷ []) ++ first c ∷ []) < weight_of_all most d (fs ++ f ∷ [])
weight-down most d fs f c less h =
    let m = most - suc (length fs) in
    let here : most - length fs ≡ suc m = omega arith in
    let below : most - length (fs ++ next f ∷ []) ≡ m = omega (arith, length-append fs (next f ∷ [])) in
    let falls : weight_of m d (first c) + weight_of (suc m) d (next f) < weight_of (suc m) d f = lighter m d f c h in
    rw (weight_of_all-last most d (fs ++ next f ∷ []) (first c), weight_of_all-last most d fs (next f), weight_of_all-last most d fs f, below, here) (omega arith)

zero_printed : (d : Doc) (ns : List ℕ) → printed 0 d ns ≡ []
unfolding printed
zero_printed d ns = refl

-- where a level has no next child, or none may stand under it, nothing is left of its children
ends : (most : ℕ) (d : Doc) (fs : List Level) (f : Level) → None ≡ cond (nat_lt (length fs) most) (slice_get (shown d f.node) f.place) None → printed (most - length fs) d (drop f.place (shown d f.node)) ≡ []
ends most d fs f h =
    let cases = elim (nat_lt (length fs) most) as (λ b. nat_lt (length fs) most ≡ b → ◌≡◌ {A = Option ℕ} None (cond b (slice_get (shown d f.node) f.place) None) → printed (most - length fs) d (drop f.place (shown d f.node)) ≡ []) [
      | true ↦ λ is none. rw (drop_past (shown d f.node) f.place (sym none)) (none_printed (most - length fs) d)
      | false ↦ λ is none. let past : most ≤ length fs = grind (arith, nat_tests) in let bottom : most - length fs ≡ 0 = omega arith in rw bottom (zero_printed d (drop f.place (shown d f.node)))
    ] in cases refl h

-- a level that has none, or under which none may stand
pub step-up : (most count : ℕ) (d : Doc) (fs : List Level) (f : Level) (out : List ℕ) → count ≡ length fs → ◌≡◌ {A = Option ℕ} None (cond (nat_lt count most) (slice_get (shown d f.node) f.place) None) → (out ++ ending (row_at d f.node)) ++ left_of_all most d fs ≡ out ++ left_of_all most d (fs ++ f ∷ [])
step-up most count d fs f out is h =
    let none : ◌≡◌ {A = Option ℕ} None (cond (nat_lt (length fs) most) (slice_get (shown d f.node) f.place) None) = rw (← is) h in
    rw (left_of_all-last most d fs f, ends most d fs f none) (simp append_assoc)

pub weight-up : (most : ℕ) (d : Doc) (fs : List Level) (f : Level) → weight_of_all most d fs < weight_of_all most d (fs ++ f ∷ [])
weight-up most d fs f = rw (weight_of_all-last most d fs f) (omega arith)

-- a node's own level, before any child
pub only_level : (most : ℕ) (d : Doc) (n : ℕ) (out out' : List ℕ) → out' ≡ out ++ opening (row_at d n) → out' ++ left_of_all most d (first n ∷ []) ≡ out ++ (opening (row_at d n) ++ (printed most d (shown d n) ++ ending (row_at d n)))
unfolding left_of_all
only_level most d n out out' is = rw is (simp append_assoc)

pub no_level : (most : ℕ) (d : Doc) (out : List ℕ) → out ++ left_of_all most d [] ≡ out
unfolding left_of_all
no_level most d out = sym (none_behind out)

-- what is printed of a list of nodes, its first node printed
pub node_printed : (k m : ℕ) (d : Doc) (n : ℕ) (ns out out' : List ℕ) → k ≡ suc m → out' ≡ out ++ (opening (row_at d n) ++ (printed m d (shown d n) ++ ending (row_at d n))) → out' ++ printed k d ns ≡ out ++ printed k d (n ∷ ns)
node_printed k m d n ns out out' more is = rw (more, first_printed m d n ns, is) (simp append_assoc)

pub nothing_printed : (k : ℕ) (d : Doc) (out : List ℕ) → out ++ printed k d [] ≡ out
nothing_printed k d out = rw (none_printed k d) (sym (none_behind out))

pub empty_printed : (k : ℕ) (d : Doc) (ns : List ℕ) → k ≡ 0 → printed k d ns ≡ []
empty_printed k d ns none = rw none (zero_printed d ns)

no_item : {X : Type 0} (xs : List X) → length xs ≡ 0 → xs ≡ []
no_item [] h = refl
no_item (x ∷ xs) h = absurd (omega arith)

-- no level is left
pub all_printed : (most : ℕ) (d : Doc) (fs : List Level) (out all : List ℕ) → length fs ≡ 0 → out ++ left_of_all most d fs ≡ all → out ≡ all
unfolding left_of_all
all_printed most d [] out all h is = none_behind out ∙ is
all_printed most d (f ∷ fs) out all h is = absurd (omega arith)

-- the first of the nodes that are left is printed
pub drop_printed : (k m i n : ℕ) (d : Doc) (ns out out' all : List ℕ) → k ≡ suc m → i < length ns → n ≡ get_or ns i n → all ≡ out ++ printed k d (drop i ns) → out' ≡ out ++ (opening (row_at d n) ++ (printed m d (shown d n) ++ ending (row_at d n))) → all ≡ out' ++ printed k d (drop (i + 1) ns)
drop_printed k m i n d ns out out' all more less here before is =
    let one : i + 1 ≡ suc i = omega arith in
    let split : drop i ns ≡ n ∷ drop (i + 1) ns = rw one (drop-cons ns i n less ∙ ap (λ x. x ∷ drop (suc i) ns) (sym here)) in
    before ∙ ap (λ xs. out ++ printed k d xs) split ∙ sym (node_printed k m d n (drop (i + 1) ns) out out' more is)

drop_over : (ns : List ℕ) (i : ℕ) → length ns ≤ i → drop i ns ≡ []
drop_over [] zero h = refl
drop_over [] (suc i) h = refl
drop_over (n ∷ ns) zero h = absurd (omega arith)
drop_over (n ∷ ns) (suc i) h = drop_over ns i (omega arith)

-- no node is left
pub end_printed : (k i : ℕ) (d : Doc) (ns out all : List ℕ) → length ns ≤ i → all ≡ out ++ printed k d (drop i ns) → out ≡ all
end_printed k i d ns out all over is = sym (is ∙ rw (drop_over ns i over) (nothing_printed k d out))
