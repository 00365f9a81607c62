-- How deep the tree of a list nests, by the nestings of what waits behind it.
use Rattle.std.proofs.Common.{◌≡◌, ℕ, ◌+◌, ◌≤◌, ◌<◌, max, Bool, true, false, cond, nat_le, le-leb, List, [], ◌∷◌, ◌++◌, sum_by, refl, ap, ◌∙◌, arith}
use Rattle.std.proofs.lemmas.List.Sums.{sum_by-append, sum_by-cons}
use Rattle.es3_tree.specs.Tree as t
use Rattle.es3_grammar.specs.Levels.{E, Join, own, left, right, joined}
use Rattle.es3_grammar.specs.Plain.{deep}
use Rattle.es3_grammar.proofs.Heights.{joined_deep}
use Rattle.es3_ops.specs.Grouped.{Front, Grouped, alone, between}
use Rattle.es3_ops.specs.Waiting.{closed, outside, waiting_behind, waiting, closed_depth, outside_depths, behind_depths, depths, whole_depth}
use Rattle.es3_ops.proofs.Unique.{Item, Above, one_tree}
use Rattle.es3_ops.proofs.Exists.{Lefts, Waits, nothing, more, waits_all, some_closed}

cond_deep : (b : Bool) (x y : E) → deep t.expr (cond b x y) ≡ cond b (deep t.expr x) (deep t.expr y)
cond_deep true x y = refl
cond_deep false x y = refl

cond_depths : (b : Bool) (v w : Lefts) → depths (cond b v w) ≡ cond b (depths v) (depths w)
cond_depths true v w = refl
cond_depths false v w = refl

pub closed_deep : (n : ℕ) (w : Lefts) (x : E) → deep t.expr (closed n w x) ≡ closed_depth n (depths w) (deep t.expr x)
closed_deep n [] x = refl
closed_deep n ((j, a) ∷ w) x =
    cond_deep (nat_le n (own j)) _ _ ∙ ap (λ d. cond (nat_le n (own j)) d (deep t.expr x)) (closed_deep n w (joined j a x) ∙ ap (closed_depth n (depths w)) (joined_deep j a x))

pub outside_deep : (n : ℕ) (w : Lefts) → depths (outside n w) ≡ outside_depths n (depths w)
outside_deep n [] = refl
outside_deep n ((j, a) ∷ w) = cond_depths (nat_le n (own j)) _ _ ∙ ap (λ d. cond (nat_le n (own j)) d (depths ((j, a) ∷ w))) (outside_deep n w)

pub behind_deep : (w : Lefts) (x : E) (j : Join) → depths (waiting_behind w x j) ≡ behind_depths (depths w) (deep t.expr x) (own j)
behind_deep w x j = cc (closed_deep (own j) w x, outside_deep (own j) w)

pub waiting_push : (w : Lefts) (ps : Front) (x : E) (j : Join) → waiting w (ps ++ (x, j) ∷ []) ≡ waiting_behind (waiting w ps) x j
waiting_push w [] x j = refl
waiting_push w ((y, k) ∷ ps) x j = waiting_push (waiting_behind w y k) ps x j

-- a part of a whole nests no deeper
pub whole_more : (w : List (ℕ × ℕ)) (d : ℕ) → d ≤ whole_depth w d
whole_more [] d = omega arith
whole_more (p ∷ w) d = omega (arith, whole_more w (1 + max p.1 d))

pub whole_deeper : (w : List (ℕ × ℕ)) (d e : ℕ) → d ≤ e → whole_depth w d ≤ whole_depth w e
whole_deeper [] d e le = le
whole_deeper (p ∷ w) d e le = whole_deeper w (1 + max p.1 d) (1 + max p.1 e) (omega arith)

pub closed_more : (n : ℕ) (w : List (ℕ × ℕ)) (d : ℕ) → d ≤ closed_depth n w d
closed_more n [] d = omega arith
closed_more n (p ∷ w) d = more (nat_le n p.0) (closed_more n w (1 + max p.1 d))
  where
    more : (b : Bool) → 1 + max p.1 d ≤ closed_depth n w (1 + max p.1 d) → d ≤ cond b (closed_depth n w (1 + max p.1 d)) d
    more true h = omega arith
    more false h = omega arith

-- to close some of what waits, and then the rest, is to close all
pub closed_whole : (n : ℕ) (w : List (ℕ × ℕ)) (d : ℕ) → whole_depth (outside_depths n w) (closed_depth n w d) ≡ whole_depth w d
closed_whole n [] d = refl
closed_whole n (p ∷ w) d = more (nat_le n p.0) (closed_whole n w (1 + max p.1 d))
  where
    more : (b : Bool) → whole_depth (outside_depths n w) (closed_depth n w (1 + max p.1 d)) ≡ whole_depth w (1 + max p.1 d)
        → whole_depth (cond b (outside_depths n w) (p ∷ w)) (cond b (closed_depth n w (1 + max p.1 d)) d) ≡ whole_depth w (1 + max p.1 d)
    more true h = h
    more false h = refl

-- where a single node behind one operand and operator more is no deeper than this, the operand within what waits is none, nor is it alone
pub operand_within : (w : List (ℕ × ℕ)) (d n k : ℕ) → whole_depth (behind_depths w d n) 1 < k → whole_depth w d < k
operand_within w d n k h =
    let v : List (ℕ × ℕ) = outside_depths n w in
    let c : ℕ = closed_depth n w d in
    omega (arith, closed_whole n w d, whole_deeper v c (1 + max c 1) (omega arith))

pub operand_below : (w : List (ℕ × ℕ)) (d n k : ℕ) → whole_depth (behind_depths w d n) 1 < k → d + 1 < k
operand_below w d n k h = omega (arith, closed_more n w d, whole_more (outside_depths n w) (1 + max (closed_depth n w d) 1))

-- from the level 3 on nothing is left waiting
all_closed : (ps : Front) (w : Lefts) (d : ℕ) → Waits ps w → closed_depth 3 (depths w) d ≡ whole_depth (depths w) d
all_closed ps [] d nothing = refl
all_closed ps ((j, a) ∷ w) d (more qs _ _ _ _ _ h k _ _) = rw (le-leb 3 (own j) h) (all_closed qs w (1 + max (deep t.expr a) d) k)

-- how deep each tree of a list nests
pub nested : (ps : Front) (x y : E) → Above 3 ps → Grouped 3 ps x y → deep t.expr y ≡ whole_depth (depths (waiting [] ps)) (deep t.expr x)
nested ps x y h g =
    ap (deep t.expr) (one_tree 3 3 ps ps x x y _ g (some_closed ps x h) refl refl)
    ∙ closed_deep 3 (waiting [] ps) x
    ∙ all_closed ps (waiting [] ps) (deep t.expr x) (waits_all [] ps [] h nothing)

-- a tree nests no deeper than all its parts together, with one more for each operator
pub within_parts : (n : ℕ) (ps : Front) (x a : E) → Grouped n ps x a → deep t.expr a ≤ sum_by (λ (p : Item). deep t.expr p.0 + 1) ps + deep t.expr x
within_parts n ps x a (alone _ _) = omega arith
within_parts n ps x a (between _ fs bs u _ b c j _ f g) =
    omega (arith, joined_deep j b c, within_parts (left j) fs u b f, within_parts (right j) bs x c g, sum_by-append (λ (p : Item). deep t.expr p.0 + 1) fs ((u, j) ∷ bs), sum_by-cons (λ (p : Item). deep t.expr p.0 + 1) (u, j) bs)
