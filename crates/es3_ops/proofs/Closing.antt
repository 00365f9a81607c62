-- One step of closing what waits.
use Rattle.std.proofs.Common.{◌≡◌, ℕ, ◌+◌, ◌≤◌, ◌<◌, max, List, [], ◌∷◌, ◌++◌, map, reverse, None, refl, sym, ap, ◌∙◌, arith}
use Rattle.std.proofs.lemmas.Bool.{lt-leb}
use Rattle.std.proofs.lemmas.List.{reverse-append, map_push}
use Rattle.es3_tree.specs.declared.Expr.{Expr}
use Rattle.es3_grammar.specs.Levels.{E, own}
use Rattle.es3_ops.specs.declared.grouping.Infix.{Infix}
use Rattle.es3_ops.specs.Taking.{Taken}
use Rattle.es3_ops.specs.Views.{infix_join, depth_of, left_of}
use Rattle.es3_ops.proofs.Nested.{whole_more}
use Rattle.es3_ops.specs.Waiting.{closed, outside, closed_depth, outside_depths, whole_depth}

data Ended {A : Type 0} : List A → Type 0 where
  empty : Ended []
  last : (xs : List A) (x : A) → Ended (xs ++ x ∷ [])

ended_behind : {A : Type 0} (x : A) (xs : List A) → Ended xs → Ended (x ∷ xs)
ended_behind x xs empty = last [] x
ended_behind x xs (last ys y) = last (x ∷ ys) y

ended : {A : Type 0} (xs : List A) → Ended xs
ended [] = empty
ended (x ∷ xs) = ended_behind x xs (ended xs)

-- the innermost first
pub inmost : {A B : Type 0} (f : A → B) (xs : List A) (x : A) → reverse (map f (xs ++ x ∷ [])) ≡ f x ∷ reverse (map f xs)
inmost f xs x = ap reverse (map_push f xs x) ∙ reverse-append (map f xs) (f x ∷ [])

abbrev Low : {A : Type 0} → ℕ → List (A × Infix) → Type 0
Low {A} n ws = (front : List (A × Infix)) (p : A × Infix) → ws ≡ front ++ p ∷ [] → own (infix_join p.1) < n

-- ---- nestings

abbrev pub Depths : Type 0
Depths = List (ℕ × Infix)

-- a part of a whole nests no deeper than that
pub fits_behind : (ws vs : Depths) (p : ℕ × Infix) (d k : ℕ) → ws ≡ vs ++ p ∷ [] → whole_depth (reverse (map depth_of ws)) d ≡ k → 1 + max p.0 d ≤ k
fits_behind ws vs p d k e h =
    let w : whole_depth (reverse (map depth_of ws)) d ≡ whole_depth (reverse (map depth_of vs)) (1 + max p.0 d) = rw (e, inmost depth_of vs p) refl in
    omega (arith, whole_more (reverse (map depth_of vs)) (1 + max p.0 d))

depth_ends : (n : ℕ) (ws : Depths) (d : ℕ) → Low n ws → Ended ws → closed_depth n (reverse (map depth_of ws)) d ≡ d
depth_ends n ws d h empty = refl
depth_ends n ws d h (last vs p) = rw (inmost depth_of vs p, lt-leb n (own (infix_join p.1)) (h vs p refl)) refl

outside_ends : (n : ℕ) (ws : Depths) → Low n ws → Ended ws → outside_depths n (reverse (map depth_of ws)) ≡ reverse (map depth_of ws)
outside_ends n ws h empty = refl
outside_ends n ws h (last vs p) = rw (inmost depth_of vs p, lt-leb n (own (infix_join p.1)) (h vs p refl)) refl

pub depth_end : (n : ℕ) (ws vs : Depths) (d : ℕ) → Taken n ws vs None → closed_depth n (reverse (map depth_of ws)) d ≡ d
depth_end n ws vs d h = depth_ends n ws d h.1 (ended ws)

pub outside_end : (n : ℕ) (ws vs : Depths) → Taken n ws vs None → outside_depths n (reverse (map depth_of ws)) ≡ reverse (map depth_of vs)
outside_end n ws vs h = outside_ends n ws h.1 (ended ws) ∙ ap (λ (v : Depths). reverse (map depth_of v)) (sym h.0)

-- ---- trees

abbrev pub Parts : Type 0
Parts = List (Expr × Infix)

part_ends : (n : ℕ) (ws : Parts) (x : E) → Low n ws → Ended ws → closed n (reverse (map left_of ws)) x ≡ x
part_ends n ws x h empty = refl
part_ends n ws x h (last vs p) = rw (inmost left_of vs p, lt-leb n (own (infix_join p.1)) (h vs p refl)) refl

left_ends : (n : ℕ) (ws : Parts) → Low n ws → Ended ws → outside n (reverse (map left_of ws)) ≡ reverse (map left_of ws)
left_ends n ws h empty = refl
left_ends n ws h (last vs p) = rw (inmost left_of vs p, lt-leb n (own (infix_join p.1)) (h vs p refl)) refl

pub part_end : (n : ℕ) (ws vs : Parts) (x : E) → Taken n ws vs None → closed n (reverse (map left_of ws)) x ≡ x
part_end n ws vs x h = part_ends n ws x h.1 (ended ws)

pub left_end : (n : ℕ) (ws vs : Parts) → Taken n ws vs None → outside n (reverse (map left_of ws)) ≡ reverse (map left_of vs)
left_end n ws vs h = left_ends n ws h.1 (ended ws) ∙ ap (λ (v : Parts). reverse (map left_of v)) (sym h.0)
