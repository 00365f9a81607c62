-- One operator more behind the operands that are read.
use Rattle.std.proofs.Common.{◌≡◌, ℕ, ◌+◌, ◌^◌, ◌≤◌, ◌<◌, List, [], ◌∷◌, ◌++◌, map, reverse, sum_by, Some, option_map, refl, sym, ap, ◌∙◌, arith}
use Rattle.std.proofs.lemmas.List.{map_push}
use Rattle.std.proofs.lemmas.List.Sums.{sum_by-append, sum_by-cons}
use Rattle.es3_tree.specs.Tree as t
use Rattle.es3_tree.specs.Placed as tree
use Rattle.es3_tree.specs.PlacedView.{expr}
use Rattle.es3_tree.specs.declared.Expr.{Expr}
use Rattle.es3_grammar.specs.Levels.{E, Join, own}
use Rattle.es3_grammar.specs.Plain.{deep}
use Rattle.es3_grammar.proofs.Follow.{level_fits}
use Rattle.es3_ops.specs.declared.grouping.Infix.{Infix}
use Rattle.es3_ops.specs.declared.grouping.Infix.TheVariants as i
use Rattle.es3_ops.specs.declared.grouping.Ops.{Ops}
use Rattle.es3_ops.specs.Grouped.{Front, Grouped}
use Rattle.es3_ops.specs.Listed.{front_of, last_of, followed, front_with}
use Rattle.es3_ops.specs.Views.{infix_join, item_of, depth_of}
use Rattle.es3_ops.specs.Waiting.{closed, waiting, behind_depths, depths, whole_depth}
use Rattle.es3_ops.proofs.Unique.{Item, Above, above_both}
use Rattle.es3_ops.proofs.Exists.{some_closed}
use Rattle.es3_ops.proofs.Nested.{behind_deep, waiting_push, nested, within_parts}

infix_above : (op : Infix) → 3 ≤ own (infix_join op)
infix_above (i.Op op) = omega (arith, level_fits op)
infix_above i.And = omega arith
infix_above i.Or = omega arith

pub items_above : (ps : List (Expr × Infix)) → Above 3 (map item_of ps)
items_above [] = tt
items_above ((x, op) ∷ ps) = (infix_above op, items_above ps)

pub front_is : (o : Ops) (z : Expr) (op : Infix) → o.last ≡ Some z → front_with o op ≡ map item_of o.front.items ++ (expr z, infix_join op) ∷ []
front_is o z op e = ap (λ l. followed (front_of o) (option_map expr l) (infix_join op)) e

with_above : (o : Ops) (z : Expr) (op : Infix) → o.last ≡ Some z → Above 3 (front_with o op)
with_above o z op e = rw (front_is o z op e) (above_both 3 (map item_of o.front.items) ((expr z, infix_join op) ∷ []) (items_above o.front.items) (infix_above op, tt))

-- the last operand, what waits before it, and how deep it nests
pub record Adds (o : Ops) (z : Expr) (ws : List (ℕ × Infix)) (d : ℕ) : Type 0 where
  pub last_is : o.last ≡ Some z
  pub waiting_is : ws ≡ o.waiting.items
  pub depth_is : d ≡ deep t.expr (expr z)

-- what waits then
with_depths : (o : Ops) (z : Expr) (ws : List (ℕ × Infix)) (d : ℕ) (op : Infix) → Adds o z ws d
    → depths (waiting [] (front_with o op)) ≡ behind_depths (reverse (map depth_of ws)) d (own (infix_join op))
with_depths o z ws d op a =
    let f : Front = map item_of o.front.items in
    let e : depths (waiting [] (front_with o op)) ≡ behind_depths (depths (waiting [] f)) (deep t.expr (expr z)) (own (infix_join op)) =
    ap (λ (f : Front). depths (waiting [] f)) (front_is o z op a.last_is)
    ∙ ap depths (waiting_push [] f (expr z) (infix_join op))
    ∙ behind_deep (waiting [] f) (expr z) (infix_join op) in
    let w : reverse (map depth_of ws) ≡ depths (waiting [] f) = ap (λ (v : List (ℕ × Infix)). reverse (map depth_of v)) a.waiting_is ∙ o.kept in
    cc (e, w, a.depth_is)

pub adds_nest : (o : Ops) (z : Expr) (ws : List (ℕ × Infix)) (d : ℕ) (op : Infix) (x y : E) → Adds o z ws d → deep t.expr x ≡ 1 → Grouped 3 (front_with o op) x y
    → whole_depth (behind_depths (reverse (map depth_of ws)) d (own (infix_join op))) 1 ≡ deep t.expr y
adds_nest o z ws d op x y a one g =
    ap (λ (w : List (ℕ × ℕ)). whole_depth w 1) (sym (with_depths o z ws d op a))
    ∙ ap (whole_depth (depths (waiting [] (front_with o op)))) (sym one)
    ∙ sym (nested (front_with o op) x y (with_above o z op a.last_is) g)

abbrev pub AllFit : Front → Type 0
AllFit f = (x y : E) → deep t.expr x ≡ 1 → Grouped 3 f x y → deep t.expr y < 2 ^ 32

pub adds_fit : (o : Ops) (z : Expr) (ws : List (ℕ × Infix)) (d : ℕ) (op : Infix) → Adds o z ws d → AllFit (front_with o op)
    → whole_depth (behind_depths (reverse (map depth_of ws)) d (own (infix_join op))) 1 < 2 ^ 32
adds_fit o z ws d op a fits =
    let f : Front = front_with o op in
    let y : E = closed 3 (waiting [] f) tree.null in
    let g : Grouped 3 f tree.null y = some_closed f tree.null (with_above o z op a.last_is) in
    omega (arith, adds_nest o z ws d op tree.null y a refl g, fits tree.null y refl g)

pub adds_keep : (o : Ops) (z : Expr) (ws vs : List (ℕ × Infix)) (d : ℕ) (op : Infix) (ps : List (Expr × Infix)) → Adds o z ws d
    → ps ≡ o.front.items ++ (z, op) ∷ []
    → reverse (map depth_of vs) ≡ behind_depths (reverse (map depth_of ws)) d (own (infix_join op))
    → reverse (map depth_of vs) ≡ depths (waiting [] (map item_of ps))
adds_keep o z ws vs d op ps a f w =
    w ∙ sym (with_depths o z ws d op a)
    ∙ ap (λ (f : Front). depths (waiting [] f)) (front_is o z op a.last_is ∙ sym (ap (map item_of) f ∙ map_push item_of o.front.items (z, op)))

-- a bound by all the parts, of which z is the last
abbrev pub parts_of : Front → ℕ
parts_of f = sum_by (λ (p : Item). deep t.expr p.0 + 1) f

pub parts_fit : (o : Ops) (z : E) (op : Infix) → last_of o ≡ Some z → parts_of (front_of o) + deep t.expr z + 2 < 2 ^ 32 → AllFit (front_with o op)
parts_fit o z op e h x y one g =
    let f : Item → ℕ = λ p. deep t.expr p.0 + 1 in
    let j : Join = infix_join op in
    omega (arith, within_parts 3 (front_with o op) x y g, ap (λ l. sum_by f (followed (front_of o) l j)) e, sum_by-append f (front_of o) ((z, j) ∷ []), sum_by-cons f (z, j) [])
