-- The tree of operands and operators, made with what waits.
use Rattle.std.proofs.Common.{◌≡◌, ℕ, [], ◌∷◌, map, reverse, length, Some, option_map, Result, Ok, Err, IfOk, ap, arith}
use Rattle.es3_tree.specs.declared.Expr.{Expr}
use Rattle.es3_tree.specs.PlacedView.{expr}
use Rattle.es3_grammar.specs.Levels.{E}
use Rattle.es3_ops.specs.declared.grouping.Ops.{Ops}
use Rattle.es3_ops.specs.Grouped.{Grouped}
use Rattle.es3_ops.specs.Listed.{front_of, last_of}
use Rattle.es3_ops.specs.Views.{item_of, left_of}
use Rattle.es3_ops.specs.Waiting.{closed, waiting}
use Rattle.es3_ops.proofs.Exists.{some_closed}
use Rattle.es3_ops.proofs.Closing.{Parts}
use Rattle.es3_ops.proofs.Adding.{items_above}

pub nothing_left : (ps ws rest : Parts) → length rest ≡ 0 → waiting (reverse (map left_of ws)) (map item_of rest) ≡ waiting [] (map item_of ps) → reverse (map left_of ws) ≡ waiting [] (map item_of ps)
nothing_left ps ws [] l e = e
nothing_left ps ws (p ∷ rest) l e = absurd (omega arith)

pub whole : (F : Type 0) (o : Ops) (z : Expr) (ws : Parts) (n : ℕ) (r : Result Expr F) → o.last ≡ Some z
    → reverse (map left_of ws) ≡ waiting [] (map item_of o.front.items) → n ≡ 3
    → IfOk r (λ t. expr t ≡ closed n (reverse (map left_of ws)) (expr z)) → IfOk r (λ t. (x : E) → last_of o ≡ Some x → Grouped 3 (front_of o) x (expr t))
whole F o z ws n (Err f) l e i h = tt
whole F o z ws n (Ok t) l e i h = λ x m.
    let k : x ≡ expr z = cc (m, ap (option_map expr) l) in
    rw (h, i, e, k) (some_closed (front_of o) (expr z) (items_above o.front.items))
