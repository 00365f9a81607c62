-- What is written to as it is rewritten, and the operators that are asked of the runtime.
use Rattle.std.specs.Prelude.{ℕ, ◌+◌, false, codes}
use Rattle.es3_tree.specs.declared.BinOp.{BinOp}
use Rattle.es3_tree.specs.declared.BinOp.TheVariants as bin
use Rattle.es3_tree.specs.Tree as t
use Rattle.cajita_tree.specs.Tree as c
use Rattle.rewrite_parts.specs.Held.{PlaceForm, variable, member, HeldForm, held_variable, held_member}
use Rattle.cajita_rewrite.specs.Rewrite.{rewritten, temps, temp, set_temp, runtime_call, pair, key_call}

-- a variable or a member, whose parts have the temporaries from the number n on
abbrev pub place_of : ℕ → c.Tree c.target → PlaceForm
place_of n (c.variable x) = variable x
place_of n (c.member e k) = member (rewritten false c.expr n e) (rewritten false c.key (n + temps c.expr e) k)

-- a member that is held by `x0___=e` or by `x0___=e,x1___=___.key(f)`, with the temporaries from the number n on and `more` behind them
abbrev pub held_of : ℕ → ℕ → c.Tree c.target → HeldForm
held_of n more (c.variable x) = held_variable x
held_of n more (c.member e (c.fixed k)) = held_member (set_temp n (rewritten false c.expr (n + (1 + more)) e)) n (t.text k) (n + 1)
held_of n more (c.member e (c.computed f)) =
    held_member (t.comma (set_temp n (rewritten false c.expr (n + (2 + more)) e)) (set_temp (n + 1) (key_call (rewritten false c.expr (n + (2 + more) + temps c.expr e) f)))) n (temp (n + 1)) (n + 2)

-- `in` and `instanceof` are asked of the runtime
abbrev pub guarded_binary : BinOp → t.Tree t.expr → t.Tree t.expr → t.Tree t.expr
guarded_binary bin.InObject a b = runtime_call (codes "inPub") (pair a b)
guarded_binary bin.InstanceOf a b = runtime_call (codes "instanceOf") (pair a b)
guarded_binary op a b = t.binary op a b
