-- A lowered body is as deep as its statements may be, and the function that takes a receiver and has it little deeper.
use Rattle.std.proofs.Common.{ℕ, ◌+◌, ◌≤◌, List, ◌++◌, arith}
use Rattle.es3_tree.specs.Tree as t
use Rattle.es3_tree.specs.Placed.{Placed, Word}
use Rattle.cajita_names.specs.Scope.{Scope}
use Rattle.valija_forms.specs.Forms.{temporaries_from, taking_receiver}
use Rattle.valija_parts.specs.Lower.{lowered, loop_names, within}
use Rattle.valija_nesting.proofs.Parts.{Nests, deeper}
use Rattle.valija_nesting.proofs.Bodies.{lowered_body, declaring_nests, receiver_function_nests, body_declares}
use Rattle.valija_nesting.proofs.Lowered.{W, Lines}

no_less : (n : ℕ) → n ≤ n
no_less n = omega arith

pub body_nests : (s : Scope) (body : Placed t.stmts) → Lines body → Nests t.stmts (W t.stmts body) (lowered_body s body)
body_nests s body h =
    let g = h.gives s in
    let few : 1 ≤ W t.stmts body = omega arith in
    declaring_nests (temporaries_from 0 (lowered s t.stmts body 0).1 ++ loop_names body) few (h.functions s (W t.stmts body) (lowered s t.stmts body 0).0 (no_less (W t.stmts body)) (g.at 0))

-- a function of the source, with these parameters and this body
pub function_nests_so : (s : Scope) (ps : List Word) (body : Placed t.stmts) → Lines body → Nests t.expr (5 + W t.stmts body) (taking_receiver ps (lowered_body (within s ps body) body))
function_nests_so s ps body h =
    deeper (receiver_function_nests ps (lowered_body (within s ps body) body) (body_declares (within s ps body) body) (body_nests (within s ps body) body h)) (omega arith)
