-- What is to be shown of each part of a program: what it is lowered to stands for what nests at most six times as deep as the part, and eight more.
use Rattle.std.proofs.Common.{ℕ, ◌+◌, ◌*◌, ◌≤◌}
use Rattle.es3_tree.specs.Tree as t
use Rattle.es3_tree.specs.Placed.{Placed}
use Rattle.es3_tree.specs.Measure.{nest}
use Rattle.es3_grammar.specs.Plain.{plain}
use Rattle.cajita_names.specs.Scope.{Scope}
use Rattle.valija_forms.specs.Forms.{joined}
use Rattle.valija_parts.specs.Lower.{lowered, written, functions_before}
use Rattle.valija_nesting.proofs.Parts.{Nests, Gives}

abbrev pub W : (k : t.Sort) → Placed k → ℕ
W k x = 6 * nest k (plain k x) + 8

pub record Part (k : t.Sort) (x : Placed k) : Type 0 where
  pub gives : (s : Scope) → Gives k (W k x) (lowered s k x)

-- statements, and the functions that they declare as a body, in front of others
pub record Lines (ss : Placed t.stmts) : Type 0 where
  pub gives : (s : Scope) → Gives t.stmts (W t.stmts ss) (lowered s t.stmts ss)
  pub functions : (s : Scope) (n : ℕ) (rest : Placed t.stmts) → W t.stmts ss ≤ n → Nests t.stmts n rest → Nests t.stmts n (joined (functions_before s ss) rest)

-- what the head of a `for` .. `in` names, to which a key is written
pub record Target (i : Placed t.loop_target) : Type 0 where
  pub gives : (s : Scope) (v : Placed t.expr) → Nests t.expr 3 v → Gives t.expr (W t.loop_target i) (written s i v)
