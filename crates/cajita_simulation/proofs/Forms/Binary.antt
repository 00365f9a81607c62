-- Operators of two values: `e op f` (ES3 11.5 to 11.10).
use Rattle.std.proofs.Common.{ℕ, ◌+◌, arith}
use Rattle.es3_tree.specs.Tree as t
use Rattle.es3_tree.specs.declared.BinOp.{BinOp}
use Rattle.es3_language.specs.Meaning as Target
use Rattle.cajita_tree.specs.Tree as c
use Rattle.cajita_meaning.specs.Direct as Direct
use Rattle.row_simulation.specs.OperatorLaw.{IsOfValues}
use Rattle.cajita_simulation.proofs.Doing as Source
use Rattle.cajita_simulation.proofs.Relation.{Here, val_keep}
use Rattle.cajita_simulation.proofs.Laws.{ValueLaw, ValueBody, value_since, room_part, with_part, give}
use Rattle.cajita_simulation.proofs.Operators.{binary_match}

pub binary_body : {H : Here} {d b qx qy : ℕ} {x y : c.Tree c.expr} {x' y' : t.Tree t.expr} (op : BinOp) → IsOfValues op → ValueLaw H d b qx x x' → ValueLaw H d (b + qx) qy y y' → ValueBody H d b (qx + qy) (c.binary op x y) (t.binary op x' y')
binary_body {H = H} op own px py = record {
  on = λ {k = k} {next = next} {next' = next'} lt room r x.
      with_part lt (room_part (omega arith) (omega arith) room) (omega arith) (omega arith) px r x.throws (λ c1 le1 v1 e1 w1 z1 n1 g1 s1 y1 m1 is1 r1 k1.
      let x1 = value_since le1 k1 x in
      with_part (omega arith) (room_part (omega arith) (omega arith) room) (omega arith) (omega arith) py r1 x1.throws (λ c2 le2 v2 e2 w2 z2 n2 g2 s2 y2 m2 is2 r2 k2.
      let x2 = value_since le2 k2 x1 in
      binary_match op own v1 v2 e1 e2 (Source.answered H 3 _ (Direct.or_throw Direct.give)) Target.give next next' (val_keep k2.heap v1 e1 is1) is2 r2 (λ v e z is r3. give (omega arith) (omega arith) x2 is r3)));
}
