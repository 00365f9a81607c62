-- `a in b` is `___.inPub(a,b)`, and `a instanceof b` is `___.instanceOf(a,b)`.
use Rattle.std.proofs.Common.{ℕ, suc, ◌+◌, ◌<◌, [], ◌∷◌, Option, Some, None, refl, arith}
use Rattle.acts.specs.Acts.{put}
use Rattle.std.specs.Prelude.{codes, Bool}
use Rattle.es3_tree.specs.Tree as t
use Rattle.es3_tree.specs.declared.BinOp.TheVariants as bin
use Rattle.rows.specs.Rows as r
use Rattle.rows.specs.Rows.{Sight}
use Rattle.rows.specs.Public.{pub_has}
use Rattle.rows.specs.Guards as guards
use Rattle.cajita_tree.specs.Tree as c
use Rattle.cajita_rewrite.specs.Rewrite.{runtime_call, pair}
use Rattle.cajita_meaning.specs.Direct as Direct
use Rattle.row_simulation.proofs.Tables.{tables}
use Rattle.cajita_simulation.proofs.Doing as Source
use Rattle.cajita_simulation.proofs.Heaps.Guards.{in_pub-guard, instance_of-guard}
use Rattle.cajita_simulation.proofs.Relation.{Here, val_keep, stays_step}
use Rattle.cajita_simulation.proofs.Laws.{ValueLaw, ValueBody, value_since, value_from, room_part, with_part}
use Rattle.cajita_simulation.proofs.Calls.{callee_match}
use Rattle.cajita_simulation.proofs.Rows.{EndsPlainly, IsPlain}
use Rattle.cajita_simulation.proofs.Guarded.{guarded}

-- they answer or throw

has_ends : (o : Option Bool) → EndsPlainly (guards.has_end o)
has_ends None = tt
has_ends (Some b) = tt

pub in_plain : IsPlain guards.in_pub
in_plain = λ k s. has_ends (pub_has s k)

instance_plain : IsPlain guards.instance_of
instance_plain = λ s. by_sight s
  where
    by_sight : (s : Sight) → IsPlain (guards.instance_row s)
    by_sight (r.a_function sort) = λ q. tt
    by_sight s = tt

pub in_body : {H : Here} {d b qx qy : ℕ} {x y : c.Tree c.expr} {x' y' : t.Tree t.expr} → H.by < 64 → ValueLaw H d b qx x x' → ValueLaw H d (b + qx) qy y y' → ValueBody H d b (qx + qy) (c.binary bin.InObject x y) (runtime_call (codes "inPub") (pair x' y'))
in_body {H = H} {x' = x'} {y' = y'} below px py = record {
  on = λ {k = k} {next = next} {next' = next'} lt room r x1.
      callee_match (codes "inPub") (pair x' y') next' r (λ r1.
      with_part lt (room_part (omega arith) (omega arith) room) (omega arith) (omega arith) px r1 x1.throws (λ c1 le1 v u w1 z1 n1 g1 s1 y1 m1 is1 r2 k1.
      let x2 = value_since le1 k1 (value_from {j = suc k} {k = suc k} (omega arith) (omega arith) (stays_step (omega arith)) x1) in
      with_part (omega arith) (room_part (omega arith) (omega arith) room) (omega arith) (omega arith) py r2 x2.throws (λ c2 le2 p f w2 z2 n2 g2 s2 y2 m2 is2 r3 k2.
      guarded {j = suc k} below in_pub-guard guards.in_pub tables.in_pub in_plain (v ∷ p ∷ []) (u ∷ f ∷ []) (Source.answered H 3 (put 2 (p ∷ []) (Source.one v)) (Direct.or_throw Direct.give)) next next' (record { plan = refl; kept = refl }) (record { value = λ v w. refl; thrown = λ v w. refl }) (val_keep k2.heap v u is1, (is2, tt)) r3 (omega arith) (omega arith) (value_since le2 k2 x2))));
}

pub instance_body : {H : Here} {d b qx qy : ℕ} {x y : c.Tree c.expr} {x' y' : t.Tree t.expr} → H.by < 64 → ValueLaw H d b qx x x' → ValueLaw H d (b + qx) qy y y' → ValueBody H d b (qx + qy) (c.binary bin.InstanceOf x y) (runtime_call (codes "instanceOf") (pair x' y'))
instance_body {H = H} {x' = x'} {y' = y'} below px py = record {
  on = λ {k = k} {next = next} {next' = next'} lt room r x1.
      callee_match (codes "instanceOf") (pair x' y') next' r (λ r1.
      with_part lt (room_part (omega arith) (omega arith) room) (omega arith) (omega arith) px r1 x1.throws (λ c1 le1 v u w1 z1 n1 g1 s1 y1 m1 is1 r2 k1.
      let x2 = value_since le1 k1 (value_from {j = suc k} {k = suc k} (omega arith) (omega arith) (stays_step (omega arith)) x1) in
      with_part (omega arith) (room_part (omega arith) (omega arith) room) (omega arith) (omega arith) py r2 x2.throws (λ c2 le2 p f w2 z2 n2 g2 s2 y2 m2 is2 r3 k2.
      guarded {j = suc k} below instance_of-guard guards.instance_of (tables.binary bin.InstanceOf) instance_plain (v ∷ p ∷ []) (u ∷ f ∷ []) (Source.answered H 3 (put 2 (p ∷ []) (Source.one v)) (Direct.or_throw Direct.give)) next next' (record { plan = refl; kept = refl }) (record { value = λ v w. refl; thrown = λ v w. refl }) (val_keep k2.heap v u is1, (is2, tt)) r3 (omega arith) (omega arith) (value_since le2 k2 x2))));
}
