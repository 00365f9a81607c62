-- Members: `e.k` is `___.readPub(e,"k")`, and `e[f]` is `___.readPub(e,f)`.
use Rattle.std.proofs.Common.{ℕ, suc, ◌+◌, ◌<◌, true, false, List, [], ◌∷◌, cond, refl, arith}
use Rattle.std.specs.Prelude.{codes, is_some}
use Rattle.acts.specs.Acts.{put}
use Rattle.es3_tree.specs.Tree as t
use Rattle.rows.specs.Rows as r
use Rattle.rows.specs.Rows.{Handle, Sight}
use Rattle.rows.specs.Public.{value_at, pub_get}
use Rattle.rows.specs.Guards as guards
use Rattle.cajita_tree.specs.Tree as c
use Rattle.cajita_rewrite.specs.Rewrite.{runtime_call, pair, rewritten, temps}
use Rattle.cajita_meaning.specs.Direct as Direct
use Rattle.row_simulation.proofs.Tables.{tables}
use Rattle.cajita_simulation.proofs.Doing as Source
use Rattle.cajita_simulation.proofs.Heaps.Guards.{read_pub-guard}
use Rattle.cajita_simulation.specs.Guest.{Guest}
use Rattle.cajita_simulation.proofs.Relation.{Here, val_keep, stays_step}
use Rattle.cajita_simulation.proofs.Laws.{ValueLaw, ValueBody, value_since, value_from, room_part, with_part}
use Rattle.cajita_simulation.proofs.Forms.Values.{Values}
use Rattle.cajita_simulation.proofs.Forms.Key.{key_match}
use Rattle.cajita_simulation.proofs.Calls.{callee_match}
use Rattle.cajita_simulation.proofs.Rows.{EndsPlainly, IsPlain}
use Rattle.cajita_simulation.proofs.Guarded.{guarded}

-- it answers or throws

read_ends : (s : Sight) (o : Handle) (k : List ℕ) → EndsPlainly (guards.read_end s o k)
read_ends (r.a_record frozen ps) o k = elim (is_some (value_at k ps)) as (λ b. EndsPlainly (cond b (r.reads_key o k (pub_get o (r.a_record frozen ps) k)) (r.answers (pub_get o (r.a_record frozen ps) k)))) [
  | true ↦ tt
  | false ↦ tt
]
read_ends s o k = tt

pub read_plain : IsPlain (guards.read_pub 2)
read_plain = λ s. by_sight s
  where
    by_sight : (s : Sight) → IsPlain (guards.on_object r.to_get (r.held 0) (r.held 1) (λ s k. r.ends (guards.read_end s (r.held 0) k)) s)
    by_sight r.nothing = tt
    by_sight r.a_null = tt
    by_sight s = λ us. read_ends s (r.held 0) us

pub read_body : {H : Here} {d b q : ℕ} {e : c.Tree c.expr} {e' : t.Tree t.expr} → H.by < 64 → (law : Values H d) → ValueLaw H d b q e e' → (key : c.Tree c.key) → Guest H.vars H.free c.key key → ValueBody H d b (q + temps c.key key) (c.read e key) (runtime_call (codes "readPub") (pair e' (rewritten false c.key (b + q) key)))
read_body {H = H} {b = b} {q = q} {e' = e'} below law pe key guest = record {
  on = λ {k = k} {next = next} {next' = next'} lt room r x.
      callee_match (codes "readPub") (pair e' (rewritten false c.key (b + q) key)) next' r (λ r1.
      with_part lt (room_part (omega arith) (omega arith) room) (omega arith) (omega arith) pe r1 x.throws (λ c1 le1 v u w1 z1 n1 g1 s1 y1 m1 is1 r2 k1.
      let x1 = value_since le1 k1 (value_from {j = suc k} {k = suc k} (omega arith) (omega arith) (stays_step (omega arith)) x) in
      key_match law key guest 2 (Source.one v) _ _ next next' (omega arith) (room_part (omega arith) (omega arith) room) (omega arith) (omega arith) r2 x1.throws (λ c2 le2 p f w2 z2 n2 g2 s2 y2 m2 is2 r3 k2.
      guarded {j = suc k} below read_pub-guard (guards.read_pub 2) (tables.read_pub 2) read_plain (v ∷ p ∷ []) (u ∷ f ∷ []) (Source.answered H 3 (put 2 (p ∷ []) (Source.one v)) (Direct.or_throw Direct.give)) next next' (record { plan = refl; kept = refl }) (record { value = λ v w. refl; thrown = λ v w. refl }) (val_keep k2.heap v u is1, (is2, tt)) r3 (omega arith) (omega arith) (value_since le2 k2 x1))));
}
