-- Members written: `e.k = v` is `___.setPub(e,"k",v)`, and `e[f] = v` is `___.setPub(e,f,v)`.
use Rattle.std.proofs.Common.{ℕ, suc, ◌+◌, ◌<◌, false, List, [], ◌∷◌, refl, arith}
use Rattle.acts.specs.Acts.{put}
use Rattle.std.specs.Prelude.{codes, None}
use Rattle.es3_tree.specs.Tree as t
use Rattle.rows.specs.Rows as r
use Rattle.rows.specs.Rows.{Sight}
use Rattle.rows.specs.Public.{Change, refused, of_key, of_item, pub_set}
use Rattle.rows.specs.Guards as guards
use Rattle.cajita_tree.specs.Tree as c
use Rattle.cajita_rewrite.specs.Rewrite.{runtime_call, triple, rewritten, temps}
use Rattle.cajita_meaning.specs.Direct as Direct
use Rattle.row_simulation.proofs.Tables.{tables}
use Rattle.cajita_simulation.specs.Guest.{Guest}
use Rattle.cajita_simulation.proofs.Doing as Source
use Rattle.cajita_simulation.proofs.Heaps.Guards.{set_pub-guard}
use Rattle.cajita_simulation.proofs.Relation.{Here, val_keep, stays_step}
use Rattle.cajita_simulation.proofs.Laws.{ValueLaw, ValueBody, value_since, value_from, room_part, with_part}
use Rattle.cajita_simulation.proofs.Calls.{callee_match}
use Rattle.cajita_simulation.proofs.Rows.{EndsPlainly, IsPlain}
use Rattle.cajita_simulation.proofs.Guarded.{guarded}
use Rattle.cajita_simulation.proofs.Forms.Values.{Values}
use Rattle.cajita_simulation.proofs.Forms.Key.{key_match}

-- it answers or throws

item_ends : (i : ℕ) (s : Sight) (o : r.Handle) (k : List ℕ) (v : r.Handle) → EndsPlainly (guards.write_end (of_item i) s o k v)
item_ends i (r.an_array frozen xs) o k v = tt
item_ends i s o k v = tt

change_ends : (q : Change) (s : Sight) (o : r.Handle) (k : List ℕ) (v : r.Handle) → EndsPlainly (guards.write_end q s o k v)
change_ends (refused message) s o k v = tt
change_ends of_key s o k v = tt
change_ends (of_item i) s o k v = item_ends i s o k v

pub set_plain : IsPlain (guards.set_pub 3)
set_plain = λ s. by_sight s
  where
    by_sight : (s : Sight) → IsPlain (guards.on_object r.to_set (r.held 0) (r.held 1) (λ s k. r.ends (guards.write_end (pub_set s k) s (r.held 0) k (r.held 2))) s)
    by_sight r.nothing = tt
    by_sight r.a_null = tt
    by_sight s = λ us. change_ends (pub_set s us) s (r.held 0) us (r.held 2)

pub put_body : {H : Here} {d b q qv : ℕ} {e v : c.Tree c.expr} {e' v' : t.Tree t.expr} → H.by < 64 → (law : Values H d) → ValueLaw H d b q e e' → (key : c.Tree c.key) → Guest H.vars H.free c.key key → ValueLaw H d (b + (q + temps c.key key)) qv v v' → ValueBody H d b (q + temps c.key key + qv) (c.assign None (c.member e key) v) (runtime_call (codes "setPub") (triple e' (rewritten false c.key (b + q) key) v'))
put_body {H = H} {b = b} {q = q} {e' = e'} {v' = v'} below law pe key guest pv = record {
  on = λ {k = k} {next = next} {next' = next'} lt room r x.
      callee_match (codes "setPub") (triple e' (rewritten false c.key (b + q) key) v') next' r (λ r1.
      with_part lt (room_part (omega arith) (omega arith) room) (omega arith) (omega arith) pe r1 x.throws (λ c1 le1 v u w1 z1 n1 g1 s1 y1 m1 is1 r2 k1.
      let x1 = value_since le1 k1 (value_from {j = suc k} {k = suc k} (omega arith) (omega arith) (stays_step (omega arith)) x) in
      key_match law key guest 2 (Source.one v) _ _ next next' (omega arith) (room_part (omega arith) (omega arith) room) (omega arith) (omega arith) r2 x1.throws (λ c2 le2 p f w2 z2 n2 g2 s2 y2 m2 is2 r3 k2.
      let x2 = value_since le2 k2 x1 in
      with_part (omega arith) (room_part (omega arith) (omega arith) room) (omega arith) (omega arith) pv r3 x2.throws (λ c3 le3 o h w3 z3 n3 g3 s3 y3 m3 is3 r4 k3.
      guarded {j = suc k} below set_pub-guard (guards.set_pub 3) (tables.set_pub 3) set_plain (v ∷ p ∷ o ∷ []) (u ∷ f ∷ h ∷ []) (Source.answered H 4 (put 3 (o ∷ []) (put 2 (p ∷ []) (Source.one v))) (Direct.or_throw Direct.give)) next next' (record { plan = refl; kept = refl }) (record { value = λ v w. refl; thrown = λ v w. refl }) (val_keep k3.heap v u (val_keep k2.heap v u is1), (val_keep k3.heap p f is2, (is3, tt))) r4 (omega arith) (omega arith) (value_since le3 k3 x2)))));
}
