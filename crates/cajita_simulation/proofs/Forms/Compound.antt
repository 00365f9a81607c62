-- `e.k op= v` and `e[f] op= v` (ES3 11.13.2): `x0___=e,___.setPub(x0___,"k",___.readPub(x0___,"k") op v)`.
use Rattle.std.proofs.Common.{ℕ, suc, ◌+◌, ◌≤◌, ◌<◌, List, [], ◌∷◌, Some, refl, sym, subst, arith}
use Rattle.std.specs.Prelude.{codes}
use Rattle.plans.specs.Plans.{bind, enter}
use Rattle.acts.specs.Acts.{Places, put}
use Rattle.matching.proofs.Rules.{right_enter}
use Rattle.es3_tree.specs.Tree as t
use Rattle.es3_tree.specs.declared.BinOp.{BinOp}
use Rattle.es3_objects.specs.declared.value.Value.TheVariants as es
use Rattle.es3_language.specs.Store.{Store}
use Rattle.es3_language.specs.References.{member}
use Rattle.es3_language.specs.Expressions.{binary_left, binary_right}
use Rattle.es3_language.specs.Meaning as Target
use Rattle.rows.specs.Guards as guards
use Rattle.rows.specs.Operators.{binary_row}
use Rattle.heap_rows.specs.Opening.{runtime_id}
use Rattle.cajita_tree.specs.Tree as c
use Rattle.cajita_rewrite.specs.Rewrite.{temp, temp_name, with_temp, with_temps, key_call, runtime_call, pair, triple}
use Rattle.cajita_meaning.specs.World.{Value, World, text}
use Rattle.cajita_meaning.specs.Direct as Direct
use Rattle.cajita_meaning.specs.Direct.{Item}
use Rattle.row_simulation.specs.OperatorLaw.{IsOfValues}
use Rattle.row_simulation.proofs.Tables.{tables}
use Rattle.page_natives.specs.Natives.{Kept}
use Rattle.cajita_simulation.proofs.Doing as Source
use Rattle.cajita_simulation.proofs.Heaps.Guards.{set_pub-guard}
use Rattle.cajita_simulation.proofs.Relation.{EsValue, Here, env_of, Tags, Temps, Rel, val_keep, rel_pay, rel_less, stays_step, stays_trans, stays_before}
use Rattle.cajita_simulation.proofs.Writes.{held_covers}
use Rattle.cajita_simulation.proofs.Laws.{ValueLaw, ValueBody, NextValue, Cont, Cont', M, Room, room_part, throws_from, value_from, with_part, ten}
use Rattle.cajita_simulation.proofs.Operators.{binary_match}
use Rattle.cajita_simulation.proofs.Rows.{Going}
use Rattle.cajita_simulation.proofs.Guarded.{asks, Passes, GivesIt, guarded}
use Rattle.cajita_simulation.proofs.Temporaries.{hold_there, room_held, value_covers, Evaluates, temp_evaluates, text_evaluates}
use Rattle.cajita_simulation.proofs.Forms.Put.{set_plain}
use Rattle.cajita_simulation.proofs.Forms.Member.{throws_past, set_match, pair_match, read_operands, write_operands, member_write}

-- what is done with the member's value u, and with the operand's x, where the key stands at the place l
abbrev on_read : Here → BinOp → c.Tree c.expr → ℕ → Places Value → Going
on_read H op v l at = Source.answered H (suc l) at (Direct.or_throw (λ u. Direct.compound op v H.around u (member_write H l)))

abbrev on_result : Here → ℕ → Places Value → Value → Value → Going
on_result H l at u x = Source.answered H (suc (suc (suc l))) (put (suc (suc l)) (x ∷ []) (put (suc l) (u ∷ []) at)) (Direct.or_throw (λ r. member_write H l r Direct.give))

abbrev on_write : Here → ℕ → Places Value → Value → Value → Value → Going
on_write H l at u x r = Source.answered H (suc (suc (suc (suc l)))) (put (suc (suc (suc l))) (r ∷ []) (put (suc (suc l)) (x ∷ []) (put (suc l) (u ∷ []) at))) (Direct.or_throw Direct.give)

-- the places are those of the object o, the key p and what comes of them
record AtPlaces (H : Here) (op : BinOp) (v : c.Tree c.expr) (l : ℕ) (at : Places Value) (o p : Value) : Type 0 where
  read : Passes (on_read H op v l at) (λ u w. enter (Source.value_of v H) w (Source.on_value_of (λ x w1. asks H (binary_row op) (u ∷ x ∷ []) w1 (on_result H l at u x))))
  result : (u x : Value) → Passes (on_result H l at u x) (λ r w. asks H (guards.set_pub 3) (o ∷ p ∷ r ∷ []) w (on_write H l at u x r))
  written : (u x r : Value) → GivesIt (on_write H l at u x r)

-- once the operands of the member can be read
rest : {H : Here} {T : Temps} {d a b q k i : ℕ} {v : c.Tree c.expr} {v' ex ky : t.Tree t.expr} {o p : Value} (op : BinOp) → IsOfValues op → H.by < 64 → Evaluates H T ex o → Evaluates H T ky p → a < d → Room H T b q → ValueLaw H d b q v v' → {w : World} {z : List Item} {n : ℕ} {g : Tags} {s : Store} {y : Kept} {m : ℕ} (l : ℕ) (at : Places Value) (next : Cont) (next' : Cont') → AtPlaces H op v l at o p → Rel H T (ten (ten k)) w z n g s y m → i ≤ m → NextValue H T a (suc k) w g s i next next'
    → M H a (bind (asks H (guards.read_pub 2) (o ∷ p ∷ []) w (on_read H op v l at)) next) z n (enter (Target.value_of (runtime_call (codes "setPub") (triple ex ky (t.binary op (runtime_call (codes "readPub") (pair ex ky)) v'))) (env_of H)) s next') y m
rest {H = H} {k = k} {v = v} {v' = v'} {ex = ex} {ky = ky} {o = o} {p = p} op own below evx evk lt room pv l at next next' are r few x =
    write_operands evx evk (t.binary op (runtime_call (codes "readPub") (pair ex ky)) v') next' r (λ e h m1 le1 is1 is2 r1.
    let writes : EsValue → Store → Target.Plan = λ u s1. Target.do_call (Target.called (member (es.Obj runtime_id) (codes "setPub"))) (e ∷ h ∷ u ∷ []) (env_of H) s1 in
    let then' : Cont' = λ e1 s1. bind (Target.on_value_of writes e1 s1) next' in
    right_enter (read_operands {k = suc k} {j = suc k} below evx evk (on_read H op v l at) _ next (λ e1 s1. bind (Target.on_value_of (binary_left op v' (env_of H)) e1 s1) then') are.read (rel_less (omega arith) (rel_pay r1)) (omega arith) (omega arith) (throws_past (throws_past x.throws)) (λ y2 u f w2 z2 s2 m2 is3 r2 k2.
    let k3 = stays_trans (stays_step (omega arith)) k2 in
    with_part {j = suc k} {i = m2} {go' = binary_right op f} lt room (omega arith) (omega arith) pv r2 (throws_past (throws_from {j = suc k} {k = suc k} (omega arith) (omega arith) k3 x.throws)) (λ c4 le4 x4 f4 w4 z4 n4 g4 s4 y4 m4 is4 r4 k4.
    binary_match op own u x4 f f4 (on_result H l at u x4) Target.give next then' (val_keep k4.heap u f is3) is4 r4 (λ r5 f5 z5 is5 r6.
    let keep = stays_trans k2 (stays_before k4) in
    subst (λ q. M H c4 (bind q next) z5 n4 (bind (writes f5 s4) next') y4 m4) (sym ((are.result u x4).value r5 w4))
    (guarded {j = suc k} {i = m4} below set_pub-guard (guards.set_pub 3) (tables.set_pub 3) set_plain (o ∷ p ∷ r5 ∷ []) (e ∷ h ∷ f5 ∷ []) (on_write H l at u x4 r5) next next' (record { plan = refl; kept = refl }) (are.written u x4 r5) (val_keep keep.heap o e is1, (val_keep keep.heap p h is2, (is5, tt))) r6 (omega arith) (omega arith) (value_from {j = suc k} {k = suc k} (omega arith) (omega arith) (stays_trans k3 (stays_before k4)) x)))))))

pub compound_member_body : {H : Here} {d b q qv : ℕ} {e v : c.Tree c.expr} {e' v' : t.Tree t.expr} (op : BinOp) → IsOfValues op → H.by < 64 → (us : List ℕ) → ValueLaw H d (b + 1) q e e' → ValueLaw H d (b + 1 + q) qv v v' → ValueBody H d b (1 + 0 + (q + 0 + qv)) (c.assign (Some op) (c.member e (c.fixed us)) v) (with_temp b e' (runtime_call (codes "setPub") (triple (temp b) (t.text us) (t.binary op (runtime_call (codes "readPub") (pair (temp b) (t.text us))) v'))))
compound_member_body {H = H} {b = b} {q = q} {v' = v'} op own below us pe pv = record {
  on = λ {T = T} {k = k} {m = m} {next = next} {next' = next'} lt room r x.
      let known = room.declared b (omega arith) (omega arith) in
      set_match {j = suc k} {k = suc (suc (suc (suc (suc (suc (suc (suc (ten (ten k)))))))))} {l = m} b next _ lt (room_part (omega arith) (omega arith) room) known (omega arith) (omega arith) pe (rel_less {j = ten (ten (ten k))} (omega arith) r) (throws_past x.throws) (λ c1 le1 o u w1 z1 n1 g1 s1 y1 m1 is1 r1 k1.
      rest {k = k} {i = m1} op own below (temp_evaluates b o (hold_there H.act (temp_name b) o T)) (text_evaluates us) (omega arith) (room_held {c = b + 1 + q} b o (omega arith) (omega arith) (omega arith) room) pv 2 (put 2 (text us ∷ []) (Source.one o)) next next' (record { read = record { value = λ u w. refl; thrown = λ u w. refl }; result = λ u x. record { value = λ r w. refl; thrown = λ r w. refl }; written = λ u x r. record { value = λ v w. refl; thrown = λ v w. refl } }) (rel_less (omega arith) r1) (omega arith) (value_covers (held_covers T H.act (temp_name b) o known) (value_from {j = suc k} {k = suc k} le1 (omega arith) k1 x)));
}

pub compound_key_body : {H : Here} {d b q qf qv : ℕ} {e f v : c.Tree c.expr} {e' f' v' : t.Tree t.expr} (op : BinOp) → IsOfValues op → H.by < 64 → ValueLaw H d (b + 2) q e e' → ValueLaw H d (b + 2 + q) qf f f' → ValueLaw H d (b + 2 + (q + qf)) qv v v' → ValueBody H d b (1 + 1 + (q + qf + qv)) (c.assign (Some op) (c.member e (c.computed f)) v) (with_temps b e' (key_call f') (runtime_call (codes "setPub") (triple (temp b) (temp (b + 1)) (t.binary op (runtime_call (codes "readPub") (pair (temp b) (temp (b + 1)))) v'))))
compound_key_body {H = H} {b = b} {q = q} {qf = qf} {qv = qv} op own below pe pf pv = record {
  on = λ {T = T} {k = k} {m = m} {next = next} {next' = next'} lt room r x.
      let few = room.few in
      right_enter (pair_match {j = suc k} {k = ten (ten k)} {l = suc m} b _ next _ below lt (room_part (omega arith) (omega arith) room) (room_part (omega arith) (omega arith) room) (room_part (omega arith) (omega arith) room) (omega arith) (omega arith) (omega arith) pe pf (rel_less (omega arith) (rel_pay r)) (throws_past (throws_from {j = suc k} {k = suc k} (omega arith) (omega arith) (stays_step (omega arith)) x.throws)) (λ c1 le1 o p key u w1 z1 n1 g1 s1 y1 m1 holding r1 k1.
      rest {k = k} {i = m1} op own below (temp_evaluates b o holding.object) (temp_evaluates (b + 1) key holding.key) (omega arith) (room_held {b = b + 2 + (q + qf)} {q = qv} {c = b + 2 + (q + qf)} {u = qv} (b + 1) key (omega arith) (omega arith) (omega arith) (room_held {c = b + 2 + (q + qf)} {u = qv} b o (omega arith) (omega arith) (omega arith) room)) pv 3 (put 3 (key ∷ []) (put 2 (p ∷ []) (Source.one o))) next next' (record { read = record { value = λ u w. refl; thrown = λ u w. refl }; result = λ u x. record { value = λ r w. refl; thrown = λ r w. refl }; written = λ u x r. record { value = λ v w. refl; thrown = λ v w. refl } }) (rel_less (omega arith) r1) (omega arith) (value_covers holding.covers (value_from {j = suc k} {k = suc k} le1 (omega arith) (stays_trans (stays_step (omega arith)) k1) x))));
}
