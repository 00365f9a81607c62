-- `e.k++` and `e[f]--` (ES3 11.3): a temporary holds the number before, which is the value.
use Rattle.std.proofs.Common.{◌≡◌, ℕ, suc, ◌+◌, ◌≤◌, ◌<◌, Bool, false, List, [], ◌∷◌, refl, sym, ap, subst, arith}
use Rattle.std.specs.Prelude.{ℤ, pos, codes}
use Rattle.plans.specs.Plans.{bind, enter}
use Rattle.acts.specs.Acts.{Places, put}
use Rattle.matching.proofs.Rules.{right_enter}
use Rattle.es3_tree.specs.Tree as t
use Rattle.es3_tree.specs.declared.UnOp.TheVariants as un
use Rattle.es3_objects.specs.declared.value.Value.TheVariants as es
use Rattle.es3_heap.specs.Objects.{Objects}
use Rattle.es3_language.specs.Store.{Store}
use Rattle.es3_language.specs.References.{slot, member}
use Rattle.es3_language.specs.Expressions.{assign_value, binary_left, comma_right, convert_plan}
use Rattle.es3_language.specs.Meaning as Target
use Rattle.rows.specs.Guards as guards
use Rattle.rows.specs.Operators.{to_number, next_number}
use Rattle.heap_rows.specs.Opening.{runtime_id}
use Rattle.cajita_tree.specs.Tree as c
use Rattle.cajita_rewrite.specs.Rewrite.{temp, temp_name, set_temp, with_temps, key_call, by_one, runtime_call, pair, triple}
use Rattle.cajita_meaning.specs.World.{Value, number, World, text}
use Rattle.cajita_meaning.specs.Direct as Direct
use Rattle.cajita_meaning.specs.Direct.{Item}
use Rattle.row_simulation.proofs.Tables.{tables}
use Rattle.page_natives.specs.Natives.{Kept}
use Rattle.cajita_simulation.proofs.Doing as Source
use Rattle.cajita_simulation.proofs.Heaps.Guards.{set_pub-guard}
use Rattle.cajita_simulation.proofs.Relation.{EsValue, Val, Here, env_of, Tags, Temps, declared, Rel, rel_pay, rel_less, stays_step, stays_trans}
use Rattle.cajita_simulation.proofs.Writes.{held_covers}
use Rattle.cajita_simulation.proofs.Laws.{ValueLaw, ValueBody, NextValue, Cont, Cont', M, room_part, throws_from, value_from, hold, ten}
use Rattle.cajita_simulation.proofs.Operators.{numbered_match}
use Rattle.cajita_simulation.proofs.Rows.{Going}
use Rattle.cajita_simulation.proofs.Guarded.{asks, Passes, guarded_on}
use Rattle.cajita_simulation.proofs.Temporaries.{hold_there, hold_other, value_covers, temp_match, temp_read, Evaluates, temp_evaluates, text_evaluates}
use Rattle.cajita_simulation.proofs.Forms.Put.{set_plain}
use Rattle.cajita_simulation.proofs.Forms.Member.{both, throws_past, set_enter, set_match, pair_match, read_operands, write_operands, member_write}
use Rattle.cajita_simulation.proofs.Forms.Step.{operator, one_match}

-- what is done with the member's value u, with its number b and with the number r that is written, where the key stands at the place l

abbrev on_read : Here → Bool → ℕ → Places Value → Going
on_read H up l at = Source.answered H (suc l) at (Direct.or_throw (λ u. Direct.stepped up false H.around u (member_write H l)))

abbrev on_number : Here → Bool → ℕ → Places Value → Value → Going
on_number H up l at u = Source.answered H (suc (suc l)) (put (suc l) (u ∷ []) at) (Direct.or_throw (λ b. Direct.the_row (next_number up) H.around (b ∷ []) (λ r. member_write H l r (λ o. Direct.give b))))

abbrev on_next : Here → ℕ → Places Value → Value → Value → Going
on_next H l at u b = Source.answered H (suc (suc (suc l))) (put (suc (suc l)) (b ∷ []) (put (suc l) (u ∷ []) at)) (Direct.or_throw (λ r. member_write H l r (λ o. Direct.give (suc (suc l)))))

abbrev on_write : Here → ℕ → Places Value → Value → Value → Value → Going
on_write H l at u b r = Source.answered H (suc (suc (suc (suc l)))) (put (suc (suc (suc l))) (r ∷ []) (put (suc (suc l)) (b ∷ []) (put (suc l) (u ∷ []) at))) (Direct.or_throw (λ o. Direct.give (suc (suc l))))

record AtPlaces (H : Here) (up : Bool) (l : ℕ) (at : Places Value) (o p : Value) : Type 0 where
  read : Passes (on_read H up l at) (λ u w. asks H to_number (u ∷ []) w (on_number H up l at u))
  counted : (u : Value) → Passes (on_number H up l at u) (λ b w. asks H (next_number up) (b ∷ []) w (on_next H l at u b))
  next : (u b : Value) → Passes (on_next H l at u b) (λ r w. asks H (guards.set_pub 3) (o ∷ p ∷ r ∷ []) w (on_write H l at u b r))
  written : (u b r : Value) → Passes (on_write H l at u b r) (λ v w. Source.give b w)

is_number : (h : Objects) (i : ℤ) (e : EsValue) → Val h (number i) e → es.Num i ≡ e
is_number h i (es.Num j) is = ap es.Num is
is_number h i _ is = absurd is

-- what stands behind the operands of the member, with the temporary j
rest : {H : Here} {T : Temps} {a k i : ℕ} {ex ky : t.Tree t.expr} {o p : Value} (up : Bool) → H.by < 64 → (j : ℕ) → T H.act (temp_name j) ≡ declared → Evaluates H T ex o → Evaluates H T ky p → ((v : Value) → Evaluates H (hold H.act (temp_name j) v T) ex o) → ((v : Value) → Evaluates H (hold H.act (temp_name j) v T) ky p) → {w : World} {z : List Item} {n : ℕ} {g : Tags} {s : Store} {y : Kept} {m : ℕ} (l : ℕ) (at : Places Value) (next : Cont) (next' : Cont') → AtPlaces H up l at o p → Rel H T (ten (ten k)) w z n g s y m → i ≤ m → NextValue H T a (suc k) w g s i next next'
    → M H a (bind (asks H (guards.read_pub 2) (o ∷ p ∷ []) w (on_read H up l at)) next) z n (enter (Target.value_of (set_temp j (t.unary un.Plus (runtime_call (codes "readPub") (pair ex ky)))) (env_of H)) s (λ e1 s1. bind (Target.on_value_of (comma_right (runtime_call (codes "setPub") (triple ex ky (by_one up (temp j)))) (env_of H)) e1 s1) (λ e2 s2. bind (Target.on_value_of (comma_right (temp j) (env_of H)) e2 s2) next'))) y m
rest {H = H} {T = T} {a = a} {k = k} {ex = ex} {ky = ky} {o = o} {p = p} up below j known evx evk evx1 evk1 {n = n} {y = y} {m = m} l at next next' are r few x =
    let ends' : Cont' = λ e2 s2. bind (Target.on_value_of (comma_right (temp j) (env_of H)) e2 s2) next' in
    let then' : Cont' = λ e1 s1. bind (Target.on_value_of (comma_right (runtime_call (codes "setPub") (triple ex ky (by_one up (temp j)))) (env_of H)) e1 s1) ends' in
    let sets' : Cont' = λ e1 s1. bind (Target.on_value_of (assign_value (slot H.act (temp_name j)) (env_of H)) e1 s1) then' in
    set_enter j (t.unary un.Plus (runtime_call (codes "readPub") (pair ex ky))) then' known r (λ r1.
    right_enter (read_operands {k = suc (ten k)} {j = suc k} below evx evk (on_read H up l at) _ next (λ e1 s1. bind (Target.on_value_of (convert_plan un.Plus) e1 s1) sets') are.read (rel_less (omega arith) (rel_pay r1)) (omega arith) (omega arith) (throws_past (throws_past (throws_past (throws_past x.throws)))) (λ y2 u f w2 z2 s2 m2 is3 r2 k2.
    numbered_match u f (on_number H up l at u) Target.give next sets' is3 r2 (λ b z3 r3.
    subst (λ q. M H a (bind q next) z3 n (sets' (Target.gave (es.Num b)) s2) y2 m2) (sym ((are.counted u).value (number b) w2))
    (temp_match j (number b) (es.Num b) then' known refl r3 (λ s4 r4 k4.
    let T1 = hold H.act (temp_name j) (number b) T in
    let held1 = hold_there H.act (temp_name j) (number b) T in
    write_operands (evx1 (number b)) (evk1 (number b)) (by_one up (temp j)) ends' r4 (λ e h m5 le5 is5 is6 r5.
    let writes : EsValue → Store → Target.Plan = λ u1 s1. Target.do_call (Target.called (member (es.Obj runtime_id) (codes "setPub"))) (e ∷ h ∷ u1 ∷ []) (env_of H) s1 in
    let written' : Cont' = λ e1 s1. bind (Target.on_value_of writes e1 s1) ends' in
    let adds' : Cont' = λ e1 s1. bind (Target.on_value_of (binary_left (operator up) (t.num (pos 1)) (env_of H)) e1 s1) written' in
    right_enter (temp_read j (number b) adds' held1 (rel_pay r5) (λ e6 is7 r6.
    subst (λ q. M H a (bind (asks H (next_number up) (number b ∷ []) w2 (on_next H l at u (number b))) next) z3 n (adds' (Target.gave q) s4) y2 (suc (suc m5))) (is_number s4.heap b e6 is7)
    (one_match up (number b) (es.Num b) b (on_next H l at u (number b)) next written' refl refl r6 (λ r7 f7 z7 is8 r8.
    subst (λ q. M H a (bind q next) z7 n (bind (writes f7 s4) ends') y2 (suc (suc (suc m5)))) (sym ((are.next u (number b)).value r7 w2))
    (let keep = stays_trans (stays_trans (stays_step (omega arith)) k2) (stays_trans k4 (stays_step (omega arith))) in
    let x1 = value_covers (held_covers T H.act (temp_name j) (number b) known) (value_from {j = suc k} {k = suc k} (omega arith) (omega arith) keep x) in
    guarded_on {j = suc k} {i = suc (suc (suc m5))} below set_pub-guard (guards.set_pub 3) (tables.set_pub 3) set_plain (o ∷ p ∷ r7 ∷ []) (e ∷ h ∷ f7 ∷ []) (on_write H l at u (number b) r7) (λ v w1. Source.give (number b) w1) next ends' (record { plan = refl; kept = refl }) (are.written u (number b) r7) (is5, (is6, (is8, tt))) r8 (omega arith) (omega arith) (throws_past x1.throws) (λ y9 v9 e9 w9 z9 s9 is9 r9 k9.
    temp_read j (number b) next' held1 r9 (λ e10 is10 r10.
    x1.gives.on a (omega arith) (number b) e10 w9 z9 n _ s9 y9 _ is10 (rel_less (omega arith) r10) (stays_trans k9 (stays_step (omega arith)))))))))))))))))

pub behind_body : {H : Here} {d b q : ℕ} {e : c.Tree c.expr} {e' : t.Tree t.expr} (up : Bool) → H.by < 64 → (us : List ℕ) → ValueLaw H d (b + 2) q e e' → ValueBody H d b (2 + 0 + (q + 0)) (c.step up false (c.member e (c.fixed us))) (t.comma (with_temps b e' (t.unary un.Plus (runtime_call (codes "readPub") (pair (temp b) (t.text us)))) (runtime_call (codes "setPub") (triple (temp b) (t.text us) (by_one up (temp (b + 1)))))) (temp (b + 1)))
behind_body {H = H} {b = b} up below us pe = record {
  on = λ {T = T} {k = k} {m = m} {next = next} {next' = next'} lt room r x.
      let few = room.few in
      let known = room.declared b (omega arith) (omega arith) in
      right_enter (right_enter (set_match {j = suc k} {k = ten (ten (suc k))} {l = suc (suc m)} b next _ lt (room_part (omega arith) (omega arith) room) known (omega arith) (omega arith) pe (rel_less (omega arith) (rel_pay (rel_pay r))) (throws_past (throws_past (throws_past (throws_from {j = suc k} {k = suc k} (omega arith) (omega arith) (stays_step (omega arith)) x.throws)))) (λ c1 le1 o u w1 z1 n1 g1 s1 y1 m1 is1 r1 k1.
      let T1 = hold H.act (temp_name b) o T in
      let held1 = hold_there H.act (temp_name b) o T in
      rest {k = k} {i = m1} up below (b + 1) (hold_other H.act b (b + 1) o T _ (λ e. omega (arith, e)) (omega arith) (omega arith) (room.declared (b + 1) (omega arith) (omega arith))) (temp_evaluates b o held1) (text_evaluates us) (λ v. temp_evaluates b o (hold_other H.act (b + 1) b v T1 _ (λ e. omega (arith, e)) (omega arith) (omega arith) held1)) (λ v. text_evaluates us) 2 (put 2 (text us ∷ []) (Source.one o)) next next' (record { read = record { value = λ u w. refl; thrown = λ u w. refl }; counted = λ u. record { value = λ r w. refl; thrown = λ r w. refl }; next = λ u b. record { value = λ r w. refl; thrown = λ r w. refl }; written = λ u b r. record { value = λ v w. refl; thrown = λ v w. refl } }) (rel_less (omega arith) r1) (omega arith) (value_covers (held_covers T H.act (temp_name b) o known) (value_from {j = suc k} {k = suc k} le1 (omega arith) (stays_trans (stays_step (omega arith)) k1) x)))));
}

pub behind_key_body : {H : Here} {d b q qf : ℕ} {e f : c.Tree c.expr} {e' f' : t.Tree t.expr} (up : Bool) → H.by < 64 → ValueLaw H d (b + 3) q e e' → ValueLaw H d (b + 3 + q) qf f f' → ValueBody H d b (2 + 1 + (q + qf)) (c.step up false (c.member e (c.computed f))) (t.comma (t.comma (with_temps b e' (key_call f') (set_temp (b + 2) (t.unary un.Plus (runtime_call (codes "readPub") (pair (temp b) (temp (b + 1))))))) (runtime_call (codes "setPub") (triple (temp b) (temp (b + 1)) (by_one up (temp (b + 2)))))) (temp (b + 2)))
behind_key_body {H = H} {b = b} up below pe pf = record {
  on = λ {T = T} {k = k} {m = m} {next = next} {next' = next'} lt room r x.
      let few = room.few in
      right_enter (right_enter (right_enter (pair_match {j = suc k} {k = ten (ten k)} {l = suc (suc (suc m))} b _ next _ below lt (room_part (omega arith) (omega arith) room) (room_part (omega arith) (omega arith) room) (room_part (omega arith) (omega arith) room) (omega arith) (omega arith) (omega arith) pe pf (rel_less (omega arith) (rel_pay (rel_pay (rel_pay r)))) (throws_past (throws_past (throws_past (throws_from {j = suc k} {k = suc k} (omega arith) (omega arith) (stays_step (omega arith)) x.throws)))) (λ c1 le1 o p key u w1 z1 n1 g1 s1 y1 m1 holding r1 k1.
      let T1 = hold H.act (temp_name b) o T in
      let T2 = both H b o key T in
      rest {k = k} {i = m1} up below (b + 2) (hold_other H.act (b + 1) (b + 2) key T1 _ (λ e. omega (arith, e)) (omega arith) (omega arith) (hold_other H.act b (b + 2) o T _ (λ e. omega (arith, e)) (omega arith) (omega arith) (room.declared (b + 2) (omega arith) (omega arith)))) (temp_evaluates b o holding.object) (temp_evaluates (b + 1) key holding.key) (λ v. temp_evaluates b o (hold_other H.act (b + 2) b v T2 _ (λ e. omega (arith, e)) (omega arith) (omega arith) holding.object)) (λ v. temp_evaluates (b + 1) key (hold_other H.act (b + 2) (b + 1) v T2 _ (λ e. omega (arith, e)) (omega arith) (omega arith) holding.key)) 3 (put 3 (key ∷ []) (put 2 (p ∷ []) (Source.one o))) next next' (record { read = record { value = λ u w. refl; thrown = λ u w. refl }; counted = λ u. record { value = λ r w. refl; thrown = λ r w. refl }; next = λ u b. record { value = λ r w. refl; thrown = λ r w. refl }; written = λ u b r. record { value = λ v w. refl; thrown = λ v w. refl } }) (rel_less (omega arith) r1) (omega arith) (value_covers holding.covers (value_from {j = suc k} {k = suc k} le1 (omega arith) (stays_trans (stays_step (omega arith)) k1) x))))));
}
