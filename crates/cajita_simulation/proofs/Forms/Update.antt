-- A variable that is read and written: `x op= e`, `++x`, `x++` (ES3 11.13.2, 11.3, 11.4.4, 11.4.5).
use Rattle.std.proofs.Common.{◌≡◌, ℕ, suc, ◌+◌, Bool, true, false, List, [], ◌∷◌, Some, refl, sym, subst, arith}
use Rattle.plans.specs.Plans.{bind}
use Rattle.matching.proofs.Rules.{right_enter}
use Rattle.es3_tree.specs.Tree as t
use Rattle.es3_tree.specs.declared.BinOp.{BinOp}
use Rattle.es3_convert.specs.Numbers.{number_of}
use Rattle.es3_language.specs.Store.{Store}
use Rattle.es3_language.specs.References.{slot, resolve}
use Rattle.es3_language.specs.Expressions.{on_read, compound_to, compound_value, step_plan, step_value, write_plan}
use Rattle.es3_language.specs.Meaning as Target
use Rattle.cajita_tree.specs.Tree as c
use Rattle.cajita_meaning.specs.World.{Value, World}
use Rattle.cajita_meaning.specs.Direct as Direct
use Rattle.cajita_meaning.specs.Direct.{Item}
use Rattle.page_natives.specs.Natives.{Kept}
use Rattle.row_simulation.specs.OperatorLaw.{IsOfValues, next_of}
use Rattle.row_simulation.proofs.Operators.Steps.{before_law, behind_law}
use Rattle.cajita_simulation.specs.Guest.{GuestName}
use Rattle.cajita_simulation.proofs.Doing as Source
use Rattle.cajita_simulation.proofs.Relation.{EsValue, Val, Here, env_of, Tags, Temps, Place, Rel, val_keep, rel_pay, stays_step, stays_trans}
use Rattle.cajita_simulation.proofs.Writes.{find}
use Rattle.cajita_simulation.proofs.Slots.{slot_target}
use Rattle.cajita_simulation.proofs.Laws.{ValueLaw, ValueBody, value_since, room_part, with_part, Cont, Cont', M}
use Rattle.cajita_simulation.proofs.Operators.{binary_match, number_match, next_match}
use Rattle.cajita_simulation.proofs.Forms.Assign.{written_match, found_later}

-- the variable is found and read on both sides
read_match : {H : Here} {T : Temps} {d k : ℕ} (x : List ℕ) → H.vars x ≡ true → GuestName x → (act : ℕ → Source.Act) {w : World} {z : List Item} {n : ℕ} {g : Tags} {s : Store} {y : Kept} {m : ℕ} (go' : Rattle.es3_language.specs.References.Ref → Store → Target.Plan) (read : Rattle.es3_language.specs.References.Ref → EsValue → Store → Target.Plan) (next : Cont) (next' : Cont')
    → ((r : Rattle.es3_language.specs.References.Ref) (s : Store) → go' r s ≡ Rattle.es3_language.specs.Expressions.with_read r (env_of H) s (read r))
    → Rel H T (suc k) w z n g s y m
    → ((p : Place H.free H.chain s x) → resolve H.chain s x ≡ slot p.scope x → (v : Value) (e : EsValue) → Val s.heap v e → Rel H T k w z n g s y (suc m) → M H d (bind (Source.act_plan H 2 (Source.one v) (act 1) w) next) z n (bind (read (slot p.scope x) e s) next') y (suc m))
    → M H d (bind (Source.act_plan H 1 Source.start (Direct.asked (Rattle.cajita_meaning.specs.Asking.variable H.around.chain x) [] act) w) next) z n (bind (Target.with_target (t.name x) (env_of H) s go') next') y m
read_match {H = H} {d = d} x known guest act {w = w} {z = z} {n = n} {s = s} {y = y} {m = m} go' read next next' is r f =
    let p = r.here.captured.names x known in
    let q = find x p.scope p.at guest r in
    let left : Source.Plan = bind (Source.act_plan H 1 Source.start (Direct.asked (Rattle.cajita_meaning.specs.Asking.variable H.around.chain x) [] act) w) next in
    right_enter (subst (λ o. M H d left z n (bind o (λ e1 s1. bind (Target.on_target_of go' e1 s1) next')) y (suc m)) (sym (slot_target x (env_of H) s p.scope guest.own_name p.at))
    (subst (λ o. M H d left z n (bind o next') y (suc m)) (sym (is (slot p.scope x) s))
    (subst (λ o. M H d left z n (bind (on_read o (slot p.scope x) (env_of H) s (read (slot p.scope x))) next') y (suc m)) (sym q.there)
    (subst (λ o. M H d (bind (Rattle.acts.specs.Acts.replied (Rattle.cajita_meaning.specs.Asking.found_reply o H.by w) (λ a vs w1. Source.act_plan H 2 (Rattle.acts.specs.Acts.put 1 vs Source.start) (Direct.or_throw act a 1) w1)) next) z n (bind (read (slot p.scope x) q.value s) next') y (suc m)) (sym q.looked)
    (f p p.at q.known q.value q.same (rel_pay r))))))

pub compound_body : {H : Here} {d b q : ℕ} {e : c.Tree c.expr} {e' : t.Tree t.expr} (op : BinOp) → IsOfValues op → (x : List ℕ) → H.vars x ≡ true → H.free x ≡ true → GuestName x → ValueLaw H d b q e e' → ValueBody H d b (0 + (0 + q)) (c.assign (Some op) (c.variable x) e) (t.assign (Some op) (t.name x) e')
compound_body {H = H} {e = e} {e' = e'} op own x known free guest pe = record {
  on = λ {a = a} {k = k} {next = next} {next' = next'} lt room r x1.
      read_match x known guest (λ u. Direct.compound op e H.around u (λ v go. Rattle.acts.specs.Acts.ask (Rattle.cajita_meaning.specs.Asking.written H.around.chain x) (v ∷ []) (λ s r. go v))) (compound_to op e' (env_of H)) (λ o old s. Target.with_value e' (env_of H) s (compound_value op o old (env_of H))) next next' (λ o s. refl) r (λ p at v u is r1.
      with_part lt (room_part (omega arith) (omega arith) room) (omega arith) (omega arith) pe r1 x1.throws (λ c1 le1 v1 e1 w1 z1 n1 g1 s1 y1 m1 is1 r2 k1.
      binary_match op own v v1 u e1 (Source.answered H 3 _ (Direct.or_throw (λ z. Rattle.acts.specs.Acts.ask (Rattle.cajita_meaning.specs.Asking.written H.around.chain x) (z ∷ []) (λ s r. Direct.give z)))) (λ f s. write_plan (slot p.scope x) f f (env_of H) s) next next' (val_keep k1.heap v u is) is1 r2 (λ v2 e2 z2 is2 r3.
      written_match {j = suc k} x free guest p v2 v2 e2 e2 next next' (found_later x p r k1 r2) k1 is2 is2 r3 (omega arith) (omega arith) (value_since le1 (stays_trans (stays_step (omega arith)) k1) x1))));
}

pub step_before_body : {H : Here} {d b : ℕ} (up : Bool) (x : List ℕ) → H.vars x ≡ true → H.free x ≡ true → GuestName x → ValueBody H d b (0 + 0) (c.step up true (c.variable x)) (t.step up true (t.name x))
step_before_body {H = H} up x known free guest = record {
  on = λ {a = a} {k = k} {w = w} {z = z} {n = n} {g = g} {s = s} {y = y} {m = m} {next = next} {next' = next'} lt room r x1.
      read_match x known guest (λ u. Direct.stepped up true H.around u (λ v go. Rattle.acts.specs.Acts.ask (Rattle.cajita_meaning.specs.Asking.written H.around.chain x) (v ∷ []) (λ s r. go v))) (step_plan up true (env_of H)) (λ o old s. step_value up true o (env_of H) (number_of s.heap old) s) next next' (λ o s. refl) r (λ p at v u is r1.
      subst (λ o. M H a (bind (Source.act_plan H 2 (Source.one v) (Direct.stepped up true H.around 1 (λ v go. Rattle.acts.specs.Acts.ask (Rattle.cajita_meaning.specs.Asking.written H.around.chain x) (v ∷ []) (λ s r. go v))) w) next) z n (bind o next') y (suc m)) (sym (before_law up (slot p.scope x) (env_of H) u s))
      (next_match up v u (Source.answered H 2 _ (Direct.or_throw (λ z. Rattle.acts.specs.Acts.ask (Rattle.cajita_meaning.specs.Asking.written H.around.chain x) (z ∷ []) (λ s r. Direct.give z)))) (λ f s. write_plan (slot p.scope x) f f (env_of H) s) next next' is r1 (λ v2 e2 z2 is2 r3.
      written_match {j = suc k} {i = m} x free guest p v2 v2 e2 e2 next next' at (stays_step {i = m} (omega arith)) is2 is2 r3 (omega arith) (omega arith) x1)));
}

pub step_behind_body : {H : Here} {d b : ℕ} (up : Bool) (x : List ℕ) → H.vars x ≡ true → H.free x ≡ true → GuestName x → ValueBody H d b (0 + 0) (c.step up false (c.variable x)) (t.step up false (t.name x))
step_behind_body {H = H} up x known free guest = record {
  on = λ {a = a} {k = k} {w = w} {z = z} {n = n} {g = g} {s = s} {y = y} {m = m} {next = next} {next' = next'} lt room r x1.
      read_match x known guest (λ u. Direct.stepped up false H.around u (λ v go. Rattle.acts.specs.Acts.ask (Rattle.cajita_meaning.specs.Asking.written H.around.chain x) (v ∷ []) (λ s r. go v))) (step_plan up false (env_of H)) (λ o old s. step_value up false o (env_of H) (number_of s.heap old) s) next next' (λ o s. refl) r (λ p at v u is r1.
      subst (λ o. M H a (bind (Source.act_plan H 2 (Source.one v) (Direct.stepped up false H.around 1 (λ v go. Rattle.acts.specs.Acts.ask (Rattle.cajita_meaning.specs.Asking.written H.around.chain x) (v ∷ []) (λ s r. go v))) w) next) z n (bind o next') y (suc m)) (sym (behind_law up (slot p.scope x) (env_of H) u s))
      (number_match v u (Source.answered H 2 _ (Direct.or_throw (λ old. Direct.the_row (Rattle.rows.specs.Operators.next_number up) H.around (old ∷ []) (λ z. Rattle.acts.specs.Acts.ask (Rattle.cajita_meaning.specs.Asking.written H.around.chain x) (z ∷ []) (λ s r. Direct.give old))))) (λ old t. Target.with_given (next_of up t.heap old) t (λ f s. write_plan (slot p.scope x) f old (env_of H) s)) next next' is r1 (λ v2 e2 z2 is2 r3.
      next_match up v2 e2 (Source.answered H 3 _ (Direct.or_throw (λ z. Rattle.acts.specs.Acts.ask (Rattle.cajita_meaning.specs.Asking.written H.around.chain x) (z ∷ []) (λ s r. Direct.give 2)))) (λ f s. write_plan (slot p.scope x) f e2 (env_of H) s) next next' is2 r3 (λ v3 e3 z3 is3 r4.
      written_match {j = suc k} {i = m} x free guest p v3 v2 e3 e2 next next' at (stays_step {i = m} (omega arith)) is3 is2 r4 (omega arith) (omega arith) x1))));
}
