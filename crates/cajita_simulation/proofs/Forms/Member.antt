-- Members that are read and written: temporaries hold the object and the text of a computed key, `x0___=e,x1___=___.key(f),..`.
use Rattle.std.proofs.Common.{◌≡◌, ℕ, suc, ◌+◌, ◌≤◌, ◌<◌, List, [], ◌∷◌, refl, sym, subst, arith}
use Rattle.std.specs.Prelude.{codes}
use Rattle.plans.specs.Plans.{bind, enter}
use Rattle.acts.specs.Acts.{put}
use Rattle.matching.proofs.Rules.{right_enter}
use Rattle.es3_tree.specs.Tree as t
use Rattle.es3_objects.specs.declared.value.Value.TheVariants as es
use Rattle.es3_language.specs.Store.{Store}
use Rattle.es3_language.specs.References.{slot, member}
use Rattle.es3_language.specs.Expressions.{assign_to, assign_value, comma_right}
use Rattle.es3_language.specs.Meaning as Target
use Rattle.rows.specs.Guards as guards
use Rattle.heap_rows.specs.Opening.{runtime_id}
use Rattle.cajita_tree.specs.Tree as c
use Rattle.cajita_rewrite.specs.Rewrite.{temp_name, set_temp, key_call, runtime_call, single, pair, triple}
use Rattle.cajita_meaning.specs.World.{Value, World}
use Rattle.cajita_meaning.specs.Direct as Direct
use Rattle.cajita_meaning.specs.Direct.{Item}
use Rattle.row_simulation.proofs.Tables.{tables}
use Rattle.page_natives.specs.Natives.{Kept}
use Rattle.cajita_simulation.proofs.Doing as Source
use Rattle.cajita_simulation.proofs.Heaps.Guards.{key-guard, read_pub-guard}
use Rattle.cajita_simulation.proofs.Relation.{EsValue, Val, Here, env_of, Tags, Temps, declared, holds, Rel, Stays, val_keep, rel_pay, rel_less, stays_step, stays_trans}
use Rattle.cajita_simulation.proofs.Slots.{slot_target}
use Rattle.cajita_simulation.proofs.Writes.{Covers, covers_trans, held_covers}
use Rattle.cajita_simulation.proofs.Laws.{ValueLaw, Cont, Cont', M, Room, Throws, throws_from, hold, with_part, ten}
use Rattle.cajita_simulation.proofs.Calls.{callee_match}
use Rattle.cajita_simulation.proofs.Rows.{Going}
use Rattle.cajita_simulation.proofs.Guarded.{asks, Passes, guarded_on}
use Rattle.cajita_simulation.proofs.Temporaries.{temp_own, temp_at, temp_match, hold_there, hold_other, room_held, throws_covers, Evaluates}
use Rattle.cajita_simulation.proofs.Forms.Read.{read_plain}

-- a throw passes what waits for a value
pub throws_past : {H : Here} {T : Temps} {d k : ℕ} {w : World} {g : Tags} {s : Store} {i : ℕ} {next : Cont} {next' : Cont'} {go' : EsValue → Store → Target.Plan} → Throws H T d k w g s i next next' → Throws H T d k w g s i next (λ e s1. bind (Target.on_value_of go' e s1) next')
throws_past x = record { on = λ c le v e w z n g s y m is r k. x.on c le v e w z n g s y m is r k }

-- from the node of `xN___=e` to that of e
pub set_enter : {H : Here} {T : Temps} {d k : ℕ} (i : ℕ) (x : t.Tree t.expr) {p : Source.Plan} {w : World} {z : List Item} {n : ℕ} {g : Tags} {s : Store} {y : Kept} {m : ℕ} (next' : Cont') → T H.act (temp_name i) ≡ declared → Rel H T (suc (suc k)) w z n g s y m
    → (Rel H T k w z n g s y (suc (suc m)) → M H d p z n (enter (Target.value_of x (env_of H)) s (λ e s1. bind (Target.on_value_of (assign_value (slot H.act (temp_name i)) (env_of H)) e s1) next')) y (suc (suc m)))
    → M H d p z n (enter (Target.value_of (set_temp i x) (env_of H)) s next') y m
set_enter {H = H} {d = d} i x {p = p} {z = z} {n = n} {s = s} {y = y} {m = m} next' known r f =
    right_enter (right_enter (subst (λ q. M H d p z n (bind q (λ e1 s1. bind (Target.on_target_of (assign_to x (env_of H)) e1 s1) next')) y (suc (suc m))) (sym (slot_target (temp_name i) (env_of H) s H.act (temp_own i) (temp_at i known r).at)) (f (rel_pay (rel_pay r)))))

-- a temporary takes the value of a part
pub set_match : {H : Here} {T : Temps} {d a b q j k l : ℕ} {e : c.Tree c.expr} {e' : t.Tree t.expr} (i : ℕ) {w : World} {z : List Item} {n : ℕ} {g : Tags} {s : Store} {y : Kept} {m : ℕ} {go : Value → World → Source.Plan} (next : Cont) (next' : Cont') → a < d → Room H T b q → T H.act (temp_name i) ≡ declared → j ≤ suc k → l ≤ m → ValueLaw H d b q e e' → Rel H T (suc (suc k)) w z n g s y m → Throws H T a j w g s l next next'
    → ((c : ℕ) → c ≤ a → (v : Value) (u : EsValue) (w' : World) (z' : List Item) (n' : ℕ) (g' : Tags) (s' : Store) (y' : Kept) (m' : ℕ) → Val s'.heap v u → Rel H (hold H.act (temp_name i) v T) (suc k) w' z' n' g' s' y' m' → Stays w g s m w' g' s' m' → M H c (bind (go v w') next) z' n' (next' (Target.gave u) s') y' m')
    → M H a (enter (Source.value_of e H) w (λ e w'. bind (Source.on_value_of go e w') next)) z n (enter (Target.value_of (set_temp i e') (env_of H)) s next') y m
set_match {H = H} {e' = e'} i {go = go} next next' lt room known less few pe r x f =
    set_enter i e' next' known r (λ r1.
    with_part {go = go} lt room less (omega (arith, few)) pe r1 x (λ c1 le1 v u w1 z1 n1 g1 s1 y1 m1 is1 r2 k1.
    temp_match i v u next' known is1 r2 (λ s2 r3 k2. f c1 le1 v u w1 z1 n1 g1 s2 y1 m1 (val_keep k2.heap v u is1) r3 (stays_trans (stays_step (omega arith)) (stays_trans k1 k2)))))

-- two temporaries hold an object and a key
abbrev pub both : Here → ℕ → Value → Value → Temps → Temps
both H i o q T = hold H.act (temp_name (i + 1)) q (hold H.act (temp_name i) o T)

pub record BothHold (H : Here) (T : Temps) (i : ℕ) (o q : Value) : Type 0 where
  pub object : both H i o q T H.act (temp_name i) ≡ holds o
  pub key : both H i o q T H.act (temp_name (i + 1)) ≡ holds q
  pub covers : Covers T (both H i o q T)

-- two take the values of an object and of the text of a computed key
pub pair_match : {H : Here} {T : Temps} {d a be qe bf qf j k l : ℕ} {e f : c.Tree c.expr} {e' f' : t.Tree t.expr} (i : ℕ) (act : ℕ → Source.Act) {w : World} {z : List Item} {n : ℕ} {g : Tags} {s : Store} {y : Kept} {m : ℕ} (next : Cont) (next' : Cont') → H.by < 64 → a < d → Room H T i 2 → Room H T be qe → Room H T bf qf → i < bf → j ≤ suc k → l ≤ m → ValueLaw H d be qe e e' → ValueLaw H d bf qf f f' → Rel H T (ten k) w z n g s y m → Throws H T a j w g s l next next'
    → ((c : ℕ) → c ≤ a → (o p q : Value) (u : EsValue) (w' : World) (z' : List Item) (n' : ℕ) (g' : Tags) (s' : Store) (y' : Kept) (m' : ℕ) → BothHold H T i o q → Rel H (both H i o q T) (suc k) w' z' n' g' s' y' m' → Stays w g s m w' g' s' m' → M H c (bind (Source.act_plan H 4 (put 3 (q ∷ []) (put 2 (p ∷ []) (Source.one o))) (act 3) w') next) z' n' (next' (Target.gave u) s') y' m')
    → M H a (enter (Source.value_of e H) w (λ e w'. bind (Source.on_value_of (λ o w1. Source.act_plan H 2 (Source.one o) (Direct.the_text (c.computed f) H.around act) w1) e w') next)) z n (bind (Target.expr_plan (t.comma (set_temp i e') (set_temp (i + 1) (key_call f'))) (env_of H) s) next') y m
pair_match {H = H} {T = T} {j = j} {k = k} {f = f} {f' = f'} i act next next' below lt own room_e room_f before less few pe pf r x go =
    let known = own.declared i (omega arith) (omega arith) in
    let few1 = own.few in
    set_match {j = j} {k = suc (suc (suc (suc (suc (suc (suc k))))))} i next (λ e1 s1. bind (Target.on_value_of (comma_right (set_temp (i + 1) (key_call f')) (env_of H)) e1 s1) next') lt room_e known (omega arith) few pe (rel_less (omega arith) r) (throws_past x) (λ c1 le1 o u1 w1 z1 n1 g1 s1 y1 m1 is1 r1 k1.
    let known1 = hold_other H.act i (i + 1) o T declared (λ e. omega (arith, e)) (omega arith) (omega arith) (own.declared (i + 1) (omega arith) (omega arith)) in
    set_enter (i + 1) (key_call f') next' known1 r1 (λ r2.
    right_enter (callee_match (codes "key") (single f') (λ e1 s2. bind (Target.on_value_of (assign_value (slot H.act (temp_name (i + 1))) (env_of H)) e1 s2) next') (rel_pay r2) (λ r3.
    let x1 : Throws H (hold H.act (temp_name i) o T) c1 j w1 g1 s1 m1 next next' = throws_covers (held_covers T H.act (temp_name i) o known) (throws_from {j = j} {k = j} le1 (omega arith) (stays_trans (stays_step (omega (arith, few))) k1) x) in
    with_part {j = j} {i = m1} {go = λ p w2. Source.act_plan H 3 (put 2 (p ∷ []) (Source.one o)) (Direct.the_row guards.key H.around (2 ∷ []) act) w2} (omega arith) (room_held i o before (omega arith) (omega arith) room_f) (omega arith) (omega arith) pf r3 (throws_past x1) (λ c2 le2 p u2 w2 z2 n2 g2 s2 y2 m2 is2 r4 k2.
    guarded_on {j = j} {i = m2} below key-guard guards.key tables.key (λ us. tt) (p ∷ []) (u2 ∷ []) (Source.answered H 3 (put 2 (p ∷ []) (Source.one o)) (Direct.or_throw act)) (λ q w3. Source.act_plan H 4 (put 3 (q ∷ []) (put 2 (p ∷ []) (Source.one o))) (act 3) w3) next _ (record { plan = refl; kept = refl }) (record { value = λ q w3. refl; thrown = λ q w3. refl }) (is2, tt) r4 (omega arith) (omega arith) (throws_past (throws_from {j = j} {k = j} le2 (omega arith) (stays_trans (stays_step (omega arith)) k2) x1)) (λ y3 q u3 w3 z3 s3 is3 r5 k3.
    temp_match (i + 1) q u3 next' known1 is3 r5 (λ s4 r6 k4.
    let T1 = hold H.act (temp_name i) o T in
    let holding : BothHold H T i o q = record {
      object = hold_other H.act (i + 1) i q T1 (holds o) (λ e. omega (arith, e)) (omega arith) (omega arith) (hold_there H.act (temp_name i) o T);
      key = hold_there H.act (temp_name (i + 1)) q T1;
      covers = covers_trans (held_covers T H.act (temp_name i) o known) (held_covers T1 H.act (temp_name (i + 1)) q known1);
    } in
    go c2 (omega arith) o p q u3 w3 z3 n2 g2 s4 y3 _ holding (rel_less (omega arith) r6) (stays_trans k1 (stays_trans (stays_step (omega arith)) (stays_trans k2 (stays_trans k3 k4)))))))))))

-- the member is read
pub read_operands : {H : Here} {T : Temps} {d k j i : ℕ} {ex ky : t.Tree t.expr} {o p : Value} → H.by < 64 → Evaluates H T ex o → Evaluates H T ky p → {w : World} {z : List Item} {n : ℕ} {g : Tags} {s : Store} {y : Kept} {m : ℕ} (go : Going) (on : Value → World → Source.Plan) (next : Cont) (next' : Cont') → Passes go on → Rel H T (suc (suc (suc (suc (suc (suc k)))))) w z n g s y m → j ≤ k → i ≤ m → Throws H T d j w g s i next next'
    → ((y' : Kept) (v : Value) (e : EsValue) (w' : World) (z' : List Item) (s' : Store) (m' : ℕ) → Val s'.heap v e → Rel H T k w' z' n g s' y' m' → Stays w g s m w' g s' m' → M H d (bind (on v w') next) z' n (next' (Target.gave e) s') y' m')
    → M H d (bind (asks H (guards.read_pub 2) (o ∷ p ∷ []) w go) next) z n (enter (Target.value_of (runtime_call (codes "readPub") (pair ex ky)) (env_of H)) s next') y m
read_operands {ex = ex} {ky = ky} {o = o} {p = p} below evx evk go on next next' goes r less few x f =
    right_enter (callee_match (codes "readPub") (pair ex ky) next' (rel_pay r) (λ r1.
    evx.on _ next' r1 (λ e is1 r2.
    evk.on _ next' r2 (λ h is2 r3.
    guarded_on below read_pub-guard (guards.read_pub 2) (tables.read_pub 2) read_plain (o ∷ p ∷ []) (e ∷ h ∷ []) go on next next' (record { plan = refl; kept = refl }) goes (is1, (is2, tt)) r3 less (omega (arith, few)) x (λ y1 v u w1 z1 s1 is3 r4 keep. f y1 v u w1 z1 s1 _ is3 r4 (stays_trans (stays_step (omega arith)) keep))))))

-- the operands of the write, and then what is written
pub write_operands : {H : Here} {T : Temps} {d k : ℕ} {ex ky : t.Tree t.expr} {o p : Value} → Evaluates H T ex o → Evaluates H T ky p → (x : t.Tree t.expr) {q : Source.Plan} {w : World} {z : List Item} {n : ℕ} {g : Tags} {s : Store} {y : Kept} {m : ℕ} (next' : Cont') → Rel H T (suc (suc (suc (suc (suc k))))) w z n g s y m
    → ((e h : EsValue) (m' : ℕ) → m ≤ m' → Val s.heap o e → Val s.heap p h → Rel H T k w z n g s y m' → M H d q z n (bind (Target.with_value x (env_of H) s (λ u s1. Target.do_call (Target.called (member (es.Obj runtime_id) (codes "setPub"))) (e ∷ h ∷ u ∷ []) (env_of H) s1)) next') y m')
    → M H d q z n (enter (Target.value_of (runtime_call (codes "setPub") (triple ex ky x)) (env_of H)) s next') y m
write_operands {ex = ex} {ky = ky} evx evk x next' r f =
    right_enter (callee_match (codes "setPub") (triple ex ky x) next' (rel_pay r) (λ r1.
    evx.on _ next' r1 (λ e is1 r2.
    evk.on _ next' r2 (λ h is2 r3.
    f e h _ (omega arith) is1 is2 r3))))

-- what is done with a value for the member, whose object stands at the place 1 and whose key at the place l
abbrev pub member_write : Here → ℕ → ℕ → (ℕ → Source.Act) → Source.Act
member_write H l r go = Direct.rows guards.set_pub H.around (1 ∷ l ∷ r ∷ []) go
