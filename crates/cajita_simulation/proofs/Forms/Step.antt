-- `++e.k` and `--e[f]` (ES3 11.4.4, 11.4.5): a step writes what `+e+1` and `+e-1` are.
use Rattle.std.proofs.Common.{◌≡◌, ℕ, suc, ◌+◌, ◌≤◌, ◌<◌, Bool, true, false, List, [], ◌∷◌, Ok, Err, cond, refl, sym, ◌∙◌, subst, arith}
use Rattle.std.specs.Prelude.{ℤ, pos, codes}
use Rattle.plans.specs.Plans.{Fault, bind, enter}
use Rattle.acts.specs.Acts.{Places, put}
use Rattle.matching.proofs.Rules.{right_enter}
use Rattle.es3_tree.specs.Tree as t
use Rattle.es3_tree.specs.declared.BinOp.{BinOp}
use Rattle.es3_tree.specs.declared.BinOp.TheVariants as bin
use Rattle.es3_tree.specs.declared.UnOp.TheVariants as un
use Rattle.es3_objects.specs.declared.value.Value.TheVariants as es
use Rattle.es3_heap.specs.Objects.{Objects}
use Rattle.es3_convert.specs.Conversions.{and_then}
use Rattle.es3_convert.specs.Numbers.{number_of}
use Rattle.es3_language.specs.Store.{Store}
use Rattle.es3_language.specs.References.{member}
use Rattle.es3_language.specs.Operators.{given, faults, operate}
use Rattle.es3_language.specs.Expressions.{binary_left, convert_plan}
use Rattle.es3_language.specs.Meaning as Target
use Rattle.rows.specs.Guards as guards
use Rattle.rows.specs.Operators.{next_number}
use Rattle.heap_rows.specs.Opening.{runtime_id}
use Rattle.cajita_tree.specs.Tree as c
use Rattle.cajita_rewrite.specs.Rewrite.{temp, temp_name, with_temp, with_temps, key_call, by_one, runtime_call, pair, triple}
use Rattle.cajita_meaning.specs.World.{Value, World, text}
use Rattle.cajita_meaning.specs.Asking.{good}
use Rattle.cajita_meaning.specs.Direct as Direct
use Rattle.cajita_meaning.specs.Direct.{Item}
use Rattle.row_simulation.specs.OperatorLaw.{next_of}
use Rattle.row_simulation.proofs.Tables.{tables}
use Rattle.page_natives.specs.Natives.{Kept}
use Rattle.cajita_simulation.proofs.Doing as Source
use Rattle.cajita_simulation.proofs.Heaps.Guards.{set_pub-guard}
use Rattle.cajita_simulation.proofs.Relation.{EsValue, Val, Here, env_of, Tags, Temps, Rel, val_keep, rel_pay, rel_less, stays_step, stays_trans}
use Rattle.cajita_simulation.proofs.Writes.{held_covers}
use Rattle.cajita_simulation.proofs.Laws.{ValueLaw, ValueBody, NextValue, Cont, Cont', M, room_part, throws_from, value_from, ten}
use Rattle.cajita_simulation.proofs.Operators.{no_value, next_known, next_match}
use Rattle.cajita_simulation.proofs.Rows.{Going}
use Rattle.cajita_simulation.proofs.Guarded.{asks, Passes, GivesIt, guarded}
use Rattle.cajita_simulation.proofs.Temporaries.{hold_there, value_covers, Evaluates, temp_evaluates, text_evaluates}
use Rattle.cajita_simulation.proofs.Forms.Put.{set_plain}
use Rattle.cajita_simulation.proofs.Forms.Member.{throws_past, set_match, pair_match, read_operands, write_operands, member_write}

-- `+e+1`, `+e-1`

abbrev pub operator : Bool → BinOp
operator up = cond up bin.Add bin.Sub

one_more : (up : Bool) (h : Objects) (e : EsValue) (i : ℤ) → number_of h e ≡ Ok i → operate (operator up) h (es.Num i) (es.Num (pos 1)) ≡ next_of up h e
one_more true h e i same = rw same refl
one_more false h e i same = rw same refl

-- one is added to the number that the member's value has
pub one_match : {H : Here} {T : Temps} {d k : ℕ} (up : Bool) (v1 : Value) (e1 : EsValue) (i : ℤ) {w : World} {z : List Item} {n : ℕ} {g : Tags} {s : Store} {y : Kept} {m : ℕ} (go : Going) (next : Cont) (next' : Cont') → number_of s.heap e1 ≡ Ok i → Val s.heap v1 e1 → Rel H T (suc k) w z n g s y m
    → ((v : Value) (e : EsValue) (z' : List Item) → Val s.heap v e → Rel H T k w z' n g s y (suc m) → M H d (bind (go good (v ∷ []) w) next) z' n (next' (Target.gave e) s) y (suc m))
    → M H d (bind (asks H (next_number up) (v1 ∷ []) w go) next) z n (bind (binary_left (operator up) (t.num (pos 1)) (env_of H) (es.Num i) s) next') y m
one_match {H = H} {d = d} up v1 e1 i {w = w} {z = z} {n = n} {s = s} {y = y} {m = m} go next next' same is r f =
    right_enter (subst (λ o. M H d (bind (asks H (next_number up) (v1 ∷ []) w go) next) z n (bind (Target.with_given o s Target.give) next') y (suc m)) (sym (one_more up s.heap e1 i same))
    (next_match up v1 e1 go Target.give next next' is (rel_pay r) f))

-- one is added to the member's value, once it is a number
by_one_match : {H : Here} {T : Temps} {d k : ℕ} (up : Bool) (v1 : Value) (e1 : EsValue) {w : World} {z : List Item} {n : ℕ} {g : Tags} {s : Store} {y : Kept} {m : ℕ} (go : Going) (next : Cont) (next' : Cont') → Val s.heap v1 e1 → Rel H T (suc k) w z n g s y m
    → ((v : Value) (e : EsValue) (z' : List Item) → Val s.heap v e → Rel H T k w z' n g s y (suc m) → M H d (bind (go good (v ∷ []) w) next) z' n (next' (Target.gave e) s) y (suc m))
    → M H d (bind (asks H (next_number up) (v1 ∷ []) w go) next) z n (bind (convert_plan un.Plus e1 s) (λ e s1. bind (Target.on_value_of (binary_left (operator up) (t.num (pos 1)) (env_of H)) e s1) next')) y m
by_one_match {H = H} {T = T} {d = d} up v1 e1 {w = w} {z = z} {n = n} {g = g} {s = s} {y = y} {m = m} go next next' is r f =
    let cases = elim (number_of s.heap e1) as (λ a. number_of s.heap e1 ≡ a → M H d (bind (asks H (next_number up) (v1 ∷ []) w go) next) z n (bind (Target.with_given (given (and_then a (λ i. Ok (es.Num i)))) s Target.give) (λ e s1. bind (Target.on_value_of (binary_left (operator up) (t.num (pos 1)) (env_of H)) e s1) next')) y m) [
      | Ok i ↦ λ same. one_match up v1 e1 i go next next' same is r f
      | Err q ↦ λ same. stopped q same
    ] in cases refl
  where
    none : (q : Fault) → number_of s.heap e1 ≡ Err q → next_of up s.heap e1 ≡ faults q
    none q same = rw same refl

    stopped : (q : Fault) → number_of s.heap e1 ≡ Err q → M H d (bind (asks H (next_number up) (v1 ∷ []) w go) next) z n (bind (Target.with_given (faults q) s Target.give) (λ e s1. bind (Target.on_value_of (binary_left (operator up) (t.num (pos 1)) (env_of H)) e s1) next')) y m
    stopped q same =
        subst (λ o. M H d (bind (asks H (next_number up) (v1 ∷ []) w go) next) z n (bind (Target.with_given o s Target.give) (λ e s1. bind (Target.on_value_of (binary_left (operator up) (t.num (pos 1)) (env_of H)) e s1) next')) y m) (none q same)
        (next_known up v1 e1 go Target.give next (λ e s1. bind (Target.on_value_of (binary_left (operator up) (t.num (pos 1)) (env_of H)) e s1) next') is r (λ v e z1 known is1 r1. absurd (no_value q e (sym (none q same) ∙ known))))

-- what is done with the member's value u, and with the number r that is written, where the key stands at the place l

abbrev on_read : Here → Bool → Bool → ℕ → Places Value → Going
on_read H up before l at = Source.answered H (suc l) at (Direct.or_throw (λ u. Direct.stepped up before H.around u (member_write H l)))

abbrev on_next : Here → ℕ → Places Value → Value → Going
on_next H l at u = Source.answered H (suc (suc l)) (put (suc l) (u ∷ []) at) (Direct.or_throw (λ r. member_write H l r Direct.give))

abbrev on_write : Here → ℕ → Places Value → Value → Value → Going
on_write H l at u r = Source.answered H (suc (suc (suc l))) (put (suc (suc l)) (r ∷ []) (put (suc l) (u ∷ []) at)) (Direct.or_throw Direct.give)

record AtPlaces (H : Here) (up : Bool) (l : ℕ) (at : Places Value) (o p : Value) : Type 0 where
  read : Passes (on_read H up true l at) (λ u w. asks H (next_number up) (u ∷ []) w (on_next H l at u))
  next : (u : Value) → Passes (on_next H l at u) (λ r w. asks H (guards.set_pub 3) (o ∷ p ∷ r ∷ []) w (on_write H l at u r))
  written : (u r : Value) → GivesIt (on_write H l at u r)

rest : {H : Here} {T : Temps} {a k i : ℕ} {ex ky : t.Tree t.expr} {o p : Value} (up : Bool) → H.by < 64 → Evaluates H T ex o → Evaluates H T ky p → {w : World} {z : List Item} {n : ℕ} {g : Tags} {s : Store} {y : Kept} {m : ℕ} (l : ℕ) (at : Places Value) (next : Cont) (next' : Cont') → AtPlaces H up l at o p → Rel H T (ten (ten k)) w z n g s y m → i ≤ m → NextValue H T a (suc k) w g s i next next'
    → M H a (bind (asks H (guards.read_pub 2) (o ∷ p ∷ []) w (on_read H up true l at)) next) z n (enter (Target.value_of (runtime_call (codes "setPub") (triple ex ky (by_one up (t.unary un.Plus (runtime_call (codes "readPub") (pair ex ky)))))) (env_of H)) s next') y m
rest {H = H} {a = a} {k = k} {ex = ex} {ky = ky} {o = o} {p = p} up below evx evk {n = n} {y = y} l at next next' are r few x =
    write_operands evx evk (by_one up (t.unary un.Plus (runtime_call (codes "readPub") (pair ex ky)))) next' r (λ e h m1 le1 is1 is2 r1.
    let writes : EsValue → Store → Target.Plan = λ u s1. Target.do_call (Target.called (member (es.Obj runtime_id) (codes "setPub"))) (e ∷ h ∷ u ∷ []) (env_of H) s1 in
    let then' : Cont' = λ e1 s1. bind (Target.on_value_of writes e1 s1) next' in
    let adds : Cont' = λ e1 s1. bind (Target.on_value_of (binary_left (operator up) (t.num (pos 1)) (env_of H)) e1 s1) then' in
    right_enter (right_enter (read_operands {k = suc (suc (suc k))} {j = suc k} below evx evk (on_read H up true l at) _ next (λ e1 s1. bind (Target.on_value_of (convert_plan un.Plus) e1 s1) adds) are.read (rel_less (omega arith) (rel_pay (rel_pay r1))) (omega arith) (omega arith) (throws_past (throws_past (throws_past x.throws))) (λ y2 u f w2 z2 s2 m2 is3 r2 k2.
    by_one_match up u f (on_next H l at u) next then' is3 r2 (λ r3 f3 z3 is4 r4.
    subst (λ q. M H a (bind q next) z3 n (bind (writes f3 s2) next') y2 (suc m2)) (sym ((are.next u).value r3 w2))
    (guarded {j = suc k} {i = suc m2} below set_pub-guard (guards.set_pub 3) (tables.set_pub 3) set_plain (o ∷ p ∷ r3 ∷ []) (e ∷ h ∷ f3 ∷ []) (on_write H l at u r3) next next' (record { plan = refl; kept = refl }) (are.written u r3) (val_keep k2.heap o e is1, (val_keep k2.heap p h is2, (is4, tt))) r4 (omega arith) (omega arith) (value_from {j = suc k} {k = suc k} (omega arith) (omega arith) (stays_trans (stays_step (omega arith)) (stays_trans k2 (stays_step (omega arith)))) x)))))))

pub before_body : {H : Here} {d b q : ℕ} {e : c.Tree c.expr} {e' : t.Tree t.expr} (up : Bool) → H.by < 64 → (us : List ℕ) → ValueLaw H d (b + 1) q e e' → ValueBody H d b (1 + 0 + (q + 0)) (c.step up true (c.member e (c.fixed us))) (with_temp b e' (runtime_call (codes "setPub") (triple (temp b) (t.text us) (by_one up (t.unary un.Plus (runtime_call (codes "readPub") (pair (temp b) (t.text us))))))))
before_body {H = H} {b = b} up below us pe = record {
  on = λ {T = T} {k = k} {m = m} {next = next} {next' = next'} lt room r x.
      let known = room.declared b (omega arith) (omega arith) in
      set_match {j = suc k} {k = suc (suc (suc (suc (suc (suc (suc (suc (ten (ten k)))))))))} {l = m} b next _ lt (room_part (omega arith) (omega arith) room) known (omega arith) (omega arith) pe (rel_less {j = ten (ten (ten k))} (omega arith) r) (throws_past x.throws) (λ c1 le1 o u w1 z1 n1 g1 s1 y1 m1 is1 r1 k1.
      rest {k = k} {i = m1} up below (temp_evaluates b o (hold_there H.act (temp_name b) o T)) (text_evaluates us) 2 (put 2 (text us ∷ []) (Source.one o)) next next' (record { read = record { value = λ u w. refl; thrown = λ u w. refl }; next = λ u. record { value = λ r w. refl; thrown = λ r w. refl }; written = λ u r. record { value = λ v w. refl; thrown = λ v w. refl } }) (rel_less (omega arith) r1) (omega arith) (value_covers (held_covers T H.act (temp_name b) o known) (value_from {j = suc k} {k = suc k} le1 (omega arith) k1 x)));
}

pub before_key_body : {H : Here} {d b q qf : ℕ} {e f : c.Tree c.expr} {e' f' : t.Tree t.expr} (up : Bool) → H.by < 64 → ValueLaw H d (b + 2) q e e' → ValueLaw H d (b + 2 + q) qf f f' → ValueBody H d b (1 + 1 + (q + qf)) (c.step up true (c.member e (c.computed f))) (with_temps b e' (key_call f') (runtime_call (codes "setPub") (triple (temp b) (temp (b + 1)) (by_one up (t.unary un.Plus (runtime_call (codes "readPub") (pair (temp b) (temp (b + 1)))))))))
before_key_body {H = H} {b = b} up below pe pf = record {
  on = λ {T = T} {k = k} {m = m} {next = next} {next' = next'} lt room r x.
      right_enter (pair_match {j = suc k} {k = ten (ten k)} {l = suc m} b _ next _ below lt (room_part (omega arith) (omega arith) room) (room_part (omega arith) (omega arith) room) (room_part (omega arith) (omega arith) room) (omega arith) (omega arith) (omega arith) pe pf (rel_less (omega arith) (rel_pay r)) (throws_past (throws_from {j = suc k} {k = suc k} (omega arith) (omega arith) (stays_step (omega arith)) x.throws)) (λ c1 le1 o p key u w1 z1 n1 g1 s1 y1 m1 holding r1 k1.
      rest {k = k} {i = m1} up below (temp_evaluates b o holding.object) (temp_evaluates (b + 1) key holding.key) 3 (put 3 (key ∷ []) (put 2 (p ∷ []) (Source.one o))) next next' (record { read = record { value = λ u w. refl; thrown = λ u w. refl }; next = λ u. record { value = λ r w. refl; thrown = λ r w. refl }; written = λ u r. record { value = λ v w. refl; thrown = λ v w. refl } }) (rel_less (omega arith) r1) (omega arith) (value_covers holding.covers (value_from {j = suc k} {k = suc k} le1 (omega arith) (stays_trans (stays_step (omega arith)) k1) x))));
}
