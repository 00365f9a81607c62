-- A plain call: `f(a)` is `___.asSimpleFunc(f)(a)`.
use Rattle.std.proofs.Common.{Bool, ◌≡◌, ℕ, zero, suc, ◌+◌, ◌-◌, ◌<◌, true, false, List, [], ◌∷◌, ◌++◌, length, map, refl, sym, ap, ◌∙◌, subst, arith}
use Rattle.std.specs.Prelude.{codes}
use Rattle.plans.specs.Plans.{bind}
use Rattle.acts.specs.Acts.{replied, Places}
use Rattle.matching.proofs.Rules.{right_enter}
use Rattle.es3_tree.specs.Tree as t
use Rattle.es3_objects.specs.declared.value.Value.TheVariants as es
use Rattle.es3_language.specs.Store.{Store}
use Rattle.es3_language.specs.References.{just}
use Rattle.es3_language.specs.Meaning as Target
use Rattle.rows.specs.Rows.{held}
use Rattle.rows.specs.Arguments.{values_from}
use Rattle.rows.specs.Guards as guards
use Rattle.cajita_tree.specs.Tree as c
use Rattle.cajita_rewrite.specs.Rewrite.{rewritten, temps, runtime_call, single}
use Rattle.cajita_meaning.specs.World as World
use Rattle.cajita_meaning.specs.World.{Value, World as State}
use Rattle.cajita_meaning.specs.Doing as direct
use Rattle.cajita_meaning.specs.Asking.{outcome_reply}
use Rattle.cajita_meaning.specs.Direct as Direct
use Rattle.cajita_meaning.specs.Direct.{Item}
use Rattle.row_simulation.proofs.Tables.{tables}
use Rattle.page_natives.specs.Natives.{Kept}
use Rattle.cajita_simulation.specs.Guest.{Guest}
use Rattle.cajita_simulation.proofs.Doing as Source
use Rattle.cajita_simulation.proofs.Heaps.Guards.{as_simple_func-guard}
use Rattle.cajita_simulation.proofs.Relation.{EsValue, Val, Vals, val_keep, Here, env_of, Tags, Temps, Rel, stays_refl, stays_step, stays_trans, rel_less, rel_pay}
use Rattle.cajita_simulation.proofs.Changes.{rel_told}
use Rattle.cajita_simulation.proofs.Laws.{NextAt, ValueLaw, ValueBody, NextValue, Throws, throws_from, value_from, value_since, Cont, Cont', M, room_part, with_part}
use Rattle.cajita_simulation.proofs.Calls.{callee_match}
use Rattle.cajita_simulation.proofs.Rows.{left_tell, quiet_row}
use Rattle.cajita_simulation.proofs.Guarded.{guarded_of}
use Rattle.cajita_simulation.proofs.Forms.Values.{Values}
use Rattle.cajita_simulation.proofs.Calling.Callable.{IsCallable, simple_plain, simple_gives, callable_stays}
use Rattle.cajita_simulation.proofs.Calling.Arguments.{args_match}
use Rattle.cajita_simulation.proofs.Calling.Laws.{ClosureLaw, NativeLaw, call_match, FewValues}

-- the row's arguments are the values behind what is called

next_values : (v : Value) (vs : List Value) (i n : ℕ) → map (direct.value_of (v ∷ vs)) (values_from (suc i) n) ≡ map (direct.value_of vs) (values_from i n)
next_values v vs i zero = refl
next_values v vs i (suc n) =
    let e : suc i + 1 ≡ suc (i + 1) = omega arith in
    rw e (ap (λ l. direct.value_of vs (held i) ∷ l) (next_values v vs (i + 1) n))

first_values : (vs : List Value) → map (direct.value_of vs) (values_from 0 (length vs)) ≡ vs
first_values [] = refl
first_values (v ∷ vs) = ap (λ l. v ∷ l) (next_values v vs 0 (length vs) ∙ first_values vs)

behind_first : (v : Value) (vs : List Value) → map (direct.value_of (v ∷ vs)) (values_from 1 (length (v ∷ vs) - 1)) ≡ vs
behind_first v vs =
    let e : suc (length vs) - 1 ≡ length vs = omega arith in
    rw e (next_values v vs 0 (length vs) ∙ first_values vs)

-- what ends a form that gives its answer
pub tail_next : {form : Bool} {H : Here} {T : Temps} {d k : ℕ} {w : State} {g : Tags} {s : Store} {i : ℕ} {next : Cont} {next' : Cont'} (at : Places Value) → NextAt form H T d k w g s i next next' → NextAt form H T d k w g s i (Source.called_next (Source.answered H 1 at (Direct.or_throw Direct.give)) next) next'
tail_next at x = record {
  gives = record { on = λ c le v e w z n g s y m is r k. x.gives.on c le v e w z n g s y m is r k };
  throws = record { on = λ c le v e w z n g s y m is r k. x.throws.on c le v e w z n g s y m is r k };
}

-- a throw passes what waits for a reference
throws_callee : {H : Here} {T : Temps} {d k : ℕ} {w : State} {g : Tags} {s : Store} {i : ℕ} {next : Cont} {next' : Cont'} (es : t.Tree t.exprs) → Throws H T d k w g s i next next' → Throws H T d k w g s i next (λ e s1. bind (Target.on_target_of (Target.after_callee es (env_of H)) e s1) next')
throws_callee es x = record { on = λ c le v e w z n g s y m is r k. x.on c le v e w z n g s y m is r k }

-- the call, when its arguments are there
plain_match : {H : Here} {T : Temps} {d k : ℕ} (closures : ClosureLaw H d) (natives : NativeLaw H d) (a : ℕ) (v : Value) (e : EsValue) (us : List Value) (qs : List EsValue) {w : State} {z : List Item} {n : ℕ} {g : Tags} {s : Store} {y : Kept} {m : ℕ} (next : Cont) (next' : Cont') → a < d → IsCallable w v → Val s.heap v e → Vals s.heap us qs → FewValues m qs → Rel H T (suc k) w z n g s y m → NextValue H T a k w g s m next next'
    → M H a (bind (Source.act_plan H 1 (Source.kept (v ∷ us)) (Direct.rows guards.plain_call H.around (0 ∷ []) Direct.give) w) next) z n (bind (Target.do_call (Target.called (just e)) qs (env_of H) s) next') y m
plain_match {H = H} closures natives a v e us qs {w = w} {z = z} {n = n} {s = s} {y = y} {m = m} next next' lt fun is args small r x =
    let done = direct.does H.by (guards.plain_call (length (v ∷ us))) (direct.given (v ∷ us)) w [] in
    let go = Source.answered H 1 (Source.kept (v ∷ us)) (Direct.or_throw Direct.give) in
    let called = bind (Target.do_call (Target.called (just e)) qs (env_of H) s) next' in
    left_tell H done.items (outcome_reply H.around.calls H.by done.outcome done.world) go next z
    (subst (λ l. M H a (bind (replied (outcome_reply H.around.calls H.by (direct.calls true v World.undefined l) w) go) next) (z ++ done.items) n called y m) (sym (behind_first v us))
    (call_match closures natives true a v World.undefined e es.Undefined us qs go next next' lt fun is tt args small (rel_less (omega arith) (rel_told done.items (quiet_row H.by (guards.plain_call (length (v ∷ us))) tt tt (direct.given (v ∷ us)) w [] refl) r)) (tail_next (Source.kept (v ∷ us)) x)))

pub call_body : {H : Here} {d b q : ℕ} {e : c.Tree c.expr} {e' : t.Tree t.expr} → H.by < 64 → ClosureLaw H d → NativeLaw H d → (law : Values H d) → ValueLaw H d b q e e' → (es : c.Tree c.exprs) → Guest H.vars H.free c.exprs es → ValueBody H d b (q + temps c.exprs es) (c.call e es) (t.call (runtime_call (codes "asSimpleFunc") (single e')) (rewritten false c.exprs (b + q) es))
call_body {H = H} {b = b} {q = q} {e' = e'} below closures natives law pe es guest = record {
  on = λ {T = T} {a = a} {k = k} {next = next} {next' = next'} lt room r x.
      let args' = rewritten false c.exprs (b + q) es in
      let plain = λ (vs : ℕ). Direct.rows guards.plain_call H.around (vs ∷ []) Direct.give in
      right_enter (callee_match (codes "asSimpleFunc") (single e') (λ e1 s1. bind (Target.on_target_of (Target.after_callee args' (env_of H)) e1 s1) next') (rel_pay r) (λ r1.
      with_part lt (room_part (omega arith) (omega arith) room) (omega arith) (omega arith) pe r1 (throws_callee args' x.throws) (λ c1 le1 f0 u0 w1 z1 n1 g1 s1 y1 m1 is1 r2 k1.
      let x1 = value_since le1 k1 (value_from {j = suc k} {k = suc k} (omega arith) (omega arith) (stays_step (omega arith)) x) in
      guarded_of {j = suc k} below as_simple_func-guard (IsCallable w1) guards.as_simple_func tables.as_simple_func simple_plain (f0 ∷ []) (u0 ∷ []) (Source.answered H 2 (Source.one f0) (Direct.or_throw (λ g. Rattle.acts.specs.Acts.keep (g ∷ []) (Direct.values_act es H.around plain)))) (λ v w2. Source.act_plan H 1 (Source.kept (v ∷ [])) (Direct.values_act es H.around plain 0) w2) next _ (record { plan = refl; kept = refl }) (record { value = λ v w2. refl; thrown = λ v w2. refl }) (simple_gives H.by w1 f0) (is1, tt) r2 (omega arith) (omega arith) (throws_callee args' x1.throws) (λ y2 f u w2 z2 s2 fun is2 r3 k2.
      args_match law es guest f (Target.called (just u)) [] [] c1 (b + q) (suc k) (suc k) plain next next' (omega arith) (room_part (omega arith) (omega arith) room) tt (omega arith) (rel_less (omega arith) r3) stays_refl (omega arith) (throws_from {j = suc k} {k = suc k} (omega arith) (omega arith) k2 x1.throws) (record {
        on = λ c2 le2 us qs w3 z3 n3 g3 s3 y3 m3 args many r4 k3.
            plain_match {k = suc k} closures natives c2 f u us qs next next' (omega arith) (callable_stays f (stays_trans k2 k3) fun) (val_keep k3.heap f u is2) args (λ left. omega (arith, left, many)) r4 (value_from {j = suc k} {k = suc k} le2 (omega arith) (stays_trans k2 k3) x1);
      })))));
}
