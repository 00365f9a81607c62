-- Operators before a value (ES3 11.4) but `delete`; `typeof` takes its operand as a reference.
use Rattle.std.proofs.Common.{◌≡◌, ℕ, zero, suc, ◌≤◌, ◌<◌, true, false, List, [], ◌∷◌, refl, sym, subst, arith}
use Rattle.plans.specs.Plans.{bind, enter}
use Rattle.matching.proofs.Rules.{both_cut, both_enter}
use Rattle.es3_tree.specs.Tree as t
use Rattle.es3_tree.specs.declared.UnOp.{UnOp}
use Rattle.es3_tree.specs.declared.UnOp.TheVariants as un
use Rattle.es3_language.specs.Store.{Store}
use Rattle.std.specs.Prelude.{codes}
use Rattle.es3_language.specs.References.{slot, resolve}
use Rattle.es3_language.specs.Expressions.{type_plan, type_of_value, convert_plan}
use Rattle.es3_language.specs.Meaning as Target
use Rattle.cajita_tree.specs.Tree as c
use Rattle.cajita_meaning.specs.World.{Value, World}
use Rattle.cajita_meaning.specs.Direct as Direct
use Rattle.cajita_meaning.specs.Direct.{Item}
use Rattle.page_natives.specs.Natives.{Kept}
use Rattle.cajita_simulation.specs.Guest.{GuestName}
use Rattle.cajita_simulation.proofs.Doing as Source
use Rattle.cajita_simulation.proofs.Relation.{EsValue, Val, Here, env_of, Tags, Temps, Rel, rel_both, stays_refl, stays_step}
use Rattle.es3_language.specs.Arguments.{is_arguments}
use Rattle.cajita_rewrite.specs.Rewrite.{arguments_copy}
use Rattle.cajita_simulation.proofs.Scopes.{FoundAs}
use Rattle.cajita_simulation.proofs.Slots.{slot_target}
use Rattle.cajita_simulation.proofs.Writes.{find, find_args}
use Rattle.cajita_simulation.proofs.Laws.{ValueLaw, ValueBody, NextValue, value_from, value_since, Room, with_part, give, steps_hold, Cont, Cont', M}
use Rattle.cajita_simulation.proofs.Operators.{unary_match}

-- an operator that takes the value of its operand
abbrev pub OfValue : UnOp → Type 0
OfValue un.Delete = ⊥
OfValue un.Typeof = ⊥
OfValue op = Unit {0}

convert_is : (op : UnOp) (e' : t.Tree t.expr) (env : Target.Env) (s : Store) → OfValue op → Target.expr_plan (t.unary op e') env s ≡ Target.with_value e' env s (convert_plan op)
convert_is un.Delete e' env s own = absurd own
convert_is un.Typeof e' env s own = absurd own
convert_is op e' env s own = refl

pub unary_body : {H : Here} {d b q : ℕ} {e : c.Tree c.expr} {e' : t.Tree t.expr} (op : UnOp) → OfValue op → ValueLaw H d b q e e' → ValueBody H d b q (c.unary op e) (t.unary op e')
unary_body {H = H} {e = e} {e' = e'} op own pe = record {
  on = λ {a = a} {k = k} {w = w} {z = z} {n = n} {s = s} {y = y} {m = m} {next = next} {next' = next'} lt room r x.
      subst (λ o. M H a (bind (Source.expr_plan (c.unary op e) H w) next) z n (bind o next') y m) (sym (convert_is op e' (env_of H) s own))
      (with_part {go' = convert_plan op} lt room (omega arith) (omega arith) pe r x.throws (λ c1 le1 v1 e1 w1 z1 n1 g1 s1 y1 m1 is1 r1 k1.
      unary_match op v1 e1 (Source.answered H 2 _ (Direct.or_throw Direct.give)) Target.give next next' is1 r1 (λ v u z is r2. give (omega arith) (omega arith) (value_since le1 k1 x) is r2)));
}

-- `typeof`: the law of an operand whose type is asked

pub record TypeLaw (H : Here) (d b q : ℕ) (e : c.Tree c.expr) (e' : t.Tree t.expr) : Type 0 where
  pub on : {T : Temps} {a k : ℕ} {w : World} {z : List Item} {n : ℕ} {g : Tags} {s : Store} {y : Kept} {m : ℕ} {next : Cont} {next' : Cont'} → a < d → Room H T b q → Rel H T k w z n g s y m → NextValue H T a (suc k) w g s (suc m) next next'
      → M H a (enter (Source.value_of e H) w (λ e w'. bind (Source.on_value_of (λ v w''. Source.act_plan H 2 (Source.one v) (Direct.the_row (Rattle.rows.specs.Operators.unary_row un.Typeof) H.around (1 ∷ []) Direct.give) w'') e w') next)) z n
      (enter (Target.target_of e' (env_of H)) s (λ e s'. bind (Target.on_target_of (type_plan (env_of H)) e s') next')) y m

pub type_zero : {H : Here} {b q : ℕ} {e : c.Tree c.expr} {e' : t.Tree t.expr} → TypeLaw H 0 b q e e'
type_zero = record { on = λ lt room r x. absurd (omega arith) }

-- the type of a value that both have
type_match : {H : Here} {T : Temps} {d j k i : ℕ} (v : Value) (e : EsValue) {w : World} {z : List Item} {n : ℕ} {g : Tags} {s : Store} {y : Kept} {m : ℕ} {next : Cont} {next' : Cont'} → j ≤ k → i ≤ m → Val s.heap v e → Rel H T k w z n g s y m → NextValue H T d j w g s i next next'
    → M H d (bind (Source.act_plan H 2 (Source.one v) (Direct.the_row (Rattle.rows.specs.Operators.unary_row un.Typeof) H.around (1 ∷ []) Direct.give) w) next) z n (bind (type_of_value e s) next') y m
type_match {H = H} v e {next = next} {next' = next'} less few is r x =
    unary_match un.Typeof v e (Source.answered H 2 (Source.one v) (Direct.or_throw Direct.give)) Target.give next next' is r (λ o u z is2 r2. give less few x is2 r2)

-- an operand that is no name, no member: it is entered as a value is
type_at : {H : Here} {d b q : ℕ} {e : c.Tree c.expr} {e' : t.Tree t.expr} → ((env : Target.Env) (s : Store) → Target.target_plan e' env s ≡ Target.expr_plan e' env s) → (go : ValueBody H d b q e e') {T : Temps} (a k : ℕ) {w : World} {z : List Item} {n : ℕ} {g : Tags} {s : Store} {y : Kept} {m : ℕ} {next : Cont} {next' : Cont'} → a < suc d → Room H T b q → Rel H T k w z n g s y m → NextValue H T a (suc k) w g s (suc m) next next'
    → M H a (enter (Source.value_of e H) w (λ e w'. bind (Source.on_value_of (λ v w''. Source.act_plan H 2 (Source.one v) (Direct.the_row (Rattle.rows.specs.Operators.unary_row un.Typeof) H.around (1 ∷ []) Direct.give) w'') e w') next)) z n
    (enter (Target.target_of e' (env_of H)) s (λ e s'. bind (Target.on_target_of (type_plan (env_of H)) e s') next')) y m
type_at same go zero k lt room r x = both_cut (steps_hold r) r.all.items
type_at {H = H} {e = e} same go (suc a) k {w = w} {z = z} {n = n} {s = s} {y = y} {m = m} {next = next} {next' = next'} lt room r x =
    both_enter (subst (λ o. M H a (bind (Source.expr_plan e H w) (λ e w'. bind (Source.on_value_of (λ v w''. Source.act_plan H 2 (Source.one v) (Direct.the_row (Rattle.rows.specs.Operators.unary_row un.Typeof) H.around (1 ∷ []) Direct.give) w'') e w') next)) z (suc n) (bind o (λ e s'. bind (Target.on_target_of (type_plan (env_of H)) e s') next')) y (suc m)) (sym (same (env_of H) s))
    (go.on (omega arith) room (rel_both r) (record {
      gives = record { on = λ c le v u w1 z1 n1 g1 s1 y1 m1 is r1 keep. type_match {j = suc k} v u (omega arith) (omega arith) is r1 (value_from {j = suc k} {k = suc k} (omega (arith, le)) (omega arith) keep x) };
      throws = record { on = λ c le v u w1 z1 n1 g1 s1 y1 m1 is r1 keep. x.throws.on c (omega (arith, le)) v u w1 z1 n1 g1 s1 y1 m1 is r1 keep };
    })))

pub type_law : {H : Here} {d b q : ℕ} {e : c.Tree c.expr} {e' : t.Tree t.expr} → ((env : Target.Env) (s : Store) → Target.target_plan e' env s ≡ Target.expr_plan e' env s) → ValueBody H d b q e e' → TypeLaw H (suc d) b q e e'
type_law same go = record { on = λ lt room r x. type_at same go _ _ lt room r x }

-- a variable, which is found under a name there
found_type : {H : Here} (e : c.Tree c.expr) (x x' : List ℕ) (place : ℕ) → is_arguments x' ≡ false → ((w : World) → Source.expr_plan e H w ≡ Source.found_or (Source.lookup H.around.chain (w.scopes H.by) x) H w) → {T : Temps} (a k : ℕ) {w : World} {z : List Item} {n : ℕ} {g : Tags} {s : Store} {y : Kept} {m : ℕ} {next : Cont} {next' : Cont'} → resolve H.chain s x' ≡ slot place x' → FoundAs g H.by H.around.chain w.scopes s x x' place → Rel H T k w z n g s y m → NextValue H T a (suc k) w g s (suc m) next next'
    → M H a (enter (Source.value_of e H) w (λ e w'. bind (Source.on_value_of (λ v w''. Source.act_plan H 2 (Source.one v) (Direct.the_row (Rattle.rows.specs.Operators.unary_row un.Typeof) H.around (1 ∷ []) Direct.give) w'') e w') next)) z n
    (enter (Target.target_of (t.name x') (env_of H)) s (λ e s'. bind (Target.on_target_of (type_plan (env_of H)) e s') next')) y m
found_type e x x' place own plan zero k at f r x1 = both_cut (steps_hold r) r.all.items
found_type {H = H} e x x' place own plan {T = T} (suc a) k {w = w} {z = z} {n = n} {g = g} {s = s} {y = y} {m = m} {next = next} {next' = next'} at f r x1 =
    let ask : Source.Completion → World → Source.Plan = λ e w'. bind (Source.on_value_of (λ v w''. Source.act_plan H 2 (Source.one v) (Direct.the_row (Rattle.rows.specs.Operators.unary_row un.Typeof) H.around (1 ∷ []) Direct.give) w'') e w') next in
    both_enter
    (subst (λ o. M H a (bind o ask) z (suc n) (bind (Target.target_plan (t.name x') (env_of H) s) (λ e s'. bind (Target.on_target_of (type_plan (env_of H)) e s') next')) y (suc m)) (sym (plan w))
    (subst (λ o. M H a (bind (Source.found_or o H w) ask) z (suc n) (bind (Target.target_plan (t.name x') (env_of H) s) (λ e s'. bind (Target.on_target_of (type_plan (env_of H)) e s') next')) y (suc m)) (sym f.looked)
    (subst (λ o. M H a (ask (Source.gave f.known) w) z (suc n) (bind o (λ e s'. bind (Target.on_target_of (type_plan (env_of H)) e s') next')) y (suc m)) (sym (slot_target x' (env_of H) s place own at))
    (subst (λ o. M H a (ask (Source.gave f.known) w) z (suc n) (bind (Rattle.es3_language.specs.Expressions.on_read o (slot place x') (env_of H) s type_of_value) next') y (suc m)) (sym f.there)
    (type_match {j = suc k} f.known f.value (omega arith) (omega arith) f.same (rel_both r) (value_from {j = suc k} {k = suc k} (omega arith) (omega arith) stays_refl x1))))))

pub type_of_name : {H : Here} {d b : ℕ} (x : List ℕ) → H.vars x ≡ true → GuestName x → TypeLaw H d b 0 (c.name x) (t.name x)
type_of_name x known guest = record { on = λ lt room r x1. let p = r.here.captured.names x known in found_type (c.name x) x x p.scope guest.own_name (λ w. refl) _ _ p.at (find x p.scope p.at guest r) r x1 }

pub type_of_args : {H : Here} {d b : ℕ} → H.vars arguments_copy ≡ true → TypeLaw H d b 0 c.args (t.name arguments_copy)
type_of_args known = record { on = λ lt room r x1. let p = r.here.captured.names arguments_copy known in found_type c.args (codes "arguments") arguments_copy p.scope refl (λ w. refl) _ _ p.at (find_args p.scope p.at r) r x1 }

pub typeof_body : {H : Here} {d b q : ℕ} {e : c.Tree c.expr} {e' : t.Tree t.expr} → TypeLaw H d b q e e' → ValueBody H d b q (c.unary un.Typeof e) (t.unary un.Typeof e')
typeof_body pe = record { on = λ {k = k} lt room r x. pe.on lt room r (value_from {j = suc k} (omega arith) (omega arith) (stays_step (omega arith)) x) }
