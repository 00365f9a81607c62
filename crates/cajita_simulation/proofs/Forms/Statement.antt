-- Statements that are themselves over rewritten parts: expressions, `throw`, jumps; an expression statement directly in the module is `moduleResult___=e;`.
use Rattle.std.proofs.Common.{◌≡◌, ℕ, suc, List, [], Option, Some, None, refl, sym, ap, subst, arith}
use Rattle.std.specs.Prelude.{is_some}
use Rattle.plans.specs.Plans.{ends, bind}
use Rattle.matching.proofs.Rules.{right_enter}
use Rattle.es3_tree.specs.Tree as t
use Rattle.es3_objects.specs.declared.value.Value.TheVariants as es
use Rattle.es3_language.specs.Store.{Store, name_value}
use Rattle.es3_language.specs.References.{slot, resolve}
use Rattle.es3_language.specs.Expressions.{assign_to}
use Rattle.es3_language.specs.Meaning as Target
use Rattle.cajita_tree.specs.Tree as c
use Rattle.cajita_rewrite.specs.Rewrite.{result_name}
use Rattle.cajita_meaning.specs.World.{undefined, World}
use Rattle.cajita_meaning.specs.Direct.{Item}
use Rattle.page_natives.specs.Natives.{Kept}
use Rattle.cajita_simulation.proofs.Doing as Source
use Rattle.cajita_simulation.proofs.Relation.{EsValue, Here, env_of, names_at, Tags, Temps, holds, SlotIs, Rel, val_keep, stays_refl, stays_step, stays_trans, stays_before, rel_pay, rel_less}
use Rattle.cajita_simulation.proofs.Written.{slot_written}
use Rattle.cajita_simulation.proofs.Writes.{rel_put, rel_shared, stays_shared, stays_held}
use Rattle.cajita_simulation.proofs.Slots.{slot_target}
use Rattle.cajita_simulation.proofs.Laws.{ValueLaw, EffectBody, OwnBody, BareBody, M, with_part, HasResult}

-- the module's result has a value in the activation, and is found there
record ResultAt (H : Here) (s : Store) : Type 0 where
  value : EsValue
  there : name_value result_name (names_at s H.act) ≡ Some value
  at : resolve H.chain s result_name ≡ slot H.act result_name

result_at : {H : Here} {T : Temps} {k : ℕ} {w : World} {z : List Item} {n : ℕ} {g : Tags} {s : Store} {y : Kept} {m : ℕ} → HasResult H T → Rel H T k w z n g s y m → ResultAt H s
result_at {H = H} {s = s} has r =
    let p = subst (λ q. SlotIs s H.act result_name q) has.is (r.all.scopes.temps H.act result_name refl) in
    record { value = p.0; there = p.1; at = r.here.temps result_name refl (ap is_some p.1) }

pub own_expression_body : {H : Here} {d b q : ℕ} {e : c.Tree c.expr} {e' : t.Tree t.expr} → ValueLaw H d b q e e' → OwnBody H d b q (c.expression e) (t.expression (t.assign None (t.name result_name) e'))
own_expression_body {H = H} {e = e} {e' = e'} pe = record {
  on = λ {a = a} {w = w} {z = z} {n = n} {g = g} {s = s} {y = y} {m = m} {next = next} {next' = next'} to lt has room r x.
      right_enter (right_enter (subst (λ q. M H a (bind (Source.stmt_plan (c.expression e) [] H w) next) z n (bind q (λ e1 s1. bind (Target.on_target_of (assign_to e' (env_of H)) e1 s1) (λ e1 s1. bind (Target.on_value_of Target.to_normal e1 s1) next'))) y (suc (suc m))) (sym (slot_target result_name (env_of H) s H.act refl (result_at has r).at))
      (with_part {H = H} {go = Source.to_normal} lt room (omega arith) (omega arith) pe (rel_pay (rel_pay r)) (record { on = λ b le v u w1 z1 n1 g1 s1 y1 m1 is r1 k1. x.throws.on b le v u w1 z1 n1 g1 s1 y1 m1 is r1 k1 }) (λ c1 le1 v1 e1 w1 z1 n1 g1 s1 y1 m1 is1 r1 k1.
      let p = result_at has r1 in
      let kept = stays_shared H.act result_name e1 r1 in
      subst (λ s2. M H c1 (next (Source.normal (Some v1)) w1) z1 n1 (next' (Target.normal (Some e1)) s2) y1 m1) (sym (slot_written s1 H.act result_name e1 r1.here.written))
      (x.finishes.on c1 le1 (Some v1) (Some e1) _ _ _ _ _ _ _ (rel_less (omega arith) (rel_put H.act result_name (holds v1) e1 p.value p.there refl refl refl (val_keep kept.heap v1 e1 is1) (rel_shared H.act result_name e1 r1))) (stays_trans (stays_step (omega arith)) (stays_trans k1 (stays_trans kept (stays_held H.act result_name e1 p.value p.there)))))))));
}

pub expression_body : {H : Here} {d b q : ℕ} {e : c.Tree c.expr} {e' : t.Tree t.expr} → ValueLaw H d b q e e' → EffectBody H d b q (c.expression e) (t.expression e')
expression_body {H = H} pe = record {
  on = λ ls to lt room r x. with_part {H = H} {go = Source.to_normal} {go' = Target.to_normal} lt room (omega arith) (omega arith) pe r (record { on = λ b le v u w1 z1 n1 g1 s1 y1 m1 is r1 k1. x.throws.on b le v u w1 z1 n1 g1 s1 y1 m1 is r1 k1 }) (λ c1 le1 v1 e1 w1 z1 n1 g1 s1 y1 m1 is1 r1 k1.
      x.finishes.on c1 le1 (Some v1) (Some e1) w1 z1 n1 g1 s1 y1 m1 (rel_less (omega arith) r1) (stays_before k1));
}

pub throw_body : {H : Here} {d b q : ℕ} {e : c.Tree c.expr} {e' : t.Tree t.expr} → ValueLaw H d b q e e' → BareBody H d b q (c.throw e) (t.throw e')
throw_body {H = H} pe = record {
  on = λ ls to lt room r x. with_part {H = H} {go = Source.throw} {go' = Target.to_threw} lt room (omega arith) (omega arith) pe r (record { on = λ b le v u w1 z1 n1 g1 s1 y1 m1 is r1 k1. x.throws.on b le v u w1 z1 n1 g1 s1 y1 m1 is r1 k1 }) (λ c1 le1 v1 e1 w1 z1 n1 g1 s1 y1 m1 is1 r1 k1.
      x.throws.on c1 le1 v1 e1 w1 z1 n1 g1 s1 y1 m1 is1 (rel_less (omega arith) r1) (stays_before k1));
}

-- `return`, with a value and without one
pub return_body : {H : Here} {d b q : ℕ} {e : c.Tree c.expr} {e' : t.Tree t.expr} → ValueLaw H d b q e e' → BareBody H d b q (c.return (c.some_expr e)) (t.return (t.some_expr e'))
return_body {H = H} pe = record {
  on = λ ls to lt room r x. with_part {H = H} {go = λ v w. ends (Source.returned v) w} {go' = Target.to_returned} lt room (omega arith) (omega arith) pe r (record { on = λ b le v u w1 z1 n1 g1 s1 y1 m1 is1 r1 k1. x.throws.on b le v u w1 z1 n1 g1 s1 y1 m1 is1 r1 k1 }) (λ c1 le1 v1 e1 w1 z1 n1 g1 s1 y1 m1 is1 r1 k1.
      (x.returns to).on c1 le1 v1 e1 w1 z1 n1 g1 s1 y1 m1 is1 (rel_less (omega arith) r1) (stays_before k1));
}

pub leave_body : {H : Here} {d b : ℕ} → BareBody H d b 0 (c.return c.no_expr) (t.return t.no_expr)
leave_body = record { on = λ ls to lt room r x. (x.returns to).on _ (omega arith) undefined es.Undefined _ _ _ _ _ _ _ tt (rel_less (omega arith) r) stays_refl }

pub empty_body : {H : Here} {d b : ℕ} → BareBody H d b 0 c.empty t.empty
empty_body = record { on = λ ls to lt room r x. x.finishes.on _ (omega arith) tt None _ _ _ _ _ _ _ (rel_less (omega arith) r) stays_refl }

pub break_body : {H : Here} {d b : ℕ} (l : Option (List ℕ)) → BareBody H d b 0 (c.break l) (t.break l)
break_body l = record { on = λ ls to lt room r x. x.finishes.breaks _ (omega arith) l to None _ _ _ _ _ _ _ (rel_less (omega arith) r) stays_refl }

pub continue_body : {H : Here} {d b : ℕ} (l : Option (List ℕ)) → BareBody H d b 0 (c.continue l) (t.continue l)
continue_body l = record { on = λ ls to lt room r x. x.finishes.continues _ (omega arith) l to None _ _ _ _ _ _ _ (rel_less (omega arith) r) stays_refl }
