-- Assignments to a variable: `x = e` (ES3 11.13.1).
use Rattle.std.proofs.Common.{◌≡◌, ℕ, suc, ◌+◌, ◌≤◌, true, List, None, sym, ◌∙◌, subst, arith}
use Rattle.plans.specs.Plans.{bind}
use Rattle.matching.proofs.Rules.{right_enter}
use Rattle.es3_tree.specs.Tree as t
use Rattle.es3_language.specs.Store.{Store}
use Rattle.es3_language.specs.References.{slot, resolve}
use Rattle.es3_language.specs.Expressions.{assign_to, write_plan}
use Rattle.es3_language.specs.Meaning as Target
use Rattle.cajita_tree.specs.Tree as c
use Rattle.cajita_meaning.specs.World.{Value, World}
use Rattle.cajita_meaning.specs.Direct.{Item}
use Rattle.page_natives.specs.Natives.{Kept}
use Rattle.cajita_simulation.specs.Guest.{GuestName}
use Rattle.cajita_simulation.proofs.Doing as Source
use Rattle.cajita_simulation.proofs.Relation.{EsValue, Val, Here, env_of, Tags, Temps, Place, Rel, Stays, val_keep, rel_pay, rel_less, stays_step, stays_trans}
use Rattle.cajita_simulation.proofs.Scopes.{resolve_stays}
use Rattle.cajita_simulation.proofs.Written.{slot_written}
use Rattle.cajita_simulation.proofs.Writes.{find, rel_assigned, stays_assigned, rel_shared, stays_shared}
use Rattle.cajita_simulation.proofs.Slots.{slot_target}
use Rattle.cajita_simulation.proofs.Laws.{ValueLaw, ValueBody, NextValue, value_since, Cont, Cont', M, room_part, with_part}

-- it is found there too when the objects that share its value changed
pub found_shared : {H : Here} {T : Temps} {k : ℕ} {w : World} {z : List Item} {n : ℕ} {g : Tags} {s s' : Store} {y : Kept} {m : ℕ} (x : List ℕ) (c : ℕ) → resolve H.chain s x ≡ slot c x → Rel H T k w z n g s y m → Rel H T k w z n g s' y m → Stays w g s m w g s' m → resolve H.chain s' x ≡ slot c x
found_shared {H = H} {s = s} {s' = s'} x c at r r1 keep = resolve_stays H.chain s s' x c r.here.captured.within r.all.scopes.are r1.all.scopes.are (λ n lt. keep.shaped.shape n x lt) at

-- a variable that was found is written on both sides, and a value goes on
pub written_match : {H : Here} {T : Temps} {d k j i : ℕ} (x : List ℕ) → H.free x ≡ true → GuestName x → {s0 : Store} (p : Place H.free H.chain s0 x) (v u : Value) (e f : EsValue) {w0 w : World} {z : List Item} {n : ℕ} {g0 g : Tags} {s : Store} {y : Kept} {m0 m : ℕ} (next : Cont) (next' : Cont')
    → resolve H.chain s x ≡ slot p.scope x → Stays w0 g0 s0 m0 w g s m → Val s.heap v e → Val s.heap u f → Rel H T k w z n g s y m → j ≤ k → i ≤ m → NextValue H T d j w g s i next next'
    → M H d (next (Source.gave u) (Source.assign H x v w)) z n (bind (write_plan (slot p.scope x) e f (env_of H) s) next') y m
written_match {H = H} {d = d} x free guest p v u e f {w = w} {z = z} {n = n} {s = s} {y = y} {m = m} next next' there keep is is' r less few x1 =
    let shared = rel_shared p.scope x e r in
    let kept = stays_shared p.scope x e r in
    let q = find x p.scope (found_shared x p.scope there r shared kept) guest shared in
    subst (λ s2. M H d (next (Source.gave u) (Source.assign H x v w)) z n (next' (Target.gave f) s2) y m) (sym (slot_written s p.scope x e (keep.shaped.fixed p.scope p.below ∙ p.written free)))
    (x1.gives.on d (omega arith) u f _ _ _ _ _ _ _ (val_keep kept.heap u f is') (rel_less less (rel_assigned x p.scope v e guest q (val_keep kept.heap v e is) shared)) (stays_trans (stays_step few) (stays_trans kept (stays_assigned H x p.scope v e q.value q.there))))

-- a name that was found is found there later
pub found_later : {H : Here} {T T' : Temps} {k l : ℕ} (x : List ℕ) {w w' : World} {z z' : List Item} {n n' : ℕ} {g g' : Tags} {s s' : Store} {y y' : Kept} {m m' i : ℕ} (p : Place H.free H.chain s x) → Rel H T k w z n g s y m → Stays w g s i w' g' s' m' → Rel H T' l w' z' n' g' s' y' m' → resolve H.chain s' x ≡ slot p.scope x
found_later {H = H} x {s = s} {s' = s'} p r keep r1 = resolve_stays H.chain s s' x p.scope r.here.captured.within r.all.scopes.are r1.all.scopes.are (λ n lt. keep.shaped.shape n x lt) p.at

pub assign_body : {H : Here} {d b q : ℕ} {e : c.Tree c.expr} {e' : t.Tree t.expr} (x : List ℕ) → H.vars x ≡ true → H.free x ≡ true → GuestName x → ValueLaw H d b q e e' → ValueBody H d b (0 + q) (c.assign None (c.variable x) e) (t.assign None (t.name x) e')
assign_body {H = H} {e = e} {e' = e'} x known free guest pe = record {
  on = λ {a = a} {k = k} {w = w} {z = z} {n = n} {g = g} {s = s} {y = y} {m = m} {next = next} {next' = next'} lt room r x1.
      let p = r.here.captured.names x known in
      right_enter (subst (λ q. M H a (bind (Source.expr_plan (c.assign None (c.variable x) e) H w) next) z n (bind q (λ e1 s1. bind (Target.on_target_of (assign_to e' (env_of H)) e1 s1) next')) y (suc m)) (sym (slot_target x (env_of H) s p.scope guest.own_name p.at))
      (with_part lt (room_part (omega arith) (omega arith) room) (omega arith) (omega arith) pe (rel_pay r) (record { on = λ c le v u w1 z1 n1 g1 s1 y1 m1 is r1 k1. x1.throws.on c le v u w1 z1 n1 g1 s1 y1 m1 is r1 k1 }) (λ c1 le1 v1 e1 w1 z1 n1 g1 s1 y1 m1 is1 r1 k1.
      written_match {j = suc k} x free guest p v1 v1 e1 e1 next next' (found_later x p r k1 r1) k1 is1 is1 r1 (omega arith) (omega arith) (value_since le1 (stays_trans (stays_step (omega arith)) k1) x1))));
}
