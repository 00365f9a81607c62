-- Function expressions without a name of their own: `function (a) {..}` is `___.func(function(a){..})`.
use Rattle.std.proofs.Common.{ℕ, suc, ◌<◌, false, Bool, List, [], ◌∷◌, length, None, refl, sym, subst, arith}
use Rattle.std.specs.Prelude.{codes}
use Rattle.plans.specs.Plans.{bind}
use Rattle.matching.proofs.Rules.{right_enter, left_told}
use Rattle.es3_tree.specs.Tree as t
use Rattle.es3_objects.specs.declared.value.Value.TheVariants as es
use Rattle.es3_language.specs.Store.{with_code}
use Rattle.es3_language.specs.Hoisting.{code_of}
use Rattle.cajita_tree.specs.Tree as c
use Rattle.cajita_rewrite.specs.Rewrite.{rewritten, runtime_call, single}
use Rattle.cajita_meaning.specs.World as World
use Rattle.cajita_meaning.specs.World.{a_closure, next_name}
use Rattle.cajita_meaning.specs.Direct.{made}
use Rattle.row_simulation.proofs.Changes.{room}
use Rattle.cajita_simulation.specs.Guest.{Guest}
use Rattle.cajita_simulation.proofs.Doing as Source
use Rattle.cajita_simulation.proofs.Heaps.Guards.{func-guard}
use Rattle.cajita_simulation.proofs.Heaps.Silent.{func-silent}
use Rattle.cajita_simulation.proofs.Heaps.Functions.{opened_kept-function}
use Rattle.cajita_simulation.proofs.Relation.{Here, env_of, Rel, stays_trans, stays_step, rel_pay}
use Rattle.cajita_simulation.proofs.Changes.{rel_told}
use Rattle.cajita_simulation.proofs.Closures.{closed_store, func_plan, related_closure, stays_closure, closure_named, in_closure}
use Rattle.cajita_simulation.proofs.Laws.{ValueBody, M, steps_hold}
use Rattle.cajita_simulation.proofs.Calls.{callee_match, guard_at, opened_of}

pub function_body : {H : Here} {d b : ℕ} → H.by < 64 → (params : List (List ℕ)) (args : Bool) (body : c.Tree c.body) → Guest H.vars H.free c.func (c.fun None params args body) → ValueBody H d b 0 (c.function (c.fun None params args body)) (runtime_call (codes "func") (single (t.function (rewritten false c.func 0 (c.fun None params args body)))))
unfolding rewritten
function_body {H = H} below params args body guest = record {
  on = λ {T = T} {a = a} {k = k} {w = w} {z = z} {n = n} {g = g} {s = s} {y = y} {m = m} {next = next} {next' = next'} lt room1 r x.
      let f = c.fun None params args body in
      let code = code_of (rewritten false c.func 0 f) H.chain in
      let p0 = bind (Source.expr_plan (c.function f) H w) next in
      callee_match (codes "func") (single (t.function (rewritten false c.func 0 f))) next' r (λ r1.
      right_enter (guard_at H func-guard func-silent (es.Obj (length s.heap.list) ∷ []) (with_code code H.by s) next' (opened_kept-function (length s.codes) (length code.params) H.by s.heap (opened_of r.all.objects)) (steps_hold (rel_pay r1)) r1.all.items (λ small.
      subst (λ q. M H a p0 z n (bind q next') y (suc (suc (suc (suc m))))) (sym (func_plan code (env_of H) s y))
      (let r2 = rel_pay r1 in
      let r3 : Rel H T (suc k) (World.with_object H.by (a_closure f H.around.chain) w) z n g (closed_store code H.by s) y (suc (suc (suc (suc m)))) = record {
        all = related_closure g s H.by f H.around.chain H.chain below small (omega (arith, r2.all.steps)) r.here.captured guest r2.all;
        here = in_closure g s H.by f H.around.chain H.chain r.all.scopes.are r.here;
      } in
      left_told (x.gives.on a (omega arith) (World.object (next_name H.by w)) (es.Obj (length s.heap.list)) _ _ _ _ _ _ _ (closure_named g s H.by f H.around.chain H.chain below r.all.objects) (rel_told (made H.by (next_name H.by w) ∷ []) refl r3)
      (stays_trans (stays_step (omega arith)) (stays_closure g s H.by f H.around.chain H.chain (room H.by below small r2.all.objects))))))));
}
