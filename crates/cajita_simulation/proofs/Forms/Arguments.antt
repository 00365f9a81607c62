-- `arguments` is `a___`, which holds the array that the direct meaning has under that name.
use Rattle.std.proofs.Common.{◌≡◌, ℕ, suc, true, refl, sym, subst, arith}
use Rattle.plans.specs.Plans.{bind}
use Rattle.es3_tree.specs.Tree as t
use Rattle.es3_language.specs.Meaning as Target
use Rattle.cajita_tree.specs.Tree as c
use Rattle.cajita_rewrite.specs.Rewrite.{arguments_copy}
use Rattle.cajita_simulation.proofs.Doing as Source
use Rattle.cajita_simulation.proofs.Relation.{Here, env_of}
use Rattle.cajita_simulation.proofs.Slots.{slot_plan}
use Rattle.cajita_simulation.proofs.Writes.{find_args}
use Rattle.cajita_simulation.proofs.Laws.{ValueBody, M, give}

pub args_body : {H : Here} {d b : ℕ} → H.vars arguments_copy ≡ true → ValueBody H d b 0 c.args (t.name arguments_copy)
args_body {H = H} known = record {
  on = λ {a = a} {k = k} {w = w} {z = z} {n = n} {g = g} {s = s} {y = y} {m = m} {next = next} {next' = next'} lt room r x.
      let p = r.here.captured.names arguments_copy known in
      let f = find_args p.scope p.at r in
      subst (λ o. M H a (bind (Source.found_or o H w) next) z n (bind (Target.expr_plan (t.name arguments_copy) (env_of H) s) next') y m) (sym f.looked)
      (subst (λ q. M H a (next (Source.gave f.known) w) z n (bind q next') y m) (sym (slot_plan arguments_copy (env_of H) s p.scope f.value refl p.at f.there)) (give {j = suc k} (omega arith) (omega arith) x f.same r));
}
