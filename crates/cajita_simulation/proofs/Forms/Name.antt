-- Variables.
use Rattle.std.proofs.Common.{◌≡◌, ◌≤◌, ℕ, true, List, sym, subst, arith}
use Rattle.plans.specs.Plans.{bind}
use Rattle.es3_tree.specs.Tree as t
use Rattle.es3_language.specs.Store.{Store}
use Rattle.es3_language.specs.References.{slot, resolve}
use Rattle.es3_language.specs.Meaning as Target
use Rattle.cajita_tree.specs.Tree as c
use Rattle.cajita_meaning.specs.World.{World}
use Rattle.cajita_meaning.specs.Direct.{Item}
use Rattle.page_natives.specs.Natives.{Kept}
use Rattle.cajita_simulation.specs.Guest.{GuestName}
use Rattle.cajita_simulation.proofs.Doing as Source
use Rattle.cajita_simulation.proofs.Relation.{Here, env_of, Tags, Temps, Rel}
use Rattle.cajita_simulation.proofs.Scopes.{FoundAt}
use Rattle.cajita_simulation.proofs.Slots.{slot_plan}
use Rattle.cajita_simulation.proofs.Writes.{find}
use Rattle.cajita_simulation.proofs.Laws.{ValueBody, NextValue, Cont, Cont', M, give}

name_end : {H : Here} {T : Temps} {d j k i : ℕ} (x : List ℕ) (place : ℕ) {w : World} {z : List Item} {n : ℕ} {g : Tags} {s : Store} {y : Kept} {m : ℕ} {next : Cont} {next' : Cont'} → GuestName x → j ≤ k → i ≤ m → resolve H.chain s x ≡ slot place x → FoundAt g H.by H.around.chain w.scopes s x place → Rel H T k w z n g s y m → NextValue H T d j w g s i next next' → M H d (bind (Source.expr_plan (c.name x) H w) next) z n (bind (Target.expr_plan (t.name x) (env_of H) s) next') y m
name_end {H = H} {d = d} x place {w = w} {z = z} {n = n} {s = s} {y = y} {m = m} {next = next} {next' = next'} guest less few at f r x1 =
    subst (λ o. M H d (bind (Source.found_or o H w) next) z n (bind (Target.expr_plan (t.name x) (env_of H) s) next') y m) (sym f.looked)
    (subst (λ p. M H d (next (Source.gave f.known) w) z n (bind p next') y m) (sym (slot_plan x (env_of H) s place f.value guest.own_name at f.there)) (give less few x1 f.same r))

pub name_body : {H : Here} {d b : ℕ} (x : List ℕ) → H.vars x ≡ true → GuestName x → ValueBody H d b 0 (c.name x) (t.name x)
name_body x known guest = record {
  on = λ lt room r next.
      let p = r.here.captured.names x known in
      name_end x p.scope guest (omega arith) (omega arith) p.at (find x p.scope p.at guest r) r next;
}
