-- Labels: a statement with a label ends where a `break` names it.
use Rattle.std.proofs.Common.{◌≡◌, ℕ, true, false, List, [], ◌∷◌, Option, Some, None, cond, refl, subst, arith}
use Rattle.plans.specs.Plans.{bind}
use Rattle.acts.specs.Acts.{put}
use Rattle.es3_tree.specs.Tree as t
use Rattle.es3_language.specs.Store.{Store}
use Rattle.es3_language.specs.Statements as Es
use Rattle.es3_language.specs.Meaning as Target
use Rattle.cajita_tree.specs.Tree as c
use Rattle.cajita_meaning.specs.World.{Value, World}
use Rattle.cajita_meaning.specs.Direct as Direct
use Rattle.cajita_meaning.specs.Direct.{Item}
use Rattle.page_natives.specs.Natives.{Kept}
use Rattle.cajita_simulation.proofs.Doing as Source
use Rattle.cajita_simulation.proofs.Relation.{EsValue, Here, stays_before, rel_less}
use Rattle.cajita_simulation.proofs.Laws.{in_label, EffectLaw, BareBody, still, Cont, Cont', M}

label_same : (k : Option (List ℕ)) (l : List ℕ) → Source.is_label k l ≡ Es.is_label k l
label_same None l = refl
label_same (Some k) l = refl

-- a `break` that names the label, or another one
labelled : {d : ℕ} (l : List ℕ) (k : Option (List ℕ)) (v : Option EsValue) (H : Here) (w : World) (s : Store) (next : Cont) (next' : Cont') {z : List Item} {n : ℕ} {y : Kept} {m : ℕ} → M H d (next (Source.normal None) w) z n (next' (Target.normal v) s) y m → (Source.is_label k l ≡ false → M H d (next (Source.broke k) w) z n (next' (Target.broke k v) s) y m) → M H d (bind (Source.ended_by H 1 Source.start (Direct.on_label l) (Source.broke k) w) next) z n (bind (Es.on_label l (Target.broke k v) s) next') y m
labelled {d = d} l k v H w s next next' {z = z} {n = n} {y = y} {m = m} f g =
    let cases = elim (Source.is_label k l) as (λ b. Source.is_label k l ≡ b → M H d (bind (Source.act_plan H 2 (put 1 [] Source.start) (cond b Direct.finish (Direct.pass (Direct.breaks k) 1)) w) next) z n (next' (cond b (Target.normal v) (Target.broke k v)) s) y m) [
      | true ↦ λ is. f
      | false ↦ λ is. g is
    ] in
    subst (λ b. M H d (bind (Source.act_plan H 2 (put 1 [] Source.start) (cond (Source.is_label k l) Direct.finish (Direct.pass (Direct.breaks k) 1)) w) next) z n (next' (cond b (Target.normal v) (Target.broke k v)) s) y m) (label_same k l) (cases refl)

label_on : {d : ℕ} (l : List ℕ) (v : Option Value) (H : Here) (w : World) (next : Cont) {z : List Item} {n : ℕ} {q : Target.Plan} {y : Kept} {m : ℕ} → M H d (next (Source.normal None) w) z n q y m → M H d (bind (Source.ended_by H 1 Source.start (Direct.on_label l) (Source.normal v) w) next) z n q y m
label_on l None H w next x = x
label_on l (Some v) H w next x = x

pub label_body : {H : Here} {d b q : ℕ} {x : c.Tree c.stmt} {x' : t.Tree t.stmt} (l : List ℕ) → EffectLaw H d b q x x' → BareBody H d b q (c.label l x) (t.label l x')
label_body {H = H} l px = record {
  on = λ {J = J} {k = k} {next = next} {next' = next'} ls to lt room r x. px.on {J = in_label l J} (l ∷ ls) to lt room r (record {
    finishes = record {
      on = λ c le v u w z n g s y m r1 k1. label_on l v H w next (x.finishes.on c le tt u w z n g s y m (rel_less (omega arith) r1) (stays_before k1));
      breaks = λ c le j out u w z n g s y m r1 k1. labelled l j u H w s next next' (x.finishes.on c le tt u w z n g s y m (rel_less (omega arith) r1) (stays_before k1)) (λ other. x.finishes.breaks c le j (still (J.breaks j) (Source.is_label j l) out other) u w z n g s y m (rel_less (omega arith) r1) (stays_before k1));
      continues = λ c le j out u w z n g s y m r1 k1. x.finishes.continues c le j out u w z n g s y m (rel_less (omega arith) r1) (stays_before k1);
    };
    returns = λ out. record { on = λ c le v u w z n g s y m is r1 k1. (x.returns out).on c le v u w z n g s y m is (rel_less (omega arith) r1) (stays_before k1) };
    throws = record { on = λ c le v u w z n g s y m is r1 k1. x.throws.on c le v u w z n g s y m is (rel_less (omega arith) r1) (stays_before k1) };
  });
}
