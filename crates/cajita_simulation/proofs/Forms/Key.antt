-- A key: a written one is its text, and a computed one a part.
use Rattle.std.proofs.Common.{ℕ, suc, ◌≤◌, ◌<◌, false, List, [], ◌∷◌, refl, arith}
use Rattle.plans.specs.Plans.{bind}
use Rattle.acts.specs.Acts.{Places, put}
use Rattle.matching.proofs.Rules.{right_enter}
use Rattle.es3_objects.specs.declared.value.Value.TheVariants as es
use Rattle.es3_language.specs.Store.{Store}
use Rattle.es3_language.specs.Meaning as Target
use Rattle.cajita_tree.specs.Tree as c
use Rattle.cajita_rewrite.specs.Rewrite.{rewritten, temps}
use Rattle.cajita_meaning.specs.World.{Value, World, text}
use Rattle.cajita_meaning.specs.Direct as Direct
use Rattle.cajita_meaning.specs.Direct.{Item}
use Rattle.page_natives.specs.Natives.{Kept}
use Rattle.cajita_simulation.specs.Guest.{Guest}
use Rattle.cajita_simulation.proofs.Doing as Source
use Rattle.cajita_simulation.proofs.Relation.{EsValue, Val, Here, env_of, Tags, Temps, Rel, Stays, rel_pay, rel_less, stays_step}
use Rattle.cajita_simulation.proofs.Laws.{Cont, Cont', M, Room, Throws, with_part}
use Rattle.cajita_simulation.proofs.Forms.Values.{Values}

-- from a key on both sides to what is done with its value; the key takes a step where it is a literal
pub key_match : {H : Here} {T : Temps} {d a b j k i : ℕ} (law : Values H d) (key : c.Tree c.key) → Guest H.vars H.free c.key key → (p : ℕ) (at : Places Value) (act : ℕ → Source.Act) {w : World} {z : List Item} {n : ℕ} {g : Tags} {s : Store} {y : Kept} {m : ℕ} (go' : EsValue → Store → Target.Plan) (next : Cont) (next' : Cont')
    → a < d → Room H T b (temps c.key key) → j ≤ k → i ≤ suc m → Rel H T (suc k) w z n g s y m → Throws H T a j w g s i next next'
    → ((c : ℕ) → c ≤ a → (v : Value) (u : EsValue) (w' : World) (z' : List Item) (n' : ℕ) (g' : Tags) (s' : Store) (y' : Kept) (m' : ℕ) → Val s'.heap v u → Rel H T k w' z' n' g' s' y' m' → Stays w g s (suc m) w' g' s' m' → M H c (bind (Source.act_plan H (suc p) (put p (v ∷ []) at) (act p) w') next) z' n' (bind (go' u s') next') y' m')
    → M H a (bind (Source.act_plan H p at (Direct.the_key key H.around act) w) next) z n (bind (Target.with_value (rewritten false c.key b key) (env_of H) s go') next') y m
unfolding rewritten
key_match law (c.fixed us) guest p at act go' next next' lt room less few r x f = right_enter (f _ (omega arith) (text us) (es.Text us) _ _ _ _ _ _ _ refl (rel_pay r) (stays_step (omega arith)))
key_match {b = b} {k = k} law (c.computed e) guest p at act go' next next' lt room less few r x f =
    with_part lt room (omega (arith, less)) (omega (arith, few)) (law b e guest) r x (λ c1 le1 v u w1 z1 n1 g1 s1 y1 m1 is1 r1 k1. f c1 le1 v u w1 z1 n1 g1 s1 y1 m1 is1 (rel_less (omega arith) r1) k1)
