-- The arguments of a plain call from the left, behind what is called.
use Rattle.std.proofs.Common.{ℕ, suc, ◌+◌, ◌≤◌, ◌<◌, false, List, [], ◌∷◌, ◌++◌, length, arith}
use Rattle.std.proofs.lemmas.List.{length-append}
use Rattle.plans.specs.Plans.{bind}
use Rattle.es3_language.specs.Store.{Store}
use Rattle.es3_language.specs.Meaning as Target
use Rattle.cajita_tree.specs.Tree as c
use Rattle.cajita_rewrite.specs.Rewrite.{rewritten, temps}
use Rattle.cajita_meaning.specs.World.{Value, World}
use Rattle.cajita_meaning.specs.Direct as Direct
use Rattle.cajita_meaning.specs.Direct.{Item}
use Rattle.page_natives.specs.Natives.{Kept}
use Rattle.cajita_simulation.specs.Guest.{Guest}
use Rattle.cajita_simulation.proofs.Doing as Source
use Rattle.row_simulation.proofs.Relation as row_relation
use Rattle.row_simulation.proofs.Row.{vals_append}
use Rattle.cajita_simulation.proofs.Relation.{EsValue, Vals, Here, env_of, Tags, Temps, Rel, Stays, rel_less, stays_refl, stays_trans, stays_before}
use Rattle.cajita_simulation.proofs.Laws.{Cont, Cont', M, Room, room_part, Throws, throws_from, with_part}
use Rattle.cajita_simulation.proofs.Forms.Values.{Values}

-- what is done with what is called and the values
pub record ArgsEnd (H : Here) (T : Temps) (d k : ℕ) (w0 : World) (g0 : Tags) (s0 : Store) (i : ℕ) (callee : Target.Callee) (f : Value) (go : ℕ → Source.Act) (next : Cont) (next' : Cont') : Type 0 where
  pub on : (a : ℕ) → a ≤ d → (vs : List Value) (us : List EsValue) (w : World) (z : List Item) (n : ℕ) (g : Tags) (s : Store) (y : Kept) (m : ℕ) → Vals s.heap vs us → length us ≤ m → Rel H T (suc k) w z n g s y m → Stays w0 g0 s0 i w g s m → M H a (bind (Source.act_plan H 1 (Source.kept (f ∷ vs)) (go 0) w) next) z n (bind (Target.do_call callee us (env_of H) s) next') y m

one_more : (us : List EsValue) (e : EsValue) {m n : ℕ} → length us ≤ m → suc m ≤ n → length (us ++ e ∷ []) ≤ n
one_more us e le few = omega (arith, length-append us (e ∷ []), le, few)

pub args_match : {H : Here} {T : Temps} {d : ℕ} (law : Values H d) (es : c.Tree c.exprs) → Guest H.vars H.free c.exprs es → (f : Value) (callee : Target.Callee) (vs : List Value) (us : List EsValue) (a b k j : ℕ) {i : ℕ} {w0 w : World} {z : List Item} {n : ℕ} {g0 g : Tags} {s0 s : Store} {y : Kept} {m : ℕ} (go : ℕ → Source.Act) (next : Cont) (next' : Cont') → a < d → Room H T b (temps c.exprs es) → Vals s.heap vs us → length us ≤ m → Rel H T (suc k) w z n g s y m → Stays w0 g0 s0 i w g s m → j ≤ k → Throws H T a j w0 g0 s0 i next next' → ArgsEnd H T a k w0 g0 s0 i callee f go next next'
    → M H a (bind (Source.act_plan H 1 (Source.kept (f ∷ vs)) (Direct.values_act es H.around go 0) w) next) z n (bind (Target.arguments callee us (rewritten false c.exprs b es) (env_of H) s) next') y m
unfolding rewritten
args_match law c.no_exprs guest f callee vs us a b k j go next next' lt room are many r keep less x end = end.on a (omega arith) vs us _ _ _ _ _ _ _ are many r keep
args_match {H = H} {T = T} law (c.more_exprs e rest) guest f callee vs us a b k j {m = m} go next next' lt room are many r keep less x end =
    with_part {j = j} {i = m} lt (room_part (omega arith) (omega arith) room) (omega (arith, less)) (omega arith) (law b e guest.0) r (record { on = λ c le v u w1 z1 n1 g1 s1 y1 m1 is r1 k1. x.on c le v u w1 z1 n1 g1 s1 y1 m1 is r1 (stays_trans keep k1) }) (λ c1 le1 v1 e1 w1 z1 n1 g1 s1 y1 m1 is1 r1 k1.
    args_match law rest guest.1 f callee (vs ++ v1 ∷ []) (us ++ e1 ∷ []) c1 (b + temps c.expr e) k j go next next' (omega arith) (room_part (omega arith) (omega arith) room) (vals_append s1.heap vs (v1 ∷ []) us (e1 ∷ []) (row_relation.vals_keep k1.heap.objects vs us are) (is1, tt)) (one_more us e1 many k1.heap.more) (rel_less (omega arith) r1) (stays_trans keep (stays_before k1)) less (throws_from {j = j} {k = j} le1 (omega arith) (stays_refl) x) (record { on = λ a2 le2. end.on a2 (omega (arith, le1, le2)) }))
