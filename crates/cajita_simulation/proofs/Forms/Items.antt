-- Expressions in a list, from the left: the items of an array in the interpreter, values at the place 0 in the direct meaning.
use Rattle.std.proofs.Common.{ℕ, suc, ◌+◌, ◌≤◌, ◌<◌, false, List, [], ◌∷◌, ◌++◌, length, sym, subst, arith}
use Rattle.std.proofs.lemmas.List.{length-append, append_assoc}
use Rattle.plans.specs.Plans.{bind}
use Rattle.es3_tree.specs.Tree as t
use Rattle.es3_language.specs.Store.{Store}
use Rattle.es3_language.specs.Meaning as Target
use Rattle.cajita_tree.specs.Tree as c
use Rattle.cajita_rewrite.specs.Rewrite.{rewritten, temps}
use Rattle.cajita_meaning.specs.World.{Value, World}
use Rattle.cajita_meaning.specs.Direct as Direct
use Rattle.cajita_meaning.specs.Direct.{Item}
use Rattle.page_natives.specs.Natives.{Kept}
use Rattle.cajita_simulation.specs.Guest.{Guest}
use Rattle.cajita_simulation.proofs.Doing as Source
use Rattle.row_simulation.proofs.Relation as row_relation
use Rattle.row_simulation.proofs.Row.{vals_append}
use Rattle.cajita_simulation.proofs.Relation.{EsValue, Vals, Here, env_of, Tags, Temps, Rel, Stays, rel_less, stays_refl, stays_trans, stays_before}
use Rattle.cajita_simulation.proofs.Laws.{Cont, Cont', M, Room, room_part, Throws, throws_from, with_part}
use Rattle.cajita_simulation.proofs.Forms.Values.{Values}

-- what is done with the values, behind others that are kept, and with the items
pub record ItemsEnd (H : Here) (T : Temps) (d k : ℕ) (w0 : World) (g0 : Tags) (s0 : Store) (i : ℕ) (front : List Value) (go : ℕ → Source.Act) (next : Cont) (next' : Cont') : Type 0 where
  pub on : (a : ℕ) → a ≤ d → (vs : List Value) (us : List EsValue) (w : World) (z : List Item) (n : ℕ) (g : Tags) (s : Store) (y : Kept) (m : ℕ) → Vals s.heap vs us → length us ≤ m → Rel H T (suc k) w z n g s y m → Stays w0 g0 s0 i w g s m → M H a (bind (Source.act_plan H 1 (Source.kept (front ++ vs)) (go 0) w) next) z n (bind (Target.items us t.no_exprs (env_of H) s) next') y m

one_more : (us : List EsValue) (e : EsValue) {m n : ℕ} → length us ≤ m → suc m ≤ n → length (us ++ e ∷ []) ≤ n
one_more us e le few = omega (arith, length-append us (e ∷ []), le, few)

pub items_match : {H : Here} {T : Temps} {d : ℕ} (law : Values H d) (es : c.Tree c.exprs) → Guest H.vars H.free c.exprs es → (front vs : List Value) (us : List EsValue) (a b k j : ℕ) {i : ℕ} {w0 w : World} {z : List Item} {n : ℕ} {g0 g : Tags} {s0 s : Store} {y : Kept} {m : ℕ} (go : ℕ → Source.Act) (next : Cont) (next' : Cont') → a < d → Room H T b (temps c.exprs es) → Vals s.heap vs us → length us ≤ m → Rel H T (suc k) w z n g s y m → Stays w0 g0 s0 i w g s m → j ≤ k → Throws H T a j w0 g0 s0 i next next' → ItemsEnd H T a k w0 g0 s0 i front go next next'
    → M H a (bind (Source.act_plan H 1 (Source.kept (front ++ vs)) (Direct.values_act es H.around go 0) w) next) z n (bind (Target.items us (rewritten false c.exprs b es) (env_of H) s) next') y m
unfolding rewritten
items_match law c.no_exprs guest front vs us a b k j go next next' lt room are many r keep less x f = f.on a (omega arith) vs us _ _ _ _ _ _ _ are many r keep
items_match {H = H} {T = T} law (c.more_exprs e rest) guest front vs us a b k j {m = m} go next next' lt room are many r keep less x f =
    with_part {j = j} {i = m} lt (room_part (omega arith) (omega arith) room) (omega (arith, less)) (omega arith) (law b e guest.0) r (record { on = λ c le v u w1 z1 n1 g1 s1 y1 m1 is r1 k1. x.on c le v u w1 z1 n1 g1 s1 y1 m1 is r1 (stays_trans keep k1) }) (λ c1 le1 v1 e1 w1 z1 n1 g1 s1 y1 m1 is1 r1 k1.
    subst (λ l. M H c1 (bind (Source.act_plan H 1 (Source.kept l) (Direct.values_act rest H.around go 0) w1) next) z1 n1 (bind (Target.items (us ++ e1 ∷ []) (rewritten false c.exprs (b + temps c.expr e) rest) (env_of H) s1) next') y1 m1) (sym (append_assoc front vs (v1 ∷ [])))
    (items_match law rest guest.1 front (vs ++ v1 ∷ []) (us ++ e1 ∷ []) c1 (b + temps c.expr e) k j go next next' (omega arith) (room_part (omega arith) (omega arith) room) (vals_append s1.heap vs (v1 ∷ []) us (e1 ∷ []) (row_relation.vals_keep k1.heap.objects vs us are) (is1, tt)) (one_more us e1 many k1.heap.more) (rel_less (omega arith) r1) (stays_trans keep (stays_before k1)) less (throws_from {j = j} {k = j} le1 (omega arith) (stays_refl) x) (record { on = λ a2 le2. f.on a2 (omega (arith, le1, le2)) })))
