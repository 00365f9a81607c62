-- Statements in a list within another statement, each with its law, and then what follows the list.
use Rattle.std.proofs.Common.{ℕ, ◌+◌, ◌<◌, true, false, List, [], Option, Some, None, arith}
use Rattle.plans.specs.Plans.{bind}
use Rattle.es3_language.specs.Store.{Store}
use Rattle.es3_language.specs.Meaning as Target
use Rattle.cajita_tree.specs.Tree as c
use Rattle.cajita_rewrite.specs.Rewrite.{rewritten, temps}
use Rattle.cajita_meaning.specs.World.{Value, World}
use Rattle.cajita_meaning.specs.Direct as Direct
use Rattle.cajita_meaning.specs.Direct.{Item}
use Rattle.page_natives.specs.Natives.{Kept}
use Rattle.cajita_simulation.specs.Guest.{Guest}
use Rattle.cajita_simulation.proofs.Doing as Source
use Rattle.cajita_simulation.proofs.Relation.{EsValue, Here, env_of, Tags, Temps, Rel, stays_refl, stays_before, rel_less}
use Rattle.cajita_simulation.proofs.Laws.{Jumps, Targets, EffectLaw, bare, NextEffect, effect_from, Cont, Cont', M, Room, room_part}

-- the laws of the statements within others
abbrev pub Effects : Here → ℕ → Type 0
Effects H d = (b : ℕ) (x : c.Tree c.stmt) → Guest H.vars H.free c.stmt x → EffectLaw H d b (temps c.stmt x) x (rewritten false c.stmt b x)

-- what goes on after a plan and what follows it
abbrev pub behind : (Source.Completion → World → Source.Plan) → Cont → Cont
behind end next e w = bind (end e w) next

abbrev pub behind' : Cont' → Cont' → Cont'
behind' end next e s = bind (end e s) next

-- behind a statement that came to its end stands the next one
each_end : {d : ℕ} (v : Option Value) (xs : c.Tree c.stmts) (us : List Value) (H : Here) (end : Source.Ending → ℕ → ℕ → Source.Act) (w : World) (next : Cont) {z : List Item} {n : ℕ} {q : Target.Plan} {y : Kept} {m : ℕ} → M H d (bind (Source.list xs us H end w) next) z n q y m → M H d (bind (Source.ended_by H 1 (Source.kept us) (Direct.on_each 0 (Direct.list xs H.around end) end) (Source.normal v) w) next) z n q y m
each_end None xs us H end w next x = x
each_end (Some v) xs us H end w next x = x

pub list_match : {H : Here} {T : Temps} {J : Jumps} {d : ℕ} (law : Effects H d) (xs : c.Tree c.stmts) → Guest H.vars H.free c.stmts xs → Targets J [] c.stmts xs → (b : ℕ) (us : List Value) (acc' : Option EsValue) (a k : ℕ) {w : World} {z : List Item} {n : ℕ} {g : Tags} {s : Store} {y : Kept} {m : ℕ} (end : Source.Ending → ℕ → ℕ → Source.Act) (end' : Cont') (next : Cont) (next' : Cont') → a < d → Room H T b (temps c.stmts xs) → Rel H T k w z n g s y m → NextEffect bare J H T a k w g s m (behind (Source.list_end H us end) next) (behind' end' next') → M H a (bind (Source.list xs us H end w) next) z n (bind (Target.list true (rewritten false c.stmts b xs) acc' (env_of H) s end') next') y m
unfolding rewritten
list_match law c.no_stmts guest to b us acc' a k end end' next next' lt room r x = x.finishes.on a (omega arith) tt acc' _ _ _ _ _ _ _ r stays_refl
list_match {H = H} {T = T} {J = J} law (c.more_stmts u xs) guest to b us acc' a k end end' next next' lt room r x =
    (law b u guest.0).on {J = J} [] to.0 lt (room_part (omega arith) (omega arith) room) r (record {
      finishes = record {
        on = λ c1 le v v' w1 z1 n1 g1 s1 y1 m1 r1 k1. each_end v xs us H end w1 next (list_match law xs guest.1 to.1 (b + temps c.stmt u) us (Target.later v' acc') c1 k end end' next next' (omega arith) (room_part (omega arith) (omega arith) room) (rel_less (omega arith) r1) (effect_from {j = k} {k = k} le (omega arith) (stays_before k1) x));
        breaks = λ c1 le l out v' w1 z1 n1 g1 s1 y1 m1 r1 k1. x.finishes.breaks c1 le l out (Target.later v' acc') w1 z1 n1 g1 s1 y1 m1 (rel_less (omega arith) r1) (stays_before k1);
        continues = λ c1 le l out v' w1 z1 n1 g1 s1 y1 m1 r1 k1. x.finishes.continues c1 le l out (Target.later v' acc') w1 z1 n1 g1 s1 y1 m1 (rel_less (omega arith) r1) (stays_before k1);
      };
      returns = λ out. record { on = λ c1 le v e w1 z1 n1 g1 s1 y1 m1 is r1 k1. (x.returns out).on c1 le v e w1 z1 n1 g1 s1 y1 m1 is (rel_less (omega arith) r1) (stays_before k1) };
      throws = record { on = λ c1 le v e w1 z1 n1 g1 s1 y1 m1 is r1 k1. x.throws.on c1 le v e w1 z1 n1 g1 s1 y1 m1 is (rel_less (omega arith) r1) (stays_before k1) };
    })
