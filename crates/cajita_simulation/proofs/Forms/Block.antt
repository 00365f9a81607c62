-- Blocks and `if`: statements within others, whose values count for nothing.
use Rattle.std.proofs.Common.{ℕ, suc, ◌+◌, false, List, [], Option, Some, None, arith}
use Rattle.plans.specs.Plans.{bind, ends, enter}
use Rattle.acts.specs.Acts.{Places, put}
use Rattle.es3_tree.specs.Tree as t
use Rattle.es3_language.specs.Store.{Store}
use Rattle.es3_language.specs.Statements as Es
use Rattle.es3_language.specs.Meaning as Target
use Rattle.cajita_tree.specs.Tree as c
use Rattle.cajita_rewrite.specs.Rewrite.{rewritten, temps}
use Rattle.cajita_meaning.specs.World.{Value, World}
use Rattle.cajita_meaning.specs.Direct as Direct
use Rattle.cajita_meaning.specs.Direct.{Item}
use Rattle.page_natives.specs.Natives.{Kept}
use Rattle.cajita_simulation.specs.Guest.{Guest}
use Rattle.cajita_simulation.proofs.Doing as Source
use Rattle.cajita_simulation.proofs.Relation.{Here, env_of, Tags, Temps, stays_trans, stays_step, stays_before, rel_less}
use Rattle.cajita_simulation.proofs.Laws.{Jumps, ValueLaw, BareBody, nested, bare, NextEffect, effect_from, Cont, Cont', M, room_part, with_part}
use Rattle.cajita_simulation.proofs.Forms.List.{Effects, behind, behind', list_match}
use Rattle.cajita_simulation.proofs.Forms.Logic.{decided_match}

-- a statement within another: its value counts for nothing
shut_on : {d : ℕ} (v : Option Value) (H : Here) (at : Places Value) (w : World) (next : Cont) {z : List Item} {n : ℕ} {q : Target.Plan} {y : Kept} {m : ℕ} → M H d (next (Source.normal None) w) z n q y m → M H d (bind (Source.ended_by H 3 at Direct.without_value (Source.normal v) w) next) z n q y m
shut_on None H at w next x = x
shut_on (Some v) H at w next x = x

within : {J : Jumps} {H : Here} {T : Temps} {d k : ℕ} {w : World} {g : Tags} {s : Store} {i : ℕ} {next : Cont} {next' : Cont'} (at : Places Value) → NextEffect bare J H T d k w g s i next next' → NextEffect nested J H T d k w g s i (behind (Source.ended_by H 3 at Direct.without_value) next) (behind' ends next')
within {H = H} {next = next} at x = record {
  finishes = record {
    on = λ c le v u w z n g s y m r k. shut_on v H at w next (x.finishes.on c le tt u w z n g s y m r k);
    breaks = λ c le l to u w z n g s y m r k. x.finishes.breaks c le l to u w z n g s y m r k;
    continues = λ c le l to u w z n g s y m r k. x.finishes.continues c le l to u w z n g s y m r k;
  };
  returns = λ to. record { on = λ c le v u w z n g s y m is r k. (x.returns to).on c le v u w z n g s y m is r k };
  throws = record { on = λ c le v u w z n g s y m is r k. x.throws.on c le v u w z n g s y m is r k };
}

-- the same at the end of a block
block_on : {J : Jumps} {H : Here} {T : Temps} {d k : ℕ} {w : World} {g : Tags} {s : Store} {i : ℕ} {next : Cont} {next' : Cont'} → NextEffect bare J H T d k w g s i next next' → NextEffect bare J H T d k w g s i (behind (Source.list_end H [] Direct.block_end) next) (behind' ends next')
block_on x = record {
  finishes = record {
    on = λ c le v u w z n g s y m r k. x.finishes.on c le tt u w z n g s y m r k;
    breaks = λ c le l to u w z n g s y m r k. x.finishes.breaks c le l to u w z n g s y m r k;
    continues = λ c le l to u w z n g s y m r k. x.finishes.continues c le l to u w z n g s y m r k;
  };
  returns = λ to. record { on = λ c le v u w z n g s y m is r k. (x.returns to).on c le v u w z n g s y m is r k };
  throws = record { on = λ c le v u w z n g s y m is r k. x.throws.on c le v u w z n g s y m is r k };
}

pub block_body : {H : Here} {d b : ℕ} (law : Effects H d) (xs : c.Tree c.stmts) → Guest H.vars H.free c.stmts xs → BareBody H d b (temps c.stmts xs) (c.block xs) (t.block (rewritten false c.stmts b xs))
block_body {b = b} law xs guest = record { on = λ {J = J} {a = a} {k = k} {next = next} {next' = next'} ls to lt room r x. list_match {J = J} law xs guest to b [] None a (suc k) Direct.block_end ends next next' lt room (rel_less (omega arith) r) (block_on x) }

pub branch_body : {H : Here} {d b q : ℕ} {e : c.Tree c.expr} {e' : t.Tree t.expr} (law : Effects H d) (x : c.Tree c.stmt) (other : c.Tree c.maybe_stmt) → Guest H.vars H.free c.stmt x → Guest H.vars H.free c.maybe_stmt other → ValueLaw H d b q e e' → BareBody H d b (q + (temps c.stmt x + temps c.maybe_stmt other)) (c.branch e x other) (t.branch e' (rewritten false c.stmt (b + q) x) (rewritten false c.maybe_stmt (b + (q + temps c.stmt x)) other))
unfolding rewritten
branch_body {H = H} {b = b} {q = q} law x c.no_stmt gx go pe = record {
  on = λ {J = J} {k = k} {next = next} {next' = next'} ls to lt room r y.
      with_part {H = H} {go = Source.branch_side x c.no_stmt H} {go' = Es.branch_side (rewritten false c.stmt (b + q) x) t.no_stmt (env_of H)} lt (room_part (omega arith) (omega arith) room) (omega arith) (omega arith) pe r (record { on = λ b le v u w1 z1 n1 g1 s1 y1 m1 is r1 k1. y.throws.on b le v u w1 z1 n1 g1 s1 y1 m1 is r1 k1 }) (λ c1 le1 v1 e1 w1 z1 n1 g1 s1 y1 m1 is1 r1 k1.
      decided_match 1 2 (Source.one v1) (Direct.within x H.around) Direct.finish (enter (Target.effect_of (rewritten false c.stmt (b + q) x) [] (env_of H)) s1 ends) (ends (Target.normal None) s1) e1 next next' is1 r1
      ((law (b + q) x gx).on {J = J} [] to.0 (omega arith) (room_part (omega arith) (omega arith) room) r1 (effect_from {j = suc k} (omega arith) (omega arith) (stays_trans (stays_before k1) (stays_step (omega arith))) (within (put 2 [] (Source.one v1)) y)))
      (y.finishes.on c1 le1 tt None w1 z1 n1 g1 s1 y1 m1 (rel_less (omega arith) r1) (stays_before k1)));
}
branch_body {H = H} {b = b} {q = q} law x (c.some_stmt u) gx go pe = record {
  on = λ {J = J} {k = k} {next = next} {next' = next'} ls to lt room r y.
      with_part {H = H} {go = Source.branch_side x (c.some_stmt u) H} {go' = Es.branch_side (rewritten false c.stmt (b + q) x) (t.some_stmt (rewritten false c.stmt (b + (q + temps c.stmt x)) u)) (env_of H)} lt (room_part (omega arith) (omega arith) room) (omega arith) (omega arith) pe r (record { on = λ b le v u w1 z1 n1 g1 s1 y1 m1 is r1 k1. y.throws.on b le v u w1 z1 n1 g1 s1 y1 m1 is r1 k1 }) (λ c1 le1 v1 e1 w1 z1 n1 g1 s1 y1 m1 is1 r1 k1.
      decided_match 1 2 (Source.one v1) (Direct.within x H.around) (Direct.within u H.around) (enter (Target.effect_of (rewritten false c.stmt (b + q) x) [] (env_of H)) s1 ends) (enter (Target.effect_of (rewritten false c.stmt (b + (q + temps c.stmt x)) u) [] (env_of H)) s1 ends) e1 next next' is1 r1
      ((law (b + q) x gx).on {J = J} [] to.0 (omega arith) (room_part (omega arith) (omega arith) room) r1 (effect_from {j = suc k} (omega arith) (omega arith) (stays_trans (stays_before k1) (stays_step (omega arith))) (within (put 2 [] (Source.one v1)) y)))
      ((law (b + (q + temps c.stmt x)) u go).on {J = J} [] to.1 (omega arith) (room_part (omega arith) (omega arith) room) r1 (effect_from {j = suc k} (omega arith) (omega arith) (stays_trans (stays_before k1) (stays_step (omega arith))) (within (put 2 [] (Source.one v1)) y))));
}
