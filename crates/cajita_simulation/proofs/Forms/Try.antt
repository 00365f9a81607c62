-- `try`: what an ending goes through, a `catch` and a `finally`.
use Rattle.std.proofs.Common.{◌≡◌, ℕ, suc, ◌+◌, ◌≤◌, ◌<◌, true, false, List, [], None, refl, sym, subst, arith}
use Rattle.plans.specs.Plans.{bind, ends}
use Rattle.es3_tree.specs.Tree as t
use Rattle.es3_language.specs.Store.{Store}
use Rattle.es3_language.specs.Statements as Es
use Rattle.es3_language.specs.Meaning as Target
use Rattle.cajita_tree.specs.Tree as c
use Rattle.cajita_rewrite.specs.Rewrite.{rewritten, temps}
use Rattle.cajita_meaning.specs.World.{Value, World}
use Rattle.cajita_meaning.specs.Direct as Direct
use Rattle.cajita_meaning.specs.Direct.{Item}
use Rattle.page_natives.specs.Natives.{Kept}
use Rattle.cajita_simulation.specs.Guest.{Guest}
use Rattle.cajita_simulation.proofs.Doing as Source
use Rattle.cajita_simulation.proofs.Relation.{EsValue, Val, Here, env_of, Tags, Temps, Rel, Stays, stays_refl, stays_trans, rel_less}
use Rattle.cajita_simulation.proofs.Catching.{catching, catch_store, catch_world, rel_catch, stays_catch, rel_back}
use Rattle.cajita_simulation.proofs.Laws.{Jumps, Targets, BareBody, bare, NextEffect, effect_from, Cont, Cont', M, Room, room_part}
use Rattle.cajita_simulation.proofs.Forms.List.{Effects, list_match}
use Rattle.cajita_simulation.proofs.Forms.Endings.{EndIs, end_keep, each, ended}

-- the ending that was before a `finally`, with its value at the place 0
kept_shut : (H : Here) (e : Source.Completion) (w : World) → Source.act_plan H 1 (Source.kept (Source.values_of (Source.shut e))) (Direct.without_value (Source.shape_of (Source.shut e)) 0) w ≡ ends (Source.shut e) w
kept_shut H (Source.gave v) w = refl
kept_shut H (Source.normal v) w = refl
kept_shut H (Source.broke l) w = refl
kept_shut H (Source.continued l) w = refl
kept_shut H (Source.returned v) w = refl
kept_shut H (Source.threw v) w = refl

abbrev restored_plan : Here → Source.Completion → Source.Completion → World → Source.Plan
restored_plan H e0 e w = Source.list_end H (Source.values_of (Source.shut e0)) (Direct.restored (Source.shape_of (Source.shut e0))) e w

abbrev finally_plan : c.Tree c.maybe_block → Here → Source.Completion → World → Source.Plan
finally_plan f H e w = Source.list_end H [] (Direct.finally_act f H.around) e w

-- a `finally` runs with the ending before it put away
finally_is : (xs : c.Tree c.stmts) (H : Here) (e : Source.Completion) (w : World) → finally_plan (c.some_block xs) H e w ≡ Source.list xs (Source.values_of (Source.shut e)) H (Direct.restored (Source.shape_of (Source.shut e))) w
finally_is xs H (Source.gave v) w = refl
finally_is xs H (Source.normal v) w = refl
finally_is xs H (Source.broke l) w = refl
finally_is xs H (Source.continued l) w = refl
finally_is xs H (Source.returned v) w = refl
finally_is xs H (Source.threw v) w = refl

finally_none : (H : Here) (e : Source.Completion) (w : World) → finally_plan c.no_block H e w ≡ ends (Source.shut e) w
finally_none H (Source.gave v) w = refl
finally_none H (Source.normal v) w = refl
finally_none H (Source.broke l) w = refl
finally_none H (Source.continued l) w = refl
finally_none H (Source.returned v) w = refl
finally_none H (Source.threw v) w = refl

-- what a `finally` leaves of an ending before it
restored_match : {J : Jumps} {H : Here} {T : Temps} {d k : ℕ} {w0 : World} {g0 : Tags} {s0 : Store} {i : ℕ} {next : Cont} {next' : Cont'} → NextEffect bare J H T d k w0 g0 s0 i next next' → (e0 : Source.Completion) (e0' : Target.Completion) → (a : ℕ) → a ≤ d → (e : Source.Completion) (e' : Target.Completion) (w : World) (z : List Item) (n : ℕ) (g : Tags) (s : Store) (y : Kept) (m : ℕ) → EndIs J s.heap e0 e0' → EndIs J s.heap e e' → Rel H T k w z n g s y m → Stays w0 g0 s0 i w g s m → M H a (bind (restored_plan H e0 e w) next) z n (bind (Es.restored e0' e' s) next') y m
restored_match {H = H} {next = next} {next' = next'} x e0 e0' a le (Source.normal p) (Target.normal b) w z n g s y m was is r k = subst (λ q. M H a (bind q next) z n (next' e0' s) y m) (sym (kept_shut H e0 w)) (ended x a le e0 e0' w z n g s y m was r k)
restored_match x e0 e0' a le (Source.broke l) (Target.broke l' b) w z n g s y m was is r k = ended x a le (Source.broke l) (Target.broke l' b) w z n g s y m is r k
restored_match x e0 e0' a le (Source.continued l) (Target.continued l' b) w z n g s y m was is r k = ended x a le (Source.continued l) (Target.continued l' b) w z n g s y m is r k
restored_match x e0 e0' a le (Source.returned v) (Target.returned e) w z n g s y m was is r k = ended x a le (Source.returned v) (Target.returned e) w z n g s y m is r k
restored_match x e0 e0' a le (Source.threw v) (Target.threw e) w z n g s y m was is r k = ended x a le (Source.threw v) (Target.threw e) w z n g s y m is r k
restored_match x e0 e0' a le _ _ w z n g s y m was is r k = absurd is

finally_match : {J : Jumps} {H : Here} {T : Temps} {d d0 b k : ℕ} {w0 : World} {g0 : Tags} {s0 : Store} {i : ℕ} {next : Cont} {next' : Cont'} (law : Effects H d0) (f : c.Tree c.maybe_block) → Guest H.vars H.free c.maybe_block f → Targets J [] c.maybe_block f → d < d0 → Room H T b (temps c.maybe_block f) → NextEffect bare J H T d k w0 g0 s0 i next next' → (a : ℕ) → a ≤ d → (e : Source.Completion) (e' : Target.Completion) (w : World) (z : List Item) (n : ℕ) (g : Tags) (s : Store) (y : Kept) (m : ℕ) → EndIs J s.heap e e' → Rel H T k w z n g s y m → Stays w0 g0 s0 i w g s m → M H a (bind (finally_plan f H e w) next) z n (bind (Es.finally_plan (rewritten false c.maybe_block b f) (env_of H) e' s) next') y m
unfolding rewritten
finally_match {H = H} {next = next} {next' = next'} law c.no_block guest to lt room x a le e e' w z n g s y m is r k = subst (λ q. M H a (bind q next) z n (next' e' s) y m) (sym (finally_none H e w)) (ended x a le e e' w z n g s y m is r k)
finally_match {J = J} {H = H} {T = T} {b = b} {k = j} {next = next} {next' = next'} law (c.some_block zs) guest to lt room x a le e e' w z n g s y m is r k =
    subst (λ q. M H a (bind q next) z n (bind (Target.list true (rewritten false c.stmts b zs) None (env_of H) s (Es.restored e')) next') y m) (sym (finally_is zs H e w))
    (list_match {J = J} law zs guest to b (Source.values_of (Source.shut e)) None a j (Direct.restored (Source.shape_of (Source.shut e))) (Es.restored e') next next' (omega arith) room r (each (record { on = λ c1 le1 e1 e1' w1 z1 n1 g1 s1 y1 m1 is1 r1 k1. restored_match x e e' c1 (omega arith) e1 e1' w1 z1 n1 g1 s1 y1 m1 (end_keep J k1.heap e e' is) is1 r1 (stays_trans k k1) })))

pub try_body : {H : Here} {d b : ℕ} (few : H.by < 64) (law : (J : Here) → J.by < 64 → Effects J d) (xs : c.Tree c.stmts) (h : c.Tree c.handler) (f : c.Tree c.maybe_block) → Guest H.vars H.free c.stmts xs → Guest H.vars H.free c.handler h → Guest H.vars H.free c.maybe_block f → BareBody H d b (temps c.stmts xs + (temps c.handler h + temps c.maybe_block f)) (c.try xs h f) (t.try (rewritten false c.stmts b xs) (rewritten false c.handler (b + temps c.stmts xs) h) (rewritten false c.maybe_block (b + (temps c.stmts xs + temps c.handler h)) f))
unfolding rewritten
try_body {H = H} {d = d} {b = b} few law xs c.no_handler f gx gh gf = record {
  on = λ {J = J} {a = a} {k = k} {next = next} {next' = next'} ls to lt room r x.
      list_match {J = J} (law H few) xs gx to.0 b [] None a (suc k) (Direct.after_try c.no_handler f H.around) (Es.after_try t.no_handler (rewritten false c.maybe_block (b + (temps c.stmts xs + 0)) f) (env_of H)) next next' lt (room_part (omega arith) (omega arith) room) (rel_less (omega arith) r) (each (record { on = λ c1 le1 e1 e1' w1 z1 n1 g1 s1 y1 m1 is1 r1 k1. finally_match {J = J} (law H few) f gf to.2 lt (room_part (omega arith) (omega arith) room) x c1 le1 e1 e1' w1 z1 n1 g1 s1 y1 m1 is1 r1 k1 }));
}
try_body {H = H} {d = d} {b = b} few law xs (c.some_handler u ys) f gx gh gf = record {
  on = λ {J = J} {T = T} {a = a} {k = k} {next = next} {next' = next'} ls to lt room r x.
      list_match {J = J} (law H few) xs gx to.0 b [] None a (suc k) (Direct.after_try (c.some_handler u ys) f H.around) (Es.after_try (t.some_handler u (rewritten false c.stmts (b + temps c.stmts xs) ys)) (rewritten false c.maybe_block (b + (temps c.stmts xs + temps c.stmts ys)) f) (env_of H)) next next' lt (room_part (omega arith) (omega arith) room) (rel_less (omega arith) r) (each (record { on = λ c1 le1 e1 e1' w1 z1 n1 g1 s1 y1 m1 is1 r1 k1. caught {J = J} {k = suc k} c1 e1 e1' w1 z1 n1 g1 s1 y1 m1 to.1 to.2 (omega arith) room (effect_from {j = suc k} {k = suc k} le1 (omega arith) k1 x) is1 r1 }));
}
  where
    catch_match : {J : Jumps} {T : Temps} {k : ℕ} {next : Cont} {next' : Cont'} (a : ℕ) (v : Value) (e : EsValue) (w : World) (z : List Item) (n : ℕ) (g : Tags) (s : Store) (y : Kept) (m : ℕ) → Targets J [] c.stmts ys → Targets J [] c.maybe_block f → a < d → Room H T b (temps c.stmts xs + (temps c.stmts ys + temps c.maybe_block f)) → NextEffect bare J H T a k w g s m next next' → Val s.heap v e → Rel H T k w z n g s y m
        → M H a (bind (Source.list ys [] (catching H w s u) (Direct.finally_act f H.around) (catch_world H.by u v w)) next) z n (bind (Target.list true (rewritten false c.stmts (b + temps c.stmts xs) ys) None (env_of (catching H w s u)) (catch_store u e s) (Es.finally_plan (rewritten false c.maybe_block (b + (temps c.stmts xs + temps c.stmts ys)) f) (env_of H))) next') y m
    catch_match {J = J} {T = T} {k = k} {next = next} {next' = next'} a v e w z n g s y m ty tf lt room x is r =
        let C = catching H w s u in
        list_match {H = C} {J = J} (law C few) ys gh.1 ty (b + temps c.stmts xs) [] None a k (Direct.finally_act f H.around) (Es.finally_plan (rewritten false c.maybe_block (b + (temps c.stmts xs + temps c.stmts ys)) f) (env_of H)) next next' lt (same_room room) (rel_catch u v e gh.0 is r) (each (record {
          on = λ c1 le1 e1 e1' w1 z1 n1 g1 s1 y1 m1 is1 r1 k1.
              let keep = stays_trans (stays_catch H.by u v e) k1 in
              finally_match {J = J} (law H few) f gf tf lt (room_part (omega arith) (omega arith) room) x c1 le1 e1 e1' w1 z1 n1 g1 s1 y1 m1 is1 (rel_back {J = C} {T = T} refl r.all.scopes.are r.here keep r1) keep;
        }))
      where
        same_room : Room H T b (temps c.stmts xs + (temps c.stmts ys + temps c.maybe_block f)) → Room (catching H w s u) T (b + temps c.stmts xs) (temps c.stmts ys)
        same_room room = record { declared = λ i from to. room.declared i (omega (arith, from)) (omega (arith, to)); few = omega (arith, room.few) }

    caught : {J : Jumps} {T : Temps} {k : ℕ} {next : Cont} {next' : Cont'} (a : ℕ) (e : Source.Completion) (e' : Target.Completion) (w : World) (z : List Item) (n : ℕ) (g : Tags) (s : Store) (y : Kept) (m : ℕ) → Targets J [] c.stmts ys → Targets J [] c.maybe_block f → a < d → Room H T b (temps c.stmts xs + (temps c.stmts ys + temps c.maybe_block f)) → NextEffect bare J H T a k w g s m next next' → EndIs J s.heap e e' → Rel H T k w z n g s y m
        → M H a (bind (Source.list_end H [] (Direct.after_try (c.some_handler u ys) f H.around) e w) next) z n (bind (Es.after_try (t.some_handler u (rewritten false c.stmts (b + temps c.stmts xs) ys)) (rewritten false c.maybe_block (b + (temps c.stmts xs + temps c.stmts ys)) f) (env_of H) e' s) next') y m
    caught {J = J} a (Source.threw v) (Target.threw e) w z n g s y m ty tf lt room x is r = catch_match {J = J} a v e w z n g s y m ty tf lt room x is r
    caught {J = J} a (Source.normal p) (Target.normal q) w z n g s y m ty tf lt room x is r = finally_match {J = J} (law H few) f gf tf lt (room_part (omega arith) (omega arith) room) x a (omega arith) (Source.normal p) (Target.normal q) w z n g s y m is r stays_refl
    caught {J = J} a (Source.broke l) (Target.broke l' q) w z n g s y m ty tf lt room x is r = finally_match {J = J} (law H few) f gf tf lt (room_part (omega arith) (omega arith) room) x a (omega arith) (Source.broke l) (Target.broke l' q) w z n g s y m is r stays_refl
    caught {J = J} a (Source.continued l) (Target.continued l' q) w z n g s y m ty tf lt room x is r = finally_match {J = J} (law H few) f gf tf lt (room_part (omega arith) (omega arith) room) x a (omega arith) (Source.continued l) (Target.continued l' q) w z n g s y m is r stays_refl
    caught {J = J} a (Source.returned v) (Target.returned q) w z n g s y m ty tf lt room x is r = finally_match {J = J} (law H few) f gf tf lt (room_part (omega arith) (omega arith) room) x a (omega arith) (Source.returned v) (Target.returned q) w z n g s y m is r stays_refl
    caught {J = J} a _ _ w z n g s y m ty tf lt room x is r = absurd is
