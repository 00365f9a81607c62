-- `switch`: the clause whose value is strictly equal, and the statements from there on.
use Rattle.std.proofs.Common.{◌≡◌, ℕ, suc, ◌+◌, ◌≤◌, ◌<◌, true, false, List, [], ◌∷◌, Option, None, cond, refl, sym, subst, arith}
use Rattle.plans.specs.Plans.{bind}
use Rattle.acts.specs.Acts.{put, Places}
use Rattle.es3_tree.specs.Tree as t
use Rattle.es3_convert.specs.Comparisons as Es_equal
use Rattle.es3_language.specs.Store.{Store}
use Rattle.es3_language.specs.Statements as Es
use Rattle.es3_language.specs.Meaning as Target
use Rattle.cajita_tree.specs.Tree as c
use Rattle.cajita_rewrite.specs.Rewrite.{rewritten, temps}
use Rattle.cajita_meaning.specs.World.{Value, truth, World}
use Rattle.cajita_meaning.specs.Doing.{strictly_equal}
use Rattle.cajita_meaning.specs.Direct as Direct
use Rattle.cajita_meaning.specs.Direct.{Item}
use Rattle.row_simulation.proofs.Row.{same_is}
use Rattle.page_natives.specs.Natives.{Kept}
use Rattle.cajita_simulation.specs.Guest.{Guest}
use Rattle.cajita_simulation.proofs.Doing as Source
use Rattle.cajita_simulation.proofs.Relation.{EsValue, Val, val_keep, Here, env_of, Tags, Temps, Rel, Stays, stays_refl, stays_before, rel_less}
use Rattle.cajita_simulation.proofs.Laws.{Jumps, in_switch, Targets, ValueLaw, BareBody, bare, NextEffect, effect_from, still, Cont, Cont', M, Room, room_part, with_part}
use Rattle.cajita_simulation.proofs.Forms.Values.{Values}
use Rattle.cajita_simulation.proofs.Forms.List.{Effects, list_match}
use Rattle.cajita_simulation.proofs.Forms.Loop.{to_same}
use Rattle.cajita_simulation.proofs.Forms.Endings.{EndIs, each, ended}

-- how a clause ends
abbrev clause_plan : List (List ℕ) → (ℕ → Source.Act) → Here → Source.Completion → World → Source.Plan
clause_plan ls go H e w = Source.list_end H [] (Direct.clause_end ls go) e w

-- a `break` ends the `switch`
left_by : {d : ℕ} (ls : List (List ℕ)) (l : Option (List ℕ)) (v : Option EsValue) (go : ℕ → Source.Act) (H : Here) (w : World) (s : Store) (next : Cont) (next' : Cont') {z : List Item} {n : ℕ} {y : Kept} {m : ℕ} → M H d (next (Source.normal None) w) z n (next' (Target.normal v) s) y m → (Source.is_to l ls ≡ false → M H d (next (Source.broke l) w) z n (next' (Target.broke l v) s) y m) → M H d (bind (clause_plan ls go H (Source.broke l) w) next) z n (bind (Es.switch_end ls (Target.broke l v) s) next') y m
left_by {d = d} ls l v go H w s next next' {z = z} {n = n} {y = y} {m = m} f g =
    let cases = elim (Source.is_to l ls) as (λ b. Source.is_to l ls ≡ b → M H d (bind (Source.act_plan H 2 (put 1 [] (Source.kept [])) (cond b Direct.finish (Direct.pass (Direct.breaks l) 1)) w) next) z n (next' (cond b (Target.normal v) (Target.broke l v)) s) y m) [
      | true ↦ λ is. f
      | false ↦ λ is. g is
    ] in
    subst (λ b. M H d (bind (Source.act_plan H 2 (put 1 [] (Source.kept [])) (cond (Source.is_to l ls) Direct.finish (Direct.pass (Direct.breaks l) 1)) w) next) z n (next' (cond b (Target.normal v) (Target.broke l v)) s) y m) (to_same l ls) (cases refl)

-- how the statements of a clause end
clause_end : {J : Jumps} {H : Here} {T : Temps} {d k : ℕ} {w0 : World} {g0 : Tags} {s0 : Store} {i : ℕ} {next : Cont} {next' : Cont'} (ls : List (List ℕ)) (go : ℕ → Source.Act) (go' : Option EsValue → Store → Target.Plan) → NextEffect bare J H T d k w0 g0 s0 i next next' → (a : ℕ) → a ≤ d → (e : Source.Completion) (e' : Target.Completion) (w : World) (z : List Item) (n : ℕ) (g : Tags) (s : Store) (y : Kept) (m : ℕ) → EndIs (in_switch ls J) s.heap e e' → Rel H T k w z n g s y m → Stays w0 g0 s0 i w g s m → ((v : Option EsValue) → M H a (bind (Source.act_plan H 1 (Source.kept []) (go 0) w) next) z n (bind (go' v s) next') y m) → M H a (bind (clause_plan ls go H e w) next) z n (bind (Target.on_each true None e' s go' (Es.switch_end ls)) next') y m
clause_end ls go go' x a le (Source.normal p) (Target.normal b) w z n g s y m is r k f = f (Target.later b None)
clause_end {J = J} {H = H} {next = next} {next' = next'} ls go go' x a le (Source.broke l) (Target.broke l' b) w z n g s y m is r k f =
    subst (λ q. M H a (bind (clause_plan ls go H (Source.broke l) w) next) z n (bind (Es.switch_end ls (Target.broke q (Target.later b None)) s) next') y m) is.0
    (left_by ls l (Target.later b None) go H w s next next' (x.finishes.on a le tt (Target.later b None) w z n g s y m r k) (λ other. x.finishes.breaks a le l (still (J.breaks l) (Source.is_to l ls) is.1 other) (Target.later b None) w z n g s y m r k))
clause_end ls go go' x a le (Source.continued l) (Target.continued l' b) w z n g s y m is r k f = ended x a le (Source.continued l) (Target.continued l' (Target.later b None)) w z n g s y m is r k
clause_end ls go go' x a le (Source.returned v) (Target.returned e) w z n g s y m is r k f = ended x a le (Source.returned v) (Target.returned e) w z n g s y m is r k
clause_end ls go go' x a le (Source.threw v) (Target.threw e) w z n g s y m is r k f = ended x a le (Source.threw v) (Target.threw e) w z n g s y m is r k
clause_end ls go go' x a le _ _ w z n g s y m is r k f = absurd is

bodies_match : {J : Jumps} {H : Here} {T : Temps} {d : ℕ} (law : Effects H d) (cs : c.Tree c.cases) → Guest H.vars H.free c.cases cs → (b : ℕ) (ls : List (List ℕ)) → Targets (in_switch ls J) [] c.cases cs → (a k l : ℕ) (at : Places Value) (p : ℕ) {w : World} {z : List Item} {n : ℕ} {g : Tags} {s : Store} {y : Kept} {m : ℕ} (next : Cont) (next' : Cont') → a < d → Room H T b (temps c.cases cs) → Rel H T k w z n g s y m → NextEffect bare J H T a k w g s m next next' → M H a (bind (Source.bodies cs ls H l at p w) next) z n (bind (Es.bodies (rewritten false c.cases b cs) ls (env_of H) s) next') y m
unfolding rewritten
bodies_match law c.no_cases guest b ls to a k l at p next next' lt room r x = x.finishes.on a (omega arith) tt None _ _ _ _ _ _ _ r stays_refl
bodies_match {J = J} {H = H} law (c.more_cases e xs cs) guest b ls to a k l at p next next' lt room r x =
    list_match {J = in_switch ls J} law xs guest.1 to.0 (b + temps c.maybe_expr e) [] None a k (Direct.clause_end ls (Direct.bodies cs ls H.around)) (λ e' s'. Target.on_each true None e' s' (λ v s''. Es.bodies (rewritten false c.cases (b + (temps c.maybe_expr e + temps c.stmts xs)) cs) ls (env_of H) s'') (Es.switch_end ls)) next next' lt (room_part (omega arith) (omega arith) room) r (each (record {
      on = λ c1 le1 e1 e1' w1 z1 n1 g1 s1 y1 m1 is1 r1 k1.
          clause_end ls (Direct.bodies cs ls H.around) (λ v s'. Es.bodies (rewritten false c.cases (b + (temps c.maybe_expr e + temps c.stmts xs)) cs) ls (env_of H) s') x c1 le1 e1 e1' w1 z1 n1 g1 s1 y1 m1 is1 r1 k1 (λ v. bodies_match law cs guest.2 (b + (temps c.maybe_expr e + temps c.stmts xs)) ls to.1 c1 k 1 (Source.kept []) 0 next next' (omega arith) (room_part (omega arith) (omega arith) room) r1 (effect_from {j = k} {k = k} le1 (omega arith) k1 x));
    }))

default_match : {J : Jumps} {H : Here} {T : Temps} {d : ℕ} (law : Effects H d) (v : Value) (cs : c.Tree c.cases) → Guest H.vars H.free c.cases cs → (b : ℕ) (ls : List (List ℕ)) → Targets (in_switch ls J) [] c.cases cs → (a k : ℕ) {w : World} {z : List Item} {n : ℕ} {g : Tags} {s : Store} {y : Kept} {m : ℕ} (next : Cont) (next' : Cont') → a < d → Room H T b (temps c.cases cs) → Rel H T k w z n g s y m → NextEffect bare J H T a k w g s m next next' → M H a (bind (Source.default_on v cs ls H w) next) z n (bind (Es.default_on (rewritten false c.cases b cs) ls (env_of H) s) next') y m
unfolding rewritten
default_match law v c.no_cases guest b ls to a k next next' lt room r x = x.finishes.on a (omega arith) tt None _ _ _ _ _ _ _ r stays_refl
default_match law v (c.more_cases (c.some_expr e) xs cs) guest b ls to a k next next' lt room r x = default_match law v cs guest.2 (b + (temps c.expr e + temps c.stmts xs)) ls to.1 a k next next' lt (room_part (omega arith) (omega arith) room) r x
default_match law v (c.more_cases c.no_expr xs cs) guest b ls to a k next next' lt room r x = bodies_match law (c.more_cases c.no_expr xs cs) guest b ls to a k 1 (Source.kept (v ∷ [])) 0 next next' lt room r x

-- the first clause whose value is the same
find_match : {J : Jumps} {H : Here} {T : Temps} {d : ℕ} (values : Values H d) (law : Effects H d) (v : Value) (f : EsValue) (cs all : c.Tree c.cases) → Guest H.vars H.free c.cases cs → Guest H.vars H.free c.cases all → (b b0 : ℕ) (ls : List (List ℕ)) → Targets (in_switch ls J) [] c.cases cs → Targets (in_switch ls J) [] c.cases all → (a k : ℕ) {w : World} {z : List Item} {n : ℕ} {g : Tags} {s : Store} {y : Kept} {m : ℕ} (next : Cont) (next' : Cont') → a < d → Room H T b (temps c.cases cs) → Room H T b0 (temps c.cases all) → Val s.heap v f → Rel H T k w z n g s y m → NextEffect bare J H T a k w g s m next next' → M H a (bind (Source.find_case v cs all ls H w) next) z n (bind (Es.find_case f (rewritten false c.cases b cs) (rewritten false c.cases b0 all) ls (env_of H) s) next') y m
unfolding rewritten
find_match values law v f c.no_cases all guest gall b b0 ls to tall a k next next' lt room rall is r x = default_match law v all gall b0 ls tall a k next next' lt rall r x
find_match values law v f (c.more_cases c.no_expr xs cs) all guest gall b b0 ls to tall a k next next' lt room rall is r x = find_match values law v f cs all guest.2 gall (b + (0 + temps c.stmts xs)) b0 ls to.1 tall a k next next' lt (room_part (omega arith) (omega arith) room) rall is r x
find_match {J = J} {H = H} values law v f (c.more_cases (c.some_expr e) xs cs) all guest gall b b0 ls to tall a k {m = m} next next' lt room rall is r x =
    let here = c.more_cases (c.some_expr e) xs cs in
    with_part {H = H} {j = k} {i = m} {go = Source.case_tested v here cs all ls H} {go' = λ u s'. cond (Es_equal.strictly_equal f u) (Es.bodies (rewritten false c.cases b here) ls (env_of H) s') (Es.find_case f (rewritten false c.cases (b + (temps c.expr e + temps c.stmts xs)) cs) (rewritten false c.cases b0 all) ls (env_of H) s')} lt (room_part (omega arith) (omega arith) room) (omega arith) (omega arith) (values b e guest.0) r x.throws (λ c1 le1 u1 q1 w1 z1 n1 g1 s1 y1 m1 is1 r1 k1.
    let was = val_keep k1.heap v f is in
    let later = effect_from {j = k} {k = k} le1 (omega arith) (stays_before k1) x in
    let same = same_is r1.all.objects v f was u1 q1 is1 in
    subst (λ o. M H c1 (bind (Source.case_tested v here cs all ls H u1 w1) next) z1 n1 (bind (cond o (Es.bodies (rewritten false c.cases b here) ls (env_of H) s1) (Es.find_case f (rewritten false c.cases (b + (temps c.expr e + temps c.stmts xs)) cs) (rewritten false c.cases b0 all) ls (env_of H) s1)) next') y1 m1) (sym same)
    (elim (strictly_equal v u1) as (λ o. M H c1 (bind (Source.case_side v here cs all ls H u1 o w1) next) z1 n1 (bind (cond o (Es.bodies (rewritten false c.cases b here) ls (env_of H) s1) (Es.find_case f (rewritten false c.cases (b + (temps c.expr e + temps c.stmts xs)) cs) (rewritten false c.cases b0 all) ls (env_of H) s1)) next') y1 m1) [
      | true ↦ bodies_match law here guest b ls to c1 k 4 (put 3 [] (put 2 (truth (strictly_equal v u1) ∷ []) (put 1 (u1 ∷ []) (Source.kept (v ∷ []))))) 0 next next' (omega arith) room (rel_less (omega arith) r1) later
      | false ↦ find_match values law v f cs all guest.2 gall (b + (temps c.expr e + temps c.stmts xs)) b0 ls to.1 tall c1 k next next' (omega arith) (room_part (omega arith) (omega arith) room) rall was (rel_less (omega arith) r1) later
    ]))

pub switch_body : {H : Here} {d b : ℕ} {e : c.Tree c.expr} {e' : t.Tree t.expr} (values : Values H d) (law : Effects H d) (cs : c.Tree c.cases) → Guest H.vars H.free c.cases cs → ValueLaw H d b (temps c.expr e) e e' → BareBody H d b (temps c.expr e + temps c.cases cs) (c.switch e cs) (t.switch e' (rewritten false c.cases (b + temps c.expr e) cs))
switch_body {H = H} {b = b} {e = e} values law cs guest pe = record {
  on = λ {J = J} {k = k} {m = m} {next = next} {next' = next'} ls to lt room r x.
      with_part {H = H} {j = suc k} {i = m} {go = λ v w'. Source.find_case v cs cs ls H w'} {go' = Es.switch_on (rewritten false c.cases (b + temps c.expr e) cs) ls (env_of H)} lt (room_part (omega arith) (omega arith) room) (omega arith) (omega arith) pe r (record { on = λ b le v u w1 z1 n1 g1 s1 y1 m1 is r1 k1. x.throws.on b le v u w1 z1 n1 g1 s1 y1 m1 is r1 k1 }) (λ c1 le1 v1 f1 w1 z1 n1 g1 s1 y1 m1 is1 r1 k1.
      find_match {J = J} values law v1 f1 cs cs guest guest (b + temps c.expr e) (b + temps c.expr e) ls to to c1 (suc k) next next' (omega arith) (room_part (omega arith) (omega arith) room) (room_part (omega arith) (omega arith) room) is1 (rel_less (omega arith) r1) (effect_from {j = suc k} {k = suc k} le1 (omega arith) (stays_before k1) x));
}
