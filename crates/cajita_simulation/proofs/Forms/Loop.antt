-- `while`, `do` and `for`: a later turn is a task of its own on both sides, which begins with what is done after a turn, or with the test, or with the body.
use Rattle.std.proofs.Common.{◌≡◌, ℕ, zero, suc, ◌+◌, ◌≤◌, ◌<◌, true, false, List, [], ◌∷◌, Option, Some, None, cond, refl, sym, subst, arith}
use Rattle.plans.specs.Plans.{bind, ends, enter}
use Rattle.acts.specs.Acts.{put}
use Rattle.matching.proofs.Rules.{both_enter, both_cut}
use Rattle.caja_units.specs.Units.{same_units}
use Rattle.es3_tree.specs.Tree as t
use Rattle.es3_language.specs.Store.{Store}
use Rattle.es3_language.specs.Statements as Es
use Rattle.es3_language.specs.Meaning as Target
use Rattle.cajita_tree.specs.Tree as c
use Rattle.cajita_rewrite.specs.Rewrite.{rewritten, temps}
use Rattle.cajita_meaning.specs.World.{Value, World}
use Rattle.cajita_meaning.specs.Direct as Direct
use Rattle.cajita_meaning.specs.Direct.{Item}
use Rattle.page_natives.specs.Natives.{Kept}
use Rattle.cajita_simulation.specs.Guest.{Guest}
use Rattle.cajita_simulation.proofs.Doing as Source
use Rattle.cajita_simulation.proofs.Relation.{EsValue, Val, Here, env_of, Tags, Temps, Rel, stays_refl, stays_trans, stays_step, stays_before, rel_less, rel_both}
use Rattle.cajita_simulation.proofs.Laws.{Jumps, in_loop, Targets, ValueLaw, ValueBody, EffectLaw, EffectBody, BareBody, nested, bare, NextEffect, effect_from, still, Cont, Cont', M, Room, room_part, with_part, steps_hold, left_assoc, right_assoc}
use Rattle.cajita_simulation.proofs.Forms.Values.{Values}
use Rattle.cajita_simulation.proofs.Forms.List.{behind, behind'}
use Rattle.cajita_simulation.proofs.Forms.Logic.{decided_match}
use Rattle.cajita_simulation.proofs.Forms.Var.{items_match}
use Rattle.cajita_simulation.proofs.Forms.Turns.{next_is, body_is, test_is, update_is}

-- the law of a part that may be absent
abbrev pub MaybeLaw : Here → ℕ → ℕ → ℕ → c.Tree c.maybe_expr → t.Tree t.maybe_expr → Type 0
MaybeLaw H d b q c.no_expr t.no_expr = Unit {0}
MaybeLaw H d b q (c.some_expr e) (t.some_expr e') = ValueLaw H d b q e e'
MaybeLaw H d b q _ _ = ⊥

abbrev pub MaybeBody : Here → ℕ → ℕ → ℕ → c.Tree c.maybe_expr → t.Tree t.maybe_expr → Type 0
MaybeBody H d b q c.no_expr t.no_expr = Unit {0}
MaybeBody H d b q (c.some_expr e) (t.some_expr e') = ValueBody H d b q e e'
MaybeBody H d b q _ _ = ⊥

abbrev pub loop_of : c.Tree c.maybe_expr → c.Tree c.maybe_expr → c.Tree c.stmt → Source.Loop
loop_of e u x = record { test = e; update = u; body = x }

abbrev pub loop_of' : t.Tree t.maybe_expr → t.Tree t.maybe_expr → t.Tree t.stmt → Target.Loop
loop_of' e u x = record { test = e; update = u; body = x }

-- the law of a later turn
pub record LaterLaw (H : Here) (d b q : ℕ) (e u : c.Tree c.maybe_expr) (x : c.Tree c.stmt) (e' u' : t.Tree t.maybe_expr) (x' : t.Tree t.stmt) : Type 0 where
  pub on : {J : Jumps} {T : Temps} {a k : ℕ} {w : World} {z : List Item} {n : ℕ} {g : Tags} {s : Store} {y : Kept} {m : ℕ} {next : Cont} {next' : Cont'} (ls : List (List ℕ)) (acc : Option EsValue) → Targets (in_loop ls J) [] c.stmt x → a < d → Room H T b q → Rel H T k w z n g s y m → NextEffect bare J H T a (suc k) w g s (suc m) next next' → M H a (enter (Source.again (loop_of e u x) ls H) w next) z n (enter (Target.again (loop_of' e' u' x') acc ls (env_of H)) s next') y m

-- where the temporaries of a part are
pub record Part (b q base count : ℕ) : Type 0 where
  pub from : b ≤ base
  pub to : base + count ≤ b + q

part_room : {H : Here} {T : Temps} {b q base count : ℕ} → Part b q base count → Room H T b q → Room H T base count
part_room p room = let f = p.from in let g = p.to in room_part f g room

pub to_same : (l : Option (List ℕ)) (ls : List (List ℕ)) → Source.is_to l ls ≡ Es.is_to l ls
to_same None ls = refl
to_same (Some l) [] = refl
to_same (Some l) (k ∷ ls) = elim (same_units l k) as (λ b. cond b true (Source.is_to (Some l) ls) ≡ cond b true (Es.is_to (Some l) ls)) [
  | true ↦ refl
  | false ↦ to_same (Some l) ls
]

-- a jump out of a turn
pub jumped : (H : Here) {d : ℕ} (ls : List (List ℕ)) (l : Option (List ℕ)) (acc v : Option EsValue) (w : World) (s : Store) (next : Cont) (next' : Cont') {z : List Item} {n : ℕ} {y : Kept} {m : ℕ} → M H d (next (Source.normal None) w) z n (next' (Target.normal (Target.later v acc)) s) y m → (Source.is_to l ls ≡ false → M H d (next (Source.broke l) w) z n (next' (Target.broke l v) s) y m) → (go' : Option EsValue → Target.Plan) → M H d (bind (cond (Source.is_to l ls) (ends (Source.normal None) w) (ends (Source.broke l) w)) next) z n (bind (Es.on_turn (Es.turned ls acc (Target.broke l v)) s go') next') y m
jumped H {d = d} ls l acc v w s next next' {z = z} {n = n} {y = y} {m = m} f g go' =
    let cases = elim (Source.is_to l ls) as (λ b. Source.is_to l ls ≡ b → M H d (bind (cond b (ends (Source.normal None) w) (ends (Source.broke l) w)) next) z n (next' (cond b (Target.normal (Target.later v acc)) (Target.broke l v)) s) y m) [
      | true ↦ λ is. f
      | false ↦ λ is. g is
    ] in
    subst (λ b. M H d (bind (cond (Source.is_to l ls) (ends (Source.normal None) w) (ends (Source.broke l) w)) next) z n (next' (cond b (Target.normal (Target.later v acc)) (Target.broke l v)) s) y m) (to_same l ls) (cases refl)

-- a `continue`, which goes on with a plan where it is to the loop
pub went_on : (H : Here) {d : ℕ} (p : Source.Plan) (ls : List (List ℕ)) (l : Option (List ℕ)) (acc v : Option EsValue) (w : World) (s : Store) (next : Cont) (next' : Cont') {z : List Item} {n : ℕ} {y : Kept} {m : ℕ} (go' : Option EsValue → Target.Plan) → M H d (bind p next) z n (bind (go' (Target.later v acc)) next') y m → (Source.is_to l ls ≡ false → M H d (next (Source.continued l) w) z n (next' (Target.continued l v) s) y m) → M H d (bind (cond (Source.is_to l ls) p (ends (Source.continued l) w)) next) z n (bind (Es.on_turn (Es.turned ls acc (Target.continued l v)) s go') next') y m
went_on H {d = d} p ls l acc v w s next next' {z = z} {n = n} {y = y} {m = m} go' f g =
    let cases = elim (Source.is_to l ls) as (λ b. Source.is_to l ls ≡ b → M H d (bind (cond b p (ends (Source.continued l) w)) next) z n (bind (Es.on_turn (cond b (Es.turns (Target.later v acc)) (Es.leaves (Target.continued l v))) s go') next') y m) [
      | true ↦ λ is. f
      | false ↦ λ is. g is
    ] in
    subst (λ b. M H d (bind (cond (Source.is_to l ls) p (ends (Source.continued l) w)) next) z n (bind (Es.on_turn (cond b (Es.turns (Target.later v acc)) (Es.leaves (Target.continued l v))) s go') next') y m) (to_same l ls) (cases refl)

-- after a body
after_body : {J : Jumps} {H : Here} {T : Temps} {d b q a k : ℕ} {e u : c.Tree c.maybe_expr} {x : c.Tree c.stmt} {e' u' : t.Tree t.maybe_expr} {x' : t.Tree t.stmt} (ls : List (List ℕ)) (acc : Option EsValue) {w : World} {g : Tags} {s : Store} {m : ℕ} (next : Cont) (next' : Cont') → Targets (in_loop ls J) [] c.stmt x → a < d → Room H T b q → LaterLaw H d b q e u x e' u' x' → NextEffect bare J H T a (suc k) w g s m next next'
    → NextEffect nested (in_loop ls J) H T a (suc k) w g s m (behind (Source.loop_next (loop_of e u x) ls H) next) (behind' (Es.loop_next (loop_of' e' u' x') acc ls (env_of H)) next')
after_body {J = J} {H = H} {k = k} {e = e} {u = u} {x = x} {e' = e'} {u' = u'} {x' = x'} ls acc next next' to lt room pa y = record {
  finishes = record {
    on = λ c1 le p u1 w1 z1 n1 g1 s1 y1 m1 r1 k1. pa.on {J = J} ls (Target.later u1 acc) to (omega arith) room (rel_less {j = k} (omega arith) r1) (effect_from {j = suc k} {k = suc k} le (omega arith) (stays_trans k1 (stays_step (omega arith))) y);
    breaks = λ c1 le l out u1 w1 z1 n1 g1 s1 y1 m1 r1 k1. jumped H ls l acc u1 w1 s1 next next' (y.finishes.on c1 le tt (Target.later u1 acc) w1 z1 n1 g1 s1 y1 m1 r1 k1) (λ other. y.finishes.breaks c1 le l (still (J.breaks l) (Source.is_to l ls) out other) u1 w1 z1 n1 g1 s1 y1 m1 r1 k1) (λ v'. enter (Target.again (loop_of' e' u' x') v' ls (env_of H)) s1 ends);
    continues = λ c1 le l out u1 w1 z1 n1 g1 s1 y1 m1 r1 k1. went_on H (enter (Source.again (loop_of e u x) ls H) w1 ends) ls l acc u1 w1 s1 next next' (λ v'. enter (Target.again (loop_of' e' u' x') v' ls (env_of H)) s1 ends) (pa.on {J = J} ls (Target.later u1 acc) to (omega arith) room (rel_less {j = k} (omega arith) r1) (effect_from {j = suc k} {k = suc k} le (omega arith) (stays_trans k1 (stays_step (omega arith))) y)) (λ other. y.finishes.continues c1 le l (still (J.continues l) (Source.is_to l ls) out other) u1 w1 z1 n1 g1 s1 y1 m1 r1 k1);
  };
  returns = λ out. record { on = λ c1 le p u1 w1 z1 n1 g1 s1 y1 m1 is1 r1 k1. (y.returns out).on c1 le p u1 w1 z1 n1 g1 s1 y1 m1 is1 r1 k1 };
  throws = record { on = λ c1 le p u1 w1 z1 n1 g1 s1 y1 m1 is1 r1 k1. y.throws.on c1 le p u1 w1 z1 n1 g1 s1 y1 m1 is1 r1 k1 };
}

body_match : {J : Jumps} {H : Here} {T : Temps} {d b q bx qx a k : ℕ} {e u : c.Tree c.maybe_expr} {x : c.Tree c.stmt} {e' u' : t.Tree t.maybe_expr} {x' : t.Tree t.stmt} (ls : List (List ℕ)) (acc : Option EsValue) {w : World} {z : List Item} {n : ℕ} {g : Tags} {s : Store} {y : Kept} {m : ℕ} (next : Cont) (next' : Cont') → Targets (in_loop ls J) [] c.stmt x → a < d → Part b q bx qx → Room H T b q → EffectLaw H d bx qx x x' → LaterLaw H d b q e u x e' u' x' → Rel H T (suc k) w z n g s y m → NextEffect bare J H T a (suc k) w g s m next next'
    → M H a (bind (Source.loop_body (loop_of e u x) ls H w) next) z n (bind (Es.loop_body (loop_of' e' u' x') acc ls (env_of H) s) next') y m
body_match {J = J} {k = k} ls acc next next' to lt p room px pa r y =
    px.on {J = in_loop ls J} [] to lt (part_room p room) (rel_less {j = k} (omega arith) r) (effect_from {j = suc k} {k = suc k} (omega arith) (omega arith) (stays_step (omega arith)) (after_body {k = k} ls acc next next' to lt room pa y))

-- behind the test
tested_match : {J : Jumps} {H : Here} {T : Temps} {d b q bx qx a k : ℕ} {e u : c.Tree c.maybe_expr} {x : c.Tree c.stmt} {e' u' : t.Tree t.maybe_expr} {x' : t.Tree t.stmt} (ls : List (List ℕ)) (acc : Option EsValue) (v : Value) (f : EsValue) {w : World} {z : List Item} {n : ℕ} {g : Tags} {s : Store} {y : Kept} {m : ℕ} (next : Cont) (next' : Cont') → Targets (in_loop ls J) [] c.stmt x → a < d → Part b q bx qx → Room H T b q → EffectLaw H d bx qx x x' → LaterLaw H d b q e u x e' u' x' → Val s.heap v f → Rel H T (suc k) w z n g s y m → NextEffect bare J H T a (suc k) w g s m next next'
    → M H a (bind (Source.loop_test (loop_of e u x) ls H v w) next) z n (bind (Es.loop_test (loop_of' e' u' x') acc ls (env_of H) f s) next') y m
tested_match {J = J} {H = H} {a = a} {k = k} {e = e} {u = u} {x = x} {e' = e'} {u' = u'} {x' = x'} ls acc v f {w = w} {z = z} {n = n} {s = s} {y = y} {m = m} next next' to lt p room px pa is r o =
    decided_match 0 1 (Source.kept (v ∷ [])) (Direct.loop_body (loop_of e u x) ls H.around) Direct.finish (Es.loop_body (loop_of' e' u' x') acc ls (env_of H) s) (ends (Target.normal acc) s) f next next' is r
    (subst (λ q. M H a (bind q next) z n (bind (Es.loop_body (loop_of' e' u' x') acc ls (env_of H) s) next') y m) (sym (body_is (loop_of e u x) ls H 2 (put 1 [] (Source.kept (v ∷ []))) w)) (body_match {J = J} {k = k} ls acc next next' to lt p room px pa r o))
    (o.finishes.on _ (omega arith) tt acc _ _ _ _ _ _ _ r stays_refl)

at_match : {J : Jumps} {H : Here} {T : Temps} {d b q bt qt bx qx a k : ℕ} (e : c.Tree c.maybe_expr) (e' : t.Tree t.maybe_expr) {u : c.Tree c.maybe_expr} {x : c.Tree c.stmt} {u' : t.Tree t.maybe_expr} {x' : t.Tree t.stmt} (ls : List (List ℕ)) (acc : Option EsValue) {w : World} {z : List Item} {n : ℕ} {g : Tags} {s : Store} {y : Kept} {m : ℕ} (next : Cont) (next' : Cont') → Targets (in_loop ls J) [] c.stmt x → a < d → Part b q bt qt → Part b q bx qx → Room H T b q → MaybeLaw H d bt qt e e' → EffectLaw H d bx qx x x' → LaterLaw H d b q e u x e' u' x' → Rel H T (suc k) w z n g s y m → NextEffect bare J H T a (suc k) w g s m next next'
    → M H a (bind (Source.at_test e (loop_of e u x) ls H w) next) z n (bind (Es.test_of e' (loop_of' e' u' x') acc ls (env_of H) s) next') y m
at_match {J = J} {k = k} c.no_expr t.no_expr ls acc next next' to lt pt p room law px pa r y = body_match {J = J} {k = k} ls acc next next' to lt p room px pa r y
at_match {J = J} {H = H} {k = k} (c.some_expr e) (t.some_expr e') {u = u} {x = x} {u' = u'} {x' = x'} ls acc {m = m} next next' to lt pt p room law px pa r y =
    with_part {H = H} {j = suc k} {i = m} {go = Source.loop_test (loop_of (c.some_expr e) u x) ls H} {go' = Es.loop_test (loop_of' (t.some_expr e') u' x') acc ls (env_of H)} lt (part_room pt room) (omega arith) (omega arith) law r y.throws (λ c1 le1 v1 e1 w1 z1 n1 g1 s1 y1 m1 is1 r1 k1.
    tested_match {J = J} {k = k} ls acc v1 e1 next next' to (omega arith) p room px pa is1 (rel_less (omega arith) r1) (effect_from {j = suc k} {k = suc k} le1 (omega arith) (stays_before k1) y))
at_match (c.some_expr e) t.no_expr ls acc next next' to lt pt p room law px pa r y = absurd law
at_match c.no_expr (t.some_expr e') ls acc next next' to lt pt p room law px pa r y = absurd law

pub while_body : {H : Here} {d b q bt qt bx qx : ℕ} {e : c.Tree c.expr} {e' : t.Tree t.expr} {x : c.Tree c.stmt} {x' : t.Tree t.stmt} → Part b q bt qt → Part b q bx qx → ValueLaw H d bt qt e e' → EffectLaw H d bx qx x x' → LaterLaw H d b q (c.some_expr e) c.no_expr x (t.some_expr e') t.no_expr x' → BareBody H d b q (c.while_loop e x) (t.while_loop e' x')
while_body {e = e} {e' = e'} pt p law px pa = record { on = λ {J = J} {k = k} {next = next} {next' = next'} ls to lt room r y. at_match {J = J} {k = k} (c.some_expr e) (t.some_expr e') ls None next next' to lt pt p room law px pa (rel_less (omega arith) r) y }

pub do_body : {H : Here} {d b q bx qx : ℕ} {e : c.Tree c.expr} {e' : t.Tree t.expr} {x : c.Tree c.stmt} {x' : t.Tree t.stmt} → Part b q bx qx → EffectLaw H d bx qx x x' → LaterLaw H d b q (c.some_expr e) c.no_expr x (t.some_expr e') t.no_expr x' → BareBody H d b q (c.do_loop x e) (t.do_loop x' e')
do_body {H = H} {e = e} {e' = e'} {x = x} {x' = x'} p px pa = record {
  on = λ {J = J} {a = a} {k = k} {w = w} {z = z} {n = n} {s = s} {y = y} {m = m} {next = next} {next' = next'} ls to lt room r o.
      subst (λ q. M H a (bind q next) z n (bind (Es.loop_body (loop_of' (t.some_expr e') t.no_expr x') None ls (env_of H) s) next') y m) (sym (body_is (loop_of (c.some_expr e) c.no_expr x) ls H 1 Source.start w))
      (body_match {J = J} {k = k} ls None next next' to lt p room px pa (rel_less (omega arith) r) o);
}

-- `for`, by its first part

pub for_body : {H : Here} {d b q bt qt bx qx : ℕ} {e u : c.Tree c.maybe_expr} {e' u' : t.Tree t.maybe_expr} {x : c.Tree c.stmt} {x' : t.Tree t.stmt} → Part b q bt qt → Part b q bx qx → MaybeLaw H d bt qt e e' → EffectLaw H d bx qx x x' → LaterLaw H d b q e u x e' u' x' → BareBody H d b q (c.for_loop c.no_first e u x) (t.for_loop t.no_first e' u' x')
for_body {H = H} {e = e} {u = u} {e' = e'} {u' = u'} {x = x} {x' = x'} pt p law px pa = record {
  on = λ {J = J} {a = a} {k = k} {w = w} {z = z} {n = n} {s = s} {y = y} {m = m} {next = next} {next' = next'} ls to lt room r o.
      subst (λ q. M H a (bind q next) z n (bind (Es.test_of e' (loop_of' e' u' x') None ls (env_of H) s) next') y m) (sym (test_is e (loop_of e u x) ls H 1 Source.start w))
      (at_match {J = J} {k = k} e e' ls None next next' to lt pt p room law px pa (rel_less (omega arith) r) o);
}

pub for_var_body : {H : Here} {d b q bi bt qt bx qx : ℕ} (values : Values H d) (is : c.Tree c.items) → Guest H.vars H.free c.items is → {e u : c.Tree c.maybe_expr} {e' u' : t.Tree t.maybe_expr} {x : c.Tree c.stmt} {x' : t.Tree t.stmt} → Part b q bi (temps c.items is) → Part b q bt qt → Part b q bx qx → MaybeLaw H d bt qt e e' → EffectLaw H d bx qx x x' → LaterLaw H d b q e u x e' u' x' → BareBody H d b q (c.for_loop (c.first_var is) e u x) (t.for_loop (t.first_var (rewritten false c.items bi is)) e' u' x')
for_var_body {H = H} {bi = bi} values is guest {e = e} {u = u} {e' = e'} {u' = u'} {x = x} {x' = x'} pi pt p law px pa = record {
  on = λ {J = J} {a = a} {k = k} {next = next} {next' = next'} ls to lt room r o.
      items_match values (Direct.at_test e (loop_of e u x) ls H.around) (Es.test_of e' (loop_of' e' u' x') None ls (env_of H)) is guest a bi (suc k) 1 Source.start next next' lt (part_room pi room) (rel_less (omega arith) r) (record {
        on = λ c1 le1 l at w1 z1 n1 g1 s1 y1 m1 r1 k1.
            subst (λ q. M H c1 (bind q next) z1 n1 (bind (Es.test_of e' (loop_of' e' u' x') None ls (env_of H) s1) next') y1 m1) (sym (test_is e (loop_of e u x) ls H l at w1))
            (at_match {J = J} {k = k} e e' ls None next next' to (omega arith) pt p room law px pa r1 (effect_from {j = suc k} {k = suc k} le1 (omega arith) k1 o));
        throws = o.throws;
      });
}

pub for_first_body : {H : Here} {d b q bi qi bt qt bx qx : ℕ} {i : c.Tree c.expr} {i' : t.Tree t.expr} {e u : c.Tree c.maybe_expr} {e' u' : t.Tree t.maybe_expr} {x : c.Tree c.stmt} {x' : t.Tree t.stmt} → Part b q bi qi → Part b q bt qt → Part b q bx qx → ValueLaw H d bi qi i i' → MaybeLaw H d bt qt e e' → EffectLaw H d bx qx x x' → LaterLaw H d b q e u x e' u' x' → BareBody H d b q (c.for_loop (c.first_expr i) e u x) (t.for_loop (t.first_expr i') e' u' x')
for_first_body {H = H} {e = e} {u = u} {e' = e'} {u' = u'} {x = x} {x' = x'} pi pt p first law px pa = record {
  on = λ {J = J} {k = k} {m = m} {next = next} {next' = next'} ls to lt room r o.
      with_part {H = H} {j = suc k} {i = m} {go = λ v w1. Source.act_plan H 2 (Source.one v) (Direct.at_test e (loop_of e u x) ls H.around) w1} {go' = Es.after_update (loop_of' e' u' x') None ls (env_of H)} lt (part_room pi room) (omega arith) (omega arith) first r o.throws (λ c1 le1 v1 e1 w1 z1 n1 g1 s1 y1 m1 is1 r1 k1.
      subst (λ q. M H c1 (bind q next) z1 n1 (bind (Es.test_of e' (loop_of' e' u' x') None ls (env_of H) s1) next') y1 m1) (sym (test_is e (loop_of e u x) ls H 2 (Source.one v1) w1))
      (at_match {J = J} {k = k} e e' ls None next next' to (omega arith) pt p room law px pa (rel_less (omega arith) r1) (effect_from {j = suc k} {k = suc k} le1 (omega arith) (stays_before k1) o)));
}

-- a later turn, once both have entered it
later_plan : {J : Jumps} {H : Here} {T : Temps} {d b q bt qt bu qu bx qx a k : ℕ} (u : c.Tree c.maybe_expr) (u' : t.Tree t.maybe_expr) (e : c.Tree c.maybe_expr) (e' : t.Tree t.maybe_expr) (x : c.Tree c.stmt) (x' : t.Tree t.stmt) (ls : List (List ℕ)) (acc : Option EsValue) {w : World} {z : List Item} {n : ℕ} {g : Tags} {s : Store} {y : Kept} {m : ℕ} (next : Cont) (next' : Cont') → Targets (in_loop ls J) [] c.stmt x → a < d → Part b q bt qt → Part b q bu qu → Part b q bx qx → Room H T b q → MaybeBody H d bu qu u u' → MaybeLaw H d bt qt e e' → MaybeBody H d bt qt e e' → EffectLaw H d bx qx x x' → EffectBody H d bx qx x x' → LaterLaw H d b q e u x e' u' x' → Rel H T k w z n g s y m → NextEffect bare J H T a (suc k) w g s (suc m) next next'
    → M H a (bind (Rattle.acts.specs.Acts.task_plan (Source.forms H.rules) (Source.again (loop_of e u x) ls H) w) next) z (suc n) (bind (Es.again_first u' e' (loop_of' e' u' x') acc ls (env_of H) s) next') y (suc m)
later_plan {J = J} {H = H} {k = k} (c.some_expr u) (t.some_expr u') e e' x x' ls acc {w = w} {s = s} next next' to lt pt pu p room ub law eb px xb pa r o =
    left_assoc H (Source.expr_plan u H w) (Source.turn_next (Direct.on_value (λ v. Direct.at_test e (loop_of e (c.some_expr u) x) ls H.around)) H) next
    (right_assoc H (Target.expr_plan u' (env_of H) s) (Target.on_value_of (Es.after_update (loop_of' e' (t.some_expr u') x') acc ls (env_of H))) next'
    (ub.on lt (part_room pu room) (rel_both r) (record {
      throws = record { on = λ c1 le v f w1 z1 n1 g1 s1 y1 m1 is r1 k1. o.throws.on c1 (omega arith) v f w1 z1 n1 g1 s1 y1 m1 is r1 k1 };
      gives = record {
        on = λ c1 le v f w1 z1 n1 g1 s1 y1 m1 is r1 k1.
            subst (λ q. M H c1 (bind q next) z1 n1 (bind (Es.test_of e' (loop_of' e' (t.some_expr u') x') acc ls (env_of H) s1) next') y1 m1) (sym (update_is e (loop_of e (c.some_expr u) x) ls H v w1))
            (at_match {J = J} {k = k} e e' ls acc next next' to (omega arith) pt p room law px pa r1 (effect_from {j = suc k} {k = suc k} (omega arith) (omega arith) k1 o));
      };
    })))
later_plan {J = J} {H = H} {k = k} c.no_expr t.no_expr (c.some_expr e) (t.some_expr e') x x' ls acc {w = w} {s = s} next next' to lt pt pu p room ub law eb px xb pa r o =
    left_assoc H (Source.expr_plan e H w) (Source.turn_next (Direct.on_value (Direct.loop_test (loop_of (c.some_expr e) c.no_expr x) ls H.around)) H) next
    (right_assoc H (Target.expr_plan e' (env_of H) s) (Target.on_value_of (Es.loop_test (loop_of' (t.some_expr e') t.no_expr x') acc ls (env_of H))) next'
    (eb.on lt (part_room pt room) (rel_both r) (record {
      throws = record { on = λ c1 le v f w1 z1 n1 g1 s1 y1 m1 is r1 k1. o.throws.on c1 (omega arith) v f w1 z1 n1 g1 s1 y1 m1 is r1 k1 };
      gives = record { on = λ c1 le v f w1 z1 n1 g1 s1 y1 m1 is r1 k1. tested_match {J = J} {k = k} ls acc v f next next' to (omega arith) p room px pa is r1 (effect_from {j = suc k} {k = suc k} (omega arith) (omega arith) k1 o) };
    })))
later_plan {J = J} {H = H} {a = a} {k = k} c.no_expr t.no_expr c.no_expr t.no_expr x x' ls acc {w = w} {g = g} {s = s} {m = m} next next' to lt pt pu p room ub law eb px xb pa r o =
    let after = after_body {J = J} {k = k} ls acc next next' to lt room pa o in
    left_assoc H (Source.stmt_plan x [] H w) (Source.turn_next (Direct.loop_next (loop_of c.no_expr c.no_expr x) ls H.around) H) next
    (right_assoc H (Target.stmt_plan x' [] (env_of H) s) (Es.loop_next (loop_of' t.no_expr t.no_expr x') acc ls (env_of H)) next'
    (xb.on {J = in_loop ls J} [] to lt (part_room p room) (rel_both r) (record {
      finishes = record {
        on = λ c1 le v f w1 z1 n1 g1 s1 y1 m1 r1 k1. began (Source.normal v) (Target.normal f) w1 s1 (after.finishes.on c1 le v f w1 z1 n1 g1 s1 y1 m1 r1 k1);
        breaks = λ c1 le l out f w1 z1 n1 g1 s1 y1 m1 r1 k1. began (Source.broke l) (Target.broke l f) w1 s1 (after.finishes.breaks c1 le l out f w1 z1 n1 g1 s1 y1 m1 r1 k1);
        continues = λ c1 le l out f w1 z1 n1 g1 s1 y1 m1 r1 k1. began (Source.continued l) (Target.continued l f) w1 s1 (after.finishes.continues c1 le l out f w1 z1 n1 g1 s1 y1 m1 r1 k1);
      };
      returns = λ out. record { on = λ c1 le v f w1 z1 n1 g1 s1 y1 m1 is r1 k1. began (Source.returned v) (Target.returned f) w1 s1 ((after.returns out).on c1 le v f w1 z1 n1 g1 s1 y1 m1 is r1 k1) };
      throws = record { on = λ c1 le v f w1 z1 n1 g1 s1 y1 m1 is r1 k1. began (Source.threw v) (Target.threw f) w1 s1 (after.throws.on c1 le v f w1 z1 n1 g1 s1 y1 m1 is r1 k1) };
    })))
  where
    began : {c1 : ℕ} (f : Source.Completion) (f' : Target.Completion) (w1 : World) (s1 : Store) {z1 : List Item} {n1 : ℕ} {y1 : Kept} {m1 : ℕ} → M H c1 (bind (Source.loop_next (loop_of c.no_expr c.no_expr x) ls H f w1) next) z1 n1 (bind (Es.loop_next (loop_of' t.no_expr t.no_expr x') acc ls (env_of H) f' s1) next') y1 m1 → M H c1 (bind (Source.turn_next (Direct.loop_next (loop_of c.no_expr c.no_expr x) ls H.around) H f w1) next) z1 n1 (bind (Es.loop_next (loop_of' t.no_expr t.no_expr x') acc ls (env_of H) f' s1) next') y1 m1
    began {c1 = c1} f f' w1 s1 {z1 = z1} {n1 = n1} {y1 = y1} {m1 = m1} x1 = subst (λ q. M H c1 (bind q next) z1 n1 (bind (Es.loop_next (loop_of' t.no_expr t.no_expr x') acc ls (env_of H) f' s1) next') y1 m1) (sym (next_is (loop_of c.no_expr c.no_expr x) ls H 0 Rattle.acts.specs.Acts.nothing f w1)) x1
later_plan (c.some_expr u) t.no_expr e e' x x' ls acc next next' to lt pt pu p room ub law eb px xb pa r o = absurd ub
later_plan c.no_expr (t.some_expr u') e e' x x' ls acc next next' to lt pt pu p room ub law eb px xb pa r o = absurd ub
later_plan c.no_expr t.no_expr (c.some_expr e) t.no_expr x x' ls acc next next' to lt pt pu p room ub law eb px xb pa r o = absurd law
later_plan c.no_expr t.no_expr c.no_expr (t.some_expr e') x x' ls acc next next' to lt pt pu p room ub law eb px xb pa r o = absurd law

later_at : {J : Jumps} {H : Here} {T : Temps} {d b q bt qt bu qu bx qx : ℕ} (a k : ℕ) (u : c.Tree c.maybe_expr) (u' : t.Tree t.maybe_expr) (e : c.Tree c.maybe_expr) (e' : t.Tree t.maybe_expr) (x : c.Tree c.stmt) (x' : t.Tree t.stmt) (ls : List (List ℕ)) (acc : Option EsValue) {w : World} {z : List Item} {n : ℕ} {g : Tags} {s : Store} {y : Kept} {m : ℕ} (next : Cont) (next' : Cont') → Targets (in_loop ls J) [] c.stmt x → a < suc d → Part b q bt qt → Part b q bu qu → Part b q bx qx → Room H T b q → MaybeBody H d bu qu u u' → MaybeLaw H d bt qt e e' → MaybeBody H d bt qt e e' → EffectLaw H d bx qx x x' → EffectBody H d bx qx x x' → LaterLaw H d b q e u x e' u' x' → Rel H T k w z n g s y m → NextEffect bare J H T a (suc k) w g s (suc m) next next'
    → M H a (enter (Source.again (loop_of e u x) ls H) w next) z n (enter (Target.again (loop_of' e' u' x') acc ls (env_of H)) s next') y m
later_at zero k u u' e e' x x' ls acc next next' to lt pt pu p room ub law eb px xb pa r y = both_cut (steps_hold r) r.all.items
later_at {J = J} (suc a) k u u' e e' x x' ls acc next next' to lt pt pu p room ub law eb px xb pa r y = both_enter (later_plan {J = J} {k = k} u u' e e' x x' ls acc next next' to (omega arith) pt pu p room ub law eb px xb pa r (effect_from {j = suc k} {k = suc k} (omega arith) (omega arith) stays_refl y))

pub later_law : {H : Here} {d b q bt qt bu qu bx qx : ℕ} {u : c.Tree c.maybe_expr} {u' : t.Tree t.maybe_expr} {e : c.Tree c.maybe_expr} {e' : t.Tree t.maybe_expr} {x : c.Tree c.stmt} {x' : t.Tree t.stmt} → Part b q bt qt → Part b q bu qu → Part b q bx qx → MaybeBody H d bu qu u u' → MaybeLaw H d bt qt e e' → MaybeBody H d bt qt e e' → EffectLaw H d bx qx x x' → EffectBody H d bx qx x x' → LaterLaw H d b q e u x e' u' x' → LaterLaw H (suc d) b q e u x e' u' x'
later_law {u = u} {u' = u'} {e = e} {e' = e'} {x = x} {x' = x'} pt pu p ub law eb px xb pa = record { on = λ {J = J} {a = a} {k = k} {next = next} {next' = next'} ls acc to lt room r y. later_at {J = J} a k u u' e e' x x' ls acc next next' to lt pt pu p room ub law eb px xb pa r y }

pub later_zero : {H : Here} {b q : ℕ} {e u : c.Tree c.maybe_expr} {x : c.Tree c.stmt} {e' u' : t.Tree t.maybe_expr} {x' : t.Tree t.stmt} → LaterLaw H 0 b q e u x e' u' x'
later_zero = record { on = λ ls acc to lt room r y. absurd (omega arith) }
