-- The module's own statements in order, each with its law, and then what follows them.
use Rattle.std.proofs.Common.{◌≡◌, ℕ, suc, ◌+◌, ◌≤◌, ◌<◌, Bool, true, false, List, [], ◌∷◌, Option, Some, None, cond, refl, sym, ap, subst, arith}
use Rattle.std.specs.Prelude.{nat_eq}
use Rattle.std.proofs.Math.Path.{fun_ext}
use Rattle.std.proofs.lemmas.Bool.Decides.{nat_tests}
use Rattle.plans.specs.Plans.{bind}
use Rattle.acts.specs.Acts.{put}
use Rattle.caja_units.specs.Units.{same_units}
use Rattle.es3_tree.specs.Tree as t
use Rattle.es3_language.specs.Store.{Store}
use Rattle.es3_language.specs.Meaning as Target
use Rattle.cajita_tree.specs.Tree as c
use Rattle.cajita_rewrite.specs.Rewrite.{rewritten, temps, temp_name, joined, result_name}
use Rattle.cajita_meaning.specs.World.{Value, World}
use Rattle.cajita_meaning.specs.Asking.{first}
use Rattle.cajita_meaning.specs.Direct as Direct
use Rattle.cajita_meaning.specs.Direct.{Item}
use Rattle.page_natives.specs.Natives.{Kept}
use Rattle.cajita_simulation.specs.Guest.{Guest}
use Rattle.cajita_simulation.proofs.Doing as Source
use Rattle.cajita_simulation.proofs.Relation.{EsValue, Here, env_of, Tags, Temps, Slot, declared, holds, Rel, Stays, stays_refl, stays_trans, stays_before, rel_less}
use Rattle.cajita_simulation.proofs.Laws.{no_jumps, Targets, OwnLaw, Throws, throws_from, Cont, Cont', M, Room, room_part, hold, after, HasResult}

-- the laws of the statements directly in the module
abbrev pub Owns : Here → ℕ → Type 0
Owns H d = (b : ℕ) (x : c.Tree c.stmt) → Guest H.vars H.free c.stmt x → OwnLaw H d b (temps c.stmt x) x (rewritten true c.stmt b x)

-- the value of the last expression statement, as it is kept at a place
abbrev pub last_of : Option Value → List Value
last_of None = []
last_of (Some v) = v ∷ []

abbrev pub later : Option Value → Option Value → Option Value
later None acc = acc
later (Some v) acc = Some v

-- what goes on after the list: with the value of the last expression statement in the module's result
pub record ListEnd (H : Here) (T : Temps) (d k : ℕ) (w0 : World) (g0 : Tags) (s0 : Store) (i : ℕ) (end' : Cont') (next : Cont) (next' : Cont') (rest' : t.Tree t.stmts) : Type 0 where
  pub on : (a : ℕ) → a ≤ d → (acc : Option Value) (acc' : Option EsValue) (w : World) (z : List Item) (n : ℕ) (g : Tags) (s : Store) (y : Kept) (m : ℕ) → Rel H (after H T acc) k w z n g s y m → Stays w0 g0 s0 i w g s m → M H a (next (Source.gave (first (last_of acc))) w) z n (bind (Target.list true rest' acc' (env_of H) s end') next') y m
  pub throws : (acc : Option Value) → Throws H (after H T acc) d k w0 g0 s0 i next (λ e s. bind (end' e s) next')

pub list_end_since : {H : Here} {T : Temps} {d c k : ℕ} {w w' : World} {g g' : Tags} {s s' : Store} {i l : ℕ} {end' : Cont'} {next : Cont} {next' : Cont'} {rest' : t.Tree t.stmts} → c ≤ d → Stays w g s (suc i) w' g' s' l → ListEnd H T d k w g s i end' next next' rest' → ListEnd H T c k w' g' s' l end' next next' rest'
list_end_since {k = k} le keep x = record {
  on = λ a le1 acc acc' w z n g s y m r k1. x.on a (omega arith) acc acc' w z n g s y m r (stays_trans (stays_before keep) k1);
  throws = λ acc. throws_from {j = k} {k = k} le (omega arith) (stays_before keep) (x.throws acc);
}

-- what is held is what was held last

held_last : (act : ℕ) (x : List ℕ) (u v : Value) (T : Temps) (c : ℕ) (y : List ℕ) → hold act x v (hold act x u T) c y ≡ hold act x v T c y
held_last act x u v T c y = elim (nat_eq c act) as (λ b. cond b (cond (same_units y x) (holds v) (cond b (cond (same_units y x) (holds u) (T c y)) (T c y))) (cond b (cond (same_units y x) (holds u) (T c y)) (T c y)) ≡ cond b (cond (same_units y x) (holds v) (T c y)) (T c y)) [
  | true ↦ elim (same_units y x) as (λ b. cond b (holds v) (cond b (holds u) (T c y)) ≡ cond b (holds v) (T c y)) [
    | true ↦ refl
    | false ↦ refl
  ]
  | false ↦ refl
]

after_later : (H : Here) (T : Temps) (acc v : Option Value) → after H (after H T acc) v ≡ after H T (later v acc)
after_later H T acc None = refl
after_later H T None (Some v) = refl
after_later H T (Some u) (Some v) = fun_ext (λ c. fun_ext (λ y. held_last H.act result_name u v T c y))

-- the result stays held
has_after : {H : Here} {T : Temps} (acc : Option Value) → HasResult H T → HasResult H (after H T acc)
has_after None has = has
has_after {H = H} {T = T} (Some v) has =
    let here : nat_eq H.act H.act ≡ true = grind (arith, nat_tests) in
    record { value = v; is = ap (λ b. cond b (holds v) (T H.act result_name)) here }

-- a statement that came to its end leaves its value, or the one before it
next_own : (H : Here) (v acc : Option Value) (rest : c.Tree c.stmts) (w : World) → Source.act_plan H 2 (put 1 (Source.values_of (Source.normal v)) (Source.kept (last_of acc))) (Direct.on_own 0 (Direct.own_list rest H.around) (Source.shape_of (Source.normal v)) 1) w ≡ Source.own_list rest H (last_of (later v acc)) w
next_own H None acc rest w = refl
next_own H (Some v) acc rest w = refl

-- room is made in what is held of other names than temporaries
room_after : {H : Here} {T : Temps} {b q : ℕ} (acc : Option Value) → Room H T b q → Room H (after H T acc) b q
room_after None room = room
room_after {H = H} {T = T} (Some v) room = record { declared = λ i from to. other i (room.declared i from to); few = room.few }
  where
    either : (b : Bool) (q r : Slot) → q ≡ r → cond b q q ≡ r
    either true q r is = is
    either false q r is = is

    other : (i : ℕ) → T H.act (temp_name i) ≡ declared → hold H.act result_name v T H.act (temp_name i) ≡ declared
    other i is = either (nat_eq H.act H.act) (T H.act (temp_name i)) declared is

-- no jump leaves the module
no_target : false ≡ true → ⊥
no_target e = cc

pub own_match : {H : Here} {T : Temps} {d : ℕ} (law : Owns H d) (ss : c.Tree c.stmts) → Guest H.vars H.free c.stmts ss → Targets no_jumps [] c.stmts ss → (acc : Option Value) (acc' : Option EsValue) (rest' : t.Tree t.stmts) (a b k : ℕ) {w : World} {z : List Item} {n : ℕ} {g : Tags} {s : Store} {y : Kept} {m : ℕ} (end' : Cont') (next : Cont) (next' : Cont') → a < d → HasResult H T → Room H T b (temps c.stmts ss) → Rel H (after H T acc) k w z n g s y m → ListEnd H T a k w g s m end' next next' rest' → M H a (bind (Source.own_list ss H (last_of acc) w) next) z n (bind (Target.list true (joined (rewritten true c.stmts b ss) rest') acc' (env_of H) s end') next') y m
unfolding rewritten
own_match law c.no_stmts guest to acc acc' rest' a b k end' next next' lt has room r x = x.on a (omega arith) acc acc' _ _ _ _ _ _ _ r stays_refl
own_match {H = H} {T = T} law (c.more_stmts u ss) guest to acc acc' rest' a b k {w = w} {z = z} {n = n} {g = g} {s = s} {y = y} {m = m} end' next next' lt has room r x =
    (law b u guest.0).on {J = no_jumps} to.0 lt (has_after acc has) (room_after acc (room_part (omega arith) (omega arith) room)) r (record {
      finishes = record {
        on = λ a2 le v v' w1 z1 n1 g1 s1 y1 m1 r1 k1.
            subst (λ q. M H a2 (bind q next) z1 n1 (bind (Target.list true (joined (rewritten true c.stmts (b + temps c.stmt u) ss) rest') (Target.later v' acc') (env_of H) s1 end') next') y1 m1) (sym (next_own H v acc ss w1))
            (own_match law ss guest.1 to.1 (later v acc) (Target.later v' acc') rest' a2 (b + temps c.stmt u) k end' next next' (omega arith) has (room_part (omega arith) (omega arith) room) (subst (λ q. Rel H q k w1 z1 n1 g1 s1 y1 m1) (after_later H T acc v) (rel_less (omega arith) r1)) (list_end_since le k1 x));
        breaks = λ c le l out v w1 z1 n1 g1 s1 y1 m1 r1 k1. absurd (no_target out);
        continues = λ c le l out v w1 z1 n1 g1 s1 y1 m1 r1 k1. absurd (no_target out);
      };
      returns = λ out. absurd (no_target out);
      throws = record { on = λ c le v e w1 z1 n1 g1 s1 y1 m1 is r1 k1. (x.throws acc).on c le v e w1 z1 n1 g1 s1 y1 m1 is (rel_less (omega arith) r1) (stays_before k1) };
    })
