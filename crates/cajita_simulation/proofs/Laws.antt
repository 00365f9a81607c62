-- How forms are matched: what goes on after a part, and the law of a part.
use Rattle.std.proofs.Common.{◌≡◌, ℕ, zero, suc, ◌+◌, ◌*◌, ◌≤◌, ◌<◌, Bool, true, false, List, [], ◌∷◌, ◌++◌, Option, Some, None, cond, refl, sym, ap, ◌∙◌, subst, arith}
use Rattle.std.specs.Prelude.{nat_eq, ◌||◌}
use Rattle.std.proofs.lemmas.List.{append-nil, append_assoc}
use Rattle.plans.specs.Plans.{enter, bind}
use Rattle.plans.proofs.Laws.{bind_assoc}
use Rattle.matching.specs.Unlimited.{Grows}
use Rattle.matching.specs.Sides.{Sides, Match}
use Rattle.matching.proofs.Rules.{both_cut, both_enter}
use Rattle.caja_units.specs.Units.{same_units}
use Rattle.es3_tree.specs.Tree as t
use Rattle.es3_language.specs.Store.{Store}
use Rattle.es3_language.specs.Natives.{Touched}
use Rattle.es3_language.specs.Meaning as Target
use Rattle.es3_language.specs.Meaning.{es3}
use Rattle.cajita_tree.specs.Tree as c
use Rattle.rows.specs.Nodes.{Rules}
use Rattle.cajita_rewrite.specs.Rewrite.{result_name, temp_name}
use Rattle.cajita_meaning.specs.World.{Value, World}
use Rattle.cajita_meaning.specs.Direct.{Item, direct}
use Rattle.heap_rows.specs.Doing.{heard}
use Rattle.row_simulation.specs.RowLaw.{shown}
use Rattle.page_log.specs.Items.{touch_told}
use Rattle.page_natives.specs.Natives.{Kept, page_table}
pub use Rattle.cajita_simulation.specs.Alike.{most_steps}
use Rattle.cajita_simulation.specs.Alike.{heard_by, IsPrefix}
pub use Rattle.cajita_simulation.specs.Jumps.{Jumps, no_jumps, all_jumps, in_loop, in_switch, in_label, Targets}
use Rattle.cajita_simulation.specs.Sides.{Ends, Stops, Outs, Begins, Affords}
use Rattle.cajita_simulation.proofs.Doing as Source
use Rattle.cajita_simulation.proofs.Told.{TellsMore, as_before, tells_after, tells_more, told_grows, heard_more}
use Rattle.cajita_simulation.proofs.Relation.{RelAt, EsValue, Val, Turn, Here, env_of, Tags, Temps, Slot, declared, holds, Rel, Stays, stays_refl, stays_trans, stays_step, stays_before, more, rel_less, rel_both}

pub prefix_refl : {A : Type 0} (xs : List A) → IsPrefix xs xs
prefix_refl xs = record { rest = []; is = sym (append-nil xs) }

pub prefix_trans : {A : Type 0} (xs ys zs : List A) → IsPrefix xs ys → IsPrefix ys zs → IsPrefix xs zs
prefix_trans xs ys zs p q = record { rest = p.rest ++ q.rest; is = q.is ∙ ap (λ l. l ++ q.rest) p.is ∙ append_assoc xs p.rest q.rest }

abbrev pub direct_grows : (rules : Rules) → Grows (direct rules) IsPrefix
direct_grows rules = record { same = prefix_refl; more = prefix_trans; note = λ i z. record { rest = i ∷ []; is = refl }; kept = λ t w z. prefix_refl z }

-- what natives tell only grows
pub target_kept : (t : Target.Task) (s : Store) (y : Kept) → TellsMore y (Target.task_state page_table t s y)
target_kept (Target.native_call w this vs env) s y = told_grows w env.by this vs s.heap y
target_kept t s y = as_before y

abbrev pub target_grows : Grows (es3 page_table) TellsMore
target_grows = record { same = as_before; more = tells_after; note = λ i y. tells_more (touch_told i ∷ []) y; kept = target_kept }

-- the same is told on both sides, so one is the beginning of the other
pub begins_there : (z : List Item) (y : Kept) → heard_by y z ≡ y.told → Begins y z
begins_there z y e = record { rest = []; is = e ∙ sym (append-nil y.told) }

pub ends_there : (rules : Rules) (t : Turn) (e : Source.Completion) (x : World) (z : List Item) (n : ℕ) (e' : Target.Completion) (x' : Store) (y : Kept) (n' : ℕ) → Ends rules t e x z n e' x' y n' → Begins y z
ends_there rules t (Source.gave v) x z n e' x' y n' p = begins_there z y p.1.1.items
ends_there rules t (Source.threw v) x z n (Target.threw u) x' y n' p = begins_there z y p.1.1.items
ends_there rules t _ x z n _ x' y n' p = absurd p

pub begins_still : (a' b' : Kept) (a b : List Item) → TellsMore a' b' → Begins b' a → IsPrefix a b → Begins a' b
begins_still a' b' a b p q r =
    let grown : heard_by b' b ≡ heard_by b' a ++ heard_by b' r.rest = ap (heard_by b') r.is ∙ heard_more b' a r.rest in
    let begun : IsPrefix a'.told (heard_by b' b) = prefix_trans a'.told b'.told _ (record { rest = p.more; is = p.told }) (prefix_trans b'.told (heard_by b' a) _ q (record { rest = heard_by b' r.rest; is = grown })) in
    subst (λ t. IsPrefix a'.told (heard t (shown b))) p.touching begun

abbrev pub sides : Rules → Turn → Sides Source.Task Source.Completion World Item (List Item) Target.Task Target.Completion Store Touched Kept
sides rules turn = record {
  left = direct rules;
  right = es3 page_table;
  Longer = IsPrefix;
  grows = direct_grows rules;
  Longer' = TellsMore;
  grows' = target_grows;
  Affords = Affords;
  affords_more = λ n k m le few. omega (arith, le, few);
  most = most_steps;
  Ends = Ends rules turn;
  Stops = Stops;
  Outs = Outs;
  Begins = Begins;
  ends_begin = ends_there rules turn;
  stops_begin = λ f x z f' x' z' p. begins_there z z' p.2;
  outs_begin = λ z z' p. begins_there z z' p;
  begins_more = begins_still;
}

-- the two plans, with what is kept and counted
abbrev pub M : Here → ℕ → Source.Plan → List Item → ℕ → Target.Plan → Kept → ℕ → Type 0
M H d p z n q y m = Match (sides H.rules H.turn) d p z n q y m

abbrev pub Cont : Type 0
Cont = Source.Completion → World → Source.Plan

abbrev pub Cont' : Type 0
Cont' = Target.Completion → Store → Target.Plan

-- so many temporaries from the number b on are declared, whatever they hold
pub record Room (H : Here) (T : Temps) (b q : ℕ) : Type 0 where
  pub declared : (i : ℕ) → b ≤ i → i < b + q → T H.act (temp_name i) ≡ declared
  pub few : b + q < 18446744073709551616

pub room_part : {H : Here} {T : Temps} {b q c u : ℕ} → b ≤ c → c + u ≤ b + q → Room H T b q → Room H T c u
room_part le less room = record { declared = λ i from to. room.declared i (omega (arith, le, from)) (omega (arith, less, to)); few = omega (arith, room.few, less) }

-- both go on alike after a throw, with k steps in hand
pub record ThrowsAt (form : Bool) (H : Here) (T : Temps) (d k : ℕ) (w0 : World) (g0 : Tags) (s0 : Store) (i : ℕ) (next : Cont) (next' : Cont') : Type 0 where
  pub on : (c : ℕ) → c ≤ d → (v : Value) (e : EsValue) (w : World) (z : List Item) (n : ℕ) (g : Tags) (s : Store) (y : Kept) (m : ℕ) → Val s.heap v e → RelAt form H T k w z n g s y m → Stays w0 g0 s0 i w g s m → M H c (next (Source.threw v) w) z n (next' (Target.threw e) s) y m

abbrev pub Throws : Here → Temps → ℕ → ℕ → World → Tags → Store → ℕ → Cont → Cont' → Type 0
Throws H T d k w g s i next next' = ThrowsAt true H T d k w g s i next next'

-- the same after a value
pub record GivesAt (form : Bool) (H : Here) (T : Temps) (d k : ℕ) (w0 : World) (g0 : Tags) (s0 : Store) (i : ℕ) (next : Cont) (next' : Cont') : Type 0 where
  pub on : (c : ℕ) → c ≤ d → (v : Value) (e : EsValue) (w : World) (z : List Item) (n : ℕ) (g : Tags) (s : Store) (y : Kept) (m : ℕ) → Val s.heap v e → RelAt form H T k w z n g s y m → Stays w0 g0 s0 i w g s m → M H c (next (Source.gave v) w) z n (next' (Target.gave e) s) y m

abbrev pub Gives : Here → Temps → ℕ → ℕ → World → Tags → Store → ℕ → Cont → Cont' → Type 0
Gives H T d k w g s i next next' = GivesAt true H T d k w g s i next next'

-- this is known of a hidden name of a scope; that it holds a value
abbrev pub puts : ℕ → List ℕ → Slot → Temps → Temps
puts act x q T c y = cond (nat_eq c act) (cond (same_units y x) q (T c y)) (T c y)

abbrev pub hold : ℕ → List ℕ → Value → Temps → Temps
hold act x v T = puts act x (holds v) T

-- what a statement leaves in the module's result
abbrev pub after : Here → Temps → Option Value → Temps
after H T None = T
after H T (Some v) = hold H.act result_name v T

-- the module's result is held in the activation, whatever it is
pub record HasResult (H : Here) (T : Temps) : Type 0 where
  pub value : Value
  pub is : T H.act result_name ≡ holds value

-- the same after a `return`
pub record Returns (H : Here) (T : Temps) (d k : ℕ) (w0 : World) (g0 : Tags) (s0 : Store) (i : ℕ) (next : Cont) (next' : Cont') : Type 0 where
  pub on : (c : ℕ) → c ≤ d → (v : Value) (e : EsValue) (w : World) (z : List Item) (n : ℕ) (g : Tags) (s : Store) (y : Kept) (m : ℕ) → Val s.heap v e → Rel H T k w z n g s y m → Stays w0 g0 s0 i w g s m → M H c (next (Source.returned v) w) z n (next' (Target.returned e) s) y m

-- how a statement stands: directly in the module, whose result then is the value that the statement has; within another statement; or it is one that
-- has no value, wherever it stands
pub data Standing : Type 0 where
  own nested bare : Standing

-- what it leaves where it comes to its end
abbrev pub Leaves : Standing → Type 0
Leaves own = Option Value
Leaves nested = Option Value
Leaves bare = Unit {0}

abbrev pub value_left : (u : Standing) → Leaves u → Option Value
value_left own v = v
value_left nested v = v
value_left bare v = None

abbrev pub left : (u : Standing) → Here → Temps → Leaves u → Temps
left own H T v = after H T v
left nested H T v = T
left bare H T v = T

-- the same after a statement that came to its end, and after a jump, whatever value the interpreter takes along
pub record Finishes (u : Standing) (J : Jumps) (H : Here) (T : Temps) (d k : ℕ) (w0 : World) (g0 : Tags) (s0 : Store) (i : ℕ) (next : Cont) (next' : Cont') : Type 0 where
  pub on : (c : ℕ) → c ≤ d → (a : Leaves u) (b : Option EsValue) (w : World) (z : List Item) (n : ℕ) (g : Tags) (s : Store) (y : Kept) (m : ℕ) → Rel H (left u H T a) k w z n g s y m → Stays w0 g0 s0 i w g s m → M H c (next (Source.normal (value_left u a)) w) z n (next' (Target.normal b) s) y m
  pub breaks : (c : ℕ) → c ≤ d → (l : Option (List ℕ)) → J.breaks l ≡ true → (b : Option EsValue) (w : World) (z : List Item) (n : ℕ) (g : Tags) (s : Store) (y : Kept) (m : ℕ) → Rel H T k w z n g s y m → Stays w0 g0 s0 i w g s m → M H c (next (Source.broke l) w) z n (next' (Target.broke l b) s) y m
  pub continues : (c : ℕ) → c ≤ d → (l : Option (List ℕ)) → J.continues l ≡ true → (b : Option EsValue) (w : World) (z : List Item) (n : ℕ) (g : Tags) (s : Store) (y : Kept) (m : ℕ) → Rel H T k w z n g s y m → Stays w0 g0 s0 i w g s m → M H c (next (Source.continued l) w) z n (next' (Target.continued l b) s) y m

-- what goes on after an expression, and after a statement
pub record NextAt (form : Bool) (H : Here) (T : Temps) (d k : ℕ) (w0 : World) (g0 : Tags) (s0 : Store) (i : ℕ) (next : Cont) (next' : Cont') : Type 0 where
  pub gives : GivesAt form H T d k w0 g0 s0 i next next'
  pub throws : ThrowsAt form H T d k w0 g0 s0 i next next'

abbrev pub NextValue : Here → Temps → ℕ → ℕ → World → Tags → Store → ℕ → Cont → Cont' → Type 0
NextValue H T d k w g s i next next' = NextAt true H T d k w g s i next next'

pub record NextEffect (u : Standing) (J : Jumps) (H : Here) (T : Temps) (d k : ℕ) (w0 : World) (g0 : Tags) (s0 : Store) (i : ℕ) (next : Cont) (next' : Cont') : Type 0 where
  pub finishes : Finishes u J H T d k w0 g0 s0 i next next'
  pub returns : J.returns ≡ true → Returns H T d k w0 g0 s0 i next next'
  pub throws : Throws H T d k w0 g0 s0 i next next'

pub throws_from : {form : Bool} {H : Here} {T : Temps} {d c j k : ℕ} {w w' : World} {g g' : Tags} {s s' : Store} {i l : ℕ} {next : Cont} {next' : Cont'} → c ≤ d → j ≤ k → Stays w g s i w' g' s' l → ThrowsAt form H T d j w g s i next next' → ThrowsAt form H T c k w' g' s' l next next'
throws_from le less keep x = record { on = λ c' le' v e w z n g s y m is r k. x.on c' (omega arith) v e w z n g s y m is (rel_less less r) (stays_trans keep k) }

pub returns_from : {H : Here} {T : Temps} {d c j k : ℕ} {w w' : World} {g g' : Tags} {s s' : Store} {i l : ℕ} {next : Cont} {next' : Cont'} → c ≤ d → j ≤ k → Stays w g s i w' g' s' l → Returns H T d j w g s i next next' → Returns H T c k w' g' s' l next next'
returns_from le less keep x = record { on = λ c' le' v e w z n g s y m is r k. x.on c' (omega arith) v e w z n g s y m is (rel_less less r) (stays_trans keep k) }

pub gives_from : {form : Bool} {H : Here} {T : Temps} {d c j k : ℕ} {w w' : World} {g g' : Tags} {s s' : Store} {i l : ℕ} {next : Cont} {next' : Cont'} → c ≤ d → j ≤ k → Stays w g s i w' g' s' l → GivesAt form H T d j w g s i next next' → GivesAt form H T c k w' g' s' l next next'
gives_from le less keep x = record { on = λ c' le' v e w z n g s y m is r k. x.on c' (omega arith) v e w z n g s y m is (rel_less less r) (stays_trans keep k) }

pub value_from : {form : Bool} {H : Here} {T : Temps} {d c j k : ℕ} {w w' : World} {g g' : Tags} {s s' : Store} {i l : ℕ} {next : Cont} {next' : Cont'} → c ≤ d → j ≤ k → Stays w g s i w' g' s' l → NextAt form H T d j w g s i next next' → NextAt form H T c k w' g' s' l next next'
value_from le less keep x = record { gives = gives_from le less keep x.gives; throws = throws_from le less keep x.throws }

-- the same later, with as many steps in hand
pub value_since : {form : Bool} {H : Here} {T : Temps} {d c k : ℕ} {w w' : World} {g g' : Tags} {s s' : Store} {i l : ℕ} {next : Cont} {next' : Cont'} → c ≤ d → Stays w g s (suc i) w' g' s' l → NextAt form H T d k w g s i next next' → NextAt form H T c k w' g' s' l next next'
value_since {k = k} le keep x = value_from {j = k} {k = k} le (omega arith) (stays_before keep) x

pub finishes_from : {u : Standing} {J : Jumps} {H : Here} {T : Temps} {d c j k : ℕ} {w w' : World} {g g' : Tags} {s s' : Store} {i l : ℕ} {next : Cont} {next' : Cont'} → c ≤ d → j ≤ k → Stays w g s i w' g' s' l → Finishes u J H T d j w g s i next next' → Finishes u J H T c k w' g' s' l next next'
finishes_from le less keep x = record {
  on = λ c' le' a b w z n g s y m r k. x.on c' (omega arith) a b w z n g s y m (rel_less less r) (stays_trans keep k);
  breaks = λ c' le' l to b w z n g s y m r k. x.breaks c' (omega arith) l to b w z n g s y m (rel_less less r) (stays_trans keep k);
  continues = λ c' le' l to b w z n g s y m r k. x.continues c' (omega arith) l to b w z n g s y m (rel_less less r) (stays_trans keep k);
}

pub effect_from : {u : Standing} {J : Jumps} {H : Here} {T : Temps} {d c j k : ℕ} {w w' : World} {g g' : Tags} {s s' : Store} {i l : ℕ} {next : Cont} {next' : Cont'} → c ≤ d → j ≤ k → Stays w g s i w' g' s' l → NextEffect u J H T d j w g s i next next' → NextEffect u J H T c k w' g' s' l next next'
effect_from le less keep x = record { finishes = finishes_from le less keep x.finishes; returns = λ to. returns_from le less keep (x.returns to); throws = throws_from le less keep x.throws }

pub effect_since : {u : Standing} {J : Jumps} {H : Here} {T : Temps} {d c k : ℕ} {w w' : World} {g g' : Tags} {s s' : Store} {i l : ℕ} {next : Cont} {next' : Cont'} → c ≤ d → Stays w g s (suc i) w' g' s' l → NextEffect u J H T d k w g s i next next' → NextEffect u J H T c k w' g' s' l next next'
effect_since {k = k} le keep x = effect_from {j = k} {k = k} le (omega arith) (stays_before keep) x

-- a jump to none of some labels still has its target around them
pub still : (a b : Bool) → (a || b) ≡ true → b ≡ false → a ≡ true
still true b e f = refl
still false b e f = cc

-- a statement that has no value is followed alike within another one and directly in the module

pub nested_bare : {J : Jumps} {H : Here} {T : Temps} {d k : ℕ} {w : World} {g : Tags} {s : Store} {i : ℕ} {next : Cont} {next' : Cont'} → NextEffect nested J H T d k w g s i next next' → NextEffect bare J H T d k w g s i next next'
nested_bare x = record {
  finishes = record { on = λ c le a b w z n g s y m r k. x.finishes.on c le None b w z n g s y m r k; breaks = x.finishes.breaks; continues = x.finishes.continues };
  returns = x.returns;
  throws = x.throws;
}

pub own_bare : {J : Jumps} {H : Here} {T : Temps} {d k : ℕ} {w : World} {g : Tags} {s : Store} {i : ℕ} {next : Cont} {next' : Cont'} → NextEffect own J H T d k w g s i next next' → NextEffect bare J H T d k w g s i next next'
own_bare x = record {
  finishes = record { on = λ c le a b w z n g s y m r k. x.finishes.on c le None b w z n g s y m r k; breaks = x.finishes.breaks; continues = x.finishes.continues };
  returns = x.returns;
  throws = x.throws;
}

-- the law of an expression with fewer than d tasks, which has q temporaries from the number b on: from k steps in hand to one more
pub record ValueLaw (H : Here) (d b q : ℕ) (e : c.Tree c.expr) (e' : t.Tree t.expr) : Type 0 where
  pub on : {T : Temps} {a k : ℕ} {w : World} {z : List Item} {n : ℕ} {g : Tags} {s : Store} {y : Kept} {m : ℕ} {next : Cont} {next' : Cont'} → a < d → Room H T b q → Rel H T k w z n g s y m → NextValue H T a (suc k) w g s (suc m) next next' → M H a (enter (Source.value_of e H) w next) z n (enter (Target.value_of e' (env_of H)) s next') y m

-- that of a statement within another one, with the labels before it; and that of one that stands directly in the module, whose result has a value
pub record EffectLaw (H : Here) (d b q : ℕ) (x : c.Tree c.stmt) (x' : t.Tree t.stmt) : Type 0 where
  pub on : {J : Jumps} {T : Temps} {a k : ℕ} {w : World} {z : List Item} {n : ℕ} {g : Tags} {s : Store} {y : Kept} {m : ℕ} {next : Cont} {next' : Cont'} (ls : List (List ℕ)) → Targets J ls c.stmt x → a < d → Room H T b q → Rel H T k w z n g s y m → NextEffect nested J H T a (suc k) w g s (suc m) next next' → M H a (enter (Source.effect_of x ls H) w next) z n (enter (Target.effect_of x' ls (env_of H)) s next') y m

pub record OwnLaw (H : Here) (d b q : ℕ) (x : c.Tree c.stmt) (x' : t.Tree t.stmt) : Type 0 where
  pub on : {J : Jumps} {T : Temps} {a k : ℕ} {w : World} {z : List Item} {n : ℕ} {g : Tags} {s : Store} {y : Kept} {m : ℕ} {next : Cont} {next' : Cont'} → Targets J [] c.stmt x → a < d → HasResult H T → Room H T b q → Rel H T k w z n g s y m → NextEffect own J H T a (suc k) w g s (suc m) next next' → M H a (enter (Source.effect_of x [] H) w next) z n (enter (Target.effect_of x' [] (env_of H)) s next') y m

-- the law of its plan, once both have entered; forty more steps are in hand
pub record ValueBody (H : Here) (d b q : ℕ) (e : c.Tree c.expr) (e' : t.Tree t.expr) : Type 0 where
  pub on : {T : Temps} {a k : ℕ} {w : World} {z : List Item} {n : ℕ} {g : Tags} {s : Store} {y : Kept} {m : ℕ} {next : Cont} {next' : Cont'} → a < d → Room H T b q → Rel H T (more k) w z n g s y m → NextValue H T a (suc k) w g s m next next' → M H a (bind (Source.expr_plan e H w) next) z n (bind (Target.expr_plan e' (env_of H) s) next') y m

pub record EffectBody (H : Here) (d b q : ℕ) (x : c.Tree c.stmt) (x' : t.Tree t.stmt) : Type 0 where
  pub on : {J : Jumps} {T : Temps} {a k : ℕ} {w : World} {z : List Item} {n : ℕ} {g : Tags} {s : Store} {y : Kept} {m : ℕ} {next : Cont} {next' : Cont'} (ls : List (List ℕ)) → Targets J ls c.stmt x → a < d → Room H T b q → Rel H T (more k) w z n g s y m → NextEffect nested J H T a (suc k) w g s m next next' → M H a (bind (Source.stmt_plan x ls H w) next) z n (bind (Target.stmt_plan x' ls (env_of H) s) next') y m

-- the same of a statement that both have entered, where fewer than d tasks were left before
pub record EffectEntered (H : Here) (d b q : ℕ) (x : c.Tree c.stmt) (x' : t.Tree t.stmt) : Type 0 where
  pub on : {J : Jumps} {T : Temps} {a k : ℕ} {w : World} {z : List Item} {n : ℕ} {g : Tags} {s : Store} {y : Kept} {m : ℕ} {next : Cont} {next' : Cont'} (ls : List (List ℕ)) → Targets J ls c.stmt x → suc a < d → Room H T b q → Rel H T (more k) w z n g s y m → NextEffect nested J H T a (suc k) w g s m next next' → M H a (bind (Source.stmt_plan x ls H w) next) z n (bind (Target.stmt_plan x' ls (env_of H) s) next') y m

pub record OwnBody (H : Here) (d b q : ℕ) (x : c.Tree c.stmt) (x' : t.Tree t.stmt) : Type 0 where
  pub on : {J : Jumps} {T : Temps} {a k : ℕ} {w : World} {z : List Item} {n : ℕ} {g : Tags} {s : Store} {y : Kept} {m : ℕ} {next : Cont} {next' : Cont'} → Targets J [] c.stmt x → a < d → HasResult H T → Room H T b q → Rel H T (more k) w z n g s y m → NextEffect own J H T a (suc k) w g s m next next' → M H a (bind (Source.stmt_plan x [] H w) next) z n (bind (Target.stmt_plan x' [] (env_of H) s) next') y m

-- that of a statement that has no value, from which the two others follow
pub record BareBody (H : Here) (d b q : ℕ) (x : c.Tree c.stmt) (x' : t.Tree t.stmt) : Type 0 where
  pub on : {J : Jumps} {T : Temps} {a k : ℕ} {w : World} {z : List Item} {n : ℕ} {g : Tags} {s : Store} {y : Kept} {m : ℕ} {next : Cont} {next' : Cont'} (ls : List (List ℕ)) → Targets J ls c.stmt x → a < d → Room H T b q → Rel H T (more k) w z n g s y m → NextEffect bare J H T a (suc k) w g s m next next' → M H a (bind (Source.stmt_plan x ls H w) next) z n (bind (Target.stmt_plan x' ls (env_of H) s) next') y m

pub bare_effect : {H : Here} {d b q : ℕ} {x : c.Tree c.stmt} {x' : t.Tree t.stmt} → BareBody H d b q x x' → EffectBody H d b q x x'
bare_effect go = record { on = λ ls to lt room r y. go.on ls to lt room r (nested_bare y) }

pub bare_own : {H : Here} {d b q : ℕ} {x : c.Tree c.stmt} {x' : t.Tree t.stmt} → BareBody H d b q x x' → OwnBody H d b q x x'
bare_own go = record { on = λ to lt has room r y. go.on [] to lt room r (own_bare y) }

pub steps_hold : {form : Bool} {H : Here} {T : Temps} {k : ℕ} {w : World} {z : List Item} {n : ℕ} {g : Tags} {s : Store} {y : Kept} {m : ℕ} → RelAt form H T k w z n g s y m → m ≤ 64 * n
steps_hold r = omega (arith, r.all.steps)

value_at : {H : Here} {d b q : ℕ} {e : c.Tree c.expr} {e' : t.Tree t.expr} (go : ValueBody H d b q e e') {T : Temps} (a k : ℕ) {w : World} {z : List Item} {n : ℕ} {g : Tags} {s : Store} {y : Kept} {m : ℕ} {next : Cont} {next' : Cont'} → a < suc d → Room H T b q → Rel H T k w z n g s y m → NextValue H T a (suc k) w g s (suc m) next next' → M H a (enter (Source.value_of e H) w next) z n (enter (Target.value_of e' (env_of H)) s next') y m
value_at go zero k lt room r x = both_cut (steps_hold r) r.all.items
value_at go (suc a) k lt room r x = both_enter (go.on (omega arith) room (rel_both r) (value_from (omega arith) (omega arith) stays_refl x))

pub value_law : {H : Here} {d b q : ℕ} {e : c.Tree c.expr} {e' : t.Tree t.expr} → ValueBody H d b q e e' → ValueLaw H (suc d) b q e e'
value_law go = record { on = λ lt room r x. value_at go _ _ lt room r x }

effect_at : {H : Here} {d b q : ℕ} {u : c.Tree c.stmt} {u' : t.Tree t.stmt} (go : EffectBody H d b q u u') {J : Jumps} {T : Temps} (a k : ℕ) {w : World} {z : List Item} {n : ℕ} {g : Tags} {s : Store} {y : Kept} {m : ℕ} {next : Cont} {next' : Cont'} (ls : List (List ℕ)) → Targets J ls c.stmt u → a < suc d → Room H T b q → Rel H T k w z n g s y m → NextEffect nested J H T a (suc k) w g s (suc m) next next' → M H a (enter (Source.effect_of u ls H) w next) z n (enter (Target.effect_of u' ls (env_of H)) s next') y m
effect_at go zero k ls to lt room r x = both_cut (steps_hold r) r.all.items
effect_at go (suc a) k ls to lt room r x = both_enter (go.on ls to (omega arith) room (rel_both r) (effect_from (omega arith) (omega arith) stays_refl x))

pub effect_law : {H : Here} {d b q : ℕ} {u : c.Tree c.stmt} {u' : t.Tree t.stmt} → EffectBody H d b q u u' → EffectLaw H (suc d) b q u u'
effect_law go = record { on = λ ls to lt room r x. effect_at go _ _ ls to lt room r x }

pub effect_entered : {H : Here} {d b q : ℕ} {u : c.Tree c.stmt} {u' : t.Tree t.stmt} → EffectBody H d b q u u' → EffectEntered H (suc d) b q u u'
effect_entered go = record { on = λ ls to lt room r x. go.on ls to (omega arith) room r x }

own_at : {H : Here} {d b q : ℕ} {u : c.Tree c.stmt} {u' : t.Tree t.stmt} (go : OwnBody H d b q u u') {J : Jumps} {T : Temps} (a k : ℕ) {w : World} {z : List Item} {n : ℕ} {g : Tags} {s : Store} {y : Kept} {m : ℕ} {next : Cont} {next' : Cont'} → Targets J [] c.stmt u → a < suc d → HasResult H T → Room H T b q → Rel H T k w z n g s y m → NextEffect own J H T a (suc k) w g s (suc m) next next' → M H a (enter (Source.effect_of u [] H) w next) z n (enter (Target.effect_of u' [] (env_of H)) s next') y m
own_at go zero k to lt has room r x = both_cut (steps_hold r) r.all.items
own_at go (suc a) k to lt has room r x = both_enter (go.on to (omega arith) has room (rel_both r) (effect_from (omega arith) (omega arith) stays_refl x))

pub own_law : {H : Here} {d b q : ℕ} {u : c.Tree c.stmt} {u' : t.Tree t.stmt} → OwnBody H d b q u u' → OwnLaw H (suc d) b q u u'
own_law go = record { on = λ to lt has room r x. own_at go _ _ to lt has room r x }

pub value_zero : {H : Here} {b q : ℕ} {e : c.Tree c.expr} {e' : t.Tree t.expr} → ValueLaw H 0 b q e e'
value_zero = record { on = λ lt room r x. absurd (omega arith) }

pub effect_zero : {H : Here} {b q : ℕ} {u : c.Tree c.stmt} {u' : t.Tree t.stmt} → EffectLaw H 0 b q u u'
effect_zero = record { on = λ ls to lt room r x. absurd (omega arith) }

pub entered_zero : {H : Here} {b q : ℕ} {u : c.Tree c.stmt} {u' : t.Tree t.stmt} → EffectEntered H 0 b q u u'
entered_zero = record { on = λ ls to lt room r x. absurd (omega arith) }

pub own_zero : {H : Here} {b q : ℕ} {u : c.Tree c.stmt} {u' : t.Tree t.stmt} → OwnLaw H 0 b q u u'
own_zero = record { on = λ to lt has room r x. absurd (omega arith) }

-- ends

pub give : {H : Here} {T : Temps} {d j k : ℕ} {v : Value} {e : EsValue} {w : World} {z : List Item} {n : ℕ} {g : Tags} {s : Store} {y : Kept} {i m : ℕ} {next : Cont} {next' : Cont'} → j ≤ k → i ≤ m → NextValue H T d j w g s i next next' → Val s.heap v e → Rel H T k w z n g s y m → M H d (next (Source.gave v) w) z n (next' (Target.gave e) s) y m
give le more x v r = x.gives.on _ (omega arith) _ _ _ _ _ _ _ _ _ v (rel_less le r) (stays_step more)

pub throw : {H : Here} {T : Temps} {d j k : ℕ} {v : Value} {e : EsValue} {w : World} {z : List Item} {n : ℕ} {g : Tags} {s : Store} {y : Kept} {i m : ℕ} {next : Cont} {next' : Cont'} → j ≤ k → i ≤ m → Throws H T d j w g s i next next' → Val s.heap v e → Rel H T k w z n g s y m → M H d (next (Source.threw v) w) z n (next' (Target.threw e) s) y m
throw le more x v r = x.on _ (omega arith) _ _ _ _ _ _ _ _ _ v (rel_less le r) (stays_step more)

-- a part's value, and then the rest of the form; a throw goes to what waits by itself
pub with_part : {H : Here} {T : Temps} {d a b q j k i : ℕ} {e : c.Tree c.expr} {e' : t.Tree t.expr} {w : World} {z : List Item} {n : ℕ} {g : Tags} {s : Store} {y : Kept} {m : ℕ} {next : Cont} {next' : Cont'} {go : Value → World → Source.Plan} {go' : EsValue → Store → Target.Plan} → a < d → Room H T b q → j ≤ suc k → i ≤ suc m → ValueLaw H d b q e e' → Rel H T k w z n g s y m → Throws H T a j w g s i next next' → ((c : ℕ) → c ≤ a → (v : Value) (u : EsValue) (w' : World) (z' : List Item) (n' : ℕ) (g' : Tags) (s' : Store) (y' : Kept) (m' : ℕ) → Val s'.heap v u → Rel H T (suc k) w' z' n' g' s' y' m' → Stays w g s (suc m) w' g' s' m' → M H c (bind (go v w') next) z' n' (bind (go' u s') next') y' m') → M H a (enter (Source.value_of e H) w (λ e w'. bind (Source.on_value_of go e w') next)) z n (enter (Target.value_of e' (env_of H)) s (λ e s'. bind (Target.on_value_of go' e s') next')) y m
with_part lt room less few law r x f = law.on lt room r (record {
  gives = record { on = λ b le v u w z n g s y m is r1 keep. f b le v u w z n g s y m is r1 keep };
  throws = record { on = λ b le v u w z n g s y m is r1 keep. x.on b le v u w z n g s y m is (rel_less less r1) (stays_trans (stays_step few) keep) };
})

-- steps in hand, for what is left of a form
abbrev pub ten : ℕ → ℕ
ten k = suc (suc (suc (suc (suc (suc (suc (suc (suc (suc k)))))))))

-- a plan within a plan

pub left_assoc : (H : Here) (p : Source.Plan) (j next : Cont) {d : ℕ} {z : List Item} {n : ℕ} {q : Target.Plan} {y : Kept} {m : ℕ} → M H d (bind p (λ e w. bind (j e w) next)) z n q y m → M H d (bind (bind p j) next) z n q y m
left_assoc H p j next {d = d} {z = z} {n = n} {q = q} {y = y} {m = m} x = subst (λ l. M H d l z n q y m) (sym (bind_assoc p j next)) x

pub right_assoc : (H : Here) (p : Target.Plan) (j next : Cont') {d : ℕ} {q : Source.Plan} {z : List Item} {n : ℕ} {y : Kept} {m : ℕ} → M H d q z n (bind p (λ e s. bind (j e s) next)) y m → M H d q z n (bind (bind p j) next) y m
right_assoc H p j next {d = d} {q = q} {z = z} {n = n} {y = y} {m = m} x = subst (λ l. M H d q z n l y m) (sym (bind_assoc p j next)) x
