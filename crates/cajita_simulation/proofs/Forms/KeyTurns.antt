-- The turns of a loop over the keys of a new array: the direct side's key is a task, which meets the first step of a turn.
use Rattle.std.proofs.Common.{◌≡◌, ℕ, zero, suc, ◌+◌, ◌*◌, ◌≤◌, ◌<◌, Bool, true, false, List, [], ◌∷◌, length, Option, Some, None, cond, refl, sym, ap, ◌∙◌, subst, arith}
use Rattle.std.specs.Prelude.{codes, pos, slice_get, nat_eq, nat_lt, is_some}
use Rattle.std.proofs.lemmas.Bool.Decides.{nat_tests}
use Rattle.plans.specs.Plans.{bind, ends, enter}
use Rattle.acts.specs.Acts.{Places, put}
use Rattle.matching.proofs.Rules.{right_enter, both_enter, both_cut}
use Rattle.caja_units.specs.Units.{same_units}
use Rattle.es3_tree.specs.Tree as t
use Rattle.es3_tree.specs.declared.BinOp.TheVariants as bin
use Rattle.es3_objects.specs.declared.value.Value.TheVariants as es
use Rattle.es3_heap.specs.Objects.{Objects}
use Rattle.es3_language.specs.Store.{Store, name_value}
use Rattle.es3_language.specs.Expressions.{index_value, dot_value, binary_right, step_plan}
use Rattle.es3_language.specs.Statements as Es
use Rattle.es3_language.specs.Meaning as Target
use Rattle.rows.specs.Guards as guards
use Rattle.cajita_tree.specs.Tree as c
use Rattle.cajita_rewrite.specs.Rewrite.{temp, temp_name, runtime_call, pair, key_of}
use Rattle.cajita_meaning.specs.World as World
use Rattle.cajita_meaning.specs.World.{Value, text, World as State}
use Rattle.cajita_meaning.specs.Direct as Direct
use Rattle.cajita_meaning.specs.Direct.{Item}
use Rattle.row_simulation.specs.RowLaw.{IsList}
use Rattle.row_simulation.proofs.Tables.{tables}
use Rattle.page_natives.specs.Natives.{Kept}
use Rattle.cajita_simulation.proofs.Doing as Source
use Rattle.cajita_simulation.proofs.Heaps.Guards.{in_pub-guard}
use Rattle.cajita_simulation.proofs.Heaps.Keys.{item_law, size_law, less_law, next_law}
use Rattle.cajita_simulation.proofs.Relation.{EsValue, Val, Here, env_of, Tags, Temps, Slot, holds, keys, names_at, In, SlotIs, Rel, Stays, stays_trans, stays_step, stays_before, rel_less, rel_pay, rel_steps}
use Rattle.cajita_simulation.proofs.Slots.{slot_plan, slot_target}
use Rattle.cajita_simulation.proofs.Writes.{Covers, rel_covers}
use Rattle.cajita_simulation.proofs.Temporaries.{temp_hidden, temp_own, put_there, put_other, put_match, temp_holds}
use Rattle.cajita_simulation.proofs.Laws.{Jumps, in_loop, Targets, EffectLaw, bare, NextEffect, effect_from, still, Throws, Cont, Cont', M, Room, puts, steps_hold, right_assoc}
use Rattle.cajita_simulation.proofs.Calls.{callee_match}
use Rattle.cajita_simulation.proofs.Guarded.{guarded_on}
use Rattle.cajita_simulation.proofs.Forms.Has.{in_plain}
use Rattle.cajita_simulation.proofs.Forms.Logic.{decided_match}
use Rattle.cajita_simulation.proofs.Forms.Loop.{jumped, went_on}
use Rattle.cajita_simulation.proofs.Forms.Keys.{KeyLoop, turn_keys, key_plan, keys_is, body_is}

-- the three temporaries: the object, its keys, and the number of a key
abbrev pub held3 : ℕ → ℕ → Value → List (List ℕ) → ℕ → Temps → Temps
held3 act b o all i T = puts act (temp_name (b + 2)) (holds (World.number (pos i))) (puts act (temp_name (b + 1)) (keys all) (puts act (temp_name b) (holds o) T))

pub record Slots (H : Here) (s : Store) (b : ℕ) (o : Value) (all : List (List ℕ)) (i : ℕ) : Type 0 where
  pub value : EsValue
  pub zero_is : name_value (temp_name b) (names_at s H.act) ≡ Some value
  pub same : Val s.heap o value
  pub array : ℕ
  pub one_is : name_value (temp_name (b + 1)) (names_at s H.act) ≡ Some (es.Obj array)
  pub list : IsList s.heap all (es.Obj array)
  pub two_is : name_value (temp_name (b + 2)) (names_at s H.act) ≡ Some (es.Num (pos i))

number_is : (h : Objects) (i : ℕ) (e : EsValue) → Val h (World.number (pos i)) e → e ≡ es.Num (pos i)
number_is h i (es.Num a) p = ap (λ q. es.Num q) (sym p)
number_is h i _ p = absurd p

pub record ListAt (s : Store) (c : ℕ) (x : List ℕ) (all : List (List ℕ)) : Type 0 where
  pub array : ℕ
  pub is : name_value x (names_at s c) ≡ Some (es.Obj array)
  pub list : IsList s.heap all (es.Obj array)

list_at : (s : Store) (c : ℕ) (x : List ℕ) (all : List (List ℕ)) (e : EsValue) → name_value x (names_at s c) ≡ Some e → IsList s.heap all e → ListAt s c x all
list_at s c x all (es.Obj a) there is = record { array = a; is = there; list = is }
list_at s c x all _ there is = absurd is

pub slots_of : {H : Here} (T : Temps) (b : ℕ) (o : Value) (all : List (List ℕ)) (i : ℕ) {k : ℕ} {w : State} {z : List Item} {n : ℕ} {g : Tags} {s : Store} {y : Kept} {m : ℕ} → b + 3 < 18446744073709551616 → Rel H (held3 H.act b o all i T) k w z n g s y m → Slots H s b o all i
slots_of {H = H} T b o all i {s = s} few r =
    let U0 = puts H.act (temp_name b) (holds o) T in
    let U1 = puts H.act (temp_name (b + 1)) (keys all) U0 in
    let number = holds (World.number (pos i)) in
    let zero_slot = temp_holds b o (put_other H.act (b + 2) b number U1 (holds o) (λ e. omega (arith, e)) (omega (arith, few)) (omega (arith, few)) (put_other H.act (b + 1) b (keys all) U0 (holds o) (λ e. omega (arith, e)) (omega (arith, few)) (omega (arith, few)) (put_there H.act (temp_name b) (holds o) T))) r in
    let two_slot = temp_holds (b + 2) (World.number (pos i)) (put_there H.act (temp_name (b + 2)) number U1) r in
    let one_slot = subst (λ q. SlotIs s H.act (temp_name (b + 1)) q) (put_other H.act (b + 2) (b + 1) number U1 (keys all) (λ e. omega (arith, e)) (omega (arith, few)) (omega (arith, few)) (put_there H.act (temp_name (b + 1)) (keys all) U0)) (r.all.scopes.temps H.act (temp_name (b + 1)) (temp_hidden (b + 1))) in
    let listed = list_at s H.act (temp_name (b + 1)) all one_slot.0 one_slot.1 one_slot.2 in
    record {
      value = zero_slot.value;
      zero_is = zero_slot.there;
      same = zero_slot.same;
      array = listed.array;
      one_is = listed.is;
      list = listed.list;
      two_is = two_slot.there ∙ ap (λ (u : EsValue). let found : Option EsValue = Some u in found) (number_is s.heap i two_slot.value two_slot.same);
    }

-- a temporary is read
pub read_temp : (H : Here) (g : Tags) (s : Store) (i : ℕ) (e : EsValue) (go' : EsValue → Store → Target.Plan) (next' : Cont') {d : ℕ} {p : Source.Plan} {z : List Item} {n : ℕ} {y : Kept} {m : ℕ} → In H g s → name_value (temp_name i) (names_at s H.act) ≡ Some e → M H d p z n (bind (go' e s) next') y (suc m) → M H d p z n (enter (Target.value_of (temp i) (env_of H)) s (λ e1 s1. bind (Target.on_value_of go' e1 s1) next')) y m
read_temp H g s i e go' next' {d = d} {p = p} {z = z} {n = n} {y = y} {m = m} here there x =
    right_enter (subst (λ q. M H d p z n (bind q (λ e1 s1. bind (Target.on_value_of go' e1 s1) next')) y (suc m)) (sym (slot_plan (temp_name i) (env_of H) s H.act e (temp_own i) (here.temps (temp_name i) (temp_hidden i) (ap is_some there)) there)) x)

-- `x1___[x2___]`
pub item_steps : (H : Here) (g : Tags) (s : Store) (b : ℕ) (o : Value) (all : List (List ℕ)) (i : ℕ) (k : List ℕ) (K : Cont') {d : ℕ} {p : Source.Plan} {z : List Item} {n : ℕ} {y : Kept} {m : ℕ} → In H g s → Slots H s b o all i → i < 4294967295 → slice_get all i ≡ Some k → M H d p z n (K (Target.gave (es.Text k)) s) y (suc (suc m)) → M H d p z n (bind (Target.expr_plan (key_of b) (env_of H) s) K) y m
item_steps H g s b o all i k K {d = d} {p = p} {z = z} {n = n} {y = y} {m = m} here q few is x =
    read_temp H g s (b + 1) (es.Obj q.array) _ K here q.one_is
    (read_temp H g s (b + 2) (es.Num (pos i)) (index_value (env_of H) (es.Obj q.array)) K here q.two_is
    (subst (λ u. M H d p z n (bind u K) y (suc (suc m))) (sym (item_law all q.array i k (env_of H) s q.list few is)) x))

abbrev pub test_of : ℕ → t.Tree t.expr
test_of b = t.binary bin.Less (temp (b + 2)) (t.dot (temp (b + 1)) (codes "length"))

-- `x2___<x1___.length`
test_steps : (H : Here) (g : Tags) (s : Store) (b : ℕ) (o : Value) (all : List (List ℕ)) (i : ℕ) (K : Cont') {d : ℕ} {p : Source.Plan} {z : List Item} {n : ℕ} {y : Kept} {m : ℕ} → In H g s → Slots H s b o all i → M H d p z n (K (Target.gave (es.Bool (nat_lt i (length all)))) s) y (suc (suc (suc m))) → M H d p z n (bind (Target.expr_plan (test_of b) (env_of H) s) K) y m
test_steps H g s b o all i K {d = d} {p = p} {z = z} {n = n} {y = y} {m = m} here q x =
    read_temp H g s (b + 2) (es.Num (pos i)) _ K here q.two_is
    (right_enter (read_temp H g s (b + 1) (es.Obj q.array) (dot_value (codes "length") (env_of H)) (λ e1 s1. bind (Target.on_value_of (binary_right bin.Less (es.Num (pos i))) e1 s1) K) here q.one_is
    (subst (λ u. M H d p z n (bind u (λ e1 s1. bind (Target.on_value_of (binary_right bin.Less (es.Num (pos i))) e1 s1) K)) y (suc (suc (suc m)))) (sym (size_law all q.array (env_of H) s q.list))
    (subst (λ u. M H d p z n (bind u K) y (suc (suc (suc m)))) (sym (less_law i (length all) s)) x))))

-- where the key that is asked for stands, once it is known to be there
abbrev pub asked_at : Value → List ℕ → Value → Places Value
asked_at o k v = put 3 [] (put 2 (v ∷ []) (put 1 (text k ∷ []) (Source.kept (o ∷ []))))

-- the key is written to the target
pub record WriteLaw (H : Here) (T : Temps) (d b : ℕ) (L : KeyLoop) (all : List (List ℕ)) (written : t.Tree t.expr) : Type 0 where
  pub on : (i j : ℕ) (k : List ℕ) (ks : List (List ℕ)) (v : Value) {a : ℕ} {w : State} {z : List Item} {n : ℕ} {g : Tags} {s : Store} {y : Kept} {m : ℕ} (next : Cont) (K : Cont') → a < d → i < 4294967295 → slice_get all i ≡ Some k → Rel H (held3 H.act b L.object all i T) (30 + j) w z n g s y m → Throws H (held3 H.act b L.object all i T) a (12 + j) w g s m next K
      → ((c1 : ℕ) → c1 ≤ a → (p : ℕ) (at : Places Value) → at 0 ≡ L.object ∷ [] → (f : EsValue) (w1 : State) (z1 : List Item) (n1 : ℕ) (g1 : Tags) (s1 : Store) (y1 : Kept) (m1 : ℕ) → Rel H (held3 H.act b L.object all i T) (12 + j) w1 z1 n1 g1 s1 y1 m1 → Stays w g s m w1 g1 s1 m1 → M H c1 (bind (Source.act_plan H (suc p) at (Direct.key_body ks L.target L.body L.labels H.around 0) w1) next) z1 n1 (K (Target.gave f) s1) y1 m1)
      → M H a (bind (Source.act_plan H 4 (asked_at L.object k v) (Direct.key_written L.target H.around 1 (Direct.key_body ks L.target L.body L.labels H.around 0)) w) next) z n (bind (Target.expr_plan written (env_of H) s) K) y m

-- a loop over keys: what it needs of its parts
pub record LoopAt (J : Jumps) (H : Here) (T : Temps) (d : ℕ) : Type 0 where
  pub below : H.by < 64
  pub loop : KeyLoop
  pub written : t.Tree t.expr
  pub body : t.Tree t.stmt
  pub b : ℕ
  pub base : ℕ
  pub count : ℕ
  pub all : List (List ℕ)
  pub write : WriteLaw H T d b loop all written
  pub law : EffectLaw H d base count loop.body body
  pub to : Targets (in_loop loop.labels J) [] c.stmt loop.body
  pub few : b + 3 < 18446744073709551616
  pub small : length all < 4294967296
  pub covers : (i : ℕ) → Covers T (held3 H.act b loop.object all i T)
  pub room : (i : ℕ) → Room H (held3 H.act b loop.object all i T) base count

abbrev pub inner_of : t.Tree t.expr → t.Tree t.stmt → t.Tree t.stmt
inner_of written body = t.block (t.more_stmts (t.expression written) (t.more_stmts body t.no_stmts))

abbrev pub branch_of : ℕ → t.Tree t.expr → t.Tree t.stmt → t.Tree t.stmt
branch_of b written body = t.branch (runtime_call (codes "inPub") (pair (key_of b) (temp b))) (inner_of written body) t.no_stmt

abbrev pub loop_of : ℕ → t.Tree t.expr → t.Tree t.stmt → Target.Loop
loop_of b written body = record { test = t.some_expr (test_of b); update = t.some_expr (t.step true false (temp (b + 2))); body = t.block (t.more_stmts (branch_of b written body) t.no_stmts) }

-- the next turn, or the end
abbrev pub Turns : {J : Jumps} {H : Here} {T : Temps} {d : ℕ} (L : LoopAt J H T d) (ks : List (List ℕ)) (i a j : ℕ) (w0 : State) (g0 : Tags) (s0 : Store) (i0 : ℕ) (next : Cont) (next' : Cont') → Type 0
Turns {H = H} {T = T} L ks i a j w0 g0 s0 i0 next next' =
    (a' : ℕ) → a' ≤ a → (acc : Option EsValue) (w : State) (z : List Item) (n : ℕ) (g : Tags) (s : Store) (y : Kept) (m : ℕ) → Rel H (held3 H.act L.b L.loop.object L.all i T) (12 + j) w z n g s y m → Stays w0 g0 s0 i0 w g s m → M H a' (bind (turn_keys L.loop ks H w) next) z n (bind (enter (Target.again (loop_of L.b L.written L.body) acc L.loop.labels (env_of H)) s ends) next') y m

-- a key that is there: it is written, and the body follows
key_there : {J : Jumps} {H : Here} {T : Temps} {d : ℕ} (L : LoopAt J H T d) (k : List ℕ) (ks : List (List ℕ)) (v : Value) (i a j : ℕ) (acc : Option EsValue) {w0 : State} {g0 : Tags} {s0 : Store} {i0 : ℕ} {w : State} {z : List Item} {n : ℕ} {g : Tags} {s : Store} {y : Kept} {m : ℕ} (next : Cont) (next' : Cont') → a < d → i < 4294967295 → slice_get L.all i ≡ Some k → Rel H (held3 H.act L.b L.loop.object L.all i T) (34 + j) w z n g s y m → Stays w0 g0 s0 i0 w g s m → Turns L ks i a j w0 g0 s0 i0 next next' → NextEffect bare J H T a (suc j) w0 g0 s0 i0 next next'
    → M H a (bind (Source.act_plan H 4 (asked_at L.loop.object k v) (Direct.key_written L.loop.target H.around 1 (Direct.key_body ks L.loop.target L.loop.body L.loop.labels H.around 0)) w) next) z n (bind (enter (Target.effect_of (inner_of L.written L.body) [] (env_of H)) s ends) (λ e4 s4. bind (Target.on_each true None e4 s4 (λ a1 s5. Target.list true t.no_stmts a1 (env_of H) s5 ends) ends) (λ e5 s5. bind (Es.loop_next (loop_of L.b L.written L.body) acc L.loop.labels (env_of H) e5 s5) next'))) y m
key_there {J = J} {H = H} {T = T} L k ks v i a j acc {w0 = w0} {g0 = g0} {s0 = s0} {i0 = i0} {w = w} {z = z} {n = n} {g = g} {s = s} {y = y} {m = m} next next' lt small is r keep turns x =
    let ls = L.loop.labels in
    let loop = loop_of L.b L.written L.body in
    let S1 : Cont' = λ e4 s4. bind (Target.on_each true None e4 s4 (λ a1 s5. Target.list true t.no_stmts a1 (env_of H) s5 ends) ends) (λ e5 s5. bind (Es.loop_next loop acc ls (env_of H) e5 s5) next') in
    let S0 : Cont' = λ e3 s3. bind (Target.on_value_of Target.to_normal e3 s3) (λ e4 s4. bind (Target.on_each true None e4 s4 (λ a1 s5. Target.list true (t.more_stmts L.body t.no_stmts) a1 (env_of H) s5 ends) ends) S1) in
    right_enter (right_enter (right_enter (L.write.on i j k ks v next S0 lt small is (rel_steps {k = 30 + j} (omega arith) (omega (arith, r.all.steps)) r) (record { on = λ c1 le v1 e1 w1 z1 n1 g1 s1 y1 m1 is1 r1 k1. x.throws.on c1 le v1 e1 w1 z1 n1 g1 s1 y1 m1 is1 (rel_less (omega arith) (rel_covers (L.covers i) r1)) (stays_trans keep (stays_trans (stays_step (omega arith)) k1)) })
    (λ c1 le1 p at there f w1 z1 n1 g1 s1 y1 m1 r1 k1.
    let kept : Stays w0 g0 s0 i0 w1 g1 s1 m1 = stays_trans keep (stays_trans (stays_step (omega arith)) k1) in
    subst (λ q. M H c1 (bind q next) z1 n1 (S0 (Target.gave f) s1) y1 m1) (sym (body_is L.loop ks H p at w1 there))
    (L.law.on {J = in_loop ls J} [] L.to (omega (arith, lt, le1)) (L.room i) r1 (record {
      finishes = record {
        on = λ c3 le3 p1 u1 w2 z2 n2 g2 s2 y2 m2 r2 k2. turns c3 (omega (arith, le1, le3)) (Target.later (Target.later (Target.later u1 (Some f)) None) acc) w2 z2 n2 g2 s2 y2 m2 (rel_less (omega arith) r2) (stays_trans kept (stays_before k2));
        breaks = λ c3 le3 l out u1 w2 z2 n2 g2 s2 y2 m2 r2 k2. jumped H ls l acc (Target.later (Target.later u1 (Some f)) None) w2 s2 next next' (x.finishes.on c3 (omega (arith, le1, le3)) tt (Target.later (Target.later (Target.later u1 (Some f)) None) acc) w2 z2 n2 g2 s2 y2 m2 (rel_less (omega arith) (rel_covers (L.covers i) r2)) (stays_trans kept (stays_before k2))) (λ other. x.finishes.breaks c3 (omega (arith, le1, le3)) l (still (J.breaks l) (Source.is_to l ls) out other) (Target.later (Target.later u1 (Some f)) None) w2 z2 n2 g2 s2 y2 m2 (rel_less (omega arith) (rel_covers (L.covers i) r2)) (stays_trans kept (stays_before k2))) (λ v3. enter (Target.again loop v3 ls (env_of H)) s2 ends);
        continues = λ c3 le3 l out u1 w2 z2 n2 g2 s2 y2 m2 r2 k2. went_on H (turn_keys L.loop ks H w2) ls l acc (Target.later (Target.later u1 (Some f)) None) w2 s2 next next' (λ v3. enter (Target.again loop v3 ls (env_of H)) s2 ends) (turns c3 (omega (arith, le1, le3)) (Target.later (Target.later (Target.later u1 (Some f)) None) acc) w2 z2 n2 g2 s2 y2 m2 (rel_less (omega arith) r2) (stays_trans kept (stays_before k2))) (λ other. x.finishes.continues c3 (omega (arith, le1, le3)) l (still (J.continues l) (Source.is_to l ls) out other) (Target.later (Target.later u1 (Some f)) None) w2 z2 n2 g2 s2 y2 m2 (rel_less (omega arith) (rel_covers (L.covers i) r2)) (stays_trans kept (stays_before k2)));
      };
      returns = λ out. record { on = λ c3 le3 v3 f3 w2 z2 n2 g2 s2 y2 m2 is2 r2 k2. (x.returns out).on c3 (omega (arith, le1, le3)) v3 f3 w2 z2 n2 g2 s2 y2 m2 is2 (rel_less (omega arith) (rel_covers (L.covers i) r2)) (stays_trans kept (stays_before k2)) };
      throws = record { on = λ c3 le3 v3 f3 w2 z2 n2 g2 s2 y2 m2 is2 r2 k2. x.throws.on c3 (omega (arith, le1, le3)) v3 f3 w2 z2 n2 g2 s2 y2 m2 is2 (rel_less (omega arith) (rel_covers (L.covers i) r2)) (stays_trans kept (stays_before k2)) };
    }))))))

-- a turn: the key is asked for, written, and the body follows
turn_match : {J : Jumps} {H : Here} {T : Temps} {d : ℕ} (L : LoopAt J H T d) (k : List ℕ) (ks : List (List ℕ)) (i a j : ℕ) (acc : Option EsValue) {l : ℕ} {w : State} {z : List Item} {n : ℕ} {g : Tags} {s : Store} {y : Kept} {m : ℕ} (next : Cont) (next' : Cont') → a < d → i < 4294967295 → slice_get L.all i ≡ Some k → m + (60 + j) ≤ 64 * n → Rel H (held3 H.act L.b L.loop.object L.all i T) l w z n g s y m → Turns L ks i a j w g s m next next' → NextEffect bare J H T a (suc j) w g s m next next'
    → M H a (bind (key_plan L.loop k ks H w) next) z n (bind (Es.loop_body (loop_of L.b L.written L.body) acc L.loop.labels (env_of H) s) next') y m
turn_match {J = J} {H = H} {T = T} {d = d} L k ks i a j acc {w = w} {z = z} {n = n} {g = g} {s = s} {y = y} {m = m} next next' lt small is enough r turns x =
    let o = L.loop.object in
    let T3 = held3 H.act L.b o L.all i T in
    let loop = loop_of L.b L.written L.body in
    let q = slots_of T L.b o L.all i L.few r in
    let at1 = put 1 (text k ∷ []) (Source.kept (o ∷ [])) in
    let written = Direct.key_written L.loop.target H.around 1 (Direct.key_body ks L.loop.target L.loop.body L.loop.labels H.around 0) in
    let others = Direct.turn_keys ks L.loop.target L.loop.body L.loop.labels H.around 0 in
    let R2 : Cont' = λ e5 s5. bind (Es.loop_next loop acc L.loop.labels (env_of H) e5 s5) next' in
    let R1 : Cont' = λ e4 s4. bind (Target.on_each true None e4 s4 (λ a1 s5. Target.list true t.no_stmts a1 (env_of H) s5 ends) ends) R2 in
    let R0 : Cont' = λ e3 s3. bind (Target.on_value_of (Es.branch_side (inner_of L.written L.body) t.no_stmt (env_of H)) e3 s3) R1 in
    let r9 = rel_steps {k = suc (34 + j)} {m' = suc (suc (suc (suc (suc (suc (suc (suc (suc m))))))))} (omega arith) (omega (arith, enough)) r in
    right_enter (right_enter (right_enter (callee_match {k = 27} (codes "inPub") (pair (key_of L.b) (temp L.b)) R0 (rel_steps {k = 29} {m' = suc (suc (suc m))} (omega arith) (omega (arith, enough)) r) (λ r1.
    right_enter (item_steps H g s L.b o L.all i k _ r.here q small is
    (read_temp H g s L.b q.value _ R0 r.here q.zero_is
    (guarded_on {T = T3} {k = 34 + j} {j = suc j} {i = m} L.below in_pub-guard guards.in_pub tables.in_pub in_plain (text k ∷ o ∷ []) (es.Text k ∷ q.value ∷ []) (Source.answered H 2 at1 (Direct.or_throw (λ h. Direct.decide h written others))) (λ v w1. Source.act_plan H 3 (put 2 (v ∷ []) at1) (Direct.decide 2 written others) w1) next R0 (record { plan = refl; kept = refl }) (record { value = λ v w. refl; thrown = λ v w. refl }) (refl, (q.same, tt)) r9 (omega arith) (omega arith)
    (record { on = λ c1 le v f w1 z1 n1 g1 s1 y1 m1 is1 r1 k1. x.throws.on c1 le v f w1 z1 n1 g1 s1 y1 m1 is1 (rel_covers (L.covers i) r1) k1 })
    (λ y1 v e w1 z1 s1 is1 r1 k1.
    decided_match 2 3 (put 2 (v ∷ []) at1) written others (enter (Target.effect_of (inner_of L.written L.body) [] (env_of H)) s1 ends) (ends (Target.normal None) s1) e next R1 is1 r1
    (key_there L k ks v i a j acc next next' lt small is r1 (stays_trans (stays_step (omega arith)) k1) turns x)
    (subst (λ u. M H a (bind u next) z1 n (R1 (Target.normal None) s1) y1 (suc (suc (suc (suc (suc (suc (suc (suc (suc (suc m))))))))))) (sym (keys_is L.loop ks H 4 0 (put 3 [] (put 2 (v ∷ []) at1)) w1 refl))
    (turns a (omega arith) acc w1 z1 n g s1 y1 _ (rel_less (omega arith) r1) (stays_trans (stays_step (omega arith)) k1)))))))))))

-- the counter goes on

puts_twice : (c : ℕ) (x : List ℕ) (q p : Slot) (U : Temps) → Covers (puts c x q U) (puts c x q (puts c x p U))
puts_twice c x q p U = record { covers = λ s n y hidden is. one s n y is }
  where
    one : (s : Store) (n : ℕ) (y : List ℕ) → SlotIs s n y (puts c x q (puts c x p U) n y) → SlotIs s n y (puts c x q U n y)
    one s n y is =
        let cases = elim (nat_eq n c) as (λ b. SlotIs s n y (cond b (cond (same_units y x) q (cond b (cond (same_units y x) p (U n y)) (U n y))) (cond b (cond (same_units y x) p (U n y)) (U n y))) → SlotIs s n y (cond b (cond (same_units y x) q (U n y)) (U n y))) [
          | false ↦ λ u. u
          | true ↦ elim (same_units y x) as (λ e. SlotIs s n y (cond e q (cond e p (U n y))) → SlotIs s n y (cond e q (U n y))) [
            | true ↦ λ u. u
            | false ↦ λ u. u
          ]
        ] in cases is

step_match : {J : Jumps} {H : Here} {T : Temps} {d d0 : ℕ} (L : LoopAt J H T d0) (i k : ℕ) (acc : Option EsValue) {p : Source.Plan} {w : State} {z : List Item} {n : ℕ} {g : Tags} {s : Store} {y : Kept} {m : ℕ} (next' : Cont') → i < 4294967296 → Rel H (held3 H.act L.b L.loop.object L.all i T) (suc k) w z n g s y m
    → ((s1 : Store) → Rel H (held3 H.act L.b L.loop.object L.all (suc i) T) k w z n g s1 y (suc m) → Stays w g s m w g s1 (suc m) → M H d p z n (bind (Es.at_test (loop_of L.b L.written L.body) acc L.loop.labels (env_of H) s1) next') y (suc m))
    → M H d p z n (bind (Target.again_plan (loop_of L.b L.written L.body) acc L.loop.labels (env_of H) s) next') y m
step_match {H = H} {T = T} {d = d} L i k acc {p = p} {z = z} {n = n} {s = s} {y = y} {m = m} next' small r f =
    let U = puts H.act (temp_name (L.b + 1)) (keys L.all) (puts H.act (temp_name L.b) (holds L.loop.object) T) in
    let q = slots_of T L.b L.loop.object L.all i L.few r in
    let x = temp_name (L.b + 2) in
    let loop = loop_of L.b L.written L.body in
    let K : Cont' = λ e1 s1. bind (Target.on_value_of (Es.after_update loop acc L.loop.labels (env_of H)) e1 s1) next' in
    right_assoc H (Target.expr_plan (t.step true false (temp (L.b + 2))) (env_of H) s) (Target.on_value_of (Es.after_update loop acc L.loop.labels (env_of H))) next'
    (right_enter (subst (λ u. M H d p z n (bind u (λ e1 s1. bind (Target.on_target_of (step_plan true false (env_of H)) e1 s1) K)) y (suc m)) (sym (slot_target x (env_of H) s H.act (temp_own (L.b + 2)) (r.here.temps x (temp_hidden (L.b + 2)) (ap is_some q.two_is))))
    (subst (λ u. M H d p z n (bind u K) y (suc m)) (sym (next_law i H.act x (env_of H) s small q.two_is))
    (put_match (L.b + 2) (holds (World.number (pos (suc i)))) (es.Num (pos (suc i))) (es.Num (pos i)) (es.Num (pos i)) K q.two_is refl (rel_pay r) (λ s1 r1 k1.
    f s1 (rel_covers (puts_twice H.act x (holds (World.number (pos (suc i)))) (holds (World.number (pos i))) U) r1) (stays_trans (stays_step (omega arith)) k1))))))

-- what is left of the keys, from a place on
pub record Rest (all ks : List (List ℕ)) (i : ℕ) : Type 0 where
  pub each : (j : ℕ) → slice_get ks j ≡ slice_get all (i + j)
  pub long : length all ≡ i + length ks

rest_tail : (all : List (List ℕ)) (k : List ℕ) (ks : List (List ℕ)) (i : ℕ) → Rest all (k ∷ ks) i → Rest all ks (suc i)
rest_tail all k ks i r = record { each = λ j. r.each (suc j) ∙ ap (λ q. slice_get all q) (omega arith); long = omega (arith, r.long) }

rest_first : (all : List (List ℕ)) (k : List ℕ) (ks : List (List ℕ)) (i : ℕ) → Rest all (k ∷ ks) i → slice_get all i ≡ Some k
rest_first all k ks i r = ap (λ q. slice_get all q) (omega arith) ∙ sym (r.each 0)

-- the test tells whether a key is left
no_more : (all : List (List ℕ)) (i : ℕ) → Rest all [] i → nat_lt i (length all) ≡ false
no_more all i r = let e = r.long in grind (arith, nat_tests, e)

one_more : (all : List (List ℕ)) (k : List ℕ) (ks : List (List ℕ)) (i : ℕ) → Rest all (k ∷ ks) i → nat_lt i (length all) ≡ true
one_more all k ks i r = let e = r.long in grind (arith, nat_tests, e)

tested : {J : Jumps} {H : Here} {T : Temps} {d d0 : ℕ} (L : LoopAt J H T d0) (i : ℕ) (b : Bool) (acc : Option EsValue) {l : ℕ} {p : Source.Plan} {w : State} {z : List Item} {n : ℕ} {g : Tags} {s : Store} {y : Kept} {m m0 : ℕ} (next' : Cont') → nat_lt i (length L.all) ≡ b → Rel H (held3 H.act L.b L.loop.object L.all i T) l w z n g s y m0
    → M H d p z n (bind (cond b (Es.loop_body (loop_of L.b L.written L.body) acc L.loop.labels (env_of H) s) (ends (Target.normal acc) s)) next') y (suc (suc (suc m)))
    → M H d p z n (bind (Target.expr_plan (test_of L.b) (env_of H) s) (λ e1 s1. bind (Target.on_value_of (Es.loop_test (loop_of L.b L.written L.body) acc L.loop.labels (env_of H)) e1 s1) next')) y m
tested {H = H} {T = T} {d = d} L i b acc {p = p} {z = z} {n = n} {g = g} {s = s} {y = y} {m = m} next' is r x =
    let loop = loop_of L.b L.written L.body in
    test_steps H g s L.b L.loop.object L.all i (λ e1 s1. bind (Target.on_value_of (Es.loop_test loop acc L.loop.labels (env_of H)) e1 s1) next') r.here (slots_of T L.b L.loop.object L.all i L.few r)
    (subst (λ q. M H d p z n (bind (cond q (Es.loop_body loop acc L.loop.labels (env_of H) s) (ends (Target.normal acc) s)) next') y (suc (suc (suc m)))) (sym is) x)

-- a later turn where a key is left: the key's task meets the turn's
key_turn : {J : Jumps} {H : Here} {T : Temps} {d : ℕ} (L : LoopAt J H T d) (k : List ℕ) (ks : List (List ℕ)) (i a j : ℕ) (w0 : State) (g0 : Tags) (s0 : Store) (i0 : ℕ) (next : Cont) (next' : Cont') → a < d → suc i < 4294967295 → Rest L.all (k ∷ ks) (suc i) → NextEffect bare J H T a (suc j) w0 g0 s0 i0 next next' → ((a1 : ℕ) → a1 < d → (w1 : State) (g1 : Tags) (s1 : Store) (m1 : ℕ) → NextEffect bare J H T a1 (suc j) w1 g1 s1 m1 next next' → Turns L ks (suc i) a1 j w1 g1 s1 m1 next next')
    → (a' : ℕ) → a' ≤ a → (acc : Option EsValue) (w : State) (z : List Item) (n : ℕ) (g : Tags) (s : Store) (y : Kept) (m : ℕ) → Rel H (held3 H.act L.b L.loop.object L.all i T) (12 + j) w z n g s y m → Stays w0 g0 s0 i0 w g s m → M H a' (bind (turn_keys L.loop (k ∷ ks) H w) next) z n (bind (enter (Target.again (loop_of L.b L.written L.body) acc L.loop.labels (env_of H)) s ends) next') y m
key_turn L k ks i a j w0 g0 s0 i0 next next' lt small rest x later zero le acc w z n g s y m r keep = both_cut (steps_hold r) r.all.items
key_turn {H = H} {T = T} L k ks i a j w0 g0 s0 i0 next next' lt small rest x later (suc a1) le acc w z n g s y m r keep =
    both_enter (step_match L i (70 + j) acc next' (omega (arith, small)) (rel_steps {k = suc (70 + j)} {n' = suc n} {m' = suc m} (omega arith) (omega (arith, r.all.steps)) r) (λ s1 r1 k1.
    right_enter (tested L (suc i) true acc next' (one_more L.all k ks (suc i) rest) r1
    (let kept = stays_trans keep (stays_trans (stays_step (omega arith)) (stays_trans k1 (stays_step (omega arith)))) in
    let y1 = effect_from {d = a} {c = a1} {j = suc j} {k = suc j} (omega (arith, le)) (omega arith) kept x in
    turn_match L k ks (suc i) a1 j acc next next' (omega (arith, lt, le)) small (rest_first L.all k ks (suc i) rest) (omega (arith, r1.all.steps)) (rel_steps {k = 0} (omega arith) (omega (arith, r1.all.steps)) r1) (later a1 (omega (arith, lt, le)) w g s1 _ y1) y1))))

-- all later turns
keys_turns : {J : Jumps} {H : Here} {T : Temps} {d : ℕ} (L : LoopAt J H T d) (ks : List (List ℕ)) (i a j : ℕ) (w0 : State) (g0 : Tags) (s0 : Store) (i0 : ℕ) (next : Cont) (next' : Cont') → a < d → i < 4294967295 → Rest L.all ks (suc i) → NextEffect bare J H T a (suc j) w0 g0 s0 i0 next next' → Turns L ks i a j w0 g0 s0 i0 next next'
keys_turns L [] i a j w0 g0 s0 i0 next next' lt small rest x = λ a' le acc w z n g s y m r keep.
    right_enter (step_match L i (9 + j) acc next' (omega (arith, small)) (rel_steps {k = suc (9 + j)} {m' = suc m} (omega arith) (omega (arith, r.all.steps)) r) (λ s1 r1 k1.
    right_enter (tested L (suc i) false acc next' (no_more L.all (suc i) rest) r1
    (x.finishes.on a' le tt acc _ _ _ _ _ _ _ (rel_steps {k = suc j} (omega arith) (omega (arith, r1.all.steps)) (rel_covers (L.covers (suc i)) r1)) (stays_trans keep (stays_trans (stays_step (omega arith)) (stays_trans k1 (stays_step (omega arith)))))))))
keys_turns L (k ∷ ks) i a j w0 g0 s0 i0 next next' lt small rest x =
    let few = L.small in
    let long = rest.long in
    key_turn L k ks i a j w0 g0 s0 i0 next next' lt (omega (arith, few, long)) rest x (λ a1 lt1 w1 g1 s1 m1 y1. keys_turns L ks (suc i) a1 j w1 g1 s1 m1 next next' lt1 (omega (arith, few, long)) (rest_tail L.all k ks (suc i) rest) y1)

rest_all : {all ks : List (List ℕ)} → all ≡ ks → Rest all ks 0
rest_all {all = all} {ks = ks} is = record { each = λ q. ap (λ l. slice_get l q) (sym is) ∙ ap (λ l. slice_get all l) (omega arith); long = let e = ap length is in omega (arith, e) }

-- from the first test on
pub keys_match : {J : Jumps} {H : Here} {T : Temps} {d : ℕ} (L : LoopAt J H T d) (ks : List (List ℕ)) (a j : ℕ) {w : State} {z : List Item} {n : ℕ} {g : Tags} {s : Store} {y : Kept} {m : ℕ} (next : Cont) (next' : Cont') → a < d → L.all ≡ ks → Rel H (held3 H.act L.b L.loop.object L.all 0 T) (12 + j) w z n g s y m → NextEffect bare J H T a (suc j) w g s m next next'
    → M H a (bind (turn_keys L.loop ks H w) next) z n (bind (Es.at_test (loop_of L.b L.written L.body) None L.loop.labels (env_of H) s) next') y m
keys_match L [] a j {m = m} next next' lt is r x =
    right_enter (tested L 0 false None next' (no_more L.all 0 (rest_all is)) r
    (x.finishes.on a (omega arith) tt None _ _ _ _ _ _ _ (rel_steps {k = suc j} (omega arith) (omega (arith, r.all.steps)) (rel_covers (L.covers 0) r)) (stays_step (omega arith))))
keys_match L (k ∷ ks) zero j next next' lt is r x = both_cut (steps_hold r) r.all.items
keys_match {H = H} {T = T} L (k ∷ ks) (suc a1) j {w = w} {z = z} {n = n} {g = g} {s = s} {y = y} {m = m} next next' lt is r x =
    let small = L.small in
    let e = ap length is in
    let r1 = rel_steps {k = 63 + j} {n' = suc n} {m' = suc m} (omega arith) (omega (arith, r.all.steps)) r in
    both_enter (tested L 0 true None next' (one_more L.all k ks 0 (rest_all is)) r1
    (let y1 = effect_from {d = suc a1} {c = a1} {j = suc j} {k = suc j} (omega arith) (omega arith) (stays_step (omega arith)) x in
    turn_match L k ks 0 a1 j None next next' (omega (arith, lt)) (omega arith) (rest_first L.all k ks 0 (rest_all is)) (omega (arith, r.all.steps)) (rel_steps {k = 0} (omega arith) (omega (arith, r.all.steps)) r1) (keys_turns L ks 0 a1 j w g s _ next next' (omega (arith, lt)) (omega arith) (rest_tail L.all k ks 0 (rest_all is)) y1) y1))
