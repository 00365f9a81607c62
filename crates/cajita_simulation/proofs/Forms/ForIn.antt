-- `for (x in e)`: `for(x0___=e,x1___=___.keysPub(x0___),x2___=0;..)`, whose turns write each key that is still there to the target.
use Rattle.std.proofs.Common.{◌≡◌, ℕ, suc, ◌+◌, ◌≤◌, ◌<◌, true, false, List, [], ◌∷◌, ◌++◌, length, Option, Some, None, cond, refl, sym, subst, arith}
use Rattle.std.specs.Prelude.{codes, pos, nat_lt}
use Rattle.std.proofs.lemmas.Bool.Decides.{nat_tests}
use Rattle.plans.specs.Plans.{bind}
use Rattle.acts.specs.Acts.{put, replied}
use Rattle.matching.proofs.Rules.{right_enter, both_stop}
use Rattle.es3_tree.specs.Tree as t
use Rattle.es3_objects.specs.declared.value.Value.TheVariants as es
use Rattle.es3_language.specs.Store.{Store}
use Rattle.es3_language.specs.References.{slot}
use Rattle.es3_language.specs.Natives.{Reply, value_reply, throw_reply, stop_reply}
use Rattle.es3_language.specs.Expressions.{assign_to, assign_value, comma_right}
use Rattle.es3_language.specs.Statements as Es
use Rattle.es3_language.specs.Meaning as Target
use Rattle.rows.specs.Rows as r
use Rattle.rows.specs.Public.{pub_keys}
use Rattle.rows.specs.Guards as guards
use Rattle.cajita_tree.specs.Tree as c
use Rattle.cajita_rewrite.specs.Rewrite.{rewritten, temps, temp, temp_name, set_temp, runtime_call, single, triple, key_of, keys_loop}
use Rattle.cajita_meaning.specs.World as World
use Rattle.cajita_meaning.specs.World.{Value, text, World as State}
use Rattle.cajita_meaning.specs.Doing as direct
use Rattle.cajita_meaning.specs.Asking.{bad, keys as key_list, outcome_reply}
use Rattle.cajita_meaning.specs.Direct as Direct
use Rattle.cajita_meaning.specs.Direct.{Item}
use Rattle.heap_rows.specs.Opening.{runtime_id, empty_page}
use Rattle.row_simulation.specs.RowLaw.{IsList, ReplyIs}
use Rattle.row_simulation.proofs.Tables.{tables}
use Rattle.page_natives.specs.Natives.{Kept, page_table}
use Rattle.cajita_simulation.specs.Alike.{GuestFault}
use Rattle.cajita_simulation.specs.Guest.{GuestName, Guest}
use Rattle.cajita_simulation.proofs.Doing as Source
use Rattle.cajita_simulation.proofs.Heaps.Guards.{set_pub-guard, keys_pub-guard}
use Rattle.cajita_simulation.proofs.Relation.{EsValue, Val, Here, env_of, Tags, Temps, declared, holds, keys, Rel, Stays, val_keep, stays_trans, stays_step, rel_less, rel_steps}
use Rattle.cajita_simulation.proofs.Slots.{slot_target}
use Rattle.cajita_simulation.proofs.Written.{slot_written}
use Rattle.cajita_simulation.proofs.Writes.{find, rel_assigned, stays_assigned, rel_shared, stays_shared, Covers, rel_covers, covers_trans, put_covers}
use Rattle.cajita_simulation.proofs.Temporaries.{put_other, put_match, temp_at, temp_read, hold_there}
use Rattle.cajita_simulation.proofs.Laws.{ValueLaw, EffectLaw, BareBody, effect_from, throws_from, Cont, Cont', M, Room, puts, hold, with_part, room_part, steps_hold}
use Rattle.cajita_simulation.proofs.Calls.{callee_match, guard_match}
use Rattle.cajita_simulation.proofs.Rows.{Going, row_on}
use Rattle.cajita_simulation.proofs.Guarded.{asks, guarded_on}
use Rattle.cajita_simulation.proofs.Forms.Values.{Values}
use Rattle.cajita_simulation.proofs.Forms.Key.{key_match}
use Rattle.cajita_simulation.proofs.Forms.Put.{set_plain}
use Rattle.cajita_simulation.proofs.Forms.Assign.{found_shared}
use Rattle.cajita_simulation.proofs.Forms.Member.{set_enter, set_match}
use Rattle.cajita_simulation.proofs.Forms.Keys.{KeyLoop, keys_is}
use Rattle.cajita_simulation.proofs.Forms.KeyTurns.{held3, slots_of, item_steps, asked_at, WriteLaw, loop_of, keys_match}

-- the row of keysPub gives a new array of the keys, or throws

abbrev pub ListsOnly : direct.Outcome → Type 0
ListsOnly (direct.lists ks) = length ks < 4294967296
ListsOnly (direct.throws v) = Unit {0}
ListsOnly (direct.stops f) = GuestFault f
ListsOnly e = ⊥

lists_end : (o : Option (List (List ℕ))) (by : ℕ) (s : direct.Held) (w : State) (z : List Item) → ListsOnly (direct.finish by (guards.list_end o) s w z).outcome
lists_end None by s w z = tt
lists_end (Some ks) by s w z =
    let cases = elim (nat_lt (length ks) r.most_items) as (λ b. nat_lt (length ks) r.most_items ≡ b → ListsOnly (cond b (record { outcome = direct.lists ks; world = w; items = z }) (direct.too_long w z)).outcome) [
      | true ↦ λ is. grind (arith, nat_tests)
      | false ↦ λ is. tt
    ] in cases refl

keys_lists : (by : ℕ) (s : direct.Held) (w : State) → ListsOnly (direct.does by guards.keys_pub s w []).outcome
keys_lists by s w =
    let o = r.held 0 in
    let seen = direct.see w (length s.values) (direct.value_of s.values o) in
    let after = direct.and_seen s (direct.way_into s o) seen.values in
    lists_end (pub_keys seen.sight) by after w ([] ++ direct.touching by r.to_keys (direct.way_of after o) (direct.value_of after.values o) [])

keys_goes : {H : Here} {T : Temps} {d k : ℕ} {w0 : State} {n : ℕ} {g : Tags} {s0 : Store} {m : ℕ} (go : Going) (next : Cont) (next' : Cont') (e : direct.Outcome) → ListsOnly e
    → ((y : Kept) (ks : List (List ℕ)) (f : EsValue) (w : State) (z : List Item) (s : Store) → length ks < 4294967296 → IsList s.heap ks f → Rel H T k w z n g s y (suc m) → Stays w0 g s0 m w g s (suc m) → M H d (bind (go (key_list ks) [] w) next) z n (next' (Target.gave f) s) y (suc m))
    → ((y : Kept) (v : Value) (f : EsValue) (w : State) (z : List Item) (s : Store) → Val s.heap v f → Rel H T k w z n g s y (suc m) → Stays w0 g s0 m w g s (suc m) → M H d (bind (go bad (v ∷ []) w) next) z n (next' (Target.threw f) s) y (suc m))
    → (y : Kept) (b : Reply) (w : State) (z : List Item) (s : Store) → ReplyIs s.heap e b → Rel H T k w z n g s y (suc m) → Stays w0 g s0 m w g s (suc m) → M H d (bind (replied (outcome_reply H.around.calls H.by e w) go) next) z n (bind (Target.reply_plan b (env_of H) s) next') y (suc m)
keys_goes go next next' (direct.lists ks) few f t y (value_reply e) w z s is r k = f y ks e w z s few is r k
keys_goes go next next' (direct.throws v) few f t y (throw_reply e) w z s is r k = t y v e w z s is r k
keys_goes go next next' (direct.stops v) few f t y (stop_reply e) w z s is r k = both_stop (steps_hold r) (is, few, r.all.items)
keys_goes go next next' (direct.gives v) few f t y b w z s is r k = absurd few
keys_goes go next next' (direct.calls recorded q u vs) few f t y b w z s is r k = absurd few
keys_goes go next next' _ few f t y _ w z s is r k = absurd is

keys_row : {H : Here} {T : Temps} {d k : ℕ} → H.by < 64 → (o : Value) (e : EsValue) {w : State} {z : List Item} {n : ℕ} {g : Tags} {s : Store} {y : Kept} {m : ℕ} (go : Going) (next : Cont) (next' : Cont') → suc m ≤ 4294967295 → Val s.heap o e → Rel H T (suc k) w z n g s y m
    → ((y : Kept) (ks : List (List ℕ)) (f : EsValue) (w' : State) (z' : List Item) (s' : Store) → length ks < 4294967296 → IsList s'.heap ks f → Rel H T k w' z' n g s' y (suc m) → Stays w g s m w' g s' (suc m) → M H d (bind (go (key_list ks) [] w') next) z' n (next' (Target.gave f) s') y (suc m))
    → ((y : Kept) (v : Value) (f : EsValue) (w' : State) (z' : List Item) (s' : Store) → Val s'.heap v f → Rel H T k w' z' n g s' y (suc m) → Stays w g s m w' g s' (suc m) → M H d (bind (go bad (v ∷ []) w') next) z' n (next' (Target.threw f) s') y (suc m))
    → M H d (bind (asks H guards.keys_pub (o ∷ []) w go) next) z n (bind (Target.task_plan page_table (Target.native_call 75 (es.Obj runtime_id) (e ∷ []) (env_of H)) s y) next') (Target.task_state page_table (Target.native_call 75 (es.Obj runtime_id) (e ∷ []) (env_of H)) s y) (suc m)
keys_row {H = H} below o e {w = w} go next next' few is r f t =
    row_on below guards.keys_pub tables.keys_pub (λ s. tt) (o ∷ []) (e ∷ []) empty_page go next next' few (is, tt) r (record { on = λ {y = y1} b w' z' s' p r1 k1. keys_goes go next next' (direct.does H.by guards.keys_pub (direct.given (o ∷ [])) w []).outcome (keys_lists H.by (direct.given (o ∷ [])) w) f t y1 b w' z' s' p r1 k1 })

-- the key is written to a variable
variable_write : {H : Here} {T : Temps} {d b : ℕ} (x : List ℕ) (body : c.Tree c.stmt) (ls : List (List ℕ)) (o : Value) (all : List (List ℕ)) → b + 3 < 18446744073709551616 → H.vars x ≡ true → H.free x ≡ true → GuestName x → WriteLaw H T d b (record { target = c.variable x; body = body; labels = ls; object = o }) all (t.assign None (t.name x) (key_of b))
variable_write {H = H} {T = T} {b = b} x body ls o all few known may guest = record {
  on = λ i j k ks v {a = a} {w = w} {z = z} {n = n} {g = g} {s = s} {y = y} {m = m} next K lt small is r throws go.
      let q = slots_of T b o all i few r in
      let p = r.here.captured.names x known in
      let L : KeyLoop = record { target = c.variable x; body = body; labels = ls; object = o } in
      let left = bind (Source.act_plan H 5 (put 4 [] (asked_at o k v)) (Direct.key_body ks (c.variable x) body ls H.around 0) (Source.assign H x (text k) w)) next in
      let r5 = rel_steps {k = 12 + j} {m' = suc (suc (suc (suc m)))} (omega arith) (omega (arith, r.all.steps)) r in
      let shared = rel_shared p.scope x (es.Text k) r5 in
      let kept = stays_shared p.scope x (es.Text k) r5 in
      let found = find x p.scope (found_shared x p.scope p.at r5 shared kept) guest shared in
      right_enter (subst (λ u. M H a left z n (bind u (λ e1 s1. bind (Target.on_target_of (assign_to (key_of b) (env_of H)) e1 s1) K)) y (suc m)) (sym (slot_target x (env_of H) s p.scope guest.own_name p.at))
      (right_enter (item_steps H g s b o all i k (λ e1 s1. bind (Target.on_value_of (assign_value (slot p.scope x) (env_of H)) e1 s1) K) r.here q small is
      (subst (λ s2. M H a left z n (K (Target.gave (es.Text k)) s2) y (suc (suc (suc (suc m))))) (sym (slot_written s p.scope x (es.Text k) (p.written may)))
      (go a (omega arith) 4 (put 4 [] (asked_at o k v)) refl (es.Text k) _ _ _ _ _ _ _ (rel_assigned x p.scope (text k) (es.Text k) guest found refl shared) (stays_trans (stays_step (omega arith)) (stays_trans kept (stays_assigned H x p.scope (text k) (es.Text k) found.value found.there))))))));
}

-- the key is written to a member
member_write : {H : Here} {T : Temps} {d b bo qo : ℕ} {e : c.Tree c.expr} {e' : t.Tree t.expr} (law : Values H d) (key : c.Tree c.key) → Guest H.vars H.free c.key key → (body : c.Tree c.stmt) (ls : List (List ℕ)) (o : Value) (all : List (List ℕ)) → b + 3 < 18446744073709551616 → H.by < 64 → ValueLaw H d bo qo e e' → ((i : ℕ) → Room H (held3 H.act b o all i T) bo qo) → ((i : ℕ) → Room H (held3 H.act b o all i T) (bo + qo) (temps c.key key))
    → WriteLaw H T d b (record { target = c.member e key; body = body; labels = ls; object = o }) all (runtime_call (codes "setPub") (triple e' (rewritten false c.key (bo + qo) key) (key_of b)))
member_write {H = H} {T = T} {b = b} {bo = bo} {qo = qo} {e = e} {e' = e'} law key guest body ls o all few below pe room room_key = record {
  on = λ i j k ks v {a = a} {w = w} {z = z} {n = n} {g = g} {s = s} {y = y} {m = m} next K lt small is r throws go.
      let T3 = held3 H.act b o all i T in
      let goes = Direct.key_body ks (c.member e key) body ls H.around 0 in
      callee_match (codes "setPub") (triple e' (rewritten false c.key (bo + qo) key) (key_of b)) K (rel_steps {k = suc (suc (25 + j))} (omega arith) (omega (arith, r.all.steps)) r) (λ r1.
      with_part {j = 12 + j} lt (room i) (omega arith) (omega arith) pe r1 throws (λ c1 le1 v1 u1 w1 z1 n1 g1 s1 y1 m1 is1 r2 k1.
      let x1 = throws_from {j = 12 + j} {k = 12 + j} le1 (omega arith) (stays_trans (stays_step (omega arith)) k1) throws in
      let at5 = put 4 (v1 ∷ []) (asked_at o k v) in
      key_match law key guest 5 at5 _ _ next K (omega (arith, lt, le1)) (room_key i) (omega arith) (omega arith) r2 x1 (λ c2 le2 v2 u2 w2 z2 n2 g2 s2 y2 m2 is2 r3 k2.
      let x2 = throws_from {j = 12 + j} {k = 12 + j} le2 (omega arith) (stays_trans (stays_step (omega arith)) k2) x1 in
      let q = slots_of T b o all i few r3 in
      let at6 = put 5 (v2 ∷ []) (put 4 (v1 ∷ []) (asked_at o k v)) in
      right_enter (item_steps H g2 s2 b o all i k _ r3.here q small is
      (guarded_on {k = 12 + j} {j = 12 + j} {i = m2} below set_pub-guard (guards.set_pub 3) (tables.set_pub 3) set_plain (v1 ∷ v2 ∷ text k ∷ []) (u1 ∷ u2 ∷ es.Text k ∷ []) (Source.answered H 6 at6 (Direct.or_throw (λ h. goes))) (λ h w3. Source.act_plan H 7 (put 6 (h ∷ []) at6) goes w3) next K (record { plan = refl; kept = refl }) (record { value = λ h w. refl; thrown = λ h w. refl }) (val_keep k2.heap v1 u1 is1, (is2, (refl, tt))) (rel_steps {k = suc (12 + j)} {m' = suc (suc (suc m2))} (omega arith) (omega (arith, r3.all.steps)) r3) (omega arith) (omega arith) x2 (λ y3 h f w3 z3 s3 is3 r4 k3.
      go c2 (omega (arith, le1, le2)) 6 (put 6 (h ∷ []) at6) refl f w3 z3 n2 g2 s3 y3 _ r4 (stays_trans (stays_trans (stays_step (omega arith)) k1) (stays_trans (stays_trans (stays_step (omega arith)) k2) (stays_trans (stays_step (omega arith)) k3)))))))));
}

-- what is known of the three temporaries

covers_three : (T : Temps) (act b : ℕ) (o : Value) (all : List (List ℕ)) (i : ℕ) → b + 3 < 18446744073709551616 → T act (temp_name b) ≡ declared → T act (temp_name (b + 1)) ≡ declared → T act (temp_name (b + 2)) ≡ declared → Covers T (held3 act b o all i T)
covers_three T act b o all i few d0 d1 d2 =
    let U0 = puts act (temp_name b) (holds o) T in
    let U1 = puts act (temp_name (b + 1)) (keys all) U0 in
    let e1 = put_other act b (b + 1) (holds o) T declared (λ e. omega (arith, e)) (omega (arith, few)) (omega (arith, few)) d1 in
    let e2 = put_other act (b + 1) (b + 2) (keys all) U0 declared (λ e. omega (arith, e)) (omega (arith, few)) (omega (arith, few)) (put_other act b (b + 2) (holds o) T declared (λ e. omega (arith, e)) (omega (arith, few)) (omega (arith, few)) d2) in
    covers_trans (put_covers T act (temp_name b) (holds o) (λ s n y p. (p.0, p.1)) d0) (covers_trans (put_covers U0 act (temp_name (b + 1)) (keys all) (λ s n y p. (p.0, p.1)) e1) (put_covers U1 act (temp_name (b + 2)) (holds (World.number (pos i))) (λ s n y p. (p.0, p.1)) e2))

pub room_three : {T : Temps} {H : Here} {b q : ℕ} (base count : ℕ) (o : Value) (all : List (List ℕ)) (i : ℕ) → b + 3 ≤ base → base + count ≤ b + q → Room H T b q → Room H (held3 H.act b o all i T) base count
room_three {T = T} {H = H} {b = b} {q = q} base count o all i le less room = record { declared = λ j from to. one j (omega (arith, le, from)) (omega (arith, less, to)) (room.declared j (omega (arith, le, from)) (omega (arith, less, to))); few = omega (arith, room.few, less) }
  where
    one : (j : ℕ) → b + 3 ≤ j → j < b + q → T H.act (temp_name j) ≡ declared → held3 H.act b o all i T H.act (temp_name j) ≡ declared
    one j from to is =
        let U0 = puts H.act (temp_name b) (holds o) T in
        let U1 = puts H.act (temp_name (b + 1)) (keys all) U0 in
        let few = room.few in
        put_other H.act (b + 2) j (holds (World.number (pos i))) U1 declared (λ e. omega (arith, e, from)) (omega (arith, few, from, to)) (omega (arith, few, to))
        (put_other H.act (b + 1) j (keys all) U0 declared (λ e. omega (arith, e, from)) (omega (arith, few, from, to)) (omega (arith, few, to))
        (put_other H.act b j (holds o) T declared (λ e. omega (arith, e, from)) (omega (arith, few, from, to)) (omega (arith, few, to)) is))

-- the parts of the loop behind its three temporaries
pub record KeyParts (b q be qe bb qb : ℕ) : Type 0 where
  pub three : b + 3 ≤ b + q
  pub from : b + 3 ≤ be
  pub to : be + qe ≤ b + q
  pub body_from : b + 3 ≤ bb
  pub body_to : bb + qb ≤ b + q

for_in_body : {H : Here} {d b q be qe bb qb : ℕ} {e : c.Tree c.expr} {e' : t.Tree t.expr} {body : c.Tree c.stmt} {body' : t.Tree t.stmt} → H.by < 64 → (x : c.Tree c.target) (written : t.Tree t.expr) → KeyParts b q be qe bb qb → ((T : Temps) (ls : List (List ℕ)) (o : Value) (all : List (List ℕ)) → Room H T b q → WriteLaw H T d b (record { target = x; body = body; labels = ls; object = o }) all written) → ValueLaw H d be qe e e' → EffectLaw H d bb qb body body'
    → BareBody H d b q (c.for_in x e body) (keys_loop b e' (t.expression written) body')
for_in_body {H = H} {d = d} {b = b} {q = q} {bb = bb} {qb = qb} {e' = e'} {body = body} {body' = body'} below x written parts write pe pb = record {
  on = λ {J = J} {T = T} {a = a} {k = k} {w = w} {z = z} {n = n} {g = g} {s = s} {y = y} {m = m} {next = next} {next' = next'} ls to lt room r1 x1.
      let three = parts.three in
      let from = parts.from in
      let until = parts.to in
      let few : b + 3 < 18446744073709551616 = let f = room.few in omega (arith, f, three) in
      let d0 = room.declared b (omega arith) (omega (arith, three)) in
      let d1 = room.declared (b + 1) (omega arith) (omega (arith, three)) in
      let d2 = room.declared (b + 2) (omega arith) (omega (arith, three)) in
      let loop = loop_of b written body' in
      let call = runtime_call (codes "keysPub") (single (temp b)) in
      let K0 : Cont' = λ e1 s1. bind (Target.on_value_of (Es.after_update loop None ls (env_of H)) e1 s1) next' in
      let K1 : Cont' = λ e1 s1. bind (Target.on_value_of (comma_right (set_temp (b + 2) (t.num (pos 0))) (env_of H)) e1 s1) K0 in
      let K2 : Cont' = λ e1 s1. bind (Target.on_value_of (comma_right (set_temp (b + 1) call) (env_of H)) e1 s1) K1 in
      right_enter (right_enter (set_match {j = suc k} {k = 34 + k} {l = m} b next K2 lt (room_part (omega (arith, from)) (omega (arith, until)) room) d0 (omega arith) (omega arith) pe (rel_steps {k = suc (suc (34 + k))} {m' = suc (suc m)} (omega arith) (omega (arith, r1.all.steps)) r1)
      (record { on = λ c1 le v u w1 z1 n1 g1 s1 y1 m1 is1 r2 k1. x1.throws.on c1 le v u w1 z1 n1 g1 s1 y1 m1 is1 r2 (stays_trans (stays_step (omega arith)) k1) })
      (λ c1 le1 o u w1 z1 n1 g1 s1 y1 m1 is1 r2 k1.
      let U0 = hold H.act (temp_name b) o T in
      let e1 = put_other H.act b (b + 1) (holds o) T declared (λ e. omega (arith, e)) (omega (arith, few)) (omega (arith, few)) d1 in
      set_enter (b + 1) call K1 e1 (rel_steps {k = suc (suc (31 + k))} (omega arith) (omega (arith, r2.all.steps)) r2) (λ r3.
      let W : Cont' = λ e2 s3. bind (Target.on_value_of (assign_value (slot H.act (temp_name (b + 1))) (env_of H)) e2 s3) K1 in
      right_enter (callee_match {k = 28 + k} (codes "keysPub") (single (temp b)) W (rel_steps {k = suc (suc (28 + k))} (omega arith) (omega (arith, r3.all.steps)) r3) (λ r4.
      temp_read {k = 27 + k} b o _ (hold_there H.act (temp_name b) o T) (rel_steps {k = suc (27 + k)} (omega arith) (omega (arith, r4.all.steps)) r4) (λ f is2 r5.
      guard_match keys_pub-guard (f ∷ []) W r5 (λ small.
      keys_row {k = 26 + k} below o f (Source.answered H 2 (Source.one o) (Direct.by_keys (λ ks. Direct.turn_keys ks x body ls H.around 1))) next W small is2 (rel_steps {k = suc (26 + k)} (omega arith) (omega (arith, r5.all.steps)) r5)
      (λ y2 all array w2 z2 s3 size listed r6 k2.
      let L : KeyLoop = record { target = x; body = body; labels = ls; object = o } in
      let at = temp_at (b + 1) e1 r6 in
      let U1 = puts H.act (temp_name (b + 1)) (keys all) U0 in
      let e2 = put_other H.act (b + 1) (b + 2) (keys all) U0 declared (λ e. omega (arith, e)) (omega (arith, few)) (omega (arith, few)) (put_other H.act b (b + 2) (holds o) T declared (λ e. omega (arith, e)) (omega (arith, few)) (omega (arith, few)) d2) in
      subst (λ p. M H c1 (bind p next) z2 n1 (W (Target.gave array) s3) y2 (suc (suc (suc (suc (suc (suc (suc m1)))))))) (sym (keys_is L all H 3 1 (put 2 [] (Source.one o)) w2 refl))
      (put_match (b + 1) (keys all) array array at.value K1 at.there listed r6 (λ s4 r7 k3.
      set_enter (b + 2) (t.num (pos 0)) K0 e2 (rel_steps {k = suc (suc (22 + k))} (omega arith) (omega (arith, r7.all.steps)) r7) (λ r8.
      let at2 = temp_at (b + 2) e2 r8 in
      right_enter (put_match (b + 2) (holds (World.number (pos 0))) (es.Num (pos 0)) (es.Num (pos 0)) at2.value K0 at2.there refl (rel_steps {k = 12 + k} {m' = suc _} (omega arith) (omega (arith, r8.all.steps)) r8) (λ s5 r9 k4.
      keys_match {J = J} (record {
        below = below;
        loop = L;
        written = written;
        body = body';
        b = b;
        base = bb;
        count = qb;
        all = all;
        write = write T ls o all room;
        law = pb;
        to = to;
        few = few;
        small = size;
        covers = λ i. covers_three T H.act b o all i few d0 d1 d2;
        room = λ i. room_three bb qb o all i parts.body_from parts.body_to room;
      }) all c1 k next next' (omega (arith, lt, le1)) refl r9
      (effect_from {j = suc k} {k = suc k} le1 (omega arith) (stays_trans (stays_step (omega arith)) (stays_trans k1 (stays_trans (stays_step (omega arith)) (stays_trans k2 (stays_trans k3 (stays_trans (stays_step (omega arith)) k4)))))) x1)))))))
      (λ y2 v array w2 z2 s3 is3 r6 k2.
      x1.throws.on c1 le1 v array w2 z2 n1 g1 s3 y2 _ is3 (rel_less (omega arith) (rel_covers (put_covers T H.act (temp_name b) (holds o) (λ s n y p. (p.0, p.1)) d0) r6)) (stays_trans (stays_step (omega arith)) (stays_trans k1 (stays_trans (stays_step (omega arith)) k2))))))))))));
}

pub variable_in_body : {H : Here} {d b : ℕ} {e : c.Tree c.expr} {body : c.Tree c.stmt} → H.by < 64 → (x : List ℕ) → H.vars x ≡ true → H.free x ≡ true → GuestName x → ValueLaw H d (b + 3) (temps c.expr e) e (rewritten false c.expr (b + 3) e) → EffectLaw H d (b + 3 + temps c.expr e) (temps c.stmt body) body (rewritten false c.stmt (b + 3 + temps c.expr e) body)
    → BareBody H d b (3 + (0 + (temps c.expr e + temps c.stmt body))) (c.for_in (c.variable x) e body) (keys_loop b (rewritten false c.expr (b + 3) e) (t.expression (t.assign None (t.name x) (key_of b))) (rewritten false c.stmt (b + 3 + temps c.expr e) body))
variable_in_body {body = body} below x known may guest pe pb =
    for_in_body below (c.variable x) (t.assign None (t.name x) (key_of _)) (record { three = omega arith; from = omega arith; to = omega arith; body_from = omega arith; body_to = omega arith }) (λ T ls o all room. variable_write x body ls o all (let f = room.few in omega (arith, f)) known may guest) pe pb

pub member_in_body : {H : Here} {d b : ℕ} {o e : c.Tree c.expr} {body : c.Tree c.stmt} → H.by < 64 → (law : Values H d) (key : c.Tree c.key) → Guest H.vars H.free c.key key → ValueLaw H d (b + 3) (temps c.expr o) o (rewritten false c.expr (b + 3) o) → ValueLaw H d (b + 3 + (temps c.expr o + temps c.key key)) (temps c.expr e) e (rewritten false c.expr (b + 3 + (temps c.expr o + temps c.key key)) e) → EffectLaw H d (b + 3 + (temps c.expr o + (temps c.key key + temps c.expr e))) (temps c.stmt body) body (rewritten false c.stmt (b + 3 + (temps c.expr o + (temps c.key key + temps c.expr e))) body)
    → BareBody H d b (3 + (temps c.expr o + temps c.key key + (temps c.expr e + temps c.stmt body))) (c.for_in (c.member o key) e body) (keys_loop b (rewritten false c.expr (b + 3 + (temps c.expr o + temps c.key key)) e) (t.expression (runtime_call (codes "setPub") (triple (rewritten false c.expr (b + 3) o) (rewritten false c.key (b + 3 + temps c.expr o) key) (key_of b)))) (rewritten false c.stmt (b + 3 + (temps c.expr o + (temps c.key key + temps c.expr e))) body))
member_in_body {b = b} {o = o} {body = body} below law key guest po pe pb =
    for_in_body below (c.member o key) _ (record { three = omega arith; from = omega arith; to = omega arith; body_from = omega arith; body_to = omega arith }) (λ T ls v all room. member_write law key guest body ls v all (let f = room.few in omega (arith, f)) below po (λ i. room_three (b + 3) (temps c.expr o) v all i (omega arith) (omega arith) room) (λ i. room_three (b + 3 + temps c.expr o) (temps c.key key) v all i (omega arith) (omega arith) room)) pe pb
