-- Temporaries: their names, where one is read and written, and what goes on where more is known of them.
use Rattle.std.proofs.Common.{◌≡◌, ◌≢◌, ℕ, suc, ◌+◌, ◌≤◌, ◌<◌, Bool, true, false, List, ◌++◌, Some, cond, refl, sym, ap, subst, arith}
use Rattle.std.specs.Prelude.{codes, is_some, nat_eq}
use Rattle.std.specs.Cmp.Lexicographic.{same_text}
use Rattle.std.proofs.lemmas.Bool.Decides.{nat_tests}
use Rattle.std.proofs.lemmas.List.{append_assoc, append_cancel_right}
use Rattle.std.proofs.lemmas.Fmt.{decimal_injective}
use Rattle.plans.specs.Plans.{enter, bind}
use Rattle.matching.proofs.Rules.{right_enter}
use Rattle.caja_units.specs.Units.{same_units, is_hidden}
use Rattle.caja_units.specs.Index.{number_units}
use Rattle.caja_units.proofs.Texts.{is_hidden-from_end}
use Rattle.es3_objects.proofs.Keys.{same_key-refl}
use Rattle.es3_language.specs.Store.{Store, name_value, with_slot}
use Rattle.es3_language.specs.References.{slot, resolve}
use Rattle.es3_language.specs.Expressions.{write_plan}
use Rattle.es3_language.specs.Meaning as Target
use Rattle.es3_language.specs.Meaning.{is_arguments}
use Rattle.cajita_rewrite.specs.Rewrite.{runtime_name, temp_name, temp}
use Rattle.cajita_meaning.specs.World.{Value, World}
use Rattle.cajita_meaning.specs.Direct.{Item}
use Rattle.page_natives.specs.Natives.{Kept}
use Rattle.cajita_simulation.proofs.Doing as Source
use Rattle.cajita_simulation.proofs.Relation.{EsValue, Val, Here, env_of, Tags, Temps, Slot, declared, holds, SlotIs, names_at, Rel, Stays, stays_trans, rel_pay}
use Rattle.cajita_simulation.proofs.Slots.{slot_plan}
use Rattle.cajita_simulation.proofs.Written.{slot_written, shared_store}
use Rattle.cajita_simulation.proofs.Writes.{Fits, fits_keep, rel_put, rel_shared, stays_shared, stays_held, Covers, rel_covers}
use Rattle.cajita_simulation.proofs.Laws.{Cont, Cont', M, Room, Throws, NextValue, puts, hold}

pub temp_hidden : (i : ℕ) → is_hidden (temp_name i) ≡ true
temp_hidden i = is_hidden-from_end (temp_name i) (codes "x" ++ (number_units i ++ codes "_")) (ap (λ l. codes "x" ++ l) (sym (append_assoc (number_units i) (codes "_") (codes "__"))))

pub temp_own : (i : ℕ) → is_arguments (temp_name i) ≡ false
temp_own i = refl

pub temp_other : (i : ℕ) → same_units runtime_name (temp_name i) ≡ false
temp_other i = refl

-- what a hidden name that is held has
pub put_there : (c : ℕ) (x : List ℕ) (q : Slot) (T : Temps) → puts c x q T c x ≡ q
put_there c x q T = rw (same c, same_key-refl x) refl
  where
    same : (n : ℕ) → nat_eq n n ≡ true
    same n = grind (arith, nat_tests)

pub hold_there : (c : ℕ) (x : List ℕ) (v : Value) (T : Temps) → hold c x v T c x ≡ holds v
hold_there c x v T = put_there c x (holds v) T

-- a temporary that is declared has a value, and is found in the activation
pub record TempAt (H : Here) (s : Store) (x : List ℕ) : Type 0 where
  pub value : EsValue
  pub there : name_value x (names_at s H.act) ≡ Some value
  pub at : resolve H.chain s x ≡ slot H.act x

pub temp_at : {H : Here} {T : Temps} {k : ℕ} {w : World} {z : List Item} {n : ℕ} {g : Tags} {s : Store} {y : Kept} {m : ℕ} (i : ℕ) → T H.act (temp_name i) ≡ declared → Rel H T k w z n g s y m → TempAt H s (temp_name i)
temp_at {H = H} {s = s} i is r =
    let p = subst (λ q. SlotIs s H.act (temp_name i) q) is (r.all.scopes.temps H.act (temp_name i) (temp_hidden i)) in
    record { value = p.0; there = p.1; at = r.here.temps (temp_name i) (temp_hidden i) (ap is_some p.1) }

-- one that holds a value has what corresponds to it
pub record TempHolds (H : Here) (s : Store) (x : List ℕ) (v : Value) : Type 0 where
  pub value : EsValue
  pub there : name_value x (names_at s H.act) ≡ Some value
  pub at : resolve H.chain s x ≡ slot H.act x
  pub same : Val s.heap v value

pub temp_holds : {H : Here} {T : Temps} {k : ℕ} {w : World} {z : List Item} {n : ℕ} {g : Tags} {s : Store} {y : Kept} {m : ℕ} (i : ℕ) (v : Value) → T H.act (temp_name i) ≡ holds v → Rel H T k w z n g s y m → TempHolds H s (temp_name i) v
temp_holds {H = H} {s = s} i v is r =
    let p = subst (λ q. SlotIs s H.act (temp_name i) q) is (r.all.scopes.temps H.act (temp_name i) (temp_hidden i)) in
    record { value = p.0; there = p.1; at = r.here.temps (temp_name i) (temp_hidden i) (ap is_some p.1); same = p.2 }

-- names of different temporaries are different

tail_of : (j i : ℕ) → temp_name j ≡ temp_name i → number_units j ++ codes "___" ≡ number_units i ++ codes "___"
tail_of j i e = cc

pub temps_apart : (i j : ℕ) → i ≢ j → i < 18446744073709551616 → j < 18446744073709551616 → same_units (temp_name j) (temp_name i) ≡ false
temps_apart i j ne few small =
    let cases = elim (same_units (temp_name j) (temp_name i)) as (λ b. same_units (temp_name j) (temp_name i) ≡ b → b ≡ false) [
      | true ↦ λ same. absurd (ne (sym (decimal_injective j i small few (append_cancel_right (number_units j) (number_units i) (codes "___") (tail_of j i (same_text (temp_name j) (temp_name i) (sym same)))))))
      | false ↦ λ same. refl
    ] in cases refl

either : (b : Bool) (q r : Slot) → q ≡ r → cond b q q ≡ r
either true q r is = is
either false q r is = is

-- another temporary has what it had
pub put_other : (c i j : ℕ) (p : Slot) (T : Temps) (q : Slot) → i ≢ j → i < 18446744073709551616 → j < 18446744073709551616 → T c (temp_name j) ≡ q → puts c (temp_name i) p T c (temp_name j) ≡ q
put_other c i j p T q ne few small is = rw (temps_apart i j ne few small) (either (nat_eq c c) (T c (temp_name j)) q is)

pub hold_other : (c i j : ℕ) (v : Value) (T : Temps) (q : Slot) → i ≢ j → i < 18446744073709551616 → j < 18446744073709551616 → T c (temp_name j) ≡ q → hold c (temp_name i) v T c (temp_name j) ≡ q
hold_other c i j v T q ne few small is = put_other c i j (holds v) T q ne few small is

-- the room of a part, while an earlier temporary is held
pub room_held : {H : Here} {T : Temps} {b q c u : ℕ} (i : ℕ) (v : Value) → i < c → b ≤ c → c + u ≤ b + q → Room H T b q → Room H (hold H.act (temp_name i) v T) c u
room_held {H = H} {T = T} i v lt le less room = record {
  declared = λ j from to. hold_other H.act i j v T declared (λ e. omega (arith, lt, from, e)) (omega (arith, lt, less, room.few)) (omega (arith, room.few, less, to)) (room.declared j (omega (arith, le, from)) (omega (arith, less, to)));
  few = omega (arith, room.few, less);
}

-- the same continuations, where more is known of temporaries

pub throws_covers : {H : Here} {T U : Temps} {d k : ℕ} {w : World} {g : Tags} {s : Store} {i : ℕ} {next : Cont} {next' : Cont'} → Covers T U → Throws H T d k w g s i next next' → Throws H U d k w g s i next next'
throws_covers f x = record { on = λ c le v e w z n g s y m is r k. x.on c le v e w z n g s y m is (rel_covers f r) k }

pub value_covers : {H : Here} {T U : Temps} {d k : ℕ} {w : World} {g : Tags} {s : Store} {i : ℕ} {next : Cont} {next' : Cont'} → Covers T U → NextValue H T d k w g s i next next' → NextValue H U d k w g s i next next'
value_covers f x = record {
  gives = record { on = λ c le v e w z n g s y m is r k. x.gives.on c le v e w z n g s y m is (rel_covers f r) k };
  throws = throws_covers f x.throws;
}

-- a temporary takes what a slot says: from the write, which has the value f as a form, to what is done next
pub put_match : {H : Here} {T : Temps} {d k : ℕ} (i : ℕ) (q : Slot) (e f u : EsValue) {p : Source.Plan} {w : World} {z : List Item} {n : ℕ} {g : Tags} {s : Store} {y : Kept} {m : ℕ} (next' : Cont') → name_value (temp_name i) (names_at s H.act) ≡ Some u → Fits s.heap q e → Rel H T k w z n g s y m
    → ((s1 : Store) → Rel H (puts H.act (temp_name i) q T) k w z n g s1 y m → Stays w g s m w g s1 m → M H d p z n (next' (Target.gave f) s1) y m)
    → M H d p z n (bind (write_plan (slot H.act (temp_name i)) e f (env_of H) s) next') y m
put_match {H = H} {d = d} i q e f u {p = p} {z = z} {n = n} {g = g} {s = s} {y = y} {m = m} next' there is r go =
    let keep = stays_shared H.act (temp_name i) e r in
    subst (λ s2. M H d p z n (next' (Target.gave f) s2) y m) (sym (slot_written s H.act (temp_name i) e r.here.written))
    (go (with_slot H.act (temp_name i) e (shared_store s H.act (temp_name i) e)) (rel_put H.act (temp_name i) q e u there (temp_hidden i) (temp_other i) refl (fits_keep keep.heap q e is) (rel_shared H.act (temp_name i) e r)) (stays_trans keep (stays_held H.act (temp_name i) e u there)))

-- it takes a value
pub temp_match : {H : Here} {T : Temps} {d k : ℕ} (i : ℕ) (v : Value) (e : EsValue) {p : Source.Plan} {w : World} {z : List Item} {n : ℕ} {g : Tags} {s : Store} {y : Kept} {m : ℕ} (next' : Cont') → T H.act (temp_name i) ≡ declared → Val s.heap v e → Rel H T k w z n g s y m
    → ((s1 : Store) → Rel H (hold H.act (temp_name i) v T) k w z n g s1 y m → Stays w g s m w g s1 m → M H d p z n (next' (Target.gave e) s1) y m)
    → M H d p z n (bind (write_plan (slot H.act (temp_name i)) e e (env_of H) s) next') y m
temp_match i v e next' known is r f = let at = temp_at i known r in put_match i (holds v) e e at.value next' at.there is r f

-- a temporary that holds a value is read
pub temp_read : {H : Here} {T : Temps} {d k : ℕ} (i : ℕ) (v : Value) {p : Source.Plan} {w : World} {z : List Item} {n : ℕ} {g : Tags} {s : Store} {y : Kept} {m : ℕ} (next' : Cont') → T H.act (temp_name i) ≡ holds v → Rel H T (suc k) w z n g s y m
    → ((e : EsValue) → Val s.heap v e → Rel H T k w z n g s y (suc m) → M H d p z n (next' (Target.gave e) s) y (suc m))
    → M H d p z n (enter (Target.value_of (temp i) (env_of H)) s next') y m
temp_read {H = H} {d = d} i v {p = p} {z = z} {n = n} {s = s} {y = y} {m = m} next' is r f =
    let at = temp_holds i v is r in
    right_enter (subst (λ q. M H d p z n (bind q next') y (suc m)) (sym (slot_plan (temp_name i) (env_of H) s H.act at.value (temp_own i) at.at at.there)) (f at.value at.same (rel_pay r)))

-- what has the value of an operand without a step of the direct meaning: a temporary that holds it, or a literal
pub record Evaluates (H : Here) (T : Temps) (x : Rattle.es3_tree.specs.Tree.Tree Rattle.es3_tree.specs.Tree.expr) (v : Value) : Type 0 where
  pub on : {d k : ℕ} {p : Source.Plan} {w : World} {z : List Item} {n : ℕ} {g : Tags} {s : Store} {y : Kept} {m : ℕ} (go' : EsValue → Store → Target.Plan) (next' : Cont') → Rel H T (suc k) w z n g s y m
      → ((e : EsValue) → Val s.heap v e → Rel H T k w z n g s y (suc m) → M H d p z n (bind (go' e s) next') y (suc m))
      → M H d p z n (bind (Target.with_value x (env_of H) s go') next') y m

pub temp_evaluates : {H : Here} {T : Temps} (i : ℕ) (v : Value) → T H.act (temp_name i) ≡ holds v → Evaluates H T (temp i) v
temp_evaluates i v is = record { on = λ go' next' r f. temp_read i v (λ e s1. bind (Target.on_value_of go' e s1) next') is r f }

pub text_evaluates : {H : Here} {T : Temps} (us : List ℕ) → Evaluates H T (Rattle.es3_tree.specs.Tree.text us) (Rattle.cajita_meaning.specs.World.text us)
text_evaluates us = record { on = λ go' next' r f. right_enter (f (Rattle.es3_objects.specs.declared.value.Value.TheVariants.Text us) refl (rel_pay r)) }
