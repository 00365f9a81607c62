-- Record literals: `{k: e}` is `___.initializeMap(["k",e])`.
use Rattle.std.proofs.Common.{◌≡◌, ℕ, suc, false, ◌+◌, ◌≤◌, ◌<◌, List, [], ◌∷◌, ◌++◌, sym, ap, ◌∙◌, subst, arith}
use Rattle.std.specs.Prelude.{codes, length}
use Rattle.std.proofs.lemmas.List.{length-append}
use Rattle.plans.specs.Plans.{bind}
use Rattle.matching.proofs.Rules.{right_enter}
use Rattle.es3_tree.specs.Tree as t
use Rattle.es3_objects.specs.declared.value.Value.TheVariants as es
use Rattle.es3_language.specs.Store.{Store}
use Rattle.es3_language.specs.Meaning as Target
use Rattle.cajita_tree.specs.Tree as c
use Rattle.cajita_rewrite.specs.Rewrite.{rewritten, temps, runtime_call, single}
use Rattle.cajita_meaning.specs.World.{Value, World}
use Rattle.cajita_meaning.specs.Direct as Direct
use Rattle.cajita_meaning.specs.Direct.{Item}
use Rattle.page_natives.specs.Natives.{Kept}
use Rattle.cajita_simulation.specs.Guest.{Guest}
use Rattle.cajita_simulation.proofs.Doing as Source
use Rattle.cajita_simulation.proofs.Heaps.Pairs.{in_turn}
use Rattle.cajita_simulation.proofs.Relation.{EsValue, Here, env_of, Tags, Temps, Rel, rel_pay, stays_step, stays_before}
use Rattle.cajita_simulation.proofs.Laws.{ValueBody, NextValue, value_from, value_since, Cont, Cont', M, Room, room_part, with_part}
use Rattle.cajita_simulation.proofs.Calls.{callee_match, with_array}
use Rattle.cajita_simulation.proofs.Records.{FieldsAre, fields_keep, fields_add, in_turn-add, record_match}
use Rattle.cajita_simulation.proofs.Forms.Values.{Values}

two_more : (qs : List (List ℕ × EsValue)) (k : List ℕ) (e : EsValue) {m : ℕ} → length (in_turn qs) + 2 ≤ m → length (in_turn (qs ++ (k, e) ∷ [])) ≤ m
two_more qs k e le =
    let two : length ((in_turn qs ++ es.Text k ∷ []) ++ e ∷ []) ≡ length (in_turn qs) + 2 = length-append (in_turn qs ++ es.Text k ∷ []) (e ∷ []) ∙ ap (λ n. n + 1) (length-append (in_turn qs) (es.Text k ∷ [])) ∙ omega arith in
    let all = ap length (in_turn-add qs k e) in
    omega (arith, two, all, le)

fields_match : {H : Here} {T : Temps} {d : ℕ} → H.by < 64 → (law : Values H d) (fs : c.Tree c.fields) → Guest H.vars H.free c.fields fs → (ks : List (List ℕ)) (us : List Value) (qs : List (List ℕ × EsValue)) (a b k : ℕ) {w : World} {z : List Item} {n : ℕ} {g : Tags} {s : Store} {y : Kept} {m : ℕ} (next : Cont) (next' : Cont') → a < d → Room H T b (temps c.fields fs) → FieldsAre s.heap ks us qs → length (in_turn qs) ≤ m → Rel H T (suc k) w z n g s y m → NextValue H T a k w g s m next next'
    → M H a (bind (Source.act_plan H 1 (Source.kept us) (Direct.fields_act fs ks H.around 0) w) next) z n (bind (Target.items (in_turn qs) (rewritten false c.fields b fs) (env_of H) s) (with_array (codes "initializeMap") H next')) y m
unfolding rewritten
fields_match below law c.no_fields guest ks us qs a b k next next' lt room p many r x = record_match below ks us qs next next' p many r x.gives
fields_match {H = H} {T = T} below law (c.more_fields key e rest) guest ks us qs a b k next next' lt room p many r x =
    right_enter (with_part lt (room_part (omega arith) (omega arith) room) (omega arith) (omega arith) (law b e guest.1) (rel_pay r) (record { on = λ c le v u w1 z1 n1 g1 s1 y1 m1 is r1 k1. x.throws.on c le v u w1 z1 n1 g1 s1 y1 m1 is r1 (stays_before k1) }) (λ c1 le1 v1 e1 w1 z1 n1 g1 s1 y1 m1 is1 r1 k1.
    subst (λ l. M H c1 (bind (Source.act_plan H 1 (Source.kept (us ++ v1 ∷ [])) (Direct.fields_act rest (ks ++ key ∷ []) H.around 0) w1) next) z1 n1 (bind (Target.items l (rewritten false c.fields (b + temps c.expr e) rest) (env_of H) s1) (with_array (codes "initializeMap") H next')) y1 m1) (sym (in_turn-add qs key e1))
    (fields_match below law rest guest.2 (ks ++ key ∷ []) (us ++ v1 ∷ []) (qs ++ (key, e1) ∷ []) c1 (b + temps c.expr e) k next next' (omega arith) (room_part (omega arith) (omega arith) room) (fields_add s1.heap ks us qs key v1 e1 (fields_keep k1.heap.objects ks us qs p) guest.0 is1) (two_more qs key e1 (omega (arith, many, k1.heap.more))) r1 (value_since le1 (stays_before k1) x))))

pub record_body : {H : Here} {d b : ℕ} → H.by < 64 → (law : Values H d) (fs : c.Tree c.fields) → Guest H.vars H.free c.fields fs → ValueBody H d b (temps c.fields fs) (c.record_of fs) (runtime_call (codes "initializeMap") (single (t.array (rewritten false c.fields b fs))))
record_body {b = b} below law fs guest = record {
  on = λ {next = next} {next' = next'} lt room r x.
      callee_match (codes "initializeMap") (single (t.array (rewritten false c.fields b fs))) next' r (λ r1.
      right_enter (fields_match below law fs guest [] [] [] _ b _ next next' lt room tt (omega arith) (rel_pay r1) (value_from (omega arith) (omega arith) (stays_step (omega arith)) x)));
}
