-- Array literals: `[e, f]` is `___.initializeArray([e, f])`, and the guard gives the array of the literal its name.
use Rattle.std.proofs.Common.{◌≡◌, ℕ, zero, suc, ◌≤◌, ◌<◌, ◌+◌, true, false, List, [], ◌∷◌, refl, sym, ap, ◌∙◌, subst, arith}
use Rattle.std.specs.Prelude.{codes, length, map, nat_lt}
use Rattle.std.proofs.lemmas.Bool.Decides.{nat_tests}
use Rattle.std.proofs.lemmas.List.{append-nil}
use Rattle.plans.specs.Plans.{bind}
use Rattle.matching.proofs.Rules.{right_enter}
use Rattle.es3_tree.specs.Tree as t
use Rattle.es3_objects.specs.declared.value.Value.TheVariants as es
use Rattle.es3_heap.specs.Objects.{Objects, with_object, class_of}
use Rattle.es3_heap.specs.Making.{array_object, named}
use Rattle.es3_heap.proofs.Laws.{object_at-with_object}
use Rattle.es3_language.specs.Store.{Store, with_heap}
use Rattle.es3_language.specs.References.{member}
use Rattle.es3_language.specs.Meaning as Target
use Rattle.rows.specs.Rows as r
use Rattle.rows.specs.Arguments.{values_from}
use Rattle.rows.specs.Guards as guards
use Rattle.cajita_tree.specs.Tree as c
use Rattle.cajita_rewrite.specs.Rewrite.{rewritten, temps, runtime_call, single}
use Rattle.cajita_meaning.specs.World.{Value, World}
use Rattle.cajita_meaning.specs.Direct as Direct
use Rattle.cajita_meaning.specs.Direct.{Item}
use Rattle.heap_rows.specs.Doing as rows
use Rattle.heap_rows.specs.Doing.{Done, gives, value_in}
use Rattle.heap_rows.specs.Opening.{place_of, empty_page, runtime_id}
use Rattle.row_outcomes.proofs.Numbers.{first_values}
use Rattle.guard_runtime.specs.Guards.{initialize_array, initialize_array_of}
use Rattle.row_simulation.proofs.Row.{vals_length}
use Rattle.row_simulation.proofs.Tables.{tables}
use Rattle.page_natives.specs.Natives.{Kept, tells}
use Rattle.cajita_simulation.specs.Guest.{Guest}
use Rattle.cajita_simulation.proofs.Doing as Source
use Rattle.cajita_simulation.proofs.Heaps.Guards.{initialize_array-guard}
use Rattle.cajita_simulation.proofs.Relation.{EsValue, Vals, Here, env_of, Tags, Temps, Rel, rel_less, rel_pay, stays_step, stays_trans}
use Rattle.cajita_simulation.proofs.Laws.{ValueBody, NextValue, value_from, Cont, Cont', M}
use Rattle.cajita_simulation.proofs.Calls.{callee_match, with_array}
use Rattle.cajita_simulation.proofs.Records.{new_array_match}
use Rattle.cajita_simulation.proofs.Rows.{row_match}
use Rattle.cajita_simulation.proofs.Forms.Items.{items_match}
use Rattle.cajita_simulation.proofs.Forms.Values.{Values}

values_long : (i n : ℕ) → length (values_from i n) ≡ n
values_long i zero = refl
values_long i (suc n) = ap suc (values_long (i + 1) n)

-- what the row does in the store before the literal is what the guard does behind it
row_named : (by : ℕ) (us : List EsValue) (h : Objects) → length us < 4294967296 → (rows.does place_of by (guards.initialize_array (length us)) us h empty_page []).done ≡ gives (es.Obj (length h.list)) (named (with_object h (array_object us)) (length h.list) by) []
row_named by us h few =
    let long = values_long 0 (length us) in
    let small : nat_lt (length (values_from 0 (length us))) r.most_items ≡ true = grind (arith, nat_tests, long, few) in
    let all : map (value_in place_of us) (values_from 0 (length us)) ≡ us = subst (λ l. map (value_in place_of l) (values_from 0 (length us)) ≡ us) (append-nil us) (first_values place_of us []) in
    rw (small, all) refl

guard_named : (by : ℕ) (us : List EsValue) (h : Objects) → initialize_array by (es.Obj (length h.list)) (with_object h (array_object us)) ≡ gives (es.Obj (length h.list)) (named (with_object h (array_object us)) (length h.list) by) []
guard_named by us h =
    let g = with_object h (array_object us) in
    ap (λ q. initialize_array_of q by (length h.list) g) (ap class_of (object_at-with_object h (array_object us)))

guard_row : (by : ℕ) (us : List EsValue) (h : Objects) → length us < 4294967296 → initialize_array by (es.Obj (length h.list)) (with_object h (array_object us)) ≡ (rows.does place_of by (guards.initialize_array (length us)) us h empty_page []).done
guard_row by us h few = guard_named by us h ∙ sym (row_named by us h few)

-- from the array on
array_match : {H : Here} {T : Temps} {d k : ℕ} → H.by < 64 → (vs : List Value) (us : List EsValue) {w : World} {z : List Item} {n : ℕ} {g : Tags} {s : Store} {y : Kept} {m : ℕ} (next : Cont) (next' : Cont') → Vals s.heap vs us → length us ≤ m → Rel H T (suc k) w z n g s y m → NextValue H T d k w g s m next next'
    → M H d (bind (Source.act_plan H 1 (Source.kept vs) (Direct.rows guards.initialize_array H.around (0 ∷ []) Direct.give) w) next) z n (bind (Target.do_call (Target.called (member (es.Obj runtime_id) (codes "initializeArray"))) (es.Obj (length s.heap.list) ∷ []) (env_of H) (with_heap s (with_object s.heap (array_object us)))) next') y m
array_match {H = H} {T = T} {d = d} {k = k} below vs us {w = w} {z = z} {n = n} {g = g} {s = s} {y = y} {m = m} next next' are many r x =
    let p0 = bind (Source.act_plan H 1 (Source.kept vs) (Direct.rows guards.initialize_array H.around (0 ∷ []) Direct.give) w) next in
    new_array_match initialize_array-guard [] us next' many r (λ small r1 k1.
    subst (λ (q : Done). M H d p0 z n (bind (Target.reply_plan q.reply (env_of H) (with_heap s q.heap)) next') (tells q.items y) (suc m)) (sym (guard_row H.by us s.heap (omega (arith, many, small))))
    (subst (λ l. let q = (rows.does place_of H.by (guards.initialize_array l) us s.heap empty_page []).done in M H d p0 z n (bind (Target.reply_plan q.reply (env_of H) (with_heap s q.heap)) next') (tells q.items y) (suc m)) (vals_length s.heap vs us are)
    (row_match below (guards.initialize_array (length vs)) (tables.initialize_array (length vs)) tt vs us empty_page (Source.answered H 1 (Source.kept vs) (Direct.or_throw Direct.give)) next next' small are r (record {
      gives = λ v e w1 z1 s1 is1 r2 keep. x.gives.on d (omega arith) v e w1 z1 _ _ s1 _ _ is1 r2 (stays_trans (stays_step (omega arith)) keep);
      throws = λ v e w1 z1 s1 is1 r2 keep. x.throws.on d (omega arith) v e w1 z1 _ _ s1 _ _ is1 r2 (stays_trans (stays_step (omega arith)) keep);
    }))))

pub array_body : {H : Here} {d b : ℕ} → H.by < 64 → (law : Values H d) (es : c.Tree c.exprs) → Guest H.vars H.free c.exprs es → ValueBody H d b (temps c.exprs es) (c.array es) (runtime_call (codes "initializeArray") (single (t.array (rewritten false c.exprs b es))))
array_body {H = H} {b = b} below law es guest = record {
  on = λ {a = a} {k = k} {next = next} {next' = next'} lt room r x.
      callee_match (codes "initializeArray") (single (t.array (rewritten false c.exprs b es))) next' r (λ r1.
      right_enter (items_match law es guest [] [] [] a b (suc k) (suc k) (λ vs. Direct.rows guards.initialize_array H.around (vs ∷ []) Direct.give) next (with_array (codes "initializeArray") H next') lt room tt (omega arith) (rel_less (omega arith) (rel_pay r1)) (stays_step (omega arith)) (omega arith) (record { on = λ c le v e w z n g s y m is r2 keep. x.throws.on c le v e w z n g s y m is r2 keep }) (record {
        on = λ c le vs us w z n g s y m are many r2 keep. array_match below vs us next next' are many r2 (value_from {j = suc k} {k = suc k} le (omega arith) keep x);
      })));
}
