-- Keys are listed, in an array that has no name.
use Rattle.std.proofs.Common.{ℕ, ◌<◌, length, false, List, cond, refl, sym, subst}
use Rattle.std.specs.Prelude.{map}
use Rattle.es3_objects.specs.declared.value.Value.TheVariants as es
use Rattle.es3_heap.specs.Objects.{Objects, with_object}
use Rattle.std.proofs.lemmas.List.{length-map}
use Rattle.es3_heap.specs.Making.{array_object}
use Rattle.es3_language.specs.Natives.{value_reply}
use Rattle.rows.specs.Rows as r
use Rattle.rows.specs.Rows.{Native}
use Rattle.cajita_meaning.specs.Doing as direct
use Rattle.heap_rows.specs.Doing as es3
use Rattle.row_simulation.proofs.Row.{objects_step, keeps_refl, EndIs, EndLaw}
use Rattle.row_simulation.proofs.Changes.{get-push}
use Rattle.row_simulation.proofs.Added.{awaiting_keeps, awaiting_no_node, objects_added}
use Rattle.row_simulation.specs.RowLaw.{IsFirst}
use Rattle.row_simulation.proofs.Ends.{same_end}
use Rattle.row_simulation.proofs.Arrays.{array_new, by_length}

pub lists_law : {first : Objects} {places : Native → ℕ} (by : ℕ) → IsFirst first → (ks : List (List ℕ)) → EndLaw first places by (r.lists ks)
lists_law {first = first} {places = places} by f ks s held w h z y m few p o is =
    let us = map es.Text ks in
    by_length (length ks) (λ b. EndIs first places h m (cond b (let d : direct.Done = record { outcome = direct.lists ks; world = w; items = z } in d) (direct.too_long w z)) (cond b (let d : es3.Done = record { reply = value_reply (es.Obj (length h.list)); heap = with_object h (array_object us); items = y } in d) (es3.too_long h y)))
    (λ short. let n : length us < 4294967296 = subst (λ k. k < 4294967296) (sym (length-map ks es.Text)) short in
    record { done = record { reply = get-push h.list (array_object us); objects = objects_added w.objects h (array_object us) o (array_new f false us n); items = is; keeps = awaiting_keeps h (array_object us) refl }; no_node = awaiting_no_node h (array_object us) refl })
    (same_end (record { reply = refl; objects = objects_step o; items = is; keeps = keeps_refl }))
