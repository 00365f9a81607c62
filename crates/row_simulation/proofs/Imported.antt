-- A page of one module begins with what the module may import: an object without a name, which has the fixed names' values.
use Rattle.std.proofs.Common.{◌≡◌, ℕ, ◌+◌, Bool, true, false, List, [], ◌∷◌, length, Some, None, cond, refl, ap, subst, arith}
use Rattle.std.specs.Prelude.{map}
use Rattle.std.proofs.lemmas.List.{length-append}
use Rattle.caja_units.specs.Units.{same_units, is_hidden}
use Rattle.es3_heap.specs.Objects as heap
use Rattle.es3_heap.specs.Objects.{Objects, with_object}
use Rattle.es3_heap.specs.Properties.{find, own, value_of}
use Rattle.rows.specs.Rows as r
use Rattle.rows.specs.Names.{Tools, of_cajita, of_math}
use Rattle.cajita_meaning.specs.World.{own_name, built_name, tools_name, Pairs, Object, empty_world, value_at}
use Rattle.cajita_meaning.specs.Doing.{or_nothing}
use Rattle.cajita_meaning.specs.Imports.{fixed_imports, imported}
use Rattle.heap_rows.specs.Marks.{read_mark, set_mark}
use Rattle.heap_rows.specs.Natives.{is_common}
use Rattle.heap_rows.specs.Doing.{copied, record_object}
use Rattle.heap_rows.specs.Opening.{first, place_of, place_of_tools, opened, own_function, with_module, begun, empty_page, fixed_values, with_imports, first_say, imports_id, opened_for_one}
use Rattle.heap_rows.proofs.Made.{opened_long, begun_long}
use Rattle.row_simulation.specs.RowLaw.{PagesAre}
use Rattle.row_simulation.proofs.Row.{pages_keep}
use Rattle.row_simulation.proofs.Frozen.{first_guest}
use Rattle.row_simulation.proofs.Keys.{apart_too, hidden_read, hidden_set}
use Rattle.row_simulation.proofs.Relation.{EsValue, Named, Val, Vals, PairsAre, ObjectsAre, Keeps}
use Rattle.row_simulation.proofs.Changes.{IsNew, get-push}
use Rattle.row_simulation.proofs.Added.{added_keeps, awaiting_keeps, awaiting_no_node, objects_with}
use Rattle.row_simulation.proofs.Begun.{own_unmade, proto_few, begun_corresponds, page_corresponds}
use Rattle.row_simulation.proofs.Opening.{natives_there, tools_there}

-- pairs as the properties of an object

pub all_seen : List (List ℕ × EsValue) → Bool
all_seen [] = true
all_seen ((k, e) ∷ l) = cond (is_hidden k) false (all_seen l)

no_mark : (l : List (List ℕ × EsValue)) (m : List ℕ) → is_hidden m ≡ true → all_seen l ≡ true → find m (copied l) ≡ None
unfolding all_seen
no_mark [] m hidden seen = refl
no_mark ((k, e) ∷ l) m hidden seen =
    let q = first_guest (is_hidden k) (all_seen l) seen in
    rw (apart_too k m q.0 hidden) (no_mark l m hidden q.1)

-- an object without a name whose keys are no marks
pub pairs_new : (l : List (List ℕ × EsValue)) → all_seen l ≡ true → IsNew first (record_object (copied l))
pairs_new l seen = record {
  bare = refl;
  above = λ p e. proto_few 0 p (omega arith) e;
  reads = λ k. no_mark l (read_mark k) (hidden_read k) seen;
  sets = λ k. no_mark l (set_mark k) (hidden_set k) seen;
}

-- the value of each key, and of what is none
pub pair_found : (h : Objects) (ps : Pairs) (l : List (List ℕ × EsValue)) → PairsAre h ps l → (k : List ℕ) → Val h (or_nothing (value_at k ps)) (value_of (find k (copied l)))
pair_found h [] [] p k = tt
pair_found h ((j, v) ∷ ps) ((i, e) ∷ l) p k =
    subst (λ x. Val h (or_nothing (value_at k ((j, v) ∷ ps))) (value_of (find k (copied ((x, e) ∷ l))))) p.0
    (elim (same_units k j) as (λ b. Val h (or_nothing (cond b (Some v) (value_at k ps))) (value_of (cond b (Some (record { key = j; value = e; attrs = heap.plain_attrs })) (find k (copied l))))) [
      | true ↦ p.1
      | false ↦ pair_found h ps l p.2 k
    ])
pair_found h _ _ p k = absurd p

-- where the values of the fixed names are, for a module whose `say` and `later` stand side by side

pub record FixedThere (h : Objects) (m say : ℕ) : Type 0 where
  pub natives : (f : r.Native) → is_common f ≡ true → Named h (built_name f) (place_of f)
  pub tools : (t : Tools) → Named h (tools_name t) (place_of_tools t)
  pub says : Named h (own_name m 0) say
  pub delays : Named h (own_name m 1) (say + 1)

pub fixed_there_keep : {a b : Objects} {m say : ℕ} → Keeps a b → FixedThere a m say → FixedThere b m say
fixed_there_keep {m = m} {say = say} k f = record {
  natives = λ g common. k.named (built_name g) _ (f.natives g common);
  tools = λ t. k.named (tools_name t) _ (f.tools t);
  says = k.named (own_name m 0) say f.says;
  delays = k.named (own_name m 1) (say + 1) f.delays;
}

pub fixed_are : {h : Objects} {m say : ℕ} → FixedThere h m say → PairsAre h (fixed_imports m) (fixed_values say)
fixed_are f = (
  refl,
  tt,
  (
    refl,
    f.tools of_cajita,
    (
      refl,
      f.tools of_math,
      (
        refl,
        f.natives (r.makes r.error) refl,
        (
          refl,
          f.natives (r.makes r.type_error) refl,
          (
            refl,
            f.natives (r.makes r.range_error) refl,
            (
              refl,
              f.natives r.number_from refl,
              (
                refl,
                f.natives r.text_from refl,
                (
                  refl,
                  f.natives r.truth_from refl,
                  (refl, f.says, (refl, f.delays, tt)),
                ),
              ),
            ),
          ),
        ),
      ),
    ),
  ),
)

-- a store with what a module may import

fixed_new : (say : ℕ) → IsNew first (record_object (copied (fixed_values say)))
unfolding all_seen
fixed_new say = pairs_new (fixed_values say) refl

pub imports_correspond : {m : ℕ} (objects : ℕ → List Object) (h : Objects) (say : ℕ) → ObjectsAre first place_of objects h m → ObjectsAre first place_of objects (with_imports say h) m
imports_correspond objects h say old = objects_with objects h (record_object (copied (fixed_values say))) old (fixed_new say)

import_found : {h : Objects} {m say : ℕ} → FixedThere h m say → (k : List ℕ) → Val (with_imports say h) (or_nothing (value_at k (fixed_imports m))) (value_of (own (with_imports say h) (length h.list) k))
import_found {h = h} {m = m} {say = say} f k =
    let x = record_object (copied (fixed_values say)) in
    rw (get-push h.list x) (pair_found (with_imports say h) (fixed_imports m) (fixed_values say) (fixed_are (fixed_there_keep (awaiting_keeps h x refl) f)) k)

-- a module's own functions, behind the built-in ones

module _ (h : Objects) (m : ℕ) where
  pub say_keeps : Keeps h (with_object h (own_function m 0))
  say_keeps = added_keeps h (own_function m 0) (own_unmade m 0)

  pub later_keeps : Keeps (with_object h (own_function m 0)) (with_module m h)
  later_keeps = added_keeps (with_object h (own_function m 0)) (own_function m 1) (own_unmade m 1)

  one_more : length (with_object h (own_function m 0)).list ≡ length h.list + 1
  one_more = length-append h.list (own_function m 0 ∷ [])

  pub module_there : ((f : r.Native) → is_common f ≡ true → Named h (built_name f) (place_of f)) → ((t : Tools) → Named h (tools_name t) (place_of_tools t)) → FixedThere (with_module m h) m (length h.list)
  module_there natives tools = record {
    natives = λ f common. later_keeps.named (built_name f) _ (say_keeps.named (built_name f) _ (natives f common));
    tools = λ t. later_keeps.named (tools_name t) _ (say_keeps.named (tools_name t) _ (tools t));
    says = later_keeps.named (own_name m 0) (length h.list) (ap heap.tag_of (get-push h.list (own_function m 0)));
    delays = subst (Named (with_module m h) (own_name m 1)) one_more (ap heap.tag_of (get-push (with_object h (own_function m 0)).list (own_function m 1)));
  }

-- the page of one module

first_there : FixedThere (begun 1 0) 0 first_say
first_there = subst (FixedThere (begun 1 0) 0) opened_long (module_there opened 0 natives_there tools_there)

pub one_corresponds : ObjectsAre first place_of empty_world.objects opened_for_one 0
unfolding opened_for_one
one_corresponds = imports_correspond empty_world.objects (begun 1 0) first_say (begun_corresponds 1 0)

pub one_page : PagesAre opened_for_one empty_world empty_page
unfolding opened_for_one
one_page = pages_keep empty_world empty_world empty_page (awaiting_keeps (begun 1 0) (record_object (copied (fixed_values first_say))) refl) (awaiting_no_node (begun 1 0) (record_object (copied (fixed_values first_say))) refl) (refl, refl, refl, refl) (page_corresponds 1 0)

one_found : (k : List ℕ) → Val opened_for_one (or_nothing (value_at k (fixed_imports 0))) (value_of (own opened_for_one imports_id k))
unfolding opened_for_one
one_found k = subst (λ o. Val (with_imports first_say (begun 1 0)) (or_nothing (value_at k (fixed_imports 0))) (value_of (own (with_imports first_say (begun 1 0)) o k))) begun_long (import_found first_there k)

pub one_imported : (names : List (List ℕ)) → Vals opened_for_one (imported 0 names) (map (λ k. value_of (own opened_for_one imports_id k)) names)
one_imported [] = tt
one_imported (k ∷ names) = (one_found k, one_imported names)
