-- A new array of keys and values in turn becomes a new record: what initializeMap answers, and what a call of it comes to in a page.
use Rattle.std.proofs.Common.{◌≡◌, ℕ, ◌<◌, List, [], ◌∷◌, Some, None, length, refl, ap}
use Rattle.plans.specs.Plans.{ends}
use Rattle.es3_objects.specs.declared.value.Value.{Value}
use Rattle.es3_objects.specs.declared.value.Value.TheVariants.{Obj}
use Rattle.es3_objects.specs.declared.value.Class.TheVariants as class
use Rattle.es3_objects.specs.declared.value.Proto.TheVariants as proto
use Rattle.es3_heap.specs.Objects.{Object, Objects, with_object}
use Rattle.es3_heap.specs.Making.{bare, proto_id, array_object}
use Rattle.es3_heap.proofs.Laws.{object_at-with_object}
use Rattle.es3_language.specs.Store.{Store, with_heap}
use Rattle.es3_language.specs.Meaning.{Env, gave, native_call, reply_plan, task_plan}
use Rattle.heap_rows.specs.Doing.{Done, gives}
use Rattle.guard_runtime.specs.Guards.{initialize_map}
use Rattle.page_natives.specs.Natives.{Kept, page_table}
use Rattle.cajita_simulation.proofs.Heaps.Made.{with_properties, named_new, with_named}
use Rattle.cajita_simulation.proofs.Heaps.Arrays.{array_items_new}
use Rattle.cajita_simulation.proofs.Heaps.Pairs.{pairs_defined, with_pairs_new, in_turn, keyed_texts}

-- a record of these pairs
abbrev pub record_object : List (List ℕ × Value) → Object
record_object pairs = with_properties (bare class.Object (Some (proto_id proto.Object)) None) (pairs_defined pairs [])

-- it stands behind the array, with the next name of the module
pub initialize_map_new : (pairs : List (List ℕ × Value)) (by : ℕ) (h : Objects) → length (in_turn pairs) < 4294967296
    → let g = with_object h (array_object (in_turn pairs)) in initialize_map by (Obj (length h.list)) g ≡ gives (Obj (length g.list)) (with_named g (record_object pairs) by) []
initialize_map_new pairs by h few =
    let g = with_object h (array_object (in_turn pairs)) in
    let o = bare class.Object (Some (proto_id proto.Object)) None in
    rw (object_at-with_object h (array_object (in_turn pairs)), array_items_new h (in_turn pairs) few, keyed_texts g pairs, with_pairs_new pairs g o, named_new g (record_object pairs) by refl) refl

pub makes_record : (this : Value) (pairs : List (List ℕ × Value)) (h : Objects) (env : Env) (s : Store) (z : Kept) → length (in_turn pairs) < 4294967296
    → let g = with_object h (array_object (in_turn pairs)) in task_plan page_table (native_call 69 this (Obj (length h.list) ∷ []) env) (with_heap s g) z ≡ ends (gave (Obj (length g.list))) (with_heap s (with_named g (record_object pairs) env.by))
makes_record this pairs h env s z few =
    let g = with_object h (array_object (in_turn pairs)) in
    ap (λ (d : Done). reply_plan d.reply env (with_heap s d.heap)) (initialize_map_new pairs env.by h few)
