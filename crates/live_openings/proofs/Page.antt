-- The store in which a page begins names live objects alone: the first objects, the two records, the functions, the modules' own, the cells, and what a module may import.
use Rattle.std.proofs.Common.{◌≡◌, ℕ, zero, suc, ◌+◌, ◌<◌, ◌≤◌, true, rules, List, [], ◌∷◌, ◌++◌, Option, Some, None, All, length, ap, ◌∙◌, sym, subst, arith}
use Rattle.std.specs.Prelude.{replicate, drop}
use Rattle.std.proofs.lemmas.List.{length-append}
use Rattle.std.proofs.lemmas.List.Elements.{All-nil, All-cons, All-head, All-tail, All-append, All-from_recursion}
use Rattle.es3_objects.specs.declared.value.Value.TheVariants.{Obj, Bool}
use Rattle.es3_objects.specs.declared.value.Class.{Class}
use Rattle.es3_objects.specs.declared.value.Class.TheVariants as class
use Rattle.es3_heap.specs.Objects.{Property, Callable, Object, Objects, with_object, plain_attrs, hidden_attrs}
use Rattle.es3_heap.specs.Making.{bare, first_objects}
use Rattle.es3_convert.specs.Conversions.{to_string}
use Rattle.es3_live.specs.Live.{IsLive, HoldsLive, AreClosed}
use Rattle.es3_live.proofs.Reading.{LiveProps}
use Rattle.es3_live.proofs.Writing.{Grown, same_objects, grown_trans}
use Rattle.es3_live.proofs.Making.{with_object_grown}
use Rattle.live_rows.proofs.Changes.{defined_live}
use Rattle.rows.specs.Rows.{Native}
use Rattle.rows.specs.Names.{Tools, of_cajita, of_math, tools}
use Rattle.heap_rows.specs.Marks.{frozen_mark}
use Rattle.heap_rows.specs.Doing.{copied, record_object as record_of}
use Rattle.heap_rows.specs.Opening.{load_module, guard_names, common, place_of, built_ins_there, opened, own_function, cell_function, cell_record, with_module, with_modules, with_cell, with_cells, begun, fixed_values, with_imports, first_say, opened_for_one}
use Rattle.heap_rows.proofs.Made.{stored, entries, frozen_entries, record_object, native_object, native_objects, opened_is, opened_long, begun_long, one_long}
use Rattle.row_simulation.proofs.First.{simple_function, holder, hidden, hidden_props, hidden_functions, conversion_names, guards, global_names, conversions, first_list, first_list_is}

-- named functions that stand below a number
abbrev Below : ℕ → List ℕ × Native → Type 0
Below n m = place_of m.1 < n

-- the records

entries_live : (n : ℕ) (es : List (List ℕ × Native)) (ps : List Property) → All (Below n) es → LiveProps n ps → LiveProps n (entries es ps)
unfolding entries
entries_live n [] ps below live = live
entries_live n ((k, f) ∷ es) ps below live =
    entries_live n es _ (All-tail (Below n) (k, f) es below) (defined_live n k (Obj (place_of f)) plain_attrs ps (All-head (Below n) (k, f) es below) live)

tools_below : (t : Tools) → All (Below 82) (tools t)
tools_below of_cajita = search (rules, arith)
tools_below of_math = search (rules, arith)

record_holds : (t : Tools) → HoldsLive 82 (record_object t)
unfolding frozen_entries record_object
record_holds t = record {
  proto = omega arith;
  values = defined_live 82 frozen_mark (Bool true) hidden_attrs (entries (tools t) []) tt (entries_live 82 (tools t) [] (tools_below t) (All-nil (λ (p : Property). IsLive 82 p.value)));
}

-- the functions

native_holds : (f : Native) → HoldsLive 82 (native_object f)
unfolding native_object
native_holds f = record { proto = omega arith; values = All-nil (λ (p : Property). IsLive 82 p.value) }

natives_hold : (fs : List Native) → All (HoldsLive 82) (native_objects fs)
unfolding native_objects
natives_hold [] = All-nil (HoldsLive 82)
natives_hold (f ∷ fs) = All-cons (HoldsLive 82) (native_object f) (native_objects fs) (native_holds f) (natives_hold fs)

-- the first objects: those that have no properties, and those that hold others

plain_holds : (c : Class) (up : ℕ) (f : Option Callable) → up < 82 → HoldsLive 82 (bare c (Some up) f)
plain_holds c up f lt = record { proto = lt; values = All-nil (λ (p : Property). IsLive 82 p.value) }

below_top : HoldsLive 82 (bare class.Object (Some 0) None)
below_top = plain_holds class.Object 0 None (omega arith)

below_error : HoldsLive 82 (bare class.Object (Some 6) None)
below_error = plain_holds class.Object 6 None (omega arith)

function_holds : (number : ℕ) → HoldsLive 82 (simple_function number)
function_holds number = plain_holds class.Function 1 _ (omega arith)

-- functions by their names

functions_hold : (names : List (List ℕ)) (number : ℕ) → All (HoldsLive 82) (hidden_functions names number)
unfolding hidden_functions
functions_hold [] number = All-nil (HoldsLive 82)
functions_hold (name ∷ names) number = All-cons (HoldsLive 82) (simple_function number) (hidden_functions names (suc number)) (function_holds number) (functions_hold names (suc number))

hidden_live : (names : List (List ℕ)) (at : ℕ) → at + length names ≤ 82 → LiveProps 82 (hidden_props names at)
unfolding hidden_props
hidden_live [] at few = All-nil (λ (p : Property). IsLive 82 p.value)
hidden_live (name ∷ names) at few = All-cons (λ (p : Property). IsLive 82 p.value) (hidden name at) (hidden_props names (suc at)) (omega (arith, few)) (hidden_live names (suc at) (omega (arith, few)))

top_holds : HoldsLive 82 (holder None conversions)
top_holds = record { proto = tt; values = hidden_live conversion_names 28 (omega arith) }

runtime_holds : HoldsLive 82 (holder (Some 0) guards)
runtime_holds = record { proto = omega arith; values = hidden_live guard_names 12 (omega arith) }

globals_hold : HoldsLive 82 (holder None global_names)
globals_hold = record { proto = tt; values = All-from_recursion (λ (p : Property). IsLive 82 p.value) global_names (omega arith, tt) }

-- the prototypes, the object of the runtime and the global object
abbrev front : List Object
front = holder None conversions ∷ drop 1 first_objects ++ holder (Some 0) guards ∷ holder None global_names ∷ []

front_holds : All (HoldsLive 82) front
front_holds =
    All-from_recursion (HoldsLive 82) front
    (top_holds, (below_top, (below_top, (below_top, (below_top, (below_top, (below_top, (below_error, (below_error, (below_top, (runtime_holds, (globals_hold, tt))))))))))))

first_hold : All (HoldsLive 82) first_list
unfolding first_list
first_hold =
    All-append (HoldsLive 82) front (hidden_functions guard_names load_module ++ hidden_functions conversion_names to_string) front_holds
    (All-append (HoldsLive 82) (hidden_functions guard_names load_module) (hidden_functions conversion_names to_string) (functions_hold guard_names load_module) (functions_hold conversion_names to_string))

-- all of them

abbrev later_objects : List Object
later_objects = record_object of_cajita ∷ record_object of_math ∷ native_objects common

all_hold : All (HoldsLive 82) (first_list ++ later_objects)
all_hold =
    All-append (HoldsLive 82) first_list later_objects first_hold
    (All-cons (HoldsLive 82) (record_object of_cajita) (record_object of_math ∷ native_objects common) (record_holds of_cajita)
    (All-cons (HoldsLive 82) (record_object of_math) (native_objects common) (record_holds of_math) (natives_hold common)))

opened_objects : opened ≡ stored (replicate 64 0) (first_list ++ later_objects)
opened_objects = opened_is ∙ ap (λ h. stored h.counts (h.list ++ later_objects)) first_list_is

opened_there : built_ins_there opened
opened_there = let long = opened_long in omega (arith, long)

objects_long : length (first_list ++ later_objects) ≡ 82
objects_long = ap (λ h. length h.list) (sym opened_objects) ∙ opened_long

opened_closed : AreClosed opened
opened_closed = subst AreClosed (sym opened_objects) (record {
  prototypes = let long = objects_long in omega (arith, long);
  objects = subst (λ n. All (HoldsLive n) (first_list ++ later_objects)) (sym objects_long) all_hold;
})

-- a module's own functions

module_grown : (m : ℕ) (h : Objects) → AreClosed h → Grown h (with_module m h)
module_grown m h closed =
    let first = with_object_grown h (own_function m 0) closed (own_holds (length h.list) 0 closed.prototypes) in
    let second = with_object_grown _ (own_function m 1) first.closed (own_holds _ 1 first.closed.prototypes) in
    grown_trans first second
  where
    own_holds : (n i : ℕ) → 10 ≤ n → HoldsLive n (own_function m i)
    own_holds n i ten = record { proto = omega (arith, ten); values = All-nil (λ (p : Property). IsLive n p.value) }

modules_grown : (n : ℕ) (h : Objects) → AreClosed h → Grown h (with_modules n h)
modules_grown zero h closed = same_objects h closed
modules_grown (suc n) h closed = let first = modules_grown n h closed in grown_trans first (module_grown n (with_modules n h) first.closed)

-- a cell's functions, and its record

cell_grown : (c : ℕ) (h : Objects) → AreClosed h → Grown h (with_cell c h)
cell_grown c h closed =
    let at = length h.list in
    let one = with_object h (cell_function c 1) in
    let two = with_object one (cell_function c 2) in
    let first = with_object_grown h (cell_function c 1) closed (function_live (length h.list) 1 closed.prototypes) in
    let second = with_object_grown one (cell_function c 2) first.closed (function_live (length one.list) 2 first.closed.prototypes) in
    let x = length-append h.list (cell_function c 1 ∷ []) in
    let y = length-append one.list (cell_function c 2 ∷ []) in
    let third = with_object_grown two (cell_record c at) second.closed (record_live (length two.list) at (omega (arith, x, y))) in
    grown_trans first (grown_trans second third)
  where
    function_live : (n i : ℕ) → 10 ≤ n → HoldsLive n (cell_function c i)
    function_live n i ten = record { proto = omega (arith, ten); values = All-nil (λ (p : Property). IsLive n p.value) }

    record_live : (n at : ℕ) → at + 1 < n → HoldsLive n (cell_record c at)
    record_live n at below = record {
      proto = omega (arith, below);
      values = All-from_recursion (λ (p : Property). IsLive n p.value) (cell_record c at).props (omega (arith, below), (omega (arith, below), (tt, tt)));
    }

cells_grown : (k : ℕ) (h : Objects) → AreClosed h → Grown h (with_cells k h)
cells_grown zero h closed = same_objects h closed
cells_grown (suc k) h closed = let first = cells_grown k h closed in grown_trans first (cell_grown k (with_cells k h) first.closed)

begun_grown : (modules cells : ℕ) → Grown opened (begun modules cells)
begun_grown modules cells = let first = modules_grown modules opened opened_closed in grown_trans first (cells_grown cells (with_modules modules opened) first.closed)

pub begun_closed : (modules cells : ℕ) → AreClosed (begun modules cells)
begun_closed modules cells = (begun_grown modules cells).closed

pub begun_there : (modules cells : ℕ) → built_ins_there (begun modules cells)
begun_there modules cells = let long = opened_long in let more = (begun_grown modules cells).later.more in omega (arith, long, more)

-- what a module may import

fixed_live : (n say : ℕ) → 82 ≤ n → say + 1 < n → LiveProps n (copied (fixed_values say))
fixed_live n say many below =
    All-from_recursion (λ (p : Property). IsLive n p.value) (copied (fixed_values say))
    (tt, (omega (arith, many), (omega (arith, many), (omega (arith, many), (omega (arith, many), (omega (arith, many), (omega (arith, many), (omega (arith, many), (omega (arith, many), (omega (arith, below), (omega (arith, below), tt)))))))))))

imports_grown : (say : ℕ) (h : Objects) → AreClosed h → 82 ≤ length h.list → say + 1 < length h.list → Grown h (with_imports say h)
imports_grown say h closed many below =
    with_object_grown h (record_of (copied (fixed_values say))) closed (record { proto = let ten = closed.prototypes in omega (arith, ten); values = fixed_live (length h.list) say many below })

one_grown : Grown (begun 1 0) opened_for_one
unfolding opened_for_one
one_grown = let long = begun_long in imports_grown first_say (begun 1 0) (begun_closed 1 0) (omega (arith, long)) (omega (arith, long))

pub one_there : built_ins_there opened_for_one
one_there = let long = one_long in omega (arith, long)

pub one_closed : AreClosed opened_for_one
one_closed = one_grown.closed
