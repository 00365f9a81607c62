-- A store in which a page begins: the ten prototypes, the object of the runtime with its guards, and the global object; then the records `cajita` and `Math`, and the
-- built-in functions; then each module's own functions, each cell, and what a module may import.
use Rattle.std.specs.Prelude.{ℕ, zero, suc, ◌+◌, ◌≤◌, true, List, [], ◌∷◌, None, Some, length, codes}
use Rattle.es3_objects.specs.declared.value.Value.{Value}
use Rattle.es3_objects.specs.declared.value.Value.TheVariants.{Obj, Bool, Undefined}
use Rattle.es3_objects.specs.declared.value.Class.TheVariants as class
use Rattle.es3_objects.specs.declared.value.FuncKind.{FuncKind}
use Rattle.es3_objects.specs.declared.value.FuncKind.TheVariants.{Simple}
use Rattle.es3_objects.specs.declared.value.Proto.TheVariants as proto
use Rattle.es3_objects.specs.declared.value.Tag.{Tag}
use Rattle.es3_objects.specs.declared.value.Tag.TheVariants as tag
use Rattle.es3_heap.specs.Objects.{Object, Objects, plain_attrs, hidden_attrs, with_object}
use Rattle.es3_heap.specs.Properties.{define}
use Rattle.es3_heap.specs.Making.{new_objects, made, made_function, tagged, proto_id}
use Rattle.es3_convert.specs.Conversions.{to_string}
use Rattle.rows.specs.Rows as r
use Rattle.rows.specs.Names.{Tools, of_cajita, of_math, tools}
use Rattle.heap_rows.specs.Marks.{freeze, frozen_mark}
use Rattle.heap_rows.specs.Natives.{number_of, own_number, cell_number, tag_of_native, tag_of_tools, kind_of}
use Rattle.rows.specs.Document.{Node}
use Rattle.heap_rows.specs.Doing.{Page, record_object, copied, facet_object}

-- what has no name

-- a function by its number, as a property that `for in` passes over
abbrev pub with_hidden_function : List ℕ → ℕ → ℕ → Objects → Objects
with_hidden_function name number o h = define (made_function (Simple number) 0 h) o name (Obj (length h.list)) hidden_attrs

-- functions by their names, whose numbers follow one another
abbrev pub with_hidden_functions : List (List ℕ) → ℕ → ℕ → Objects → Objects
with_hidden_functions [] number o h = h
with_hidden_functions (name ∷ names) number o h = with_hidden_functions names (suc number) o (with_hidden_function name number o h)

-- the object `___` and the global object stand behind the ten prototypes
abbrev pub runtime_id : ℕ
runtime_id = 10

abbrev pub globals_id : ℕ
globals_id = 11

-- `loadModule` and the guards, by their names in the order of their numbers; those of the built-in functions are below 64
abbrev pub load_module : ℕ
load_module = 64

abbrev pub guard_names : List (List ℕ)
guard_names =
    codes "loadModule" ∷ codes "readImport" ∷ codes "func" ∷ codes "args" ∷ codes "initializeArray" ∷ codes "initializeMap" ∷ codes "key" ∷ codes "readPub"
    ∷ codes "setPub" ∷ codes "deletePub" ∷ codes "inPub" ∷ codes "keysPub" ∷ codes "callPub" ∷ codes "asSimpleFunc" ∷ codes "construct" ∷ codes "instanceOf" ∷ []

abbrev pub with_objects : Objects → Objects
with_objects h = made class.Object None (made class.Object (Some (proto_id proto.Object)) h)

abbrev pub with_guards : Objects → Objects
with_guards h = with_hidden_functions guard_names load_module runtime_id h

-- 15.2.4.2, 15.2.4.4: `toString` and `valueOf` of the prototype of Object
abbrev pub with_conversions : Objects → Objects
with_conversions h = with_hidden_functions (codes "toString" ∷ codes "valueOf" ∷ []) to_string (proto_id proto.Object) h

-- the only global name is `___`
unfoldable pub first : Objects
first = with_conversions (define (with_guards (with_objects new_objects)) globals_id (codes "___") (Obj runtime_id) hidden_attrs)

-- so many objects have no name
abbrev pub first_count : ℕ
first_count = 30

-- the built-ins

-- the built-in functions in the order of their numbers, from 2 on
abbrev pub common : List r.Native
common =
    r.freeze ∷ r.is_frozen ∷ r.copy ∷ r.snapshot ∷ r.is_array ∷ r.is_record ∷ r.keys ∷ r.abs ∷ r.floor ∷ r.ceil ∷ r.round ∷ r.max ∷ r.min
    ∷ r.number_from ∷ r.text_from ∷ r.truth_from ∷ r.makes r.error ∷ r.makes r.type_error ∷ r.makes r.range_error ∷ r.call ∷ r.apply
    ∷ r.char_at ∷ r.char_code_at ∷ r.index_of ∷ r.last_index_of ∷ r.slice_text ∷ r.substring ∷ r.split ∷ r.concat_text
    ∷ r.concat ∷ r.join ∷ r.slice ∷ r.push ∷ r.unshift ∷ r.pop ∷ r.shift ∷ r.turn
    ∷ r.get_tag_name ∷ r.get_parent_node ∷ r.get_child_nodes ∷ r.get_element_by_id ∷ r.get_attribute ∷ r.set_attribute ∷ r.get_text ∷ r.set_text ∷ r.create_element ∷ r.create_text_node ∷ r.append_child ∷ r.remove_child ∷ r.on ∷ []

-- where each stands: behind the objects without a name, by its number
abbrev pub place_of : r.Native → ℕ
place_of f = number_of f + 30

-- the last of them has the number 51
abbrev pub built_ins_there : Objects → Type 0
built_ins_there h = first_count + 52 ≤ length h.list

-- a record of functions
abbrev pub with_tools : List (List ℕ × r.Native) → ℕ → Objects → Objects
with_tools [] o h = h
with_tools ((k, f) ∷ rest) o h = with_tools rest o (define h o k (Obj (place_of f)) plain_attrs)

abbrev pub with_record : Tools → Objects → Objects
with_record t h = tagged (freeze (with_tools (tools t) (length h.list) (made class.Object (Some 0) h)) (length h.list)) (length h.list) (tag_of_tools t)

-- a function of the page
abbrev pub with_native : r.Native → Objects → Objects
with_native f h = tagged (made_function (kind_of f) 0 h) (length h.list) (tag_of_native f)

abbrev pub with_natives : List r.Native → Objects → Objects
with_natives [] h = h
with_natives (f ∷ fs) h = with_natives fs (with_native f h)

unfoldable pub opened : Objects
opened = with_natives common (with_record of_math (with_record of_cajita first))

-- nothing is in a cell or a queue yet, and there is no node
abbrev pub empty_page : Page
empty_page = record { cells = λ c. Undefined; queues = λ m. []; nodes = λ root. []; facets = λ root. []; handlers = λ root. [] }

-- with modules and cells

-- a function that the page makes, with a name
abbrev pub named_function : FuncKind → Tag → Object
named_function k t = record { class = class.Function; proto = Some 1; callable = Some (record { kind = k; maker = 0 }); tag = t; props = [] }

abbrev pub own_function : ℕ → ℕ → Object
own_function m i = named_function (Simple (own_number m i)) (tag.Own m i)

abbrev pub cell_function : ℕ → ℕ → Object
cell_function c i = named_function (Simple (cell_number c i)) (tag.Cell c i)

-- a module's own `say` and `later`
abbrev pub with_module : ℕ → Objects → Objects
with_module m h = with_object (with_object h (own_function m 0)) (own_function m 1)

-- the frozen record of a cell, whose functions stand at this place and at the next one
abbrev pub cell_record : ℕ → ℕ → Object
cell_record c at = record {
  class = class.Object;
  proto = Some 0;
  callable = None;
  tag = tag.Cell c 0;
  props = record { key = codes "get"; value = Obj at; attrs = plain_attrs } ∷ record { key = codes "set"; value = Obj (at + 1); attrs = plain_attrs } ∷ record { key = frozen_mark; value = Bool true; attrs = hidden_attrs } ∷ [];
}

abbrev pub with_cell : ℕ → Objects → Objects
with_cell c h = with_object (with_object (with_object h (cell_function c 1)) (cell_function c 2)) (cell_record c (length h.list))

abbrev pub with_modules : ℕ → Objects → Objects
with_modules zero h = h
with_modules (suc n) h = with_module n (with_modules n h)

abbrev pub with_cells : ℕ → Objects → Objects
with_cells zero h = h
with_cells (suc k) h = with_cell k (with_cells k h)

-- with so many modules and so many cells
abbrev pub begun : ℕ → ℕ → Objects
begun n k = with_cells k (with_modules n opened)

-- the objects that stand for the first nodes of a root
abbrev pub with_facets : ℕ → ℕ → Objects → Objects
with_facets root zero h = h
with_facets root (suc k) h = with_object (with_facets root k h) (facet_object root k)

-- those of the nodes of each root, from a root on
abbrev pub with_roots : ℕ → List (List Node) → Objects → Objects
with_roots root [] h = h
with_roots root (ns ∷ rest) h = with_roots (suc root) rest (with_facets root (length ns) h)

-- what a module may import

-- where `cajita` and `Math` stand
abbrev pub place_of_tools : Tools → ℕ
place_of_tools of_cajita = 30
place_of_tools of_math = 31

-- the values of the fixed names; the module's own `say` stands at a place, and its `later` behind it
abbrev pub fixed_values : ℕ → List (List ℕ × Value)
fixed_values say =
    (codes "undefined", Undefined) ∷ (codes "cajita", Obj (place_of_tools of_cajita)) ∷ (codes "Math", Obj (place_of_tools of_math))
    ∷ (codes "Error", Obj (place_of (r.makes r.error))) ∷ (codes "TypeError", Obj (place_of (r.makes r.type_error))) ∷ (codes "RangeError", Obj (place_of (r.makes r.range_error)))
    ∷ (codes "Number", Obj (place_of r.number_from)) ∷ (codes "String", Obj (place_of r.text_from)) ∷ (codes "Boolean", Obj (place_of r.truth_from))
    ∷ (codes "say", Obj say) ∷ (codes "later", Obj (say + 1)) ∷ []

-- an object that has them, without a name
abbrev pub with_imports : ℕ → Objects → Objects
with_imports say h = with_object h (record_object (copied (fixed_values say)))

-- where a page of one module without grants begins: its `say` stands behind the built-ins, and what it may import behind its `later`
abbrev pub first_say : ℕ
first_say = first_count + 52

abbrev pub imports_id : ℕ
imports_id = first_say + 2

unfoldable pub opened_for_one : Objects
opened_for_one = with_imports first_say (begun 1 0)
