-- The store in which a text begins that runs as it stands: the global names (ES3 15.1), and what the prototypes have (15.2.4 to 15.11.4). `Object`, `Function` and `Array`
-- stand behind all that a page begins with, and the global object behind them.
use Rattle.std.specs.Prelude.{ℕ, ◌+◌, true, false, List, [], ◌∷◌, None, map, length, codes}
use Rattle.es3_objects.specs.declared.value.Value.TheVariants.{Undefined, Obj}
use Rattle.es3_objects.specs.declared.value.Class.TheVariants as class
use Rattle.es3_objects.specs.declared.value.Attrs.{Attrs}
use Rattle.es3_objects.specs.declared.value.FuncKind.TheVariants.{Constructor}
use Rattle.es3_objects.specs.declared.value.Proto.{Proto}
use Rattle.es3_objects.specs.declared.value.Proto.TheVariants as proto
use Rattle.es3_heap.specs.Objects.{Objects, hidden_attrs, fixed_attrs}
use Rattle.es3_heap.specs.Properties.{define}
use Rattle.es3_heap.specs.Making.{made, made_function, proto_id}
use Rattle.rows.specs.Rows as r
use Rattle.rows.specs.Names.{of_math, function_methods, text_methods, array_methods}
use Rattle.heap_rows.specs.Marks.{call_mark, marked}
use Rattle.heap_rows.specs.Opening.{runtime_id, place_of, place_of_tools}

-- the numbers of `Object`, `Function` and `Array`
abbrev pub object_number : ℕ
object_number = 59

abbrev pub function_number : ℕ
function_number = 60

abbrev pub array_number : ℕ
array_number = 61

-- the record `Math`
abbrev pub math_place : ℕ
math_place = place_of_tools of_math

-- the global functions: the name of each, where it stands, and its prototype; the first three stand from n on
abbrev pub constructors : ℕ → List (List ℕ × ℕ × Proto)
constructors n =
    (codes "Object", n, proto.Object) ∷ (codes "Function", n + 1, proto.Function) ∷ (codes "Array", n + 2, proto.Array)
    ∷ (codes "String", place_of r.text_from, proto.String) ∷ (codes "Number", place_of r.number_from, proto.Number) ∷ (codes "Boolean", place_of r.truth_from, proto.Boolean)
    ∷ (codes "Error", place_of (r.makes r.error), proto.Error) ∷ (codes "TypeError", place_of (r.makes r.type_error), proto.TypeError)
    ∷ (codes "RangeError", place_of (r.makes r.range_error), proto.RangeError) ∷ []

-- a property that `for in` passes over and that holds an object
abbrev pub with_hidden : ℕ → List ℕ → ℕ → Objects → Objects
with_hidden o k place h = define h o k (Obj place) hidden_attrs

-- a global function, which has its prototype (15.2.3.1), and which that has as `constructor` (15.2.4.1)
abbrev pub with_constructor : ℕ → List ℕ × ℕ × Proto → Objects → Objects
with_constructor globals c h =
    with_hidden globals c.0 c.1 (with_hidden (proto_id c.2) (codes "constructor") c.1 (define h c.1 (codes "prototype") (Obj (proto_id c.2)) fixed_attrs))

abbrev pub with_constructors : ℕ → List (List ℕ × ℕ × Proto) → Objects → Objects
with_constructors globals [] h = h
with_constructors globals (c ∷ cs) h = with_constructors globals cs (with_constructor globals c h)

unfoldable pub with_names : ℕ → ℕ → Objects → Objects
with_names globals n h = with_constructors globals (constructors n) h

-- methods by their names and places
abbrev pub placed : List (List ℕ × r.Native) → List (List ℕ × ℕ)
placed ms = map (λ m. (m.0, place_of m.1)) ms

abbrev pub with_methods : ℕ → List (List ℕ × ℕ) → Objects → Objects
with_methods o [] h = h
with_methods o (m ∷ ms) h = with_methods o ms (with_hidden o m.0 m.1 h)

-- 15.1.1.3, 8.6.1: DontEnum and DontDelete
abbrev pub global_attrs : Attrs
global_attrs = record { read_only = false; dont_enum = true; dont_delete = true; internal = false }

-- the three functions, and a global object without a prototype that has `undefined`
abbrev pub with_functions : Objects → Objects
with_functions h = made_function (Constructor array_number) 0 (made_function (Constructor function_number) 0 (made_function (Constructor object_number) 0 h))

abbrev pub with_globals : ℕ → Objects → Objects
with_globals globals h = define (made class.Object None h) globals (codes "undefined") Undefined global_attrs

-- 15.3.4, 15.4.4, 15.5.4: the methods of the prototypes
unfoldable pub with_prototypes : Objects → Objects
with_prototypes h =
    with_methods (proto_id proto.Array) (placed array_methods) (with_methods (proto_id proto.String) (placed text_methods) (with_methods (proto_id proto.Function) (placed function_methods) h))

-- the marks of methods that a prototype has and that modules may call
abbrev pub with_call_marks : ℕ → List (List ℕ) → Objects → Objects
with_call_marks o [] h = h
with_call_marks o (k ∷ ks) h = with_call_marks o ks (marked h o (call_mark k))

-- those of arrays that change none, and all of texts
abbrev pub array_calls : List (List ℕ)
array_calls = codes "concat" ∷ codes "join" ∷ codes "slice" ∷ []

abbrev pub text_calls : List (List ℕ)
text_calls = map (λ m. m.0) text_methods

unfoldable pub with_marks : Objects → Objects
with_marks h = with_call_marks (proto_id proto.Array) array_calls (with_call_marks (proto_id proto.String) text_calls h)

-- the global object, at a place: the global functions, of which the first three stand from n on, `Math`, and the object of the runtime
abbrev pub with_globals_named : ℕ → ℕ → Objects → Objects
with_globals_named globals n h = with_hidden globals (codes "___") runtime_id (with_hidden globals (codes "Math") math_place (with_names globals n (with_globals globals h)))

-- `Object`, `Function`, `Array` and the global object stand behind what was there
abbrev pub named_from : ℕ → Objects → Objects
named_from n h = with_marks (with_prototypes (with_globals_named (n + 3) n (with_functions h)))

unfoldable pub with_global_names : Objects → Objects
with_global_names h = named_from (length h.list) h

-- where the global object stands, by the objects that were there before
abbrev pub text_globals : Objects → ℕ
text_globals h = length h.list + 3
