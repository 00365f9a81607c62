-- How a page and its turns begin in the interpreter: its store, what a module may import, the call of a key, the call of a function that waited or that is told what happens to a node.
use Rattle.std.specs.Prelude.{ℕ, ◌+◌, ◌*◌, List, [], ◌∷◌, ◌++◌, length, if◌then◌else◌}
use Rattle.plans.specs.Plans.{ends, stops}
use Rattle.page_deeds.specs.Deeds as deed
use Rattle.page_deeds.specs.Deeds.{Plain, Grant, a_cell, a_result, a_plain, a_root, Grants}
use Rattle.es3_objects.specs.declared.value.Value.{Value}
use Rattle.es3_objects.specs.declared.value.Value.TheVariants as v
use Rattle.es3_heap.specs.Objects.{Objects, with_object}
use Rattle.es3_language.specs.Store.{Store, with_heap}
use Rattle.es3_language.specs.Natives.{Reply, value_reply, throw_reply, invoke_reply, stop_reply}
use Rattle.es3_language.specs.Meaning.{gave, threw, Plan, call_plan}
use Rattle.rows.specs.Events.{call_key}
use Rattle.heap_rows.specs.Doing.{Done, record_object, copied, does}
use Rattle.heap_rows.specs.Opening.{place_of, first_say, fixed_values, begun, globals_id}
use Rattle.doc_nodes.specs.Rows.{Doc}
use Rattle.guard_marks.specs.Closures.{is_closure}
use Rattle.tamed_dom.specs.Lent as lent
use Rattle.tamed_dom.specs.Lent.{Lent, Held, object_of}
use Rattle.page_natives.specs.Natives.{Kept, page_of}

-- where a page begins with so many modules, so many cells and a document: the objects of the nodes of its roots stand behind those of modules and cells
abbrev pub page_begun : ℕ → ℕ → Doc → Held
page_begun modules cells d = lent.begun (length d.roots) d (begun modules cells)

abbrev pub page_objects : ℕ → ℕ → Doc → Objects
page_objects modules cells d = (page_begun modules cells d).heap

-- what is lent of the document then
abbrev pub page_lent : ℕ → ℕ → Doc → Lent
page_lent modules cells d = (page_begun modules cells d).lent

abbrev pub page_store : ℕ → ℕ → Doc → Store
page_store modules cells d = record { heap = page_objects modules cells d; scopes = []; codes = []; globals = globals_id; shared = [] }

-- where a module's `say` stands, and among so many modules the record of a cell
abbrev pub say_place : ℕ → ℕ
say_place m = first_say + 2 * m

abbrev pub cell_place : ℕ → ℕ → ℕ
cell_place modules c = first_say + 2 * modules + (3 * c + 2)

-- what the loads of modules gave
abbrev pub Results : Type 0
Results = ℕ → Value

abbrev pub plain_value : Plain → Value
plain_value deed.null = v.Null
plain_value (deed.truth b) = v.Bool b
plain_value (deed.number n) = v.Num n
plain_value (deed.text us) = v.Text us

-- a root is the object of its first node
abbrev pub granted_value : ℕ → Results → Lent → Grant → Value
granted_value modules r z (a_cell c) = v.Obj (cell_place modules c)
granted_value modules r z (a_result m) = r m
granted_value modules r z (a_plain p) = plain_value p
granted_value modules r z (a_root root) = object_of root 0 z

-- what a module is granted, under its names
abbrev pub granted_pairs : ℕ → Results → Lent → Grants → List (List ℕ × Value)
granted_pairs modules r z [] = []
granted_pairs modules r z ((x, g) ∷ gs) = (x, granted_value modules r z g) ∷ granted_pairs modules r z gs

-- a new object without a name, of what a module may import: the fixed names, and what it is granted
abbrev pub with_imports_of : ℕ → List (List ℕ × Value) → Objects → Objects
with_imports_of m granted h = with_object h (record_object (copied (fixed_values (say_place m) ++ granted)))

-- a reply to the page itself
abbrev pub reply_plan : Reply → ℕ → Store → Plan
reply_plan (value_reply x) m s = ends (gave x) s
reply_plan (throw_reply x) m s = ends (threw x) s
reply_plan (invoke_reply recorded f this vs) m s = call_plan f this vs m s
reply_plan (stop_reply f) m s = stops f s

-- the key of a value is looked up for a module, and the value is called by it: the value stands first, and the arguments behind it
abbrev pub key_done : ℕ → List ℕ → List Value → Objects → Kept → Done
key_done m key vs h z = (does place_of m (call_key key (length vs)) vs h (page_of z) []).done

abbrev pub key_plan : ℕ → List ℕ → List Value → Store → Kept → Plan
key_plan m key vs s z = let d = key_done m key vs s.heap z in reply_plan d.reply m (with_heap s d.heap)

-- a function that waited is called for a module
abbrev pub tick_plan : ℕ → Value → Store → Plan
tick_plan m f s = call_plan f v.Undefined [] m s

-- a function is told what happens to a node, of which it is passed the object; it runs as its maker. What is no function of a text that modules may use isn't called
abbrev pub node_plan : Value → Value → Store → Plan
node_plan node f s = if is_closure s.heap f then call_plan f v.Undefined (node ∷ []) 0 s else ends (gave v.Undefined) s
