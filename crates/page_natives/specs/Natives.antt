-- The natives of a page: what each answers, by its number, and what they keep.
use Rattle.std.specs.Prelude.{ℕ, ◌-◌, ◌/◌, ◌%◌, ◌<◌, Bool, false, List, [], ◌∷◌, ◌++◌, All, Option, Some, None, Result, Ok, Err, map, length, get_or, set, replicate, codes, nat_eq, nat_lt, drop, if◌then◌else◌}
use Rattle.plans.specs.Plans.{Fault}
use Rattle.es3_objects.specs.declared.value.Value.{Value}
use Rattle.es3_objects.specs.declared.value.Value.TheVariants as v
use Rattle.es3_heap.specs.Objects.{Objects}
use Rattle.es3_convert.specs.Conversions.{text_of}
use Rattle.es3_language.specs.Natives.{Turn, Table}
use Rattle.es3_live.specs.Live.{IsLive, IsLiveId}
use Rattle.html_kept.specs.Table.{Answers, no_urls}
use Rattle.html_urls.specs.Answers.{for_documents}
use Rattle.url_rule.specs.Table.{rows_of}
use Rattle.heap_rows.specs.Doing.{Told, said, heard, Done, Page, gives}
use Rattle.heap_rows.specs.Opening.{load_module as load_module_number, built_ins_there, runtime_id, imports_id}
use Rattle.row_outcomes.specs.Comes.{throws}
use Rattle.row_outcomes.specs.Arguments.{argument, after}
use Rattle.dom_facets.specs.Places.{put_at}
use Rattle.guard_marks.specs.Closures.{is_closure}
use Rattle.dom_handlers.specs.declared.kinds.Handler.{Handler}
use Rattle.tamed_dom.specs.declared.methods.NodeMethod.{NodeMethod}
use Rattle.tamed_dom.specs.Lent.{Lent, told as without_line}
use Rattle.tamed_dom.specs.Ends as ends
use Rattle.tamed_dom.specs.Methods.{node_turn}
use Rattle.node_rows.specs.View.{page_seen}
use Rattle.guard_runtime.specs.declared.Guard.{Guard}
use Rattle.guard_runtime.specs.Guards as guards
use Rattle.page_log.specs.Items.{touch_told, all_told}
use Rattle.page_natives.specs.Answered.{turn_of}
use Rattle.page_natives.specs.declared.built_ins.BuiltIn.{BuiltIn}
use Rattle.page_natives.specs.declared.natives.Callee.{Callee}
use Rattle.page_natives.specs.declared.natives.Callee.TheVariants as c
use Rattle.page_natives.specs.declared.natives.PageNatives.{PageNatives}
use Rattle.page_natives.specs.BuiltIns.{done_of, built_in}
use Rattle.page_natives.specs.Nodes.{node_method, changes_told, no_nodes}

-- what is kept: the object of the runtime; for each module the object of what it may import; whether touches are printed; what the log
-- prints; what each cell holds; for each module the functions that wait to be called, the first in front; what is lent of the document, and the rule for URLs in it
pub record Kept : Type 0 where
  pub runtime : ℕ
  pub imports : List ℕ
  pub touching : Bool
  pub told : List Told
  pub cells : List Value
  pub waiting : List (List Value)
  pub dom : Lent
  pub answers : Answers

abbrev pub kept_of : PageNatives → Kept
kept_of n = record {
  runtime = n.runtime;
  imports = n.imports.items;
  touching = n.touching;
  told = all_told n.told.items;
  cells = n.cells.items;
  waiting = map (λ q. q.items) n.waiting.items;
  dom = n.dom;
  answers = for_documents (rows_of n.urls.table.items) n.base;
}

-- a page has 64 modules at most; before a module is loaded the runtime stands in the place of what it may import
abbrev pub new_kept : ℕ → Bool → Lent → Answers → Kept
new_kept runtime touching dom answers =
    record { runtime = runtime; imports = replicate 64 runtime; touching = touching; told = []; cells = []; waiting = []; dom = dom; answers = answers }

-- a module may import what this object has
abbrev pub importing : ℕ → ℕ → Kept → Kept
importing m o z = record z { imports = set z.imports m o }

abbrev pub imports_of : ℕ → Kept → ℕ
imports_of m z = get_or z.imports m z.runtime

-- something is told, touches where they are asked for
abbrev pub tells : List Told → Kept → Kept
tells items z = record z { told = z.told ++ heard z.touching items }

-- where one module begins that is loaded by itself, without touches and without a node
abbrev pub first_kept : Kept
first_kept = importing 0 imports_id (new_kept runtime_id false no_nodes no_urls)

-- what is kept, as rows see it: nothing waits in a queue in which nothing was put, and a cell into which nothing was put holds nothing

abbrev pub queue_of : ℕ → List (List Value) → List Value
queue_of m qs = get_or qs m []

abbrev pub cell_value : ℕ → List Value → Value
cell_value cell cells = get_or cells cell v.Undefined

abbrev pub page_of : Kept → Page
page_of z = page_seen (λ cell. cell_value cell z.cells) (λ m. queue_of m z.waiting) z.dom

-- the callees by their numbers: the built-in functions and the methods of nodes, `loadModule`, the guards; and behind them four for each module and cell

abbrev pub own_callee : ℕ → ℕ → Callee
own_callee i owner = if nat_eq i 0 then c.Say owner else if nat_eq i 1 then c.Later owner else if nat_eq i 2 then c.Get owner else c.Set owner

abbrev pub other_callee : Option BuiltIn → Option NodeMethod → Option Guard → Option Callee
other_callee (Some f) m g = Some (c.BuiltIn f)
other_callee None (Some m) g = Some (c.OfNode m)
other_callee None None (Some g) = Some (c.Guard g)
other_callee None None None = None

abbrev pub callee_of : ℕ → Option Callee
callee_of n =
    if nat_lt n 128 then if nat_eq n load_module_number then Some c.LoadModule else other_callee (built_in n) (node_method n) (guards.guard_at n)
    else Some (own_callee (n % 4) (n / 4 - 32))

-- say(v) of a module: the text of v is said

abbrev pub say_done : Result (List ℕ) Fault → Objects → Done
say_done t h = after t h (λ us. gives v.Undefined h [])

abbrev pub with_said : ℕ → Result (List ℕ) Fault → Kept → Kept
with_said m (Ok us) z = tells (said m us ∷ []) z
with_said m (Err f) z = z

-- later(f) of a module: f waits, where it is a function of a text that modules may use

abbrev pub later_done : Bool → ℕ → Objects → Done
later_done waits by h = if waits then gives v.Undefined h [] else throws (codes "bad argument") by h

-- a function waits behind all others in the queue of a module
abbrev pub added : ℕ → Value → List (List Value) → List (List Value)
added m f qs = put_at [] m (queue_of m qs ++ f ∷ []) qs

-- the first function in the queue of a module no longer waits
abbrev pub rest_of : ℕ → List (List Value) → List (List Value)
rest_of m qs = set qs m (drop 1 (queue_of m qs))

abbrev pub without_first : ℕ → Kept → Kept
without_first m z = record z { waiting = rest_of m z.waiting }

abbrev pub with_waiting : ℕ → Bool → Value → Kept → Kept
with_waiting m waits x z = if waits then record z { waiting = added m x z.waiting } else z

-- get() and set(v) of a cell

abbrev pub cell_done : ℕ → List Value → Objects → Done
cell_done cell cells h = gives (cell_value cell cells) h []

abbrev pub set_done : Objects → Done
set_done h = gives v.Undefined h []

abbrev pub with_kept : ℕ → Value → Kept → Kept
with_kept cell x z = record z { cells = put_at v.Undefined cell x z.cells }

-- a method of a node, by what it leaves of what is lent: the line of its change is told
abbrev pub with_node_turn : Turn Lent → Kept → Kept
with_node_turn t z = record z { told = z.told ++ changes_told t.state.change; dom = without_line t.state }

-- what a callee comes to, and what is kept then

abbrev pub done_by : Callee → ℕ → Value → List Value → Objects → Kept → Done
done_by (c.BuiltIn f) by this args h z = done_of f by this args h
done_by (c.OfNode m) by this args h z = ends.done_of (node_turn z.answers m by this args h z.dom)
done_by c.LoadModule by this args h z = guards.load_module z.runtime (imports_of by z) by (argument 0 args) h
done_by (c.Guard g) by this args h z = guards.done_of g by args h
done_by (c.Say m) by this args h z = say_done (text_of h (argument 0 args)) h
done_by (c.Later m) by this args h z = later_done (is_closure h (argument 0 args)) by h
done_by (c.Get cell) by this args h z = cell_done cell z.cells h
done_by (c.Set cell) by this args h z = set_done h

-- what a callee leaves: a guard tells what it touches
abbrev pub kept_by : Callee → ℕ → Value → List Value → Objects → Kept → Kept
kept_by (c.OfNode m) by this args h z = with_node_turn (node_turn z.answers m by this args h z.dom) z
kept_by (c.Guard g) by this args h z = tells (guards.done_of g by args h).items z
kept_by (c.Say m) by this args h z = with_said m (text_of h (argument 0 args)) z
kept_by (c.Later m) by this args h z = with_waiting m (is_closure h (argument 0 args)) (argument 0 args) z
kept_by (c.Set cell) by this args h z = with_kept cell (argument 0 args) z
kept_by f by this args h z = z

-- no function of a page has another number
abbrev pub turn_by : Option Callee → ℕ → Value → List Value → Objects → Kept → Turn Kept
turn_by (Some f) by this args h z = turn_of (done_by f by this args h z) (kept_by f by this args h z)
turn_by None by this args h z = turn_of (throws (codes "not a function") by h) z

abbrev pub page_table : Table Kept
page_table = record { answer = λ which by this args h z. turn_by (callee_of which) by this args h z; touch = λ i z. tells (touch_told i ∷ []) z }

-- what is kept fits a store's objects: the runtime and what modules may import are there, the built-in functions and their two records, and so is all that a cell holds and that waits; so are the objects of
-- nodes, and what is called when something happens to them
pub record Fits (z : Kept) (h : Objects) : Type 0 where
  pub runtime : z.runtime < length h.list
  pub imports : All (λ o. o < length h.list) z.imports
  pub built_ins : built_ins_there h
  pub cells : All (IsLive (length h.list)) z.cells
  pub waiting : All (All (IsLive (length h.list))) z.waiting
  pub facets : All (IsLiveId (length h.list)) z.dom.facets
  pub handlers : All (λ (x : Handler). IsLive (length h.list) x.function) z.dom.handlers

abbrev pub kept_fits : Kept → Objects → Type 0
kept_fits z h = Fits z h
