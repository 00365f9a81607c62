-- Where a page is while it runs, and what it has come to.
use Rattle.std.specs.Prelude.{◌≡◌, ℕ, ◌≤◌, List, length, Some, Result, Ok, Err, get_or}
use Rattle.plans.specs.Plans.{Run as RunOf, number_fault, depth_fault, convert_fault, over, stopped, out}
use Rattle.page_deeds.specs.Deeds.{Grants, Label, to_click, to_input, of_click, of_input}
use Rattle.dom_handlers.specs.declared.kinds.EventKind.{EventKind}
use Rattle.dom_handlers.specs.declared.kinds.EventKind.TheVariants.{Click, Input}
use Rattle.es3_tree.specs.Tree as t
use Rattle.es3_objects.specs.declared.value.Value.{Value}
use Rattle.es3_objects.specs.declared.value.Value.TheVariants.{Undefined}
use Rattle.es3_objects.specs.declared.value.Stop.{Stop}
use Rattle.es3_objects.specs.declared.value.Stop.TheVariants as stop
use Rattle.es3_heap.specs.Objects.{Objects}
use Rattle.es3_language.specs.Store.{Store, with_heap}
use Rattle.es3_language.specs.Meaning.{Completion as EsCompletion, Run as TurnRun}
use Rattle.es3_moves.specs.declared.natives.Completion.{Completion}
use Rattle.es3_machine.specs.Machine.{completed, a_program, run_started}
use Rattle.es3_machine.specs.Held.{Held, started_of, store_in}
use Rattle.page_natives.specs.Natives.{Kept, kept_of, importing, page_table}
use Rattle.module_loader.specs.Turns.{Results, granted_pairs, with_imports_of}
use Rattle.page_runner.specs.Page.{Deed, Run, no_results}
use Rattle.page_runner.specs.declared.runner.Runner.{Runner}

-- a machine at its top, over these objects, is where the meaning has this store
abbrev pub HasStore : Objects → Held → Store → Type 0
HasStore h m x = x ≡ store_in h m

abbrev pub results_of : List Value → Results
results_of vs = λ m. get_or vs m Undefined

-- there is a result for each module
abbrev pub Holds : Runner → Type 0
Holds p = (p.modules ≤ 64) × (length p.results.items ≡ p.modules)

-- a run was cut for good, with this kept; want of memory says nothing
abbrev pub IsCut : {E : Type 0} → Stop → Kept → RunOf E Store Kept → Type 0
IsCut stop.Number z r = (x : Store) × (n : ℕ) × (r ≡ stopped number_fault x z n)
IsCut stop.Depth z r = (x : Store) × (n : ℕ) × (r ≡ stopped depth_fault x z n)
IsCut stop.Convert z r = (x : Store) × (n : ℕ) × (r ≡ stopped convert_fault x z n)
IsCut stop.Steps z r = (x : Store) × (n : ℕ) × (r ≡ out x z n)
IsCut stop.Memory z r = Unit {0}

-- the run of a turn is over, where the runner is now
pub record TurnOver (c : Completion) (r : TurnRun Kept) (p : Runner) : Type 0 where
  pub how : EsCompletion
  pub store : Store
  pub here : HasStore p.heap p.machine store
  pub run : r ≡ over how store (kept_of p.natives) p.left
  pub came_to : completed how ≡ c

abbrev pub TurnCame : Result Completion Stop → TurnRun Kept → Runner → Type 0
TurnCame (Ok c) r p = TurnOver c r p
TurnCame (Err e) r p = IsCut e (kept_of p.natives) r

-- what was started on the machine has run, from wherever that was
abbrev pub RunsOn : Runner → Result Completion Stop → Runner → Type 0
RunsOn p result q = (x : Store) → HasStore p.heap p.machine x → TurnCame result (run_started page_table (started_of p.machine) x (kept_of p.natives) p.left) q

-- deeds are done, where the runner is now
pub record DeedsOver (r : Run) (p : Runner) : Type 0 where
  pub store : Store
  pub here : HasStore p.heap p.machine store
  pub run : r ≡ over (results_of p.results.items) store (kept_of p.natives) p.left

abbrev pub Came : Result (Unit {0}) Stop → Run → Runner → Type 0
Came (Ok u) r p = DeedsOver r p
Came (Err e) r p = IsCut e (kept_of p.natives) r

-- what comes, for whatever store the machine had before
abbrev pub From : Runner → (Results → Store → Kept → ℕ → Type 0) → Type 0
From p P = (x : Store) → HasStore p.heap p.machine x → P (results_of p.results.items) x (kept_of p.natives) p.left

-- the program of a module is started, where it may import what it is granted
pub record LoadStarts (m : ℕ) (p : t.Tree t.program) (gs : Grants) (before after : Runner) : Type 0 where
  pub started : started_of after.machine ≡ Some (a_program p m)
  pub heap : after.heap ≡ with_imports_of m (granted_pairs before.modules (results_of before.results.items) (kept_of before.natives).dom gs) before.heap
  pub here : (x : Store) → HasStore before.heap before.machine x → HasStore after.heap after.machine (with_heap x after.heap)
  pub kept : kept_of after.natives ≡ importing m (length before.heap.list) (kept_of before.natives)
  pub left : after.left ≡ before.left

-- what happens to a root's node, as a deed, and what the log calls it; the text is that of an input
abbrev pub node_deed : EventKind → ℕ → List ℕ → ℕ → ℕ → List ℕ → Deed
node_deed Click k id root n us = to_click k id root n
node_deed Input k id root n us = to_input k id root n us

abbrev pub node_label : EventKind → ℕ → List ℕ → ℕ → Label
node_label Click k id root = of_click k id root
node_label Input k id root = of_input k id root

-- before its first deed
pub record Begins (p : Runner) (x : Store) (z : Kept) (m n : ℕ) : Type 0 where
  pub modules : p.modules ≡ m
  pub results : results_of p.results.items ≡ no_results
  pub here : HasStore p.heap p.machine x
  pub kept : kept_of p.natives ≡ z
  pub left : p.left ≡ n
