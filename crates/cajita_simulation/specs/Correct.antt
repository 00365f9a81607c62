-- A rewritten module does in the interpreter what its source does directly. Its program runs in a page of its own, and each of both has a number of steps.
use Rattle.std.specs.Prelude.{◌≡◌, ℕ, zero, ◌+◌, ◌*◌, ◌≤◌, false, List, [], Some}
use Rattle.plans.specs.Plans.{over, stopped, out, count_of, kept_of}
use Rattle.matching.specs.Sentences.{IsFinished}
use Rattle.es3_language.specs.Store.{Store}
use Rattle.es3_language.specs.Meaning as Target
use Rattle.rows.specs.Nodes.{no_rules}
use Rattle.cajita_tree.specs.Tree as c
use Rattle.cajita_rewrite.specs.Rewrite.{program_of}
use Rattle.cajita_meaning.specs.World.{World, empty_world}
use Rattle.cajita_meaning.specs.Imports.{imported}
use Rattle.cajita_meaning.specs.Direct as Source
use Rattle.cajita_meaning.specs.Direct.{Item, load_run}
use Rattle.heap_rows.specs.Doing.{Told, heard}
use Rattle.heap_rows.specs.Opening.{first, place_of}
use Rattle.page_natives.specs.Natives.{Kept, page_of}
use Rattle.module_loader.specs.Page.{module_run}
use Rattle.row_simulation.specs.Correspond.{Val, ObjectsAre}
use Rattle.row_simulation.specs.RowLaw.{shown, PagesAre}
use Rattle.cajita_simulation.specs.Alike.{IsPrefix, GuestFault, most_steps}

-- what a module imports
abbrev pub imports_of : c.Tree c.program → List (List ℕ)
imports_of (c.a_module xs body) = xs

-- a module by itself, as the module of a number and with n steps, in an empty world: its imports have the values that the fixed names have in every module
abbrev pub direct_run : c.Tree c.program → ℕ → ℕ → Source.Run
direct_run m by n = load_run no_rules m by (imported by (imports_of m)) empty_world [] n

-- the page of one module has the functions `say` and `later` of the module 0, so that a module of another number is meant where it imports nothing
abbrev pub MayImport : ℕ → c.Tree c.program → Type 0
MayImport zero m = Unit {0}
MayImport by (c.a_module [] body) = Unit {0}
MayImport by m = ⊥

-- the load gave a value and the program came to its end with one that corresponds, or both threw values that correspond; named objects stand for those of the world
abbrev pub SameEnd : Source.Completion → World → Target.Completion → Store → Type 0
SameEnd (Source.gave v) w (Target.normal (Some e)) s = Val s.heap v e × ((m : ℕ) × ObjectsAre first place_of w.objects s.heap m)
SameEnd (Source.threw v) w (Target.threw e) s = Val s.heap v e × ((m : ℕ) × ObjectsAre first place_of w.objects s.heap m)
SameEnd _ w _ s = ⊥

-- what is told directly, without touches: a module by itself is loaded so
abbrev pub told_without : List Item → List Told
told_without z = heard false (shown z)

-- both came to such an end, where cells and queues correspond too, or stopped by the same fault, which is no conversion; and what is told is the same
abbrev pub EndAlike : Source.Run → Target.Run Kept → Type 0
EndAlike (over e w z n) (over e' s y n') = SameEnd e w e' s × (told_without z ≡ y.told) × PagesAre s.heap w (page_of y)
EndAlike (stopped f w z n) (stopped g s y n') = (f ≡ g) × GuestFault f × (told_without z ≡ y.told)
EndAlike r t = ⊥

-- not ended by a conversion that would run code of a text
abbrev pub ConvertsNothing : Target.Run Kept → Type 0
ConvertsNothing (over e s y n) = Unit {0}
ConvertsNothing (stopped f s y n) = GuestFault f
ConvertsNothing (out s y n) = Unit {0}

-- four sentences on the module m that runs as module `by`
pub record Correct (by : ℕ) (m : c.Tree c.program) : Type 0 where
  -- where the source, with n steps, comes to an end after c of them, its program comes to a like end with every number of steps that is 64 times c or more, and takes no more of them
  pub forward : (n c k : ℕ) → IsFinished (direct_run m by n) → count_of (direct_run m by n) + c ≡ n → 64 * c ≤ k → 64 * c ≤ most_steps → EndAlike (direct_run m by n) (module_run (program_of m) by k) × (k ≤ count_of (module_run (program_of m) by k) + 64 * c)
  -- where the program comes to an end with k steps, its source comes to a like end with every number of steps that is large enough
  pub backward : (k : ℕ) → k ≤ most_steps → IsFinished (module_run (program_of m) by k) → (j : ℕ) × ((n : ℕ) → j ≤ n → EndAlike (direct_run m by n) (module_run (program_of m) by k))
  -- what the program tells with k steps, however it was cut, is the beginning of what its source tells with every number of steps that is large enough
  pub cut : (k : ℕ) → k ≤ most_steps → (j : ℕ) × ((n : ℕ) → j ≤ n → IsPrefix (kept_of (module_run (program_of m) by k)).told (told_without (kept_of (direct_run m by n))))
  -- the program never ends by a conversion that would run code
  pub never_converts : (k : ℕ) → k ≤ most_steps → ConvertsNothing (module_run (program_of m) by k)
