-- When the run of a rewritten module is alike to the direct run of its source.
use Rattle.std.specs.Prelude.{◌≡◌, ℕ, List, ◌++◌}
use Rattle.plans.specs.Plans.{Fault, number_fault, depth_fault, convert_fault}
use Rattle.page_natives.specs.Natives.{Kept}
use Rattle.cajita_meaning.specs.Direct.{Item}
use Rattle.heap_rows.specs.Doing.{Told, heard}
use Rattle.row_simulation.specs.RowLaw.{shown}

-- what a page is to tell of what is told directly: touches where they are asked for
abbrev pub heard_by : Kept → List Item → List Told
heard_by y z = heard y.touching (shown z)

pub record IsPrefix {A : Type 0} (xs ys : List A) : Type 0 where
  pub rest : List A
  pub is : ys ≡ xs ++ rest

-- the faults that a Cajita module may end by
abbrev pub GuestFault : Fault → Type 0
GuestFault number_fault = Unit {0}
GuestFault depth_fault = Unit {0}
GuestFault convert_fault = ⊥

-- the steps of the interpreter that are looked at: as many as a module's count of names can count
abbrev pub most_steps : ℕ
most_steps = 4294967294

-- a page has no more deeds than so many: 64 loads and 10,000 events. An event may name an object at no step; each deed has room for as many names as 64 steps name, and as
-- many fewer steps are looked at
abbrev pub most_deeds : ℕ
most_deeds = 10064

abbrev pub most_page_steps : ℕ
most_page_steps = 4294323198
