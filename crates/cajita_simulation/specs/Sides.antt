-- The direct meaning and the interpreter side by side.
use Rattle.std.specs.Prelude.{◌≡◌, ℕ, ◌≤◌, ◌*◌, Bool, true, false, List, Some}
use Rattle.plans.specs.Plans.{Fault}
use Rattle.es3_heap.specs.Objects.{Objects}
use Rattle.es3_language.specs.Store.{Store}
use Rattle.es3_language.specs.Meaning as Target
use Rattle.rows.specs.Nodes.{Rules}
use Rattle.cajita_meaning.specs.World.{Name, Value, World}
use Rattle.cajita_meaning.specs.Direct as Source
use Rattle.cajita_meaning.specs.Direct.{Item}
use Rattle.page_natives.specs.Natives.{Kept}
use Rattle.row_simulation.specs.Correspond.{Named, Val}
use Rattle.cajita_simulation.specs.Alike.{heard_by, IsPrefix, GuestFault}
use Rattle.cajita_simulation.specs.Scopes.{Tags}
use Rattle.cajita_simulation.specs.Related.{Turn, Between}

-- both sides are as they are between two turns, for the tags that the scopes then have
abbrev pub Synced : Rules → World → List Item → ℕ → Store → Kept → ℕ → Type 0
Synced rules w z n s y m = (g : Tags) × Between rules w z n g s y m

-- what has a name keeps it, so that what corresponds still does
abbrev pub Lasts : Objects → Objects → Type 0
Lasts a b = (n : Name) (i : ℕ) → Named a n i → Named b n i

-- a value that corresponds: what a program came to its end with, or what a call gave
abbrev pub GivenIs : Bool → Objects → Value → Target.Completion → Type 0
GivenIs true h v (Target.normal (Some e)) = Val h v e
GivenIs false h v (Target.gave e) = Val h v e
GivenIs load h v e = ⊥

-- both gave values that correspond, or both threw such values; the next turn may begin, and what had a name when this one began still has it
abbrev pub Ends : Rules → Turn → Source.Completion → World → List Item → ℕ → Target.Completion → Store → Kept → ℕ → Type 0
Ends rules t (Source.gave v) w z n e s y m = GivenIs t.load s.heap v e × Synced rules w z n s y m × Lasts t.began s.heap
Ends rules t (Source.threw v) w z n (Target.threw e) s y m = Val s.heap v e × Synced rules w z n s y m × Lasts t.began s.heap
Ends rules t _ w z n _ s y m = ⊥

-- both stopped by the same fault, which is no conversion
abbrev pub Stops : Fault → World → List Item → Fault → Store → Kept → Type 0
Stops f w z g s y = (f ≡ g) × GuestFault f × (heard_by y z ≡ y.told)

abbrev pub Outs : List Item → Kept → Type 0
Outs z y = heard_by y z ≡ y.told

-- what the page has told is the beginning of what is told directly
abbrev pub Begins : Kept → List Item → Type 0
Begins y z = IsPrefix y.told (heard_by y z)

-- a step of the direct meaning is worth 64 steps of the interpreter
abbrev pub Affords : ℕ → ℕ → Type 0
Affords n m = m ≤ 64 * n
