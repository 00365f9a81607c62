-- The turns of a page side by side, of any kind: a plan of the direct meaning and one of the interpreter, begun where both sides are related.
use Rattle.std.specs.Prelude.{◌≡◌, ℕ, ◌+◌, ◌*◌, ◌≤◌, true, false, List, ◌∷◌}
use Rattle.plans.specs.Plans.{ends, enter, run, over, stopped, count_of, kept_of}
use Rattle.acts.specs.Acts.{replied, task}
use Rattle.matching.specs.Sentences.{IsFinished, EndTogether}
use Rattle.es3_language.specs.Store.{Store}
use Rattle.es3_language.specs.Meaning as Target
use Rattle.es3_language.specs.Meaning.{es3}
use Rattle.rows.specs.Nodes.{Rules}
use Rattle.cajita_tree.specs.Tree as c
use Rattle.cajita_rewrite.specs.Rewrite.{program_of}
use Rattle.cajita_meaning.specs.World.{Name, Value, World, with_queue}
use Rattle.cajita_meaning.specs.Asking.{Reply, Shape, bad, first, a_load}
use Rattle.cajita_meaning.specs.Events.{key_event, tick_event, node_event}
use Rattle.cajita_meaning.specs.Direct as Source
use Rattle.cajita_meaning.specs.Direct.{Item, direct}
use Rattle.page_natives.specs.Natives.{Kept, page_table, page_of, without_first}
use Rattle.module_loader.specs.Turns.{key_plan, tick_plan, node_plan}
use Rattle.row_simulation.specs.Correspond.{EsValue, Val}
use Rattle.cajita_simulation.specs.Alike.{most_page_steps}
use Rattle.cajita_simulation.specs.Scopes.{Tags}
use Rattle.cajita_simulation.specs.Related.{IsClosure, Turn, BetweenTurns}
use Rattle.cajita_simulation.specs.Sides.{Lasts, GivenIs, Stops, Begins}

-- what the direct meaning comes to from a plan with so many steps, and the interpreter
abbrev pub source_run : Rules → Source.Plan → List Item → ℕ → Source.Run
source_run rules p z j = run (direct rules) j p z

abbrev pub target_run : Target.Plan → Kept → ℕ → Target.Run Kept
target_run q y k = run (es3 page_table) k q y

-- the next turn may begin, for the tags that the scopes then have, and what had a name when this one began still has it
abbrev pub TurnLeaves : Rules → ℕ → Turn → World → List Item → ℕ → Store → Kept → ℕ → Type 0
TurnLeaves rules d t w z n s y m = ((g : Tags) × BetweenTurns rules d w z n g s y m) × Lasts t.began s.heap

-- both gave values that correspond, or both threw such values
abbrev pub TurnEnds : Rules → ℕ → Turn → Source.Completion → World → List Item → ℕ → Target.Completion → Store → Kept → ℕ → Type 0
TurnEnds rules d t (Source.gave v) w z n e s y m = GivenIs t.load s.heap v e × TurnLeaves rules d t w z n s y m
TurnEnds rules d t (Source.threw v) w z n (Target.threw e) s y m = Val s.heap v e × TurnLeaves rules d t w z n s y m
TurnEnds rules d t _ w z n _ s y m = ⊥

-- both came to like ends, or stopped by the same fault, which is no conversion; of `all` steps of the source's side, those before the turn included, its run counts
-- what is left, and of `all'` steps the interpreter's
abbrev pub EndTurn : Rules → ℕ → Turn → ℕ → ℕ → Source.Run → Target.Run Kept → Type 0
EndTurn rules d t all all' (over e w z n) (over e' s y n') = EndTogether (TurnEnds rules d t) all all' e w z n e' s y n'
EndTurn rules d t all all' (stopped f w z n) (stopped g s y n') = Stops f w z g s y
EndTurn rules d t all all' r q = ⊥

-- four sentences on the two plans of a turn, where n steps of the source's side and i of the interpreter's were taken before, and d deeds are done when it has ended
pub record TurnsAlike (rules : Rules) (turn : Turn) (d : ℕ) (p : Source.Plan) (z : List Item) (n : ℕ) (q : Target.Plan) (y : Kept) (i : ℕ) : Type 0 where
  -- where the source's side, with j steps, comes to an end after c of them, the interpreter comes to a like end with every number of steps that makes 64 times n + c or more
  -- with those before, and takes no more of them
  pub forward : (j c k : ℕ) → IsFinished (source_run rules p z j) → count_of (source_run rules p z j) + c ≡ j → 64 * (n + c) ≤ i + k → 64 * (n + c) ≤ most_page_steps
      → EndTurn rules d turn (n + j) (i + k) (source_run rules p z j) (target_run q y k) × (i + k ≤ count_of (target_run q y k) + 64 * (n + c))
  -- where the interpreter comes to an end with k steps, the source's side comes to a like end with every number of steps that is large enough
  pub backward : (k : ℕ) → i + k ≤ most_page_steps → IsFinished (target_run q y k) → (j : ℕ) × ((a : ℕ) → j ≤ a → EndTurn rules d turn (n + a) (i + k) (source_run rules p z a) (target_run q y k))
  -- what was told by then with k steps, however the interpreter was cut, is the beginning of what the source's side tells with every number of steps that is large enough
  pub cut : (k : ℕ) → i + k ≤ most_page_steps → (j : ℕ) × ((a : ℕ) → j ≤ a → Begins (kept_of (target_run q y k)) (kept_of (source_run rules p z a)))
  -- and touches are asked for as before
  pub touching : (k : ℕ) → (kept_of (target_run q y k)).touching ≡ y.touching

-- a load that begins in this store, and a call by the page
abbrev pub load_in : Store → Turn
load_in s = record { load = true; began = s.heap }

abbrev pub call_in : Store → Turn
call_in s = record { load = false; began = s.heap }

-- a module is loaded, with the values of what it imports
abbrev pub load_turn : c.Tree c.program → ℕ → List Value → World → Source.Plan
load_turn m by vs w = enter (task (a_load m) by vs) w ends

abbrev pub load_turn' : c.Tree c.program → ℕ → Store → Target.Plan
load_turn' m by s = Target.program_plan (program_of m) by s

-- what the page is answered ends a turn: with a value, or with what was thrown
abbrev pub ends_so : Shape → List Value → Source.Completion
ends_so bad vs = Source.threw (first vs)
ends_so a vs = Source.gave (first vs)

abbrev pub answer_end : Shape → List Value → World → Source.Plan
answer_end a vs w = ends (ends_so a vs) w

abbrev pub event_turn : Reply → Source.Plan
event_turn q = replied q answer_end

-- the key of a value is called for a module; the value stands first among these values
abbrev pub key_turn : ℕ → List ℕ → List Value → World → Source.Plan
key_turn m key vs w = event_turn (key_event m key vs w)

abbrev pub key_turn' : ℕ → List ℕ → List EsValue → Store → Kept → Target.Plan
key_turn' m key es s y = key_plan m key es s y

-- a function that waited is called for a module
abbrev pub tick_turn : ℕ → Value → World → Source.Plan
tick_turn m f w = event_turn (tick_event m f w)

abbrev pub tick_turn' : ℕ → EsValue → Store → Target.Plan
tick_turn' m e s = tick_plan m e s

-- a function is told what happens to a node
abbrev pub node_turn : Name → Value → World → Source.Plan
node_turn node f w = event_turn (node_event node f w)

abbrev pub node_turn' : EsValue → EsValue → Store → Target.Plan
node_turn' node e s = node_plan node e s

-- where a tick begins, in the module m: f waits first, and fs behind it. Both sides take the first away, values that correspond, and are related still
pub record TickBegins (rules : Rules) (m : ℕ) (f : Value) (fs : List Value) (d : ℕ) (w : World) (z : List Item) (n : ℕ) (g : Tags) (s : Store) (y : Kept) (i : ℕ) : Type 0 where
  pub first' : EsValue
  pub behind' : List EsValue
  pub waits' : (page_of y).queues m ≡ first' ∷ behind'
  pub closure : IsClosure w.objects f
  pub alike : Val s.heap f first'
  pub between : BetweenTurns rules d (with_queue m fs w) z n g s (without_first m y) i
