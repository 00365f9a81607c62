-- What is promised of a turn, wherever it is cut: the load of a module, and what begins with a question or a call.
use Rattle.std.specs.Prelude.{◌≡◌, ℕ, Bool, true, false, List, [], ◌∷◌}
use Rattle.plans.specs.Plans.{over, stopped, out, ends, run, kept_of}
use Rattle.acts.specs.Acts.{replied}
use Rattle.acts.specs.Laws.{All}
use Rattle.cajita_tree.specs.Tree as c
use Rattle.rows.specs.Nodes.{Rules}
use Rattle.cajita_meaning.specs.World.{Name, made_name, Value, object, World}
use Rattle.cajita_meaning.specs.Asking.{Question, Reply, Shape, bad, first, reply, call_reply}
use Rattle.cajita_meaning.specs.Events.{the_page, key_event, tick_event, node_event}
use Rattle.cajita_meaning.specs.Direct.{Item, Completion, gave, threw, Run, values_of, direct, load_run}
use Rattle.cajita_laws.specs.Reach.{Had, Known, Waits, IsMore, Invariant, HaveTextMethods}
use Rattle.cajita_laws.specs.Parts.{Group, others, OwnName, Own, SamePart, Closed, Alike}

-- how a turn ends that begins with an answer
abbrev pub ended_so : Shape → List Value → Completion
ended_so bad vs = threw (first vs)
ended_so s vs = gave (first vs)

-- a turn that begins with an answer; with a question of a module; with a call by a module of a function, with a receiver and arguments
abbrev pub reply_run : Rules → Reply → List Item → ℕ → Run
reply_run rules q z n = run (direct rules) n (replied q (λ a vs w. ends (ended_so a vs) w)) z

abbrev pub question_run : Rules → Question → ℕ → List Value → World → List Item → ℕ → Run
question_run rules q m vs w z n = reply_run rules (reply q m vs w) z n

abbrev pub call_run : Rules → ℕ → Bool → Value → Value → List Value → ℕ → World → List Item → ℕ → Run
call_run rules calls recorded f t vs m w z n = reply_run rules (call_reply calls recorded f t vs m w) z n

abbrev pub world_of : Run → World
world_of (over e w z n) = w
world_of (stopped f w z n) = w
world_of (out w z n) = w

-- what a turn came to, where it came to its end
abbrev pub given_by : Run → List Value
given_by (over e w z n) = values_of e
given_by r = []

-- reach: the invariant holds still; what was told before the turn stands before what the turn told; and the module has what the turn came to
pub record Reaches (had : Had) (m : ℕ) (z : List Item) (r : Run) : Type 0 where
  pub holds : Invariant had (world_of r) (kept_of r)
  pub behind : IsMore z (kept_of r)
  pub has : All (Known had (kept_of r) m) (given_by r)

-- of a load, whose imports the module has
abbrev pub LoadReaches : Type 0
LoadReaches = (had : Had) → HaveTextMethods had → (rules : Rules) (p : c.Tree c.program) (m : ℕ) (vs : List Value) (w : World) (z : List Item) → Invariant had w z → All (Known had z m) vs → (n : ℕ) →
    Reaches had m z (load_run rules p m vs w z n)

-- of a question, with values that the module has
abbrev pub QuestionReaches : Type 0
QuestionReaches = (had : Had) → HaveTextMethods had → (rules : Rules) (q : Question) (m : ℕ) (vs : List Value) (w : World) (z : List Item) → Invariant had w z → All (Known had z m) vs → (n : ℕ) →
    Reaches had m z (question_run rules q m vs w z n)

-- of a call, with a function, a receiver and arguments that the module has
abbrev pub CallReaches : Type 0
CallReaches = (had : Had) → HaveTextMethods had → (rules : Rules) (calls : ℕ) (recorded : Bool) (f t : Value) (vs : List Value) (m : ℕ) (w : World) (z : List Item) → Invariant had w z → All (Known had z m) (f ∷ t ∷ vs) → (n : ℕ) →
    Reaches had m z (call_run rules calls recorded f t vs m w z n)

-- of a call of a closure that is not recorded, as of one that was queued: whoever has it, the module for which it is called has the arguments
abbrev pub ClosureReaches : Type 0
ClosureReaches = (had : Had) → HaveTextMethods had → (rules : Rules) (calls k j : ℕ) (t : Value) (vs : List Value) (m : ℕ) (w : World) (z : List Item) → Invariant had w z → All (Known had z m) vs → (n : ℕ) →
    Reaches had m z (call_run rules calls false (object (made_name k j)) t vs m w z n)

-- of an event, whose answer the page then has: of a key that is called of a value which the event's module has, with arguments that both have
abbrev pub KeyReaches : Type 0
KeyReaches = (had : Had) → HaveTextMethods had → (rules : Rules) (m : ℕ) (k : List ℕ) (v : Value) (vs : List Value) (w : World) (z : List Item) → Invariant had w z → All (Known had z m) (v ∷ vs) → All (Known had z the_page) vs → (n : ℕ) →
    Reaches had the_page z (reply_run rules (key_event m k (v ∷ vs) w) z n)

-- and of the call of a function that may wait for the module
abbrev pub TickReaches : Type 0
TickReaches = (had : Had) → HaveTextMethods had → (rules : Rules) (m : ℕ) (f : Value) (w : World) (z : List Item) → Invariant had w z → Waits had z m f → (n : ℕ) →
    Reaches had the_page z (reply_run rules (tick_event m f w) z n)

-- of what is called when something happens to a node: its maker is granted the node, and the page has what it answers
abbrev pub NodeReaches : Type 0
NodeReaches = (had : Had) → HaveTextMethods had → (rules : Rules) (node : Name) (f : Value) (w : World) (z : List Item) → Invariant had w z → (n : ℕ) →
    Reaches had the_page z (reply_run rules (node_event node f w) z n)

-- isolation: two turns come to the same for the group, and leave the others' part as it was
abbrev pub SameTurns : Group → World → List Item → Run → Run → Type 0
SameTurns g u x (over a w z n) (over b v y k) = (a ≡ b) × (n ≡ k) × All (Own g) (values_of a) × Alike g u x w z v y
SameTurns g u x (stopped e w z n) (stopped f v y k) = (e ≡ f) × Alike g u x w z v y
SameTurns g u x (out w z n) (out v y k) = Alike g u x w z v y
SameTurns g u x a b = ⊥

-- in two worlds that are alike for a group, a module of the group does the same, and does nothing to the others' part
abbrev pub LoadIsolates : Type 0
LoadIsolates = (g : Group) (u : World) (x : List Item) (rules : Rules) (p : c.Tree c.program) (m : ℕ) → g.modules m ≡ true → (vs : List Value) → All (Own g) vs → (w : World) (z : List Item) (v : World) (y : List Item) → Alike g u x w z v y → (n : ℕ) →
    SameTurns g u x (load_run rules p m vs w z n) (load_run rules p m vs v y n)

abbrev pub QuestionIsolates : Type 0
QuestionIsolates = (g : Group) (u : World) (x : List Item) (rules : Rules) (q : Question) (m : ℕ) → g.modules m ≡ true → (vs : List Value) → All (Own g) vs → (w : World) (z : List Item) (v : World) (y : List Item) → Alike g u x w z v y → (n : ℕ) →
    SameTurns g u x (question_run rules q m vs w z n) (question_run rules q m vs v y n)

abbrev pub CallIsolates : Type 0
CallIsolates = (g : Group) (u : World) (x : List Item) (rules : Rules) (calls : ℕ) (recorded : Bool) (f t : Value) (vs : List Value) (m : ℕ) → g.modules m ≡ true → All (Own g) (f ∷ t ∷ vs) → (w : World) (z : List Item) (v : World) (y : List Item) → Alike g u x w z v y → (n : ℕ) →
    SameTurns g u x (call_run rules calls recorded f t vs m w z n) (call_run rules calls recorded f t vs m v y n)

-- no object
abbrev pub IsPlain : Value → Type 0
IsPlain (object o) = ⊥
IsPlain v = Unit {0}

-- an event of the group's module: the call of a key of a value, with arguments that are no objects; and of a function that waits
abbrev pub KeyIsolates : Type 0
KeyIsolates = (g : Group) (u : World) (x : List Item) (rules : Rules) (m : ℕ) → g.modules m ≡ true → (k : List ℕ) (p : Value) → Own g p → (vs : List Value) → All IsPlain vs → (w : World) (z : List Item) (v : World) (y : List Item) → Alike g u x w z v y → (n : ℕ) →
    SameTurns g u x (reply_run rules (key_event m k (p ∷ vs) w) z n) (reply_run rules (key_event m k (p ∷ vs) v) y n)

abbrev pub TickIsolates : Type 0
TickIsolates = (g : Group) (u : World) (x : List Item) (rules : Rules) (m : ℕ) → g.modules m ≡ true → (f : Value) → Own g f → (w : World) (z : List Item) (v : World) (y : List Item) → Alike g u x w z v y → (n : ℕ) →
    SameTurns g u x (reply_run rules (tick_event m f w) z n) (reply_run rules (tick_event m f v) y n)

-- what happens to a node of the group
abbrev pub NodeIsolates : Type 0
NodeIsolates = (g : Group) (u : World) (x : List Item) (rules : Rules) (node : Name) → OwnName g node → (f : Value) → Own g f → (w : World) (z : List Item) (v : World) (y : List Item) → Alike g u x w z v y → (n : ℕ) →
    SameTurns g u x (reply_run rules (node_event node f w) z n) (reply_run rules (node_event node f v) y n)

-- a turn leaves the group's part as it was, and what refers to nothing of the group still does
pub record LeavesAlone (g : Group) (w : World) (z : List Item) (r : Run) : Type 0 where
  pub part : SamePart true g w (world_of r) z (kept_of r)
  pub closed : Closed (others g) (world_of r)

-- a module outside of a group leaves the group alone, where its side refers to nothing of the group
abbrev pub LoadLeavesAlone : Type 0
LoadLeavesAlone = (g : Group) (rules : Rules) (p : c.Tree c.program) (m : ℕ) → g.modules m ≡ false → (vs : List Value) → All (Own (others g)) vs → (w : World) (z : List Item) → Closed (others g) w → (n : ℕ) →
    LeavesAlone g w z (load_run rules p m vs w z n)

abbrev pub QuestionLeavesAlone : Type 0
QuestionLeavesAlone = (g : Group) (rules : Rules) (q : Question) (m : ℕ) → g.modules m ≡ false → (vs : List Value) → All (Own (others g)) vs → (w : World) (z : List Item) → Closed (others g) w → (n : ℕ) →
    LeavesAlone g w z (question_run rules q m vs w z n)

abbrev pub CallLeavesAlone : Type 0
CallLeavesAlone = (g : Group) (rules : Rules) (calls : ℕ) (recorded : Bool) (f t : Value) (vs : List Value) (m : ℕ) → g.modules m ≡ false → All (Own (others g)) (f ∷ t ∷ vs) → (w : World) (z : List Item) → Closed (others g) w → (n : ℕ) →
    LeavesAlone g w z (call_run rules calls recorded f t vs m w z n)

abbrev pub KeyLeavesAlone : Type 0
KeyLeavesAlone = (g : Group) (rules : Rules) (m : ℕ) → g.modules m ≡ false → (k : List ℕ) (p : Value) → Own (others g) p → (vs : List Value) → All IsPlain vs → (w : World) (z : List Item) → Closed (others g) w → (n : ℕ) →
    LeavesAlone g w z (reply_run rules (key_event m k (p ∷ vs) w) z n)

abbrev pub TickLeavesAlone : Type 0
TickLeavesAlone = (g : Group) (rules : Rules) (m : ℕ) → g.modules m ≡ false → (f : Value) → Own (others g) f → (w : World) (z : List Item) → Closed (others g) w → (n : ℕ) →
    LeavesAlone g w z (reply_run rules (tick_event m f w) z n)

abbrev pub NodeLeavesAlone : Type 0
NodeLeavesAlone = (g : Group) (rules : Rules) (node : Name) → OwnName (others g) node → (f : Value) → Own (others g) f → (w : World) (z : List Item) → Closed (others g) w → (n : ℕ) →
    LeavesAlone g w z (reply_run rules (node_event node f w) z n)
