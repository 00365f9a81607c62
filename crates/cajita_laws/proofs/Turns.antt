-- The laws of turns: of loads, of questions and of calls.
use Rattle.std.proofs.Common.{ℕ, zero, suc, false, List, [], ◌∷◌, ◌++◌, refl}
use Rattle.std.specs.Prelude.{slice_get}
use Rattle.plans.specs.Plans.{ends, stops, enter, tick, told, bind, over, stopped, out, run, kept_of}
use Rattle.acts.specs.Acts.{task, replied}
use Rattle.acts.specs.Laws.{All, Kept, SameRuns}
use Rattle.acts.proofs.Keeps.{run_kept, reply_kept}
use Rattle.acts.proofs.Same.{run_same, reply_same}
use Rattle.rows.specs.Nodes.{Rules}
use Rattle.cajita_meaning.specs.World.{made_name, Value, object, World, undefined}
use Rattle.cajita_meaning.specs.Asking.{Reply, Shape, bad, a_load, reply, call_reply}
use Rattle.cajita_meaning.specs.Events.{the_page, key_event, tick_event, node_event}
use Rattle.cajita_meaning.specs.Direct.{Item, Plan, Run, values_of, forms, direct, load_run}
use Rattle.cajita_laws.specs.Reach.{Had, Known, IsMore, HaveTextMethods, StartsReached}
use Rattle.cajita_laws.specs.Parts.{Group, Own}
use Rattle.cajita_laws.specs.Turns.{ended_so, reply_run, Reaches, LoadReaches, QuestionReaches, CallReaches, ClosureReaches, KeyReaches, TickReaches, NodeReaches, SameTurns, LoadIsolates, QuestionIsolates, CallIsolates, KeyIsolates, TickIsolates, NodeIsolates}
use Rattle.cajita_laws.proofs.Had.{no_more, more_behind, more_onward}
use Rattle.cajita_laws.proofs.Made.{all_first, made_of}
use Rattle.cajita_laws.proofs.Invariant.{noted, reach}
use Rattle.cajita_laws.proofs.CallReach.{Keeps, call_kept, unrecorded_kept}
use Rattle.cajita_laws.proofs.Reach.{answers_reach}
use Rattle.cajita_laws.proofs.EventReach.{page_call_kept, key_kept, node_kept}
use Rattle.cajita_laws.proofs.Alike.{twins}
use Rattle.cajita_laws.proofs.CallSame.{Same, call_same}
use Rattle.cajita_laws.proofs.Same.{answers_same}
use Rattle.cajita_laws.proofs.EventSame.{page_call_same, key_same, node_same}

-- where nothing was done the invariant holds
pub at_the_start : StartsReached
at_the_start had = record { names = record { numbered = tt; counts = λ m. refl }; reached = tt; scopes = λ m. tt; queues = λ m. tt }

-- what a turn comes to has values of its answer alone
ended_has : (P : Value → Type 0) → P undefined → (a : Shape) (vs : List Value) → All P vs → All P (values_of (ended_so a vs))
ended_has P u bad vs h = (all_first P u vs h, tt)
ended_has P u a vs h = (all_first P u vs h, tt)

-- reach

-- nothing that was told is taken back
told_behind : (rules : Rules) (n : ℕ) (p : Plan) (z : List Item) → IsMore z (kept_of (run (direct rules) n p z))
told_behind rules n (ends e w) z = no_more z
told_behind rules n (stops f w) z = no_more z
told_behind rules n (told i p) z = more_onward z (z ++ i ∷ []) (kept_of (run (direct rules) n p (z ++ i ∷ []))) (more_behind z (i ∷ [])) (told_behind rules n p (z ++ i ∷ []))
told_behind rules zero (enter t w next) z = no_more z
told_behind rules (suc n) (enter t w next) z = told_behind rules n (bind ((direct rules).plan t w z) next) z
told_behind rules zero (tick w p) z = no_more z
told_behind rules (suc n) (tick w p) z = told_behind rules n p z

-- what every answer keeps every turn keeps
kept_reaches : (rules : Rules) (had : Had) (m : ℕ) (z : List Item) (r : Run) → IsMore z (kept_of r) → Kept (forms rules) noted (reach rules had) (λ y v. Known had y m v) r → Reaches had m z r
kept_reaches rules had m z (over e w y n) l h = record { holds = h.0; behind = l; has = h.1 }
kept_reaches rules had m z (stopped f w y n) l h = record { holds = h; behind = l; has = tt }
kept_reaches rules had m z (out w y n) l h = record { holds = h; behind = l; has = tt }

pub load_reaches : LoadReaches
load_reaches had methods rules p m vs w z i h n =
    kept_reaches rules had m z (load_run rules p m vs w z n) (told_behind rules n (enter (task (a_load p) m vs) w ends) z)
    (run_kept (forms rules) noted (reach rules had) (λ z v. Known had z m v) (λ P. P undefined) (made_of rules) (λ z k. tt) (answers_reach rules had methods) n (task (a_load p) m vs) w z tt i h (λ z v k. k))

-- a turn that begins with an answer which keeps the invariant
reply_reaches : (rules : Rules) (had : Had) → HaveTextMethods had → (m : ℕ) (q : Reply) (z : List Item) → Keeps rules had m q z → (n : ℕ) → Reaches had m z (reply_run rules q z n)
reply_reaches rules had methods m q z h n =
    kept_reaches rules had m z (reply_run rules q z n) (told_behind rules n (replied q (λ a vs w. ends (ended_so a vs) w)) z)
    (reply_kept (forms rules) noted (reach rules had) (λ z v. Known had z m v) (λ P. P undefined) (made_of rules) (λ z k. tt) (answers_reach rules had methods) n q (λ z v. Known had z m v) z ended_so h (λ z a vs k. ended_has (Known had z m) tt a vs k))

pub question_reaches : QuestionReaches
question_reaches had methods rules q m vs w z i h n = reply_reaches rules had methods m (reply q m vs w) z (answers_reach rules had methods q m vs w z tt i h) n

pub call_reaches : CallReaches
call_reaches had methods rules calls recorded f t vs m w z i h n = reply_reaches rules had methods m (call_reply calls recorded f t vs m w) z (call_kept rules had calls recorded f t vs m w z i h) n

pub closure_reaches : ClosureReaches
closure_reaches had methods rules calls k j t vs m w z i h n =
    reply_reaches rules had methods m (call_reply calls false (object (made_name k j)) t vs m w) z (unrecorded_kept rules had calls (slice_get (w.objects k) j) k j vs m w z i h) n

pub key_reaches : KeyReaches
key_reaches had methods rules m k v vs w z i h g n = reply_reaches rules had methods the_page (key_event m k (v ∷ vs) w) z (key_kept rules had methods m k v vs w z i h g) n

pub tick_reaches : TickReaches
tick_reaches had methods rules m f w z i h n = reply_reaches rules had methods the_page (tick_event m f w) z (page_call_kept rules had m f undefined [] w z i h (tt, tt) tt) n

pub node_reaches : NodeReaches
node_reaches had methods rules node f w z i n = reply_reaches rules had methods the_page (node_event node f w) z (node_kept rules had methods node f w z i) n

-- isolation

-- runs that are the same are turns that are the same
same_turns : (rules : Rules) (g : Group) (u : World) (x : List Item) (a b : Run) → SameRuns (forms rules) noted (twins rules g u x) a b → SameTurns g u x a b
same_turns rules g u x (over a w z n) (over b v y k) h = h
same_turns rules g u x (stopped e w z n) (stopped f v y k) h = h
same_turns rules g u x (out w z n) (out v y k) h = h
same_turns rules g u x a b h = absurd h

pub load_isolates : LoadIsolates
load_isolates g u x rules p m mine vs own w z v y a n =
    same_turns rules g u x (load_run rules p m vs w z n) (load_run rules p m vs v y n)
    (run_same (forms rules) noted (twins rules g u x) (λ P. P undefined) (made_of rules) tt (answers_same rules g u x) n (task (a_load p) m vs) w z v y mine a own)

-- two turns that begin with answers which are the same for the group
reply_isolates : (rules : Rules) (g : Group) (u : World) (x : List Item) (r q : Reply) (z y : List Item) → Same rules g u x r z q y → (n : ℕ) → SameTurns g u x (reply_run rules r z n) (reply_run rules q y n)
reply_isolates rules g u x r q z y h n =
    same_turns rules g u x (reply_run rules r z n) (reply_run rules q y n)
    (reply_same (forms rules) noted (twins rules g u x) (λ P. P undefined) (made_of rules) tt (answers_same rules g u x) n r q z y ended_so h (λ a vs own. ended_has (Own g) tt a vs own))

pub question_isolates : QuestionIsolates
question_isolates g u x rules q m mine vs own w z v y a n = reply_isolates rules g u x (reply q m vs w) (reply q m vs v) z y (answers_same rules g u x q m vs w z v y mine own a) n

pub key_isolates : KeyIsolates
key_isolates g u x rules m mine k p own vs plain w z v y a n = reply_isolates rules g u x (key_event m k (p ∷ vs) w) (key_event m k (p ∷ vs) v) z y (key_same rules g u x m mine k p own vs plain w z v y a) n

pub tick_isolates : TickIsolates
tick_isolates g u x rules m mine f own w z v y a n = reply_isolates rules g u x (tick_event m f w) (tick_event m f v) z y (page_call_same rules g u x m f undefined [] w z v y mine (own, (tt, tt)) tt a) n

pub node_isolates : NodeIsolates
node_isolates g u x rules node own f mine w z v y a n = reply_isolates rules g u x (node_event node f w) (node_event node f v) z y (node_same rules g u x node f w z v y own mine a) n

pub call_isolates : CallIsolates
call_isolates g u x rules calls recorded f t vs m mine own w z v y a n =
    reply_isolates rules g u x (call_reply calls recorded f t vs m w) (call_reply calls recorded f t vs m v) z y (call_same rules g u x calls recorded f t vs m w z v y own mine a) n
