-- Turns: they do the same, anew.
use Rattle.std.proofs.Common.{◌≡◌, ℕ, List, [], ◌∷◌, ◌++◌, refl, sym, ap, ◌∙◌}
use Rattle.std.proofs.lemmas.List.{map-append}
use Rattle.plans.specs.Plans.{over, stopped, out, enter, ends, run}
use Rattle.acts.specs.Acts.{task, replied}
use Rattle.rows.specs.Nodes.{Rules}
use Rattle.cajita_meaning.specs.World.{Value}
use Rattle.cajita_meaning.specs.Asking.{Reply, Shape, bad, reply, call_reply}
use Rattle.cajita_meaning.specs.Events.{key_event, tick_event, node_event}
use Rattle.cajita_meaning.specs.Direct.{Item, Plan, Run, gave, threw, a_load, forms, direct}
use Rattle.cajita_laws.specs.Turns.{ended_so, reply_run}
use Rattle.cell_numbers.specs.Renumbering.{Renumbering, value_anew, values_anew, world_anew, item_anew, items_anew, completion_anew, turn_anew, name_anew}
use Rattle.cell_numbers.specs.Mapped.{MappedPlan, mapped_run}
use Rattle.cell_numbers.specs.Promises.{LoadsAnew, QuestionsAnew, CallsAnew, KeysAnew, TicksAnew, NodesAnew}
use Rattle.cell_numbers.proofs.Lists.{first_anew}
use Rattle.cell_numbers.proofs.Forms.{replied_mapped, run_mapped}
use Rattle.cell_numbers.proofs.Calls.{maps, Anew, call_anew}
use Rattle.cell_numbers.proofs.Questions.{replies_anew, forms_fit}
use Rattle.cell_numbers.proofs.Events.{key_anew, tick_anew, node_anew}

mapped_turn : (f : Renumbering) (r : Run) → mapped_run (maps f) (items_anew f) r ≡ turn_anew f r
mapped_turn f (over e w z n) = refl
mapped_turn f (stopped fault w z n) = refl
mapped_turn f (out w z n) = refl

-- two plans, of which the second is the first one, anew
pub plan_runs_anew : (f : Renumbering) (rules : Rules) (p q : Plan) (z : List Item) (n : ℕ) → MappedPlan (maps f) p q → run (direct rules) n q (items_anew f z) ≡ turn_anew f (run (direct rules) n p z)
plan_runs_anew f rules p q z n h =
    run_mapped (forms rules) (maps f) (forms_fit f rules) (λ i z. z ++ i ∷ []) (items_anew f) (λ i z. sym (map-append (item_anew f) z (i ∷ []))) n p q z h ∙ mapped_turn f (run (direct rules) n p z)

-- a turn that begins with an answer
ended_so_anew : (f : Renumbering) (a : Shape) (vs : List Value) → ended_so a (values_anew f vs) ≡ completion_anew f (ended_so a vs)
ended_so_anew f bad vs = ap threw (first_anew f vs)
ended_so_anew f a vs = ap gave (first_anew f vs)

reply_runs_anew : (f : Renumbering) (rules : Rules) (r q : Reply) (z : List Item) (n : ℕ) → Anew f r q → reply_run rules q (items_anew f z) n ≡ turn_anew f (reply_run rules r z n)
reply_runs_anew f rules r q z n h =
    plan_runs_anew f rules (replied r (λ a vs w. ends (ended_so a vs) w)) (replied q (λ a vs w. ends (ended_so a vs) w)) z n
    (replied_mapped (maps f) r q (λ a vs w. ends (ended_so a vs) w) (λ a vs w. ends (ended_so a vs) w) h (λ a vs w. (ended_so_anew f a vs, refl)))

pub loads_anew : LoadsAnew
loads_anew f rules p m vs w z n = plan_runs_anew f rules (enter (task (a_load p) m vs) w ends) (enter (task (a_load p) m (values_anew f vs)) (world_anew f w) ends) z n (refl, refl, λ e u. (refl, refl))

pub questions_anew : QuestionsAnew
questions_anew f rules q m vs w z n = reply_runs_anew f rules (reply q m vs w) (reply q m (values_anew f vs) (world_anew f w)) z n (replies_anew f q m vs w)

pub calls_anew : CallsAnew
calls_anew f rules calls recorded g t vs m w z n =
    reply_runs_anew f rules (call_reply calls recorded g t vs m w) (call_reply calls recorded (value_anew f g) (value_anew f t) (values_anew f vs) m (world_anew f w)) z n (call_anew f calls recorded g t vs m w)

pub keys_anew : KeysAnew
keys_anew f rules m k vs w z n = reply_runs_anew f rules (key_event m k vs w) (key_event m k (values_anew f vs) (world_anew f w)) z n (key_anew f m k vs w)

pub ticks_anew : TicksAnew
ticks_anew f rules m g w z n = reply_runs_anew f rules (tick_event m g w) (tick_event m (value_anew f g) (world_anew f w)) z n (tick_anew f m g w)

pub node_turns_anew : NodesAnew
node_turns_anew f rules node g w z n = reply_runs_anew f rules (node_event node g w) (node_event (name_anew f node) (value_anew f g) (world_anew f w)) z n (node_anew f node g w)
