-- What the acts of a loop do, as plans, at whatever places they stand.
use Rattle.std.proofs.Common.{◌≡◌, ℕ, suc, Bool, true, false, List, [], ◌∷◌, Option, Some, None, cond, refl, ap}
use Rattle.std.proofs.Math.Path.{fun_ext}
use Rattle.plans.specs.Plans.{ends, enter}
use Rattle.acts.specs.Acts.{Places, part, put}
use Rattle.cajita_tree.specs.Tree as c
use Rattle.cajita_meaning.specs.World.{Value, World}
use Rattle.cajita_meaning.specs.Asking.{a_turn}
use Rattle.cajita_meaning.specs.Direct as Direct
use Rattle.cajita_simulation.proofs.Doing as Source
use Rattle.cajita_simulation.proofs.Relation.{Here}

-- an ending passes
pub passed : (H : Here) (p : ℕ) (at : Places Value) (e : Source.Completion) (w : World) → Source.ended_by H p at Direct.pass e w ≡ ends e w
passed H p at (Source.gave v) w = ap (λ u. ends (Source.gave u) w) (Source.first_there p v at)
passed H p at (Source.normal None) w = refl
passed H p at (Source.normal (Some v)) w = ap (λ u. ends (Source.normal (Some u)) w) (Source.first_there p v at)
passed H p at (Source.broke k) w = refl
passed H p at (Source.continued k) w = refl
passed H p at (Source.returned v) w = ap (λ u. ends (Source.returned u) w) (Source.first_there p v at)
passed H p at (Source.threw v) w = ap (λ u. ends (Source.threw u) w) (Source.first_there p v at)

-- a later turn
turned : (l : Source.Loop) (ls : List (List ℕ)) (H : Here) (p : ℕ) (at : Places Value) (w : World) → Source.act_plan H p at (part (a_turn l ls H.around) [] Direct.pass) w ≡ enter (Source.again l ls H) w ends
turned l ls H p at w =
    let back : Source.Completion → World → Source.Plan = λ e w1. Source.ended_by H p at Direct.pass e w1 in
    let same : back ≡ ends = fun_ext (λ e. fun_ext (λ w1. passed H p at e w1)) in
    ap (enter (Source.again l ls H) w) same

-- either of two plans
either : (l : Source.Loop) (ls : List (List ℕ)) (H : Here) (p : ℕ) (at : Places Value) (w : World) (b : Bool) (other : Source.Act) (plan : Source.Plan) → Source.act_plan H p at other w ≡ plan → Source.act_plan H p at (cond b (part (a_turn l ls H.around) [] Direct.pass) other) w ≡ cond b (enter (Source.again l ls H) w ends) plan
either l ls H p at w true other plan is = turned l ls H p at w
either l ls H p at w false other plan is = is

left : (H : Here) (p : ℕ) (at : Places Value) (k : Option (List ℕ)) (w : World) (b : Bool) → Source.act_plan H (suc p) (put p [] at) (cond b Direct.finish (Direct.pass (Direct.breaks k) p)) w ≡ cond b (ends (Source.normal None) w) (ends (Source.broke k) w)
left H p at k w true = refl
left H p at k w false = refl

-- what is done after the body
pub next_is : (l : Source.Loop) (ls : List (List ℕ)) (H : Here) (p : ℕ) (at : Places Value) (e : Source.Completion) (w : World) → Source.ended_by H p at (Direct.loop_next l ls H.around) e w ≡ Source.loop_next l ls H e w
next_is l ls H p at (Source.gave v) w = passed H p at (Source.gave v) w
next_is l ls H p at (Source.normal None) w = turned l ls H (suc p) (put p [] at) w
next_is l ls H p at (Source.normal (Some v)) w = turned l ls H (suc p) (put p (v ∷ []) at) w
next_is l ls H p at (Source.broke k) w = left H p at k w (Source.is_to k ls)
next_is l ls H p at (Source.continued k) w = either l ls H (suc p) (put p [] at) w (Source.is_to k ls) (Direct.pass (Direct.continues k) p) (ends (Source.continued k) w) refl
next_is l ls H p at (Source.returned v) w = passed H p at (Source.returned v) w
next_is l ls H p at (Source.threw v) w = passed H p at (Source.threw v) w

pub body_is : (l : Source.Loop) (ls : List (List ℕ)) (H : Here) (p : ℕ) (at : Places Value) (w : World) → Source.act_plan H p at (Direct.loop_body l ls H.around) w ≡ Source.loop_body l ls H w
body_is l ls H p at w =
    let back : Source.Completion → World → Source.Plan = λ e w1. Source.ended_by H p at (Direct.loop_next l ls H.around) e w1 in
    let same : back ≡ Source.loop_next l ls H = fun_ext (λ e. fun_ext (λ w1. next_is l ls H p at e w1)) in
    ap (enter (Source.effect_of l.body [] H) w) same

pub test_is : (e : c.Tree c.maybe_expr) (l : Source.Loop) (ls : List (List ℕ)) (H : Here) (p : ℕ) (at : Places Value) (w : World) → Source.act_plan H p at (Direct.at_test e l ls H.around) w ≡ Source.at_test e l ls H w
test_is c.no_expr l ls H p at w = body_is l ls H p at w
test_is (c.some_expr e) l ls H p at w =
    let back : Value → World → Source.Plan = λ v w1. Source.act_plan H 1 (Source.kept (put p (v ∷ []) at p)) (Direct.loop_tested l ls H.around 0) w1 in
    let same : back ≡ Source.loop_test l ls H = fun_ext (λ v. fun_ext (λ w1. ap (λ us. Source.act_plan H 1 (Source.kept us) (Direct.loop_tested l ls H.around 0) w1) (Source.put_there p (v ∷ []) at))) in
    ap (λ (go : Value → World → Source.Plan). enter (Source.value_of e H) w (Source.on_value_of go)) same

-- what follows the update of a later turn
pub update_is : (e : c.Tree c.maybe_expr) (l : Source.Loop) (ls : List (List ℕ)) (H : Here) (v : Value) (w : World) → Source.turn_next (Direct.on_value (λ v. Direct.at_test e l ls H.around)) H (Source.gave v) w ≡ Source.at_test e l ls H w
update_is e l ls H v w = test_is e l ls H 1 (Source.kept (v ∷ [])) w
