-- What the forms do, as plans over values: the acts of the direct meaning, with the values at their places.
use Rattle.std.proofs.Common.{◌≡◌, ℕ, suc, Bool, true, List, [], ◌∷◌, Option, Some, None, cond, ap, arith}
use Rattle.std.specs.Prelude.{nat_eq}
use Rattle.std.proofs.lemmas.Bool.Decides.{nat_tests}
use Rattle.plans.specs.Plans.{ends, enter, bind}
use Rattle.acts.specs.Acts.{task, keep, Places, nothing, put, given_at, on_value, replied, plan_of, task_plan}
use Rattle.cajita_tree.specs.Tree as c
use Rattle.cajita_meaning.specs.World.{Value, undefined, truth, World, with_scopes}
use Rattle.cajita_meaning.specs.Doing.{strictly_equal}
pub use Rattle.cajita_meaning.specs.Asking.{Completion, gave, normal, broke, continued, returned, threw, Around, Task, Shape, good, bad, lookup, assigned}
use Rattle.cajita_meaning.specs.Asking.{an_expr, a_stmt, a_turn, a_load, found_reply, first}
pub use Rattle.cajita_meaning.specs.Asking.{Loop}
use Rattle.cajita_meaning.specs.Direct as Direct
pub use Rattle.cajita_meaning.specs.Direct.{Plan, Act, Ending, forms, value_in, shape_of, values_of, is_to, is_label, direct}
use Rattle.cajita_simulation.specs.Related.{Here}

abbrev pub value_of : c.Tree c.expr → Here → Task
value_of e H = task (an_expr e H.around) H.by []

abbrev pub effect_of : c.Tree c.stmt → List (List ℕ) → Here → Task
effect_of x ls H = task (a_stmt x ls H.around) H.by []

-- a later turn of a loop
abbrev pub again : Loop → List (List ℕ) → Here → Task
again l ls H = task (a_turn l ls H.around) H.by []

-- a load, with the values of what is imported
abbrev pub load_of : c.Tree c.program → ℕ → List Value → Task
load_of m by vs = task (a_load m) by vs

-- what a form does with n places that have their values
abbrev pub act_plan : Here → ℕ → Places Value → Act → World → Plan
act_plan H n at a w = plan_of (forms H.rules) H.by n at a w

abbrev pub start : Places Value
start = given_at []

-- a value at the place 1, values at the place 0
abbrev pub one : Value → Places Value
one v = put 1 (v ∷ []) start

abbrev pub kept : List Value → Places Value
kept us = put 0 us nothing

abbrev pub expr_plan : c.Tree c.expr → Here → World → Plan
expr_plan e H w = task_plan (forms H.rules) (value_of e H) w

abbrev pub stmt_plan : c.Tree c.stmt → List (List ℕ) → Here → World → Plan
stmt_plan x ls H w = task_plan (forms H.rules) (effect_of x ls H) w

abbrev pub on_value_of : (Value → World → Plan) → Completion → World → Plan
on_value_of go e w = on_value value_in go e w

abbrev pub give : Value → World → Plan
give v w = ends (gave v) w

abbrev pub throw : Value → World → Plan
throw v w = ends (threw v) w

abbrev pub to_normal : Value → World → Plan
to_normal v w = ends (normal (Some v)) w

-- what a form does with an answer, given what it then does by the answer's shape, at the place n
abbrev pub answered : Here → ℕ → Places Value → (Shape → ℕ → Act) → Shape → List Value → World → Plan
answered H n at go a vs w = act_plan H (suc n) (put n vs at) (go a n) w

-- what goes on with a variable's value
abbrev pub found_or : Option Value → Here → World → Plan
found_or o H w = replied (found_reply o H.by w) (answered H 1 start (Direct.or_throw Direct.give))

-- what is done by how a part ended, at the place n
abbrev pub ended_by : Here → ℕ → Places Value → (Ending → ℕ → Act) → Completion → World → Plan
ended_by H n at f e w = act_plan H (suc n) (put n (values_of e) at) (f (shape_of e) n) w

-- the module's own statements, behind the value of the last expression statement
abbrev pub own_list : c.Tree c.stmts → Here → List Value → World → Plan
own_list xs H last w = act_plan H 1 (kept last) (Direct.own_list xs H.around 0) w

-- a value for a variable, in the first scope around the form that has it
abbrev pub assign : Here → List ℕ → Value → World → World
assign H x v w = with_scopes H.by (assigned H.around.chain x v (w.scopes H.by)) w

-- the items of a `var` statement, from a place on, and what follows them
abbrev pub items : c.Tree c.items → Here → Act → ℕ → Places Value → World → Plan
items is H end n at w = act_plan H n at (Direct.items_act is H.around end) w

-- statements in a list, with values kept at the place 0
abbrev pub list : c.Tree c.stmts → List Value → Here → (Ending → ℕ → ℕ → Act) → World → Plan
list xs us H end w = act_plan H 1 (kept us) (Direct.list xs H.around end 0) w

-- what follows the list, by how it ended
abbrev pub list_end : Here → List Value → (Ending → ℕ → ℕ → Act) → Completion → World → Plan
list_end H us end (normal v) w = act_plan H 1 (kept us) (end Direct.finishes 0 0) w
list_end H us end e w = act_plan H 2 (put 1 (values_of e) (kept us)) (end (shape_of e) 1 0) w

-- an ending whose value counts for nothing
abbrev pub shut : Completion → Completion
shut (normal v) = normal None
shut e = e

-- one side of an `if`, by the value of its expression
abbrev pub branch_side : c.Tree c.stmt → c.Tree c.maybe_stmt → Here → Value → World → Plan
branch_side x other H v w = act_plan H 2 (one v) (Direct.decide 1 (Direct.within x H.around) (Direct.other_side other H.around)) w

-- after the body of a loop: a later turn, which is a task of its own, or the loop ends
abbrev pub loop_next : Loop → List (List ℕ) → Here → Completion → World → Plan
loop_next l ls H (normal v) w = enter (again l ls H) w ends
loop_next l ls H (continued k) w = cond (is_to k ls) (enter (again l ls H) w ends) (ends (continued k) w)
loop_next l ls H (broke k) w = cond (is_to k ls) (ends (normal None) w) (ends (broke k) w)
loop_next l ls H e w = ends e w

abbrev pub loop_body : Loop → List (List ℕ) → Here → World → Plan
loop_body l ls H w = enter (effect_of l.body [] H) w (loop_next l ls H)

-- a loop behind its test, by the test's value
abbrev pub loop_test : Loop → List (List ℕ) → Here → Value → World → Plan
loop_test l ls H v w = act_plan H 1 (kept (v ∷ [])) (Direct.loop_tested l ls H.around 0) w

abbrev pub at_test : c.Tree c.maybe_expr → Loop → List (List ℕ) → Here → World → Plan
at_test c.no_expr l ls H w = loop_body l ls H w
at_test (c.some_expr e) l ls H w = enter (value_of e H) w (on_value_of (loop_test l ls H))

-- what follows the part that a later turn begins as
abbrev pub turn_next : (Ending → ℕ → Act) → Here → Completion → World → Plan
turn_next go H e w = act_plan H 1 (given_at (values_of e)) (go (shape_of e) 0) w

-- `switch`: the clauses from one on; behind the value, whose place is 0, the first clause with the same value
abbrev pub bodies : c.Tree c.cases → List (List ℕ) → Here → ℕ → Places Value → ℕ → World → Plan
bodies cs ls H n at p w = act_plan H n at (Direct.bodies cs ls H.around p) w

abbrev pub default_on : Value → c.Tree c.cases → List (List ℕ) → Here → World → Plan
default_on v cs ls H w = act_plan H 1 (kept (v ∷ [])) (Direct.default_on cs ls H.around) w

abbrev pub find_case : Value → c.Tree c.cases → c.Tree c.cases → List (List ℕ) → Here → World → Plan
find_case v cs all ls H w = act_plan H 1 (kept (v ∷ [])) (Direct.find_case cs all ls H.around 0) w

-- a clause by whether its value is the same
abbrev pub case_side : Value → c.Tree c.cases → c.Tree c.cases → c.Tree c.cases → List (List ℕ) → Here → Value → Bool → World → Plan
case_side v here cs all ls H u b w =
    act_plan H 4 (put 3 [] (put 2 (truth (strictly_equal v u) ∷ []) (put 1 (u ∷ []) (kept (v ∷ []))))) (cond b (Direct.bodies here ls H.around 0) (keep (0 ∷ []) (Direct.find_case cs all ls H.around))) w

abbrev pub case_tested : Value → c.Tree c.cases → c.Tree c.cases → c.Tree c.cases → List (List ℕ) → Here → Value → World → Plan
case_tested v here cs all ls H u w = case_side v here cs all ls H u (strictly_equal v u) w

-- what was put at a place is there

pub put_there : (n : ℕ) (vs : List Value) (at : Places Value) → put n vs at n ≡ vs
put_there n vs at = ap (λ b. cond b vs (at n)) (same n)
  where
    same : (n : ℕ) → nat_eq n n ≡ true
    same n = grind (arith, nat_tests)

pub first_there : (n : ℕ) (v : Value) (at : Places Value) → first (put n (v ∷ []) at n) ≡ v
first_there n v at = ap first (put_there n (v ∷ []) at)

-- what goes on after a call that a form makes, by how it ended
abbrev pub called_next : (Shape → List Value → World → Plan) → (Completion → World → Plan) → Completion → World → Plan
called_next go next (gave v) w = bind (go good (v ∷ []) w) next
called_next go next (threw v) w = bind (go bad (v ∷ []) w) next
called_next go next e w = bind (go good (undefined ∷ []) w) next
