-- What a Cajita module does, by cases on its tree: a form is an act, which says what is done with the values of its parts, and steps are the interpreter's.
-- Nothing here knows of guards, prototypes or marks, and no form looks into a value or the world: what it wants of them it asks.
use Rattle.std.specs.Prelude.{ℕ, zero, suc, ◌+◌, Bool, List, [], ◌∷◌, ◌++◌, Option, Some, None, length, codes, true, false, if◌then◌else◌}
use Rattle.caja_units.specs.Units.{same_units}
use Rattle.plans.specs.Plans.{depth_fault, Plan as PlanOf, ends, enter, Language, Run as RunOf, run}
use Rattle.acts.specs.Acts.{Act as ActOf, done, halt, value, part, step, ask, keep, task, Forms, language}
use Rattle.es3_tree.specs.declared.BinOp.{BinOp}
use Rattle.cajita_tree.specs.Tree as c
use Rattle.cajita_meaning.specs.World.{Value, World}
use Rattle.rows.specs.Rows.{Row}
use Rattle.rows.specs.Table.{row_of}
use Rattle.rows.specs.Nodes.{Rules}
use Rattle.rows.specs.Guards as guards
use Rattle.rows.specs.Operators as operators
pub use Rattle.cajita_meaning.specs.Asking.{Item, made, got, touched, passed, granted, said, was_revoked, changed_node, ended, Completion, gave, normal, broke, continued, returned, threw, Around, Loop, Part, an_expr, a_stmt, a_turn, a_key, a_native, a_load, Task}
use Rattle.cajita_meaning.specs.Asking.{Question, row, the_value, variable, written, scope, functions, a_record_of, a_closure_of, truth_is, a_null, a_truth, a_number, a_text, Shape, bad, scope_number, decided, keys, first, count_of, reply}

-- the shape of an ending: with a value; at the end of a statement, without and with one; by a jump, a `return`, a throw
pub data Ending : Type 0 where
  gives finishes yields : Ending
  breaks : Option (List ℕ) → Ending
  continues : Option (List ℕ) → Ending
  returns throws : Ending

abbrev pub Act : Type 0
Act = ActOf Part Ending Question Shape

abbrev pub Plan : Type 0
Plan = PlanOf Task Completion World Item

abbrev pub Run : Type 0
Run = RunOf Completion World (List Item)

-- words

abbrev pub give : ℕ → Act
give v = done gives (v ∷ [])

abbrev pub throw : ℕ → Act
throw v = done throws (v ∷ [])

abbrev pub finish : Act
finish = done finishes []

abbrev pub pass : Ending → ℕ → Act
pass s v = done s (v ∷ [])

-- the value of a statement within another counts for nothing
abbrev pub without_value : Ending → ℕ → Act
without_value yields v = finish
without_value finishes v = finish
without_value s v = pass s v

abbrev pub the : c.Tree c.expr → Around → (ℕ → Act) → Act
the e a go = value (an_expr e a) go

-- what is asked is answered with a value, or throws one
abbrev pub or_throw : (ℕ → Act) → Shape → ℕ → Act
or_throw go bad v = throw v
or_throw go s v = go v

abbrev pub asked : Question → List ℕ → (ℕ → Act) → Act
asked q vs go = ask q vs (or_throw go)

-- a row of these values, by how many there are; one that takes a fixed number
abbrev pub rows : (ℕ → Row) → Around → List ℕ → (ℕ → Act) → Act
rows q a vs go = asked (row a.calls q) vs go

abbrev pub the_row : Row → Around → List ℕ → (ℕ → Act) → Act
the_row q a vs go = rows (λ n. q) a vs go

abbrev pub by_truth : Act → Act → Shape → ℕ → Act
by_truth so other (decided b) v = if b then so else other
by_truth so other s v = other

-- one of two acts, by whether the value at a place counts as true
abbrev pub decide : ℕ → Act → Act → Act
decide v so other = ask truth_is (v ∷ []) (by_truth so other)

abbrev pub by_keys : (List (List ℕ) → Act) → Shape → ℕ → Act
by_keys go (keys ks) v = go ks
by_keys go s v = throw v

-- in the scope that was made
abbrev pub in_scope : Around → (Around → Act) → Shape → ℕ → Act
in_scope a go (scope_number n) v = go (record { chain = n ∷ a.chain; calls = a.calls })
in_scope a go s v = halt depth_fault

-- expressions

-- values from the left, behind those at a place
abbrev pub values_act : c.Tree c.exprs → Around → (ℕ → Act) → ℕ → Act
values_act c.no_exprs a go vs = go vs
values_act (c.more_exprs e rest) a go vs = the e a (λ v. keep (vs ∷ v ∷ []) (values_act rest a go))

abbrev pub fields_act : c.Tree c.fields → List (List ℕ) → Around → ℕ → Act
fields_act c.no_fields ks a vs = asked (a_record_of ks) (vs ∷ []) give
fields_act (c.more_fields k e rest) ks a vs = the e a (λ v. keep (vs ∷ v ∷ []) (fields_act rest (ks ++ k ∷ []) a))

-- the value of a key: a written one is its text
abbrev pub the_key : c.Tree c.key → Around → (ℕ → Act) → Act
the_key (c.fixed k) a go = asked (the_value (a_text k)) [] go
the_key (c.computed f) a go = the f a go

-- its text, made once
abbrev pub the_text : c.Tree c.key → Around → (ℕ → Act) → Act
the_text (c.fixed k) a go = asked (the_value (a_text k)) [] go
the_text (c.computed f) a go = the f a (λ p. the_row guards.key a (p ∷ []) go)

-- what is done with the value that a target has: a form that is given the place of that value and what writes a new one
abbrev pub Changing : Type 0
Changing = ℕ → (ℕ → (ℕ → Act) → Act) → Act

abbrev pub changed : c.Tree c.target → Around → Changing → Act
changed (c.variable x) a f = asked (variable a.chain x) [] (λ u. f u (λ v go. ask (written a.chain x) (v ∷ []) (λ s r. go v)))
changed (c.member e k) a f =
    the e a (λ o. the_text k a (λ t. rows guards.read_pub a (o ∷ t ∷ []) (λ u. f u (λ v go. rows guards.set_pub a (o ∷ t ∷ v ∷ []) go))))

-- `e op= v`; `++` and `--`, before and behind the operand
abbrev pub compound : BinOp → c.Tree c.expr → Around → Changing
compound op e a u write = the e a (λ v. the_row (operators.binary_row op) a (u ∷ v ∷ []) (λ x. write x give))

abbrev pub stepped : Bool → Bool → Around → Changing
stepped up true a u write = the_row (operators.next_number up) a (u ∷ []) (λ v. write v give)
stepped up false a u write = the_row operators.to_number a (u ∷ []) (λ old. the_row (operators.next_number up) a (old ∷ []) (λ v. write v (λ r. give old)))

abbrev pub assign_act : c.Tree c.target → c.Tree c.expr → Around → Act
assign_act (c.variable x) e a = the e a (λ v. ask (written a.chain x) (v ∷ []) (λ s r. give v))
assign_act (c.member o k) e a = the o a (λ u. the_key k a (λ p. the e a (λ v. rows guards.set_pub a (u ∷ p ∷ v ∷ []) give)))

abbrev pub expr_act : c.Tree c.expr → Around → Act
expr_act c.null a = asked (the_value a_null) [] give
expr_act (c.bool b) a = asked (the_value (a_truth b)) [] give
expr_act (c.num n) a = asked (the_value (a_number n)) [] give
expr_act (c.text us) a = asked (the_value (a_text us)) [] give
expr_act (c.name x) a = asked (variable a.chain x) [] give
expr_act c.args a = asked (variable a.chain (codes "arguments")) [] give
expr_act (c.array es) a = keep [] (values_act es a (λ vs. rows guards.initialize_array a (vs ∷ []) give))
expr_act (c.record_of fs) a = keep [] (fields_act fs [] a)
expr_act (c.function f) a = asked (a_closure_of f a.chain) [] give
expr_act (c.read e k) a = the e a (λ o. the_key k a (λ p. rows guards.read_pub a (o ∷ p ∷ []) give))
expr_act (c.call e es) a = the e a (λ f. the_row guards.as_simple_func a (f ∷ []) (λ g. keep (g ∷ []) (values_act es a (λ vs. rows guards.plain_call a (vs ∷ []) give))))
expr_act (c.method e k es) a = the e a (λ o. the_key k a (λ p. keep (o ∷ p ∷ []) (values_act es a (λ vs. rows guards.call_pub a (vs ∷ []) give))))
expr_act (c.new e es) a = the e a (λ f. keep (f ∷ []) (values_act es a (λ vs. rows guards.construct a (vs ∷ []) give)))
expr_act (c.delete e k) a = the e a (λ o. the_key k a (λ p. rows guards.delete_pub a (o ∷ p ∷ []) give))
expr_act (c.step up before x) a = changed x a (stepped up before a)
expr_act (c.assign None x e) a = assign_act x e a
expr_act (c.assign (Some op) x e) a = changed x a (compound op e a)
expr_act (c.unary op e) a = the e a (λ v. the_row (operators.unary_row op) a (v ∷ []) give)
expr_act (c.binary op x y) a = the x a (λ u. the y a (λ v. the_row (operators.binary_row op) a (u ∷ v ∷ []) give))
expr_act (c.and x y) a = the x a (λ u. decide u (the y a give) (give u))
expr_act (c.or x y) a = the x a (λ u. decide u (give u) (the y a give))
expr_act (c.choice x y z) a = the x a (λ u. decide u (the y a give) (the z a give))
expr_act (c.comma x y) a = the x a (λ u. the y a give)

-- statements

-- statements in a list; what is kept at the place p stays there. What follows the list is told how it ended, at which place its value is, and p
abbrev pub on_each : ℕ → (ℕ → Act) → (Ending → ℕ → ℕ → Act) → Ending → ℕ → Act
on_each p go end finishes v = keep (p ∷ []) go
on_each p go end yields v = keep (p ∷ []) go
on_each p go end s v = end s v p

abbrev pub list : c.Tree c.stmts → Around → (Ending → ℕ → ℕ → Act) → ℕ → Act
list c.no_stmts a end p = end finishes p p
list (c.more_stmts x rest) a end p = part (a_stmt x [] a) [] (on_each p (list rest a end) end)

-- the values of a `var` statement from the left, each for its variable
abbrev pub items_act : c.Tree c.items → Around → Act → Act
items_act c.no_items a end = end
items_act (c.more_items x c.no_expr rest) a end = items_act rest a end
items_act (c.more_items x (c.some_expr e) rest) a end = the e a (λ v. ask (written a.chain x) (v ∷ []) (λ s r. items_act rest a end))

abbrev pub within : c.Tree c.stmt → Around → Act
within x a = part (a_stmt x [] a) [] without_value

abbrev pub other_side : c.Tree c.maybe_stmt → Around → Act
other_side c.no_stmt a = finish
other_side (c.some_stmt x) a = within x a

-- whether a jump is to one of the labels, or to none
abbrev pub is_to : Option (List ℕ) → List (List ℕ) → Bool
is_to None ls = true
is_to (Some l) [] = false
is_to (Some l) (k ∷ ls) = if same_units l k then true else is_to (Some l) ls

abbrev pub is_label : Option (List ℕ) → List ℕ → Bool
is_label None l = false
is_label (Some k) l = same_units k l

abbrev pub on_label : List ℕ → Ending → ℕ → Act
on_label l (breaks k) v = if is_label k l then finish else pass (breaks k) v
on_label l s v = without_value s v

-- after the body of a loop: one more turn, or the loop ends
abbrev pub on_turn : List (List ℕ) → Act → Ending → ℕ → Act
on_turn ls go finishes v = go
on_turn ls go yields v = go
on_turn ls go (continues l) v = if is_to l ls then go else pass (continues l) v
on_turn ls go (breaks l) v = if is_to l ls then finish else pass (breaks l) v
on_turn ls go s v = pass s v

abbrev pub loop_next : Loop → List (List ℕ) → Around → Ending → ℕ → Act
loop_next l ls a s v = on_turn ls (part (a_turn l ls a) [] pass) s v

abbrev pub loop_body : Loop → List (List ℕ) → Around → Act
loop_body l ls a = part (a_stmt l.body [] a) [] (loop_next l ls a)

abbrev pub loop_tested : Loop → List (List ℕ) → Around → ℕ → Act
loop_tested l ls a v = decide v (loop_body l ls a) finish

abbrev pub loop_test : Loop → List (List ℕ) → Around → ℕ → Act
loop_test l ls a v = keep (v ∷ []) (loop_tested l ls a)

abbrev pub at_test : c.Tree c.maybe_expr → Loop → List (List ℕ) → Around → Act
at_test c.no_expr l ls a = loop_body l ls a
at_test (c.some_expr e) l ls a = the e a (loop_test l ls a)

abbrev pub for_first : c.Tree c.first → Loop → List (List ℕ) → Around → Act
for_first c.no_first l ls a = at_test l.test l ls a
for_first (c.first_var is) l ls a = items_act is a (at_test l.test l ls a)
for_first (c.first_expr e) l ls a = the e a (λ v. at_test l.test l ls a)

-- a later turn begins with what is done after a turn, or else with the test, or else with the body
abbrev pub on_value : (ℕ → Act) → Ending → ℕ → Act
on_value go gives v = go v
on_value go s v = pass s v

abbrev pub turn_of : c.Tree c.maybe_expr → c.Tree c.maybe_expr → Loop → List (List ℕ) → Around → Part × (Ending → ℕ → Act)
turn_of (c.some_expr u) e l ls a = (an_expr u a, on_value (λ v. at_test e l ls a))
turn_of c.no_expr (c.some_expr e) l ls a = (an_expr e a, on_value (loop_test l ls a))
turn_of c.no_expr c.no_expr l ls a = (a_stmt l.body [] a, loop_next l ls a)

abbrev pub turn : Part → Option (Part × (Ending → ℕ → Act))
turn (a_turn l ls a) = Some (turn_of l.update l.test l ls a)
turn p = None

-- `for in`: the keys that the value at the place o has at the start, each where it is still there
abbrev pub turn_keys : List (List ℕ) → c.Tree c.target → c.Tree c.stmt → List (List ℕ) → Around → ℕ → Act
turn_keys [] x b ls a o = finish
turn_keys (k ∷ ks) x b ls a o = part (a_key k ks x b ls a) (o ∷ []) pass

abbrev pub key_body : List (List ℕ) → c.Tree c.target → c.Tree c.stmt → List (List ℕ) → Around → ℕ → Act
key_body ks x b ls a o = part (a_stmt b [] a) [] (on_turn ls (turn_keys ks x b ls a o))

abbrev pub key_written : c.Tree c.target → Around → ℕ → Act → Act
key_written (c.variable y) a v go = ask (written a.chain y) (v ∷ []) (λ s r. go)
key_written (c.member e f) a v go = the e a (λ u. the_key f a (λ p. rows guards.set_pub a (u ∷ p ∷ v ∷ []) (λ r. go)))

abbrev pub key_act : List ℕ → List (List ℕ) → c.Tree c.target → c.Tree c.stmt → List (List ℕ) → Around → ℕ → Act
key_act k ks x b ls a o =
    asked (the_value (a_text k)) [] (λ t. the_row guards.in_pub a (t ∷ o ∷ []) (λ h. decide h (key_written x a t (key_body ks x b ls a o)) (turn_keys ks x b ls a o)))

abbrev pub for_in_act : c.Tree c.target → c.Tree c.expr → c.Tree c.stmt → List (List ℕ) → Around → Act
for_in_act x e b ls a = the e a (λ o. ask (row a.calls (λ n. guards.keys_pub)) (o ∷ []) (by_keys (λ ks. turn_keys ks x b ls a o)))

-- `switch`: the statements of the clauses from one on, each clause followed by the next
abbrev pub clause_end : List (List ℕ) → (ℕ → Act) → Ending → ℕ → ℕ → Act
clause_end ls go finishes v p = go p
clause_end ls go (breaks l) v p = if is_to l ls then finish else pass (breaks l) v
clause_end ls go s v p = without_value s v

abbrev pub bodies : c.Tree c.cases → List (List ℕ) → Around → ℕ → Act
bodies c.no_cases ls a p = finish
bodies (c.more_cases e xs cs) ls a p = keep [] (list xs a (clause_end ls (bodies cs ls a)))

abbrev pub default_on : c.Tree c.cases → List (List ℕ) → Around → Act
default_on c.no_cases ls a = finish
default_on (c.more_cases (c.some_expr e) xs cs) ls a = default_on cs ls a
default_on (c.more_cases c.no_expr xs cs) ls a = bodies (c.more_cases c.no_expr xs cs) ls a 0

abbrev pub find_case : c.Tree c.cases → c.Tree c.cases → List (List ℕ) → Around → ℕ → Act
find_case c.no_cases all ls a v = default_on all ls a
find_case (c.more_cases c.no_expr xs cs) all ls a v = find_case cs all ls a v
find_case (c.more_cases (c.some_expr e) xs cs) all ls a v =
    the e a (λ u. the_row operators.same a (v ∷ u ∷ []) (λ b. decide b (bodies (c.more_cases (c.some_expr e) xs cs) ls a 0) (keep (v ∷ []) (find_case cs all ls a))))

-- `try`: what a `finally` leaves of the ending before it, whose value is kept at the place p
abbrev pub restored : Ending → Ending → ℕ → ℕ → Act
restored before finishes v p = without_value before p
restored before s v p = pass s v

abbrev pub finally_act : c.Tree c.maybe_block → Around → Ending → ℕ → ℕ → Act
finally_act c.no_block a s v p = without_value s v
finally_act (c.some_block xs) a s v p = keep (v ∷ []) (list xs a (restored s))

-- a `catch` has a scope with its name
abbrev pub after_try : c.Tree c.handler → c.Tree c.maybe_block → Around → Ending → ℕ → ℕ → Act
after_try (c.some_handler x xs) f a throws v p = ask (scope (x ∷ []) []) (v ∷ []) (in_scope a (λ b. keep [] (list xs b (finally_act f a))))
after_try h f a s v p = finally_act f a s v p

abbrev pub block_end : Ending → ℕ → ℕ → Act
block_end s v p = without_value s v

abbrev pub while_of : c.Tree c.expr → c.Tree c.stmt → Loop
while_of e x = record { test = c.some_expr e; update = c.no_expr; body = x }

abbrev pub stmt_act : c.Tree c.stmt → List (List ℕ) → Around → Act
stmt_act (c.block xs) ls a = keep [] (list xs a block_end)
stmt_act (c.var is) ls a = items_act is a finish
stmt_act c.empty ls a = finish
stmt_act (c.expression e) ls a = the e a (λ v. done yields (v ∷ []))
stmt_act (c.branch e x other) ls a = the e a (λ v. decide v (within x a) (other_side other a))
stmt_act (c.while_loop e x) ls a = the e a (loop_test (while_of e x) ls a)
stmt_act (c.do_loop x e) ls a = loop_body (while_of e x) ls a
stmt_act (c.for_loop i e u x) ls a = for_first i (record { test = e; update = u; body = x }) ls a
stmt_act (c.for_in x e b) ls a = for_in_act x e b ls a
stmt_act (c.continue l) ls a = done (continues l) []
stmt_act (c.break l) ls a = done (breaks l) []
stmt_act (c.return c.no_expr) ls a = done returns []
stmt_act (c.return (c.some_expr e)) ls a = the e a (λ v. done returns (v ∷ []))
stmt_act (c.switch e cs) ls a = the e a (λ v. keep (v ∷ []) (find_case cs cs ls a))
stmt_act (c.label l x) ls a = part (a_stmt x (l ∷ ls) a) [] (on_label l)
stmt_act (c.throw e) ls a = the e a throw
stmt_act (c.try xs h f) ls a = keep [] (list xs a (after_try h f a))

-- modules

-- so many names are bound, each with a step
abbrev pub steps : ℕ → Act → Act
steps zero a = a
steps (suc n) a = step (steps n a)

-- the module's own statements: the value of the last expression statement is kept at a place, and is what the load gives
abbrev pub on_own : ℕ → (ℕ → Act) → Ending → ℕ → Act
on_own last go finishes v = keep (last ∷ []) go
on_own last go yields v = keep (v ∷ []) go
on_own last go s v = pass s v

abbrev pub own_list : c.Tree c.stmts → Around → ℕ → Act
own_list c.no_stmts a last = give last
own_list (c.more_stmts x rest) a last = part (a_stmt x [] a) [] (on_own last (own_list rest a))

abbrev pub nowhere : Around
nowhere = record { chain = []; calls = 1 }

-- a load: its imports, whose values it is given, and its variables are bound, its functions are made, and its statements follow
abbrev pub load_act : c.Tree c.program → Act
load_act (c.a_module xs (c.a_body fs vars body)) =
    steps (length xs + (length vars + count_of fs)) (ask (scope xs vars) (0 ∷ []) (in_scope nowhere (λ a. ask (functions fs a.chain) [] (λ s r. keep [] (own_list body a)))))

-- the language, with what is the same for a whole page

abbrev pub act_of : Rules → Part → Act
act_of rules (an_expr e a) = expr_act e a
act_of rules (a_stmt x ls a) = stmt_act x ls a
act_of rules (a_turn l ls a) = finish
act_of rules (a_key k ks x b ls a) = key_act k ks x b ls a 0
act_of rules (a_native f calls) = asked (row calls (row_of rules f)) (0 ∷ []) give
act_of rules (a_load m) = load_act m

abbrev pub shape_of : Completion → Ending
shape_of (gave v) = gives
shape_of (normal None) = finishes
shape_of (normal (Some v)) = yields
shape_of (broke l) = breaks l
shape_of (continued l) = continues l
shape_of (returned v) = returns
shape_of (threw v) = throws

abbrev pub values_of : Completion → List Value
values_of (gave v) = v ∷ []
values_of (normal None) = []
values_of (normal (Some v)) = v ∷ []
values_of (broke l) = []
values_of (continued l) = []
values_of (returned v) = v ∷ []
values_of (threw v) = v ∷ []

abbrev pub value_in : Completion → Option Value
value_in (gave v) = Some v
value_in e = None

abbrev pub ending : Ending → List Value → Completion
ending gives vs = gave (first vs)
ending finishes vs = normal None
ending yields vs = normal (Some (first vs))
ending (breaks l) vs = broke l
ending (continues l) vs = continued l
ending returns vs = returned (first vs)
ending throws vs = threw (first vs)

abbrev pub forms : Rules → Forms Part Ending Question Shape Value Completion World Item
forms rules = record { shape = shape_of; values = values_of; value_in = value_in; ending = ending; act = act_of rules; turn = turn; reply = reply }

abbrev pub direct : Rules → Language Task Completion World Item (List Item)
direct rules = language (forms rules) (λ i z. z ++ i ∷ [])

-- the load of a module, as the module of a number and with the values of its imports, in a world and with n steps
abbrev pub load_run : Rules → c.Tree c.program → ℕ → List Value → World → List Item → ℕ → Run
load_run rules m by vs w z n = run (direct rules) n (enter (task (a_load m) by vs) w ends) z
