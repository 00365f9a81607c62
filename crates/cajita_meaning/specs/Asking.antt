-- What a form may ask of the world, and what the world answers. This is all that a form can see or change.
use Rattle.std.specs.Prelude.{ℕ, zero, suc, ◌+◌, ℤ, Bool, true, false, List, [], ◌∷◌, Option, Some, None, length, slice_get, slice_set, is_some, nat_lt, if◌then◌else◌, codes}
use Rattle.plans.specs.Plans.{depth_fault}
use Rattle.acts.specs.Acts.{Task as TaskOf, task, Reply as ReplyOf, answer, fault, telling, stepping, calling}
use Rattle.cajita_tree.specs.Tree as c
use Rattle.rows.specs.Rows as r
use Rattle.rows.specs.Rows.{Native, Row, to_call}
use Rattle.rows.specs.Names.{sort_of, is_exophoric}
use Rattle.rows.specs.Core.{seen_true}
use Rattle.cajita_meaning.specs.World.{Name, made_name, cell_name, own_name, built_name, forward_name, Value, undefined, null, truth, number, text, object, Pairs, Object, a_record, an_array, a_closure, an_error, World, with_object, with_scope, with_scopes, next_name, next_scope, scope_at, declare, value_at, with_value as with_pair, with_values, with_vars, with_params}
pub use Rattle.cajita_meaning.specs.Doing.{Completion, gave, normal, broke, continued, returned, threw, Item, made, got, touched, passed, granted, said, was_revoked, changed_node, ended}
use Rattle.cajita_meaning.specs.Doing as d

-- where a form stands: the scopes around it, innermost first, by their numbers among those of the running module, and how many calls are open
pub record Around : Type 0 where
  pub chain : List ℕ
  pub calls : ℕ

-- a loop: its test, what is done after each turn, its body
pub record Loop : Type 0 where
  pub test : c.Tree c.maybe_expr
  pub update : c.Tree c.maybe_expr
  pub body : c.Tree c.stmt

-- what takes a step when it is entered
pub data Part : Type 0 where
  an_expr : c.Tree c.expr → Around → Part
  -- a statement, with the labels before it
  a_stmt : c.Tree c.stmt → List (List ℕ) → Around → Part
  -- a later turn of a loop, which begins as its first part does
  a_turn : Loop → List (List ℕ) → Around → Part
  -- a key that a `for in` reaches, with the keys behind it; it is given the value that has them
  a_key : List ℕ → List (List ℕ) → c.Tree c.target → c.Tree c.stmt → List (List ℕ) → Around → Part
  -- a function that no module made, where so many calls are open; it is given its receiver, or itself where it wants none, and the arguments
  a_native : Native → ℕ → Part
  -- a module's load; it is given the values of its imports
  a_load : c.Tree c.program → Part

abbrev pub Task : Type 0
Task = TaskOf Part Value

-- a value that is no object
pub data Constant : Type 0 where
  a_null : Constant
  a_truth : Bool → Constant
  a_number : ℤ → Constant
  a_text : List ℕ → Constant

abbrev pub constant_value : Constant → Value
constant_value a_null = null
constant_value (a_truth b) = truth b
constant_value (a_number n) = number n
constant_value (a_text us) = text us

pub data Question : Type 0 where
  -- a row by the number of the values that it gets, where so many calls are open
  row : ℕ → (ℕ → Row) → Question
  the_value : Constant → Question
  -- a variable, by the scopes around; a value for one
  variable : List ℕ → List ℕ → Question
  written : List ℕ → List ℕ → Question
  -- a scope of these parameters, with the values, and of these variables
  scope : List (List ℕ) → List (List ℕ) → Question
  -- the functions that a body declares are made and bound in the innermost of these scopes
  functions : c.Tree c.funcs → List ℕ → Question
  -- a record of these keys; a function expression with the scopes around it
  a_record_of : List (List ℕ) → Question
  a_closure_of : c.Tree c.func → List ℕ → Question
  -- 9.2: whether a value counts as true
  truth_is : Question

-- the shape of an answer: it went well, it threw; the number of a scope, a truth value, keys
pub data Shape : Type 0 where
  good : Shape
  bad : Shape
  scope_number : ℕ → Shape
  decided : Bool → Shape
  keys : List (List ℕ) → Shape

abbrev pub Reply : Type 0
Reply = ReplyOf Task Completion Shape Value World Item

abbrev pub good_value : Value → World → Reply
good_value v w = answer good (v ∷ []) w

-- the values that a question comes with
abbrev pub first : List Value → Value
first [] = undefined
first (v ∷ vs) = v

-- variables

abbrev pub first_of : Option Value → Option Value → Option Value
first_of None b = b
first_of (Some v) b = Some v

-- a variable, in the first scope that has it
abbrev pub lookup : List ℕ → List Pairs → List ℕ → Option Value
lookup [] scopes x = None
lookup (n ∷ chain) scopes x = first_of (value_at x (scope_at (slice_get scopes n))) (lookup chain scopes x)

-- a value for a variable, in the first scope that has it
abbrev pub assigned : List ℕ → List ℕ → Value → List Pairs → List Pairs
assigned [] x v scopes = scopes
assigned (n ∷ chain) x v scopes =
    if is_some (value_at x (scope_at (slice_get scopes n))) then slice_set scopes n (with_pair x v (scope_at (slice_get scopes n))) else assigned chain x v scopes

-- objects that are made

-- a new object of a module, which then has that module's next name
abbrev pub making : Object → ℕ → World → (Value → World → Reply) → Reply
making o m w go = telling (made m (next_name m w)) (go (object (next_name m w)) (with_object m o w))

abbrev pub made_reply : Object → ℕ → World → Reply
made_reply o m w = making o m w good_value

-- a TypeError that is thrown is made by the running module
abbrev pub error_reply : List ℕ → ℕ → World → Reply
error_reply message m w = making (an_error r.type_error message) m w (λ v w'. answer bad (v ∷ []) w')

-- a name that is no variable throws; a module that is accepted has none
abbrev pub found_reply : Option Value → ℕ → World → Reply
found_reply None m w = error_reply (codes "unbound") m w
found_reply (Some v) m w = good_value v w

-- keys and values, one after another
abbrev pub paired : List (List ℕ) → List Value → Pairs
paired [] vs = []
paired (k ∷ ks) [] = []
paired (k ∷ ks) (v ∷ vs) = (k, v) ∷ paired ks vs

abbrev pub func_name : c.Tree c.func → List ℕ
func_name (c.fun None params args body) = []
func_name (c.fun (Some x) params args body) = x

-- 13: a function expression; one with a name of its own has a scope with that name around it
abbrev pub closure_reply : c.Tree c.func → List ℕ → ℕ → World → Reply
closure_reply (c.fun None params args body) chain m w = made_reply (a_closure (c.fun None params args body) chain) m w
closure_reply (c.fun (Some x) params args body) chain m w =
    made_reply (a_closure (c.fun (Some x) params args body) (next_scope m w ∷ chain)) m (with_scope m ((x, object (next_name m w)) ∷ []) w)

-- calls of closures

-- each object among values goes from one module to another
abbrev pub passing : ℕ → ℕ → List Value → Reply → Reply
passing a b [] q = q
passing a b (object o ∷ vs) q = telling (passed a b o) (passing a b vs q)
passing a b (v ∷ vs) q = passing a b vs q

-- the names that are bound at a call each take a step
abbrev pub stepping_all : ℕ → World → Reply → Reply
stepping_all zero w q = q
stepping_all (suc n) w q = stepping w (stepping_all n w q)

abbrev pub count_of : c.Tree c.funcs → ℕ
count_of c.no_funcs = 0
count_of (c.more_funcs f fs) = suc (count_of fs)

-- the functions that a body declares are made in order, each bound in the scope n, which is the innermost
abbrev pub functions_made : c.Tree c.funcs → ℕ → List ℕ → ℕ → World → (World → Reply) → Reply
functions_made c.no_funcs n chain m w go = go w
functions_made (c.more_funcs f fs) n chain m w go = making (a_closure f chain) m w (λ v w'. functions_made fs n chain m (declare m n (func_name f) v w') go)

-- `arguments`, where the body names it: a frozen array
abbrev pub arguments_made : Bool → List Value → ℕ → ℕ → World → (World → Reply) → Reply
arguments_made false vs n m w go = go w
arguments_made true vs n m w go = making (an_array true vs) m w (λ v w'. go (declare m n (codes "arguments") v w'))

abbrev pub statement : c.Tree c.stmt → ℕ → Around → Task
statement x m a = task (a_stmt x [] a) m []

-- what a call of the module m's closure gives to the module that called it, by how its statements ended
abbrev pub returned_reply : ℕ → ℕ → Completion → World → Reply
returned_reply by m (returned v) w = passing m by (v ∷ []) (good_value v w)
returned_reply by m (threw v) w = passing m by (v ∷ []) (answer bad (v ∷ []) w)
returned_reply by m e w = good_value undefined w

abbrev pub after_statement : ℕ → ℕ → Completion → World → (World → Reply) → Reply
after_statement by m (normal v) w go = go w
after_statement by m e w go = returned_reply by m e w

-- the statements of a closure, as its own module's
abbrev pub statements_reply : c.Tree c.stmts → Around → ℕ → ℕ → World → Reply
statements_reply c.no_stmts a m by w = good_value undefined w
statements_reply (c.more_stmts x rest) a m by w = calling (statement x m a) w (λ e w'. after_statement by m e w' (λ w''. statements_reply rest a m by w''))

-- a body in a new scope, which is the scope n: its names are bound, its functions are made, and its statements follow
abbrev pub body_reply : c.Tree c.body → List (List ℕ) → Bool → List Value → ℕ → Around → ℕ → ℕ → World → Reply
body_reply (c.a_body fs vars xs) params args vs n a m by w =
    stepping_all (length params + ((if args then 1 else 0) + (length vars + count_of fs))) w
    (arguments_made args vs n m (with_scope m (with_vars vars (with_params params vs [])) w) (λ w1. functions_made fs n a.chain m w1 (λ w2. statements_reply xs a m by w2)))

-- a closure runs as the module m that made it; at most 1,000 calls are open at once
abbrev pub entry_reply : c.Tree c.func → List ℕ → ℕ → List Value → ℕ → ℕ → World → Reply
entry_reply (c.fun name params args body) chain m vs calls by w =
    if nat_lt calls 1000
    then passing by m vs (body_reply body params args vs (next_scope m w) (record { chain = next_scope m w ∷ chain; calls = calls + 1 }) m by w)
    else fault depth_fault w

-- calls of any function

abbrev pub native_reply : Completion → World → Reply
native_reply (gave v) w = good_value v w
native_reply (threw v) w = answer bad (v ∷ []) w
native_reply e w = good_value undefined w

abbrev pub not_a_function : ℕ → World → Reply
not_a_function by w = error_reply (codes "not a function") by w

abbrev pub touching_call : Bool → ℕ → Name → Reply → Reply
touching_call recorded by n q = if recorded then telling (touched by to_call n []) q else q

abbrev pub closure_call : ℕ → Bool → Option Object → ℕ → ℕ → List Value → ℕ → World → Reply
closure_call calls recorded (Some (a_closure f chain)) m n vs by w = touching_call recorded by (made_name m n) (entry_reply f chain m vs calls by w)
closure_call calls recorded o m n vs by w = not_a_function by w

-- what does what a function does that no module made
abbrev pub native_at : Name → Option Native
native_at (built_name f) = Some f
native_at (own_name m zero) = Some r.say
native_at (own_name m (suc i)) = Some r.later
native_at (cell_name k (suc zero)) = Some r.get
native_at (cell_name k (suc (suc i))) = Some r.set
native_at (forward_name m p k (suc zero)) = Some r.forward_get
native_at (forward_name m p k (suc (suc i))) = Some r.forward_set
native_at n = None

-- it gets the receiver if it wants one, and else itself; entering it is its step
abbrev pub native_call : ℕ → Bool → Option Native → Name → Value → List Value → ℕ → World → Reply
native_call calls recorded (Some f) n t vs by w =
    touching_call recorded by n (calling (task (a_native f calls) by ((if is_exophoric (sort_of f) then t else object n) ∷ vs)) w native_reply)
native_call calls recorded None n t vs by w = not_a_function by w

abbrev pub call_reply : ℕ → Bool → Value → Value → List Value → ℕ → World → Reply
call_reply calls recorded (object (made_name m n)) t vs by w = closure_call calls recorded (slice_get (w.objects m) n) m n vs by w
call_reply calls recorded (object n) t vs by w = native_call calls recorded (native_at n) n t vs by w
call_reply calls recorded f t vs by w = not_a_function by w

-- what a row comes to, told

abbrev pub telling_all : List Item → Reply → Reply
telling_all [] q = q
telling_all (i ∷ z) q = telling i (telling_all z q)

abbrev pub outcome_reply : ℕ → ℕ → d.Outcome → World → Reply
outcome_reply calls by (d.gives v) w = good_value v w
outcome_reply calls by (d.throws v) w = answer bad (v ∷ []) w
outcome_reply calls by (d.stops f) w = fault f w
outcome_reply calls by (d.lists ks) w = answer (keys ks) [] w
outcome_reply calls by (d.calls recorded f t vs) w = call_reply calls recorded f t vs by w

abbrev pub done_reply : ℕ → ℕ → d.Done → Reply
done_reply calls by e = telling_all e.items (outcome_reply calls by e.outcome e.world)

abbrev pub innermost : List ℕ → ℕ
innermost [] = 0
innermost (n ∷ chain) = n

abbrev pub reply : Question → ℕ → List Value → World → Reply
reply (row calls q) by vs w = done_reply calls by (d.does by (q (length vs)) (d.given vs) w [])
reply (the_value k) by vs w = good_value (constant_value k) w
reply (variable chain x) by vs w = found_reply (lookup chain (w.scopes by) x) by w
reply (written chain x) by vs w = answer good [] (with_scopes by (assigned chain x (first vs) (w.scopes by)) w)
reply (scope params vars) by vs w = answer (scope_number (next_scope by w)) [] (with_scope by (with_vars vars (with_params params vs [])) w)
reply (functions fs chain) by vs w = functions_made fs (innermost chain) chain by w (λ w'. answer good [] w')
reply (a_record_of ks) by vs w = made_reply (a_record false (with_values (paired ks vs) [])) by w
reply (a_closure_of f chain) by vs w = closure_reply f chain by w
reply truth_is by vs w = answer (decided (seen_true (d.see w 0 (first vs)).sight)) [] w
