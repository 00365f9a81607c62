-- What is open while tokens are read from left to right: a stack of frames, the innermost first, and what is wanted or had.
use Rattle.std.specs.Prelude.{ℕ, Bool, true, false, List, [], ◌∷◌, Option}
use Rattle.es3_tree.specs.Tree as t
use Rattle.es3_tree.specs.Placed as tree
use Rattle.es3_tree.specs.Placed.{Placed, Word}
use Rattle.es3_tree.specs.declared.UnOp.{UnOp}
use Rattle.es3_grammar.specs.Levels.{E, Join, right}
use Rattle.es3_grammar.specs.Grammar.{S}
use Rattle.es3_tree.specs.Token.{Token}

-- the parts of lists: a property, a `var` item, a clause of a `switch`
abbrev pub Field : Type 0
Field = Word × E

abbrev pub Item : Type 0
Item = Word × Placed t.maybe_expr

abbrev pub Clause : Type 0
Clause = Placed t.maybe_expr × List S

abbrev pub exprs_of : List E → Placed t.exprs
exprs_of [] = tree.no_exprs
exprs_of (x ∷ xs) = tree.more_exprs x (exprs_of xs)

abbrev pub fields_of : List Field → Placed t.fields
fields_of [] = tree.no_fields
fields_of (x ∷ xs) = tree.more_fields x.0 x.1 (fields_of xs)

abbrev pub stmts_of : List S → Placed t.stmts
stmts_of [] = tree.no_stmts
stmts_of (x ∷ xs) = tree.more_stmts x (stmts_of xs)

abbrev pub items_of : List Item → Placed t.items
items_of [] = tree.no_items
items_of (x ∷ xs) = tree.more_items x.0 x.1 (items_of xs)

abbrev pub cases_of : List Clause → Placed t.cases
cases_of [] = tree.no_cases
cases_of (x ∷ xs) = tree.more_cases x.0 (stmts_of x.1) (cases_of xs)

-- what a list of expressions is for: the items of an array, the arguments of a call, those of a `new`
pub data Opened : Type 0 where
  an_array : Opened
  a_call : E → Opened
  a_new : E → Opened

-- a function whose head is read: whether it is a declaration, its name, the byte where it begins
pub record Head : Type 0 where
  pub declared : Bool
  pub called : Option Word
  pub begins : ℕ

abbrev pub head : Bool → Option Word → ℕ → Head
head d n a = record { declared = d; called = n; begins = a }

-- a list of statements that is read, and what stands before it
pub data Body : Type 0 where
  a_program : Body
  a_block : Body
  a_function : Head → List Word → Body
  a_clause : E → List Clause → Placed t.maybe_expr → Body
  a_try : Body
  a_catch : List S → Word → Body
  a_finally : List S → Placed t.handler → Body

pub data Frame : Type 0 where
  -- within an expression: brackets, operators that wait for a part
  paren : Frame
  subscript : E → Frame
  items : Opened → List E → Frame
  field : List Field → Word → Frame
  new_of : Frame
  prefix_step : Bool → Frame
  prefix : UnOp → ℕ → Frame
  join : Join → E → Frame
  test : E → Frame
  either : E → E → Frame
  -- an expression within a statement: the truth value of a `var` item says that it stands in a `for` head
  statement : Frame
  value : Bool → Word → List Item → Frame
  if_test : Frame
  while_test : Frame
  do_test : S → Frame
  for_first : Frame
  for_test : Placed t.first → Frame
  for_step : Placed t.first → Placed t.maybe_expr → Frame
  for_object : Placed t.loop_target → Frame
  giving : ℕ → Frame
  throwing : Frame
  with_head : ℕ → Frame
  switch_head : Frame
  case_test : E → List Clause → Frame
  -- a statement within a statement, a list of statements
  then_of : E → Frame
  else_of : E → S → Frame
  while_body : E → Frame
  do_body : Frame
  for_body : Placed t.first → Placed t.maybe_expr → Placed t.maybe_expr → Frame
  in_body : Placed t.loop_target → E → Frame
  with_body : E → ℕ → Frame
  label_of : Word → Frame
  body : Body → List S → Frame

abbrev pub Stack : Type 0
Stack = List Frame

pub data State : Type 0 where
  -- an operand is wanted; one was read; a part was read that no `.`, `[` or `(` may follow
  want : Stack → State
  have : E → Stack → State
  past : E → Stack → State
  -- an item or the closing bracket; a name behind a point; a key, or the closing brace where there is no property yet
  listed : Opened → List E → Stack → State
  member : E → Stack → State
  key : List Field → Stack → State
  -- a function's name or its open parenthesis; a parameter or the closing parenthesis; a parameter; what stands behind one
  func : Bool → ℕ → Stack → State
  params : Head → Stack → State
  param : Head → List Word → Stack → State
  param_end : Head → List Word → Stack → State
  -- a statement; one that begins with this name; one that was read; one whose end is wanted
  start : Stack → State
  begun : Word → Stack → State
  ended : S → Stack → State
  closing : S → Stack → State
  -- the name of a `var` item, and what stands behind it
  item : Bool → List Item → Stack → State
  item_end : Bool → Word → List Item → Stack → State
  -- the three parts of a `for` head
  for_open : Stack → State
  for_second : Placed t.first → Stack → State
  for_third : Placed t.first → Placed t.maybe_expr → Stack → State
  -- what stands behind `return`, behind `break` (true) or `continue`
  returned : ℕ → Stack → State
  jumped : Bool → ℕ → Stack → State
  -- the first clause of a `switch` or its end; what stands behind a block of `try`, and behind that of `catch`; the name in `catch`
  clauses : E → Stack → State
  tried : List S → Stack → State
  caught : List S → Word → List S → Stack → State
  catch_name : List S → Stack → State
  -- these tokens, and then that state
  await : List Token → State → State

-- the level that the place within a frame asks
abbrev pub asks : Frame → ℕ
asks (items o xs) = 1
asks (field fs n) = 1
asks new_of = 15
asks (prefix_step up) = 15
asks (prefix op a) = 13
asks (join j x) = right j
asks (test x) = 1
asks (either x y) = 1
asks (value h n is) = 1
asks _ = 0

abbrev pub asked : Stack → ℕ
asked [] = 0
asked (f ∷ k) = asks f

abbrev pub is_new : Frame → Bool
is_new new_of = true
is_new _ = false

-- an operand directly behind `new` is wanted
abbrev pub behind_new : Stack → Bool
behind_new [] = false
behind_new (f ∷ k) = is_new f

-- no `in` may stand here
abbrev pub no_in_here : Stack → Bool
no_in_here [] = false
no_in_here (for_first ∷ k) = true
no_in_here (value h n is ∷ k) = h
no_in_here (new_of ∷ k) = no_in_here k
no_in_here (prefix_step up ∷ k) = no_in_here k
no_in_here (prefix op a ∷ k) = no_in_here k
no_in_here (join j x ∷ k) = no_in_here k
no_in_here (either x y ∷ k) = no_in_here k
no_in_here (_ ∷ k) = false
