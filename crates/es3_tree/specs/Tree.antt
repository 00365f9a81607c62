-- Trees of ECMAScript 3 (11 to 14) apart from places and memory: one family, indexed by what stands there.
-- Two trees of the program are called equal where their plain trees are.
use Rattle.std.specs.Prelude.{ℕ, ℤ, Bool, List, Option}
use Rattle.es3_tree.specs.declared.UnOp.{UnOp}
use Rattle.es3_tree.specs.declared.BinOp.{BinOp}

-- what may stand at a place: an expression, a statement, a list of these, or a part of one
pub data Sort : Type 0 where
  expr exprs fields maybe_expr : Sort
  stmt stmts items maybe_stmt maybe_block first loop_target cases handler : Sort
  func program : Sort

pub data Tree : Sort → Type 0 where
  -- primary expressions and literals (11.1): a text is its 16-bit units, and so is a name
  this : Tree expr
  null : Tree expr
  bool : Bool → Tree expr
  num : ℤ → Tree expr
  text : List ℕ → Tree expr
  name : List ℕ → Tree expr
  array : Tree exprs → Tree expr
  object : Tree fields → Tree expr
  function : Tree func → Tree expr
  -- members and calls (11.2)
  dot : Tree expr → List ℕ → Tree expr
  index : Tree expr → Tree expr → Tree expr
  call : Tree expr → Tree exprs → Tree expr
  new : Tree expr → Tree exprs → Tree expr
  -- operators (11.3 to 11.14): in `step` the first truth value says `++`, the second that the operator stands before
  unary : UnOp → Tree expr → Tree expr
  step : Bool → Bool → Tree expr → Tree expr
  binary : BinOp → Tree expr → Tree expr → Tree expr
  and : Tree expr → Tree expr → Tree expr
  or : Tree expr → Tree expr → Tree expr
  choice : Tree expr → Tree expr → Tree expr → Tree expr
  assign : Option BinOp → Tree expr → Tree expr → Tree expr
  comma : Tree expr → Tree expr → Tree expr
  -- lists of expressions, the properties of an object literal, an expression that may be absent
  no_exprs : Tree exprs
  more_exprs : Tree expr → Tree exprs → Tree exprs
  no_fields : Tree fields
  more_fields : List ℕ → Tree expr → Tree fields → Tree fields
  no_expr : Tree maybe_expr
  some_expr : Tree expr → Tree maybe_expr
  -- statements (12)
  block : Tree stmts → Tree stmt
  var : Tree items → Tree stmt
  empty : Tree stmt
  expression : Tree expr → Tree stmt
  branch : Tree expr → Tree stmt → Tree maybe_stmt → Tree stmt
  while_loop : Tree expr → Tree stmt → Tree stmt
  do_loop : Tree stmt → Tree expr → Tree stmt
  for_loop : Tree first → Tree maybe_expr → Tree maybe_expr → Tree stmt → Tree stmt
  for_in : Tree loop_target → Tree expr → Tree stmt → Tree stmt
  continue : Option (List ℕ) → Tree stmt
  break : Option (List ℕ) → Tree stmt
  return : Tree maybe_expr → Tree stmt
  with_object : Tree expr → Tree stmt → Tree stmt
  switch : Tree expr → Tree cases → Tree stmt
  label : List ℕ → Tree stmt → Tree stmt
  throw : Tree expr → Tree stmt
  try : Tree stmts → Tree handler → Tree maybe_block → Tree stmt
  declare : Tree func → Tree stmt
  -- lists of statements, and the parts of statements
  no_stmts : Tree stmts
  more_stmts : Tree stmt → Tree stmts → Tree stmts
  no_items : Tree items
  more_items : List ℕ → Tree maybe_expr → Tree items → Tree items
  no_stmt : Tree maybe_stmt
  some_stmt : Tree stmt → Tree maybe_stmt
  no_block : Tree maybe_block
  some_block : Tree stmts → Tree maybe_block
  -- the first part of a `for` head, and what a `for in` head writes to
  no_first : Tree first
  first_var : Tree items → Tree first
  first_expr : Tree expr → Tree first
  loop_var : List ℕ → Tree loop_target
  loop_expr : Tree expr → Tree loop_target
  no_cases : Tree cases
  more_cases : Tree maybe_expr → Tree stmts → Tree cases → Tree cases
  no_handler : Tree handler
  some_handler : List ℕ → Tree stmts → Tree handler
  -- a function (13): its name if it has one, its parameters, its body; a program (14)
  fun : Option (List ℕ) → List (List ℕ) → Tree stmts → Tree func
  script : Tree stmts → Tree program
