-- Trees of ECMAScript 3 (11 to 14) with their places: the forms of Tree, under the same names and sorts. A name, a label or a key is a word with
-- the byte of the source where it begins; a lone number is the byte where the form's own word or operator begins.
use Rattle.std.specs.Prelude.{ℕ, ℤ, Bool, List, Option}
use Rattle.es3_tree.specs.declared.UnOp.{UnOp}
use Rattle.es3_tree.specs.declared.BinOp.{BinOp}
use Rattle.es3_tree.specs.Tree.{Sort, expr, exprs, fields, maybe_expr, stmt, stmts, items, maybe_stmt, maybe_block, first, loop_target, cases, handler, func, program}

-- the units of a name (7.6), and the byte where it begins, from 0
pub record Word : Type 0 where
  pub text : List ℕ
  pub at : ℕ

pub data Placed : Sort → Type 0 where
  -- primary expressions and literals (11.1): a text is its 16-bit units, and so is a name
  this : ℕ → Placed expr
  null : Placed expr
  bool : Bool → Placed expr
  num : ℤ → Placed expr
  text : List ℕ → Placed expr
  name : Word → Placed expr
  array : Placed exprs → Placed expr
  object : Placed fields → Placed expr
  function : Placed func → Placed expr
  -- members and calls (11.2)
  dot : Placed expr → Word → Placed expr
  index : Placed expr → Placed expr → Placed expr
  call : Placed expr → Placed exprs → Placed expr
  new : Placed expr → Placed exprs → Placed expr
  -- operators (11.3 to 11.14): in `step` the first truth value says `++`, the second that the operator stands before
  unary : UnOp → Placed expr → ℕ → Placed expr
  step : Bool → Bool → Placed expr → Placed expr
  binary : BinOp → Placed expr → Placed expr → Placed expr
  and : Placed expr → Placed expr → Placed expr
  or : Placed expr → Placed expr → Placed expr
  choice : Placed expr → Placed expr → Placed expr → Placed expr
  assign : Option BinOp → Placed expr → Placed expr → Placed expr
  comma : Placed expr → Placed expr → Placed expr
  -- lists of expressions, the properties of an object literal, an expression that may be absent
  no_exprs : Placed exprs
  more_exprs : Placed expr → Placed exprs → Placed exprs
  no_fields : Placed fields
  more_fields : Word → Placed expr → Placed fields → Placed fields
  no_expr : Placed maybe_expr
  some_expr : Placed expr → Placed maybe_expr
  -- statements (12)
  block : Placed stmts → Placed stmt
  var : Placed items → Placed stmt
  empty : Placed stmt
  expression : Placed expr → Placed stmt
  branch : Placed expr → Placed stmt → Placed maybe_stmt → Placed stmt
  while_loop : Placed expr → Placed stmt → Placed stmt
  do_loop : Placed stmt → Placed expr → Placed stmt
  for_loop : Placed first → Placed maybe_expr → Placed maybe_expr → Placed stmt → Placed stmt
  for_in : Placed loop_target → Placed expr → Placed stmt → Placed stmt
  continue : Option Word → ℕ → Placed stmt
  break : Option Word → ℕ → Placed stmt
  return : Placed maybe_expr → ℕ → Placed stmt
  with_object : Placed expr → Placed stmt → ℕ → Placed stmt
  switch : Placed expr → Placed cases → Placed stmt
  label : Word → Placed stmt → Placed stmt
  throw : Placed expr → Placed stmt
  try : Placed stmts → Placed handler → Placed maybe_block → Placed stmt
  declare : Placed func → Placed stmt
  -- lists of statements, and the parts of statements
  no_stmts : Placed stmts
  more_stmts : Placed stmt → Placed stmts → Placed stmts
  no_items : Placed items
  more_items : Word → Placed maybe_expr → Placed items → Placed items
  no_stmt : Placed maybe_stmt
  some_stmt : Placed stmt → Placed maybe_stmt
  no_block : Placed maybe_block
  some_block : Placed stmts → Placed maybe_block
  -- the first part of a `for` head, and what a `for in` head writes to
  no_first : Placed first
  first_var : Placed items → Placed first
  first_expr : Placed expr → Placed first
  loop_var : Word → Placed loop_target
  loop_expr : Placed expr → Placed loop_target
  no_cases : Placed cases
  more_cases : Placed maybe_expr → Placed stmts → Placed cases → Placed cases
  no_handler : Placed handler
  some_handler : Word → Placed stmts → Placed handler
  -- a function (13): its name if it has one, its parameters, its body; a program (14)
  fun : Option Word → List Word → Placed stmts → ℕ → Placed func
  script : Placed stmts → Placed program
