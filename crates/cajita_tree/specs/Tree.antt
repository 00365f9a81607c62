-- Resolved modules of Cajita apart from memory: one family, indexed by what stands there. A name, a label, a key or a text is its 16-bit units.
use Rattle.std.specs.Prelude.{ℕ, ℤ, Bool, List, Option}
use Rattle.es3_tree.specs.declared.UnOp.{UnOp}
use Rattle.es3_tree.specs.declared.BinOp.{BinOp}

pub data Sort : Type 0 where
  expr exprs fields key target maybe_expr stmt stmts items maybe_stmt maybe_block first cases handler func funcs body program : Sort

pub data Tree : Sort → Type 0 where
  -- primary expressions and literals (ES3 11.1): `args` is `arguments` (10.1.8)
  null : Tree expr
  bool : Bool → Tree expr
  num : ℤ → Tree expr
  text : List ℕ → Tree expr
  name : List ℕ → Tree expr
  args : Tree expr
  array : Tree exprs → Tree expr
  record_of : Tree fields → Tree expr
  function : Tree func → Tree expr
  -- members and calls (11.2), a member deleted (11.4.1)
  read : Tree expr → Tree key → Tree expr
  call : Tree expr → Tree exprs → Tree expr
  method : Tree expr → Tree key → Tree exprs → Tree expr
  new : Tree expr → Tree exprs → Tree expr
  delete : Tree expr → Tree key → Tree expr
  -- operators (11.3 to 11.14): in `step` the first truth value says `++`, the second that the operator stands before
  step : Bool → Bool → Tree target → Tree expr
  assign : Option BinOp → Tree target → Tree expr → Tree expr
  unary : UnOp → Tree expr → Tree expr
  binary : BinOp → Tree expr → Tree expr → Tree expr
  and : Tree expr → Tree expr → Tree expr
  or : Tree expr → Tree expr → Tree expr
  choice : Tree expr → Tree expr → Tree expr → Tree expr
  comma : Tree expr → Tree expr → Tree expr
  -- lists of expressions, the pairs of a record, a key, what is written to, an expression that may be absent
  no_exprs : Tree exprs
  more_exprs : Tree expr → Tree exprs → Tree exprs
  no_fields : Tree fields
  more_fields : List ℕ → Tree expr → Tree fields → Tree fields
  fixed : List ℕ → Tree key
  computed : Tree expr → Tree key
  variable : List ℕ → Tree target
  member : Tree expr → Tree key → Tree target
  no_expr : Tree maybe_expr
  some_expr : Tree expr → Tree maybe_expr
  -- statements (12)
  block : Tree stmts → Tree stmt
  var : Tree items → Tree stmt
  empty : Tree stmt
  expression : Tree expr → Tree stmt
  branch : Tree expr → Tree stmt → Tree maybe_stmt → Tree stmt
  while_loop : Tree expr → Tree stmt → Tree stmt
  do_loop : Tree stmt → Tree expr → Tree stmt
  for_loop : Tree first → Tree maybe_expr → Tree maybe_expr → Tree stmt → Tree stmt
  for_in : Tree target → Tree expr → Tree stmt → Tree stmt
  continue : Option (List ℕ) → Tree stmt
  break : Option (List ℕ) → Tree stmt
  return : Tree maybe_expr → Tree stmt
  switch : Tree expr → Tree cases → Tree stmt
  label : List ℕ → Tree stmt → Tree stmt
  throw : Tree expr → Tree stmt
  try : Tree stmts → Tree handler → Tree maybe_block → Tree stmt
  -- lists of statements, and the parts of statements
  no_stmts : Tree stmts
  more_stmts : Tree stmt → Tree stmts → Tree stmts
  no_items : Tree items
  more_items : List ℕ → Tree maybe_expr → Tree items → Tree items
  no_stmt : Tree maybe_stmt
  some_stmt : Tree stmt → Tree maybe_stmt
  no_block : Tree maybe_block
  some_block : Tree stmts → Tree maybe_block
  no_first : Tree first
  first_var : Tree items → Tree first
  first_expr : Tree expr → Tree first
  no_cases : Tree cases
  more_cases : Tree maybe_expr → Tree stmts → Tree cases → Tree cases
  no_handler : Tree handler
  some_handler : List ℕ → Tree stmts → Tree handler
  -- a function (13): its name if it has one, its parameters, whether its own body names `arguments`, its body
  fun : Option (List ℕ) → List (List ℕ) → Bool → Tree body → Tree func
  no_funcs : Tree funcs
  more_funcs : Tree func → Tree funcs → Tree funcs
  -- a body: the functions that it declares, the names that it declares by `var`, each once, and its statements
  a_body : Tree funcs → List (List ℕ) → Tree stmts → Tree body
  -- a module: what it imports, in order of first use, and its body
  a_module : List (List ℕ) → Tree body → Tree program
