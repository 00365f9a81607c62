-- What guarded programs are made of: calls of the runtime, temporaries, variables and what goes over keys.
use Rattle.std.specs.Prelude.{ℕ, zero, suc, ◌+◌, pos, Bool, true, false, List, [], ◌∷◌, ◌++◌, None, codes, if◌then◌else◌}
use Rattle.std.specs.List.{list_any}
use Rattle.caja_units.specs.Units.{same_units}
use Rattle.caja_units.specs.Index.{number_units}
use Rattle.es3_tree.specs.declared.BinOp.TheVariants as bin
use Rattle.es3_tree.specs.Tree as t
use Rattle.es3_tree.specs.Tree.{Tree}

-- the object of the runtime, what a module may import, the value of the module's last expression statement, and a copy of `arguments`
abbrev pub runtime_name : List ℕ
runtime_name = codes "___"

abbrev pub imports_name : List ℕ
imports_name = codes "IMPORTS___"

abbrev pub result_name : List ℕ
result_name = codes "moduleResult___"

abbrev pub arguments_copy : List ℕ
arguments_copy = codes "a___"

-- `___.f(a, b)`
abbrev pub runtime_call : List ℕ → Tree t.exprs → Tree t.expr
runtime_call f args = t.call (t.dot (t.name runtime_name) f) args

abbrev pub single : Tree t.expr → Tree t.exprs
single e = t.more_exprs e t.no_exprs

abbrev pub pair : Tree t.expr → Tree t.expr → Tree t.exprs
pair a b = t.more_exprs a (t.more_exprs b t.no_exprs)

abbrev pub triple : Tree t.expr → Tree t.expr → Tree t.expr → Tree t.exprs
triple a b d = t.more_exprs a (pair b d)

abbrev pub key_call : Tree t.expr → Tree t.expr
key_call e = runtime_call (codes "key") (single e)

-- temporaries: `x0___`, `x1___`, ..
abbrev pub temp_name : ℕ → List ℕ
temp_name i = codes "x" ++ (number_units i ++ codes "___")

abbrev pub temp : ℕ → Tree t.expr
temp i = t.name (temp_name i)

-- `xN___=e`, and `xN___=e,..`; what is joined by commas associates to the left
abbrev pub set_temp : ℕ → Tree t.expr → Tree t.expr
set_temp i e = t.assign None (temp i) e

abbrev pub with_temp : ℕ → Tree t.expr → Tree t.expr → Tree t.expr
with_temp i e rest = t.comma (set_temp i e) rest

abbrev pub with_temps : ℕ → Tree t.expr → Tree t.expr → Tree t.expr → Tree t.expr
with_temps i e f rest = t.comma (t.comma (set_temp i e) (set_temp (i + 1) f)) rest

-- `+e+1` or `+e-1`; `e+1` of what is a number already
abbrev pub by_one : Bool → Tree t.expr → Tree t.expr
by_one up e = t.binary (if up then bin.Add else bin.Sub) e (t.num (pos 1))

-- statements behind statements, and variables behind variables
abbrev pub joined : Tree t.stmts → Tree t.stmts → Tree t.stmts
joined t.no_stmts rest = rest
joined (t.more_stmts s ss) rest = t.more_stmts s (joined ss rest)

abbrev pub items_joined : Tree t.items → Tree t.items → Tree t.items
items_joined t.no_items rest = rest
items_joined (t.more_items x e is) rest = t.more_items x e (items_joined is rest)

-- the names of `vars` that none of these is
abbrev pub others : List (List ℕ) → List (List ℕ) → List (List ℕ)
others [] names = []
others (x ∷ xs) names = if list_any (same_units x) names then others xs names else x ∷ others xs names

-- `x,y` and `x0___,x1___` as variables of a `var`, the copy of `arguments`, and no statement where there is no variable
abbrev pub name_items : List (List ℕ) → Tree t.items → Tree t.items
name_items [] is = is
name_items (x ∷ xs) is = t.more_items x t.no_expr (name_items xs is)

abbrev pub temp_items : ℕ → ℕ → Tree t.items → Tree t.items
temp_items i zero is = is
temp_items i (suc n) is = t.more_items (temp_name i) t.no_expr (temp_items (suc i) n is)

abbrev pub args_items : Bool → Tree t.items → Tree t.items
args_items false is = is
args_items true is = t.more_items arguments_copy (t.some_expr (runtime_call (codes "args") (single (t.name (codes "arguments"))))) is

abbrev pub var_stmts : Tree t.items → Tree t.stmts → Tree t.stmts
var_stmts t.no_items rest = rest
var_stmts (t.more_items x e is) rest = t.more_stmts (t.var (t.more_items x e is)) rest

-- `for(x0___=e,x1___=___.keysPub(x0___),x2___=0;x2___<x1___.length;x2___++){if(___.inPub(x1___[x2___],x0___)){..}}`
abbrev pub key_of : ℕ → Tree t.expr
key_of n = t.index (temp (n + 1)) (temp (n + 2))

abbrev pub keys_first : ℕ → Tree t.expr → Tree t.first
keys_first n e = t.first_expr (with_temps n e (runtime_call (codes "keysPub") (single (temp n))) (set_temp (n + 2) (t.num (pos 0))))

abbrev pub keys_loop : ℕ → Tree t.expr → Tree t.stmt → Tree t.stmt → Tree t.stmt
keys_loop n e written body =
    t.for_loop (keys_first n e) (t.some_expr (t.binary bin.Less (temp (n + 2)) (t.dot (temp (n + 1)) (codes "length")))) (t.some_expr (t.step true false (temp (n + 2))))
    (t.block (t.more_stmts (t.branch (runtime_call (codes "inPub") (pair (key_of n) (temp n))) (t.block (t.more_stmts written (t.more_stmts body t.no_stmts))) t.no_stmt) t.no_stmts))
