-- What the names of a program of Valija are lowered to: one that the module declares or imports stays; of any other the prelude keeps the value.
use Rattle.std.specs.Prelude.{ℕ, Bool, true, false, not, Some, None, codes, if◌then◌else◌}
use Rattle.es3_tree.specs.declared.UnOp.TheVariants.{Void, Typeof}
use Rattle.es3_tree.specs.declared.BinOp.{BinOp}
use Rattle.es3_tree.specs.Tree as t
use Rattle.es3_tree.specs.Placed as p
use Rattle.es3_tree.specs.Placed.{Placed, Word}
use Rattle.cajita_names.specs.Scope.{Scope, bound, is_unbound, is_within, is_arguments}
use Rattle.valija_forms.specs.Forms.{name, word, list1, number, ask, text_of, outer, set_outer, receiver_name, stepped_outer, stepped_outer_behind}

-- a name that the module declares around it, or imports
abbrev pub is_known : Scope → Word → Bool
is_known s x = not (is_unbound (bound s x.text))

-- `this` is the receiver in a function, and undefined elsewhere
abbrev pub receiver : Scope → Placed t.expr
receiver s = if is_within s then name receiver_name else p.unary Void (number 0) 0

-- the arguments that the source has are those behind the receiver
abbrev pub own_arguments : Word → Placed t.expr
own_arguments x = p.call (p.dot (name x.text) (word (codes "slice"))) (list1 (number 1))

abbrev pub read_name : Scope → Word → Placed t.expr
read_name s x =
    if is_arguments x.text then own_arguments x
    else if is_known s x then name x.text
    else outer x

abbrev pub write_name : Scope → Word → Placed t.expr → Placed t.expr
write_name s x v = if is_known s x then p.assign None (name x.text) v else set_outer x v

abbrev pub type_of_name : Scope → Word → Placed t.expr
type_of_name s x =
    if is_arguments x.text then p.unary Typeof (own_arguments x) 0
    else if is_known s x then p.unary Typeof (name x.text) 0
    else ask (codes "to") (list1 (text_of x))

abbrev pub op_of_name : Scope → BinOp → Word → Placed t.expr → Placed t.expr
op_of_name s op x v = if is_known s x then p.assign (Some op) (name x.text) v else set_outer x (p.binary op (outer x) v)

-- `++` and `--`, before a name or behind it, where the old value of one that nothing declares is kept in the temporary a
abbrev pub stepped_name : Scope → Bool → Bool → ℕ → Word → Placed t.expr
stepped_name s up before a x =
    if is_known s x then p.step up before (name x.text)
    else if before then stepped_outer up x
    else stepped_outer_behind up a x

abbrev pub name_takes : Scope → Bool → Word → ℕ
name_takes s before x = if is_known s x then 0 else if before then 0 else 1
