-- Names: how deep what they are lowered to is.
use Rattle.std.proofs.Common.{ℕ, ◌+◌, Bool, true, false, Some, None, cond, arith}
use Rattle.std.specs.Prelude.{max, codes}
use Rattle.es3_tree.specs.Tree as t
use Rattle.es3_tree.specs.Placed as p
use Rattle.es3_tree.specs.Placed.{Placed, Word}
use Rattle.es3_tree.specs.declared.UnOp.TheVariants.{Void, Typeof}
use Rattle.es3_tree.specs.declared.BinOp.{BinOp}
use Rattle.cajita_names.specs.Scope.{Scope, is_within, is_arguments}
use Rattle.valija_forms.specs.Forms.{name, word, number, ask, list1, text_of, outer, set_outer, receiver_name, stepped_outer, stepped_outer_behind}
use Rattle.valija_parts.specs.Names.{is_known, receiver, own_arguments, read_name, write_name, type_of_name, op_of_name, stepped_name}
use Rattle.valija_nesting.proofs.Parts.{Nests, deeper}
use Rattle.valija_nesting.proofs.ExpressionForms.{text_nests, num_nests, name_nests, unary_nests, binary_nests, assign_name_nests, step_name_nests}
use Rattle.valija_nesting.proofs.Asking.{list1_nests, member_nests, ask_nests, outer_nests, set_outer_nests, stepped_outer_nests, stepped_outer_behind_nests}

-- either of two forms
choose : {n : ℕ} (b : Bool) (x y : Placed t.expr) → Nests t.expr n x → Nests t.expr n y → Nests t.expr n (cond b x y)
choose true x y h i = h
choose false x y h i = i

named_word : (x : Word) → Nests t.expr 1 (name x.text)
named_word x = name_nests (word x.text)

pub receiver_nests : (s : Scope) → Nests t.expr 2 (receiver s)
receiver_nests s = choose (is_within s) (name receiver_name) (p.unary Void (number 0) 0) (deeper (name_nests (word receiver_name)) (omega arith)) (unary_nests Void 0 (num_nests _))

own_arguments_nests : (x : Word) → Nests t.expr 3 (own_arguments x)
own_arguments_nests x = deeper (member_nests (word x.text) (codes "slice") (list1_nests (num_nests _))) (omega arith)

pub read_name_nests : (s : Scope) (x : Word) → Nests t.expr 3 (read_name s x)
read_name_nests s x =
    choose (is_arguments x.text) (own_arguments x) (cond (is_known s x) (name x.text) (outer x)) (own_arguments_nests x)
    (choose (is_known s x) (name x.text) (outer x) (deeper (named_word x) (omega arith)) (outer_nests x))

pub write_name_nests : {n : ℕ} {v : Placed t.expr} (s : Scope) (x : Word) → Nests t.expr n v → Nests t.expr (2 + max 1 n) (write_name s x v)
write_name_nests {v = v} s x h = choose (is_known s x) (p.assign None (name x.text) v) (set_outer x v) (deeper (assign_name_nests None (word x.text) h) (omega arith)) (set_outer_nests x h)

pub type_of_name_nests : (s : Scope) (x : Word) → Nests t.expr 4 (type_of_name s x)
type_of_name_nests s x =
    choose (is_arguments x.text) (p.unary Typeof (own_arguments x) 0) (cond (is_known s x) (p.unary Typeof (name x.text) 0) (ask (codes "to") (list1 (text_of x))))
    (unary_nests Typeof 0 (own_arguments_nests x))
    (choose (is_known s x) (p.unary Typeof (name x.text) 0) (ask (codes "to") (list1 (text_of x)))
    (deeper (unary_nests Typeof 0 (named_word x)) (omega arith)) (deeper (ask_nests (codes "to") (list1_nests (text_nests x.text))) (omega arith)))

pub op_of_name_nests : {n : ℕ} {v : Placed t.expr} (s : Scope) (op : BinOp) (x : Word) → Nests t.expr n v → Nests t.expr (3 + max 3 n) (op_of_name s op x v)
op_of_name_nests {v = v} s op x h =
    choose (is_known s x) (p.assign (Some op) (name x.text) v) (set_outer x (p.binary op (outer x) v))
    (deeper (assign_name_nests (Some op) (word x.text) h) (omega arith)) (deeper (set_outer_nests x (binary_nests op (outer_nests x) h)) (omega arith))

pub stepped_name_nests : (s : Scope) (up before : Bool) (i : ℕ) (x : Word) → Nests t.expr 7 (stepped_name s up before i x)
stepped_name_nests s up before i x =
    choose (is_known s x) (p.step up before (name x.text)) (cond before (stepped_outer up x) (stepped_outer_behind up i x)) (deeper (step_name_nests up before (word x.text)) (omega arith))
    (choose before (stepped_outer up x) (stepped_outer_behind up i x) (stepped_outer_nests up x) (stepped_outer_behind_nests up i x))
