-- Calls of the prelude's functions, temporaries, and members that are held: how deep they are, from how deep their parts are.
use Rattle.std.proofs.Common.{ℕ, ◌+◌, Bool, false, List, [], None, arith}
use Rattle.std.specs.Prelude.{max, codes}
use Rattle.es3_tree.specs.Tree as t
use Rattle.es3_tree.specs.Placed as p
use Rattle.es3_tree.specs.Placed.{Placed, Word}
use Rattle.es3_tree.specs.declared.UnOp.TheVariants.{Plus}
use Rattle.es3_tree.specs.declared.BinOp.{BinOp}
use Rattle.es3_tree.specs.declared.BinOp.TheVariants.{Add, InObject, InstanceOf}
use Rattle.cajita_tree.specs.Tree as c
use Rattle.cajita_forms.specs.Forms.{name_or_arguments}
use Rattle.scope_rules.specs.Resolve.{resolved}
use Rattle.cajoled_nesting.specs.Nesting.{deep}
use Rattle.valija_forms.specs.Forms.{word, prelude_name, temporary, kept, keeps, list1, list2, list3, ask, outer, set_outer, get, set, call_member, call_value, construct, as_key, as_number, one_by, stepped_before, stepped_behind, compounded, holds, holds_key, stepped_outer, stepped_outer_behind, key_now}
use Rattle.valija_parts.specs.Lower.{lowered_binary}
use Rattle.valija_nesting.proofs.Parts.{one_part, Nests, deeper}
use Rattle.valija_nesting.proofs.ExpressionForms.{name_within, text_nests, num_nests, name_nests, array_nests, index_nests, unary_nests, binary_nests, comma_nests, assign_name_nests, no_exprs_nests, more_exprs_nests}

-- ---- calls

pub list1_nests : {n : ℕ} {x : Placed t.expr} → Nests t.expr n x → Nests t.exprs n (list1 x)
list1_nests h = deeper (more_exprs_nests h no_exprs_nests) (omega arith)

pub list2_nests : {n d : ℕ} {x y : Placed t.expr} → Nests t.expr n x → Nests t.expr d y → Nests t.exprs (max n d) (list2 x y)
list2_nests h i = more_exprs_nests h (list1_nests i)

pub list3_nests : {n d l : ℕ} {x y z : Placed t.expr} → Nests t.expr n x → Nests t.expr d y → Nests t.expr l z → Nests t.exprs (max n (max d l)) (list3 x y z)
list3_nests h i j = more_exprs_nests h (list2_nests i j)

-- a call of a member whose key is written, of a name
pub member_nests : {n : ℕ} {es : Placed t.exprs} (x : Word) (f : List ℕ) → Nests t.exprs n es → Nests t.expr (1 + max 2 (1 + n)) (p.call (p.dot (p.name x) (word f)) es)
unfolding resolved deep
member_nests x f h = record { there = one_part (λ ys. c.method (name_or_arguments x.text) (c.fixed f) ys) h.there (λ m ys i. let a = name_within false x.text in omega (arith, a, i)) }

pub ask_nests : {n : ℕ} {es : Placed t.exprs} (f : List ℕ) → Nests t.exprs n es → Nests t.expr (1 + max 2 (1 + n)) (ask f es)
ask_nests f h = member_nests (word prelude_name) f h

pub outer_nests : (x : Word) → Nests t.expr 3 (outer x)
outer_nests x = deeper (ask_nests (codes "ro") (list1_nests (text_nests x.text))) (omega arith)

pub set_outer_nests : {n : ℕ} {v : Placed t.expr} (x : Word) → Nests t.expr n v → Nests t.expr (2 + max 1 n) (set_outer x v)
set_outer_nests x h = deeper (ask_nests (codes "so") (list2_nests (text_nests x.text) h)) (omega arith)

pub get_nests : {n d : ℕ} {e k : Placed t.expr} → Nests t.expr n e → Nests t.expr d k → Nests t.expr (2 + max 1 (max n d)) (get e k)
get_nests h i = deeper (ask_nests (codes "r") (list2_nests h i)) (omega arith)

pub set_nests : {n d l : ℕ} {e k v : Placed t.expr} → Nests t.expr n e → Nests t.expr d k → Nests t.expr l v → Nests t.expr (2 + max 1 (max n (max d l))) (set e k v)
set_nests h i j = deeper (ask_nests (codes "s") (list3_nests h i j)) (omega arith)

pub delete_nests : {n d : ℕ} {e k : Placed t.expr} → Nests t.expr n e → Nests t.expr d k → Nests t.expr (2 + max 1 (max n d)) (ask (codes "d") (list2 e k))
delete_nests h i = deeper (ask_nests (codes "d") (list2_nests h i)) (omega arith)

pub call_member_nests : {n d l : ℕ} {e k : Placed t.expr} {es : Placed t.exprs} → Nests t.expr n e → Nests t.expr d k → Nests t.exprs l es → Nests t.expr (4 + max 1 (max n (max d l))) (call_member e k es)
call_member_nests h i j = deeper (ask_nests (codes "cm") (list3_nests h i (array_nests j))) (omega arith)

pub call_value_nests : {n d : ℕ} {e : Placed t.expr} {es : Placed t.exprs} → Nests t.expr n e → Nests t.exprs d es → Nests t.expr (4 + max 1 (max n d)) (call_value e es)
call_value_nests h i = deeper (ask_nests (codes "cf") (list2_nests h (array_nests i))) (omega arith)

pub construct_nests : {n d : ℕ} {e : Placed t.expr} {es : Placed t.exprs} → Nests t.expr n e → Nests t.exprs d es → Nests t.expr (4 + max 1 (max n d)) (construct e es)
construct_nests h i = deeper (ask_nests (codes "n") (list2_nests h (array_nests i))) (omega arith)

-- ---- operators and temporaries

pub lowered_binary_nests : {n d : ℕ} {x y : Placed t.expr} (op : BinOp) → Nests t.expr n x → Nests t.expr d y → Nests t.expr (2 + max 1 (max n d)) (lowered_binary op x y)
lowered_binary_nests InObject h i = deeper (ask_nests (codes "h") (list2_nests h i)) (omega arith)
lowered_binary_nests InstanceOf h i = deeper (ask_nests (codes "io") (list2_nests h i)) (omega arith)
lowered_binary_nests op h i = deeper (binary_nests op h i) (omega arith)

pub as_key_nests : {n : ℕ} {k : Placed t.expr} → Nests t.expr n k → Nests t.expr (1 + max 2 n) (as_key k)
as_key_nests h = deeper (binary_nests Add (text_nests []) h) (omega arith)

pub as_number_nests : {n : ℕ} {e : Placed t.expr} → Nests t.expr n e → Nests t.expr (1 + n) (as_number e)
as_number_nests h = unary_nests Plus 0 h

pub one_by_nests : {n : ℕ} {e : Placed t.expr} (up : Bool) → Nests t.expr n e → Nests t.expr (1 + max 2 n) (one_by up e)
one_by_nests up h = deeper (binary_nests _ h (num_nests _)) (omega arith)

pub kept_nests : (i : ℕ) → Nests t.expr 1 (kept i)
kept_nests i = name_nests (word (temporary i))

pub keeps_nests : {n : ℕ} {e : Placed t.expr} (i : ℕ) → Nests t.expr n e → Nests t.expr (1 + max 1 n) (keeps i e)
keeps_nests i h = assign_name_nests None (word (temporary i)) h

pub key_now_nests : (i : ℕ) → Nests t.expr 3 (key_now i)
key_now_nests i = deeper (index_nests (kept_nests (i + 1)) (kept_nests (i + 2))) (omega arith)

-- ---- members that are held: what holds them, and what is done with them

pub holds_nests : {n : ℕ} {o : Placed t.expr} (i : ℕ) → Nests t.expr n o → Nests t.expr (1 + max 1 n) (holds i o)
holds_nests i h = keeps_nests i h

pub holds_key_nests : {n d : ℕ} {o k : Placed t.expr} (i j : ℕ) → Nests t.expr n o → Nests t.expr d k → Nests t.expr (3 + max 2 (max n d)) (holds_key i j o k)
holds_key_nests i j h g = deeper (comma_nests (keeps_nests i h) (keeps_nests j (as_key_nests g))) (omega arith)

-- what is read of a held member
held_nests : {o k : Placed t.expr} → Nests t.expr 1 o → Nests t.expr 1 k → Nests t.expr 3 (get o k)
held_nests h i = deeper (get_nests h i) (omega arith)

pub stepped_before_nests : {n : ℕ} {h o k : Placed t.expr} (up : Bool) → Nests t.expr n h → Nests t.expr 1 o → Nests t.expr 1 k → Nests t.expr (1 + max 7 n) (stepped_before up h o k)
stepped_before_nests up a b d = deeper (comma_nests a (set_nests b d (one_by_nests up (as_number_nests (held_nests b d))))) (omega arith)

pub stepped_behind_nests : {n : ℕ} {h o k : Placed t.expr} (up : Bool) (i : ℕ) → Nests t.expr n h → Nests t.expr 1 o → Nests t.expr 1 k → Nests t.expr (3 + max 5 n) (stepped_behind up i h o k)
stepped_behind_nests up i a b d =
    let first = comma_nests a (keeps_nests i (as_number_nests (held_nests b d))) in
    let then = comma_nests first (set_nests b d (one_by_nests up (kept_nests i))) in
    deeper (comma_nests then (kept_nests i)) (omega arith)

pub compounded_nests : {n l : ℕ} {h o k x : Placed t.expr} (op : BinOp) → Nests t.expr n h → Nests t.expr 1 o → Nests t.expr 1 k → Nests t.expr l x → Nests t.expr (1 + max n (3 + max 3 l)) (compounded op h o k x)
compounded_nests op a b d x = deeper (comma_nests a (set_nests b d (binary_nests op (held_nests b d) x))) (omega arith)

-- a name that nothing declares
pub stepped_outer_nests : (up : Bool) (x : Word) → Nests t.expr 7 (stepped_outer up x)
stepped_outer_nests up x = deeper (set_outer_nests x (one_by_nests up (as_number_nests (outer_nests x)))) (omega arith)

pub stepped_outer_behind_nests : (up : Bool) (i : ℕ) (x : Word) → Nests t.expr 7 (stepped_outer_behind up i x)
stepped_outer_behind_nests up i x =
    let first = comma_nests (keeps_nests i (as_number_nests (outer_nests x))) (set_outer_nests x (one_by_nests up (kept_nests i))) in
    deeper (comma_nests first (kept_nests i)) (omega arith)
