-- What lowered programs are made of: calls of the prelude's functions, temporaries, functions that take a receiver, and the loop over the keys of an object.
use Rattle.std.specs.Prelude.{ℕ, zero, suc, ◌+◌, pos, Bool, true, false, List, [], ◌∷◌, ◌++◌, map, Option, Some, None, codes, if◌then◌else◌}
use Rattle.caja_units.specs.Index.{number_units}
use Rattle.es3_tree.specs.declared.UnOp.TheVariants.{Plus}
use Rattle.es3_tree.specs.declared.BinOp.{BinOp}
use Rattle.es3_tree.specs.declared.BinOp.TheVariants.{Add, Sub, Less}
use Rattle.es3_tree.specs.Tree as t
use Rattle.es3_tree.specs.Placed as p
use Rattle.es3_tree.specs.Placed.{Placed, Word}

-- the words that the lowering writes stand nowhere in the source
abbrev pub word : List ℕ → Word
word x = record { text = x; at = 0 }

abbrev pub label_of : Option Word → Option Word
label_of None = None
label_of (Some x) = Some (word x.text)

abbrev pub name : List ℕ → Placed t.expr
name x = p.name (word x)

abbrev pub text_of : Word → Placed t.expr
text_of x = p.text x.text

-- the object of the prelude, and what `this` is in a function
abbrev pub prelude_name : List ℕ
prelude_name = codes "$v"

abbrev pub receiver_name : List ℕ
receiver_name = codes "$dis"

-- temporaries: `$v0`, `$v1`, ..; what is joined by commas associates to the left
abbrev pub temporary : ℕ → List ℕ
temporary n = prelude_name ++ number_units n

abbrev pub kept : ℕ → Placed t.expr
kept n = name (temporary n)

abbrev pub keeps : ℕ → Placed t.expr → Placed t.expr
keeps n e = p.assign None (kept n) e

abbrev pub number : ℕ → Placed t.expr
number n = p.num (pos n)

abbrev pub list1 : Placed t.expr → Placed t.exprs
list1 a = p.more_exprs a p.no_exprs

abbrev pub list2 : Placed t.expr → Placed t.expr → Placed t.exprs
list2 a b = p.more_exprs a (list1 b)

abbrev pub list3 : Placed t.expr → Placed t.expr → Placed t.expr → Placed t.exprs
list3 a b c = p.more_exprs a (list2 b c)

-- `$v.f(..)`
abbrev pub ask : List ℕ → Placed t.exprs → Placed t.expr
ask f es = p.call (p.dot (name prelude_name) (word f)) es

-- reading and writing, of a name that nothing declares and of a member
abbrev pub outer : Word → Placed t.expr
outer x = ask (codes "ro") (list1 (text_of x))

abbrev pub set_outer : Word → Placed t.expr → Placed t.expr
set_outer x v = ask (codes "so") (list2 (text_of x) v)

abbrev pub get : Placed t.expr → Placed t.expr → Placed t.expr
get e k = ask (codes "r") (list2 e k)

abbrev pub set : Placed t.expr → Placed t.expr → Placed t.expr → Placed t.expr
set e k v = ask (codes "s") (list3 e k v)

-- `$v.cm(e, k, [..])`, `$v.cf(f, [..])`, `$v.n(f, [..])`
abbrev pub call_member : Placed t.expr → Placed t.expr → Placed t.exprs → Placed t.expr
call_member e k es = ask (codes "cm") (list3 e k (p.array es))

abbrev pub call_value : Placed t.expr → Placed t.exprs → Placed t.expr
call_value f es = ask (codes "cf") (list2 f (p.array es))

abbrev pub construct : Placed t.expr → Placed t.exprs → Placed t.expr
construct f es = ask (codes "n") (list2 f (p.array es))

-- `'' + k`: a key that is converted once
abbrev pub as_key : Placed t.expr → Placed t.expr
as_key k = p.binary Add (p.text []) k

-- `+e`, and one more or one less
abbrev pub as_number : Placed t.expr → Placed t.expr
as_number e = p.unary Plus e 0

abbrev pub one_by : Bool → Placed t.expr → Placed t.expr
one_by up e = p.binary (if up then Add else Sub) e (number 1)

-- `var` of these names, before statements
abbrev pub items : List (List ℕ) → Placed t.items
items [] = p.no_items
items (x ∷ xs) = p.more_items (word x) p.no_expr (items xs)

abbrev pub declaring : List (List ℕ) → Placed t.stmts → Placed t.stmts
declaring [] ss = ss
declaring (x ∷ xs) ss = p.more_stmts (p.var (items (x ∷ xs))) ss

abbrev pub temporaries_from : ℕ → ℕ → List (List ℕ)
temporaries_from k zero = []
temporaries_from k (suc n) = temporary k ∷ temporaries_from (suc k) n

-- statements behind statements
abbrev pub joined : Placed t.stmts → Placed t.stmts → Placed t.stmts
joined p.no_stmts rest = rest
joined (p.more_stmts x ss) rest = p.more_stmts x (joined ss rest)

-- `var f = e;`
abbrev pub declares : Word → Placed t.expr → Placed t.stmt
declares f e = p.var (p.more_items (word f.text) (p.some_expr e) p.no_items)

-- `(function () { var f = e; return f; })()`
abbrev pub named : Word → Placed t.expr → Placed t.expr
named f e = p.call (p.function (p.fun None [] (p.more_stmts (declares f e) (p.more_stmts (p.return (p.some_expr (name f.text)) 0) p.no_stmts)) 0)) p.no_exprs

-- `$v.dis(function ($dis, ..) { .. })`
abbrev pub taking_receiver : List Word → Placed t.stmts → Placed t.expr
taking_receiver ps body = ask (codes "dis") (list1 (p.function (p.fun None (word receiver_name ∷ map (λ x. word x.text) ps) body 0)))

-- the key at which such a loop is, `b[c]`: the object, its keys and the place among these are in three temporaries from a on
abbrev pub key_now : ℕ → Placed t.expr
key_now a = p.index (kept (a + 1)) (kept (a + 2))

-- `for (a = e, b = $v.ks(a), c = 0; c < b.length; c++) { if ($v.h(b[c], a)) { w; S } }`
abbrev pub over_keys : ℕ → ℕ → ℕ → Placed t.expr → Placed t.expr → Placed t.stmt → Placed t.stmt
over_keys a b c w e x =
    p.for_loop
    (p.first_expr (p.comma (p.comma (keeps a e) (keeps b (ask (codes "ks") (list1 (kept a))))) (keeps c (number 0))))
    (p.some_expr (p.binary Less (kept c) (p.dot (kept b) (word (codes "length")))))
    (p.some_expr (p.step true false (kept c)))
    (p.block (p.more_stmts (p.branch (ask (codes "h") (list2 (p.index (kept b) (kept c)) (kept a)))
    (p.block (p.more_stmts (p.expression w) (p.more_stmts x p.no_stmts))) p.no_stmt) p.no_stmts))

-- a member that is read and written in one form: h holds its object and its key, o and k are these then. `++` and `--` before it and behind it, where c keeps
-- the old value; an operator with x
abbrev pub stepped_before : Bool → Placed t.expr → Placed t.expr → Placed t.expr → Placed t.expr
stepped_before up h o k = p.comma h (set o k (one_by up (as_number (get o k))))

abbrev pub stepped_behind : Bool → ℕ → Placed t.expr → Placed t.expr → Placed t.expr → Placed t.expr
stepped_behind up c h o k = p.comma (p.comma (p.comma h (keeps c (as_number (get o k)))) (set o k (one_by up (kept c)))) (kept c)

abbrev pub compounded : BinOp → Placed t.expr → Placed t.expr → Placed t.expr → Placed t.expr → Placed t.expr
compounded op h o k x = p.comma h (set o k (p.binary op (get o k) x))

-- what holds a member whose key is written, and one whose key is computed
abbrev pub holds : ℕ → Placed t.expr → Placed t.expr
holds a o = keeps a o

abbrev pub holds_key : ℕ → ℕ → Placed t.expr → Placed t.expr → Placed t.expr
holds_key a b o k = p.comma (keeps a o) (keeps b (as_key k))

-- the same of a name that nothing declares
abbrev pub stepped_outer : Bool → Word → Placed t.expr
stepped_outer up x = set_outer x (one_by up (as_number (outer x)))

abbrev pub stepped_outer_behind : Bool → ℕ → Word → Placed t.expr
stepped_outer_behind up a x = p.comma (p.comma (keeps a (as_number (outer x))) (set_outer x (one_by up (kept a)))) (kept a)
