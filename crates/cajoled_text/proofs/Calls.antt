-- Calls of the runtime, operators and temporaries that tokens spell: what the forms that stand for expressions are made of.
use Rattle.std.proofs.Common.{ℕ, ◌+◌, ◌<◌, Bool, true, false, List, refl, arith, lit<}
use Rattle.std.specs.Prelude.{codes}
use Rattle.es3_tree.specs.Tree as t
use Rattle.es3_tree.specs.Token.{name}
use Rattle.es3_tree.specs.declared.UnOp.TheVariants as un
use Rattle.es3_tree.specs.declared.BinOp.{BinOp}
use Rattle.es3_tree.specs.declared.BinOp.TheVariants as bin
use Rattle.es3_tokens.specs.Back.{IsToken}
use Rattle.es3_grammar.specs.Levels.{an_op, a_comma}
use Rattle.rewrite_parts.specs.Parts.{runtime_name, runtime_call, single, pair, triple, temp_name, temp, set_temp, with_temp, with_temps, key_call, by_one}
use Rattle.cajoled_text.proofs.Temporaries.{temp_token}
use Rattle.cajoled_text.proofs.Operators.{of_op, of_comma}
use Rattle.cajoled_text.proofs.Forms.{Expression, Expressions, number, named, join, assigned, member, call, unary, no_more, more}

-- ---- calls of the runtime

pub called : (f : List ℕ) (xs : t.Tree t.exprs) → IsToken (name f) → Expressions xs → Expression (runtime_call f xs)
called f xs i q = call _ xs (member _ f (named runtime_name (refl, refl)) i) q

pub of_one : (f : List ℕ) (x : t.Tree t.expr) → IsToken (name f) → Expression x → Expression (runtime_call f (single x))
of_one f x i p = called f _ i (more x _ p no_more)

pub of_two : (f : List ℕ) (x y : t.Tree t.expr) → IsToken (name f) → Expression x → Expression y → Expression (runtime_call f (pair x y))
of_two f x y i p q = called f _ i (more x _ p (more y _ q no_more))

pub of_three : (f : List ℕ) (x y z : t.Tree t.expr) → IsToken (name f) → Expression x → Expression y → Expression z → Expression (runtime_call f (triple x y z))
of_three f x y z i p q r = called f _ i (more x _ p (more y _ q (more z _ r no_more)))

pub read : (x y : t.Tree t.expr) → Expression x → Expression y → Expression (runtime_call (codes "readPub") (pair x y))
read x y p q = of_two (codes "readPub") x y (refl, refl) p q

pub write : (x y z : t.Tree t.expr) → Expression x → Expression y → Expression z → Expression (runtime_call (codes "setPub") (triple x y z))
write x y z p q r = of_three (codes "setPub") x y z (refl, refl) p q r

pub key_known : (x : t.Tree t.expr) → Expression x → Expression (key_call x)
key_known x p = of_one (codes "key") x (refl, refl) p

-- a member as a number
pub number_read : (x y : t.Tree t.expr) → Expression x → Expression y → Expression (t.unary un.Plus (runtime_call (codes "readPub") (pair x y)))
number_read x y p q = unary un.Plus _ (read x y p q)

-- ---- operators

pub operation : (op : BinOp) (x y : t.Tree t.expr) → Expression x → Expression y → Expression (t.binary op x y)
operation op x y p q = join (an_op op) x y (of_op op) refl p q

pub both : (x y : t.Tree t.expr) → Expression x → Expression y → Expression (t.comma x y)
both x y p q = join a_comma x y of_comma refl p q

pub more_by_one : (up : Bool) (x : t.Tree t.expr) → Expression x → Expression (by_one up x)
more_by_one true x p = operation bin.Add x _ p (number _ (1, refl, lit< tt))
more_by_one false x p = operation bin.Sub x _ p (number _ (1, refl, lit< tt))

-- ---- temporaries, of which there are fewer than 2^64

pub temporary : (i : ℕ) → i < 18446744073709551616 → Expression (temp i)
temporary i lt = named (temp_name i) (temp_token i lt)

pub held : (i : ℕ) (x : t.Tree t.expr) → i < 18446744073709551616 → Expression x → Expression (set_temp i x)
held i x lt p = assigned (temp_name i) x (temp_token i lt) p

pub after_one : (i : ℕ) (x y : t.Tree t.expr) → i < 18446744073709551616 → Expression x → Expression y → Expression (with_temp i x y)
after_one i x y lt p q = both _ y (held i x lt p) q

pub after_two : (i : ℕ) (x y z : t.Tree t.expr) → i + 1 < 18446744073709551616 → Expression x → Expression y → Expression z → Expression (with_temps i x y z)
after_two i x y z lt p q r = both _ z (both _ _ (held i x (omega arith) p) (held (i + 1) y lt q)) r
