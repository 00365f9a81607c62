-- What may be called, written, stepped, deleted or asked for its type, by its lowered parts; and what becomes of it there.
use Rattle.std.specs.Prelude.{ℕ, ◌+◌, Bool, true, false, Option, None, Some, codes}
use Rattle.es3_tree.specs.declared.UnOp.{UnOp}
use Rattle.es3_tree.specs.declared.UnOp.TheVariants.{Delete, Typeof}
use Rattle.es3_tree.specs.declared.BinOp.{BinOp}
use Rattle.es3_tree.specs.Tree as t
use Rattle.es3_tree.specs.Placed as p
use Rattle.es3_tree.specs.Placed.{Placed, Word}
use Rattle.cajita_names.specs.Scope.{Scope}
use Rattle.valija_forms.specs.Numbered.{Numbered, plain, one, both}
use Rattle.valija_forms.specs.Forms.{word, text_of, list2, ask, get, set, call_member, call_value, kept, holds, holds_key, stepped_before, stepped_behind, compounded, over_keys, key_now}
use Rattle.valija_parts.specs.Names.{read_name, write_name, type_of_name, op_of_name, stepped_name, name_takes}
use Rattle.valija_parts.specs.Lower.{lowered}

pub data Place : Type 0 where
  -- a name; a member behind a point or in brackets; and what is none of these
  at_name : Word → Place
  at_dot : Placed t.expr → Word → Place
  at_index : Placed t.expr → Placed t.expr → Place
  elsewhere : Placed t.expr → Place

abbrev pub place : Scope → Placed t.expr → Numbered Place
place s (p.name x) = plain (at_name (word x.text))
place s (p.dot e k) = one (λ o. at_dot o (word k.text)) (lowered s _ e)
place s (p.index e f) = both at_index (lowered s _ e) (lowered s _ f)
place s e = one elsewhere (lowered s _ e)

-- what the head of a `for` .. `in` names
abbrev pub target : Scope → Placed t.loop_target → Numbered Place
target s (p.loop_var x) = plain (at_name (word x.text))
target s (p.loop_expr e) = place s e

abbrev pub value_of : Scope → Place → Placed t.expr
value_of s (at_name x) = read_name s x
value_of s (at_dot o k) = get o (text_of k)
value_of s (at_index o k) = get o k
value_of s (elsewhere e) = e

abbrev pub called : Scope → Place → Placed t.exprs → Placed t.expr
called s (at_dot o k) es = call_member o (text_of k) es
called s (at_index o k) es = call_member o k es
called s l es = call_value (value_of s l) es

abbrev pub prefixed : Scope → UnOp → Place → Placed t.expr
prefixed s Delete (at_dot o k) = ask (codes "d") (list2 o (text_of k))
prefixed s Delete (at_index o k) = ask (codes "d") (list2 o k)
prefixed s Typeof (at_name x) = type_of_name s x
prefixed s op l = p.unary op (value_of s l) 0

-- `++` and `--`, and how many temporaries they take, the first of the number a
abbrev pub steps_taken : Scope → Bool → Placed t.expr → ℕ
steps_taken s before (p.name x) = name_takes s before x
steps_taken s true (p.dot e k) = 1
steps_taken s false (p.dot e k) = 2
steps_taken s true (p.index e f) = 2
steps_taken s false (p.index e f) = 3
steps_taken s before e = 0

abbrev pub stepped : Scope → Bool → Bool → ℕ → Place → Placed t.expr
stepped s up before a (at_name x) = stepped_name s up before a x
stepped s up true a (at_dot o k) = stepped_before up (holds a o) (kept a) (text_of k)
stepped s up false a (at_dot o k) = stepped_behind up (a + 1) (holds a o) (kept a) (text_of k)
stepped s up true a (at_index o k) = stepped_before up (holds_key a (a + 1) o k) (kept a) (kept (a + 1))
stepped s up false a (at_index o k) = stepped_behind up (a + 2) (holds_key a (a + 1) o k) (kept a) (kept (a + 1))
stepped s up before a (elsewhere e) = p.step up before e

-- the same of `=`, and of `+=` and its kin
abbrev pub held_by : Option BinOp → Placed t.expr → ℕ
held_by (Some op) (p.dot e k) = 1
held_by (Some op) (p.index e f) = 2
held_by op e = 0

abbrev pub set_to : Scope → Place → Placed t.expr → Placed t.expr
set_to s (at_name x) v = write_name s x v
set_to s (at_dot o k) v = set o (text_of k) v
set_to s (at_index o k) v = set o k v
set_to s (elsewhere e) v = p.assign None e v

abbrev pub operated : Scope → BinOp → ℕ → Place → Placed t.expr → Placed t.expr
operated s op a (at_name x) v = op_of_name s op x v
operated s op a (at_dot o k) v = compounded op (holds a o) (kept a) (text_of k) v
operated s op a (at_index o k) v = compounded op (holds_key a (a + 1) o k) (kept a) (kept (a + 1)) v
operated s op a (elsewhere e) v = p.assign (Some op) e v

abbrev pub assigned : Scope → Option BinOp → ℕ → Place → Placed t.expr → Placed t.expr
assigned s None a l v = set_to s l v
assigned s (Some op) a l v = operated s op a l v

-- the value v for what the head of a `for` .. `in` names
abbrev pub put : Scope → Placed t.expr → Place → Placed t.expr
put s v (at_name x) = write_name s x v
put s v (at_dot o k) = set o (text_of k) v
put s v (at_index o k) = set o k v
put s v (elsewhere e) = e

-- the loop over the keys of an object, which puts each in the place and does the statement: with temporaries from a on
abbrev pub gone_over : Scope → ℕ → Place → Placed t.expr → Placed t.stmt → Placed t.stmt
gone_over s a l o x = over_keys a (a + 1) (a + 2) (put s (key_now a) l) o x
