-- The signs of operators (ES3 11.3 to 11.14): each is a token, and between two parts it is read as its operator.
use Rattle.std.proofs.Common.{◌≡◌, ◌≤◌, Bool, true, false, Some, None, refl, arith, lit<}
use Rattle.es3_tree.specs.declared.UnOp.{UnOp}
use Rattle.es3_tree.specs.declared.UnOp.TheVariants.{Delete}
use Rattle.es3_tree.specs.declared.BinOp.{BinOp}
use Rattle.es3_tree.specs.declared.BinOp.TheVariants.{Mul, Less, Greater, LessEq, GreaterEq, InstanceOf, InObject, Equal, NotEqual, Same, NotSame}
use Rattle.es3_tokens.specs.Back.{IsToken}
use Rattle.es3_grammar.specs.Spots.{look_up}
use Rattle.es3_grammar.specs.Levels.{Join, an_op, an_and, an_or, an_assign, a_comma, left, right, joins, infix_of, unary_sign, step_sign}
use Rattle.es3_printed.specs.Tokens.{join_sign}
use Rattle.cajoled_text.specs.Clean.{IsAssigning}

pub record HasSign (j : Join) : Type 0 where
  pub token : IsToken (join_sign j)
  pub read : infix_of false (join_sign j) ≡ Some (joins j)
  pub left_low : left j ≤ 16
  pub right_low : right j ≤ 16

pub of_op : (op : BinOp) → HasSign (an_op op)
unfolding look_up
of_op Mul = record { token = lit< tt; read = refl; left_low = omega arith; right_low = omega arith }
of_op op = record { token = lit< tt; read = refl; left_low = omega arith; right_low = omega arith }

pub of_and : HasSign an_and
unfolding look_up
of_and = record { token = lit< tt; read = refl; left_low = omega arith; right_low = omega arith }

pub of_or : HasSign an_or
unfolding look_up
of_or = record { token = lit< tt; read = refl; left_low = omega arith; right_low = omega arith }

pub of_comma : HasSign a_comma
unfolding look_up
of_comma = record { token = lit< tt; read = refl; left_low = omega arith; right_low = omega arith }

-- 11.13
pub of_plain : HasSign (an_assign None)
unfolding look_up
of_plain = record { token = lit< tt; read = refl; left_low = omega arith; right_low = omega arith }

pub of_assign : (op : BinOp) → IsAssigning (Some op) → HasSign (an_assign (Some op))
unfolding look_up
of_assign Less h = absurd h
of_assign Greater h = absurd h
of_assign LessEq h = absurd h
of_assign GreaterEq h = absurd h
of_assign InstanceOf h = absurd h
of_assign InObject h = absurd h
of_assign Equal h = absurd h
of_assign NotEqual h = absurd h
of_assign Same h = absurd h
of_assign NotSame h = absurd h
of_assign op h = record { token = lit< tt; read = refl; left_low = omega arith; right_low = omega arith }

pub unary_token : (op : UnOp) → IsToken (unary_sign op)
unary_token Delete = lit< tt
unary_token op = lit< tt

pub step_token : (up : Bool) → IsToken (step_sign up)
step_token true = lit< tt
step_token false = lit< tt
