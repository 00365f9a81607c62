-- Each operator of two values is its row.
use Rattle.std.proofs.Common.{Some, refl}
use Rattle.caja_num.specs.Numbers as n
use Rattle.es3_tree.specs.declared.BinOp.{BinOp}
use Rattle.es3_tree.specs.declared.BinOp.TheVariants as bin
use Rattle.row_simulation.specs.OperatorLaw.{IsOfValues, BinaryLaw, NumberLaw}
use Rattle.row_simulation.proofs.Operators.Sum.{sum_comes}
use Rattle.row_simulation.proofs.Operators.Numbers.{numbers_come}
use Rattle.row_simulation.proofs.Operators.Comparisons.{less_comes, more_comes, not_less_comes, not_more_comes}
use Rattle.row_simulation.proofs.Operators.Equality.{equal_comes, not_equal_comes}
use Rattle.row_simulation.proofs.Operators.Unary.{number_comes}

pub binary_comes : (op : BinOp) → IsOfValues op → BinaryLaw op
binary_comes bin.Mul p = numbers_come n.product
binary_comes bin.Div p = numbers_come n.quotient
binary_comes bin.Rem p = numbers_come n.remainder
binary_comes bin.Add p = sum_comes
binary_comes bin.Sub p = numbers_come n.difference
binary_comes bin.Shl p = numbers_come (λ a b. Some (n.shift_left a b))
binary_comes bin.Shr p = numbers_come (λ a b. Some (n.shift_right a b))
binary_comes bin.Ushr p = numbers_come (λ a b. Some (n.shift_right_unsigned a b))
binary_comes bin.Less p = less_comes
binary_comes bin.Greater p = more_comes
binary_comes bin.LessEq p = not_more_comes
binary_comes bin.GreaterEq p = not_less_comes
binary_comes bin.InstanceOf p = absurd p
binary_comes bin.InObject p = absurd p
binary_comes bin.Equal p = equal_comes
binary_comes bin.NotEqual p = not_equal_comes
binary_comes bin.Same p = λ places by x y h g z. refl
binary_comes bin.NotSame p = λ places by x y h g z. refl
binary_comes bin.BitAnd p = numbers_come (λ a b. Some (n.bit_and_of a b))
binary_comes bin.BitXor p = numbers_come (λ a b. Some (n.bit_xor_of a b))
binary_comes bin.BitOr p = numbers_come (λ a b. Some (n.bit_or_of a b))

-- 11.4.6
pub plus_comes : NumberLaw
plus_comes = number_comes (λ a. a)
