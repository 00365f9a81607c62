-- What stands for the names of a part and for an operator before its operand in a resolved tree.
use Rattle.std.specs.Prelude.{ℕ, List, map, Option, Some, None, if◌then◌else◌}
use Rattle.es3_tree.specs.Placed.{Word}
use Rattle.es3_tree.specs.declared.UnOp.{UnOp}
use Rattle.es3_tree.specs.declared.UnOp.TheVariants.{Delete}
use Rattle.cajita_tree.specs.Tree as c
use Rattle.cajita_tree.specs.Parts.{deleted}
use Rattle.cajita_names.specs.Scope.{is_arguments}

abbrev pub text_of : Option Word → Option (List ℕ)
text_of None = None
text_of (Some x) = Some x.text

abbrev pub texts_of : List Word → List (List ℕ)
texts_of xs = map (λ x. x.text) xs

abbrev pub name_or_arguments : List ℕ → c.Tree c.expr
name_or_arguments x = if is_arguments x then c.args else c.name x

-- an operator before its operand
abbrev pub unary_of : UnOp → c.Tree c.expr → Option (c.Tree c.expr)
unary_of Delete e = deleted e
unary_of op e = Some (c.unary op e)
