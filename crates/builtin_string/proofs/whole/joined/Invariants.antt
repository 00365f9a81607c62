use Rattle.std.proofs.Common.{◌≡◌, ◌++◌, Ok, drop}
use Rattle.es3_objects.specs.declared.value.Value.TheVariants as v
use Rattle.es3_convert.specs.Conversions.{and_then}
use Rattle.rows.specs.Texts.{joined}
use Rattle.row_outcomes.specs.Lists.{texts_of}
use Rattle.builtin_string.specs.Strings.{concat_text}
use Rattle.builtin_string.proofs.whole.joined.Given as goal

-- the texts of the arguments that are left, behind the units so far
abbrev pub invariant-loop-arg : goal.invariant-loop-arg
invariant-loop-arg l = concat_text l.text l.args l.h ≡ and_then (texts_of l.h (drop l.arg-index l.args)) (λ uss. Ok (v.Text (l.units.items ++ joined uss)))
