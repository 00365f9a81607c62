-- What the operators and openings of the program are in the grammar.
use Rattle.std.specs.Prelude.{Option, Some, None}
use Rattle.es3_grammar.specs.Levels as l
use Rattle.es3_expr.specs.declared.levels.Join.{Join}
use Rattle.es3_expr.specs.declared.levels.Join.TheVariants as j
use Rattle.es3_expr.specs.declared.signs.Behind.{Behind}
use Rattle.es3_expr.specs.declared.signs.Behind.TheVariants as b
use Rattle.es3_expr.specs.declared.signs.Opening.{Opening}
use Rattle.es3_expr.specs.declared.signs.Opening.TheVariants as o

abbrev pub join_of : Join → l.Join
join_of (j.Op op) = l.an_op op
join_of j.And = l.an_and
join_of j.Or = l.an_or
join_of (j.Assign op) = l.an_assign op
join_of j.Comma = l.a_comma

abbrev pub behind_of : Behind → l.Infix
behind_of (b.Joins x) = l.joins (join_of x)
behind_of b.Query = l.a_query
behind_of (b.Step up) = l.a_step up

abbrev pub opening_of : Opening → l.Opening
opening_of o.This = l.a_this
opening_of o.Null = l.a_null
opening_of (o.Bool v) = l.a_bool v
opening_of o.Paren = l.a_paren
opening_of o.Array = l.an_array
opening_of o.Object = l.an_object
opening_of o.Function = l.a_function
opening_of o.New = l.a_new
opening_of (o.Prefix op) = l.a_prefix op
opening_of (o.Step up) = l.a_prefix_step up

abbrev pub maybe_behind : Option Behind → Option l.Infix
maybe_behind None = None
maybe_behind (Some x) = Some (behind_of x)

abbrev pub maybe_opening : Option Opening → Option l.Opening
maybe_opening None = None
maybe_opening (Some x) = Some (opening_of x)
