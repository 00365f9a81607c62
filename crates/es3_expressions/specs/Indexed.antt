-- What follows what `e[f]` names (ES3 11.2.1).
use Rattle.std.specs.Prelude.{codes}
use Rattle.plans.specs.Plans.{stops}
use Rattle.es3_language.specs.Store.{Store}
use Rattle.es3_language.specs.References as r
use Rattle.es3_language.specs.Tasks.{Plan, throw_error}
use Rattle.es3_moves.specs.Where.{plain_ref, plain_fault}
use Rattle.es3_expressions.specs.declared.members.Indexed.{Indexed}
use Rattle.es3_expressions.specs.declared.members.Indexed.TheVariants.{Member, Missing, Stopped}

abbrev pub on_indexed : Indexed → Store → (r.Ref → Store → Plan) → Plan
on_indexed (Member x) s go = go (plain_ref x) s
on_indexed Missing s go = throw_error (codes "no object") s
on_indexed (Stopped f) s go = stops (plain_fault f) s
