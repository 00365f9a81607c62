use Rattle.std.proofs.Common.{◌∙◌, sym, ap}
use Rattle.es3_moves.specs.Where.{plain_env}
use Rattle.es3_moves.specs.Moves.{after_plan}
use Rattle.es3_moves.specs.declared.frame.Keyed.{Keyed}
use Rattle.es3_moves.specs.declared.frame.After.TheVariants as after
use Rattle.es3_statements.proofs.keys.key_target.Goals as goal

pub returns-clause-plan : goal.returns-clause-plan
returns-clause-plan c =
    λ s heap.
    c.tell.ensures.plan s
    ∙ c.in_ok-noted.ensures.told (plain_env c.args.w.value.env) s (after_plan (after.WriteKey c.args.reference c.args.k c.args.w) s) (sym (c.by.ensures ∙ ap (λ (k : Keyed). (plain_env k.env).by) c.deref.ensures)) heap
