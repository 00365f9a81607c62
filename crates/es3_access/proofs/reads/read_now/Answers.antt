use Rattle.std.proofs.Common.{sym, ap, ◌∙◌}
use Rattle.std.specs.Prelude.{option_map}
use Rattle.es3_language.specs.References as r
use Rattle.es3_language.specs.declared.Touch.TheVariants.{Get}
use Rattle.es3_access.specs.Notes.{member_touch}
use Rattle.es3_moves.specs.Where.{plain_env, plain_ref}
use Rattle.es3_moves.specs.Texts.{store_of}
use Rattle.es3_moves.specs.Moves.{plain_note, then_plan}
use Rattle.es3_access.proofs.Told.{read_known}
use Rattle.es3_access.proofs.reads.read_now.Goals as goal

pub returns-in_ok-noted-in-Some-clause-plan : goal.returns-in_ok-noted-in-Some-clause-plan
returns-in_ok-noted-in-Some-clause-plan c =
    let s = store_of c.args.h.now c.args.texts.now in
    c.tell.ensures.plan s
    ∙ read_known (plain_ref c.args.reference.now) (plain_env c.args.env.now) s (r.read (plain_ref c.args.reference.now) s) c.in-Some.v (option_map plain_note c.in_ok-noted-in-Some.noted) (then_plan c.args.then) (sym c.in_ok-v.ensures ∙ c.in-Some.is) (c.in_ok-noted-in-Some.ensures.note ∙ ap (λ b. member_touch Get (plain_ref c.args.reference.now) b c.args.h.now) c.by.ensures)
