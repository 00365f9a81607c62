use Rattle.es3_access.proofs.Thrown.{thrown}
use Rattle.es3_access.proofs.errors.throw_error.Goals as goal

pub returns-clause-plan : goal.returns-clause-plan
returns-clause-plan c =
    thrown c.args.message.now c.in_ok-name.name c.in_ok-message.message c.args.h.now c.make_error.new.self c.args.texts.now c.in_ok-error.error c.in_ok-error.ensures.id c.in_ok-error.ensures.store c.in_ok-name.ensures c.in_ok-message.ensures
