use Rattle.std.proofs.Common.{◌≡◌, rules}
use Rattle.builtin_array.specs.Receivers.{open_array_of}
use Rattle.builtin_array.specs.Arrays.{push}
use Rattle.builtin_array.proofs.Comes.{at_array, at_other}
use Rattle.builtin_array.proofs.Rows.{push-is}
use Rattle.builtin_array.proofs.ends.push.Goals as goal

pub returns-in-Ok-clause-outcome : goal.returns-in-Ok-clause-outcome
returns-in-Ok-clause-outcome c =
    let found : c.in_ok-array.array ≡ open_array_of c.args.h.now c.args.this.now = search rules in
    at_array _ (open_array_of c.args.h.now c.args.this.now) c.in_ok-array.array c.in-Ok.o c.args.by c.args.h.now c.push_to.new.h (λ o. push c.args.args.now o c.args.h.now) c.push_to.result (push-is c.args.by c.args.this.now c.args.args.now c.args.h.now) found c.in-Ok.is c.push_to.ensures.outcome

pub returns-in-Err : goal.returns-in-Err
returns-in-Err c =
    let found : c.in_ok-array.array ≡ open_array_of c.args.h.now c.args.this.now = search rules in
    record {
      outcome = at_other _ (open_array_of c.args.h.now c.args.this.now) c.in_ok-array.array c.in-Err.why c.args.by c.args.h.now c.refused.new.h (λ o. push c.args.args.now o c.args.h.now) c.refused.result (push-is c.args.by c.args.this.now c.args.args.now c.args.h.now) found c.in-Err.is c.refused.ensures.outcome;
      live = c.refused.ensures.live;
    }
