use Rattle.std.proofs.Common.{Some, ap}
use Rattle.es3_grammar.specs.Frames.{Stack}
use Rattle.es3_frames.specs.Views.{state_of}
use Rattle.es3_steps.proofs.opens.opens.Goals as goal

pub returns-in-Ok : goal.returns-in-Ok
returns-in-Ok c = ap (λ (k : Stack). Some (state_of c.args.state k)) c.in-Ok.ensures.pushed
