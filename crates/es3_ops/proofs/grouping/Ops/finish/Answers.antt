use Rattle.es3_ops.proofs.Finishing.{whole}
use Rattle.es3_ops.proofs.grouping.Ops.finish.Goals as goal

pub returns : goal.returns
returns c = whole _ c.args.self c.unwrap.result c.in_ok-waiting.waiting.items c.level.result c.close.result c.unwrap.ensures c.in_ok-waiting.ensures c.level.ensures c.close.ensures.part
