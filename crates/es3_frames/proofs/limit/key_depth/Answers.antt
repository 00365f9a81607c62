use Rattle.std.proofs.Common.{sym, ◌∙◌, arith}
use Rattle.es3_frames.proofs.Starts.{one_key}
use Rattle.es3_frames.proofs.limit.key_depth.Goals as goal

pub returns-else-is_empty : goal.returns-else-is_empty
returns-else-is_empty c =
    let fields = c.args.fields.now in
    let right = fields.right in
    rw (one_key _ fields.list.items fields.list.ok.0 (sym c.is_empty.ensures ∙ c.if-is_empty.false)) (omega arith)
