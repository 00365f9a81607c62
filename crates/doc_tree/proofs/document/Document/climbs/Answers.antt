use Rattle.std.proofs.Common.{◌+◌, ◌-◌, arith}
use Rattle.doc_tree.proofs.Climbing.{climbs-above, climbs-here}
use Rattle.doc_tree.proofs.document.Document.climbs.Goals as goal

pub loop-level-preserved : goal.loop-level-preserved
loop-level-preserved c =
    let more = c.len-level-end.result - c.loop-level._level in
    let left = c.len-level-end.result - (c.loop-level._level + 1) in
    let step = climbs-above more left c.args.self.now c.args.c c.in-Some.here (omega arith) (cc) in
    cc (step, c.in-Some.is)

pub returns-then-eq : goal.returns-then-eq
returns-then-eq c =
    let more = c.len-level-end.result - c.loop-level._level in
    let left = c.len-level-end.result - (c.loop-level._level + 1) in
    let step = climbs-here more left c.args.self.now c.args.c c.in-Some.here (omega arith) (cc) in
    cc (step, c.in-Some.is)
