use Rattle.std.proofs.Common.{◌≡◌, drop}
use Rattle.url_rule.specs.Table.{rows_of, allows}
use Rattle.url_rule.proofs.table.VecUriRowAsks.ask.Given as goal

abbrev pub invariant-loop-row : goal.invariant-loop-row
invariant-loop-row l =
    allows (rows_of (drop l.row-index l.self.items)) l.a.kind l.a.scheme.now l.a.host.now ≡ allows (rows_of l.self.items) l.a.kind l.a.scheme.now l.a.host.now
