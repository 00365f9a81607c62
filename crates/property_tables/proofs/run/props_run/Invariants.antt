use Rattle.std.proofs.Common.{◌≡◌, ◌++◌, take, drop}
use Rattle.property_tables.specs.Running.{replies, left_by}
use Rattle.property_tables.proofs.run.props_run.Given as goal

abbrev pub invariant-loop-call : goal.invariant-loop-call
invariant-loop-call g l =
    (l.told.items ++ replies (drop l.call-index l.calls) (g.P.Props.held l.p) ≡ replies l.calls (g.P.Props.held l.fn.p))
    × (g.P.Props.held l.p ≡ left_by (take l.call-index l.calls) (g.P.Props.held l.fn.p))
