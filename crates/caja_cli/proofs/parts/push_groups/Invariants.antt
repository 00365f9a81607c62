use Rattle.std.proofs.Common.{◌≡◌, ◌++◌, drop, map}
use Rattle.caja_cli.specs.Output.{group_lines}
use Rattle.caja_cli.proofs.parts.push_groups.Given as goal

abbrev pub invariant-loop-group : goal.invariant-loop-group
invariant-loop-group l = l.out.items ++ group_lines l.names (map (λ g. g.items) (drop l.group-index l.groups)) ≡ l.fn.out.items ++ group_lines l.names (map (λ g. g.items) l.groups)
