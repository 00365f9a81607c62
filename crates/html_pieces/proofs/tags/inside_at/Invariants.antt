use Rattle.std.proofs.Common.{◌≡◌, ◌+◌, ◌-◌, ◌≤◌, [], length, drop, map}
use Rattle.html_grammar.specs.Tags.{inside, before}
use Rattle.html_pieces.specs.Views.{names_of, fault_of, kind_of}
use Rattle.html_tree.specs.Views.{attr_of}
use Rattle.html_pieces.specs.Names.{Tracks}
use Rattle.html_pieces.proofs.tags.inside_at.Given as goal

abbrev pub invariant-loop-i : goal.invariant-loop-i
invariant-loop-i l = record {
  rest : before (map attr_of l.attrs.items) (fault_of l.fault) (inside (kind_of l.kind) (names_of l.attrs.items) 0 (l.before + l.i) (drop l.i l.s)) ≡ inside (kind_of l.kind) [] 0 l.before l.s;
  tracks : Tracks l.others (drop 16 (names_of l.attrs.items));
  within : l.i ≤ length l.s;
}

abbrev pub decreases-loop-i : goal.decreases-loop-i
decreases-loop-i l = length l.s - l.i
