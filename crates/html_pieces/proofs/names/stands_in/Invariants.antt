use Rattle.std.proofs.Common.{◌≡◌, drop}
use Rattle.html_pieces.proofs.names.stands_in.Given as goal
use Rattle.html_grammar.specs.Tables.{is_in}
use Rattle.html_pieces.specs.Views.{names_of}

abbrev pub invariant-loop-attr : goal.invariant-loop-attr
invariant-loop-attr l = is_in (names_of (drop l.attr-index l.attrs)) l.name ≡ is_in (names_of l.attrs) l.name
