use Rattle.std.proofs.Common.{◌≡◌, take}
use Rattle.std.specs.List.{sum_by}
use Rattle.std.specs.Char.{len_utf8}
use Rattle.html_reader.proofs.reading.width.Given as goal

abbrev pub invariant-loop-c : goal.invariant-loop-c
invariant-loop-c l = l.width ≡ sum_by len_utf8 (take l.c-index l.s)
