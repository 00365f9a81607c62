use Rattle.std.proofs.Common.{◌≡◌, ◌+◌, ◌≤◌, ◌++◌, length, take}
use Rattle.text_storage.proofs.short.Short.push_ascii.Given as goal

abbrev pub invariant-loop-i : goal.invariant-loop-i
invariant-loop-i l = record {
  room : l.start + length l.bytes ≤ 40;
  all : length l.self-inside.units ≡ 40;
  written : take (l.start + l.i) l.self-inside.units ≡ take l.start l.initial.self-inside.units ++ take l.i l.bytes;
}
