use Rattle.std.proofs.Common.{◌≡◌, ◌++◌, take}
use Rattle.css_grammar.specs.Sheets.{lowered}
use Rattle.css_tokens.proofs.classes.append_lowered.Given as goal

abbrev pub invariant-loop-unit : goal.invariant-loop-unit
invariant-loop-unit l = l.text.items ≡ l.fn.text.items ++ lowered (take l.unit-index l.word)
