use Rattle.std.proofs.Common.{◌≡◌, ◌∷◌, ◌++◌, take}
use Rattle.std.specs.List.{flat_map}
use Rattle.caja_units.specs.Utf8.{utf8_of}
use Rattle.css_cajoler.proofs.printing.put_behind.Given as goal

abbrev pub invariant-loop-text : goal.invariant-loop-text
invariant-loop-text l = l.out.items ≡ l.initial.out.items ++ flat_map (λ text. l.separator ∷ utf8_of text) (take l.text-index l.texts)
