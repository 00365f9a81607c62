-- What the program's values say: what stands around a statement, and a jump or a label that is misplaced.
use Rattle.std.specs.Prelude.{ℕ, List, [], Option, Some, None}
use Rattle.std.specs.Borrow.{Bor}
use Rattle.es3_tree.specs.declared.Name.{Name}
use Rattle.es3_labels.specs.declared.Misplaced.{Misplaced as MisplacedPart}
use Rattle.es3_labels.specs.declared.around.Around.{Around as AroundPart}
use Rattle.es3_labels.specs.declared.around.Around.TheBlock as b
use Rattle.es3_labels.specs.Around.{Around, in_program, in_function, in_loop, in_switch, in_label}
use Rattle.es3_labels.specs.Misplaced.{Misplaced}

-- the pointer before each part is ignored
abbrev pub around_of : AroundPart → Around
around_of b.Program = in_program
around_of b.Function = in_function
around_of (b.Loop' p a) = in_loop (around_of a)
around_of (b.Switch' p a) = in_switch (around_of a)
around_of (b.Label' l loop p a) = in_label l.now loop (around_of a)

-- the units of the label, none for a jump
abbrev pub text_of : Option (Bor Name) → List ℕ
text_of None = []
text_of (Some n) = n.now.text

abbrev pub misplaced_of : MisplacedPart → Misplaced
misplaced_of m = record { at = m.at; text = text_of m.label }
