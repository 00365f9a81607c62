use Rattle.std.proofs.Common.{◌≡◌, ◌∷◌, ◌++◌, take}
use Rattle.std.specs.List.{flat_map}
use Rattle.css_tree.specs.Views.{declarations_of}
use Rattle.css_kept.specs.Printed.{printed_declaration}
use Rattle.css_cajoler.proofs.printing.put_more.Given as goal

abbrev pub invariant-loop-declaration : goal.invariant-loop-declaration
invariant-loop-declaration l = l.out.items ≡ l.initial.out.items ++ flat_map (λ d. 59 ∷ printed_declaration d) (declarations_of (take l.declaration-index l.declarations))
