use Rattle.std.proofs.Common.{◌≡◌, ◌++◌, take}
use Rattle.html_kept.specs.Printed.{printed_attrs}
use Rattle.html_tree.specs.Views.{attrs_of}
use Rattle.html_cajoler.proofs.printing.put_attrs.Given as goal

abbrev pub invariant-loop-attr : goal.invariant-loop-attr
invariant-loop-attr l = l.out.items ≡ l.initial.out.items ++ printed_attrs (attrs_of (take l.attr-index l.attrs))
