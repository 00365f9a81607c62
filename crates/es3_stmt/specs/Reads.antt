-- What the reader's answer says.
use Rattle.std.specs.Prelude.{◌≡◌, Result, Ok, Err}
use Rattle.es3_tree.specs.PlacedView as view
use Rattle.es3_tree.specs.declared.Program.{Program}
use Rattle.es3_grammar.specs.Answers.{Answer, read, syntax, deep}
use Rattle.es3_stmt.specs.declared.read.ReadError.{ReadError}
use Rattle.es3_stmt.specs.declared.read.ReadError.TheVariants as error

abbrev pub Reads : Result Program ReadError → Answer → Type 0
Reads (Ok p) a = a ≡ read (view.program p)
Reads (Err (error.Syntax at)) a = a ≡ syntax at
Reads (Err (error.TooDeep at)) a = (a ≡ deep) × (at ≡ 0)
Reads (Err error.Memory) a = Unit {0}
