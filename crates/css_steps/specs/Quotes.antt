-- How a text in quotes goes on.
use Rattle.std.specs.Prelude.{ℕ, true, nat_eq, if◌then◌else◌, Option, Some, None}
use Rattle.css_grammar.specs.Characters as s
use Rattle.css_grammar.specs.Machine as m

pub data How : Type 0 where
  more ends refused : How

abbrev pub quoting_spec : ℕ → s.Class → ℕ → How
quoting_spec q (s.space true) c = refused
quoting_spec q s.backslash c = refused
quoting_spec q s.quote c = if nat_eq c q then ends else more
quoting_spec q k c = more

abbrev pub by_how : How → m.State → m.State → Option m.State
by_how more x y = Some x
by_how ends x y = Some y
by_how refused x y = None
