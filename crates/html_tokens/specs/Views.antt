-- What the program's answers are in the definition.
use Rattle.std.specs.Prelude.{ℕ, ◌≤◌, List, Bool}
use Rattle.html_grammar.specs.Characters.{begins, begins_markup, is}
use Rattle.html_grammar.specs.References as r
use Rattle.html_grammar.specs.Runs as u
use Rattle.html_grammar.specs.Tags.{ends_bare}
use Rattle.html_tokens.specs.declared.references.Reference.{Reference}
use Rattle.html_tokens.specs.declared.references.Reference.TheVariants as rs
use Rattle.html_tokens.specs.declared.runs.Until.{Until}
use Rattle.html_tokens.specs.declared.runs.Until.TheVariants as us
use Rattle.html_tokens.specs.declared.runs.Run.{Run}
use Rattle.html_tokens.specs.declared.runs.Run.TheVariants as xs

abbrev pub reference_of : Reference → r.Reference
reference_of (rs.Is c n) = r.stands_for c n
reference_of rs.Unknown = r.unknown
reference_of rs.Absent = r.absent

-- a reference has no more characters than there are
abbrev pub Within : ℕ → Reference → Type 0
Within m (rs.Is c n) = n ≤ m
Within m rs.Unknown = Unit {0}
Within m rs.Absent = Unit {0}

abbrev pub until_of : Until → List ℕ → Bool
until_of us.Markup = begins_markup
until_of (us.Quote q) = begins (is q)
until_of us.Bare = ends_bare

abbrev pub run_of : Run → u.Run
run_of (xs.Read v n) = u.units v n
run_of (xs.Wrong k n) = u.unknown_at k n
