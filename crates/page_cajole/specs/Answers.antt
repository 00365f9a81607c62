-- What an answer says of what becomes of the source.
use Rattle.std.specs.Prelude.{◌≡◌}
use Rattle.es3_tree.specs.PlacedView as view
use Rattle.es3_tree.specs.View.{program}
use Rattle.es3_printed.specs.Tokens.{printed}
use Rattle.page_cajole.specs.Source as s
use Rattle.page_cajole.specs.Cajoled.{Outcome, uncut, unread, broken, cajoled}
use Rattle.page_cajole.specs.declared.Answer.{Answer}
use Rattle.page_cajole.specs.declared.Answer.TheVariants as answer
use Rattle.page_cajole.specs.declared.source.SourceRead.{SourceRead}
use Rattle.page_cajole.specs.declared.source.SourceRead.TheVariants as source

-- the program is the defined one, and the text is its printed text; the number and the byte are those of the refusal
abbrev pub Answers : Answer → Outcome → Type 0
Answers (answer.Module m) o = (o ≡ cajoled (program m.program)) × (m.text.items ≡ printed (program m.program))
Answers (answer.Uncut number at) o = o ≡ uncut number at
Answers (answer.Unread number at) o = o ≡ unread number at
Answers (answer.Broken number at) o = o ≡ broken number at

-- the same of what was read
abbrev pub read_as : SourceRead → s.Source
read_as (source.Spelled p) = s.spelled (view.program p)
read_as (source.Uncut number at) = s.uncut number at
read_as (source.Unread number at) = s.unread number at
