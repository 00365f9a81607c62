-- How the program says it.
use Rattle.css_steps.specs.declared.insides.Quoting.{Quoting}
use Rattle.css_steps.specs.declared.insides.Quoting.TheVariants as q
use Rattle.css_steps.specs.Quotes.{How, more, ends, refused}

abbrev pub quoting_of : Quoting → How
quoting_of q.More = more
quoting_of q.Ends = ends
quoting_of q.Refused = refused
