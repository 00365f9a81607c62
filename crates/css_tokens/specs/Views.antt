-- What the program's states are in the definition.
use Rattle.std.specs.Prelude.{Option, Some, None, drop}
use Rattle.css_grammar.specs.Sheets as s
use Rattle.css_grammar.specs.Tokens as t
use Rattle.css_grammar.specs.Grammar as g
use Rattle.css_grammar.specs.Machine as m
use Rattle.css_tree.specs.Views.{declarations_of, rules_of}
use Rattle.css_tokens.specs.declared.work.Work.{Work}
use Rattle.css_tokens.specs.declared.work.Where.{Where}
use Rattle.css_tokens.specs.declared.work.Where.TheVariants as w
use Rattle.css_tokens.specs.declared.work.Tail.{Tail}
use Rattle.css_tokens.specs.declared.work.Tail.TheVariants as k
use Rattle.css_tokens.specs.declared.work.Spot.{Spot}
use Rattle.css_tokens.specs.declared.work.Spot.TheVariants as p
use Rattle.css_tokens.specs.declared.work.Use.{Use}
use Rattle.css_tokens.specs.declared.work.Use.TheVariants as u
use Rattle.css_tokens.specs.declared.work.Opener.{Opener}
use Rattle.css_tokens.specs.declared.work.Opener.TheVariants as h
use Rattle.css_tokens.specs.declared.work.Mode.{Mode}
use Rattle.css_tokens.specs.declared.work.Mode.TheVariants as o

abbrev pub where_of : Where → g.Where
where_of w.Wanted = g.wanted
where_of w.Within = g.within
where_of w.Behind = g.behind

abbrev pub tail_of : Tail → t.Tail
tail_of k.None = t.none
tail_of k.Closed = t.closed
tail_of k.Word = t.a_word
tail_of k.Whole = t.a_whole
tail_of k.Fraction = t.a_fraction
tail_of k.Hash = t.a_hash
tail_of k.Slash = t.a_slash

abbrev pub body_of : Work → s.Body
body_of a = record { rules = rules_of a.rules.items; selectors = a.selectors.items; declarations = declarations_of a.declarations.items }

abbrev pub place_of : Spot → Work → g.Place
place_of (p.Selecting w) a = g.selecting (where_of w) (rules_of a.rules.items) (a.selectors.items) a.text.items
place_of (p.Block h) a = g.block h (body_of a)
place_of p.Named a = g.named (body_of a) a.name.items
place_of p.Values a = g.values (tail_of a.tail) (body_of a) a.name.items (a.values.items)

abbrev pub use_of : Use → Work → m.Use
use_of (u.Tag w) a = m.a_tag (where_of w) (rules_of a.rules.items) (a.selectors.items) a.text.items
use_of (u.Part c w) a = m.a_part c (where_of w) (rules_of a.rules.items) (a.selectors.items) a.text.items
use_of (u.State c w) a = m.a_state c (where_of w) (rules_of a.rules.items) (a.selectors.items) a.text.items
use_of (u.Element c d w) a = m.an_element c d (where_of w) (rules_of a.rules.items) (a.selectors.items) a.text.items
use_of (u.Name h) a = m.a_name h (body_of a)
use_of u.Value a = m.a_value (tail_of a.tail) (body_of a) a.name.items (a.values.items)
use_of (u.Unit h) a = m.a_unit h (tail_of a.tail) (body_of a) a.name.items (a.values.items) a.number.items

abbrev pub opener_of : Opener → Work → m.Opener
opener_of (h.Asked c b w) a = m.asked_of c b (where_of w) (rules_of a.rules.items) (a.selectors.items) a.text.items a.word.items
opener_of (h.Attribute b w) a = m.attribute_of b (where_of w) (rules_of a.rules.items) (a.selectors.items) a.text.items
opener_of (h.Call b) a = m.call_of b (tail_of a.tail) (body_of a) a.name.items (a.values.items) a.word.items

abbrev pub state_of : Mode → Work → m.State
state_of (o.At p) a = m.at (place_of p a)
state_of (o.Slashed c p) a = m.slashed c (place_of p a)
state_of (o.Commented b p) a = m.commented b (place_of p a)
state_of (o.WordFor x) a = m.word_for (use_of x a)
state_of (o.DashFor d x) a = m.dash_for d (use_of x a)
state_of (o.Word x) a = m.word (use_of x a) a.word.items
state_of (o.ColonIn c w) a = m.colon_in c (where_of w) (rules_of a.rules.items) (a.selectors.items) a.text.items
state_of (o.Inside h n) a = m.inside (opener_of h a) n a.inner.items
state_of (o.QuotedIn h n q) a = m.quoted_in (opener_of h a) n a.inner.items q a.quote.items
state_of (o.Quoted q) a = m.quoted (tail_of a.tail) (body_of a) a.name.items (a.values.items) q a.word.items
state_of (o.Minus d) a = m.minus d (tail_of a.tail) (body_of a) a.name.items (a.values.items)
state_of o.Whole a = m.whole (tail_of a.tail) (body_of a) a.name.items (a.values.items) a.word.items
state_of o.Fraction a = m.fraction (tail_of a.tail) (body_of a) a.name.items (a.values.items) a.word.items
state_of (o.NumberDash h d) a = m.number_dash h d (tail_of a.tail) (body_of a) a.name.items (a.values.items) a.word.items
state_of (o.Point c) a = m.point c (tail_of a.tail) (body_of a) a.name.items (a.values.items) a.word.items
state_of (o.HashFor c) a = m.hash_for c (tail_of a.tail) (body_of a) a.name.items (a.values.items)
state_of (o.Urgent c n) a = m.urgent c (tail_of a.tail) (body_of a) a.name.items (a.values.items) (drop n t.important)
state_of o.Hash a = m.hash (tail_of a.tail) (body_of a) a.name.items (a.values.items) a.word.items

abbrev pub next_of : Option Mode → Work → Option m.State
next_of None a = None
next_of (Some o) a = Some (state_of o a)
