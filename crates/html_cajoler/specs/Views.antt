-- What the program's table and what it has kept so far are in the definition.
use Rattle.std.specs.Prelude.{ℕ, List, Bool, Option, None, map, if◌then◌else◌}
use Rattle.html_grammar.specs.Characters.{is_digit}
use Rattle.html_grammar.specs.Trees.{Tree, many, append}
use Rattle.html_tree.specs.Views.{trees}
use Rattle.html_kept.specs.Table as t
use Rattle.html_kept.specs.Kept.{joined}
use Rattle.html_cajoler.specs.declared.values.Class.{Class}
use Rattle.html_cajoler.specs.declared.values.Class.TheVariants as c
use Rattle.html_cajoler.specs.declared.table.Values.{Values}
use Rattle.html_cajoler.specs.declared.table.Values.TheVariants as v
use Rattle.html_cajoler.specs.declared.table.Row.{Row}
use Rattle.html_cajoler.specs.declared.keeping.Kept.{Kept}

abbrev pub is_of : Class → ℕ → Bool
is_of c.Word = t.is_word_part
is_of c.Language = t.is_language_part
is_of c.Digit = is_digit

abbrev pub values_of : Values → t.Values
values_of v.Any = t.any
values_of v.Word = t.word
values_of v.Words = t.words
values_of v.Language = t.language
values_of v.Size = t.size
values_of (v.OneOf texts) = t.one_of (map (λ text. text.now) texts.now)
values_of v.Link = t.link
values_of v.Image = t.image

abbrev pub row_of : Row → t.Row
row_of r = t.row r.attr.now (map (λ name. name.now) r.on.now) (values_of r.values)

-- what a row keeps of a value on an element
abbrev pub value_by : t.Row → t.Answers → List ℕ → List ℕ → Option (List ℕ)
value_by r a n us = if t.is_on r.on n then t.kept_value a r.values us else None

-- what was kept so far, before what is kept of what follows
abbrev pub whole : Kept → Tree many → Tree many
whole k r = append (trees k.nodes.items) (joined k.text.items r)
