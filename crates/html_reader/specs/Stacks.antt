-- What the open elements of the program are in the definition.
use Rattle.std.specs.Prelude.{List, [], ◌∷◌}
use Rattle.html_grammar.specs.Reading as h
use Rattle.html_tree.specs.Views.{attrs_of, trees}
use Rattle.html_reader.specs.declared.reading.Open.{Open}

abbrev pub open_of : Open → h.Open
open_of o = record { name = o.name; attrs = attrs_of o.attrs.items; before = trees o.before.items }

-- from the outermost on, within what is open already
abbrev pub over : List Open → List h.Open → List h.Open
over [] k = k
over (o ∷ os) k = over os (open_of o ∷ k)

-- the innermost first
abbrev pub stack : List Open → List h.Open
stack os = over os []
