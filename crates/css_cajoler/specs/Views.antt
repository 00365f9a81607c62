-- What the program's table is in the definition.
use Rattle.std.specs.Prelude.{ℕ, List, [], ◌∷◌, ◌++◌, Option, Some, None, map, nat_eq, codes, if◌then◌else◌}
use Rattle.std.specs.Global.{Vec}
use Rattle.std.specs.List.{starts_with}
use Rattle.caja_units.specs.Units.{same_units}
use Rattle.css_kept.specs.Table as t
use Rattle.css_cajoler.specs.declared.table.Values.{Values}
use Rattle.css_cajoler.specs.declared.table.Values.TheVariants as v
use Rattle.css_cajoler.specs.declared.table.Row.{Row}

abbrev pub values_of : Values → t.Values
values_of v.Colour = t.colour
values_of v.Image = t.image
values_of v.Length = t.a_length
values_of v.Lengths = t.lengths
values_of (v.OneOf words) = t.one_of (map (λ word. word.now) words.now)

abbrev pub row_of : Row → t.Row
row_of r = t.row r.property.now (values_of r.values)

abbrev pub texts_in : Option (Vec (List ℕ)) → Option (List (List ℕ))
texts_in None = None
texts_in (Some v) = Some v.items

-- what is written of an answer, where it has no double quote
abbrev pub linked : Option (List ℕ) → Option (List ℕ)
linked None = None
linked (Some u) = if t.is_without 34 u then Some (codes "url(\"" ++ u ++ codes "\")") else None

-- what is kept of a value that stands alone
abbrev pub image_value : t.Answers → List ℕ → Option (List ℕ)
image_value a v = if same_units v (codes "none") then Some v else if starts_with nat_eq v (codes "url(") then linked (a.for_style (t.link v)) else None

abbrev pub alone : Option (List ℕ) → Option (List (List ℕ))
alone None = None
alone (Some w) = Some (w ∷ [])
