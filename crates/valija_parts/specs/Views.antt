-- What the program's value of a place says.
use Rattle.es3_tree.specs.PlacedView as source
use Rattle.valija_parts.specs.declared.places.Place.{Place as PlacePart}
use Rattle.valija_parts.specs.declared.places.Place.TheVariants as v
use Rattle.valija_parts.specs.Places.{Place, at_name, at_dot, at_index, elsewhere}

abbrev pub place_of : PlacePart → Place
place_of (v.Name name) = at_name (source.word name)
place_of (v.Dot object key) = at_dot (source.expr object.value) (source.word key)
place_of (v.Index object key) = at_index (source.expr object.value) (source.expr key.value)
place_of (v.Other e) = elsewhere (source.expr e.value)
