-- What a row comes to among the objects of a page.
use Rattle.std.specs.Prelude.{ℕ, List, []}
use Rattle.es3_objects.specs.declared.value.Value.{Value}
use Rattle.es3_heap.specs.Objects.{Objects}
use Rattle.rows.specs.Rows.{Row}
use Rattle.heap_rows.specs.Doing.{Done, does}
use Rattle.heap_rows.specs.Opening.{place_of, empty_page}

-- with these values; what it touches is told by the natives that its function is among
abbrev pub by_row : Row → ℕ → List Value → Objects → Done
by_row q by vs h = (does place_of by q vs h empty_page []).done
