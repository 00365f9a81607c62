-- The table of a document's ids: with each, the first of the granted roots around its element, and whether that is an `input`.
use Rattle.std.specs.Prelude.{ℕ, suc, List, [], ◌∷◌, ◌++◌, Bool, false, ◌||◌, ◌&&◌, Option, None, Some, Ok, Err, length, min, nat_lt, nat_le, is_some, codes, if◌then◌else◌}
use Rattle.std.specs.Map.{lookup, keys_of}
use Rattle.std.specs.Option.{unwrap_or}
use Rattle.html_grammar.specs.Trees.{Sort, one, many, Tree, text_node, element, none, more}
use Rattle.caja_units.specs.Units.{same_units}
use Rattle.doc_nodes.specs.Rows.{value_at}
use Rattle.doc_tree.specs.Cleaned.{attrs_from}
use Rattle.event_script.specs.Events.{Asked}
use Rattle.page_manifest.specs.Faults.{Found, chain, twice, unknown_grant, overlap, unknown_target}
use Rattle.page_manifest.specs.Bound.{unless}
use Rattle.page_manifest.specs.Page.{Style}
use Rattle.page_roots.specs.Roots.{Roots, place_of}
use Rattle.page_binding.specs.Bound.{first_missing, first_bare, first_lost}
use Rattle.page_binding.specs.declared.table.Held.{Held}

abbrev pub Table : Type 0
Table = List (List ℕ × Held)

-- the number of a root, or how many there are
abbrev pub number_or_count : Roots → List ℕ → ℕ
number_or_count roots id = unwrap_or (place_of roots id) (length roots)

-- with an element that stands inside the root of this number
abbrev pub with_id : List ℕ → List ℕ → ℕ → Table → Found Table
with_id id tag least t =
    if is_some (lookup (same_units id) t) then Err (twice, 0)
    else Ok (t ++ (id, record { least = least; is_input = same_units tag (codes "input") }) ∷ [])

-- an element: the first root around what stands in it, and the table with it
abbrev pub entered : Roots → List ℕ → Option (List ℕ) → ℕ → Table → Found (ℕ × Table)
entered roots tag None least t = Ok (least, t)
entered roots tag (Some id) least t = chain (with_id id tag least t) (λ u. Ok (min (number_or_count roots id) least, u))

abbrev pub walked : Roots → (s : Sort) → Tree s → ℕ → Table → Found Table
walked roots _ (text_node us) least t = Ok t
walked roots _ (element tag xs ts) least t = chain (entered roots tag (value_at (codes "id") (attrs_from xs)) least t) (λ r. walked roots many ts r.0 r.1)
walked roots _ none least t = Ok t
walked roots _ (more x ts) least t = chain (walked roots one x least t) (walked roots many ts least)

-- the first of the roots around an element, or how many there are
abbrev pub least_of : Roots → Option Held → ℕ
least_of roots None = length roots
least_of roots (Some h) = h.least

-- an element that is one of the roots, or stands inside one
abbrev pub is_owned : Roots → List ℕ → Option Held → Bool
is_owned roots id None = false
is_owned roots id (Some h) = is_some (place_of roots id) || nat_lt h.least (length roots)

abbrev pub takes_text : Option Held → Bool
takes_text None = false
takes_text (Some h) = h.is_input

-- there is an element with this id
abbrev pub is_held : Table → List ℕ → Bool
is_held t id = is_some (lookup (same_units id) t)

module _ (roots : Roots) (t : Table) where
  abbrev pub least_at : List ℕ → ℕ
  least_at id = least_of roots (lookup (same_units id) t)

  -- the first of the roots around those that were passed is a root that was passed, too
  abbrev pub overlap_from : ℕ → ℕ → Roots → Option ℕ
  overlap_from nearest k [] = None
  overlap_from nearest k (r ∷ rest) = if nat_le (min nearest (least_at r.0)) k then Some r.1 else overlap_from (min nearest (least_at r.0)) (suc k) rest

  abbrev pub takes_click : List ℕ → Bool
  takes_click id = is_owned roots id (lookup (same_units id) t)

  abbrev pub takes_input : List ℕ → Bool
  takes_input id = takes_click id && takes_text (lookup (same_units id) t)

-- the last tests
abbrev pub last_tested : Roots → Table → List Asked → Found (List (List ℕ))
last_tested roots t es =
    chain (unless (overlap_from roots t (length roots) 0 roots) (λ m. (overlap, m)) t) (λ _.
    unless (first_lost (takes_click roots t) (takes_input roots t) 0 es) (λ k. (unknown_target, k)) (keys_of roots))

-- the tests behind the walk
abbrev pub tested : Roots → Table → List Style → List Asked → Found (List (List ℕ))
tested roots t styles es =
    chain (unless (first_missing (is_held t) roots) (λ m. (unknown_grant, m)) t) (λ _.
    chain (unless (first_bare (is_held t) 0 styles) (λ i. (unknown_grant, i)) t) (λ _.
    last_tested roots t es))
