-- The roots that a page grants: elements of its document, which are known by their ids. They are numbered from 0, in the order in which they are first granted.
use Rattle.std.specs.Prelude.{ℕ, suc, List, [], ◌∷◌, ◌++◌, Option, is_some, if◌then◌else◌}
use Rattle.std.specs.List.{position_from}
use Rattle.std.specs.Map.{keys_of}
use Rattle.std.specs.Option.{unwrap_or}
use Rattle.caja_units.specs.Units.{same_units}
use Rattle.page_manifest.specs.Page.{Granted, the_cell, the_result, the_plain, the_root, Grants, Module, Page}

-- each id, with the first module that it is granted to
abbrev pub Roots : Type 0
Roots = List (List ℕ × ℕ)

-- the number of the root with an id
abbrev pub place_of : Roots → List ℕ → Option ℕ
place_of roots id = position_from (same_units id) 0 (keys_of roots)

-- with the root that module m is granted, unless it is among them
abbrev pub with_root : ℕ → List ℕ → Roots → Roots
with_root m id roots = if is_some (place_of roots id) then roots else roots ++ (id, m) ∷ []

abbrev pub with_grant : ℕ → Granted → Roots → Roots
with_grant m (the_root id) roots = with_root m id roots
with_grant m (the_cell k) roots = roots
with_grant m (the_result k) roots = roots
with_grant m (the_plain v) roots = roots

-- with those that module m is granted
abbrev pub with_grants : ℕ → Grants → Roots → Roots
with_grants m [] roots = roots
with_grants m (g ∷ gs) roots = with_grants m gs (with_grant m g.1 roots)

-- with those that the modules from m on are granted
abbrev pub with_modules : ℕ → List Module → Roots → Roots
with_modules m [] roots = roots
with_modules m (q ∷ qs) roots = with_modules (suc m) qs (with_grants m q.grants roots)

abbrev pub roots_of : Page → Roots
roots_of p = with_modules 0 p.modules []

-- their ids
abbrev pub granted_roots : Page → List (List ℕ)
granted_roots p = keys_of (roots_of p)

-- the number of a root that is there
abbrev pub number_in : Roots → List ℕ → ℕ
number_in roots id = unwrap_or (place_of roots id) 0
