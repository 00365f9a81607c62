-- Pages to be looked at: the module `a`, which is granted a cell as `k`, and the module `b`; and pages whose module `b` is granted a root.
use Rattle.std.specs.Prelude.{ℕ, List, [], ◌∷◌, None, codes}
use Rattle.html_grammar.specs.Trees.{one, many, Tree, element, none, more}
use Rattle.event_script.specs.Events.{Asked}
use Rattle.page_manifest.specs.Page.{Language, cajita, the_cell, the_result, the_root, Grants, Module, Page}

-- with this source and these grants
abbrev pub module_a : List ℕ → Grants → Module
module_a source grants = record { name = codes "a"; language = cajita; source = source; grants = grants }

-- with the cell of this number
abbrev pub first_module : List ℕ → ℕ → Module
first_module source cell = module_a source ((codes "k", the_cell cell) ∷ [])

abbrev pub second_module : Language → List ℕ → Grants → Module
second_module language source grants = record { name = codes "b"; language = language; source = source; grants = grants }

-- the trees of its HTML are told beside it
abbrev pub two_modules : List (List ℕ) → Module → Module → List Asked → Page
two_modules cells m n events = record { rule = []; base = None; html = []; styles = []; cells = cells; modules = m ∷ n ∷ []; events = events }

-- the one cell `board`; and behind another one
abbrev pub one_board : List (List ℕ)
one_board = codes "board" ∷ []

abbrev pub one_desk : List (List ℕ)
one_desk = codes "desk" ∷ []

abbrev pub desk_and_board : List (List ℕ)
desk_and_board = codes "desk" ∷ codes "board" ∷ []

-- one cell is granted, and nothing else; the result of the first module, and nothing else; one root, and nothing else
abbrev pub only_the_cell : ℕ → Grants
only_the_cell c = (codes "d", the_cell c) ∷ []

abbrev pub only_the_result : Grants
only_the_result = (codes "a", the_result 0) ∷ []

abbrev pub only_the_root : List ℕ → Grants
only_the_root id = (codes "r", the_root id) ∷ []

-- the group of the first module alone; and that of the second
abbrev pub the_first : List ℕ
the_first = 0 ∷ []

abbrev pub the_second : List ℕ
the_second = 1 ∷ []

-- an element with an id
abbrev pub with_id : List ℕ → List ℕ → Tree many → Tree one
with_id tag id ts = element tag (record { name = codes "id"; value = id } ∷ []) ts

-- `<p id="list"></p>`, and that behind `<p id="menu"></p>`
abbrev pub list_alone : Tree many
list_alone = more (with_id (codes "p") (codes "list") none) none

abbrev pub menu_and_list : Tree many
menu_and_list = more (with_id (codes "p") (codes "menu") none) list_alone

-- `<p id="list"><b></b></p>`
abbrev pub list_with_b : Tree many
list_with_b = more (with_id (codes "p") (codes "list") (more (element (codes "b") [] none) none)) none

-- the module `b` has the root `list`, and there is no other root; and the module `a` has another one, which is numbered before it
abbrev pub one_root : (source other : List ℕ) → List Asked → Page
one_root source other events = two_modules [] (module_a source []) (second_module cajita other (only_the_root (codes "list"))) events

abbrev pub two_roots : (source other : List ℕ) → List Asked → Page
two_roots source other events = two_modules [] (module_a source (only_the_root (codes "menu"))) (second_module cajita other (only_the_root (codes "list"))) events

-- both have it
abbrev pub shared_root : (source other : List ℕ) → List Asked → Page
shared_root source other events = two_modules [] (module_a source (only_the_root (codes "list"))) (second_module cajita other (only_the_root (codes "list"))) events
