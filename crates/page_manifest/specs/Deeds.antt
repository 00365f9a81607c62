-- What a page of programs is to do: its modules are loaded in listed order, and then its events are done. Each id that a module is granted names a root by its number,
-- and each that an event asks for names a root and a node of it.
use Rattle.std.specs.Prelude.{ℕ, ◌+◌, List, [], ◌∷◌, ◌++◌, map}
use Rattle.page_deeds.specs.Deeds as deed
use Rattle.page_deeds.specs.Deeds.{Grant, a_cell, a_result, a_plain, a_root, Deed, to_load}
use Rattle.event_script.specs.Events.{Asked, deed_of}
use Rattle.page_manifest.specs.Page.{Granted, the_cell, the_result, the_plain, the_root, Grants, Module, Page}

abbrev pub given : (List ℕ → ℕ) → Granted → Grant
given root_of (the_cell k) = a_cell k
given root_of (the_result k) = a_result k
given root_of (the_plain v) = a_plain v
given root_of (the_root id) = a_root (root_of id)

abbrev pub all_given : (List ℕ → ℕ) → Grants → deed.Grants
all_given root_of gs = map (λ g. (g.0, given root_of g.1)) gs

-- from module i on, each with the program that stands for it
abbrev pub loads : {P : Type 0} → (List ℕ → ℕ) → ℕ → List Module → List P → List (Deed P)
loads root_of i [] ps = []
loads root_of i (m ∷ ms) [] = []
loads root_of i (m ∷ ms) (p ∷ ps) = to_load i p (all_given root_of m.grants) ∷ loads root_of (i + 1) ms ps

-- from event k on
abbrev pub events : {P : Type 0} → (List ℕ → ℕ × ℕ) → ℕ → List Asked → List (Deed P)
events node_of k [] = []
events node_of k (e ∷ es) = deed_of node_of k e ∷ events node_of (k + 1) es

abbrev pub deeds : {P : Type 0} → (List ℕ → ℕ) → (List ℕ → ℕ × ℕ) → Page → List P → List (Deed P)
deeds root_of node_of p ps = loads root_of 0 p.modules ps ++ events node_of 0 p.events
