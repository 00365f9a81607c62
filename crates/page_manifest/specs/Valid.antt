-- Pages in which no fault of a manifest stands. Whether an id names an element is asked of the document.
use Rattle.std.specs.Prelude.{◌≡◌, ◌≤◌, ◌<◌, ℕ, List, [], ◌∷◌, length, map, All, IsTrue, slice_get, None, Some}
use Rattle.event_script.specs.Events.{Asked, a_call, a_click, an_input, a_tick}
use Rattle.manifest_names.specs.Names.{is_name, is_grant_name}
use Rattle.page_manifest.specs.Bound.{once_each}
use Rattle.page_manifest.specs.Page.{Granted, the_cell, the_result, the_plain, the_root, Module, Page}

-- the cell is there, or the module is loaded before module i
abbrev pub IsGranted : ℕ → ℕ → Granted → Type 0
IsGranted cells i (the_cell k) = k < cells
IsGranted cells i (the_result k) = k < i
IsGranted cells i (the_plain v) = Unit {0}
IsGranted cells i (the_root id) = Unit {0}

-- no name stands twice
abbrev pub AreOnce : List (List ℕ) → Type 0
AreOnce names = once_each names ≡ None

-- module i of a page with so many cells
pub record IsModule (cells i : ℕ) (m : Module) : Type 0 where
  pub named : IsTrue (is_name m.name)
  pub few : length m.grants ≤ 64
  pub spelled : All (λ s. IsTrue (is_grant_name s)) (map (λ g. g.0) m.grants)
  pub once : AreOnce (map (λ g. g.0) m.grants)
  pub granted : All (λ g. IsGranted cells i g.1) m.grants

-- an event of a page with so many modules
abbrev pub IsAsked : ℕ → Asked → Type 0
IsAsked modules (a_call m key vs) = m < modules
IsAsked modules (a_click id) = Unit {0}
IsAsked modules (an_input id us) = Unit {0}
IsAsked modules (a_tick m) = m < modules

-- each call of a key passes fewer arguments than the greatest number of 32 bits
abbrev pub FewArguments : List Asked → Type 0
FewArguments [] = Unit {0}
FewArguments (a_call m key args ∷ es) = (length args < 4294967295) × FewArguments es
FewArguments (a_click id ∷ es) = FewArguments es
FewArguments (an_input id us ∷ es) = FewArguments es
FewArguments (a_tick m ∷ es) = FewArguments es

pub record IsValid (p : Page) : Type 0 where
  pub few_styles : length p.styles ≤ 64
  pub few_cells : length p.cells ≤ 64
  pub few_modules : length p.modules ≤ 64
  pub few_events : length p.events ≤ 10000
  pub cells_named : All (λ n. IsTrue (is_name n)) p.cells
  pub cells_once : AreOnce p.cells
  pub modules_once : AreOnce (map (λ m. m.name) p.modules)
  pub modules : (i : ℕ) (m : Module) → slice_get p.modules i ≡ Some m → IsModule (length p.cells) i m
  pub events : All (IsAsked (length p.modules)) p.events
