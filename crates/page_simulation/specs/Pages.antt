-- The page of the programs that stand for modules: the same deeds, one by one; and what is asked of deeds.
use Rattle.std.specs.Prelude.{◌≡◌, ℕ, suc, ◌<◌, false, List, [], ◌∷◌, length, map}
use Rattle.caja_units.specs.Units.{is_hidden}
use Rattle.page_deeds.specs.Deeds.{Grant, a_cell, a_result, a_plain, a_root, Grants, to_load, to_call, to_tick, to_click, to_input}
use Rattle.doc_nodes.specs.Rows.{Doc}
use Rattle.cajita_rewrite.specs.Rewrite.{program_of}
use Rattle.cajita_page.specs.DirectPage as direct
use Rattle.page_runner.specs.Page as es3
use Rattle.cajita_simulation.specs.Alike.{most_deeds}
use Rattle.cajita_simulation.specs.Guest.{GuestModule}
use Rattle.cajita_simulation.specs.Places.{HasRoot}

abbrev pub program_deed : direct.Deed → es3.Deed
program_deed (to_load m p gs) = to_load m (program_of p) gs
program_deed (to_call k m key args) = to_call k m key args
program_deed (to_tick k m) = to_tick k m
program_deed (to_click k id root n) = to_click k id root n
program_deed (to_input k id root n us) = to_input k id root n us

abbrev pub program_deeds : List direct.Deed → List es3.Deed
program_deeds ds = map program_deed ds

-- a cell that is granted is one of so many, and a root is there in the document with which the page begins
abbrev pub IsThere : ℕ → Doc → Grant → Type 0
IsThere cells doc (a_cell c) = c < cells
IsThere cells doc (a_result m) = Unit {0}
IsThere cells doc (a_plain v) = Unit {0}
IsThere cells doc (a_root root) = HasRoot doc root

-- and no name is one that the rewriting or the interpreter uses itself
abbrev pub GrantsFit : ℕ → Doc → Grants → Type 0
GrantsFit cells doc [] = Unit {0}
GrantsFit cells doc ((x, g) ∷ gs) = (is_hidden x ≡ false) × IsThere cells doc g × GrantsFit cells doc gs

-- deed number i of a page of so many modules, so many cells and a document: one of as many as a page may have; a module that is loaded breaks no rule, and the arguments of an event can be counted. What happens
-- to a node that isn't there, or to a text that is put into none, does nothing
abbrev pub DeedFits : ℕ → ℕ → Doc → ℕ → direct.Deed → Type 0
DeedFits modules cells doc i (to_load m p gs) = (i < most_deeds) × (m < modules) × GuestModule p × GrantsFit cells doc gs
DeedFits modules cells doc i (to_call k m key args) = (i < most_deeds) × (m < modules) × (length args < 4294967295)
DeedFits modules cells doc i (to_tick k m) = (i < most_deeds) × (m < modules)
DeedFits modules cells doc i (to_click k id root n) = i < most_deeds
DeedFits modules cells doc i (to_input k id root n us) = i < most_deeds

-- from deed number i on
abbrev pub DeedsFit : ℕ → ℕ → Doc → ℕ → List direct.Deed → Type 0
DeedsFit modules cells doc i [] = Unit {0}
DeedsFit modules cells doc i (d ∷ ds) = DeedFits modules cells doc i d × DeedsFit modules cells doc (suc i) ds
