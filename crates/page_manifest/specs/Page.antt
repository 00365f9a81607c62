-- A page. Cells, modules and events are known by their numbers, from 0, and elements of its document by their ids.
use Rattle.std.specs.Prelude.{ℕ, Bool, true, false, List, Option}
use Rattle.url.specs.Parts.{Parts}
use Rattle.url_rule.specs.Table.{Row}
use Rattle.page_deeds.specs.Deeds.{Plain}
use Rattle.event_script.specs.Events.{Asked}

-- in what a module is written: Cajita; Valija, which is lowered to Cajita; or ECMAScript 3
pub data Language : Type 0 where
  cajita : Language
  valija : Language
  es3 : Language

-- its text runs as it stands, and is not cajoled
abbrev pub as_it_stands : Language → Bool
as_it_stands cajita = false
as_it_stands valija = false
as_it_stands es3 = true

-- what a module is granted
pub data Granted : Type 0 where
  the_cell : ℕ → Granted
  -- the result of a module
  the_result : ℕ → Granted
  the_plain : Plain → Granted
  -- the element of the document with this id, and what stands in it
  the_root : List ℕ → Granted

-- each grant under the name by which the module imports it
abbrev pub Grants : Type 0
Grants = List (List ℕ × Granted)

-- its name, the language and the bytes of its source, and what it is granted
pub record Module : Type 0 where
  pub name : List ℕ
  pub language : Language
  pub source : List ℕ
  pub grants : Grants

-- a sheet for what stands in an element, which has this id, and its bytes
pub record Style : Type 0 where
  pub root : List ℕ
  pub css : List ℕ

pub record Page : Type 0 where
  -- the table of its embedder's rule: which URLs may be named
  pub rule : List Row
  -- what URLs are joined to
  pub base : Option Parts
  -- the bytes of its document
  pub html : List ℕ
  pub styles : List Style
  -- their names
  pub cells : List (List ℕ)
  -- in the order in which they are loaded
  pub modules : List Module
  -- in the order in which they are done
  pub events : List Asked
