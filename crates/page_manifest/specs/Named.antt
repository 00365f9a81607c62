-- A page as its manifest tells of it: cells and modules are known by their names, and elements of its document by their ids.
use Rattle.std.specs.Prelude.{ℕ, List, Option}
use Rattle.url.specs.Parts.{Parts}
use Rattle.page_deeds.specs.Deeds.{Plain}
use Rattle.page_manifest.specs.Page.{Language, Style}

pub data Wish : Type 0 where
  -- an element of the document, a cell, the result of a module, a plain value
  for_root : List ℕ → Wish
  for_cell : List ℕ → Wish
  for_module : List ℕ → Wish
  for_plain : Plain → Wish

-- each grant under the name by which the module imports it
abbrev pub Wishes : Type 0
Wishes = List (List ℕ × Wish)

pub record Told : Type 0 where
  pub name : List ℕ
  pub language : Language
  pub source : List ℕ
  pub wishes : Wishes

pub data Plan : Type 0 where
  -- the module, the key and the arguments
  for_call : List ℕ → List ℕ → List Plain → Plan
  -- the id
  for_click : List ℕ → Plan
  -- the id and the text
  for_input : List ℕ → List ℕ → Plan
  for_tick : List ℕ → Plan

pub record Manifest : Type 0 where
  -- the bytes of its document
  pub html : List ℕ
  -- what URLs are joined to
  pub base : Option Parts
  pub styles : List Style
  pub cells : List (List ℕ)
  pub modules : List Told
  pub events : List Plan
