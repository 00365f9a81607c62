-- Which manifest a `Manifest` is.
use Rattle.std.specs.Prelude.{ℕ, List, map}
use Rattle.host_rules.specs.Plain.{plain}
use Rattle.page_manifest.specs.Named as n
use Rattle.page_manifest.specs.View.{language, style}
use Rattle.page_manifest.specs.declared.named.Wish.{Wish}
use Rattle.page_manifest.specs.declared.named.Wish.TheVariants.{Root, Cell, Module, Value}
use Rattle.page_manifest.specs.declared.named.Told.{Told}
use Rattle.page_manifest.specs.declared.named.Plan.{Plan}
use Rattle.page_manifest.specs.declared.named.Plan.TheVariants.{Call, Click, Input, Tick}
use Rattle.page_manifest.specs.declared.named.Manifest.{Manifest}

abbrev pub wish : Wish → n.Wish
wish (Root id) = n.for_root id
wish (Cell c) = n.for_cell c
wish (Module m) = n.for_module m
wish (Value v) = n.for_plain (plain v)

abbrev pub named_wish : List ℕ × Wish → List ℕ × n.Wish
named_wish w = (w.0, wish w.1)

abbrev pub told : Told → n.Told
told m = record { name = m.name; language = language m.lang; source = m.source.items; wishes = map named_wish m.wishes.items }

abbrev pub plan : Plan → n.Plan
plan (Call m key vs) = n.for_call m key (map plain vs.items)
plan (Click id) = n.for_click id
plan (Input id us) = n.for_input id us
plan (Tick m) = n.for_tick m

abbrev pub manifest : Manifest → n.Manifest
manifest p = record { html = p.html.items; base = p.base; styles = map style p.styles.items; cells = p.cells.items; modules = map told p.modules.items; events = map plan p.events.items }
