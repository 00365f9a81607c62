-- The deeds of a page, as plain data, and what is asked of them.
use Rattle.std.specs.Prelude.{◌≡◌, ℕ, ◌<◌, false, List, [], ◌∷◌, ◌++◌, All, map}
use Rattle.std.specs.List.{list_any}
use Rattle.page_deeds.specs.Deeds as deed
use Rattle.caja_units.specs.Units.{same_units}
use Rattle.host_rules.specs.Plain.{plain}
use Rattle.es3_tree.specs.View.{program}
use Rattle.heap_rows.specs.Opening.{fixed_values}
use Rattle.page_runner.specs.Page.{Deed as PlainDeed}
use Rattle.page_runner.specs.declared.deeds.Grant.{Grant}
use Rattle.page_runner.specs.declared.deeds.Grant.TheVariants.{Cell, Module, Value, Root}
use Rattle.page_runner.specs.declared.deeds.Deed.{Deed}
use Rattle.page_runner.specs.declared.deeds.Deed.TheVariants.{Load, Call, Tick, Click, Input}

abbrev pub grant_of : Grant → deed.Grant
grant_of (Cell c) = deed.a_cell c
grant_of (Module m) = deed.a_result m
grant_of (Value p) = deed.a_plain (plain p)
grant_of (Root r) = deed.a_root r

abbrev pub grants_of : List (List ℕ × Grant) → deed.Grants
grants_of gs = map (λ g. (g.0, grant_of g.1)) gs

abbrev pub deed_of : Deed → PlainDeed
deed_of (Load m p gs) = deed.to_load m (program p) (grants_of gs.items)
deed_of (Call k m key args) = deed.to_call k m key (map plain args.items)
deed_of (Tick k m) = deed.to_tick k m
deed_of (Click k id root n) = deed.to_click k id root n
deed_of (Input k id root n us) = deed.to_input k id root n us

abbrev pub deeds_of : List Deed → List PlainDeed
deeds_of ds = map deed_of ds

-- a page has 64 cells at most
abbrev pub GrantFits : Grant → Type 0
GrantFits (Cell c) = c < 64
GrantFits g = Unit {0}

-- no name stands twice among these, nor among them and those before them
abbrev pub AreApart : List (List ℕ) → List (List ℕ) → Type 0
AreApart before [] = Unit {0}
AreApart before (k ∷ ks) = (list_any (same_units k) before ≡ false) × AreApart (before ++ k ∷ []) ks

abbrev pub fixed_names : List (List ℕ)
fixed_names = map (λ p. p.0) (fixed_values 0)

-- no name that is granted stands twice, or is a fixed one
abbrev pub GrantsFit : List (List ℕ × Grant) → Type 0
GrantsFit gs = All (λ g. GrantFits g.1) gs × AreApart fixed_names (map (λ g. g.0) gs)

-- among so many modules
abbrev pub DeedFits : ℕ → Deed → Type 0
DeedFits modules (Load m p gs) = (m < modules) × GrantsFit gs.items
DeedFits modules (Call k m key args) = m < modules
DeedFits modules (Tick k m) = m < modules
DeedFits modules (Click k id root n) = Unit {0}
DeedFits modules (Input k id root n us) = Unit {0}
