-- What becomes of a source of a dialect that is granted names: which module it spells, or what refuses it.
use Rattle.std.specs.Prelude.{◌≡◌, ◌↔◌, ℕ, List, Some, None}
use Rattle.es3_tree.specs.Tree as t
use Rattle.es3_tree.specs.Placed.{Placed}
use Rattle.cajita_tree.specs.Tree as c
use Rattle.cajita_rules.specs.Faults.{Fault}
use Rattle.cajita_rewrite.specs.Rewrite.{program_of}
use Rattle.page_manifest.specs.Page.{Language, cajita, valija, es3}
use Rattle.page_cajole.specs.declared.dialects.Dialect.{Dialect}
use Rattle.page_cajole.specs.declared.dialects.Dialect.TheVariants.{Cajita, Valija}
use Rattle.page_cajole.specs.Dialects.{fault_in, module_in}
use Rattle.page_cajole.specs.Source.{Spells, source_limits}
use Rattle.page_cajole.specs.Refused.{IsUncut, IsUnread}
use Rattle.page_cajole.specs.Cajoled.{statements, outcome, uncut, unread, broken, cajoled}

-- what is said of the dialect of a language; a text that runs as it stands has none
abbrev pub InDialect : Language → (Dialect → Type 0) → Type 0
InDialect cajita Says = Says Cajita
InDialect valija Says = Says Valija
InDialect es3 Says = ⊥

-- the source spells a program of the dialect, whose module is this one where these names are granted
pub record SpellsModule (dialect : Dialect) (granted : List (List ℕ)) (source : List ℕ) (m : c.Tree c.program) : Type 0 where
  pub tree : Placed t.program
  pub spelled : Spells source_limits source tree
  pub resolved : module_in dialect granted (statements tree) ≡ Some m

-- the source spells a module that breaks no rule, and the program stands for it
pub data IsCajoled (dialect : Dialect) (granted : List (List ℕ)) (source : List ℕ) : t.Tree t.program → Type 0 where
  accepted : (p : Placed t.program) (m : c.Tree c.program) → Spells source_limits source p → fault_in dialect granted (statements p) ≡ None
      → module_in dialect granted (statements p) ≡ Some m → IsCajoled dialect granted source (program_of m)

-- a rule refuses the module that the source spells: the number and the byte of the first fault
pub data IsBroken (dialect : Dialect) (granted : List (List ℕ)) (source : List ℕ) : ℕ → ℕ → Type 0 where
  faulty : (p : Placed t.program) (f : Fault) → Spells source_limits source p → fault_in dialect granted (statements p) ≡ Some f → IsBroken dialect granted source f.rule f.at

-- a source spells one program at most; it is cajoled just where that is a module which breaks no rule; and it is refused just where it spells no program, or one that a rule
-- refuses, with the number and the byte of what refuses it
pub record IsSource (dialect : Dialect) (granted : List (List ℕ)) (source : List ℕ) : Type 0 where
  pub one : (p q : Placed t.program) → Spells source_limits source p → Spells source_limits source q → p ≡ q
  pub where_cajoled : (p : t.Tree t.program) → (outcome dialect granted source ≡ cajoled p) ↔ IsCajoled dialect granted source p
  pub where_broken : (number at : ℕ) → (outcome dialect granted source ≡ broken number at) ↔ IsBroken dialect granted source number at
  pub where_uncut : (number at : ℕ) → (outcome dialect granted source ≡ uncut number at) ↔ IsUncut source_limits source number at
  pub where_unread : (number at : ℕ) → (outcome dialect granted source ≡ unread number at) ↔ IsUnread source_limits source number at
