-- What becomes of the modules of a page: what runs for each, or the first of them, in listed order, that a stage refuses.
use Rattle.std.specs.Prelude.{◌≡◌, ◌↔◌, ◌<◌, ℕ, ◌+◌, List, [], ◌∷◌, map, Result, Ok, Err, Some, None, IsOk, slice_get, codes}
use Rattle.std.specs.List.{All}
use Rattle.es3_tree.specs.Tree as t
use Rattle.es3_tree.specs.Placed.{Placed}
use Rattle.es3_grammar.specs.Plain.{plain}
use Rattle.es3_labels.specs.Misplaced.{first_of}
use Rattle.es3_printed.specs.Tokens.{printed}
use Rattle.page_manifest.specs.Page.{Language, cajita, valija, es3, Module, Page}
use Rattle.page_cajole.specs.declared.dialects.Dialect.{Dialect}
use Rattle.page_cajole.specs.declared.dialects.Dialect.TheVariants.{Cajita, Valija}
use Rattle.page_cajole.specs.Dialects.{rule_stage}
use Rattle.page_cajole.specs.Cajoled as c
use Rattle.page_cajole.specs.Cajoled.{Outcome, outcome}
use Rattle.page_cajole.specs.Text as x
use Rattle.page_cajole.specs.Text.{Text, text_outcome}

-- the stage, the number of the refusal there, and the byte of the source
pub record Refusal : Type 0 where
  pub stage : List ℕ
  pub number : ℕ
  pub at : ℕ

abbrev pub at_stage : List ℕ → ℕ → ℕ → Refusal
at_stage stage number at = record { stage = stage; number = number; at = at }

-- what runs for a module: the bytes of its text, and the program that they spell
pub record Runnable : Type 0 where
  pub text : List ℕ
  pub program : t.Tree t.program

-- a source of a dialect
abbrev pub by_outcome : Dialect → Outcome → Result Runnable Refusal
by_outcome dialect (c.uncut number at) = Err (at_stage (codes "lex") number at)
by_outcome dialect (c.unread number at) = Err (at_stage (codes "read") number at)
by_outcome dialect (c.broken number at) = Err (at_stage (rule_stage dialect) number at)
by_outcome dialect (c.cajoled p) = Ok (record { text = printed p; program = p })

abbrev pub cajoled_outcome : Dialect → List (List ℕ) → List ℕ → Result Runnable Refusal
cajoled_outcome dialect granted source = by_outcome dialect (outcome dialect granted source)

-- a text that runs as it stands
abbrev pub by_text : List ℕ → Text → Result Runnable Refusal
by_text source (x.uncut number at) = Err (at_stage (codes "lex") number at)
by_text source (x.unread number at) = Err (at_stage (codes "read") number at)
by_text source (x.misplaced at) = Err (at_stage (codes "label") 1 at)
by_text source (x.runs p) = Ok (record { text = source; program = p })

-- with the names that are granted
abbrev pub source_outcome : Language → List (List ℕ) → List ℕ → Result Runnable Refusal
source_outcome cajita granted source = cajoled_outcome Cajita granted source
source_outcome valija granted source = cajoled_outcome Valija granted source
source_outcome es3 granted source = by_text source (text_outcome source)

abbrev pub granted_names : Module → List (List ℕ)
granted_names m = map (λ g. g.0) m.grants

abbrev pub module_outcome : Module → Result Runnable Refusal
module_outcome m = source_outcome m.language (granted_names m) m.source

-- one after another: the first refusal stays
abbrev pub chain : {A B E : Type 0} → Result A E → (A → Result B E) → Result B E
chain (Ok a) next = next a
chain (Err r) next = Err r

-- with the number of the module
abbrev pub numbered : {A : Type 0} → ℕ → Result A Refusal → Result A (ℕ × Refusal)
numbered i (Ok a) = Ok a
numbered i (Err r) = Err (i, r)

-- each in turn, from module i on
abbrev pub each : ℕ → List Module → Result (List Runnable) (ℕ × Refusal)
each i [] = Ok []
each i (m ∷ ms) = chain (numbered i (module_outcome m)) (λ r. chain (each (i + 1) ms) (λ rs. Ok (r ∷ rs)))

abbrev pub page_outcome : Page → Result (List Runnable) (ℕ × Refusal)
page_outcome p = each 0 p.modules

-- the module at place i is refused, and none before it
pub record IsFirstRefused (ms : List Module) (i : ℕ) (r : Refusal) : Type 0 where
  pub its_module : Module
  pub there : slice_get ms i ≡ Some its_module
  pub refused : module_outcome its_module ≡ Err r
  pub before : (k : ℕ) (m : Module) → k < i → slice_get ms k ≡ Some m → IsOk (module_outcome m)

-- wherever its parts stand in a text, each jump of the program has its target, and no label stands within a statement of the same label (ES3 12.7 to 12.9, 12.12)
abbrev pub JumpsHaveTargets : t.Tree t.program → Type 0
JumpsHaveTargets p = (q : Placed t.program) → plain t.program q ≡ p → first_of q ≡ None

-- what runs for a page is what runs for each of its modules, and that goes by the module's own language, source and granted names alone; and a page is refused
-- just where a module is, with the number of the first such module and what refuses it; and each jump of what runs has its target
pub record IsCajoledPage (p : Page) : Type 0 where
  pub where_accepted : (rs : List Runnable) → (page_outcome p ≡ Ok rs) ↔ (map module_outcome p.modules ≡ map Ok rs)
  pub where_refused : (i : ℕ) (r : Refusal) → (page_outcome p ≡ Err (i, r)) ↔ IsFirstRefused p.modules i r
  pub alone : (m n : Module) → m.language ≡ n.language → m.source ≡ n.source → granted_names m ≡ granted_names n → module_outcome m ≡ module_outcome n
  pub jumps : (rs : List Runnable) → page_outcome p ≡ Ok rs → All (λ r. JumpsHaveTargets r.program) rs
