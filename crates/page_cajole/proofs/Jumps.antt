-- Each jump of what runs for a module has its target.
use Rattle.std.proofs.Common.{◌≡◌, ℕ, List, [], ◌∷◌, map, true, false, Option, Some, None, Ok, cond, refl, sym, ap, subst, ◌∙◌}
use Rattle.std.specs.Prelude.{nat_lt}
use Rattle.std.specs.List.{All, AllByRecursion}
use Rattle.std.proofs.lemmas.List.Elements.{All-from_recursion}
use Rattle.es3_tree.specs.Tree as t
use Rattle.es3_tree.specs.Placed as placed
use Rattle.es3_tree.specs.Placed.{Placed}
use Rattle.es3_grammar.specs.Plain.{plain}
use Rattle.es3_labels.specs.Around.{in_program}
use Rattle.es3_labels.specs.Misplaced.{Misplaced, misplaced, earlier, first, first_of}
use Rattle.cajita_rewrite.specs.Rewrite.{program_of}
use Rattle.cajoled_jumps.specs.Targets.{targeted}
use Rattle.cajoled_jumps.proofs.Places.{none_where_targeted}
use Rattle.cajoled_jumps.proofs.Source.{cajoled_jumps}
use Rattle.page_manifest.specs.Page.{Language, cajita, valija, es3, Module}
use Rattle.page_cajole.specs.declared.dialects.Dialect.{Dialect}
use Rattle.page_cajole.specs.declared.dialects.Dialect.TheVariants.{Cajita, Valija}
use Rattle.page_cajole.specs.Dialects.{fault_in, in_cajita, module_in}
use Rattle.page_cajole.specs.Source as s
use Rattle.page_cajole.specs.Source.{Source, source_of, source_limits, text_limits}
use Rattle.page_cajole.specs.Cajoled as c
use Rattle.page_cajole.specs.Cajoled.{Outcome, outcome_of, outcome}
use Rattle.page_cajole.specs.Text as x
use Rattle.page_cajole.specs.Text.{Text, by_labels, text_of, text_outcome}
use Rattle.page_cajole.specs.Pages.{Runnable, by_outcome, by_text, source_outcome, module_outcome, JumpsHaveTargets}
use Rattle.page_cajole.proofs.Spelled.{spelled_where_read}
use Rattle.page_cajole.proofs.Lowered.{unbroken_in}
use Rattle.page_cajole.proofs.Back.{stands_for}

-- ---- by the tree

pub where_targeted : (p : t.Tree t.program) → targeted in_program t.program p ≡ true → JumpsHaveTargets p
where_targeted p h q is = ap first ((none_where_targeted in_program t.program q).1 (ap (targeted in_program t.program) is ∙ h))

never : (m : Misplaced) (o : Option Misplaced) → earlier (Some m) o ≡ None → ⊥
never m None e = absurd cc
never m (Some n) e =
    let cases = elim (nat_lt n.at m.at) as (λ b. cond b (Some n) (Some m) ≡ None → ⊥) [
      | true ↦ λ h. absurd cc
      | false ↦ λ h. absurd cc
    ] in cases e

none_first : (ms : List Misplaced) → first ms ≡ None → ms ≡ []
none_first [] e = refl
none_first (m ∷ ms) e = absurd (never m (first ms) e)

-- what one program of the tree has, each has
by_one : (q : Placed t.program) → first_of q ≡ None → JumpsHaveTargets (plain t.program q)
by_one q e = where_targeted (plain t.program q) ((none_where_targeted in_program t.program q).0 (none_first (misplaced in_program t.program q) e))

-- ---- sources of a dialect

cajoled_read : (dialect : Dialect) (granted : List (List ℕ)) (source : List ℕ) (read : Source) (p : t.Tree t.program) → source_of source_limits source ≡ read → outcome_of dialect granted read ≡ c.cajoled p → JumpsHaveTargets p
cajoled_read dialect granted source (s.uncut number at) p is e = absurd cc
cajoled_read dialect granted source (s.unread number at) p is e = absurd cc
cajoled_read dialect granted source (s.spelled (placed.script body)) p is e =
    let j = stands_for (fault_in dialect granted body) (module_in dialect granted body) p e in
    let unbroken = unbroken_in granted source body (spelled_where_read source_limits source (placed.script body) is) dialect j.unbroken in
    subst JumpsHaveTargets (sym j.program) (where_targeted (program_of j.its_module) (cajoled_jumps granted (in_cajita dialect granted body) j.its_module unbroken j.found))

pub cajoled_has_targets : (dialect : Dialect) (granted : List (List ℕ)) (source : List ℕ) (p : t.Tree t.program) → outcome dialect granted source ≡ c.cajoled p → JumpsHaveTargets p
cajoled_has_targets dialect granted source p e = cajoled_read dialect granted source (source_of source_limits source) p refl e

-- ---- texts that run as they stand

labelled : (q : Placed t.program) (o : Option Misplaced) (p : t.Tree t.program) → first_of q ≡ o → by_labels o (plain t.program q) ≡ x.runs p → JumpsHaveTargets p
labelled q (Some m) p is e = absurd cc
labelled q None p is e = let same : plain t.program q ≡ p = cc in subst JumpsHaveTargets same (by_one q is)

text_read : (read : Source) (p : t.Tree t.program) → text_of read ≡ x.runs p → JumpsHaveTargets p
text_read (s.uncut number at) p e = absurd cc
text_read (s.unread number at) p e = absurd cc
text_read (s.spelled q) p e = labelled q (first_of q) p refl e

-- ---- pages

by_outcome_targets : (dialect : Dialect) (o : Outcome) (r : Runnable) → by_outcome dialect o ≡ Ok r → ((p : t.Tree t.program) → o ≡ c.cajoled p → JumpsHaveTargets p) → JumpsHaveTargets r.program
by_outcome_targets dialect (c.uncut number at) r e h = absurd cc
by_outcome_targets dialect (c.unread number at) r e h = absurd cc
by_outcome_targets dialect (c.broken number at) r e h = absurd cc
by_outcome_targets dialect (c.cajoled p) r e h = h r.program (cc)

by_text_targets : (source : List ℕ) (o : Text) (r : Runnable) → by_text source o ≡ Ok r → ((p : t.Tree t.program) → o ≡ x.runs p → JumpsHaveTargets p) → JumpsHaveTargets r.program
by_text_targets source (x.uncut number at) r e h = absurd cc
by_text_targets source (x.unread number at) r e h = absurd cc
by_text_targets source (x.misplaced at) r e h = absurd cc
by_text_targets source (x.runs p) r e h = h r.program (cc)

source_has_targets : (l : Language) (granted : List (List ℕ)) (source : List ℕ) (r : Runnable) → source_outcome l granted source ≡ Ok r → JumpsHaveTargets r.program
source_has_targets cajita granted source r e = by_outcome_targets Cajita (outcome Cajita granted source) r e (cajoled_has_targets Cajita granted source)
source_has_targets valija granted source r e = by_outcome_targets Valija (outcome Valija granted source) r e (cajoled_has_targets Valija granted source)
source_has_targets es3 granted source r e = by_text_targets source (text_outcome source) r e (text_read (source_of text_limits source))

each_has_targets : (ms : List Module) (rs : List Runnable) → map module_outcome ms ≡ map Ok rs → AllByRecursion (λ r. JumpsHaveTargets r.program) rs
each_has_targets [] [] e = tt
each_has_targets [] (r ∷ rs) e = absurd cc
each_has_targets (m ∷ ms) [] e = absurd cc
each_has_targets (m ∷ ms) (r ∷ rs) e =
    let front : module_outcome m ≡ Ok r = cc in
    let rest : map module_outcome ms ≡ map Ok rs = cc in
    (source_has_targets m.language _ m.source r front, each_has_targets ms rs rest)

pub page_has_targets : (ms : List Module) (rs : List Runnable) → map module_outcome ms ≡ map Ok rs → All (λ r. JumpsHaveTargets r.program) rs
page_has_targets ms rs e = All-from_recursion (λ r. JumpsHaveTargets r.program) rs (each_has_targets ms rs e)
