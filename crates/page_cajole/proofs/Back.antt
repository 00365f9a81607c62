-- The text of a cajoled source is read back as its program.
use Rattle.std.proofs.Common.{◌≡◌, ◌≤◌, ◌*◌, ℕ, List, length, Option, Some, None, refl, sym, subst, arith}
use Rattle.es3_tree.specs.Tree as t
use Rattle.es3_tree.specs.Placed as placed
use Rattle.es3_tree.specs.Placed.{Placed}
use Rattle.es3_printed.specs.Back.{IsSpelled, IsReadBack}
use Rattle.es3_printed.proofs.ReadBack.{read_back}
use Rattle.cajita_tree.specs.Tree as c
use Rattle.cajita_rules.specs.Faults.{Fault}
use Rattle.cajita_rewrite.specs.Rewrite.{program_of}
use Rattle.source_sizes.specs.Sizes.{temps_everywhere}
use Rattle.source_sizes.proofs.Sizes.{three_a_token}
use Rattle.cajoled_text.proofs.Rewritten.{rewritten_is_spelled}
use Rattle.page_cajole.specs.Source as s
use Rattle.page_cajole.specs.Source.{Source, Spells, source_of, source_limits}
use Rattle.page_cajole.specs.Cajoled.{cajoled, judged, outcome_of, outcome}
use Rattle.page_cajole.specs.declared.dialects.Dialect.{Dialect}
use Rattle.page_cajole.specs.Dialects.{fault_in, in_cajita, module_in}
use Rattle.page_cajole.proofs.Spelled.{spelled_where_read}
use Rattle.page_cajole.proofs.Lowered.{written_in}

-- what was judged to be a program: no rule is broken, and there is a module, for which it stands
pub record StandsFor (fault : Option Fault) (m : Option (c.Tree c.program)) (p : t.Tree t.program) : Type 0 where
  pub unbroken : fault ≡ None
  pub its_module : c.Tree c.program
  pub found : m ≡ Some its_module
  pub program : p ≡ program_of its_module

pub stands_for : (fault : Option Fault) (m : Option (c.Tree c.program)) (p : t.Tree t.program) → judged fault m ≡ cajoled p → StandsFor fault m p
stands_for (Some f) m p e = absurd cc
stands_for None None p e = absurd cc
stands_for None (Some x) p e = record { unbroken = refl; its_module = x; found = refl; program = cc }

read_is_back : (dialect : Dialect) (granted : List (List ℕ)) (source : List ℕ) (read : Source) (p : t.Tree t.program) → source_of source_limits source ≡ read → outcome_of dialect granted read ≡ cajoled p → IsReadBack p
read_is_back dialect granted source (s.uncut number at) p is e = absurd cc
read_is_back dialect granted source (s.unread number at) p is e = absurd cc
read_is_back dialect granted source (s.spelled (placed.script body)) p is e =
    let j = stands_for (fault_in dialect granted body) (module_in dialect granted body) p e in
    let h : Spells source_limits source (placed.script body) = spelled_where_read source_limits source (placed.script body) is in
    let whole = in_cajita dialect granted body in
    let w = written_in granted source body h dialect in
    let few : temps_everywhere j.its_module ≤ 3 * length w.by = three_a_token w.by (placed.script whole) granted j.its_module w.spelled j.found in
    let spelled : IsSpelled (program_of j.its_module) = rewritten_is_spelled granted whole w.by j.its_module w.spelled w.tokens j.found (omega (arith, few, w.few)) in
    subst IsReadBack (sym j.program) (read_back (program_of j.its_module) spelled)

pub cajoled_back : (dialect : Dialect) (granted : List (List ℕ)) (source : List ℕ) (p : t.Tree t.program) → outcome dialect granted source ≡ cajoled p → IsReadBack p
cajoled_back dialect granted source p e = read_is_back dialect granted source (source_of source_limits source) p refl e
