-- A source that is granted names becomes what it is, just where it is so.
use Rattle.std.proofs.Common.{◌≡◌, ◌≤◌, ◌*◌, ℕ, List, length, Option, Some, None, All, refl, sym, ap, subst, ◌∙◌, arith}
use Rattle.std.specs.Prelude.{IsTrue}
use Rattle.es3_tree.specs.Tree as t
use Rattle.es3_tree.specs.Placed.{Placed}
use Rattle.es3_tree.specs.Placed as placed
use Rattle.es3_printed.specs.Back.{IsSpelled, IsReadBack}
use Rattle.es3_printed.proofs.ReadBack.{read_back}
use Rattle.cajita_tree.specs.Tree as c
use Rattle.cajita_rules.specs.Faults.{Fault, faults}
use Rattle.scope_rules.proofs.Checked.{has_module}
use Rattle.cajita_rewrite.specs.Rewrite.{program_of}
use Rattle.source_sizes.specs.Sizes.{temps_everywhere}
use Rattle.source_sizes.proofs.Sizes.{three_a_token}
use Rattle.cajoled_text.proofs.Rewritten.{rewritten_is_spelled}
use Rattle.page_cajole.specs.declared.dialects.Dialect.{Dialect}
use Rattle.page_cajole.specs.Dialects.{fault_in, in_cajita, module_in}
use Rattle.page_cajole.specs.Source as s
use Rattle.page_cajole.specs.Source.{Source, Spells, source_of, source_limits}
use Rattle.page_cajole.specs.Cajoled.{uncut, unread, broken, cajoled, judged, statements, outcome_of, outcome}
use Rattle.page_cajole.proofs.Spelled as source
use Rattle.page_cajole.proofs.Lowered.{written_in, unbroken_in}
use Rattle.page_cajole.proofs.Refusals.{uncut_where, uncut_there, unread_where, unread_there}
use Rattle.manifest_names.specs.Names.{is_grant_name}
use Rattle.cajita_simulation.specs.Guest.{GuestModule}
use Rattle.accepted_modules.proofs.Accepted.{guest_of, first_none}
use Rattle.accepted_modules.proofs.Granted.{granted_guests}
use Rattle.page_meaning.specs.Sources.{SpellsModule, IsCajoled, accepted, IsBroken, faulty, IsSource}

-- what was judged to be a program: there is no fault, and a module
record IsJudged (fault : Option Fault) (m : Option (c.Tree c.program)) (p : t.Tree t.program) : Type 0 where
  clean : fault ≡ None
  its_module : c.Tree c.program
  found : m ≡ Some its_module
  program : p ≡ program_of its_module

judged_program : (fault : Option Fault) (m : Option (c.Tree c.program)) (p : t.Tree t.program) → judged fault m ≡ cajoled p → IsJudged fault m p
judged_program (Some f) m p e = absurd cc
judged_program None None p e = absurd cc
judged_program None (Some x) p e = record { clean = refl; its_module = x; found = refl; program = cc }

-- what is known of a source that was cajoled: the module that it spells, for which the program stands; what is written of that is read as that very program; and the module breaks no rule
pub record Accepted (dialect : Dialect) (granted : List (List ℕ)) (input : List ℕ) (p : t.Tree t.program) : Type 0 where
  pub its_module : c.Tree c.program
  pub spelled : SpellsModule dialect granted input its_module
  pub program : p ≡ program_of its_module
  pub back : IsReadBack (program_of its_module)
  pub guest : GuestModule its_module

read_means : (dialect : Dialect) (granted : List (List ℕ)) → All (λ k. IsTrue (is_grant_name k)) granted → (input : List ℕ) (read : Source) (p : t.Tree t.program) → source_of source_limits input ≡ read
    → outcome_of dialect granted read ≡ cajoled p → Accepted dialect granted input p
read_means dialect granted names input (s.uncut number at) p is e = absurd cc
read_means dialect granted names input (s.unread number at) p is e = absurd cc
read_means dialect granted names input (s.spelled (placed.script body)) p is e =
    let j = judged_program (fault_in dialect granted body) (module_in dialect granted body) p e in
    let h : Spells source_limits input (placed.script body) = source.spelled_where_read source_limits input (placed.script body) is in
    let whole = in_cajita dialect granted body in
    let w = written_in granted input body h dialect in
    let few : temps_everywhere j.its_module ≤ 3 * length w.by = three_a_token w.by (placed.script whole) granted j.its_module w.spelled j.found in
    let text : IsSpelled (program_of j.its_module) = rewritten_is_spelled granted whole w.by j.its_module w.spelled w.tokens j.found (omega (arith, few, w.few)) in
    record {
      its_module = j.its_module;
      spelled = record { tree = placed.script body; spelled = h; resolved = j.found };
      program = j.program;
      back = read_back (program_of j.its_module) text;
      guest = guest_of granted (granted_guests granted names) whole w.by j.its_module w.spelled (unbroken_in granted input body h dialect j.clean) j.found (omega (arith, few, w.few));
    }

pub accepted_source : (dialect : Dialect) (granted : List (List ℕ)) → All (λ k. IsTrue (is_grant_name k)) granted → (input : List ℕ) (p : t.Tree t.program) → outcome dialect granted input ≡ cajoled p → Accepted dialect granted input p
accepted_source dialect granted names input p e = read_means dialect granted names input (source_of source_limits input) p refl e

-- ---- each answer comes just where it is so

module _ (dialect : Dialect) (granted : List (List ℕ)) where
  -- what is judged where the input spells a program
  of_spelled : (input : List ℕ) (p : Placed t.program) → Spells source_limits input p → outcome dialect granted input ≡ judged (fault_in dialect granted (statements p)) (module_in dialect granted (statements p))
  of_spelled input p h = ap (outcome_of dialect granted) (source.read_where_spelled source_limits input p h)

  cajoled_where : (input : List ℕ) (p : t.Tree t.program) → IsCajoled dialect granted input p → outcome dialect granted input ≡ cajoled p
  cajoled_where input _ (accepted p m h clean is) = of_spelled input p h ∙ ap (λ f. judged f (module_in dialect granted (statements p))) clean ∙ ap (judged None) is

  cajoled_so : (input : List ℕ) (read : Source) (p : t.Tree t.program) → source_of source_limits input ≡ read → outcome_of dialect granted read ≡ cajoled p → IsCajoled dialect granted input p
  cajoled_so input (s.uncut number at) p is e = absurd cc
  cajoled_so input (s.unread number at) p is e = absurd cc
  cajoled_so input (s.spelled q) p is e =
      let j = judged_program (fault_in dialect granted (statements q)) (module_in dialect granted (statements q)) p e in
      subst (IsCajoled dialect granted input) (sym j.program) (accepted q j.its_module (source.spelled_where_read source_limits input q is) j.clean j.found)

  broken_where : (input : List ℕ) (number at : ℕ) → IsBroken dialect granted input number at → outcome dialect granted input ≡ broken number at
  broken_where input _ _ (faulty p f h is) = of_spelled input p h ∙ ap (λ q. judged q (module_in dialect granted (statements p))) is

  same_fault : (input : List ℕ) (n i number at : ℕ) → broken n i ≡ broken number at → IsBroken dialect granted input n i → IsBroken dialect granted input number at
  same_fault input n i number at e h =
      let of_number : n ≡ number = cc in
      let of_place : i ≡ at = cc in
      subst (λ m. IsBroken dialect granted input m at) of_number (subst (IsBroken dialect granted input n) of_place h)

  broken_judged : (input : List ℕ) (p : Placed t.program) (number at : ℕ) → Spells source_limits input p → (q : Option Fault) → fault_in dialect granted (statements p) ≡ q
      → (m : Option (c.Tree c.program)) → module_in dialect granted (statements p) ≡ m → judged q m ≡ broken number at → IsBroken dialect granted input number at
  broken_judged input p number at h (Some f) is m found e = same_fault input f.rule f.at number at e (faulty p f h is)
  broken_judged input (placed.script body) number at h None is None found e =
      let whole = in_cajita dialect granted body in
      let m = has_module granted whole (first_none (faults granted whole) (unbroken_in granted input body h dialect is)) in
      let both : None ≡ Some m.0 = sym found ∙ m.1 in
      absurd cc
  broken_judged input p number at h None is (Some x) found e = absurd cc

  broken_so : (input : List ℕ) (read : Source) (number at : ℕ) → source_of source_limits input ≡ read → outcome_of dialect granted read ≡ broken number at → IsBroken dialect granted input number at
  broken_so input (s.uncut n i) number at is e = absurd cc
  broken_so input (s.unread n i) number at is e = absurd cc
  broken_so input (s.spelled q) number at is e =
      broken_judged input q number at (source.spelled_where_read source_limits input q is) (fault_in dialect granted (statements q)) refl (module_in dialect granted (statements q)) refl e

  -- what a rule judges is no refusal of an earlier stage
  judged_refused : (f : Option Fault) (m : Option (c.Tree c.program)) (number at : ℕ) → (judged f m ≡ uncut number at → ⊥) × (judged f m ≡ unread number at → ⊥)
  judged_refused (Some f) m number at = (λ e. cc, λ e. cc)
  judged_refused None None number at = (λ e. cc, λ e. cc)
  judged_refused None (Some x) number at = (λ e. cc, λ e. cc)

  uncut_source : (r : Source) (number at : ℕ) → outcome_of dialect granted r ≡ uncut number at → r ≡ s.uncut number at
  uncut_source (s.uncut n i) number at e = cc
  uncut_source (s.unread n i) number at e = absurd cc
  uncut_source (s.spelled q) number at e = absurd ((judged_refused (fault_in dialect granted (statements q)) (module_in dialect granted (statements q)) number at).0 e)

  unread_source : (r : Source) (number at : ℕ) → outcome_of dialect granted r ≡ unread number at → r ≡ s.unread number at
  unread_source (s.uncut n i) number at e = absurd cc
  unread_source (s.unread n i) number at e = cc
  unread_source (s.spelled q) number at e = absurd ((judged_refused (fault_in dialect granted (statements q)) (module_in dialect granted (statements q)) number at).1 e)

  pub is_source : (input : List ℕ) → IsSource dialect granted input
  is_source input = record {
    one = source.one_tree source_limits input;
    where_cajoled = λ p. (λ e. cajoled_so input (source_of source_limits input) p refl e, λ h. cajoled_where input p h);
    where_broken = λ number at. (λ e. broken_so input (source_of source_limits input) number at refl e, λ h. broken_where input number at h);
    where_uncut = λ number at. (λ e. uncut_there source_limits input number at (uncut_source (source_of source_limits input) number at e), λ h. ap (outcome_of dialect granted) (uncut_where source_limits input number at h));
    where_unread = λ number at. (λ e. unread_there source_limits input number at (unread_source (source_of source_limits input) number at e), λ h. ap (outcome_of dialect granted) (unread_where source_limits input number at h));
  }
