-- A text runs, or is refused, just where it is so.
use Rattle.std.proofs.Common.{◌≡◌, ℕ, List, Option, Some, None, refl, sym, ap, ◌∙◌}
use Rattle.es3_tree.specs.Tree as t
use Rattle.es3_tree.specs.Placed.{Placed}
use Rattle.es3_grammar.specs.Plain.{plain}
use Rattle.es3_labels.specs.Misplaced.{Misplaced, first_of}
use Rattle.page_cajole.specs.Source as s
use Rattle.page_cajole.specs.Source.{Source, Spells, source_of, text_limits}
use Rattle.page_cajole.specs.Text as x
use Rattle.page_cajole.specs.Text.{runs, misplaced, by_labels, text_of, text_outcome}
use Rattle.page_cajole.proofs.Spelled.{spelled_where_read, read_where_spelled, one_tree}
use Rattle.page_cajole.proofs.Refusals.{uncut_where, uncut_there, unread_where, unread_there}
use Rattle.page_meaning.specs.Texts.{Runs, IsMisplaced, IsText}

-- what a text comes to that spells a program
spelled_so : (source : List ℕ) (p : Placed t.program) → Spells text_limits source p → text_outcome source ≡ by_labels (first_of p) (plain t.program p)
spelled_so source p h = ap text_of (read_where_spelled text_limits source p h)

runs_where : (source : List ℕ) (p : t.Tree t.program) → Runs source p → text_outcome source ≡ runs p
runs_where source p r = spelled_so source r.tree r.spelled ∙ ap (λ m. by_labels m (plain t.program r.tree)) r.placed ∙ ap runs (sym r.program)

misplaced_where : (source : List ℕ) (at : ℕ) → IsMisplaced source at → text_outcome source ≡ misplaced at
misplaced_where source at r = spelled_so source r.tree r.spelled ∙ ap (λ m. by_labels m (plain t.program r.tree)) r.first ∙ ap misplaced (sym r.place)

-- what is judged to run, and what is judged to be misplaced

judged_runs : (source : List ℕ) (q : Placed t.program) (p : t.Tree t.program) (m : Option Misplaced) → Spells text_limits source q → first_of q ≡ m → by_labels m (plain t.program q) ≡ runs p → Runs source p
judged_runs source q p (Some m) h is e = absurd cc
judged_runs source q p None h is e = record { tree = q; spelled = h; placed = is; program = cc }

judged_misplaced : (source : List ℕ) (q : Placed t.program) (at : ℕ) (m : Option Misplaced) → Spells text_limits source q → first_of q ≡ m → by_labels m (plain t.program q) ≡ misplaced at → IsMisplaced source at
judged_misplaced source q at (Some m) h is e = record { tree = q; spelled = h; found = m; first = is; place = cc }
judged_misplaced source q at None h is e = absurd cc

runs_there : (source : List ℕ) (p : t.Tree t.program) (r : Source) → source_of text_limits source ≡ r → text_of r ≡ runs p → Runs source p
runs_there source p (s.uncut number at) is e = absurd cc
runs_there source p (s.unread number at) is e = absurd cc
runs_there source p (s.spelled q) is e = judged_runs source q p (first_of q) (spelled_where_read text_limits source q is) refl e

misplaced_there : (source : List ℕ) (at : ℕ) (r : Source) → source_of text_limits source ≡ r → text_of r ≡ misplaced at → IsMisplaced source at
misplaced_there source at (s.uncut number place) is e = absurd cc
misplaced_there source at (s.unread number place) is e = absurd cc
misplaced_there source at (s.spelled q) is e = judged_misplaced source q at (first_of q) (spelled_where_read text_limits source q is) refl e

-- what is judged is no refusal of an earlier stage
judged_refused : (m : Option Misplaced) (p : t.Tree t.program) (number at : ℕ) → (by_labels m p ≡ x.uncut number at → ⊥) × (by_labels m p ≡ x.unread number at → ⊥)
judged_refused None p number at = (λ e. cc, λ e. cc)
judged_refused (Some m) p number at = (λ e. cc, λ e. cc)

uncut_source : (r : Source) (number at : ℕ) → text_of r ≡ x.uncut number at → r ≡ s.uncut number at
uncut_source (s.uncut n i) number at e = cc
uncut_source (s.unread n i) number at e = absurd cc
uncut_source (s.spelled q) number at e = absurd ((judged_refused (first_of q) (plain t.program q) number at).0 e)

unread_source : (r : Source) (number at : ℕ) → text_of r ≡ x.unread number at → r ≡ s.unread number at
unread_source (s.uncut n i) number at e = absurd cc
unread_source (s.unread n i) number at e = cc
unread_source (s.spelled q) number at e = absurd ((judged_refused (first_of q) (plain t.program q) number at).1 e)

pub is_text : (source : List ℕ) → IsText source
is_text source = record {
  one = one_tree text_limits source;
  where_runs = λ p. (λ e. runs_there source p (source_of text_limits source) refl e, λ h. runs_where source p h);
  where_misplaced = λ at. (λ e. misplaced_there source at (source_of text_limits source) refl e, λ h. misplaced_where source at h);
  where_uncut = λ number at. (λ e. uncut_there text_limits source number at (uncut_source (source_of text_limits source) number at e), λ h. ap text_of (uncut_where text_limits source number at h));
  where_unread = λ number at. (λ e. unread_there text_limits source number at (unread_source (source_of text_limits source) number at e), λ h. ap text_of (unread_where text_limits source number at h));
}
