-- What a source is formatted to.
use Rattle.std.proofs.Common.{◌≡◌, ℕ, List, refl, sym, ap, subst}
use Rattle.std.specs.Prelude.{IsTrue}
use Rattle.es3_tree.specs.Tree as t
use Rattle.es3_tree.specs.Placed.{Placed}
use Rattle.es3_grammar.specs.Plain.{plain}
use Rattle.es3_printed.specs.Tokens.{printed}
use Rattle.es3_printed.specs.Safe.{is_safe}
use Rattle.es3_printed.specs.Back.{IsSpelled}
use Rattle.es3_printed.proofs.ReadBack.{read_back, safe_where_spelled, spelled_where_read}
use Rattle.page_cajole.specs.Source as s
use Rattle.page_cajole.specs.Source.{Source, Spells, source_of, source_limits}
use Rattle.page_cajole.specs.Formatted.{uncut, unread, text, text_of, formatted, IsFormatted}
use Rattle.page_cajole.proofs.Spelled as spelled
use Rattle.page_cajole.proofs.Refusals.{uncut_where, uncut_there, unread_where, unread_there}

spelled_tree : (source : List ℕ) (p : Placed t.program) → Spells source_limits source p → IsSpelled (plain t.program p)
spelled_tree source p h = spelled_where_read source_limits.longest source h.spelled_by p h.cut h.within.spelled

-- a text is that of a program
abbrev IsTextOf : List ℕ → List ℕ → Type 0
IsTextOf source w = (p : Placed t.program) × Spells source_limits source p × (w ≡ printed (plain t.program p))

text_spelled : (source w : List ℕ) (r : Source) → source_of source_limits source ≡ r → text_of r ≡ text w → IsTextOf source w
text_spelled source w (s.uncut number at) is e = absurd cc
text_spelled source w (s.unread number at) is e = absurd cc
text_spelled source w (s.spelled p) is e = (p, spelled.spelled_where_read source_limits source p is, cc)

text_of_spelled : (source w : List ℕ) → formatted source ≡ text w → IsTextOf source w
text_of_spelled source w e = text_spelled source w (source_of source_limits source) refl e

safe_text : (source w : List ℕ) → formatted source ≡ text w → IsTrue (is_safe w)
safe_text source w e =
    let found = text_of_spelled source w e in
    subst (λ z. IsTrue (is_safe z)) (sym found.2) (safe_where_spelled (plain t.program found.0) (spelled_tree source found.0 found.1))

-- what is refused is a source that is refused
uncut_source : (r : Source) (number at : ℕ) → text_of r ≡ uncut number at → r ≡ s.uncut number at
uncut_source (s.uncut n i) number at e = cc
uncut_source (s.unread n i) number at e = absurd cc
uncut_source (s.spelled p) number at e = absurd cc

unread_source : (r : Source) (number at : ℕ) → text_of r ≡ unread number at → r ≡ s.unread number at
unread_source (s.uncut n i) number at e = absurd cc
unread_source (s.unread n i) number at e = cc
unread_source (s.spelled p) number at e = absurd cc

pub is_formatted : (source : List ℕ) → IsFormatted source
is_formatted source = record {
  one = spelled.one_tree source_limits source;
  where_spelled = λ p h. ap text_of (spelled.read_where_spelled source_limits source p h);
  spelled = text_of_spelled source;
  back = λ p h. read_back (plain t.program p) (spelled_tree source p h);
  safe = safe_text source;
  where_uncut = λ number at. (λ e. uncut_there source_limits source number at (uncut_source (source_of source_limits source) number at e), λ h. ap text_of (uncut_where source_limits source number at h));
  where_unread = λ number at. (λ e. unread_there source_limits source number at (unread_source (source_of source_limits source) number at e), λ h. ap text_of (unread_where source_limits source number at h));
}
