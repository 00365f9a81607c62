-- The text of a cajoled source runs as it stands; and `labels` finds nothing in what runs for a page.
use Rattle.std.proofs.Common.{◌≡◌, ◌≤◌, ℕ, false, List, [], ◌∷◌, map, length, None, Ok, refl, sym, ap, subst, ◌∙◌}
use Rattle.std.specs.List.{All, AllByRecursion}
use Rattle.std.proofs.lemmas.List.Elements.{All-from_recursion, recursion_from_All}
use Rattle.es3_tree.specs.Tree as t
use Rattle.es3_tree.specs.Measure.{nest}
use Rattle.es3_tree.specs.Placed as placed
use Rattle.es3_tree.specs.PlacedView as with_places
use Rattle.es3_grammar.specs.Plain.{plain}
use Rattle.es3_grammar.proofs.Unplaced.{program_plain}
use Rattle.es3_labels.specs.Misplaced.{first_of}
use Rattle.es3_printed.specs.Tokens.{printed}
use Rattle.page_cajole.specs.declared.dialects.Dialect.{Dialect}
use Rattle.page_cajole.specs.declared.dialects.Dialect.TheVariants.{Cajita, Valija}
use Rattle.page_cajole.specs.Dialects.{fault_in, module_in}
use Rattle.page_cajole.specs.Source as s
use Rattle.page_cajole.specs.Source.{Source, source_of, source_limits, text_limits, of_cut, of_tokens}
use Rattle.page_cajole.specs.Cajoled.{Outcome, uncut, unread, broken, cajoled, outcome_of, outcome}
use Rattle.page_cajole.specs.Text.{runs, text_of, by_labels, text_outcome}
use Rattle.page_manifest.specs.Page.{Language, cajita, valija, es3, as_it_stands, Page}
use Rattle.page_cajole.specs.Pages.{Runnable, JumpsHaveTargets, by_outcome, by_text, source_outcome, page_outcome}
use Rattle.page_cajole.specs.PageAnswers.{runnable}
use Rattle.page_cajole.specs.declared.CajoledModule.{CajoledModule}
use Rattle.page_cajole.proofs.Outcomes.{is_cajoled_page}
use Rattle.page_cajole.proofs.Spelled.{spelled_where_read}
use Rattle.page_cajole.proofs.Lowered.{nests_in}
use Rattle.page_cajole.proofs.Back.{stands_for, cajoled_back}
use Rattle.page_cajole.proofs.Jumps.{cajoled_has_targets}

nests_little : (dialect : Dialect) (granted : List (List ℕ)) (source : List ℕ) (read : Source) (p : t.Tree t.program) → source_of source_limits source ≡ read → outcome_of dialect granted read ≡ cajoled p → nest t.program p ≤ 1024
nests_little dialect granted source (s.uncut number at) p is e = absurd cc
nests_little dialect granted source (s.unread number at) p is e = absurd cc
nests_little dialect granted source (s.spelled (placed.script body)) p is e =
    let j = stands_for (fault_in dialect granted body) (module_in dialect granted body) p e in
    subst (λ q. nest t.program q ≤ 1024) (sym j.program) (nests_in granted source body (spelled_where_read source_limits source (placed.script body) is) dialect j.its_module j.found)

pub cajoled_runs : (dialect : Dialect) (granted : List (List ℕ)) (source : List ℕ) (p : t.Tree t.program) → outcome dialect granted source ≡ cajoled p → length (printed p) ≤ text_limits.longest → text_outcome (printed p) ≡ runs p
cajoled_runs dialect granted source p e short =
    let back = cajoled_back dialect granted source p e in
    ap (λ a. text_of (of_cut text_limits.deepest (length (printed p)) a)) (back.cut text_limits.longest short)
    ∙ ap (λ a. text_of (of_tokens a)) (back.read text_limits.deepest (length (printed p)) (nests_little dialect granted source (source_of source_limits source) p refl e))
    ∙ ap (λ o. by_labels o (plain t.program back.tree)) (cajoled_has_targets dialect granted source p e back.tree back.same)
    ∙ ap runs back.same

-- as a module of a page of texts: it runs, with that text and that program
runs_again :
    (dialect : Dialect) (granted names : List (List ℕ)) (source : List ℕ) (o : Outcome) (r : Runnable) → outcome dialect granted source ≡ o → by_outcome dialect o ≡ Ok r → length r.text ≤ text_limits.longest
    → source_outcome es3 names r.text ≡ Ok r
runs_again dialect granted names source (uncut number at) r is e = absurd cc
runs_again dialect granted names source (unread number at) r is e = absurd cc
runs_again dialect granted names source (broken number at) r is e = absurd cc
runs_again dialect granted names source (cajoled p) r is e =
    let same : record { text = printed p; program = p } ≡ r = cc in
    subst (λ (q : Runnable). length q.text ≤ text_limits.longest → source_outcome es3 names q.text ≡ Ok q) same (λ short. ap (by_text (printed p)) (cajoled_runs dialect granted source p is short))

pub cajoled_runs_again : (l : Language) (granted names : List (List ℕ)) (source : List ℕ) (r : Runnable) → as_it_stands l ≡ false → source_outcome l granted source ≡ Ok r → length r.text ≤ text_limits.longest
    → source_outcome es3 names r.text ≡ Ok r
cajoled_runs_again cajita granted names source r is e = runs_again Cajita granted names source (outcome Cajita granted source) r refl e
cajoled_runs_again valija granted names source r is e = runs_again Valija granted names source (outcome Valija granted source) r refl e
cajoled_runs_again es3 granted names source r is e = absurd cc

-- ---- programs that run

found_none : (ms : List CajoledModule) → AllByRecursion (λ r. JumpsHaveTargets r.program) (map runnable ms) → AllByRecursion (λ m. first_of (with_places.program m.program) ≡ None) ms
found_none [] h = tt
found_none (m ∷ ms) h = (h.0 (with_places.program m.program) (program_plain m.program), found_none ms h.1)

pub none_found : (p : Page) (ms : List CajoledModule) → page_outcome p ≡ Ok (map runnable ms) → All (λ m. first_of (with_places.program m.program) ≡ None) ms
none_found p ms e =
    All-from_recursion (λ m. first_of (with_places.program m.program) ≡ None) ms
    (found_none ms (recursion_from_All (λ r. JumpsHaveTargets r.program) (map runnable ms) ((is_cajoled_page p).jumps (map runnable ms) e)))
