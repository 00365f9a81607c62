-- An accepted page that does all its deeds tells what its sources tell, and leaves the nodes that they leave.
use Rattle.std.proofs.Common.{◌≡◌, ◌≤◌, ℕ, Bool, List, [], ◌∷◌, Ok, refl, sym, ap, ◌∙◌, subst, arith}
use Rattle.std.specs.Prelude.{map}
use Rattle.plans.specs.Plans.{number_fault, depth_fault, convert_fault, over, stopped, out, kept_of}
use Rattle.html_grammar.specs.Trees.{many, Tree}
use Rattle.doc_laws.specs.Reached.{Reached}
use Rattle.doc_views.specs.Clear.{IsClear}
use Rattle.doc_views.specs.Seen.{nodes_seen}
use Rattle.cajita_tree.specs.Tree as c
use Rattle.cajita_page.specs.DirectPage as direct
use Rattle.heap_rows.specs.Doing.{heard}
use Rattle.row_simulation.specs.RowLaw.{shown}
use Rattle.page_runner.specs.declared.running.End.{End}
use Rattle.page_runner.specs.declared.running.End.TheVariants.{Done, Steps}
use Rattle.page_manifest.specs.Page.{Page}
use Rattle.page_documents.specs.Documents.{IsDocument}
use Rattle.page_cajole.specs.Pages.{Runnable, page_outcome}
use Rattle.cajita_simulation.specs.Alike.{most_page_steps}
use Rattle.page_meaning.specs.PageRuns.{programs_run, programs_end, programs_doc, sources_run, sources_end, sources_nodes, direct_end}
use Rattle.page_meaning.specs.Means.{programs_of}
use Rattle.page_meaning.specs.Meant.{runnable_of, SpellModules, IsPage}
use Rattle.page_meaning.proofs.Meant.{is_meant}
use Rattle.page_agreement.specs.Isolated.{programs_in}
use Rattle.page_agreement.proofs.Own.{IsOver}

pub sources_over : (r : direct.Run) → direct_end r ≡ Done → IsOver r
sources_over (over r w z n) e = tt
sources_over (stopped number_fault w z n) e = absurd cc
sources_over (stopped depth_fault w z n) e = absurd cc
sources_over (stopped convert_fault w z n) e = absurd cc
sources_over (out w z n) e = absurd cc

-- what runs for modules are their programs
programs_are : (ms : List (c.Tree c.program)) → programs_in (map runnable_of ms) ≡ programs_of ms
programs_are [] = refl
programs_are (m ∷ ms) = ap (λ l. (runnable_of m).program ∷ l) (programs_are ms)

not_cut : (e : End) → e ≡ Done → e ≡ Steps → ⊥
not_cut e done cut = let both : Done ≡ Steps = sym done ∙ cut in absurd cc

-- the sources of a page, with a number of steps with which they do all its deeds, tell what was told, and leave the nodes that the document has
pub record TellsTheSame (p : Page) (ts : Tree many) (rs : List Runnable) (touching : Bool) (s : ℕ) : Type 0 where
  pub sources : List (c.Tree c.program)
  pub spelled : SpellModules p.modules sources
  pub steps : ℕ
  pub done : sources_end p ts sources steps ≡ Done
  pub told : (kept_of (programs_run p ts (programs_in rs) touching s)).told ≡ heard touching (shown (kept_of (sources_run p ts sources steps)))
  pub nodes : (root : ℕ) → nodes_seen (programs_doc p ts (programs_in rs) touching s) root ≡ sources_nodes p ts sources steps root
  pub whole : Reached (programs_doc p ts (programs_in rs) touching s) × IsClear (programs_doc p ts (programs_in rs) touching s)

pub tells_the_same : (p : Page) → IsPage p → (ts : Tree many) → IsDocument p ts → (rs : List Runnable) → page_outcome p ≡ Ok rs → (touching : Bool) (s : ℕ) → s ≤ most_page_steps → programs_end p ts (programs_in rs) touching s ≡ Done → TellsTheSame p ts rs touching s
tells_the_same p is ts doc rs accepted touching s le done =
    let m = (is_meant p is).where_accepted ts doc rs accepted in
    let ps : programs_in rs ≡ programs_of m.sources = ap programs_in m.runs ∙ programs_are m.sources in
    let ended : programs_end p ts (programs_of m.sources) touching s ≡ Done = ap (λ l. programs_end p ts l touching s) (sym ps) ∙ done in
    let b = (m.means touching).backward s le (not_cut (programs_end p ts (programs_of m.sources) touching s) ended) in
    let shows = b.1 b.0 (omega arith) in
    let over : sources_end p ts m.sources b.0 ≡ Done = sym shows.end ∙ ended in
    record {
      sources = m.sources;
      spelled = m.spelled;
      steps = b.0;
      done = over;
      told = ap (λ l. (kept_of (programs_run p ts l touching s)).told) ps ∙ shows.told;
      nodes = λ root. ap (λ l. nodes_seen (programs_doc p ts l touching s) root) ps ∙ shows.nodes over root;
      whole = subst (λ l. Reached (programs_doc p ts l touching s) × IsClear (programs_doc p ts l touching s)) (sym ps) (shows.whole over);
    }
