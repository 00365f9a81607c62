-- The causes of a page's ends follow from what its sources mean.
use Rattle.std.proofs.Common.{◌≡◌, ◌≢◌, ◌≤◌, ℕ, ◌-◌, ◌*◌, Bool, List, [], refl, sym, ◌∙◌, arith}
use Rattle.plans.specs.Plans.{count_of}
use Rattle.pages.proofs.Steady.{page_spent}
use Rattle.html_grammar.specs.Trees.{many, Tree}
use Rattle.doc_views.specs.Seen.{nodes_seen}
use Rattle.cajita_tree.specs.Tree as c
use Rattle.cajita_page.specs.DirectPage as direct
use Rattle.page_manifest.specs.Page.{Page}
use Rattle.page_runner.specs.declared.running.End.{End}
use Rattle.page_runner.specs.declared.running.End.TheVariants as the_end
use Rattle.cajita_simulation.specs.Alike.{most_page_steps}
use Rattle.page_documents.specs.Documents.{page_doc}
use Rattle.page_meaning.specs.PageRuns.{page_rules, deeds_in, sources_run, programs_end, sources_end}
use Rattle.page_meaning.specs.Means.{programs_of, ShowsTheSame, SourcesMean}
use Rattle.page_meaning.specs.Causes.{EndsBy, Causes}

-- a want of steps, or another end
or_another : (A : Type 0) (e : End) → (e ≡ the_end.Steps → A) → (e ≢ the_end.Steps → A) → A
or_another A the_end.Steps f g = f refl
or_another A the_end.Done f g = g (λ e. cc)
or_another A the_end.Number f g = g (λ e. cc)
or_another A the_end.Depth f g = g (λ e. cc)
or_another A the_end.Convert f g = g (λ e. cc)

module _ (p : Page) (ts : Tree many) (ms : List (c.Tree c.program)) (touching : Bool) (means : SourcesMean p ts ms touching) (n : ℕ) (few : 64 * n ≤ most_page_steps) where
  left_of : count_of (sources_run p ts ms n) ≤ n
  left_of = page_spent (direct.evaluator (page_rules p)) (deeds_in (page_doc p ts) p ms) n direct.no_results (direct.first_world (nodes_seen (page_doc p ts))) []

  complete : sources_end p ts ms n ≢ the_end.Steps → ShowsTheSame p ts ms touching (64 * n) n
  complete ended =
      let left : count_of (sources_run p ts ms n) ≤ n = left_of in
      let taken = n - count_of (sources_run p ts ms n) in
      means.forward n taken (64 * n) (record { ends = ended; taken = omega (arith, left) }) (omega (arith, left)) (omega (arith, left, few))

  ended : (e : End) → e ≢ the_end.Steps → programs_end p ts (programs_of ms) touching (64 * n) ≡ e → EndsBy p ts ms e
  ended e other is =
      let b = means.backward (64 * n) few (λ h. other (sym is ∙ h)) in
      (b.0, λ k le. sym (b.1 k le).end ∙ is)

  pub causes : Causes p ts ms touching n
  causes = record {
    complete = complete;
    ended = ended;
    steps = λ is. or_another (sources_end p ts ms n ≡ the_end.Steps) (sources_end p ts ms n) (λ e. e) (λ other. absurd (other (sym (complete other).end ∙ is)));
    no_conversion = means.never_converts (64 * n) few;
  }
