-- Where the page of rewritten modules does what the page of their sources does, it shows what the sources mean.
use Rattle.std.proofs.Common.{◌≡◌, ◌≢◌, ℕ, ◌+◌, ◌≤◌, Bool, List, [], ◌∷◌, ◌++◌, length, refl, sym, ap, ◌∙◌, subst}
use Rattle.std.proofs.lemmas.List.{append_assoc}
use Rattle.plans.specs.Plans.{Fault, number_fault, depth_fault, convert_fault, over, stopped, out, kept_of}
use Rattle.matching.specs.Sentences.{IsFinished}
use Rattle.html_grammar.specs.Trees.{many, Tree}
use Rattle.doc_nodes.specs.Rows.{Doc}
use Rattle.doc_laws.specs.Reached.{Reached}
use Rattle.doc_views.specs.Clear.{IsClear}
use Rattle.doc_views.specs.Seen.{nodes_seen}
use Rattle.cajita_tree.specs.Tree as c
use Rattle.heap_rows.specs.Doing.{Told}
use Rattle.heap_rows.specs.Opening.{runtime_id}
use Rattle.page_log.specs.Log.{Names, line, log}
use Rattle.page_natives.specs.Natives.{new_kept}
use Rattle.module_loader.specs.Turns.{page_lent, page_store}
use Rattle.page_deeds.specs.Deeds.{to_load}
use Rattle.event_script.specs.Events.{Asked, a_call, a_click, an_input, a_tick, deed_of}
use Rattle.cajita_page.specs.DirectPage as direct
use Rattle.page_runner.specs.Page as es3
use Rattle.page_runner.specs.Page.{es3_page}
use Rattle.page_runner.specs.Outcome.{end_of, fault_end}
use Rattle.page_runner.specs.declared.running.End.TheVariants.{Convert, Done, Steps}
use Rattle.page_manifest.specs.Page.{Module, Page}
use Rattle.page_manifest.specs.Deeds.{all_given, loads, events}
use Rattle.page_roots.specs.Roots.{roots_of, number_in}
use Rattle.page_binding.specs.Nodes.{node_of}
use Rattle.page_documents.specs.Documents.{page_urls, page_doc}
use Rattle.cajita_simulation.specs.Alike.{IsPrefix, GuestFault, most_page_steps}
use Rattle.page_simulation.specs.Pages.{program_deed, program_deeds}
use Rattle.page_simulation.specs.Correct.{told_of, EndAlike, ConvertsNothing, program_page, PageCorrect}
use Rattle.manifest_deeds.specs.Names.{page_names}
use Rattle.page_meaning.specs.PageRuns.{page_rules, deeds_in, programs_run, sources_run, programs_end, direct_end, direct_nodes}
use Rattle.page_meaning.specs.Means.{programs_of, ShowsTheSame, IsFront, SourcesMean}

-- the same deeds, of the modules and of the programs that stand for them

deeds_append : (ds es : List direct.Deed) → program_deeds (ds ++ es) ≡ program_deeds ds ++ program_deeds es
deeds_append [] es = refl
deeds_append (d ∷ ds) es = ap (λ l. program_deed d ∷ l) (deeds_append ds es)

module _ (root_of : List ℕ → ℕ) (node_at : List ℕ → ℕ × ℕ) where
  loads_same : (i : ℕ) (ms : List Module) (ss : List (c.Tree c.program)) → program_deeds (loads root_of i ms ss) ≡ loads root_of i ms (programs_of ss)
  loads_same i [] ss = refl
  loads_same i (m ∷ ms) [] = refl
  loads_same i (m ∷ ms) (s ∷ ss) = ap (λ l. program_deed (to_load i s (all_given root_of m.grants)) ∷ l) (loads_same (i + 1) ms ss)

  event_same : (k : ℕ) (e : Asked) → program_deed (deed_of node_at k e) ≡ deed_of node_at k e
  event_same k (a_call m key args) = refl
  event_same k (a_click id) = refl
  event_same k (an_input id us) = refl
  event_same k (a_tick m) = refl

  events_same : (k : ℕ) (es : List Asked) → program_deeds (events node_at k es) ≡ events node_at k es
  events_same k [] = refl
  events_same k (e ∷ es) = ap (λ d. d ∷ program_deeds (events node_at (k + 1) es)) (event_same k e) ∙ ap (λ l. deed_of node_at k e ∷ l) (events_same (k + 1) es)

pub deeds_same : (d : Doc) (p : Page) (ss : List (c.Tree c.program)) → program_deeds (deeds_in d p ss) ≡ deeds_in d p (programs_of ss)
deeds_same d p ss =
    let root_of = number_in (roots_of p) in
    deeds_append (loads root_of 0 p.modules ss) (events (node_of d) 0 p.events)
    ∙ ap (λ l. l ++ program_deeds (events (node_of d) 0 p.events)) (loads_same root_of (node_of d) 0 p.modules ss)
    ∙ ap (λ l. loads root_of 0 p.modules (programs_of ss) ++ l) (events_same root_of (node_of d) 0 p.events)

-- a run that wants no step is finished

source_finished : (r : direct.Run) → direct_end r ≢ Steps → IsFinished r
source_finished (over e w z n) h = tt
source_finished (stopped f w z n) h = tt
source_finished (out w z n) h = absurd (h refl)

program_finished : (q : es3.Run) → end_of q ≢ Steps → IsFinished q
program_finished (over e s y n) h = tt
program_finished (stopped f s y n) h = tt
program_finished (out s y n) h = absurd (h refl)

-- like ends are shown alike

end_same : (touching : Bool) (r : direct.Run) (q : es3.Run) → EndAlike touching r q → end_of q ≡ direct_end r
end_same touching (over r w z n) (over r' s y n') h = refl
end_same touching (stopped f w z n) (stopped g s y n') h = ap fault_end (sym h.0)
end_same touching _ _ h = absurd h

told_same : (touching : Bool) (r : direct.Run) (q : es3.Run) → EndAlike touching r q → (kept_of q).told ≡ told_of touching (kept_of r)
told_same touching (over r w z n) (over r' s y n') h = sym h.0
told_same touching (stopped f w z n) (stopped g s y n') h = sym h.2
told_same touching _ _ h = absurd h

-- each root has the same nodes where all was done
nodes_same : (touching : Bool) (r : direct.Run) (q : es3.Run) → EndAlike touching r q → direct_end r ≡ Done → (root : ℕ) → nodes_seen (kept_of q).dom.doc root ≡ direct_nodes r root
nodes_same touching (over r w z n) (over r' s y n') h is = h.1
nodes_same touching (stopped number_fault w z n) q h is = absurd cc
nodes_same touching (stopped depth_fault w z n) q h is = absurd cc
nodes_same touching (stopped convert_fault w z n) q h is = absurd cc
nodes_same touching (out w z n) q h is = absurd cc
nodes_same touching _ _ h is = absurd h

-- and the document is one that is reached
doc_whole : (touching : Bool) (r : direct.Run) (q : es3.Run) → EndAlike touching r q → direct_end r ≡ Done → Reached (kept_of q).dom.doc × IsClear (kept_of q).dom.doc
doc_whole touching (over r w z n) (over r' s y n') h is = (h.2, h.3)
doc_whole touching (stopped number_fault w z n) q h is = absurd cc
doc_whole touching (stopped depth_fault w z n) q h is = absurd cc
doc_whole touching (stopped convert_fault w z n) q h is = absurd cc
doc_whole touching (out w z n) q h is = absurd cc
doc_whole touching _ _ h is = absurd h

log_append : (names : Names) (a b : List Told) → log names (a ++ b) ≡ log names a ++ log names b
log_append names [] b = refl
log_append names (t ∷ a) b = ap (λ l. line names t ++ l) (log_append names a b) ∙ sym (append_assoc (line names t) (log names a) (log names b))

front : (names : Names) (a b : List Told) → IsPrefix a b → IsFront (log names a) (log names b)
front names a b p = record { rest = log names p.rest; is = ap (log names) p.is ∙ log_append names a p.rest }

-- faults

no_conversion : (f : Fault) → GuestFault f → fault_end f ≢ Convert
no_conversion number_fault p = λ e. cc
no_conversion depth_fault p = λ e. cc
no_conversion convert_fault p = absurd p

converts_nothing : (q : es3.Run) → ConvertsNothing q → end_of q ≢ Convert
converts_nothing (over r s y n) p = λ x. cc
converts_nothing (stopped f s y n) p = no_conversion f p
converts_nothing (out s y n) p = λ x. cc

module _ (p : Page) (ts : Tree many) (ms : List (c.Tree c.program)) (touching : Bool)
    (correct : PageCorrect (page_rules p) (length p.modules) (length p.cells) (page_doc p ts) (page_urls p) touching (deeds_in (page_doc p ts) p ms)) where
  abbrev page_run : ℕ → es3.Run
  page_run s = program_page (length p.modules) (length p.cells) (page_doc p ts) (page_urls p) touching (deeds_in (page_doc p ts) p ms) s

  run_same : (s : ℕ) → page_run s ≡ programs_run p ts (programs_of ms) touching s
  run_same s =
      ap (λ ds. es3_page (length p.modules) ds (page_store (length p.modules) (length p.cells) (page_doc p ts)) (new_kept runtime_id touching (page_lent (length p.modules) (length p.cells) (page_doc p ts)) (page_urls p)) s)
      (deeds_same (page_doc p ts) p ms)

  shows : (n s : ℕ) → EndAlike touching (sources_run p ts ms n) (page_run s) → ShowsTheSame p ts ms touching s n
  shows n s h =
      let r = sources_run p ts ms n in
      let q = programs_run p ts (programs_of ms) touching s in
      let alike : EndAlike touching r q = subst (EndAlike touching r) (run_same s) h in
      record {
        told = told_same touching r q alike;
        log = ap (log (page_names p)) (told_same touching r q alike);
        end = end_same touching r q alike;
        nodes = nodes_same touching r q alike;
        whole = doc_whole touching r q alike;
      }

  finished_of : (s : ℕ) → programs_end p ts (programs_of ms) touching s ≢ Steps → IsFinished (page_run s)
  finished_of s h = subst IsFinished (sym (run_same s)) (program_finished (programs_run p ts (programs_of ms) touching s) h)

  pub told_cut : (s : ℕ) → s ≤ most_page_steps → (k : ℕ) × ((n : ℕ) → k ≤ n → IsPrefix (kept_of (programs_run p ts (programs_of ms) touching s)).told (told_of touching (kept_of (sources_run p ts ms n))))
  told_cut s le = let h = correct.cut s le in (h.0, λ n more. subst (λ (q : es3.Run). IsPrefix (kept_of q).told (told_of touching (kept_of (sources_run p ts ms n)))) (run_same s) (h.1 n more))

  pub sources_mean : SourcesMean p ts ms touching
  sources_mean = record {
    forward = λ n c s after le most. shows n s (correct.forward n c s (source_finished (sources_run p ts ms n) after.ends) after.taken le most).0;
    backward = λ s le h. let b = correct.backward s le (finished_of s h) in (b.0, λ n more. shows n s (b.1 n more));
    cut = λ s le. let h = told_cut s le in (h.0, λ n more. front (page_names p) _ _ (h.1 n more));
    never_converts = λ s le. converts_nothing (programs_run p ts (programs_of ms) touching s) (subst ConvertsNothing (run_same s) (correct.never_converts s le));
  }
