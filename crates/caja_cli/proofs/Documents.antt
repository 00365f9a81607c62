-- What is written of a page with its document, by what becomes of its modules.
use Rattle.std.proofs.Common.{◌≡◌, ℕ, List, map, Result, Ok, Err, sym, ap, ◌∙◌, subst}
use Rattle.std.specs.Prelude.{IfOk}
use Rattle.std.specs.Global.{Vec}
use Rattle.html_grammar.specs.Trees.{Tree, many}
use Rattle.page_cajole.specs.Pages.{Refusal, Runnable, page_outcome}
use Rattle.page_cajole.specs.PageAnswers.{Tells, refusal_of, runnable}
use Rattle.page_cajole.specs.declared.CajoledModule.{CajoledModule}
use Rattle.page_cajole.specs.declared.pages.CajoleError.{CajoleError}
use Rattle.page_cajole.specs.declared.pages.CajoleError.TheVariants.{Module}
use Rattle.page_cajole.specs.declared.pages.Stage.{Stage}
use Rattle.page_manifest.specs.Page.{Page}
use Rattle.page_documents.specs.Answered.{Has}
use Rattle.page_documents.specs.Documents.{document_outcome}
use Rattle.page_documents.specs.declared.PageDocument.{PageDocument}
use Rattle.caja_cli.specs.Output.{Written, Makes, of_page, of_document, page_output, module_refused}
use Rattle.caja_cli.specs.declared.status.Status.{Status}

-- what runs for modules
abbrev pub all_run : Vec CajoledModule → List Runnable
all_run list = map runnable list.items

-- a module is refused
module_tells : {A B : Type 0} (shown : A → B) (e : CajoleError) (i : ℕ) (stage : Stage) (defined : Result B (ℕ × Refusal)) → e ≡ Module i stage → Tells shown (Err e) defined → defined ≡ Err (i, refusal_of stage)
module_tells shown e i stage defined is tells = subst (λ q. Tells shown (Err q) defined) is tells

module _ (make : Makes) (p : Page) (found : PageDocument) (h : Has p found) where
  accepted : (rs : List Runnable) → page_outcome p ≡ Ok rs → page_output make p ≡ make p h.trees rs
  accepted rs e = ap (of_document make p) h.outcome ∙ ap (of_page make p h.trees) e

  refused : (r : ℕ × Refusal) → page_outcome p ≡ Err r → page_output make p ≡ module_refused p r
  refused r e = ap (of_document make p) h.outcome ∙ ap (of_page make p h.trees) e

  -- all modules are accepted
  pub text_of : {E : Type 0} (rs : List Runnable) (r : Result (Vec ℕ × Status) E) → page_outcome p ≡ Ok rs → IfOk r (λ w. (ts : Tree many) → document_outcome p ≡ Ok ts → w.0.items ≡ (make p ts rs).0)
      → IfOk r (λ w. w.0.items ≡ (page_output make p).0)
  text_of rs (Ok w) e f = f h.trees h.outcome ∙ sym (ap (λ (o : Written). o.0) (accepted rs e))
  text_of rs (Err x) e f = tt

  pub status_of : {E : Type 0} (rs : List Runnable) (r : Result (Vec ℕ × Status) E) → page_outcome p ≡ Ok rs → IfOk r (λ w. (ts : Tree many) → document_outcome p ≡ Ok ts → w.1 ≡ (make p ts rs).1)
      → IfOk r (λ w. w.1 ≡ (page_output make p).1)
  status_of rs (Ok w) e f = f h.trees h.outcome ∙ sym (ap (λ (o : Written). o.1) (accepted rs e))
  status_of rs (Err x) e f = tt

  -- one is refused: the error that was found is that of the module i and the stage s, of which j and t are told
  pub refused_text : {E : Type 0} (e : CajoleError) (i j : ℕ) (s t : Stage) (r : Result (Vec ℕ × Status) E) → e ≡ Module i s → j ≡ i → t ≡ s → Tells all_run (Err e) (page_outcome p)
      → IfOk r (λ w. w.0.items ≡ (module_refused p (j, refusal_of t)).0) → IfOk r (λ w. w.0.items ≡ (page_output make p).0)
  refused_text e i j s t (Ok w) is at stage tells f =
      f ∙ ap (λ k. (module_refused p (k, refusal_of t)).0) at ∙ ap (λ q. (module_refused p (i, refusal_of q)).0) stage ∙ sym (ap (λ (o : Written). o.0) (refused (i, refusal_of s) (module_tells all_run e i s (page_outcome p) is tells)))
  refused_text e i j s t (Err y) is at stage tells f = tt

  pub refused_status : {E : Type 0} (e : CajoleError) (i j : ℕ) (s t : Stage) (r : Result (Vec ℕ × Status) E) → e ≡ Module i s → j ≡ i → t ≡ s → Tells all_run (Err e) (page_outcome p)
      → IfOk r (λ w. w.1 ≡ (module_refused p (j, refusal_of t)).1) → IfOk r (λ w. w.1 ≡ (page_output make p).1)
  refused_status e i j s t (Ok w) is at stage tells f =
      f ∙ ap (λ k. (module_refused p (k, refusal_of t)).1) at ∙ ap (λ q. (module_refused p (i, refusal_of q)).1) stage ∙ sym (ap (λ (o : Written). o.1) (refused (i, refusal_of s) (module_tells all_run e i s (page_outcome p) is tells)))
  refused_status e i j s t (Err y) is at stage tells f = tt
