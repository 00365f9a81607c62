-- Deeds one after another: what is left of the page, from here, is the whole page.
use Rattle.std.proofs.Common.{◌≡◌, ℕ, List, [], ◌∷◌, Result, Err, refl, sym, ap, ◌∙◌, subst}
use Rattle.pages.specs.Pages.{chain, deed as deed_of_page, page}
use Rattle.es3_objects.specs.declared.value.Stop.{Stop}
use Rattle.es3_language.specs.Store.{Store}
use Rattle.page_natives.specs.Natives.{kept_of}
use Rattle.page_runner.specs.Page.{Deed, Run, evaluator}
use Rattle.page_runner.specs.Runner.{results_of, HasStore, IsCut, DeedsOver, Came, From}
use Rattle.page_runner.specs.declared.runner.Runner.{Runner}
use Rattle.page_runner.proofs.Turns.{chain_cut}

pub record Reached (modules : ℕ) (p : Runner) (rest : List Deed) (whole : Run) : Type 0 where
  pub store : Store
  pub here : HasStore p.heap p.machine store
  pub run : page (evaluator modules) rest p.left (results_of p.results.items) store (kept_of p.natives) ≡ whole

-- from the beginning
abbrev pub ReachedFrom : Runner → Runner → List Deed → List Deed → Type 0
ReachedFrom p q ds rest = From p (λ r x z n. Reached p.modules q rest (page (evaluator p.modules) ds n r x z))

pub at_first : (p : Runner) (ds : List Deed) → ReachedFrom p p ds ds
at_first p ds = λ x here. record { store = x; here = here; run = refl }

pub one_more : (p q q1 : Runner) (ds : List Deed) (d : Deed) (rest : List Deed) → ReachedFrom p q ds (d ∷ rest) → From q (λ r x z n. DeedsOver (deed_of_page (evaluator p.modules) d n r x z) q1) → ReachedFrom p q1 ds rest
one_more p q q1 ds d rest reached goes = λ x here.
    let before = reached x here in
    let came = goes before.store before.here in
    record {
      store = came.store;
      here = came.here;
      run = sym (ap (λ w. chain w (λ r1 x1 z1 m. page (evaluator p.modules) rest m r1 x1 z1)) came.run) ∙ before.run;
    }

pub cut_there : (p q q1 : Runner) (ds : List Deed) (d : Deed) (rest : List Deed) (e : Stop) (answer : Result (Unit {0}) Stop) → answer ≡ Err e → ReachedFrom p q ds (d ∷ rest) → From q (λ r x z n. IsCut e (kept_of q1.natives) (deed_of_page (evaluator p.modules) d n r x z))
    → From p (λ r x z n. Came answer (page (evaluator p.modules) ds n r x z) q1)
cut_there p q q1 ds d rest e answer is reached goes = λ x here.
    let before = reached x here in
    subst (λ s. Came s (page (evaluator p.modules) ds p.left (results_of p.results.items) x (kept_of p.natives)) q1) (sym is)
    (subst (λ w. IsCut e (kept_of q1.natives) w) before.run
    (chain_cut e (kept_of q1.natives) (deed_of_page (evaluator p.modules) d q.left (results_of q.results.items) before.store (kept_of q.natives)) (λ r1 x1 z1 m. page (evaluator p.modules) rest m r1 x1 z1) (goes before.store before.here)))

pub at_last : (p q : Runner) (ds : List Deed) → ReachedFrom p q ds [] → From p (λ r x z n. DeedsOver (page (evaluator p.modules) ds n r x z) q)
at_last p q ds reached = λ x here. let last = reached x here in record { store = last.store; here = last.here; run = sym last.run }
