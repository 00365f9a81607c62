-- What an answer says of the page's run.
use Rattle.std.proofs.Common.{ℕ, List, Result, Ok, Err, IfOk, refl, ap, subst}
use Rattle.caja_units.specs.declared.Memory.{Memory}
use Rattle.es3_objects.specs.declared.value.Stop.{Stop}
use Rattle.es3_objects.specs.declared.value.Stop.TheVariants as stop
use Rattle.es3_language.specs.Store.{Store}
use Rattle.page_log.specs.Log.{Names}
use Rattle.page_natives.specs.Natives.{Kept, kept_of}
use Rattle.pages.specs.Pages.{page}
use Rattle.plans.specs.Plans.{kept_of as run_kept}
use Rattle.page_runner.specs.Page.{Deed, Run, evaluator, no_results, es3_page}
use Rattle.page_runner.specs.Runner.{results_of, Came, From, Begins}
use Rattle.page_runner.specs.Outcome.{end_of, SaysOf, Shows, ShowsOf}
use Rattle.page_runner.specs.declared.running.Outcome.{Outcome}
use Rattle.page_runner.specs.declared.running.End.TheVariants as the_end
use Rattle.page_runner.specs.declared.runner.Runner.{Runner}

pub says_done : SaysOf (Ok tt) the_end.Done
says_done = λ r p came. (ap end_of came.run, ap run_kept came.run)

pub says_number : SaysOf (Err stop.Number) the_end.Number
says_number = λ r p came. (ap end_of came.2, ap run_kept came.2)

pub says_depth : SaysOf (Err stop.Depth) the_end.Depth
says_depth = λ r p came. (ap end_of came.2, ap run_kept came.2)

pub says_convert : SaysOf (Err stop.Convert) the_end.Convert
says_convert = λ r p came. (ap end_of came.2, ap run_kept came.2)

pub says_steps : SaysOf (Err stop.Steps) the_end.Steps
says_steps = λ r p came. (ap end_of came.2, ap run_kept came.2)

-- the whole page, from its beginning
pub begun_came : (p q : Runner) (answer : Result (Unit {0}) Stop) (modules : ℕ) (ds : List Deed) (x : Store) (z : Kept) (steps : ℕ) → Begins p x z modules steps → From p (λ r x z n. Came answer (page (evaluator p.modules) ds n r x z) q)
    → Came answer (es3_page modules ds x z steps) q
begun_came p q answer modules ds x z steps begins from =
    subst (λ m. Came answer (es3_page m ds x z steps) q) begins.modules
    (subst (λ n. Came answer (page (evaluator p.modules) ds n no_results x z) q) begins.left
    (subst (λ r. Came answer (page (evaluator p.modules) ds p.left r x z) q) begins.results
    (subst (λ k. Came answer (page (evaluator p.modules) ds p.left (results_of p.results.items) x k) q) begins.kept (from x begins.here))))

pub shown_so : (result : Result Outcome Memory) (names : Names) (answer : Result (Unit {0}) Stop) (p : Runner) (r : Run) → Came answer r p → IfOk result (λ o. ShowsOf names (kept_of p.natives) answer o) → IfOk result (λ o. Shows names r o)
shown_so (Ok o) names answer p r came says = says r p refl came
shown_so (Err e) names answer p r came says = says
