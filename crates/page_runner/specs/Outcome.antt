-- What a page shows: its log, how many lines that has, its document, and how it ended.
use Rattle.std.specs.Prelude.{◌≡◌, ℕ, Bool, List, length, Result}
use Rattle.plans.specs.Plans.{Fault, number_fault, depth_fault, convert_fault, over, stopped, out, kept_of}
use Rattle.page_log.specs.Log.{Names, log}
use Rattle.es3_objects.specs.declared.value.Stop.{Stop}
use Rattle.es3_language.specs.Store.{Store}
use Rattle.heap_rows.specs.Opening.{runtime_id}
use Rattle.html_kept.specs.Table.{Answers}
use Rattle.html_urls.specs.Answers.{for_documents}
use Rattle.url_rule.specs.Table.{rows_of}
use Rattle.doc_tree.specs.Printing.{print}
use Rattle.module_loader.specs.Turns.{page_lent}
use Rattle.page_natives.specs.Natives.{Kept, new_kept, kept_of as natives_kept}
use Rattle.page_runner.specs.Page.{Run, es3_page}
use Rattle.page_runner.specs.Deeds.{deeds_of}
use Rattle.page_runner.specs.Runner.{Came}
use Rattle.page_runner.specs.declared.runner.Runner.{Runner}
use Rattle.page_runner.specs.declared.running.Page.{Page}
use Rattle.page_runner.specs.declared.running.Outcome.{Outcome}
use Rattle.page_runner.specs.declared.running.End.{End}
use Rattle.page_runner.specs.declared.running.End.TheVariants.{Done, Number, Depth, Convert, Steps}

abbrev pub fault_end : Fault → End
fault_end number_fault = Number
fault_end depth_fault = Depth
fault_end convert_fault = Convert

abbrev pub end_of : Run → End
end_of (over r x z n) = Done
end_of (stopped f x z n) = fault_end f
end_of (out x z n) = Steps

abbrev pub log_of : Names → Run → List ℕ
log_of names r = log names (kept_of r).told

-- each thing told has its line
abbrev pub lines_of : Run → ℕ
lines_of r = length (kept_of r).told

-- the document as it stands then
abbrev pub html_of : Run → List ℕ
html_of r = print (kept_of r).dom.doc

pub record Shows (names : Names) (r : Run) (o : Outcome) : Type 0 where
  pub log : o.log.items ≡ log_of names r
  pub lines : o.lines ≡ lines_of r
  pub html : o.html.items ≡ html_of r
  pub ended : o.end ≡ end_of r

-- the rule by which a page's document is changed
abbrev pub rule_of : Page → Answers
rule_of p = for_documents (rows_of p.urls.table.items) p.base

-- what a page comes to from a store, with the natives as they begin
abbrev pub run_from : Page → Store → Bool → ℕ → Run
run_from p x touching steps = es3_page p.modules (deeds_of p.deeds.items) x (new_kept runtime_id touching (page_lent p.modules p.cells p.document) (rule_of p)) steps

-- what an answer says of a run that has come to it
abbrev pub SaysOf : Result (Unit {0}) Stop → End → Type 0
SaysOf answer e = (r : Run) (p : Runner) → Came answer r p → (end_of r ≡ e) × (kept_of r ≡ natives_kept p.natives)

-- what is shown of a run that has come to an answer, with this kept
abbrev pub ShowsOf : Names → Kept → Result (Unit {0}) Stop → Outcome → Type 0
ShowsOf names z answer o = (r : Run) (p : Runner) → natives_kept p.natives ≡ z → Came answer r p → Shows names r o
