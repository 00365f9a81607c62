-- The status of each output is an answer.
use Rattle.std.proofs.Common.{◌≡◌, ℕ, List, [], Bool, Result, Ok, Err, false, true, sym, subst}
use Rattle.std.specs.Prelude.{IfOk}
use Rattle.html_grammar.specs.Trees.{Tree, many}
use Rattle.page_documents.specs.Documents.{NoDocument, no_html, no_css, no_id, document_outcome}
use Rattle.page_cajole.specs.declared.dialects.Dialect.TheVariants.{Cajita}
use Rattle.page_cajole.specs.Cajoled.{Outcome, uncut, unread, broken, cajoled, outcome}
use Rattle.page_cajole.specs.Formatted.{Formatted, formatted}
use Rattle.page_cajole.specs.Formatted as f
use Rattle.page_cajole.specs.Pages.{Refusal, Runnable, page_outcome}
use Rattle.url_rule.specs.Table.{Row}
use Rattle.page_manifest.specs.Faults.{Found}
use Rattle.page_manifest.specs.Page.{Page}
use Rattle.page_manifest.specs.Read.{page_of}
use Rattle.page_runner.specs.declared.running.End.{End}
use Rattle.page_runner.specs.declared.running.End.TheVariants as the_end
use Rattle.page_runner.specs.Outcome.{end_of}
use Rattle.page_meaning.specs.PageRuns.{programs_run, texts_run}
use Rattle.command_words.specs.declared.Options.{Options}
use Rattle.command_words.specs.declared.Command.{Command}
use Rattle.command_words.specs.declared.Command.TheVariants.{Solo, Cajole, Format, Run, Page as OfPage, Gen}
use Rattle.caja_cli.specs.declared.status.Status.{Status}
use Rattle.caja_gen.specs.Generated.{generated}
use Rattle.caja_cli.specs.Output.{Written, page_steps, programs_in, end_status, cajoled_parts, summary_parts, texts_parts, Makes, of_page, of_document, page_output, of_manifest, lone_page, cajoled_line, source_output, format_output, command_output}
use Rattle.caja_cli.specs.Answered.{IsAnswer}

of_end : (e : End) → IsAnswer (end_status e)
of_end the_end.Done = tt
of_end the_end.Number = tt
of_end the_end.Depth = tt
of_end the_end.Convert = tt
of_end the_end.Steps = tt

of_cajoled : (framed : Bool) (o : Options) (p : Page) (ts : Tree many) (rs : List Runnable) → IsAnswer (cajoled_parts framed o p ts rs).1
of_cajoled framed o p ts rs = of_end (end_of (programs_run p ts (programs_in rs) o.touch (page_steps o.steps)))

of_summary : (n : ℕ) (o : Options) (p : Page) (ts : Tree many) (rs : List Runnable) → IsAnswer (summary_parts n o p ts rs).1
of_summary n o p ts rs = of_end (end_of (programs_run p ts (programs_in rs) o.touch (page_steps o.steps)))

of_texts : (o : Options) (p : Page) (ts : Tree many) (rs : List Runnable) → IsAnswer (texts_parts o p ts rs).1
of_texts o p ts rs = of_end (end_of (texts_run p ts (programs_in rs) o.touch o.steps))

module _ (make : Makes) (each : (p : Page) (ts : Tree many) (rs : List Runnable) → IsAnswer (make p ts rs).1) where
  of_modules : (p : Page) (ts : Tree many) (r : Result (List Runnable) (ℕ × Refusal)) → IsAnswer (of_page make p ts r).1
  of_modules p ts (Ok rs) = each p ts rs
  of_modules p ts (Err r) = tt

  of_its_document : (p : Page) (r : Result (Tree many) NoDocument) → IsAnswer (of_document make p r).1
  of_its_document p (Ok ts) = of_modules p ts (page_outcome p)
  of_its_document p (Err (no_html f)) = tt
  of_its_document p (Err (no_css f)) = tt
  of_its_document p (Err (no_id f)) = tt

  of_a_page : (p : Page) → IsAnswer (page_output make p).1
  of_a_page p = of_its_document p (document_outcome p)

of_found : (make : Page → Written) → ((p : Page) → IsAnswer (make p).1) → (found : Found Page) → IsAnswer (of_manifest make found).1
of_found make each (Ok p) = each p
of_found make each (Err fault) = tt

of_source : (o : Outcome) → IsAnswer (source_output cajoled_line o).1
of_source (uncut number place) = tt
of_source (unread number place) = tt
of_source (broken number place) = tt
of_source (cajoled p) = tt

of_format : (o : Formatted) → IsAnswer (format_output o).1
of_format (f.uncut number place) = tt
of_format (f.unread number place) = tt
of_format (f.text w) = tt

of_command : (rule : List Row) (c : Command) (input : List ℕ) → IsAnswer (command_output rule c input).1
of_command rule (Solo o) input = of_a_page (cajoled_parts false o) (of_cajoled false o) (lone_page rule input)
of_command rule Cajole input = of_source (outcome Cajita [] input)
of_command rule Format input = of_format (formatted input)
of_command rule (Run o) input = of_found (page_output (texts_parts o)) (of_a_page (texts_parts o) (of_texts o)) (page_of rule true input)
of_command rule (Gen n o) input = of_a_page (summary_parts n o) (of_summary n o) (generated rule n)
of_command rule (OfPage o) input = of_found (page_output (cajoled_parts true o)) (of_a_page (cajoled_parts true o) (of_cajoled true o)) (page_of rule false input)

answers : (rule : List Row) (c : Command) (input : List ℕ) (s : Status) → s ≡ (command_output rule c input).1 → IsAnswer s
answers rule c input s e = subst IsAnswer (sym e) (of_command rule c input)

-- where a command gave an output and its status
pub answered : {A E : Type 0} (rule : List Row) (c : Command) (input : List ℕ) (r : Result (A × Status) E) → IfOk r (λ w. w.1 ≡ (command_output rule c input).1) → IfOk r (λ w. IsAnswer w.1)
answered rule c input (Ok w) e = answers rule c input w.1 e
answered rule c input (Err x) e = tt
