-- What the program writes for its words and its input, and the status that it ends with.
use Rattle.std.specs.Prelude.{ℕ, ◌+◌, ◌*◌, ◌++◌, Bool, true, false, List, [], ◌∷◌, Option, Some, None, Result, Ok, Err, length, map, nat_lt, codes, if◌then◌else◌}
use Rattle.caja_units.specs.Index.{number_units}
use Rattle.caja_units.specs.Utf8.{utf8_of}
use Rattle.html_grammar.specs.Trees.{Tree, many}
use Rattle.es3_tree.specs.Tree as t
use Rattle.es3_printed.specs.Tokens.{printed}
use Rattle.page_cajole.specs.declared.dialects.Dialect.TheVariants.{Cajita}
use Rattle.page_cajole.specs.Cajoled.{Outcome, uncut, unread, broken, cajoled, outcome}
use Rattle.page_cajole.specs.Formatted.{Formatted, formatted}
use Rattle.page_cajole.specs.Formatted as f
use Rattle.page_cajole.specs.Pages.{Refusal, Runnable, page_outcome}
use Rattle.page_log.specs.Log.{line_end, name_in}
use Rattle.page_manifest.specs.Faults.{Found}
use Rattle.url_rule.specs.Table.{Row}
use Rattle.page_manifest.specs.Page.{Style, Module, Page, cajita}
use Rattle.page_manifest.specs.Read.{page_of}
use Rattle.reach_report.specs.Pages.{page_groups}
use Rattle.page_runner.specs.Page.{Run as PageRun}
use Rattle.page_runner.specs.Outcome.{log_of, lines_of, html_of, end_of}
use Rattle.page_runner.specs.declared.running.End.{End}
use Rattle.page_runner.specs.declared.running.End.TheVariants as the_end
use Rattle.page_documents.specs.Documents.{NoDocument, no_html, no_css, no_id, styles_outcome, document_outcome}
use Rattle.manifest_deeds.specs.Names.{page_names}
use Rattle.page_meaning.specs.PageRuns.{programs_run, texts_run}
use Rattle.command_words.specs.Words.{command_of, longest_input}
use Rattle.command_words.specs.declared.Options.{Options}
use Rattle.command_words.specs.declared.Command.{Command}
use Rattle.command_words.specs.declared.Command.TheVariants.{Solo, Cajole, Format, Run, Page as OfPage, Gen}
use Rattle.caja_gen.specs.Generated.{generated}
use Rattle.caja_cli.specs.declared.forms.Form.{Form}
use Rattle.caja_cli.specs.declared.forms.Form.TheVariants.{Alone, Framed, Summed}
use Rattle.caja_cli.specs.declared.status.Status.{Status}
use Rattle.caja_cli.specs.declared.status.Status.TheVariants as status

abbrev pub Written : Type 0
Written = List ℕ × Status

-- the steps of ECMAScript 3 for so many direct ones
abbrev pub page_steps : ℕ → ℕ
page_steps n = 64 * n

-- ---- words

-- `gen` makes its page itself, and reads nothing
abbrev pub reads : Command → Bool
reads (Gen n o) = false
reads c = true

-- the most bytes that are read for the words: one more than the longest input of their command, and none where they are no command or one that reads nothing
abbrev pub most_of : Option Command → ℕ
most_of None = 0
most_of (Some c) = if reads c then longest_input c + 1 else 0

abbrev pub most_read : List (List ℕ) → ℕ
most_read words = most_of (command_of words)

abbrev pub is_reading : Option Command → Bool
is_reading None = false
is_reading (Some c) = reads c

-- the words are a command that reads an input
abbrev pub reads_input : List (List ℕ) → Bool
reads_input words = is_reading (command_of words)

-- ---- refusals

-- the module of `solo`, `cajole` and `format`; a page itself
abbrev pub main_name : List ℕ
main_name = codes "main"

abbrev pub the_page : List ℕ
the_page = codes "-"

-- `refused WHO STAGE NUMBER PLACE`
abbrev pub refusal : List ℕ → List ℕ → ℕ → ℕ → List ℕ
refusal who stage number place = codes "refused " ++ who ++ codes " " ++ stage ++ codes " " ++ number_units number ++ codes " " ++ number_units place ++ line_end

-- ---- the parts of an output

-- `LENGTH`, and the text
abbrev pub sized : List ℕ → List ℕ
sized text = number_units (length text) ++ line_end ++ text ++ line_end

-- `module NAME LENGTH`, and the text
abbrev pub module_part : List ℕ → List ℕ → List ℕ
module_part name text = codes "module " ++ utf8_of name ++ codes " " ++ sized text

-- of each module, the text that stands for it
abbrev pub module_parts : List Module → List Runnable → List ℕ
module_parts (m ∷ ms) (r ∷ rs) = module_part m.name r.text ++ module_parts ms rs
module_parts ms rs = []

-- `style ROOT LENGTH`, and what is written for a sheet
abbrev pub style_part : List ℕ → List ℕ → List ℕ
style_part root text = codes "style " ++ utf8_of root ++ codes " " ++ sized text

-- of each sheet
abbrev pub style_parts : List Style → List (List ℕ) → List ℕ
style_parts (s ∷ ss) (text ∷ texts) = style_part s.root text ++ style_parts ss texts
style_parts ss texts = []

abbrev pub programs_in : List Runnable → List (t.Tree t.program)
programs_in rs = map (λ r. r.program) rs

-- `group`, and the names of its modules
abbrev pub group_words : List (List ℕ) → List ℕ → List ℕ
group_words names [] = []
group_words names (m ∷ ms) = codes " " ++ name_in names m ++ group_words names ms

abbrev pub group_line : List (List ℕ) → List ℕ → List ℕ
group_line names ms = codes "group" ++ group_words names ms ++ line_end

abbrev pub group_lines : List (List ℕ) → List (List ℕ) → List ℕ
group_lines names [] = []
group_lines names (g ∷ gs) = group_line names g ++ group_lines names gs

-- `html LENGTH`, and the text of the document
abbrev pub html_part : List ℕ → List ℕ
html_part text = codes "html " ++ sized text

abbrev pub end_word : End → List ℕ
end_word the_end.Done = codes "done"
end_word the_end.Number = codes "number"
end_word the_end.Depth = codes "depth"
end_word the_end.Convert = codes "convert"
end_word the_end.Steps = codes "steps"

abbrev pub end_line : End → List ℕ
end_line e = codes "end " ++ end_word e ++ line_end

abbrev pub end_status : End → Status
end_status the_end.Done = status.Done
end_status the_end.Number = status.Number
end_status the_end.Depth = status.Depth
end_status the_end.Convert = status.Convert
end_status the_end.Steps = status.Steps

-- ---- pages

-- groups and document are written of a page, and not of a module that is alone
abbrev pub framed_groups : Bool → Page → List ℕ
framed_groups framed p = if framed then group_lines (page_names p).modules (page_groups p) else []

abbrev pub framed_html : Bool → List ℕ → List ℕ
framed_html framed text = if framed then html_part text else []

-- of the sheets of a page
abbrev pub styles_written : List Style → Found (List (List ℕ)) → List ℕ
styles_written ss (Ok texts) = style_parts ss texts
styles_written ss (Err f) = []

-- its sheets, its groups, its log, its document as it stands then, and how it ended; and the status
abbrev pub run_parts : Bool → Page → PageRun → List ℕ
run_parts framed p r = styles_written p.styles (styles_outcome p) ++ framed_groups framed p ++ log_of (page_names p) r ++ framed_html framed (html_of r) ++ end_line (end_of r)

abbrev pub run_status : PageRun → Status
run_status r = end_status (end_of r)

-- a stage refuses a module
abbrev pub module_refused : Page → ℕ × Refusal → Written
module_refused p r = (refusal (name_in (page_names p).modules r.0) r.1.stage r.1.number r.1.at, status.Refused)

-- a stage refuses the document: its HTML, a sheet, or the ids that the page speaks of
abbrev pub no_document : NoDocument → Written
no_document (no_html f) = (refusal the_page (codes "html") f.0 f.1, status.Refused)
no_document (no_css f) = (refusal the_page (codes "css") f.0 f.1, status.Refused)
no_document (no_id f) = (refusal the_page (codes "page") f.0 f.1, status.Refused)

-- the texts that stand for the modules, and what their page comes to by the interpreter's meaning, with the steps for so many direct ones, over the trees that its HTML is cleaned to
abbrev pub cajoled_parts : Bool → Options → Page → Tree many → List Runnable → Written
cajoled_parts framed o p ts rs =
    let r = programs_run p ts (programs_in rs) o.touch (page_steps o.steps) in
    (module_parts p.modules rs ++ run_parts framed p r, run_status r)

-- texts that run as they stand
abbrev pub texts_parts : Options → Page → Tree many → List Runnable → Written
texts_parts o p ts rs = let r = texts_run p ts (programs_in rs) o.touch o.steps in (run_parts true p r, run_status r)

-- of a page that was generated: how many events it was to have, how many modules, events and lines it has, and how it ended
abbrev pub summary : ℕ → ℕ → ℕ → ℕ → End → List ℕ
summary n modules events lines end =
    codes "gen " ++ number_units n ++ codes " modules " ++ number_units modules ++ codes " events " ++ number_units events ++ codes " lines " ++ number_units lines ++ codes " " ++ end_line end

abbrev pub summary_parts : ℕ → Options → Page → Tree many → List Runnable → Written
summary_parts n o p ts rs =
    let r = programs_run p ts (programs_in rs) o.touch (page_steps o.steps) in
    (summary n (length p.modules) (length p.events) (lines_of r) (end_of r), run_status r)

-- what is made of the trees that stand for the HTML of a page and of what runs for it
abbrev pub Makes : Type 0
Makes = Page → Tree many → List Runnable → Written

-- of a page of modules that are cajoled: of one module that is alone, of a manifest, and of a page that was generated
abbrev pub parts_in : Form → Options → Makes
parts_in Alone o = cajoled_parts false o
parts_in Framed o = cajoled_parts true o
parts_in (Summed n) o = summary_parts n o

-- what is made of what runs for a page, or the refusal
abbrev pub of_page : Makes → Page → Tree many → Result (List Runnable) (ℕ × Refusal) → Written
of_page make p ts (Ok rs) = make p ts rs
of_page make p ts (Err r) = module_refused p r

-- the document comes first
abbrev pub of_document : Makes → Page → Result (Tree many) NoDocument → Written
of_document make p (Ok ts) = of_page make p ts (page_outcome p)
of_document make p (Err e) = no_document e

abbrev pub page_output : Makes → Page → Written
page_output make p = of_document make p (document_outcome p)

-- what is made of the page that a manifest is of, or the first fault of the manifest
abbrev pub of_manifest : (Page → Written) → Found Page → Written
of_manifest make (Ok p) = make p
of_manifest make (Err f) = (refusal the_page (codes "page") f.0 f.1, status.Refused)

-- the page of one module, without HTML, sheets, grants and events, for an embedder whose rule has this table
abbrev pub lone_page : List Row → List ℕ → Page
lone_page rule source = record { rule = rule; base = None; html = []; styles = []; cells = []; modules = record { name = main_name; language = cajita; source = source; grants = [] } ∷ []; events = [] }

-- ---- single sources

-- the printed program and a line end
abbrev pub cajoled_line : t.Tree t.program → Written
cajoled_line p = (printed p ++ line_end, status.Done)

-- what is made of the program that stands for a source, or the refusal
abbrev pub source_output : (t.Tree t.program → Written) → Outcome → Written
source_output make (uncut number place) = (refusal main_name (codes "lex") number place, status.Refused)
source_output make (unread number place) = (refusal main_name (codes "read") number place, status.Refused)
source_output make (broken number place) = (refusal main_name (codes "rule") number place, status.Refused)
source_output make (cajoled p) = make p

-- the printed text of the program that the source spells, and a line end
abbrev pub format_output : Formatted → Written
format_output (f.uncut number place) = (refusal main_name (codes "lex") number place, status.Refused)
format_output (f.unread number place) = (refusal main_name (codes "read") number place, status.Refused)
format_output (f.text w) = (w ++ line_end, status.Done)

-- ---- commands

-- of an input that is too long
abbrev pub too_long : Command → List ℕ
too_long (Run o) = refusal the_page (codes "input") 1 0
too_long (OfPage o) = refusal the_page (codes "input") 1 0
too_long c = refusal main_name (codes "input") 1 0

-- for an embedder whose rule has this table
module _ (rule : List Row) where
  -- what a command makes of an input that isn't too long
  abbrev pub command_output : Command → List ℕ → Written
  command_output (Solo o) input = page_output (cajoled_parts false o) (lone_page rule input)
  command_output Cajole input = source_output cajoled_line (outcome Cajita [] input)
  command_output Format input = format_output (formatted input)
  command_output (Run o) input = of_manifest (page_output (texts_parts o)) (page_of rule true input)
  command_output (OfPage o) input = of_manifest (page_output (cajoled_parts true o)) (page_of rule false input)
  command_output (Gen n o) input = page_output (summary_parts n o) (generated rule n)

  abbrev pub input_output : Option Command → List ℕ → Written
  input_output None input = (codes "usage" ++ line_end, status.Usage)
  input_output (Some c) input = if nat_lt (longest_input c) (length input) then (too_long c, status.Refused) else command_output c input

  -- what is written, and the status
  abbrev pub output : List (List ℕ) → List ℕ → Written
  output words input = input_output (command_of words) input
