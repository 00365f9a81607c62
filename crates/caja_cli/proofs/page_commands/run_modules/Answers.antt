use Rattle.std.proofs.Common.{map, ◌∙◌}
use Rattle.std.proofs.lemmas.List.{length-map}
use Rattle.page_manifest.specs.View.{page, module_spec}
use Rattle.page_cajole.specs.PageAnswers.{runnable}
use Rattle.caja_cli.specs.Output.{parts_in}
use Rattle.caja_cli.proofs.Documents.{text_of, status_of, refused_text, refused_status}
use Rattle.caja_cli.proofs.Lengths.{as_many}
use Rattle.caja_cli.proofs.page_commands.run_modules.Goals as goal

pub run_in_form-requires-clause-same : goal.run_in_form-requires-clause-same
run_in_form-requires-clause-same c = as_many runnable c.in-Ok.cajoled.items (page c.args.page) c.in-Ok.ensures ∙ length-map c.args.page.modules.items module_spec

pub returns-in-Ok-clause-text : goal.returns-in-Ok-clause-text
returns-in-Ok-clause-text c = text_of (parts_in c.args.form c.args.options) (page c.args.page) c.args.found c.requires.found (map runnable c.in-Ok.cajoled.items) c.run_in_form.result c.in-Ok.ensures c.run_in_form.ensures.text

pub returns-in-Ok-clause-status : goal.returns-in-Ok-clause-status
returns-in-Ok-clause-status c = status_of (parts_in c.args.form c.args.options) (page c.args.page) c.args.found c.requires.found (map runnable c.in-Ok.cajoled.items) c.run_in_form.result c.in-Ok.ensures c.run_in_form.ensures.status

pub returns-in-Err-Module-clause-text : goal.returns-in-Err-Module-clause-text
returns-in-Err-Module-clause-text c =
    refused_text (parts_in c.args.form c.args.options) (page c.args.page) c.args.found c.requires.found c.in-Err-Module.field-0 c.in-Err-Module.at _ c.in-Err-Module.stage _ c.refused_module.result c.in-Err-Module.field-0-is c.in-Err-Module.at-is c.in-Err-Module.stage-is c.in-Err-Module.ensures c.refused_module.ensures.text

pub returns-in-Err-Module-clause-status : goal.returns-in-Err-Module-clause-status
returns-in-Err-Module-clause-status c =
    refused_status (parts_in c.args.form c.args.options) (page c.args.page) c.args.found c.requires.found c.in-Err-Module.field-0 c.in-Err-Module.at _ c.in-Err-Module.stage _ c.refused_module.result c.in-Err-Module.field-0-is c.in-Err-Module.at-is c.in-Err-Module.stage-is c.in-Err-Module.ensures c.refused_module.ensures.status
