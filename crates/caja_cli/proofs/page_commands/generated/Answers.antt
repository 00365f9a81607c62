use Rattle.std.proofs.Common.{sym, subst}
use Rattle.url_rule.specs.Table.{rows_of}
use Rattle.page_manifest.specs.Valid.{IsValid}
use Rattle.caja_gen.proofs.Sound.{is_valid}
use Rattle.caja_cli.proofs.page_commands.generated.Goals as goal

pub run_sources-requires-clause-valid : goal.run_sources-requires-clause-valid
run_sources-requires-clause-valid g c = subst IsValid (sym c.in_ok-page.ensures) (is_valid (rows_of c.in_ok-rows.field-0.items) c.args.wanted c.requires.some c.requires.few)
