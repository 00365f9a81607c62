use Rattle.std.proofs.Common.{true, subst}
use Rattle.std.specs.Prelude.{◌≡◌, option_copied}
use Rattle.std.specs.Str.{is_utf8}
use Rattle.css_grammar.specs.Grammar.{Spells}
use Rattle.css_reader.specs.Answers.{RefusedSo}
use Rattle.css_tree.specs.Views.{sheet_of}
use Rattle.css_urls.specs.Answers.{for_sheets}
use Rattle.url_rule.specs.Table.{rows_of}
use Rattle.page_manifest.specs.View.{style}
use Rattle.page_styles.specs.Sheets.{text_of}
use Rattle.page_styles.proofs.Answered.{style_refused, style_written}
use Rattle.page_styles.proofs.style_text.Goals as goal

pub returns-in-Err : goal.returns-in-Err
returns-in-Err g c =
    let refused = subst (λ bytes. RefusedSo c.in-Err.error bytes) c.deref.ensures.value c.in-Err.ensures in
    style_refused (for_sheets (rows_of c.args.rule.now.table.items) (option_copied c.args.base)) (style c.args.style.now) c.no_sheet.result (c.no_sheet.ensures c.args.style.now.css.items refused)

pub returns-in_ok-print_css-in-Ok : goal.returns-in_ok-print_css-in-Ok
returns-in_ok-print_css-in-Ok g c =
    let read = subst (λ bytes. (is_utf8 bytes ≡ true) × Spells (sheet_of c.in-Ok.sheet) (text_of bytes)) c.deref.ensures.value c.in-Ok.ensures in
    style_written (for_sheets (rows_of c.args.rule.now.table.items) (option_copied c.args.base)) (style c.args.style.now) (sheet_of c.in-Ok.sheet) (sheet_of c.in_ok-kept-in-Ok.kept) c.in_ok-scope-in-Ok.scope
    c.in_ok-print_css-in-Ok.field-0.items read c.in_ok-scope-in-Ok.ensures c.in_ok-kept-in-Ok.ensures c.in_ok-print_css-in-Ok.ensures
