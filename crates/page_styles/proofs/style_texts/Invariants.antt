use Rattle.std.proofs.Common.{◌≡◌, map, drop}
use Rattle.std.specs.Prelude.{option_copied}
use Rattle.url_rule.specs.Table.{rows_of}
use Rattle.css_urls.specs.Answers.{for_sheets}
use Rattle.page_manifest.specs.Walk.{traverse}
use Rattle.page_manifest.specs.View.{style}
use Rattle.page_manifest.proofs.Chains.{behind}
use Rattle.page_styles.specs.Sheets.{style_of, styles_of}
use Rattle.page_styles.proofs.style_texts.Given as goal

abbrev pub invariant-loop-style : goal.invariant-loop-style
invariant-loop-style g l =
    behind (map (λ text. text.items) l.texts.items) (traverse (λ _. style_of (for_sheets (rows_of l.rule.table.items) (option_copied l.base))) l.style-index (map style (drop l.style-index l.styles)))
    ≡ styles_of (for_sheets (rows_of l.rule.table.items) (option_copied l.base)) (map style l.styles)
