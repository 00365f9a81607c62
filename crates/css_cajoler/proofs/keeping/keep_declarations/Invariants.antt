use Rattle.std.proofs.Common.{◌≡◌, take}
use Rattle.std.specs.List.{flat_map}
use Rattle.std.specs.Prelude.{option_copied}
use Rattle.css_tree.specs.Views.{declarations_of}
use Rattle.css_kept.specs.Kept.{kept_declaration}
use Rattle.url_rule.specs.Table.{rows_of}
use Rattle.css_urls.specs.Answers.{for_sheets}
use Rattle.css_cajoler.proofs.keeping.keep_declarations.Given as goal

abbrev pub invariant-loop-declaration : goal.invariant-loop-declaration
invariant-loop-declaration g l =
    let a = for_sheets (rows_of l.urls.table.items) (option_copied l.base) in
    declarations_of l.kept.items ≡ flat_map (kept_declaration a) (declarations_of (take l.declaration-index l.declarations))
