use Rattle.std.proofs.Common.{◌≡◌, ◌++◌, map}
use Rattle.page_manifest.specs.View.{style}
use Rattle.caja_cli.specs.Output.{style_parts}
use Rattle.caja_cli.proofs.parts.push_styles.Given as goal

abbrev pub invariant-loop-style : goal.invariant-loop-style
invariant-loop-style l =
    l.out.items ++ style_parts (map style l.style-iterator.a.rest.now) (map (λ text. text.items) l.style-iterator.b.rest.now)
    ≡ l.fn.out.items ++ style_parts (map style l.fn.styles) (map (λ text. text.items) l.fn.texts)
