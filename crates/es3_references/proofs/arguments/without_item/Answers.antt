use Rattle.std.proofs.Common.{ap, sym, ◌∙◌}
use Rattle.std.specs.Prelude.{map}
use Rattle.es3_language.specs.Arguments.{without_item}
use Rattle.es3_moves.specs.Texts.{plain_item}
use Rattle.es3_references.proofs.Sharing.{none_without}
use Rattle.es3_references.proofs.arguments.without_item.Goals as goal

pub returns-in-None : goal.returns-in-None
returns-in-None c =
    let k = c.args.key.now in
    let same = c.deref.ensures.value in
    ap (λ l. map plain_item l) (sym same)
    ∙ none_without k c.deref.result.now (sym c.item_place.ensures ∙ c.in-None.is)
    ∙ ap (λ l. without_item k (map plain_item l)) same
