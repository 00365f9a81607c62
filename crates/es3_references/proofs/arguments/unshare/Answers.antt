use Rattle.std.proofs.Common.{ap, ◌∙◌, arith}
use Rattle.std.specs.Prelude.{map}
use Rattle.es3_language.specs.Arguments.{unshared}
use Rattle.es3_moves.specs.Texts.{plain_share}
use Rattle.es3_references.specs.Shares.{one_unshared}
use Rattle.es3_references.proofs.Sharing.{shares_more}
use Rattle.es3_references.proofs.arguments.unshare.Goals as goal

pub loop-at-preserved : goal.loop-at-preserved
loop-at-preserved c =
    let o = c.args.object in
    let k = c.args.key.now in
    shares_more o k c.loop-at.at c.loop-at.shared.items c.unshare_in.new.share c.index_mut.result.now (unshared o k (map plain_share c.args.shared.now.items)) (omega arith) (c.unshare_in.ensures ∙ ap (λ g. one_unshared o k (plain_share g)) c.index_mut.ensures.value) c.loop-at.invariant
