use Rattle.std.proofs.Common.{ap, ◌∙◌, codes}
use Rattle.es3_tree.specs.Tree as tree
use Rattle.rewrite_parts.specs.Parts.{runtime_call, single}
use Rattle.rewrite_parts.proofs.Joined.{one-pushed}
use Rattle.rewrite_parts.proofs.heads.add_arguments.Goals as goal

pub returns : goal.returns
returns c =
    one-pushed c.args.items.now.items _ _ c.in_ok-push.ensures.items c.in_ok-own_name.ensures
    (ap tree.some_expr (c.in_ok-value.ensures ∙ ap (λ a. runtime_call (codes "args") (single a)) c.in_ok-arguments.ensures))
