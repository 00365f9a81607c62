use Rattle.css_values.proofs.Trimmed.{trimmed_is}
use Rattle.css_values.proofs.links.trimmed.Goals as goal

pub returns : goal.returns
returns c =
    trimmed_is c.args.text.now c.behind-rest.result.now c.first.result.now c.spaces_before-front.result c.spaces_behind-end.result
    c.first.ensures c.behind-rest.ensures c.spaces_before-front.ensures.is c.spaces_behind-end.ensures.is
