use Rattle.std.proofs.Common.{◌≡◌, Some, None, is_some, option_copied, ap, ◌∙◌}
use Rattle.es3_objects.specs.Properties.{find}
use Rattle.es3_objects.specs.Reading.{property}
use Rattle.es3_objects.proofs.Listed.{seen, revalued-defined, revalued-none}
use Rattle.es3_objects.proofs.properties.Properties.revalue.Goals as goal

pub returns-in_default : goal.returns-in_default
returns-in_default c =
    let k = c.args.k.now in
    let none : find k c.args.self.now ≡ None = c.find.ensures ∙ ap (λ r. seen k (option_copied r)) c.in_default.is in
    revalued-none k c.args.value c.args.self.now none

pub overwrite-requires-clause-there : goal.overwrite-requires-clause-there
overwrite-requires-clause-there c =
    let k = c.args.k.now in
    ap is_some (c.find.ensures ∙ ap (λ r. seen k (option_copied r)) c.in-Some.is)

pub returns : goal.returns
returns c =
    let k = c.args.k.now in
    let held = c.in-Some.held.now in
    let found : find k c.args.self.now ≡ Some (property k held.value held.attrs) = c.find.ensures ∙ ap (λ r. seen k (option_copied r)) c.in-Some.is in
    c.overwrite.ensures ∙ revalued-defined k c.args.value c.args.self.now (property k held.value held.attrs) found
