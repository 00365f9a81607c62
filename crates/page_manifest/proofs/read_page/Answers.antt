use Rattle.url_rule.specs.Table.{rows_of}
use Rattle.page_manifest.specs.Faults.{chain}
use Rattle.page_manifest.specs.Manifest.{manifest}
use Rattle.page_manifest.specs.Bound.{bound}
use Rattle.page_manifest.specs.View.{page}
use Rattle.page_manifest.proofs.Chains.{goes_on}
use Rattle.page_manifest.proofs.Validity.{valid_answer}
use Rattle.page_manifest.proofs.read_page.Goals as goal

pub returns-clause-valid : goal.returns-clause-valid
returns-clause-valid c =
    let rule = rows_of c.args.rule.items in
    valid_answer rule c.args.es3 c.args.text.now c.bound_page.result
    (goes_on page c.bound_page.result (λ d. chain (manifest c.args.es3 d) (bound rule)) c.in_ok-value.ensures (goes_on page c.bound_page.result (bound rule) c.in_ok-manifest.ensures c.bound_page.ensures.answer))
