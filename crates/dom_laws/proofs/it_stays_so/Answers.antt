use Rattle.std.proofs.Common.{arith}
use Rattle.dom_laws.proofs.Store.{store_keeps}
use Rattle.dom_laws.proofs.Fits.{facet_keeps, others_keep}
use Rattle.dom_laws.proofs.Begun.{begins_fit}
use Rattle.dom_laws.proofs.Grown.{same_fits, grown_fits}
use Rattle.dom_laws.proofs.Turns.{method_keeps}
use Rattle.dom_laws.proofs.it_stays_so.Goals as goal

pub returns : goal.returns
returns c = record {
  begins = begins_fit;
  methods = method_keeps;
  facets = facet_keeps;
  document = λ h z d f a grows same. same_fits h z d z.change f a grows (omega (arith, same));
  growth = λ h z d r f a grows few of. grown_fits h z d z.change f a grows r few of;
  others = others_keep;
  store = store_keeps;
}
