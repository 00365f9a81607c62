use Rattle.std.proofs.Common.{◌≡◌, map}
use Rattle.page_manifest.specs.Walk.{traverse}
use Rattle.page_manifest.proofs.Chains.{behind}
use Rattle.page_manifest.specs.Bound as spec
use Rattle.page_manifest.specs.NamedView as wanted
use Rattle.std.specs.Vec.Iter.{into_iter_items}
use Rattle.std.specs.Prelude.{vec_len}
use Rattle.page_manifest.specs.View as shown
use Rattle.page_manifest.proofs.bound.bound_grants.Given as goal

abbrev pub invariant-loop-name : goal.invariant-loop-name
invariant-loop-name l = behind (shown.grants l.grants.items) (traverse (λ _. spec.bound_wish l.cells l.modules l.at) (vec_len l.grants) (map wanted.named_wish (into_iter_items l.name-iterator))) ≡ traverse (λ _. spec.bound_wish l.cells l.modules l.at) 0 (map wanted.named_wish l.fn.wishes.items)
