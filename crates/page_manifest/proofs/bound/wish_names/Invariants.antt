use Rattle.std.proofs.Common.{◌≡◌, map, take}
use Rattle.page_manifest.proofs.bound.wish_names.Given as goal

abbrev pub invariant-loop-name : goal.invariant-loop-name
invariant-loop-name l = l.names.items ≡ map (λ w. w.0) (take l.name-index l.wishes)
