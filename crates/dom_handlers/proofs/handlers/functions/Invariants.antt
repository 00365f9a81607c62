use Rattle.std.proofs.Common.{◌≡◌, ◌++◌, drop}
use Rattle.dom_handlers.specs.Handlers.{of_kind}
use Rattle.dom_handlers.specs.Kept.{found}
use Rattle.dom_handlers.proofs.handlers.functions.Given as goal

abbrev pub invariant-loop-place : goal.invariant-loop-place
invariant-loop-place l = l.out.items ++ of_kind l.kind (found l.handlers (drop l.place-index l.places)) ≡ of_kind l.kind (found l.handlers l.places)
