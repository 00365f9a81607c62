use Rattle.std.proofs.Common.{◌≡◌, ◌++◌, drop, map}
use Rattle.es3_objects.specs.declared.value.Value.TheVariants.{Obj}
use Rattle.module_loader.proofs.imports.push_all.Given as goal

abbrev pub invariant-loop-name : goal.invariant-loop-name
invariant-loop-name l = l.values.items ++ map (λ f. (f.0.now, Obj f.1)) (drop l.name-index l.names) ≡ l.initial.values.items ++ map (λ f. (f.0.now, Obj f.1)) l.names
