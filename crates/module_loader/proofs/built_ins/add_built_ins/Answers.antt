use Rattle.std.proofs.Common.{◌≡◌, OnOk, map, ap, ◌∙◌, subst}
use Rattle.es3_objects.specs.declared.value.Tag.TheVariants as tag
use Rattle.module_loader.specs.declared.built_ins.TheConstants.{MATH_FUNCTIONS, FUNCTIONS}
use Rattle.module_loader.specs.BuiltIns.{with_functions, with_frozen, with_built_ins}
use Rattle.module_loader.proofs.built_ins.add_built_ins.Goals as goal

pub returns-clause-store : goal.returns-clause-store
unfolding with_built_ins
returns-clause-store c =
    subst (λ h. OnOk c.add_functions.result (c.add_functions.new.heap ≡ with_functions FUNCTIONS h))
    (c.in_ok-add_record-2.ensures.store ∙ ap (with_frozen (map (λ f. (f.0.now, f.1)) MATH_FUNCTIONS) (tag.Built 1)) c.in_ok-add_record.ensures.store)
    c.add_functions.ensures.store
