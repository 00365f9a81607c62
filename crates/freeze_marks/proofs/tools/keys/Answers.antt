use Rattle.std.proofs.Common.{◌≡◌, Some, None, map, rules}
use Rattle.es3_objects.specs.declared.value.Value.TheVariants.{Text}
use Rattle.freeze_marks.specs.Listing.{public_keys}
use Rattle.freeze_marks.proofs.Rows.{keys_comes, keys_refused}
use Rattle.freeze_marks.proofs.tools.keys.Goals as goal

pub returns-in-Some-clause-outcome : goal.returns-in-Some-clause-outcome
returns-in-Some-clause-outcome c =
    let h = c.args.h.now in
    let found : Some c.in-Some.keys.items ≡ public_keys h c.value_or.result.now = search rules in
    let items : c.in_ok-items-in-Some.items.items ≡ map Text c.in-Some.keys.items = search rules in
    keys_comes c.args.by c.args.this.now c.args.args.now h c.new_array.new.h _ _ _ c.new_array.result c.value_or.ensures found items c.new_array.ensures.outcome

pub returns-clause-outcome : goal.returns-clause-outcome
returns-clause-outcome c =
    let h = c.args.h.now in
    let none : None ≡ public_keys h c.value_or.result.now = search rules in
    keys_refused c.args.by c.args.this.now c.args.args.now h c.thrown.new.h _ c.thrown.result c.value_or.ensures none c.thrown.ensures.outcome
