use Rattle.std.proofs.Common.{◌≡◌, false, [], ◌∷◌, ◌++◌, length, rules, sym, ap, ◌∙◌}
use Rattle.std.specs.Prelude.{is_some}
use Rattle.indexmap.specs.IndexMap.{insert_entry}
use Rattle.caja_units.specs.Units.{same_units}
use Rattle.page_roots.specs.Roots.{place_of}
use Rattle.page_roots.specs.Numbered.{numbered}
use Rattle.page_roots.proofs.Tables.{place_told, is_there, is_new, none_of, numbered-new}
use Rattle.page_roots.proofs.granted.add_root.Goals as goal

pub returns-then-is_some-clause-list : goal.returns-then-is_some-clause-list
returns-then-is_some-clause-list c =
    is_there c.args.id.now c.args.owner c.args.list.now.items
    (place_told c.args.id.now c.args.list.now.items c.args.numbers.now c.get.result c.is_some.result c.requires.found c.get.ensures c.is_some.ensures ∙ c.if-is_some.true)

pub returns-clause-list : goal.returns-clause-list
returns-clause-list c =
    let rs = c.args.list.now.items in
    let none : is_some (place_of rs c.args.id.now) ≡ false = place_told c.args.id.now rs c.args.numbers.now c.get.result c.is_some.result c.requires.found c.get.ensures c.is_some.ensures ∙ c.if-is_some.false in
    c.in_ok-push.ensures.items ∙ ap (λ k. rs ++ (k, c.args.owner) ∷ []) c.in_ok-copy.ensures ∙ is_new c.args.id.now c.args.owner rs none

pub returns-clause-found : goal.returns-clause-found
returns-clause-found c =
    let rs = c.args.list.now.items in
    let id = c.args.id.now in
    let none : is_some (place_of rs id) ≡ false = place_told id rs c.args.numbers.now c.get.result c.is_some.result c.requires.found c.get.ensures c.is_some.ensures ∙ c.if-is_some.false in
    let count : c.len-number.result ≡ length rs = search rules in
    let pushed : c.push.new.self.items ≡ rs ++ (id, c.args.owner) ∷ [] = c.in_ok-push.ensures.items ∙ ap (λ k. rs ++ (k, c.args.owner) ∷ []) c.in_ok-copy.ensures in
    c.in_ok-insert.ensures.ok
    ∙ ap (λ l. insert_entry same_units l id c.len-number.result) c.requires.found
    ∙ ap (insert_entry same_units (numbered 0 rs) id) count
    ∙ numbered-new id c.args.owner rs (none_of (place_of rs id) none)
    ∙ ap (numbered 0) (sym pushed)
