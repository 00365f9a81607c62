use Rattle.std.proofs.Common.{[], ◌++◌, ◌∷◌, ap, ◌∙◌}
use Rattle.es3_objects.specs.declared.value.Value.TheVariants.{Obj}
use Rattle.es3_language.specs.Store.{own_name}
use Rattle.es3_moves.specs.Code.{plain_func}
use Rattle.es3_moves.specs.Where.{plain_chain}
use Rattle.es3_moves.specs.Texts.{store_of, plain_scopes}
use Rattle.es3_calls.specs.Calls.{innermost}
use Rattle.es3_calls.proofs.Made.{scope_opened, name_bound, named_last}
use Rattle.es3_calls.proofs.function.make_named.Goals as goal

pub returns-clause-store : goal.returns-clause-store
returns-clause-store c =
    let h = c.args.h.now in
    let h' = c.make_function.new.h in
    let t = c.args.texts.now in
    let t1 = c.open_scope.new.self in
    let t2 = c.make_function.new.texts in
    let t3 = c.put.new.self in
    let x = c.args.name.now.value in
    let k = c.innermost-c.result in
    let o = c.in_ok-object.object in
    let chain' = plain_chain c.in_ok-chain.chain.value in
    let opened = scope_opened h t t1 own_name [] (c.in_ok-chain.ensures.scopes ∙ ap (λ names. plain_scopes t ++ record { owner = own_name; names = names } ∷ []) c.new.ensures) c.in_ok-chain.ensures.functions c.in_ok-chain.ensures.globals c.in_ok-chain.ensures.shared in
    let bound = name_bound h' t2 t3 k x (Obj o) c.in_ok-put.ensures.scopes c.in_ok-put.ensures.functions c.in_ok-put.ensures.globals c.in_ok-put.ensures.shared in
    named_last (plain_func c.args.function.now) x (plain_chain c.args.outer.value) chain' c.args.maker k o (store_of h t) (store_of h t1) (store_of h' t2) (store_of h' t3) opened c.in_ok-chain.ensures.chain (c.innermost-c.ensures ∙ ap (λ d. innermost (plain_chain d)) c.deref.ensures) c.in_ok-object.ensures.store c.in_ok-object.ensures.id bound
