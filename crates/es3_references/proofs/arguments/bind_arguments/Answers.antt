use Rattle.std.proofs.Common.{◌≡◌, ◌<◌, [], ◌∷◌, length, ap, sym, ◌∙◌, arith}
use Rattle.std.specs.Prelude.{map}
use Rattle.std.proofs.lemmas.List.{map-append}
use Rattle.std.proofs.lemmas.Result.{on_ok_weaker}
use Rattle.es3_language.specs.Arguments.{with_arguments_object}
use Rattle.es3_moves.specs.Code.{names_of}
use Rattle.es3_moves.specs.Texts.{plain_item, plain_share}
use Rattle.es3_moves.specs.declared.texts.Owner.TheVariants.{Activation, OwnName, Caught, WithObject}
use Rattle.es3_references.specs.Shares.{shared_front}
use Rattle.es3_references.proofs.Made.{shares_in, made_here, made_bound}
use Rattle.es3_references.proofs.arguments.bind_arguments.Goals as goal

pub returns-in_ok-name-in-Activation-clause-store : goal.returns-in_ok-name-in-Activation-clause-store
returns-in_ok-name-in-Activation-clause-store c =
    let h = c.args.h.now in
    let t = c.args.texts.now in
    let f = c.in-Activation.callee in
    let ps = c.in-Activation.params in
    let xs = names_of ps.value.items in
    let vs = c.in-Activation.args in
    let x = c.index-scope.result.now in
    let o = c.in_ok-object-in-Activation.object in
    let items = map plain_item c.in_ok-items-in-Activation.items.items in
    let within : c.args.c < length t.scopes.items = omega arith in
    let here = made_here h t c.args.c x (Activation f ps vs) within c.index-scope.ensures c.in-Activation.is in
    let first : c.deref-in-Activation.result.now ≡ ps.value.items = cc in
    let third : c.deref-in-Activation-3.result.now ≡ ps.value.items = cc in
    let count : c.len-in-Activation.result ≡ length vs.items = omega arith in
    let made = c.in_ok-object-in-Activation.ensures.store
    ∙ ap (λ l. with_arguments_object f (names_of l) c.deref-in-Activation-4.result.now x.names h) third
    ∙ ap (λ l. with_arguments_object f xs l x.names h) c.deref-in-Activation-4.ensures.value in
    let fronts = c.in_ok-items-in-Activation.ensures
    ∙ ap (λ l. shared_front 0 (names_of l) c.len-in-Activation.result) first
    ∙ ap (λ n. shared_front 0 xs n) count in
    let pushed = ap (λ l. map plain_share l) c.in_ok-push-in-Activation.ensures.items ∙ map-append plain_share t.shared.items (record { object = o; scope = c.args.c; items = c.in_ok-items-in-Activation.items } ∷ []) in
    on_ok_weaker c.put.result (λ bound. made_bound h c.make_object.new.h t c.put.new.self c.args.c o f xs vs.items x.names c.in_ok-name-in-Activation.name.value items here (c.in_ok-name-in-Activation.ensures.cases ∙ t.named) c.in_ok-object-in-Activation.ensures.id made fronts bound c.put.ensures.functions c.put.ensures.globals (ap shares_in c.put.ensures.shared ∙ pushed)) c.put.ensures.scopes

pub returns-in-OwnName-clause-store : goal.returns-in-OwnName-clause-store
returns-in-OwnName-clause-store c = sym (made_here c.args.h.now c.args.texts.now c.args.c c.index-scope.result.now OwnName (omega arith) c.index-scope.ensures c.in-OwnName.is)

pub returns-in-Caught-clause-store : goal.returns-in-Caught-clause-store
returns-in-Caught-clause-store c = sym (made_here c.args.h.now c.args.texts.now c.args.c c.index-scope.result.now Caught (omega arith) c.index-scope.ensures c.in-Caught.is)

pub returns-in-WithObject-clause-store : goal.returns-in-WithObject-clause-store
returns-in-WithObject-clause-store c = sym (made_here c.args.h.now c.args.texts.now c.args.c c.index-scope.result.now (WithObject c.in-WithObject.field-0) (omega arith) c.index-scope.ensures c.in-WithObject.is)
