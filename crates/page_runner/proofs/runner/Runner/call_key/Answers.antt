use Rattle.std.proofs.Common.{◌≡◌, List, ◌∷◌, map, false, Ok, rules, refl, ap, ◌∙◌}
use Rattle.std.specs.Prelude.{slice_get, unwrap_or}
use Rattle.std.proofs.lemmas.Option.{unwrap_or-slice_get}
use Rattle.std.proofs.lemmas.Result.{IfOk-at_ok}
use Rattle.es3_objects.specs.declared.value.Value.{Value}
use Rattle.es3_objects.specs.declared.value.Value.TheVariants.{Undefined}
use Rattle.es3_language.specs.Natives.{throw_reply, invoke_reply}
use Rattle.page_natives.specs.Natives.{Kept}
use Rattle.host_rules.specs.Plain.{plain}
use Rattle.module_loader.specs.KeyCalls.{reply_of}
use Rattle.module_loader.specs.Turns.{plain_value, key_done}
use Rattle.page_runner.specs.Runner.{results_of}
use Rattle.page_runner.specs.declared.runner.Runner.{Runner}
use Rattle.page_runner.proofs.Done.{looked, key_called, key_thrown}
use Rattle.page_runner.proofs.runner.Runner.call_key.Goals as goal

pub returns-in-Call-clause-came : goal.returns-in-Call-clause-came
returns-in-Call-clause-came c =
    let a = c.args.self.now in
    let b : Runner = record a { heap = c.key_call.new.h; machine = c.start_call.new.self } in
    let m = c.args.owner in
    let key = c.args.key.now in
    let us = map plain_value (map plain c.args.arguments.items) in
    let on = c.value_or-on.result.now in
    let args = c.in_ok-values.values.items in
    let k = c.in_ok-function.field-0 in
    let found_it : c.key_call.result ≡ Ok k = search (c.in_ok-function.was, c.map_err-2.ensures.cases, rules) in
    let replies : (z : Kept) → reply_of k ≡ (key_done m key (on ∷ args) a.heap z).reply = IfOk-at_ok (λ q. (z : Kept) → reply_of q ≡ (key_done m key (on ∷ args) a.heap z).reply) found_it c.key_call.ensures.reply in
    let heaps : (z : Kept) → c.key_call.new.h ≡ (key_done m key (on ∷ args) a.heap z).heap = IfOk-at_ok (λ q. (z : Kept) → c.key_call.new.h ≡ (key_done m key (on ∷ args) a.heap z).heap) found_it c.key_call.ensures.store in
    let same_on : on ≡ results_of a.results.items m = c.value_or-on.ensures ∙ ap (λ (l : List Value). unwrap_or (slice_get l m) Undefined) c.deref.ensures.value ∙ unwrap_or-slice_get a.results.items m Undefined in
    let same_args : args ≡ us = search rules in
    let found = looked a m key on (results_of a.results.items m) args us b.heap k (invoke_reply false c.in-Call.function c.in-Call.receiver c.in-Call.values.items) replies heaps same_on same_args (ap reply_of c.in-Call.is) in
    key_called a b c.run.new.self m key (results_of a.results.items m ∷ us) c.in-Call.values.items c.in-Call.function c.in-Call.receiver c.run.result found c.run.ensures.came c.start_call.ensures.started c.start_call.ensures.store refl refl

pub returns-clause-came : goal.returns-clause-came
returns-clause-came c =
    let a = c.args.self.now in
    let b : Runner = record a { heap = c.key_call.new.h } in
    let m = c.args.owner in
    let key = c.args.key.now in
    let us = map plain_value (map plain c.args.arguments.items) in
    let on = c.value_or-on.result.now in
    let args = c.in_ok-values.values.items in
    let k = c.in_ok-function.field-0 in
    let found_it : c.key_call.result ≡ Ok k = search (c.in_ok-function.was, c.map_err-2.ensures.cases, rules) in
    let replies : (z : Kept) → reply_of k ≡ (key_done m key (on ∷ args) a.heap z).reply = IfOk-at_ok (λ q. (z : Kept) → reply_of q ≡ (key_done m key (on ∷ args) a.heap z).reply) found_it c.key_call.ensures.reply in
    let heaps : (z : Kept) → c.key_call.new.h ≡ (key_done m key (on ∷ args) a.heap z).heap = IfOk-at_ok (λ q. (z : Kept) → c.key_call.new.h ≡ (key_done m key (on ∷ args) a.heap z).heap) found_it c.key_call.ensures.store in
    let same_on : on ≡ results_of a.results.items m = c.value_or-on.ensures ∙ ap (λ (l : List Value). unwrap_or (slice_get l m) Undefined) c.deref.ensures.value ∙ unwrap_or-slice_get a.results.items m Undefined in
    let same_args : args ≡ us = search rules in
    let found = looked a m key on (results_of a.results.items m) args us b.heap k (throw_reply c.in-Throw.value) replies heaps same_on same_args (ap reply_of c.in-Throw.is) in
    key_thrown a b m key (results_of a.results.items m ∷ us) c.in-Throw.value found refl refl refl
