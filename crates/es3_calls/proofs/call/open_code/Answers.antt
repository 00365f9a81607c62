use Rattle.std.proofs.Common.{◌≡◌, ◌<◌, ◌∷◌, true, false, length, arith, ap, ◌∙◌, None}
use Rattle.std.specs.Prelude.{nat_lt, slice_get}
use Rattle.std.proofs.lemmas.Bool.Decides.{nat_tests}
use Rattle.es3_objects.specs.declared.value.Value.TheVariants.{Obj}
use Rattle.es3_language.specs.Tasks.{Env}
use Rattle.es3_language.specs.Lists.{list}
use Rattle.es3_moves.specs.Code.{plain_stmts, stmts_at}
use Rattle.es3_moves.specs.Where.{plain_chain}
use Rattle.es3_moves.specs.Texts.{store_of, funcs_of, plain_code, plain_codes, plain_owner, plain_scopes}
use Rattle.es3_moves.specs.Moves.{keeps, end_plan}
use Rattle.es3_calls.specs.Calls.{call_end}
use Rattle.es3_calls.proofs.Callable.{code_here}
use Rattle.es3_calls.proofs.Opened.{entered_alike, code_opened, code_deep}
use Rattle.es3_calls.proofs.call.open_code.Goals as goal

pub returns-then-calls-ge1000-clause-plan : goal.returns-then-calls-ge1000-clause-plan
returns-then-calls-ge1000-clause-plan c =
    let t = c.args.texts.now in
    let x = c.index-code.result.now in
    let within : c.args.c < length t.codes.items = omega arith in
    let many : nat_lt c.args.calls 1000 ≡ false = grind (arith, nat_tests) in
    code_deep (slice_get (plain_codes t) c.args.c) (plain_code x) c.args.by (Obj c.args.callee) c.args.this c.args.args.items c.args.calls (store_of c.args.h.now t) (call_end c.args.made) (code_here t.codes.items c.args.c x within c.index-code.ensures) many

pub returns-clause-plan : goal.returns-clause-plan
returns-clause-plan c =
    let t = c.args.texts.now in
    let s = store_of c.args.h.now t in
    let x = c.index-code.result.now in
    let n = length (plain_scopes t) in
    let f = Obj c.args.callee in
    let outer = c.in_ok-outer.outer.value in
    let scope = c.in_ok-scope.scope in
    let within : c.args.c < length t.codes.items = omega arith in
    let few : nat_lt c.args.calls 1000 ≡ true = grind (arith, nat_tests) in
    let around = ap plain_chain c.in_ok-outer.ensures.cases in
    let declared = ap funcs_of c.deref-2.ensures.value ∙ c.in_ok-functions.ensures ∙ ap funcs_of c.deref.ensures.value in
    let store = c.in_ok-chain.ensures.store ∙ entered_alike s (plain_code x) f c.args.args.items c.args.by (plain_owner scope.owner) scope.names (plain_chain outer) (funcs_of c.deref-2.result.now) c.in_ok-scope.ensures around declared in
    let stands = λ (w : Env). list (keeps c.end_of.result) (stmts_at c.in_ok-body.body.value.items 0) None w (store_of c.open_call.new.h c.open_call.new.texts) (end_plan c.end_of.result) in
    ap stands c.in_ok-env.ensures
    ∙ code_opened (slice_get (plain_codes t) c.args.c) (plain_code x) c.args.by f c.args.this c.args.args.items c.args.calls s (store_of c.open_call.new.h c.open_call.new.texts) (keeps c.end_of.result) (stmts_at c.in_ok-body.body.value.items 0) (plain_chain c.in_ok-chain.chain.value) (end_plan c.end_of.result) (call_end c.args.made) (code_here t.codes.items c.args.c x within c.index-code.ensures) few c.end_of.ensures.kept (ap (λ b. plain_stmts b.items) c.in_ok-body.ensures.cases) (c.in_ok-chain.ensures.chain ∙ ap (λ o. n ∷ o) around) store c.end_of.ensures.plan
