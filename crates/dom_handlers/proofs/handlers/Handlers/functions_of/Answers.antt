use Rattle.std.proofs.Common.{◌≡◌, ◌<◌, ◌≤◌, get_or, length, sym, ap, ◌∙◌, subst, arith}
use Rattle.std.specs.Prelude.{IfOk}
use Rattle.dom_handlers.specs.Handlers.{of_kind, functions_of}
use Rattle.dom_handlers.specs.Kept.{found}
use Rattle.dom_handlers.proofs.Kept.{found_kept, none_kept}
use Rattle.dom_handlers.proofs.handlers.Handlers.functions_of.Goals as goal

pub returns-in-Some : goal.returns-in-Some
returns-in-Some c =
    let q = c.in-Some.places.now in
    let pss = c.self.inside.places.items in
    let hs = c.self.inside.handlers.items in
    let list = c.deref.ensures.value in
    let there : c.args.n < length pss = omega (arith, c.in-Some.ensures.lookup.3.0, c.number.ensures, ap length list) in
    let is : q ≡ get_or pss c.args.n q = c.in-Some.ensures.lookup.1 ∙ ap (λ l. get_or l c.number.result q) list ∙ ap (λ i. get_or pss i q) c.number.ensures in
    let same : of_kind c.args.kind (found c.deref-in-Some.result.now c.deref-in-Some-2.result.now) ≡ functions_of c.args.kind c.args.n c.args.self.now =
    ap (λ l. of_kind c.args.kind (found l c.deref-in-Some-2.result.now)) c.deref-in-Some.ensures.value
    ∙ ap (λ ps. of_kind c.args.kind (found hs ps)) c.deref-in-Some-2.ensures.value
    ∙ ap (of_kind c.args.kind) (found_kept (λ ps. ps.items) pss hs c.args.n q c.self.invariant there is)
    ∙ ap (functions_of c.args.kind c.args.n) c.self.view_is in
    subst (λ l. IfOk c.functions.result (λ xs. xs.items ≡ l)) same c.functions.ensures

pub returns-in-None : goal.returns-in-None
returns-in-None c =
    let pss = c.self.inside.places.items in
    let hs = c.self.inside.handlers.items in
    let past : length pss ≤ c.args.n = omega (arith, c.in-None.ensures.lookup.3, c.number.ensures, ap length c.deref.ensures.value) in
    c.new.ensures.items ∙ sym (ap (of_kind c.args.kind) (none_kept (λ ps. ps.items) pss hs c.args.n c.self.invariant past)) ∙ ap (functions_of c.args.kind c.args.n) c.self.view_is
