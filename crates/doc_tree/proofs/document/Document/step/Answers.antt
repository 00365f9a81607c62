use Rattle.std.proofs.Common.{◌≡◌, ◌<◌, length, arith}
use Rattle.std.specs.Prelude.{slice_get, nat_lt}
use Rattle.std.proofs.lemmas.Bool.Decides.{nat_tests}
use Rattle.doc_tree.specs.Printing.{shown}
use Rattle.doc_tree.proofs.Left.{level, next_down, step-down, weight-down, step-up, weight-up}
use Rattle.doc_tree.proofs.document.Document.step.Goals as goal

pub returns-in_ok-push-in-Some-2-clause-out : goal.returns-in_ok-push-in-Some-2-clause-out
returns-in_ok-push-in-Some-2-clause-out c =
    let count : c.len.result ≡ length c.args.levels.now.items = omega arith in
    let went = next_down (nat_lt c.len.result c.args.most) (slice_get (shown c.args.self.now c.args.node) c.args.place) c.in-Some.child c.in-Some.ensures.is in
    let below : c.len.result < c.args.most = grind (arith, nat_tests, went.0) in
    let less : length c.args.levels.now.items < c.args.most = omega arith in
    rw (c.in_ok-push-in-Some-2.ensures.items, c.in_ok-push-in-Some.ensures.items, c.in_ok-open-in-Some.ensures) (step-down c.args.most c.args.self.now c.args.levels.now.items (level c.args.node c.args.place) c.in-Some.child c.args.out.now.items less went.1)

pub returns-in_ok-push-in-Some-2-clause-less : goal.returns-in_ok-push-in-Some-2-clause-less
returns-in_ok-push-in-Some-2-clause-less c =
    let count : c.len.result ≡ length c.args.levels.now.items = omega arith in
    let went = next_down (nat_lt c.len.result c.args.most) (slice_get (shown c.args.self.now c.args.node) c.args.place) c.in-Some.child c.in-Some.ensures.is in
    let below : c.len.result < c.args.most = grind (arith, nat_tests, went.0) in
    let less : length c.args.levels.now.items < c.args.most = omega arith in
    rw (c.in_ok-push-in-Some-2.ensures.items, c.in_ok-push-in-Some.ensures.items) (weight-down c.args.most c.args.self.now c.args.levels.now.items (level c.args.node c.args.place) c.in-Some.child less went.1)

pub returns-in_ok-close-in-None-clause-out : goal.returns-in_ok-close-in-None-clause-out
returns-in_ok-close-in-None-clause-out c =
    let count : c.len.result ≡ length c.args.levels.now.items = omega arith in
    rw (c.in_ok-close-in-None.ensures) (step-up c.args.most c.len.result c.args.self.now c.args.levels.now.items (level c.args.node c.args.place) c.args.out.now.items count c.in-None.ensures.is)

pub returns-in_ok-close-in-None-clause-less : goal.returns-in_ok-close-in-None-clause-less
returns-in_ok-close-in-None-clause-less c = weight-up c.args.most c.args.self.now c.args.levels.now.items (level c.args.node c.args.place)
