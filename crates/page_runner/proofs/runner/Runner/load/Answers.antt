use Rattle.std.proofs.Common.{◌≡◌, ◌<◌, length, Err, rules, refl, ap, ◌∙◌, arith}
use Rattle.std.specs.Prelude.{set}
use Rattle.std.specs.Vec.{with_item}
use Rattle.es3_tree.specs.View.{program}
use Rattle.page_runner.specs.Deeds.{grants_of}
use Rattle.page_runner.specs.Page.{value_given}
use Rattle.page_runner.specs.Runner.{LoadStarts}
use Rattle.page_runner.specs.declared.runner.Runner.{Runner}
use Rattle.page_runner.proofs.Done.{load_cut, load_over}
use Rattle.page_runner.proofs.runner.Runner.load.Goals as goal

pub returns-in_err-completion-clause-came : goal.returns-in_err-completion-clause-came
returns-in_err-completion-clause-came c =
    let a = c.args.self.now in
    let b = c.start_load.new.self in
    let e = c.in_err-completion.field-0.0 in
    let p = program c.args.program in
    let gs = grants_of c.args.grants.items in
    let starts : LoadStarts c.args.owner p gs a b = search rules in
    let failed : c.from_residual-in_err-completion.result ≡ Err e = search rules in
    load_cut c.args.owner p gs a b c.run.new.self e c.from_residual-in_err-completion.result failed starts c.in_err-completion.ensures.came

pub returns-clause-came : goal.returns-clause-came
returns-clause-came c =
    let a = c.args.self.now in
    let b = c.start_load.new.self in
    let how = c.in_ok-completion.completion in
    let m = c.args.owner in
    let p = program c.args.program in
    let gs = grants_of c.args.grants.items in
    let d : Runner = record c.run.new.self { natives = c.tell.new.natives; results = with_item c.run.new.self.results m c.value_given.result } in
    let starts : LoadStarts m p gs a b = search rules in
    let long = c.requires.holds.1 in
    let few = c.requires.there in
    let there : m < length a.results.items = omega (arith, long, few) in
    let before : c.run.new.self.results ≡ a.results = c.in_ok-completion.ensures.results ∙ c.start_load.ensures.results in
    let results : d.results.items ≡ set a.results.items m (value_given how) = ap (λ v. set c.run.new.self.results.items m v) c.value_given.ensures ∙ ap (λ vs. set vs.items m (value_given how)) before in
    load_over m p gs a b c.run.new.self d how starts c.in_ok-completion.ensures.came refl refl refl c.in_ok-tell.ensures.told there results
