use Rattle.std.proofs.Common.{◌≡◌, List, ◌∷◌, [], All, Err, rules, sym, ◌∙◌, subst}
use Rattle.std.specs.Vec.Iter.{into_iter_items}
use Rattle.std.proofs.lemmas.List.{nil_from_length}
use Rattle.std.proofs.lemmas.List.Elements.{All-tail}
use Rattle.pages.specs.Pages.{deed as deed_of_page}
use Rattle.page_natives.specs.Natives.{kept_of}
use Rattle.page_runner.specs.Page.{evaluator}
use Rattle.page_runner.specs.Deeds.{deed_of, deeds_of, DeedFits}
use Rattle.page_runner.specs.Runner.{IsCut, DeedsOver, From}
use Rattle.page_runner.specs.declared.deeds.Deed.{Deed}
use Rattle.page_runner.proofs.Loop.{ReachedFrom, one_more, cut_there, at_last}
use Rattle.page_runner.proofs.runner.Runner.run_deeds.Goals as goal

pub loop-deed-preserved : goal.loop-deed-preserved
loop-deed-preserved c =
    let p = c.args.self.now in
    let q = c.loop-deed.self in
    let q1 = c.run_deed.new.self in
    let d = c.in-Some.deed in
    let rest = into_iter_items c.next.new.self in
    let ds = deeds_of c.args.deeds.items in
    let steps : into_iter_items c.loop-deed.deed-iterator ≡ d ∷ rest = search rules in
    let reached = subst (λ (l : List Deed). ReachedFrom p q ds (deeds_of l)) steps c.loop-deed.invariant.came in
    let goes = subst (λ m. From q (λ r x z n. DeedsOver (deed_of_page (evaluator m) (deed_of d) n r x z) q1)) c.loop-deed.invariant.modules c.in_ok-run_deed.ensures.came in
    record {
      came = one_more p q q1 ds (deed_of d) (deeds_of rest) reached goes;
      modules = c.in_ok-run_deed.ensures.modules ∙ c.loop-deed.invariant.modules;
      holds = c.in_ok-run_deed.ensures.holds;
      fit = All-tail (DeedFits p.modules) d rest (subst (All (DeedFits p.modules)) steps c.loop-deed.invariant.fit);
    }

pub returns-in_err-run_deed : goal.returns-in_err-run_deed
returns-in_err-run_deed c =
    let p = c.args.self.now in
    let q = c.loop-deed.self in
    let q1 = c.run_deed.new.self in
    let d = c.in-Some.deed in
    let rest = into_iter_items c.next.new.self in
    let ds = deeds_of c.args.deeds.items in
    let e = c.in_err-run_deed.field-0.0 in
    let steps : into_iter_items c.loop-deed.deed-iterator ≡ d ∷ rest = search rules in
    let reached = subst (λ (l : List Deed). ReachedFrom p q ds (deeds_of l)) steps c.loop-deed.invariant.came in
    let goes = subst (λ m. From q (λ r x z n. IsCut e (kept_of q1.natives) (deed_of_page (evaluator m) (deed_of d) n r x z))) c.loop-deed.invariant.modules c.in_err-run_deed.ensures.came in
    let failed : c.from_residual.result ≡ Err e = search rules in
    record {
      came = cut_there p q q1 ds (deed_of d) (deeds_of rest) e c.from_residual.result failed reached goes;
      modules = c.in_err-run_deed.ensures.modules ∙ c.loop-deed.invariant.modules;
      holds = c.in_err-run_deed.ensures.holds;
    }

pub returns : goal.returns
returns c =
    let p = c.args.self.now in
    let q = c.loop-deed.self in
    let ds = deeds_of c.args.deeds.items in
    let none : into_iter_items c.loop-deed.deed-iterator ≡ [] = nil_from_length (into_iter_items c.loop-deed.deed-iterator) (sym c.loop-deed.deed-iterator.rest.ok.0 ∙ c.in-None.ensures.steps.0) in
    record {
      came = at_last p q ds (subst (λ (l : List Deed). ReachedFrom p q ds (deeds_of l)) none c.loop-deed.invariant.came);
      modules = c.loop-deed.invariant.modules;
      holds = c.loop-deed.invariant.holds;
    }
