use Rattle.std.proofs.Common.{List, refl, sym, ap, ◌∙◌, subst}
use Rattle.std.proofs.lemmas.Result.{on_ok_weaker}
use Rattle.es3_objects.specs.declared.value.Value.{Value}
use Rattle.es3_language.specs.Store.{with_heap}
use Rattle.freeze_marks.specs.Records.{AreNew}
use Rattle.heap_rows.specs.Opening.{fixed_values}
use Rattle.page_natives.specs.Natives.{kept_of, importing}
use Rattle.module_loader.specs.Turns.{say_place, granted_pairs, with_imports_of}
use Rattle.page_runner.specs.Deeds.{grants_of}
use Rattle.page_runner.specs.Runner.{results_of}
use Rattle.page_runner.proofs.Granted.{granted_are_new}
use Rattle.page_runner.proofs.Here.{changed_here, started_here}
use Rattle.page_runner.proofs.runner.Runner.start_load.Goals as goal

pub add_imports_of-requires-clause-new : goal.add_imports_of-requires-clause-new
add_imports_of-requires-clause-new c =
    let a = c.args.self.now in
    let granted = c.in_ok-granted.ensures ∙ ap (λ (vs : List Value). granted_pairs a.modules (results_of vs) a.natives.dom (grants_of c.args.grants.items)) c.deref.ensures.value in
    subst (λ ps. AreNew (fixed_values (say_place c.args.owner)) ps) (sym granted) (granted_are_new a.modules (results_of a.results.items) a.natives.dom c.args.owner c.args.grants.items c.requires.fit.1)

pub returns-clause-starts : goal.returns-clause-starts
returns-clause-starts c =
    let a = c.args.self.now in
    let h = c.add_imports_of.new.heap in
    let granted = c.in_ok-granted.ensures ∙ ap (λ (vs : List Value). granted_pairs a.modules (results_of vs) a.natives.dom (grants_of c.args.grants.items)) c.deref.ensures.value in
    on_ok_weaker c.start_program.result (λ started. record {
      started = started;
      heap = c.in_ok-imports.ensures.store ∙ ap (λ ps. with_imports_of c.args.owner ps a.heap) granted;
      here = λ x here. started_here h a.machine c.start_program.new.self (with_heap x h) c.start_program.ensures.store (changed_here a.heap h a.machine x here);
      kept = c.importing.ensures ∙ ap (λ o. importing c.args.owner o (kept_of a.natives)) c.in_ok-imports.ensures.id;
      left = refl;
    }) c.start_program.ensures.started
