use Rattle.std.proofs.Common.{◌≡◌, ap, ◌∙◌}
use Rattle.std.proofs.lemmas.Result.{IfOk-weaker}
use Rattle.es3_tree.specs.Tree as t
use Rattle.es3_language.specs.Hoisting.{vars_of, functions_of}
use Rattle.es3_language.specs.Meaning.{run_program, with_global_functions, with_global_vars}
use Rattle.es3_moves.specs.Code.{plain_stmts}
use Rattle.es3_moves.specs.Texts.{store_of}
use Rattle.es3_machine.specs.Outcome.{ended}
use Rattle.es3_machine.proofs.Started.{program_begins}
use Rattle.es3_machine.proofs.engine.Engine.run_program.Goals as goal

pub returns-clause-ran : goal.returns-clause-ran
returns-clause-ran g c =
    let T = g.N.Natives.table in
    let state = g.N.Natives.state in
    let after = c.run_from.new in
    let s = store_of c.args.h.now c.args.self.now.texts in
    let items : c.deref-2.result.now ≡ c.args.program.value.items = cc in
    let declared = c.in_ok-declare_program.ensures.store ∙ ap (λ l. with_global_vars (vars_of (plain_stmts l)) (with_global_functions (functions_of (plain_stmts l)) c.args.by s)) items in
    IfOk-weaker c.run_from.result _ (λ o. ended o (store_of after.h after.self.texts) (state after.natives) after.self.left ≡ run_program T (t.script (plain_stmts c.args.program.value.items)) c.args.by s (state c.args.natives.now) c.args.steps)
    (λ o e. e ∙ program_begins T c.new.result.items c.args.program c.in_ok-env.env c.args.by s (store_of c.declare_program.new.h c.declare_program.new.texts) (state c.args.natives.now) c.args.steps c.new.ensures.items (c.in_ok-env.ensures c.args.h.now) declared)
    c.run_from.ensures.ran
