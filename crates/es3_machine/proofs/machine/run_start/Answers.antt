use Rattle.es3_tree.specs.Tree as t
use Rattle.es3_moves.specs.Code.{plain_stmts}
use Rattle.es3_moves.specs.Texts.{store_of}
use Rattle.es3_machine.specs.Machine.{a_program, a_call}
use Rattle.es3_machine.proofs.Started.{started_count}
use Rattle.es3_machine.proofs.machine.run_start.Goals as goal

pub returns-in-Program-clause-count : goal.returns-in-Program-clause-count
returns-in-Program-clause-count g c =
    let state = g.N.Natives.state in
    let after = c.run_program.new in
    started_count g.N.Natives.table (a_program (t.script (plain_stmts c.in-Program.program.value.items)) c.in-Program.by) (store_of c.args.h.now c.args.engine.now.texts) (store_of after.h after.self.texts) (state c.args.natives.now) (state after.natives) c.run_program.result after.self.left c.args.steps c.run_program.ensures.ran

pub returns-in-Call-clause-count : goal.returns-in-Call-clause-count
returns-in-Call-clause-count g c =
    let state = g.N.Natives.state in
    let after = c.run_call.new in
    started_count g.N.Natives.table (a_call c.in-Call.f c.in-Call.this c.in-Call.args.items c.in-Call.by) (store_of c.args.h.now c.args.engine.now.texts) (store_of after.h after.self.texts) (state c.args.natives.now) (state after.natives) c.run_call.result after.self.left c.args.steps c.run_call.ensures.ran
