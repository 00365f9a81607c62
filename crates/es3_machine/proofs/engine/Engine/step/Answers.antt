use Rattle.std.proofs.Common.{◌≡◌, ◌+◌, ◌*◌, length}
use Rattle.std.proofs.lemmas.Result.{IfOk-weaker}
use Rattle.es3_moves.specs.Texts.{store_of}
use Rattle.es3_moves.specs.Moves.{move_plan}
use Rattle.es3_machine.proofs.Steps.{did_enter, did_go, did_end, did_tell, did_plan, did_again, step_left, if_less, less_by_step, less_by_frame}
use Rattle.es3_machine.proofs.engine.Engine.step.Goals as goal

pub returns-in_ok-push-in-Enter-clause-same : goal.returns-in_ok-push-in-Enter-clause-same
returns-in_ok-push-in-Enter-clause-same g c =
    did_enter g.N.Natives.table c.args.self.now.frames.items _ c.args.now c.in-Enter.task c.in-Enter.frame (store_of c.args.h.now c.args.self.now.texts) (g.N.Natives.state c.args.natives.now) c.args.self.now.left c.in-Enter.is c.in_ok-push-in-Enter.ensures.items

pub returns-in-Go-clause-same : goal.returns-in-Go-clause-same
returns-in-Go-clause-same g c =
    did_go g.N.Natives.table c.args.self.now.frames.items c.args.now c.begin.result c.in-Go.task (store_of c.args.h.now c.args.self.now.texts) _ (g.N.Natives.state c.args.natives.now) _ c.args.self.now.left c.in-Go.is (step_left c.args.self.now c.args.now c.in-Go.task c.in-Go.is c.requires) c.begin.ensures.plan c.begin.ensures.state

pub returns-in-Go-clause-less : goal.returns-in-Go-clause-less
returns-in-Go-clause-less g c = less_by_step c.begin.result c.args.now c.args.self.now.left (length c.args.self.now.frames.items) (step_left c.args.self.now c.args.now c.in-Go.task c.in-Go.is c.requires)

pub returns-in-Some-clause-same : goal.returns-in-Some-clause-same
returns-in-Some-clause-same g c =
    did_end g.N.Natives.table c.args.self.now.frames.items _ c.args.now c.resume.result c.in-Some.frame c.in-End.flow (store_of c.args.h.now c.args.self.now.texts) _ (g.N.Natives.state c.args.natives.now) c.args.self.now.left c.in-End.is c.in-Some.ensures.items c.resume.ensures.plan

pub returns-in-Some-clause-less : goal.returns-in-Some-clause-less
returns-in-Some-clause-less g c = less_by_frame c.resume.result c.args.now c.in-End.flow c.args.self.now.left c.args.self.now.frames.items _ c.in-Some.frame c.in-End.is c.in-Some.ensures.items

pub returns-in_ok-record_touch-in-Tell-clause-same : goal.returns-in_ok-record_touch-in-Tell-clause-same
returns-in_ok-record_touch-in-Tell-clause-same g c =
    did_tell g.N.Natives.table c.args.self.now.frames.items c.args.now c.in-Tell.note c.in-Tell.after (store_of c.args.h.now c.args.self.now.texts) (g.N.Natives.state c.args.natives.now) _ c.args.self.now.left c.in-Tell.is c.in_ok-record_touch-in-Tell.ensures

pub returns-in-Again-clause-same : goal.returns-in-Again-clause-same
returns-in-Again-clause-same g c =
    did_again g.N.Natives.table c.args.self.now.frames.items c.args.now c.first_node.result c.in-Again.looping (store_of c.args.h.now c.args.self.now.texts) (g.N.Natives.state c.args.natives.now) c.args.self.now.left c.in-Again.is c.first_node.ensures.plan

pub returns-in-Again-clause-less : goal.returns-in-Again-clause-less
returns-in-Again-clause-less g c = if_less c.first_node.result c.args.now _ (32 * c.args.self.now.left + 16 * length c.args.self.now.frames.items) c.in-Again.is c.first_node.ensures.small

pub returns-in-List-clause-same : goal.returns-in-List-clause-same
returns-in-List-clause-same g c =
    did_plan g.N.Natives.table c.args.self.now.frames.items c.args.now _ c.next_statement.result (store_of c.args.h.now c.args.self.now.texts) _ (g.N.Natives.state c.args.natives.now) c.args.self.now.left c.in-List.is (IfOk-weaker c.next_statement.result _ (λ m. move_plan m (store_of c.args.h.now c.next_statement.new.texts) ≡ _) (λ m plan. plan c.args.h.now) c.next_statement.ensures.plan)

pub returns-in-List-clause-less : goal.returns-in-List-clause-less
returns-in-List-clause-less g c = if_less c.next_statement.result c.args.now _ (32 * c.args.self.now.left + 16 * length c.args.self.now.frames.items) c.in-List.is c.next_statement.ensures.small

pub returns-in-Items-clause-same : goal.returns-in-Items-clause-same
returns-in-Items-clause-same g c =
    did_plan g.N.Natives.table c.args.self.now.frames.items c.args.now _ c.next_item.result (store_of c.args.h.now c.args.self.now.texts) _ (g.N.Natives.state c.args.natives.now) c.args.self.now.left c.in-Items.is c.next_item.ensures.plan

pub returns-in-Items-clause-less : goal.returns-in-Items-clause-less
returns-in-Items-clause-less g c = if_less c.next_item.result c.args.now _ (32 * c.args.self.now.left + 16 * length c.args.self.now.frames.items) c.in-Items.is c.next_item.ensures.small

pub returns-in-Fields-clause-same : goal.returns-in-Fields-clause-same
returns-in-Fields-clause-same g c =
    did_plan g.N.Natives.table c.args.self.now.frames.items c.args.now _ c.next_field.result (store_of c.args.h.now c.args.self.now.texts) _ (g.N.Natives.state c.args.natives.now) c.args.self.now.left c.in-Fields.is c.next_field.ensures.plan

pub returns-in-Fields-clause-less : goal.returns-in-Fields-clause-less
returns-in-Fields-clause-less g c = if_less c.next_field.result c.args.now _ (32 * c.args.self.now.left + 16 * length c.args.self.now.frames.items) c.in-Fields.is c.next_field.ensures.small

pub returns-in-Arguments-clause-same : goal.returns-in-Arguments-clause-same
returns-in-Arguments-clause-same g c =
    did_plan g.N.Natives.table c.args.self.now.frames.items c.args.now _ c.next_argument.result (store_of c.args.h.now c.args.self.now.texts) _ (g.N.Natives.state c.args.natives.now) c.args.self.now.left c.in-Arguments.is c.next_argument.ensures.plan

pub returns-in-Arguments-clause-less : goal.returns-in-Arguments-clause-less
returns-in-Arguments-clause-less g c = if_less c.next_argument.result c.args.now _ (32 * c.args.self.now.left + 16 * length c.args.self.now.frames.items) c.in-Arguments.is c.next_argument.ensures.small

pub returns-in-Vars-clause-same : goal.returns-in-Vars-clause-same
returns-in-Vars-clause-same g c =
    did_plan g.N.Natives.table c.args.self.now.frames.items c.args.now _ c.next_var.result (store_of c.args.h.now c.args.self.now.texts) _ (g.N.Natives.state c.args.natives.now) c.args.self.now.left c.in-Vars.is c.next_var.ensures.plan

pub returns-in-Vars-clause-less : goal.returns-in-Vars-clause-less
returns-in-Vars-clause-less g c = if_less c.next_var.result c.args.now _ (32 * c.args.self.now.left + 16 * length c.args.self.now.frames.items) c.in-Vars.is c.next_var.ensures.small

pub returns-in-Find-clause-same : goal.returns-in-Find-clause-same
returns-in-Find-clause-same g c =
    did_plan g.N.Natives.table c.args.self.now.frames.items c.args.now _ c.find_case.result (store_of c.args.h.now c.args.self.now.texts) _ (g.N.Natives.state c.args.natives.now) c.args.self.now.left c.in-Find.is (IfOk-weaker c.find_case.result _ (λ m. move_plan m (store_of c.args.h.now c.args.self.now.texts) ≡ _) (λ m plan. plan (store_of c.args.h.now c.args.self.now.texts)) c.find_case.ensures.plan)

pub returns-in-Find-clause-less : goal.returns-in-Find-clause-less
returns-in-Find-clause-less g c = if_less c.find_case.result c.args.now _ (32 * c.args.self.now.left + 16 * length c.args.self.now.frames.items) c.in-Find.is c.find_case.ensures.small

pub returns-in-Follow-clause-same : goal.returns-in-Follow-clause-same
returns-in-Follow-clause-same g c =
    did_plan g.N.Natives.table c.args.self.now.frames.items c.args.now _ c.follow.result (store_of c.args.h.now c.args.self.now.texts) _ (g.N.Natives.state c.args.natives.now) c.args.self.now.left c.in-Follow.is c.follow.ensures.plan

pub returns-in-Follow-clause-less : goal.returns-in-Follow-clause-less
returns-in-Follow-clause-less g c = if_less c.follow.result c.args.now _ (32 * c.args.self.now.left + 16 * length c.args.self.now.frames.items) c.in-Follow.is c.follow.ensures.small
