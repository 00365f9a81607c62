-- What the machine's frames and moves stand for, as plans.
use Rattle.std.specs.Prelude.{◌+◌, Bool, true, false, []}
use Rattle.plans.specs.Plans.{ends, stops, enter, told}
use Rattle.es3_objects.specs.declared.value.Value.{Value as PlainValue}
use Rattle.es3_objects.specs.declared.value.Value.TheVariants.{Text}
use Rattle.es3_language.specs.Store.{Store}
use Rattle.es3_language.specs.References as ref
use Rattle.es3_language.specs.Natives.{Touched}
use Rattle.es3_language.specs.Tasks as m
use Rattle.es3_language.specs.Lists as lists
use Rattle.es3_language.specs.Expressions as e
use Rattle.es3_language.specs.Statements as st
use Rattle.es3_convert.specs.Numbers.{number_of}
use Rattle.es3_moves.specs.Code.{maybe_units, plain_prefix, plain_expr, plain_stmt, plain_target, exprs_at, fields_at, stmts_at, vars_at, cases_at, names_at, maybe_stmt, maybe_catch, maybe_finally}
use Rattle.es3_moves.specs.Where.{plain_env, plain_labels, plain_loop, plain_ref, plain_callee, plain_flow, plain_fault}
use Rattle.es3_moves.specs.declared.frame.End.{End}
use Rattle.es3_moves.specs.declared.frame.End.TheVariants.{Program, Block, Body, New, Try, Catch, Finally, Cases}
use Rattle.es3_moves.specs.declared.frame.Use.{Use}
use Rattle.es3_moves.specs.declared.frame.Use.TheVariants as u
use Rattle.es3_moves.specs.declared.frame.VarsEnd.{VarsEnd}
use Rattle.es3_moves.specs.declared.frame.VarsEnd.TheVariants as vars
use Rattle.es3_moves.specs.declared.frame.Effect.{Effect}
use Rattle.es3_moves.specs.declared.frame.Effect.TheVariants as effect
use Rattle.es3_moves.specs.declared.frame.Target.{Target}
use Rattle.es3_moves.specs.declared.frame.Target.TheVariants as target
use Rattle.es3_moves.specs.declared.frame.Frame.{Frame}
use Rattle.es3_moves.specs.declared.frame.Frame.TheVariants as frame
use Rattle.es3_moves.specs.declared.frame.Task.{Task}
use Rattle.es3_moves.specs.declared.frame.Task.TheVariants as task
use Rattle.es3_moves.specs.declared.frame.Note.{Note}
use Rattle.es3_moves.specs.declared.frame.Then.{Then}
use Rattle.es3_moves.specs.declared.frame.Then.TheVariants as then
use Rattle.es3_moves.specs.declared.frame.After.{After}
use Rattle.es3_moves.specs.declared.frame.After.TheVariants as after
use Rattle.es3_moves.specs.declared.frame.Move.{Move}
use Rattle.es3_moves.specs.declared.frame.Move.TheVariants as move

-- 12.1, 14: whether a list keeps the value so far from one statement to the next, and what follows it
abbrev pub keeps : End → Bool
keeps Program = false
keeps end = true

abbrev pub end_plan : End → m.Completion → Store → m.Plan
end_plan Program = ends
end_plan Block = ends
end_plan Body = e.body_end
end_plan (New o) = e.new_end o
end_plan (Try w) = st.after_try (maybe_catch w.value.handler) (maybe_finally w.value.last) (plain_env w.value.env)
end_plan (Catch f env) = st.finally_plan (maybe_finally f) (plain_env env)
end_plan (Finally flow) = st.restored (plain_flow flow.value)
end_plan (Cases cs at ls env) = st.bodies_rest (cases_at cs.value.items at) (plain_labels ls.value) (plain_env env)

-- what an expression does with a value
abbrev pub use_plan : Use → PlainValue → Store → m.Plan
use_plan (u.BinaryLeft op b env) = e.binary_left op (plain_expr b.value) (plain_env env)
use_plan (u.BinaryRight op a) = e.binary_right op a
use_plan (u.Prefix op) = e.convert_plan (plain_prefix op)
use_plan (u.AndRight b env) = e.and_right (plain_expr b.value) (plain_env env)
use_plan (u.OrRight b env) = e.or_right (plain_expr b.value) (plain_env env)
use_plan (u.CondSide a b env) = e.choice_side (plain_expr a.value) (plain_expr b.value) (plain_env env)
use_plan (u.CommaRight b env) = e.comma_right (plain_expr b.value) (plain_env env)
use_plan (u.DotValue k env) = e.dot_value k.value (plain_env env)
use_plan (u.DotTarget k) = e.dot_target k.value
use_plan (u.IndexValueBase f env) = e.index_value_base (plain_expr f.value) (plain_env env)
use_plan (u.IndexTargetBase f env) = e.index_target_base (plain_expr f.value) (plain_env env)
use_plan (u.IndexValue b env) = e.index_value (plain_env env) b
use_plan (u.IndexTarget b) = e.index_target b
use_plan (u.AssignValue r env) = e.assign_value (plain_ref r) (plain_env env)
use_plan (u.CompoundValue op r old env) = e.compound_value op (plain_ref r) old (plain_env env)
use_plan (u.Maker es env) = e.after_maker (exprs_at es.value.items 0) (plain_env env)
use_plan (u.Argument c) = e.after_argument (plain_callee c.value.callee) c.value.values.items (exprs_at c.value.list.value.items c.value.at) (plain_env c.value.env)
use_plan (u.Item vs es at env) = e.after_item vs.items (exprs_at es.value.items at) (plain_env env)
use_plan (u.Field o k fs at env) = e.after_field o k.value (fields_at fs.value.items at) (plain_env env)

abbrev pub vars_end : VarsEnd → Store → m.Plan
vars_end vars.Statement = st.var_end
vars_end (vars.Loop l) = st.at_test (plain_loop l.value) l.value.acc (plain_labels l.value.labels.value) (plain_env l.value.env)

-- what a statement does with a value
abbrev pub effect_plan : Effect → PlainValue → Store → m.Plan
effect_plan effect.ToNormal = st.to_normal
effect_plan effect.ToReturned = st.to_returned
effect_plan effect.ToThrew = st.to_threw
effect_plan (effect.Var r is at end env) = st.after_var (plain_ref r) (vars_at is.value.items at) (plain_env env) (vars_end end)
effect_plan (effect.IfSide x other env) = st.branch_side (plain_stmt x.value) (maybe_stmt other) (plain_env env)
effect_plan (effect.LoopTest l) = st.loop_test (plain_loop l.value) l.value.acc (plain_labels l.value.labels.value) (plain_env l.value.env)
effect_plan (effect.AfterUpdate l) = st.after_update (plain_loop l.value) l.value.acc (plain_labels l.value.labels.value) (plain_env l.value.env)
effect_plan (effect.ForKeys x b ls env) = st.for_keys (plain_target x.value) (plain_stmt b.value) (plain_labels ls.value) (plain_env env)
effect_plan (effect.WithBody b env) = st.with_value_of (plain_stmt b.value) (plain_env env)
effect_plan (effect.SwitchOn cs ls env) = st.switch_on (cases_at cs.value.items 0) (plain_labels ls.value) (plain_env env)
effect_plan (effect.CaseTest v cs at ls env) = st.case_test v (cases_at cs.value.items at) (cases_at cs.value.items (at + 1)) (cases_at cs.value.items 0) (plain_labels ls.value) (plain_env env)

-- what takes a reference
abbrev pub target_use : Target → ref.Ref → Store → m.Plan
target_use (target.AssignTo x env) = e.assign_to (plain_expr x.value) (plain_env env)
target_use (target.CompoundTo op x env) = e.compound_to op (plain_expr x.value) (plain_env env)
target_use (target.Step up before env) = e.step_plan up before (plain_env env)
target_use target.Delete = e.delete_plan
target_use (target.Typeof env) = e.type_plan (plain_env env)
target_use (target.Called es env) = e.after_callee (exprs_at es.value.items 0) (plain_env env)

abbrev pub resume : Frame → m.Completion → Store → m.Plan
resume (frame.Value u) = m.on_value_of (use_plan u)
resume (frame.Effect x) = m.on_value_of (effect_plan x)
resume (frame.Target t) = m.on_target_of (target_use t)
resume (frame.KeyTarget k w) = m.on_target_of (st.key_target k.value w.value.object (names_at w.value.keys.value.items w.value.at) (plain_target w.value.target.value) (plain_stmt w.value.body.value) w.value.acc (plain_labels w.value.labels.value) (plain_env w.value.env))
resume (frame.Statement xs at acc env end) = lists.list_rest (keeps end) (stmts_at xs.value.items at) acc (plain_env env) (end_plan end)
resume (frame.Label x) = st.on_label x.value
resume (frame.LoopNext l) = st.loop_next (plain_loop l.value) l.value.acc (plain_labels l.value.labels.value) (plain_env l.value.env)
resume (frame.KeyNext w) = st.key_next w.value.object (names_at w.value.keys.value.items w.value.at) (plain_target w.value.target.value) (plain_stmt w.value.body.value) w.value.acc (plain_labels w.value.labels.value) (plain_env w.value.env)

abbrev pub plain_task : Task → m.Task
plain_task (task.Value x env) = m.value_of (plain_expr x.value) (plain_env env)
plain_task (task.Reference x env) = m.target_of (plain_expr x.value) (plain_env env)
plain_task (task.Effect x env) = m.effect_of (plain_stmt x.value) [] (plain_env env)
plain_task (task.Labelled x ls env) = m.effect_of (plain_stmt x.value) (plain_labels ls.value) (plain_env env)
plain_task (task.Key k w) = m.next_key w.value.object k.value (names_at w.value.keys.value.items w.value.at) (plain_target w.value.target.value) (plain_stmt w.value.body.value) w.value.acc (plain_labels w.value.labels.value) (plain_env w.value.env)
plain_task (task.Native c) = m.native_call c.value.which c.value.this c.value.args.items (plain_env c.value.env)

abbrev pub plain_note : Note → Touched
plain_note n = record { by = n.by; what = n.what; on = n.on; key = maybe_units n.key }

-- what is done with a value that was read
abbrev pub then_plan : Then → PlainValue → Store → m.Plan
then_plan then.Give v s = m.give v s
then_plan (then.Call r vs env) v s = e.call_value (plain_ref r) vs.items (plain_env env) v s
then_plan then.Typeof v s = e.type_of_value v s
then_plan (then.Compound op x env r) v s = m.with_value (plain_expr x.value) (plain_env env) s (e.compound_value op (plain_ref r) v (plain_env env))
then_plan (then.Step up before r env) v s = e.step_value up before (plain_ref r) (plain_env env) (number_of s.heap v) s

-- what follows where a touch may be recorded before it
abbrev pub after_plan : After → Store → m.Plan
after_plan (after.Then t v) s = then_plan t v s
after_plan (after.Apply f this vs env) s = e.apply f this vs.items (plain_env env) s
after_plan (after.Construct f vs env) s = e.construct f vs.items (plain_env env) s
after_plan (after.Write r w v) s = ends (m.gave v) (ref.write (plain_ref r) w s)
after_plan (after.WriteKey r k w) s = st.key_body w.value.object (names_at w.value.keys.value.items w.value.at) (plain_target w.value.target.value) (plain_stmt w.value.body.value) w.value.acc (plain_labels w.value.labels.value) (plain_env w.value.env) (ref.write (plain_ref r) (Text k.value) s)

abbrev pub move_plan : Move → Store → m.Plan
move_plan (move.Enter t f) s = enter (plain_task t) s (resume f)
move_plan (move.Go t) s = enter (plain_task t) s ends
move_plan (move.Again l) s = enter (m.again (plain_loop l.value) l.value.acc (plain_labels l.value.labels.value) (plain_env l.value.env)) s ends
move_plan (move.List xs at acc env end) s = lists.list (keeps end) (stmts_at xs.value.items at) acc (plain_env env) s (end_plan end)
move_plan (move.Items vs es at env) s = e.items vs.items (exprs_at es.value.items at) (plain_env env) s
move_plan (move.Fields o fs at env) s = e.fields o (fields_at fs.value.items at) (plain_env env) s
move_plan (move.Arguments c) s = e.arguments (plain_callee c.value.callee) c.value.values.items (exprs_at c.value.list.value.items c.value.at) (plain_env c.value.env) s
move_plan (move.Vars is at end env) s = st.var_list (vars_at is.value.items at) (plain_env env) s (vars_end end)
move_plan (move.Find v cs at ls env) s = st.find_case v (cases_at cs.value.items at) (cases_at cs.value.items 0) (plain_labels ls.value) (plain_env env) s
move_plan (move.Tell n a) s = told (plain_note n) (after_plan a s)
move_plan (move.Follow a) s = after_plan a s
move_plan (move.End flow) s = ends (plain_flow flow) s
move_plan (move.Stop f) s = stops (plain_fault f) s
