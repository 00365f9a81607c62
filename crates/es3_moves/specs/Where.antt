-- The plain form of places, labels, references and endings.
use Rattle.std.specs.Prelude.{ℕ, List, [], ◌∷◌}
use Rattle.plans.specs.Plans as plans
use Rattle.es3_language.specs.References as r
use Rattle.es3_language.specs.Tasks.{Env as PlainEnv, Loop, Completion, gave, found, normal, broke, continued, returned, threw}
use Rattle.es3_language.specs.Expressions as e
use Rattle.es3_moves.specs.Code.{maybe_units, maybe_expr, plain_stmt}
use Rattle.es3_moves.specs.declared.frame.Chain.{Chain, End, In'}
use Rattle.es3_moves.specs.declared.frame.Labels.{Labels}
use Rattle.es3_moves.specs.declared.frame.Labels as labels
use Rattle.es3_moves.specs.declared.frame.Context.{Context}
use Rattle.es3_moves.specs.declared.frame.Env.{Env}
use Rattle.es3_moves.specs.declared.frame.Looping.{Looping}
use Rattle.es3_moves.specs.declared.frame.Callee.{Callee}
use Rattle.es3_moves.specs.declared.frame.Callee.TheVariants as callee
use Rattle.es3_moves.specs.declared.frame.Ref.{Ref}
use Rattle.es3_moves.specs.declared.frame.Ref.TheVariants.{Unresolved, Slot, OwnArguments, InObject, Named, Member, Just}
use Rattle.es3_moves.specs.declared.frame.Flow.{Flow}
use Rattle.es3_moves.specs.declared.frame.Flow.TheVariants.{Gave, Found, Normal, Broke, Continued, Returned, Threw}
use Rattle.es3_moves.specs.declared.frame.Fault.{Fault}
use Rattle.es3_moves.specs.declared.frame.Fault.TheVariants.{Number, Depth, Convert}

abbrev pub plain_chain : Chain → List ℕ
plain_chain End = []
plain_chain (In' c p rest) = c ∷ plain_chain rest

abbrev pub plain_labels : Labels → List (List ℕ)
plain_labels labels.End = []
plain_labels (labels.In' l p rest) = l.value ∷ plain_labels rest

abbrev pub plain_context : Context → PlainEnv
plain_context c = record { chain = plain_chain c.chain.value; calls = c.calls; by = c.by; this = c.this }

abbrev pub plain_env : Env → PlainEnv
plain_env e = plain_context e.context.value

-- the same place in other scopes
abbrev pub with_chain : PlainEnv → List ℕ → PlainEnv
with_chain e chain = record e { chain = chain }

abbrev pub plain_loop : Looping → Loop
plain_loop l = record { test = maybe_expr l.test; update = maybe_expr l.update; body = plain_stmt l.body.value }

abbrev pub plain_ref : Ref → r.Ref
plain_ref (Unresolved x) = r.unresolved x.value
plain_ref (Slot c x) = r.slot c x.value
plain_ref (OwnArguments c) = r.own_arguments c
plain_ref (InObject o x) = r.in_object o x.value
plain_ref (Named o x) = r.named o x.value
plain_ref (Member v k) = r.member v k.value
plain_ref (Just v) = r.just v

abbrev pub plain_callee : Callee → e.Callee
plain_callee (callee.Called r) = e.called (plain_ref r)
plain_callee (callee.Maker v) = e.maker v

abbrev pub plain_flow : Flow → Completion
plain_flow (Gave v) = gave v
plain_flow (Found r) = found (plain_ref r)
plain_flow (Normal v) = normal v
plain_flow (Broke l v) = broke (maybe_units l) v
plain_flow (Continued l v) = continued (maybe_units l) v
plain_flow (Returned v) = returned v
plain_flow (Threw v) = threw v

abbrev pub plain_fault : Fault → plans.Fault
plain_fault Number = plans.number_fault
plain_fault Depth = plans.depth_fault
plain_fault Convert = plans.convert_fault
