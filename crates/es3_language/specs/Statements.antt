-- What statements do (ES3 12), by cases on the tree.
use Rattle.std.specs.Prelude.{ℕ, Bool, true, false, List, [], ◌∷◌, Option, Some, None, is_some, length, pos, codes, if◌then◌else◌}
use Rattle.plans.specs.Plans.{ends, enter, bind}
use Rattle.caja_units.specs.Units.{same_units}
use Rattle.es3_tree.specs.Tree as t
use Rattle.es3_objects.specs.declared.value.Value.{Value}
use Rattle.es3_objects.specs.declared.value.Value.TheVariants.{Undefined, Bool as Truth, Num, Text, Obj}
use Rattle.es3_objects.specs.declared.value.Class.TheVariants as class
use Rattle.es3_objects.specs.declared.value.Proto.{Proto}
use Rattle.es3_objects.specs.declared.value.Proto.TheVariants as proto
use Rattle.es3_heap.specs.Objects.{fixed_attrs}
use Rattle.es3_heap.specs.Properties.{define, lookup, length_key}
use Rattle.es3_heap.specs.Enumerating.{keys}
use Rattle.es3_heap.specs.Making.{made, proto_id}
use Rattle.es3_convert.specs.Comparisons.{truth_of, strictly_equal}
use Rattle.es3_language.specs.declared.Touch.TheVariants as touch
use Rattle.es3_language.specs.Store.{Store, caught, with_object_of, with_heap, with_scope}
use Rattle.es3_language.specs.References.{Ref, reference, write}
use Rattle.es3_language.specs.Tasks.{Completion, normal, broke, continued, returned, threw, Env, Loop, effect_of, again, next_key, Plan, on_value_of, with_value, with_target, throw_error}
use Rattle.es3_language.specs.Lists.{later, on_each, list}
use Rattle.es3_language.specs.Expressions.{note_member, expr_plan}

-- values

abbrev pub to_normal : Value → Store → Plan
to_normal v s = ends (normal (Some v)) s

abbrev pub to_returned : Value → Store → Plan
to_returned v s = ends (returned v) s

abbrev pub to_threw : Value → Store → Plan
to_threw v s = ends (threw v) s

-- 12.2: the values of `var` declarations from the left, and then `end`; a name is resolved before its value is worked out
abbrev pub var_list : t.Tree t.items → Env → Store → (Store → Plan) → Plan
var_list t.no_items env s end = end s
var_list (t.more_items x t.no_expr rest) env s end = var_list rest env s end
var_list (t.more_items x (t.some_expr e) rest) env s end =
    with_value e env s (λ v s'. var_list rest env (write (reference env.chain s x) v s') end)

abbrev pub after_var : Ref → t.Tree t.items → Env → (Store → Plan) → Value → Store → Plan
after_var r rest env end v s = var_list rest env (write r v s) end

abbrev pub var_end : Store → Plan
var_end s = ends (normal None) s

abbrev pub var_items : t.Tree t.items → Env → Store → Plan
var_items is env s = var_list is env s var_end

-- 12.5: `if`
abbrev pub other_side : t.Tree t.maybe_stmt → Env → Store → Plan
other_side t.no_stmt env s = ends (normal None) s
other_side (t.some_stmt x) env s = enter (effect_of x [] env) s ends

abbrev pub branch_side : t.Tree t.stmt → t.Tree t.maybe_stmt → Env → Value → Store → Plan
branch_side x other env v s = if truth_of v then enter (effect_of x [] env) s ends else other_side other env s

-- jumps

-- 12.12: whether a jump is to one of the labels, or to none
abbrev pub is_to : Option (List ℕ) → List (List ℕ) → Bool
is_to None ls = true
is_to (Some l) [] = false
is_to (Some l) (k ∷ ls) = if same_units l k then true else is_to (Some l) ls

-- 12.6: after the body of a loop: one more turn with the value so far, or the loop ends
pub data Turn : Type 0 where
  turns : Option Value → Turn
  leaves : Completion → Turn

abbrev pub turned : List (List ℕ) → Option Value → Completion → Turn
turned ls acc (normal v) = turns (later v acc)
turned ls acc (continued l v) = if is_to l ls then turns (later v acc) else leaves (continued l v)
turned ls acc (broke l v) = leaves (if is_to l ls then normal (later v acc) else broke l v)
turned ls acc e = leaves e

abbrev pub on_turn : Turn → Store → (Option Value → Plan) → Plan
on_turn (turns v) s go = go v
on_turn (leaves e) s go = ends e s

abbrev pub is_label : Option (List ℕ) → List ℕ → Bool
is_label None l = false
is_label (Some k) l = same_units k l

-- 12.12: a statement with a label ends where a `break` names the label
abbrev pub unlabelled : List ℕ → Completion → Completion
unlabelled l (broke k v) = if is_label k l then normal v else broke k v
unlabelled l e = e

abbrev pub on_label : List ℕ → Completion → Store → Plan
on_label l e s = ends (unlabelled l e) s

-- loops (12.6.1 to 12.6.3)

abbrev pub loop_next : Loop → Option Value → List (List ℕ) → Env → Completion → Store → Plan
loop_next l acc ls env e s = on_turn (turned ls acc e) s (λ v. enter (again l v ls env) s ends)

abbrev pub loop_body : Loop → Option Value → List (List ℕ) → Env → Store → Plan
loop_body l acc ls env s = enter (effect_of l.body [] env) s (loop_next l acc ls env)

abbrev pub loop_test : Loop → Option Value → List (List ℕ) → Env → Value → Store → Plan
loop_test l acc ls env v s = if truth_of v then loop_body l acc ls env s else ends (normal acc) s

-- the test, if there is one, and then the body
abbrev pub test_of : t.Tree t.maybe_expr → Loop → Option Value → List (List ℕ) → Env → Store → Plan
test_of t.no_expr l acc ls env s = loop_body l acc ls env s
test_of (t.some_expr e) l acc ls env s = with_value e env s (loop_test l acc ls env)

abbrev pub at_test : Loop → Option Value → List (List ℕ) → Env → Store → Plan
at_test l acc ls env s = test_of l.test l acc ls env s

-- behind what stands before the test of a `for`: its first part, or what is done after a turn
abbrev pub after_update : Loop → Option Value → List (List ℕ) → Env → Value → Store → Plan
after_update l acc ls env v s = at_test l acc ls env s

-- a later turn enters what is done after a turn, or else the test, or else the body
abbrev pub turn_plan : t.Tree t.maybe_expr → t.Tree t.maybe_expr → Loop → Option Value → List (List ℕ) → Env → Store → Plan
turn_plan (t.some_expr u) e l acc ls env s = with_value u env s (after_update l acc ls env)
turn_plan t.no_expr (t.some_expr e) l acc ls env s = with_value e env s (loop_test l acc ls env)
turn_plan t.no_expr t.no_expr l acc ls env s = loop_body l acc ls env s

abbrev pub for_first : t.Tree t.first → Loop → List (List ℕ) → Env → Store → Plan
for_first t.no_first l ls env s = at_test l None ls env s
for_first (t.first_var is) l ls env s = var_list is env s (at_test l None ls env)
for_first (t.first_expr e) l ls env s = with_value e env s (after_update l None ls env)

-- `for in` (12.6.4)

-- the next key, if there is one
abbrev pub turn_keys : ℕ → List (List ℕ) → t.Tree t.loop_target → t.Tree t.stmt → Option Value → List (List ℕ) → Env → Store → Plan
turn_keys o [] x b acc ls env s = ends (normal acc) s
turn_keys o (k ∷ ks) x b acc ls env s = enter (next_key o k ks x b acc ls env) s ends

abbrev pub key_next : ℕ → List (List ℕ) → t.Tree t.loop_target → t.Tree t.stmt → Option Value → List (List ℕ) → Env → Completion → Store → Plan
key_next o ks x b acc ls env e s = on_turn (turned ls acc e) s (λ v. turn_keys o ks x b v ls env s)

abbrev pub key_body : ℕ → List (List ℕ) → t.Tree t.loop_target → t.Tree t.stmt → Option Value → List (List ℕ) → Env → Store → Plan
key_body o ks x b acc ls env s = enter (effect_of b [] env) s (key_next o ks x b acc ls env)

abbrev pub key_target : List ℕ → ℕ → List (List ℕ) → t.Tree t.loop_target → t.Tree t.stmt → Option Value → List (List ℕ) → Env → Ref → Store → Plan
key_target k o ks x b acc ls env r s = note_member touch.Set r env s (key_body o ks x b acc ls env (write r (Text k) s))

abbrev pub key_written : t.Tree t.loop_target → List ℕ → ℕ → List (List ℕ) → t.Tree t.stmt → Option Value → List (List ℕ) → Env → Store → Plan
key_written (t.loop_var y) k o ks b acc ls env s = key_body o ks (t.loop_var y) b acc ls env (write (reference env.chain s y) (Text k) s)
key_written (t.loop_expr e) k o ks b acc ls env s = with_target e env s (key_target k o ks (t.loop_expr e) b acc ls env)

-- one key, which is passed over where it is there no more
abbrev pub key_plan : ℕ → List ℕ → List (List ℕ) → t.Tree t.loop_target → t.Tree t.stmt → Option Value → List (List ℕ) → Env → Store → Plan
key_plan o k ks x b acc ls env s =
    if is_some (lookup s.heap o k) then key_written x k o ks b acc ls env s else turn_keys o ks x b acc ls env s

-- 9.9: the object whose keys are those of a value; what is no object has those of its prototype
abbrev pub keys_object : Value → Option ℕ
keys_object (Obj o) = Some o
keys_object (Text us) = Some (proto_id proto.String)
keys_object (Num n) = Some (proto_id proto.Number)
keys_object (Truth b) = Some (proto_id proto.Boolean)
keys_object v = None

abbrev pub on_keys : Option ℕ → t.Tree t.loop_target → t.Tree t.stmt → List (List ℕ) → Env → Store → Plan
on_keys None x b ls env s = throw_error (codes "no object") s
on_keys (Some o) x b ls env s = turn_keys o (keys s.heap o) x b None ls env s

abbrev pub for_keys : t.Tree t.loop_target → t.Tree t.stmt → List (List ℕ) → Env → Value → Store → Plan
for_keys x b ls env v s = on_keys (keys_object v) x b ls env s

-- `with` (12.10)

-- 9.9: a value that is no object gets one of its prototype; that of a text has the length (15.5.5.1)
abbrev pub of_proto : Proto → Store → Store
of_proto p s = with_heap s (made class.Object (Some (proto_id p)) s.heap)

abbrev pub with_scope_of : t.Tree t.stmt → Env → ℕ → Store → Plan
with_scope_of b env o s = enter (effect_of b [] (record env { chain = length s.scopes ∷ env.chain })) (with_scope (with_object_of o) [] s) ends

abbrev pub of_text : List ℕ → Store → Store
of_text us s = let n = of_proto proto.String s in with_heap n (define n.heap (length s.heap.list) length_key (Num (pos (length us))) fixed_attrs)

abbrev pub with_value_of : t.Tree t.stmt → Env → Value → Store → Plan
with_value_of b env (Obj o) s = with_scope_of b env o s
with_value_of b env (Text us) s = with_scope_of b env (length s.heap.list) (of_text us s)
with_value_of b env (Num n) s = with_scope_of b env (length s.heap.list) (of_proto proto.Number s)
with_value_of b env (Truth x) s = with_scope_of b env (length s.heap.list) (of_proto proto.Boolean s)
with_value_of b env v s = throw_error (codes "no object") s

-- `switch` (12.11)

-- a `break` without a label, or to a label before the `switch`, ends it
abbrev pub after_switch : List (List ℕ) → Completion → Completion
after_switch ls (broke l v) = if is_to l ls then normal v else broke l v
after_switch ls e = e

abbrev pub switch_end : List (List ℕ) → Completion → Store → Plan
switch_end ls e s = ends (after_switch ls e) s

-- the statements of the clauses, one clause after another; none has the value of the one before
abbrev pub bodies : t.Tree t.cases → List (List ℕ) → Env → Store → Plan
bodies t.no_cases ls env s = ends (normal None) s
bodies (t.more_cases e xs cs) ls env s =
    list true xs None env s (λ e' s'. on_each true None e' s' (λ v s''. bodies cs ls env s'') (switch_end ls))

abbrev pub bodies_rest : t.Tree t.cases → List (List ℕ) → Env → Completion → Store → Plan
bodies_rest cs ls env e s = on_each true None e s (λ v s'. bodies cs ls env s') (switch_end ls)

-- from the `default` on, if there is one
abbrev pub default_on : t.Tree t.cases → List (List ℕ) → Env → Store → Plan
default_on t.no_cases ls env s = ends (normal None) s
default_on (t.more_cases (t.some_expr e) xs cs) ls env s = default_on cs ls env s
default_on (t.more_cases t.no_expr xs cs) ls env s = bodies (t.more_cases t.no_expr xs cs) ls env s

-- from the first clause on whose expression has the value
abbrev pub find_case : Value → t.Tree t.cases → t.Tree t.cases → List (List ℕ) → Env → Store → Plan
find_case v t.no_cases all ls env s = default_on all ls env s
find_case v (t.more_cases t.no_expr xs cs) all ls env s = find_case v cs all ls env s
find_case v (t.more_cases (t.some_expr e) xs cs) all ls env s =
    with_value e env s (λ w s'. if strictly_equal v w then bodies (t.more_cases (t.some_expr e) xs cs) ls env s' else find_case v cs all ls env s')

-- what is done with the value of a clause's expression: `here` is that clause and those behind it
abbrev pub case_test : Value → t.Tree t.cases → t.Tree t.cases → t.Tree t.cases → List (List ℕ) → Env → Value → Store → Plan
case_test v here cs all ls env w s = if strictly_equal v w then bodies here ls env s else find_case v cs all ls env s

abbrev pub switch_on : t.Tree t.cases → List (List ℕ) → Env → Value → Store → Plan
switch_on cs ls env v s = find_case v cs cs ls env s

-- `try` (12.14)

-- what a `finally` leaves of the ending before it
abbrev pub restored : Completion → Completion → Store → Plan
restored before (normal v) s = ends before s
restored before e s = ends e s

abbrev pub finally_plan : t.Tree t.maybe_block → Env → Completion → Store → Plan
finally_plan t.no_block env e s = ends e s
finally_plan (t.some_block xs) env e s = list true xs None env s (restored e)

abbrev pub after_try : t.Tree t.handler → t.Tree t.maybe_block → Env → Completion → Store → Plan
after_try (t.some_handler x xs) f env (threw v) s =
    list true xs None (record env { chain = length s.scopes ∷ env.chain }) (with_scope caught ((x, v) ∷ []) s) (finally_plan f env)
after_try h f env e s = finally_plan f env e s

-- statements

abbrev pub stmt_plan : t.Tree t.stmt → List (List ℕ) → Env → Store → Plan
stmt_plan (t.block xs) ls env s = list true xs None env s ends
stmt_plan (t.var is) ls env s = var_items is env s
stmt_plan t.empty ls env s = ends (normal None) s
stmt_plan (t.expression e) ls env s = with_value e env s to_normal
stmt_plan (t.branch e x other) ls env s = with_value e env s (branch_side x other env)
stmt_plan (t.while_loop e x) ls env s = at_test (record { test = t.some_expr e; update = t.no_expr; body = x }) None ls env s
stmt_plan (t.do_loop x e) ls env s = loop_body (record { test = t.some_expr e; update = t.no_expr; body = x }) None ls env s
stmt_plan (t.for_loop i e u x) ls env s = for_first i (record { test = e; update = u; body = x }) ls env s
stmt_plan (t.for_in x e b) ls env s = with_value e env s (for_keys x b ls env)
stmt_plan (t.continue l) ls env s = ends (continued l None) s
stmt_plan (t.break l) ls env s = ends (broke l None) s
stmt_plan (t.return t.no_expr) ls env s = ends (returned Undefined) s
stmt_plan (t.return (t.some_expr e)) ls env s = with_value e env s to_returned
stmt_plan (t.with_object e b) ls env s = with_value e env s (with_value_of b env)
stmt_plan (t.switch e cs) ls env s = with_value e env s (switch_on cs ls env)
stmt_plan (t.label l x) ls env s = enter (effect_of x (l ∷ ls) env) s (on_label l)
stmt_plan (t.throw e) ls env s = with_value e env s to_threw
stmt_plan (t.try xs h f) ls env s = list true xs None env s (after_try h f env)
stmt_plan (t.declare f) ls env s = ends (normal None) s

-- what the first node of a later turn of a loop does, and what follows
abbrev pub again_first : t.Tree t.maybe_expr → t.Tree t.maybe_expr → Loop → Option Value → List (List ℕ) → Env → Store → Plan
again_first (t.some_expr u) e l acc ls env s = bind (expr_plan u env s) (on_value_of (after_update l acc ls env))
again_first t.no_expr (t.some_expr e) l acc ls env s = bind (expr_plan e env s) (on_value_of (loop_test l acc ls env))
again_first t.no_expr t.no_expr l acc ls env s = bind (stmt_plan l.body [] env s) (loop_next l acc ls env)

abbrev pub again_plan : Loop → Option Value → List (List ℕ) → Env → Store → Plan
again_plan l acc ls env s = again_first l.update l.test l acc ls env s
