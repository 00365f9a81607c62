-- Each form of a statement names live objects alone (ES3 12).
use Rattle.std.proofs.Common.{ℕ, ◌<◌, ◌≤◌, true, List, [], ◌∷◌, Option, Some, None, pos, codes, length, lt_of_lt_of_le}
use Rattle.std.proofs.lemmas.List.Elements.{All-nil}
use Rattle.plans.specs.Plans.{ends, enter}
use Rattle.es3_tree.specs.Tree as t
use Rattle.es3_objects.specs.declared.value.Value.{Value}
use Rattle.es3_objects.specs.declared.value.Value.TheVariants.{Bool as Truth, Num, Text, Obj}
use Rattle.es3_objects.specs.declared.value.Class.TheVariants as class
use Rattle.es3_objects.specs.declared.value.Proto.{Proto}
use Rattle.es3_objects.specs.declared.value.Proto.TheVariants as proto
use Rattle.es3_heap.specs.Objects.{Objects, fixed_attrs}
use Rattle.es3_heap.specs.Properties.{define, length_key}
use Rattle.es3_heap.specs.Making.{made, plain_object, proto_id}
use Rattle.es3_convert.specs.Comparisons.{truth_of, strictly_equal}
use Rattle.es3_language.specs.Store.{Store, caught, with_object_of, with_scope}
use Rattle.es3_language.specs.Tasks.{Completion, gave, found, normal, broke, continued, returned, threw, Env, Loop, effect_of, on_value_of}
use Rattle.es3_language.specs.Expressions.{expr_plan}
use Rattle.es3_language.specs.Statements.{to_normal, to_returned, to_threw, var_end, other_side, branch_side, is_to, is_label, unlabelled, loop_next, loop_test, after_update, for_keys, of_proto, with_scope_of, of_text, with_value_of, after_switch, switch_end, bodies, bodies_rest, default_on, find_case, case_test, switch_on, restored, finally_plan, after_try, stmt_plan, again_first}
use Rattle.es3_live.specs.Live.{IsLive}
use Rattle.es3_live.specs.Runs.{IsLiveOrNone, LiveStore, LiveEnding, LiveEnv}
use Rattle.es3_live.proofs.Growth.{live_more, none_more, ref_more}
use Rattle.es3_kept.proofs.Next.{Next, same_store}
use Rattle.es3_kept.proofs.Plans.{LivePlan, Follows, earlier, bind_live}
use Rattle.es3_kept.proofs.Parts.{either}
use Rattle.es3_kept.proofs.Names.{LiveName, one_name}
use Rattle.es3_live.proofs.Writing.{define_grown}
use Rattle.es3_live.proofs.Making.{proto_there, new_within, made_grown}
use Rattle.es3_kept.proofs.Stores.{count, next_trans, with_heap_live, with_scope_live}
use Rattle.es3_kept.proofs.Going.{follows_later, passes, from_value, with_value_live, env_later, throw_live}
use Rattle.es3_kept.proofs.Lists.{on_each_live, list_live}
use Rattle.es3_kept.proofs.Expressions.{expr_live}
use Rattle.es3_kept.proofs.Loops.{var_live, loop_next_live, loop_body_live, loop_test_live, at_test_live, after_update_live, for_live, for_keys_live}

-- how a statement ends (8.9)

ending_more : {n m : ℕ} (e : Completion) → n ≤ m → LiveEnding n e → LiveEnding m e
ending_more (gave v) le a = live_more v le a
ending_more (found r) le a = ref_more r le a
ending_more (normal v) le a = none_more v le a
ending_more (broke l v) le a = none_more v le a
ending_more (continued l v) le a = none_more v le a
ending_more (returned v) le a = live_more v le a
ending_more (threw v) le a = live_more v le a

enters : (x : t.Tree t.stmt) (ls : List (List ℕ)) (env : Env) (s : Store) → LiveStore s → LiveEnv (count s) env → LivePlan s.heap (enter (effect_of x ls env) s ends)
enters x ls env s l w = (w, same_store s l, passes s.heap)

-- `if` (12.5)

other_live : (x : t.Tree t.maybe_stmt) (env : Env) (s : Store) → LiveStore s → LiveEnv (count s) env → LivePlan s.heap (other_side x env s)
other_live t.no_stmt env s l w = (tt, same_store s l)
other_live (t.some_stmt x) env s l w = enters x [] env s l w

branch_live : (x : t.Tree t.stmt) (other : t.Tree t.maybe_stmt) (env : Env) (v : Value) (s : Store) → LiveStore s → LiveEnv (count s) env → LivePlan s.heap (branch_side x other env v s)
branch_live x other env v s l w = either (LivePlan s.heap) (truth_of v) (enter (effect_of x [] env) s ends) (other_side other env s) (enters x [] env s l w) (other_live other env s l w)

-- labels (12.12)

unlabelled_live : (n : ℕ) (l : List ℕ) (e : Completion) → LiveEnding n e → LiveEnding n (unlabelled l e)
unlabelled_live n l (broke k v) a = either (LiveEnding n) (is_label k l) (normal v) (broke k v) a a
unlabelled_live n l (gave v) a = a
unlabelled_live n l (found r) a = a
unlabelled_live n l (normal v) a = a
unlabelled_live n l (continued k v) a = a
unlabelled_live n l (returned v) a = a
unlabelled_live n l (threw v) a = a

-- `with` (12.10)

of_proto_live : (p : Proto) (s : Store) → LiveStore s → Next s.heap (of_proto p s)
of_proto_live p s l = with_heap_live s (made class.Object (Some (proto_id p)) s.heap) l (made_grown s.heap class.Object (Some (proto_id p)) l.heap (proto_there s.heap p l.heap))

of_proto_there : (p : Proto) (s : Store) → count s < count (of_proto p s)
of_proto_there p s = new_within s.heap (plain_object class.Object (Some (proto_id p)))

of_text_live : (us : List ℕ) (s : Store) → LiveStore s → Next (of_proto proto.String s).heap (of_text us s)
of_text_live us s l =
    let n = of_proto proto.String s in
    let m = of_proto_live proto.String s l in
    with_heap_live n (define n.heap (count s) length_key (Num (pos (length us))) fixed_attrs) m.store (define_grown n.heap (count s) length_key (Num (pos (length us))) fixed_attrs m.store.heap tt)

scope_of_live : (b : t.Tree t.stmt) (env : Env) (o : ℕ) (s : Store) → LiveStore s → LiveEnv (count s) env → o < count s → LivePlan s.heap (with_scope_of b env o s)
scope_of_live b env o s l w within = (w, with_scope_live (with_object_of o) [] s l within (All-nil (LiveName (count s))), passes s.heap)

-- the body, with a new object
new_scope_live : (b : t.Tree t.stmt) (env : Env) (s s' : Store) → Next s.heap s' → LiveEnv (count s) env → count s < count s' → LivePlan s.heap (with_scope_of b env (count s) s')
new_scope_live b env s s' n w there = earlier (with_scope_of b env (count s) s') n.later (scope_of_live b env (count s) s' n.store (env_later env n w) there)

with_value_of_live : (b : t.Tree t.stmt) (env : Env) (v : Value) (s : Store) → LiveStore s → LiveEnv (count s) env → IsLive (count s) v → LivePlan s.heap (with_value_of b env v s)
with_value_of_live b env (Obj o) s l w a = scope_of_live b env o s l w a
with_value_of_live b env (Text us) s l w a =
    let n = of_proto_live proto.String s l in
    let m = of_text_live us s l in
    new_scope_live b env s (of_text us s) (next_trans n m) w (lt_of_lt_of_le (of_proto_there proto.String s) m.later.more)
with_value_of_live b env (Num x) s l w a = new_scope_live b env s (of_proto proto.Number s) (of_proto_live proto.Number s l) w (of_proto_there proto.Number s)
with_value_of_live b env (Truth x) s l w a = new_scope_live b env s (of_proto proto.Boolean s) (of_proto_live proto.Boolean s l) w (of_proto_there proto.Boolean s)
with_value_of_live b env v s l w a = throw_live (codes "no object") s l

-- `switch` (12.11)

after_switch_live : (n : ℕ) (ls : List (List ℕ)) (e : Completion) → LiveEnding n e → LiveEnding n (after_switch ls e)
after_switch_live n ls (broke l v) a = either (LiveEnding n) (is_to l ls) (normal v) (broke l v) a a
after_switch_live n ls (gave v) a = a
after_switch_live n ls (found r) a = a
after_switch_live n ls (normal v) a = a
after_switch_live n ls (continued l v) a = a
after_switch_live n ls (returned v) a = a
after_switch_live n ls (threw v) a = a

switch_end_live : (h : Objects) (ls : List (List ℕ)) → Follows h (switch_end ls)
switch_end_live h ls e s n a = (after_switch_live (count s) ls e a, same_store s n.store)

bodies_live : (cs : t.Tree t.cases) (ls : List (List ℕ)) (env : Env) (s : Store) → LiveStore s → LiveEnv (count s) env → LivePlan s.heap (bodies cs ls env s)
bodies_live t.no_cases ls env s l w = (tt, same_store s l)
bodies_live (t.more_cases e xs cs) ls env s l w =
    list_live true xs None env s (bodies_rest cs ls env) l tt w (λ e' s' n a.
    on_each_live s.heap true None e' s' (λ v s''. bodies cs ls env s'') (switch_end ls) n tt a (λ v s'' m b. bodies_live cs ls env s'' m.store (env_later env m w)) (switch_end_live s.heap ls))

default_live : (cs : t.Tree t.cases) (ls : List (List ℕ)) (env : Env) (s : Store) → LiveStore s → LiveEnv (count s) env → LivePlan s.heap (default_on cs ls env s)
default_live t.no_cases ls env s l w = (tt, same_store s l)
default_live (t.more_cases (t.some_expr e) xs cs) ls env s l w = default_live cs ls env s l w
default_live (t.more_cases t.no_expr xs cs) ls env s l w = bodies_live (t.more_cases t.no_expr xs cs) ls env s l w

find_live : (v : Value) (cs all : t.Tree t.cases) (ls : List (List ℕ)) (env : Env) (s : Store) → LiveStore s → LiveEnv (count s) env → LivePlan s.heap (find_case v cs all ls env s)
find_live v t.no_cases all ls env s l w = default_live all ls env s l w
find_live v (t.more_cases t.no_expr xs cs) all ls env s l w = find_live v cs all ls env s l w
find_live v (t.more_cases (t.some_expr e) xs cs) all ls env s l w =
    let here = t.more_cases (t.some_expr e) xs cs in
    with_value_live e env s (case_test v here cs all ls env) l w (λ x s' n a.
    either (LivePlan s'.heap) (strictly_equal v x) (bodies here ls env s') (find_case v cs all ls env s') (bodies_live here ls env s' n.store (env_later env n w)) (find_live v cs all ls env s' n.store (env_later env n w)))

-- `try` (12.14)

restored_live : (h : Objects) (before : Completion) → LiveEnding (length h.list) before → Follows h (restored before)
restored_live h before a (normal v) s n b = (ending_more before n.later.more a, same_store s n.store)
restored_live h before a e s n b = (b, same_store s n.store)

finally_live : (h : Objects) (f : t.Tree t.maybe_block) (env : Env) → LiveEnv (length h.list) env → Follows h (finally_plan f env)
finally_live h t.no_block env w e s n a = (a, same_store s n.store)
finally_live h (t.some_block xs) env w e s n a = list_live true xs None env s (restored e) n.store tt (env_later env n w) (restored_live s.heap e a)

try_live : (h : Objects) (x : t.Tree t.handler) (f : t.Tree t.maybe_block) (env : Env) → LiveEnv (length h.list) env → Follows h (after_try x f env)
try_live h (t.some_handler x xs) f env w (threw v) s n a =
    let inner : Env = record env { chain = length s.scopes ∷ env.chain } in
    let m = with_scope_live caught ((x, v) ∷ []) s n.store tt (one_name (count s) x v a) in
    list_live true xs None inner (with_scope caught ((x, v) ∷ []) s) (finally_plan f env) m.store tt (env_later env n w) (follows_later (finally_plan f env) n.later (finally_live h f env w))
try_live h x f env w e s n a = finally_live h f env w e s n a

-- statements

pub stmt_live : (x : t.Tree t.stmt) (ls : List (List ℕ)) (env : Env) (s : Store) → LiveStore s → LiveEnv (count s) env → LivePlan s.heap (stmt_plan x ls env s)
stmt_live (t.block xs) ls env s l w = list_live true xs None env s ends l tt w (passes s.heap)
stmt_live (t.var is) ls env s l w = var_live is env s var_end l w (λ s' n. (tt, same_store s' n.store))
stmt_live t.empty ls env s l w = (tt, same_store s l)
stmt_live (t.expression e) ls env s l w = with_value_live e env s to_normal l w (λ v s' n a. (a, same_store s' n.store))
stmt_live (t.branch e x other) ls env s l w = with_value_live e env s (branch_side x other env) l w (λ v s' n a. branch_live x other env v s' n.store (env_later env n w))
stmt_live (t.while_loop e x) ls env s l w = at_test_live (record { test = t.some_expr e; update = t.no_expr; body = x }) None ls env s l tt w
stmt_live (t.do_loop x e) ls env s l w = loop_body_live (record { test = t.some_expr e; update = t.no_expr; body = x }) None ls env s l tt w
stmt_live (t.for_loop i e u x) ls env s l w = for_live i (record { test = e; update = u; body = x }) ls env s l w
stmt_live (t.for_in x e b) ls env s l w = with_value_live e env s (for_keys x b ls env) l w (λ v s' n a. for_keys_live x b ls env v s' n.store (env_later env n w) a)
stmt_live (t.continue k) ls env s l w = (tt, same_store s l)
stmt_live (t.break k) ls env s l w = (tt, same_store s l)
stmt_live (t.return t.no_expr) ls env s l w = (tt, same_store s l)
stmt_live (t.return (t.some_expr e)) ls env s l w = with_value_live e env s to_returned l w (λ v s' n a. (a, same_store s' n.store))
stmt_live (t.with_object e b) ls env s l w = with_value_live e env s (with_value_of b env) l w (λ v s' n a. with_value_of_live b env v s' n.store (env_later env n w) a)
stmt_live (t.switch e cs) ls env s l w = with_value_live e env s (switch_on cs ls env) l w (λ v s' n a. find_live v cs cs ls env s' n.store (env_later env n w))
stmt_live (t.label k x) ls env s l w = (w, same_store s l, λ e s' n a. (unlabelled_live (count s') k e a, same_store s' n.store))
stmt_live (t.throw e) ls env s l w = with_value_live e env s to_threw l w (λ v s' n a. (a, same_store s' n.store))
stmt_live (t.try xs h f) ls env s l w = list_live true xs None env s (after_try h f env) l tt w (try_live s.heap h f env w)
stmt_live (t.declare f) ls env s l w = (tt, same_store s l)

-- a later turn of a loop
pub again_live : (u e : t.Tree t.maybe_expr) (k : Loop) (acc : Option Value) (ls : List (List ℕ)) (env : Env) (s : Store) → LiveStore s → IsLiveOrNone (count s) acc → LiveEnv (count s) env → LivePlan s.heap (again_first u e k acc ls env s)
again_live (t.some_expr u) e k acc ls env s l a w =
    bind_live (expr_plan u env s) (on_value_of (after_update k acc ls env)) (expr_live u env s l w) (from_value s.heap (after_update k acc ls env) (after_update_live s.heap k acc ls env a w))
again_live t.no_expr (t.some_expr e) k acc ls env s l a w =
    bind_live (expr_plan e env s) (on_value_of (loop_test k acc ls env)) (expr_live e env s l w) (from_value s.heap (loop_test k acc ls env) (loop_test_live s.heap k acc ls env a w))
again_live t.no_expr t.no_expr k acc ls env s l a w =
    bind_live (stmt_plan k.body [] env s) (loop_next k acc ls env) (stmt_live k.body [] env s l w) (loop_next_live s.heap k acc ls env a w)
