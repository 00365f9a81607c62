-- Each form of an expression names live objects alone (ES3 11).
use Rattle.std.proofs.Common.{ℕ, ℤ, Bool, cond, List, ◌∷◌, [], ◌++◌, Option, Some, None, All, Result, Ok, Err, codes}
use Rattle.std.proofs.lemmas.List.Elements.{All-nil, All-push}
use Rattle.plans.specs.Plans.{Fault, ends, enter}
use Rattle.es3_tree.specs.Tree as t
use Rattle.es3_tree.specs.declared.UnOp.{UnOp}
use Rattle.es3_tree.specs.declared.UnOp.TheVariants as un
use Rattle.es3_tree.specs.declared.BinOp.{BinOp}
use Rattle.es3_objects.specs.declared.value.Value.{Value}
use Rattle.es3_objects.specs.declared.value.Value.TheVariants.{Undefined, Null, Bool as Truth, Num, Text, Obj}
use Rattle.es3_objects.specs.declared.value.Class.TheVariants as class
use Rattle.es3_objects.specs.declared.value.Proto.TheVariants as proto
use Rattle.es3_heap.specs.Objects.{with_object}
use Rattle.es3_heap.specs.Properties.{put}
use Rattle.es3_heap.specs.Making.{array_object, made, plain_object, proto_id}
use Rattle.es3_convert.specs.Conversions.{text_of}
use Rattle.es3_convert.specs.Numbers.{number_of}
use Rattle.es3_convert.specs.Comparisons.{truth_of}
use Rattle.es3_language.specs.Store.{Store, with_heap}
use Rattle.es3_language.specs.References.{Ref, unresolved, slot, own_arguments, in_object, named, member, just, reference, member_of}
use Rattle.es3_language.specs.Operators.{operate, convert, stepped}
use Rattle.es3_language.specs.Tasks.{Env, value_of, Plan, with_value, give}
use Rattle.es3_language.specs.Expressions.{read_plan, found_plan, dot_value, dot_target, on_key, index_of, index_value, index_target, index_value_base, index_target_base, binary_right, binary_left, and_right, or_right, choice_side, comma_right, convert_plan, delete_plan, type_of_value, type_plan, assign_value, assign_to, write_plan, compound_value, compound_to, step_number, step_value, step_plan, called, maker, after_callee, after_maker, items, after_item, fields, after_field, object_plan, expr_plan, target_plan}
use Rattle.es3_live.specs.Live.{IsLive}
use Rattle.es3_live.specs.Runs.{LiveStore, LiveRef, LiveEnv}
use Rattle.es3_live.proofs.Growth.{live_more, all_more}
use Rattle.es3_kept.proofs.Next.{same_store}
use Rattle.es3_kept.proofs.Plans.{LivePlan, earlier}
use Rattle.es3_kept.proofs.Parts.{either}
use Rattle.es3_live.proofs.Writing.{put_grown}
use Rattle.es3_live.proofs.Making.{proto_there, new_within, made_grown, array_grown}
use Rattle.es3_kept.proofs.Stores.{count, with_heap_live}
use Rattle.es3_kept.proofs.References.{reference_live, member_of_live, deleted_live}
use Rattle.es3_kept.proofs.Operators.{operate_live, convert_live}
use Rattle.es3_kept.proofs.Going.{GoesTo, passes, with_value_live, with_target_live, env_later, give_live, gives_on, throw_live, with_given_live, with_read_live, write_plan_live, on_member_live}
use Rattle.es3_kept.proofs.Calls.{function_live, arguments_live}

-- references (11.1.2, 11.2.1)

read_plan_live : (env : Env) (r : Ref) (s : Store) → LiveStore s → LiveRef (count s) r → LivePlan s.heap (read_plan env r s)
read_plan_live env r s l a = with_read_live r env s give l a (gives_on s.heap)

reads : (env : Env) (s : Store) → GoesTo s.heap (read_plan env)
reads env s r s' n a = read_plan_live env r s' n.store a

finds : (s : Store) → GoesTo s.heap found_plan
finds s r s' n a = (a, same_store s' n.store)

dot_value_live : (k : List ℕ) (env : Env) (v : Value) (s : Store) → LiveStore s → IsLive (count s) v → LivePlan s.heap (dot_value k env v s)
dot_value_live k env v s l a = on_member_live (member_of v k) s (read_plan env) l (member_of_live (count s) v k a) (reads env s)

dot_target_live : (k : List ℕ) (v : Value) (s : Store) → LiveStore s → IsLive (count s) v → LivePlan s.heap (dot_target k v s)
dot_target_live k v s l a = on_member_live (member_of v k) s found_plan l (member_of_live (count s) v k a) (finds s)

on_key_live : (k : Result (List ℕ) Fault) (b : Value) (s : Store) (go : Ref → Store → Plan) → LiveStore s → IsLive (count s) b → GoesTo s.heap go → LivePlan s.heap (on_key k b s go)
on_key_live (Ok k) b s go l a g = on_member_live (member_of b k) s go l (member_of_live (count s) b k a) g
on_key_live (Err f) b s go l a g = same_store s l

index_live : (b f : Value) (s : Store) (go : Ref → Store → Plan) → LiveStore s → IsLive (count s) b → GoesTo s.heap go → LivePlan s.heap (index_of b f s go)
index_live Undefined f s go l a g = throw_live (codes "no object") s l
index_live Null f s go l a g = throw_live (codes "no object") s l
index_live (Truth b) f s go l a g = on_key_live (text_of s.heap f) (Truth b) s go l a g
index_live (Num b) f s go l a g = on_key_live (text_of s.heap f) (Num b) s go l a g
index_live (Text b) f s go l a g = on_key_live (text_of s.heap f) (Text b) s go l a g
index_live (Obj b) f s go l a g = on_key_live (text_of s.heap f) (Obj b) s go l a g

index_value_live : (f : t.Tree t.expr) (env : Env) (b : Value) (s : Store) → LiveStore s → LiveEnv (count s) env → IsLive (count s) b → LivePlan s.heap (index_value_base f env b s)
index_value_live f env b s l w a = with_value_live f env s (index_value env b) l w (λ v s' n c. index_live b v s' (read_plan env) n.store (live_more b n.later.more a) (reads env s'))

index_target_live : (f : t.Tree t.expr) (env : Env) (b : Value) (s : Store) → LiveStore s → LiveEnv (count s) env → IsLive (count s) b → LivePlan s.heap (index_target_base f env b s)
index_target_live f env b s l w a = with_value_live f env s (index_target b) l w (λ v s' n c. index_live b v s' found_plan n.store (live_more b n.later.more a) (finds s'))

-- operators (11.4 to 11.14)

enters : (e : t.Tree t.expr) (env : Env) (s : Store) → LiveStore s → LiveEnv (count s) env → LivePlan s.heap (enter (value_of e env) s ends)
enters e env s l w = (w, same_store s l, passes s.heap)

binary_live : (op : BinOp) (b : t.Tree t.expr) (env : Env) (a : Value) (s : Store) → LiveStore s → LiveEnv (count s) env → LivePlan s.heap (binary_left op b env a s)
binary_live op b env a s l w = with_value_live b env s (binary_right op a) l w (λ v s' n c. with_given_live (operate op s'.heap a v) s' give n.store (operate_live (count s') op s'.heap a v) (gives_on s'.heap))

and_live : (b : t.Tree t.expr) (env : Env) (a : Value) (s : Store) → LiveStore s → LiveEnv (count s) env → IsLive (count s) a → LivePlan s.heap (and_right b env a s)
and_live b env a s l w c = either (LivePlan s.heap) (truth_of a) (enter (value_of b env) s ends) (give a s) (enters b env s l w) (give_live a s l c)

or_live : (b : t.Tree t.expr) (env : Env) (a : Value) (s : Store) → LiveStore s → LiveEnv (count s) env → IsLive (count s) a → LivePlan s.heap (or_right b env a s)
or_live b env a s l w c = either (LivePlan s.heap) (truth_of a) (give a s) (enter (value_of b env) s ends) (give_live a s l c) (enters b env s l w)

choice_live : (a b : t.Tree t.expr) (env : Env) (c : Value) (s : Store) → LiveStore s → LiveEnv (count s) env → LivePlan s.heap (choice_side a b env c s)
choice_live a b env c s l w = either (LivePlan s.heap) (truth_of c) (enter (value_of a env) s ends) (enter (value_of b env) s ends) (enters a env s l w) (enters b env s l w)

convert_plan_live : (op : UnOp) (v : Value) (s : Store) → LiveStore s → LivePlan s.heap (convert_plan op v s)
convert_plan_live op v s l = with_given_live (convert op s.heap v) s give l (convert_live (count s) op s.heap v) (gives_on s.heap)

type_live : (env : Env) (r : Ref) (s : Store) → LiveStore s → LiveRef (count s) r → LivePlan s.heap (type_plan env r s)
type_live env (unresolved x) s l a = (tt, same_store s l)
type_live env (slot c x) s l a = with_read_live (slot c x) env s type_of_value l a (λ v s' n b. (tt, same_store s' n.store))
type_live env (own_arguments c) s l a = with_read_live (own_arguments c) env s type_of_value l a (λ v s' n b. (tt, same_store s' n.store))
type_live env (in_object o x) s l a = with_read_live (in_object o x) env s type_of_value l a (λ v s' n b. (tt, same_store s' n.store))
type_live env (named o x) s l a = with_read_live (named o x) env s type_of_value l a (λ v s' n b. (tt, same_store s' n.store))
type_live env (member v k) s l a = with_read_live (member v k) env s type_of_value l a (λ v s' n b. (tt, same_store s' n.store))
type_live env (just v) s l a = with_read_live (just v) env s type_of_value l a (λ v s' n b. (tt, same_store s' n.store))

-- assignments (11.13), `++` and `--` (11.3, 11.4.4, 11.4.5)

assign_live : (e : t.Tree t.expr) (env : Env) (r : Ref) (s : Store) → LiveStore s → LiveEnv (count s) env → LivePlan s.heap (assign_to e env r s)
assign_live e env r s l w = with_value_live e env s (assign_value r env) l w (λ v s' n a. write_plan_live r v v env s' n.store a a)

compound_live : (op : BinOp) (e : t.Tree t.expr) (env : Env) (r : Ref) (s : Store) → LiveStore s → LiveEnv (count s) env → LiveRef (count s) r → LivePlan s.heap (compound_to op e env r s)
compound_live op e env r s l w a =
    with_read_live r env s (λ old s'. with_value e env s' (compound_value op r old env)) l a (λ old s' n b.
    with_value_live e env s' (compound_value op r old env) n.store (env_later env n w) (λ v s'' m c.
    with_given_live (operate op s''.heap old v) s'' (λ x s'''. write_plan r x x env s''') m.store (operate_live (count s'') op s''.heap old v) (λ x s''' p d. write_plan_live r x x env s''' p.store d d)))

step_number_live : (before : Bool) (n : ℤ) (m : Option ℤ) (r : Ref) (env : Env) (s : Store) → LiveStore s → LivePlan s.heap (step_number before n m r env s)
step_number_live before n None r env s l = same_store s l
step_number_live before n (Some m) r env s l = write_plan_live r (Num m) (cond before (Num m) (Num n)) env s l tt (either (IsLive (count s)) before (Num m) (Num n) tt tt)

step_value_live : (up before : Bool) (r : Ref) (env : Env) (n : Result ℤ Fault) (s : Store) → LiveStore s → LivePlan s.heap (step_value up before r env n s)
step_value_live up before r env (Ok n) s l = step_number_live before n (stepped up n) r env s l
step_value_live up before r env (Err f) s l = same_store s l

step_live : (up before : Bool) (env : Env) (r : Ref) (s : Store) → LiveStore s → LiveRef (count s) r → LivePlan s.heap (step_plan up before env r s)
step_live up before env r s l a = with_read_live r env s (λ old s'. step_value up before r env (number_of s'.heap old) s') l a (λ old s' n b. step_value_live up before r env (number_of s'.heap old) s' n.store)

-- literals (11.1.4, 11.1.5)

items_live : (vs : List Value) (es : t.Tree t.exprs) (env : Env) (s : Store) → LiveStore s → LiveEnv (count s) env → All (IsLive (count s)) vs → LivePlan s.heap (items vs es env s)
items_live vs t.no_exprs env s l w a = (new_within s.heap (array_object vs), with_heap_live s (with_object s.heap (array_object vs)) l (array_grown s.heap vs l.heap a))
items_live vs (t.more_exprs e rest) env s l w a =
    with_value_live e env s (after_item vs rest env) l w (λ v s' n b.
    items_live (vs ++ v ∷ []) rest env s' n.store (env_later env n w) (All-push (IsLive (count s')) vs v (all_more vs n.later.more a) b))

fields_live : (o : ℕ) (fs : t.Tree t.fields) (env : Env) (s : Store) → LiveStore s → LiveEnv (count s) env → IsLive (count s) (Obj o) → LivePlan s.heap (fields o fs env s)
fields_live o t.no_fields env s l w a = give_live (Obj o) s l a
fields_live o (t.more_fields k e rest) env s l w a =
    with_value_live e env s (after_field o k rest env) l w (λ v s' n b.
    let m = with_heap_live s' (put s'.heap o k v) n.store (put_grown s'.heap o k v n.store.heap b) in
    let after = with_heap s' (put s'.heap o k v) in
    earlier (fields o rest env after) m.later (fields_live o rest env after m.store (env_later env m (env_later env n w)) (live_more (Obj o) m.later.more (live_more (Obj o) n.later.more a))))

object_live : (fs : t.Tree t.fields) (env : Env) (s : Store) → LiveStore s → LiveEnv (count s) env → LivePlan s.heap (object_plan fs env s)
object_live fs env s l w =
    let p = Some (proto_id proto.Object) in
    let m = with_heap s (made class.Object p s.heap) in
    let n = with_heap_live s (made class.Object p s.heap) l (made_grown s.heap class.Object p l.heap (proto_there s.heap proto.Object l.heap)) in
    earlier (fields (count s) fs env m) n.later (fields_live (count s) fs env m n.store (env_later env n w) (new_within s.heap (plain_object class.Object p)))

-- expressions

pub expr_live : (e : t.Tree t.expr) (env : Env) (s : Store) → LiveStore s → LiveEnv (count s) env → LivePlan s.heap (expr_plan e env s)
expr_live t.this env s l w = give_live (Obj env.this) s l w
expr_live t.null env s l w = give_live Null s l tt
expr_live (t.bool b) env s l w = give_live (Truth b) s l tt
expr_live (t.num n) env s l w = give_live (Num n) s l tt
expr_live (t.text us) env s l w = give_live (Text us) s l tt
expr_live (t.name x) env s l w = read_plan_live env (reference env.chain s x) s l (reference_live s l env.chain x)
expr_live (t.array es) env s l w = items_live [] es env s l w (All-nil (IsLive (count s)))
expr_live (t.object fs) env s l w = object_live fs env s l w
expr_live (t.function f) env s l w = function_live f env s l
expr_live (t.dot e k) env s l w = with_value_live e env s (dot_value k env) l w (λ v s' n a. dot_value_live k env v s' n.store a)
expr_live (t.index e f) env s l w = with_value_live e env s (index_value_base f env) l w (λ v s' n a. index_value_live f env v s' n.store (env_later env n w) a)
expr_live (t.call f es) env s l w = with_target_live f env s (after_callee es env) l w (λ r s' n a. arguments_live (called r) [] es env s' n.store a (All-nil (IsLive (count s'))) (env_later env n w))
expr_live (t.new f es) env s l w = with_value_live f env s (after_maker es env) l w (λ v s' n a. arguments_live (maker v) [] es env s' n.store a (All-nil (IsLive (count s'))) (env_later env n w))
expr_live (t.unary un.Delete e) env s l w = with_target_live e env s delete_plan l w (λ r s' n a. (tt, deleted_live r s' n.store))
expr_live (t.unary un.Typeof e) env s l w = with_target_live e env s (type_plan env) l w (λ r s' n a. type_live env r s' n.store a)
expr_live (t.unary un.Void e) env s l w = with_value_live e env s (convert_plan un.Void) l w (λ v s' n a. convert_plan_live un.Void v s' n.store)
expr_live (t.unary un.Plus e) env s l w = with_value_live e env s (convert_plan un.Plus) l w (λ v s' n a. convert_plan_live un.Plus v s' n.store)
expr_live (t.unary un.Minus e) env s l w = with_value_live e env s (convert_plan un.Minus) l w (λ v s' n a. convert_plan_live un.Minus v s' n.store)
expr_live (t.unary un.BitNot e) env s l w = with_value_live e env s (convert_plan un.BitNot) l w (λ v s' n a. convert_plan_live un.BitNot v s' n.store)
expr_live (t.unary un.Not e) env s l w = with_value_live e env s (convert_plan un.Not) l w (λ v s' n a. convert_plan_live un.Not v s' n.store)
expr_live (t.step up before e) env s l w = with_target_live e env s (step_plan up before env) l w (λ r s' n a. step_live up before env r s' n.store a)
expr_live (t.binary op a b) env s l w = with_value_live a env s (binary_left op b env) l w (λ v s' n c. binary_live op b env v s' n.store (env_later env n w))
expr_live (t.and a b) env s l w = with_value_live a env s (and_right b env) l w (λ v s' n c. and_live b env v s' n.store (env_later env n w) c)
expr_live (t.or a b) env s l w = with_value_live a env s (or_right b env) l w (λ v s' n c. or_live b env v s' n.store (env_later env n w) c)
expr_live (t.choice c a b) env s l w = with_value_live c env s (choice_side a b env) l w (λ v s' n d. choice_live a b env v s' n.store (env_later env n w))
expr_live (t.assign None x e) env s l w = with_target_live x env s (assign_to e env) l w (λ r s' n a. assign_live e env r s' n.store (env_later env n w))
expr_live (t.assign (Some op) x e) env s l w = with_target_live x env s (compound_to op e env) l w (λ r s' n a. compound_live op e env r s' n.store (env_later env n w) a)
expr_live (t.comma a b) env s l w = with_value_live a env s (comma_right b env) l w (λ v s' n c. enters b env s' n.store (env_later env n w))

pub target_live : (e : t.Tree t.expr) (env : Env) (s : Store) → LiveStore s → LiveEnv (count s) env → LivePlan s.heap (target_plan e env s)
target_live (t.name x) env s l w = (reference_live s l env.chain x, same_store s l)
target_live (t.dot e k) env s l w = with_value_live e env s (dot_target k) l w (λ v s' n a. dot_target_live k v s' n.store a)
target_live (t.index e f) env s l w = with_value_live e env s (index_target_base f env) l w (λ v s' n a. index_target_live f env v s' n.store (env_later env n w) a)
target_live e env s l w = expr_live e env s l w
