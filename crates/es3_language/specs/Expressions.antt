-- What expressions do (ES3 11), by cases on the tree: each form is a plan that names the parts that are entered.
use Rattle.std.specs.Prelude.{ℕ, ◌+◌, ℤ, Bool, true, List, [], ◌∷◌, ◌++◌, Option, Some, None, Result, Ok, Err, length, nat_lt, slice_get, codes, if◌then◌else◌}
use Rattle.plans.specs.Plans.{Fault, number_fault, depth_fault, ends, stops, enter, told}
use Rattle.caja_units.specs.Units.{is_hidden}
use Rattle.es3_tree.specs.Tree as t
use Rattle.es3_tree.specs.declared.UnOp.{UnOp}
use Rattle.es3_tree.specs.declared.UnOp.TheVariants as un
use Rattle.es3_tree.specs.declared.BinOp.{BinOp}
use Rattle.es3_objects.specs.declared.value.Value.{Value}
use Rattle.es3_objects.specs.declared.value.Value.TheVariants.{Undefined, Null, Bool as Truth, Num, Text, Obj}
use Rattle.es3_objects.specs.declared.value.Class.TheVariants as class
use Rattle.es3_objects.specs.declared.value.FuncKind.{FuncKind}
use Rattle.es3_objects.specs.declared.value.FuncKind.TheVariants as kind
use Rattle.es3_objects.specs.declared.value.Proto.TheVariants as proto
use Rattle.es3_objects.specs.declared.value.Tag.{Tag}
use Rattle.es3_objects.specs.declared.value.Tag.TheVariants as tag
use Rattle.es3_heap.specs.Objects.{Objects, Callable, object_at, callable_of, tag_of, with_object}
use Rattle.es3_heap.specs.Properties.{get, put}
use Rattle.es3_heap.specs.Making.{array_object, made, proto_id}
use Rattle.es3_convert.specs.Conversions.{text_of}
use Rattle.es3_convert.specs.Numbers.{number_of}
use Rattle.es3_convert.specs.Comparisons.{truth_of}
use Rattle.es3_language.specs.declared.Touch.{Touch}
use Rattle.es3_language.specs.declared.Touch.TheVariants as touch
use Rattle.es3_language.specs.Store.{Store, Code, activation, own_name, with_heap, with_scope, with_slot, with_code, first_names}
use Rattle.es3_language.specs.Hoisting.{declared_name, code_of}
use Rattle.es3_language.specs.Arguments.{arguments_name, with_arguments}
use Rattle.es3_language.specs.References.{Ref, unresolved, slot, own_arguments, member, reference, member_of, read, base_of, write, may_go, deleted}
use Rattle.es3_language.specs.Operators.{operate, convert, type_name, stepped}
use Rattle.es3_language.specs.Lists.{list}
use Rattle.es3_language.specs.Tasks.{Completion, gave, found, returned, threw, Env, value_of, native_call, Plan, with_value, with_target, give, throw_error, with_given}

-- touches

abbrev pub note_of : Touch → Tag → Option (List ℕ) → Env → Plan → Plan
note_of w tag.None k env p = p
note_of w g k env p = told (record { by = env.by; what = w; on = g; key = k }) p

-- a member of an object with a name is read or written, at a key that isn't hidden
abbrev pub note_member : Touch → Ref → Env → Store → Plan → Plan
note_member w (member (Obj o) k) env s p = if is_hidden k then p else note_of w (tag_of (object_at s.heap o)) (Some k) env p
note_member w r env s p = p

abbrev pub function_tag : Option Callable → Tag → Tag
function_tag None g = tag.None
function_tag (Some c) g = g

-- the tag that a call of a value records: that of a function
abbrev pub callee_tag : Objects → Value → Tag
callee_tag h (Obj o) = function_tag (callable_of (object_at h o)) (tag_of (object_at h o))
callee_tag h v = tag.None

abbrev pub note_call : Touch → Value → Env → Store → Plan → Plan
note_call w f env s p = note_of w (callee_tag s.heap f) None env p

-- references

abbrev pub on_read : Option Value → Ref → Env → Store → (Value → Store → Plan) → Plan
on_read None r env s go = throw_error (codes "unbound") s
on_read (Some v) r env s go = note_member touch.Get r env s (go v s)

-- 10.1.8: `arguments` of an activation, once its arguments object is there
abbrev pub read_arguments : ℕ → Env → Store → (Value → Store → Plan) → Plan
read_arguments c env s go = on_read (read (slot c arguments_name) s) (slot c arguments_name) env s go

-- 8.7.1: GetValue; an arguments object is made when it is first read
abbrev pub with_read : Ref → Env → Store → (Value → Store → Plan) → Plan
with_read (own_arguments c) env s go = read_arguments c env (with_arguments c s) go
with_read r env s go = on_read (read r s) r env s go

-- 8.7.2: PutValue, and then the value v
abbrev pub write_plan : Ref → Value → Value → Env → Store → Plan
write_plan r w v env s = note_member touch.Set r env s (ends (gave v) (write r w s))

abbrev pub on_member : Option Ref → Store → (Ref → Store → Plan) → Plan
on_member None s go = throw_error (codes "no object") s
on_member (Some r) s go = go r s

abbrev pub read_plan : Env → Ref → Store → Plan
read_plan env r s = with_read r env s give

abbrev pub found_plan : Ref → Store → Plan
found_plan r s = ends (found r) s

-- 11.2.1: `e.k` for its value, and as a reference
abbrev pub dot_value : List ℕ → Env → Value → Store → Plan
dot_value k env v s = on_member (member_of v k) s (read_plan env)

abbrev pub dot_target : List ℕ → Value → Store → Plan
dot_target k v s = on_member (member_of v k) s found_plan

-- 11.2.1: `e[f]`; where e has no members, f isn't converted
abbrev pub on_key : Result (List ℕ) Fault → Value → Store → (Ref → Store → Plan) → Plan
on_key (Ok k) b s go = on_member (member_of b k) s go
on_key (Err f) b s go = stops f s

abbrev pub index_of : Value → Value → Store → (Ref → Store → Plan) → Plan
index_of Undefined f s go = throw_error (codes "no object") s
index_of Null f s go = throw_error (codes "no object") s
index_of b f s go = on_key (text_of s.heap f) b s go

abbrev pub index_value : Env → Value → Value → Store → Plan
index_value env b f s = index_of b f s (read_plan env)

abbrev pub index_target : Value → Value → Store → Plan
index_target b f s = index_of b f s found_plan

abbrev pub index_value_base : t.Tree t.expr → Env → Value → Store → Plan
index_value_base f env b s = with_value f env s (index_value env b)

abbrev pub index_target_base : t.Tree t.expr → Env → Value → Store → Plan
index_target_base f env b s = with_value f env s (index_target b)

abbrev pub name_value_plan : List ℕ → Env → Store → Plan
name_value_plan x env s = read_plan env (reference env.chain s x) s

-- operators

-- 11.5 to 11.10: `a op b`
abbrev pub binary_right : BinOp → Value → Value → Store → Plan
binary_right op a b s = with_given (operate op s.heap a b) s give

abbrev pub binary_left : BinOp → t.Tree t.expr → Env → Value → Store → Plan
binary_left op b env a s = with_value b env s (binary_right op a)

-- 11.11: `a && b`, `a || b`
abbrev pub and_right : t.Tree t.expr → Env → Value → Store → Plan
and_right b env a s = if truth_of a then enter (value_of b env) s ends else give a s

abbrev pub or_right : t.Tree t.expr → Env → Value → Store → Plan
or_right b env a s = if truth_of a then give a s else enter (value_of b env) s ends

-- 11.12: `c ? a : b`
abbrev pub choice_side : t.Tree t.expr → t.Tree t.expr → Env → Value → Store → Plan
choice_side a b env c s = if truth_of c then enter (value_of a env) s ends else enter (value_of b env) s ends

-- 11.14: `a, b`
abbrev pub comma_right : t.Tree t.expr → Env → Value → Store → Plan
comma_right b env a s = enter (value_of b env) s ends

-- 11.4: an operator before a value
abbrev pub convert_plan : UnOp → Value → Store → Plan
convert_plan op v s = with_given (convert op s.heap v) s give

-- 11.4.1: `delete`
abbrev pub delete_plan : Ref → Store → Plan
delete_plan r s = ends (gave (Truth (may_go r s))) (deleted r s)

-- 11.4.3: `typeof`; a name that no scope has is undefined
abbrev pub type_of_value : Value → Store → Plan
type_of_value v s = give (Text (type_name s.heap v)) s

abbrev pub type_plan : Env → Ref → Store → Plan
type_plan env (unresolved x) s = type_of_value Undefined s
type_plan env r s = with_read r env s type_of_value

-- 11.13.1: `x = e`
abbrev pub assign_value : Ref → Env → Value → Store → Plan
assign_value r env v s = write_plan r v v env s

abbrev pub assign_to : t.Tree t.expr → Env → Ref → Store → Plan
assign_to e env r s = with_value e env s (assign_value r env)

-- 11.13.2: `x op= e`
abbrev pub compound_value : BinOp → Ref → Value → Env → Value → Store → Plan
compound_value op r old env v s = with_given (operate op s.heap old v) s (λ w s'. write_plan r w w env s')

abbrev pub compound_to : BinOp → t.Tree t.expr → Env → Ref → Store → Plan
compound_to op e env r s = with_read r env s (λ old s'. with_value e env s' (compound_value op r old env))

-- 11.3, 11.4.4, 11.4.5: `++` and `--`, before the operand (then the new number is the value) or behind it
abbrev pub step_number : Bool → ℤ → Option ℤ → Ref → Env → Store → Plan
step_number before n None r env s = stops number_fault s
step_number before n (Some m) r env s = write_plan r (Num m) (if before then Num m else Num n) env s

abbrev pub step_value : Bool → Bool → Ref → Env → Result ℤ Fault → Store → Plan
step_value up before r env (Ok n) s = step_number before n (stepped up n) r env s
step_value up before r env (Err f) s = stops f s

abbrev pub step_plan : Bool → Bool → Env → Ref → Store → Plan
step_plan up before env r s = with_read r env s (λ old s'. step_value up before r env (number_of s'.heap old) s')

-- functions

-- 13: a function expression; one with a name of its own has a scope with that name around it
abbrev pub function_plan : t.Tree t.func → Env → Store → Plan
function_plan (t.fun None params body) env s = ends (gave (Obj (length s.heap.list))) (with_code (code_of (t.fun None params body) env.chain) env.by s)
function_plan (t.fun (Some x) params body) env s =
    ends (gave (Obj (length s.heap.list))) (with_code (code_of (t.fun (Some x) params body) (length s.scopes ∷ env.chain)) env.by (with_scope own_name ((x, Obj (length s.heap.list)) ∷ []) s))

-- 10.1.3: the functions that a body declares, in the activation c
abbrev pub with_functions : List (t.Tree t.func) → ℕ → List ℕ → ℕ → Store → Store
with_functions [] c chain by s = s
with_functions (f ∷ fs) c chain by s = with_functions fs c chain by (with_slot c (declared_name f) (Obj (length s.heap.list)) (with_code (code_of f chain) by s))

-- 10.1.3, 10.2.3: the store when control enters a function: the parameters and variables, and the functions that it declares
abbrev pub entered : Code → Value → List Value → ℕ → Store → Store
entered c f vs by s =
    with_functions c.functions (length s.scopes) (length s.scopes ∷ c.chain) by (with_scope (activation f c.params vs) (first_names c vs) s)

-- 13.2.1: what a call of a text's function gives, by how its statements ended
abbrev pub body_end : Completion → Store → Plan
body_end (returned v) s = ends (gave v) s
body_end (threw v) s = ends (threw v) s
body_end e s = ends (gave Undefined) s

-- 13.2.2: what `new` gives: the new object, unless the function returned one
abbrev pub new_end : ℕ → Completion → Store → Plan
new_end o (returned (Obj p)) s = ends (gave (Obj p)) s
new_end o (threw v) s = ends (threw v) s
new_end o e s = ends (gave (Obj o)) s

-- 10.2.3: `this` of a text's function is an object: the global one, where the receiver is none
abbrev pub this_of : Value → Store → ℕ
this_of (Obj o) s = o
this_of v s = s.globals

-- calls

-- at most 1,000 calls of functions of texts are open at once; a function of a text runs as the module that made it
abbrev pub open_code : Option Code → ℕ → Value → ℕ → List Value → ℕ → Store → (Completion → Store → Plan) → Plan
open_code None by f this vs calls s end = throw_error (codes "not a function") s
open_code (Some c) by f this vs calls s end =
    if nat_lt calls 1000
    then list true c.body None (record { chain = length s.scopes ∷ c.chain; calls = calls + 1; by = by; this = this }) (entered c f vs by s) end
    else stops depth_fault s

-- 13.2.1: what a call of a function does
abbrev pub apply_kind : FuncKind → ℕ → Value → Value → List Value → Env → Store → Plan
apply_kind (kind.Code c) by f this vs env s = open_code (slice_get s.codes c) by f (this_of this s) vs env.calls s body_end
apply_kind (kind.Simple w) by f this vs env s = enter (native_call w this vs env) s ends
apply_kind (kind.Constructor w) by f this vs env s = enter (native_call w this vs env) s ends
apply_kind (kind.Exophoric w r) by f this vs env s = enter (native_call w this vs env) s ends

abbrev pub apply_callable : Option Callable → Value → Value → List Value → Env → Store → Plan
apply_callable None f this vs env s = throw_error (codes "not a function") s
apply_callable (Some c) f this vs env s = apply_kind c.kind c.maker f this vs env s

abbrev pub apply : Value → Value → List Value → Env → Store → Plan
apply (Obj o) this vs env s = apply_callable (callable_of (object_at s.heap o)) (Obj o) this vs env s
apply f this vs env s = throw_error (codes "not a function") s

-- 13.2.2: the prototype of what a function makes
abbrev pub made_proto : Value → ℕ
made_proto (Obj p) = p
made_proto v = proto_id proto.Object

abbrev pub with_made : ℕ → Store → Store
with_made f s = with_heap s (made class.Object (Some (made_proto (get s.heap f (codes "prototype")))) s.heap)

-- 13.2.2: what `new` of a function does
abbrev pub construct_kind : FuncKind → ℕ → ℕ → List Value → Env → Store → Plan
construct_kind (kind.Code c) by f vs env s =
    open_code (slice_get s.codes c) by (Obj f) (length s.heap.list) vs env.calls (with_made f s) (new_end (length s.heap.list))
construct_kind (kind.Constructor w) by f vs env s = enter (native_call w Undefined vs env) s ends
construct_kind k by f vs env s = throw_error (codes "not a constructor") s

abbrev pub construct_callable : Option Callable → ℕ → List Value → Env → Store → Plan
construct_callable None f vs env s = throw_error (codes "not a constructor") s
construct_callable (Some c) f vs env s = construct_kind c.kind c.maker f vs env s

abbrev pub construct : Value → List Value → Env → Store → Plan
construct (Obj o) vs env s = construct_callable (callable_of (object_at s.heap o)) o vs env s
construct f vs env s = throw_error (codes "not a constructor") s

-- what is done with arguments: a call of what a reference stands for, or `new` of a value
pub data Callee : Type 0 where
  called : Ref → Callee
  maker : Value → Callee

-- 11.2.3: the call itself, after its arguments
abbrev pub call_value : Ref → List Value → Env → Value → Store → Plan
call_value r vs env f s = note_call touch.Call f env s (apply f (base_of r) vs env s)

-- 11.2.2, 11.2.3: a callee is looked up when its arguments are there; what `new` makes is known before
abbrev pub do_call : Callee → List Value → Env → Store → Plan
do_call (called r) vs env s = with_read r env s (call_value r vs env)
do_call (maker f) vs env s = note_call touch.New f env s (construct f vs env s)

-- 11.2.4: the arguments from the left, and then the call
abbrev pub arguments : Callee → List Value → t.Tree t.exprs → Env → Store → Plan
arguments f vs t.no_exprs env s = do_call f vs env s
arguments f vs (t.more_exprs e rest) env s = with_value e env s (λ v s'. arguments f (vs ++ v ∷ []) rest env s')

abbrev pub after_argument : Callee → List Value → t.Tree t.exprs → Env → Value → Store → Plan
after_argument f vs rest env v s = arguments f (vs ++ v ∷ []) rest env s

abbrev pub after_callee : t.Tree t.exprs → Env → Ref → Store → Plan
after_callee es env r s = arguments (called r) [] es env s

abbrev pub after_maker : t.Tree t.exprs → Env → Value → Store → Plan
after_maker es env f s = arguments (maker f) [] es env s

-- literals

-- 11.1.4: the items from the left, and then the array
abbrev pub items : List Value → t.Tree t.exprs → Env → Store → Plan
items vs t.no_exprs env s = ends (gave (Obj (length s.heap.list))) (with_heap s (with_object s.heap (array_object vs)))
items vs (t.more_exprs e rest) env s = with_value e env s (λ v s'. items (vs ++ v ∷ []) rest env s')

abbrev pub after_item : List Value → t.Tree t.exprs → Env → Value → Store → Plan
after_item vs rest env v s = items (vs ++ v ∷ []) rest env s

-- 11.1.5: the object, and then its properties from the left
abbrev pub fields : ℕ → t.Tree t.fields → Env → Store → Plan
fields o t.no_fields env s = give (Obj o) s
fields o (t.more_fields k e rest) env s = with_value e env s (λ v s'. fields o rest env (with_heap s' (put s'.heap o k v)))

abbrev pub after_field : ℕ → List ℕ → t.Tree t.fields → Env → Value → Store → Plan
after_field o k rest env v s = fields o rest env (with_heap s (put s.heap o k v))

abbrev pub object_plan : t.Tree t.fields → Env → Store → Plan
object_plan fs env s = fields (length s.heap.list) fs env (with_heap s (made class.Object (Some (proto_id proto.Object)) s.heap))

-- expressions

abbrev pub expr_plan : t.Tree t.expr → Env → Store → Plan
expr_plan t.this env s = give (Obj env.this) s
expr_plan t.null env s = give Null s
expr_plan (t.bool b) env s = give (Truth b) s
expr_plan (t.num n) env s = give (Num n) s
expr_plan (t.text us) env s = give (Text us) s
expr_plan (t.name x) env s = name_value_plan x env s
expr_plan (t.array es) env s = items [] es env s
expr_plan (t.object fs) env s = object_plan fs env s
expr_plan (t.function f) env s = function_plan f env s
expr_plan (t.dot e k) env s = with_value e env s (dot_value k env)
expr_plan (t.index e f) env s = with_value e env s (index_value_base f env)
expr_plan (t.call f es) env s = with_target f env s (after_callee es env)
expr_plan (t.new f es) env s = with_value f env s (after_maker es env)
expr_plan (t.unary un.Delete e) env s = with_target e env s delete_plan
expr_plan (t.unary un.Typeof e) env s = with_target e env s (type_plan env)
expr_plan (t.unary op e) env s = with_value e env s (convert_plan op)
expr_plan (t.step up before e) env s = with_target e env s (step_plan up before env)
expr_plan (t.binary op a b) env s = with_value a env s (binary_left op b env)
expr_plan (t.and a b) env s = with_value a env s (and_right b env)
expr_plan (t.or a b) env s = with_value a env s (or_right b env)
expr_plan (t.choice c a b) env s = with_value c env s (choice_side a b env)
expr_plan (t.assign None x e) env s = with_target x env s (assign_to e env)
expr_plan (t.assign (Some op) x e) env s = with_target x env s (compound_to op e env)
expr_plan (t.comma a b) env s = with_value a env s (comma_right b env)

-- 8.7, 11.1.2, 11.2.1: an expression as a reference
abbrev pub target_plan : t.Tree t.expr → Env → Store → Plan
target_plan (t.name x) env s = found_plan (reference env.chain s x) s
target_plan (t.dot e k) env s = with_value e env s (dot_target k)
target_plan (t.index e f) env s = with_value e env s (index_target_base f env)
target_plan e env s = expr_plan e env s
