-- Functions and calls name live objects alone (ES3 10.1.3, 10.2.3, 13).
use Rattle.std.proofs.Common.{ℕ, ◌+◌, ◌<◌, ◌≤◌, true, List, ◌∷◌, [], ◌++◌, Option, Some, None, All, nat_lt, codes, length, slice_get, lt_of_lt_of_le}
use Rattle.std.proofs.lemmas.List.Elements.{All-push}
use Rattle.plans.specs.Plans.{depth_fault, ends, stops, enter}
use Rattle.es3_tree.specs.Tree as t
use Rattle.es3_objects.specs.declared.value.Value.{Value}
use Rattle.es3_objects.specs.declared.value.Value.TheVariants.{Undefined, Obj}
use Rattle.es3_objects.specs.declared.value.Class.TheVariants as class
use Rattle.es3_objects.specs.declared.value.FuncKind.{FuncKind}
use Rattle.es3_objects.specs.declared.value.FuncKind.TheVariants as kind
use Rattle.es3_objects.specs.declared.value.Proto.TheVariants as proto
use Rattle.es3_heap.specs.Objects.{Objects, Callable, object_at, callable_of}
use Rattle.es3_heap.specs.Properties.{get}
use Rattle.es3_heap.specs.Making.{made, plain_object}
use Rattle.es3_language.specs.declared.Touch.TheVariants as touch
use Rattle.es3_language.specs.Store.{Store, Code, activation, own_name, with_scope, with_slot, with_code, first_names}
use Rattle.es3_language.specs.Hoisting.{declared_name, code_of}
use Rattle.es3_language.specs.References.{base_of}
use Rattle.es3_language.specs.Tasks.{Completion, returned, threw, Env, native_call, Plan}
use Rattle.es3_language.specs.Lists.{list}
use Rattle.es3_language.specs.Expressions.{function_plan, with_functions, entered, body_end, new_end, this_of, open_code, apply_kind, apply_callable, apply, made_proto, with_made, construct_kind, construct_callable, construct, Callee, called, maker, call_value, do_call, arguments, after_argument}
use Rattle.es3_live.specs.Live.{IsLive, AreClosed}
use Rattle.es3_live.specs.Runs.{LiveStore, LiveRef, LiveEnv}
use Rattle.es3_live.proofs.Growth.{live_more, all_more, ref_more}
use Rattle.es3_kept.proofs.Next.{Next, same_store}
use Rattle.es3_kept.proofs.Plans.{LivePlan, Follows, earlier}
use Rattle.es3_kept.proofs.Parts.{either}
use Rattle.es3_kept.proofs.Names.{one_name, first_names_live}
use Rattle.es3_live.proofs.Reading.{get_live}
use Rattle.es3_live.proofs.Making.{proto_there, new_within, made_grown}
use Rattle.es3_kept.proofs.Stores.{count, next_trans, with_heap_live, with_scope_live, with_slot_live, with_code_live, code_there}
use Rattle.es3_kept.proofs.References.{base_of_live}
use Rattle.es3_kept.proofs.Going.{follows_later, passes, with_value_live, env_later, throw_live, note_call_live, with_read_live}
use Rattle.es3_kept.proofs.Lists.{list_live}

-- functions

pub function_live : (f : t.Tree t.func) (env : Env) (s : Store) → LiveStore s → LivePlan s.heap (function_plan f env s)
function_live (t.fun None params body) env s l =
    let c = code_of (t.fun None params body) env.chain in
    (code_there c env.by s l, with_code_live c env.by s l)
function_live (t.fun (Some x) params body) env s l =
    let c = code_of (t.fun (Some x) params body) (length s.scopes ∷ env.chain) in
    let made = with_code c env.by s in
    let n = with_code_live c env.by s l in
    let there = code_there c env.by s l in
    (there, next_trans n (with_scope_live own_name ((x, Obj (count s)) ∷ []) made n.store tt (one_name (count made) x (Obj (count s)) there)))

with_functions_live : (fs : List (t.Tree t.func)) (c : ℕ) (chain : List ℕ) (by : ℕ) (s : Store) → LiveStore s → Next s.heap (with_functions fs c chain by s)
with_functions_live [] c chain by s l = same_store s l
with_functions_live (f ∷ fs) c chain by s l =
    let made = with_code (code_of f chain) by s in
    let n = with_code_live (code_of f chain) by s l in
    let m = with_slot_live c (declared_name f) (Obj (count s)) made n.store (code_there (code_of f chain) by s l) in
    next_trans n (next_trans m (with_functions_live fs c chain by (with_slot c (declared_name f) (Obj (count s)) made) m.store))

pub entered_live : (c : Code) (f : Value) (vs : List Value) (by : ℕ) (s : Store) → LiveStore s → IsLive (count s) f → All (IsLive (count s)) vs → Next s.heap (entered c f vs by s)
entered_live c f vs by s l a b =
    let n = with_scope_live (activation f c.params vs) (first_names c vs) s l (a, b) (first_names_live (count s) c vs b) in
    next_trans n (with_functions_live c.functions (length s.scopes) (length s.scopes ∷ c.chain) by (with_scope (activation f c.params vs) (first_names c vs) s) n.store)

-- what a call gives, and what `new` gives

body_live : (h : Objects) → Follows h body_end
body_live h (returned v) s n a = (a, same_store s n.store)
body_live h (threw v) s n a = (a, same_store s n.store)
body_live h e s n a = (tt, same_store s n.store)

new_live : (h : Objects) (o : ℕ) → o < length h.list → Follows h (new_end o)
new_live h o within (returned (Obj p)) s n a = (a, same_store s n.store)
new_live h o within (threw v) s n a = (a, same_store s n.store)
new_live h o within e s n a = (lt_of_lt_of_le within n.later.more, same_store s n.store)

this_live : (v : Value) (s : Store) → LiveStore s → IsLive (count s) v → this_of v s < count s
this_live (Obj o) s l a = a
this_live v s l a = l.globals

-- calls

open_live : (c : Option Code) (by : ℕ) (f : Value) (this : ℕ) (vs : List Value) (calls : ℕ) (s : Store) (end : Completion → Store → Plan)
    → LiveStore s → IsLive (count s) f → this < count s → All (IsLive (count s)) vs → Follows s.heap end → LivePlan s.heap (open_code c by f this vs calls s end)
open_live None by f this vs calls s end l a w b g = throw_live (codes "not a function") s l
open_live (Some c) by f this vs calls s end l a w b g =
    let n = entered_live c f vs by s l a b in
    let env : Env = record { chain = length s.scopes ∷ c.chain; calls = calls + 1; by = by; this = this } in
    let p = list true c.body None env (entered c f vs by s) end in
    either (LivePlan s.heap) (nat_lt calls 1000) p (stops depth_fault s)
    (earlier p n.later (list_live true c.body None env (entered c f vs by s) end n.store tt (env_later env n w) (follows_later end n.later g)))
    (same_store s l)

native_live : (w : ℕ) (this : Value) (vs : List Value) (env : Env) (s : Store) → LiveStore s → IsLive (count s) this → All (IsLive (count s)) vs → LiveEnv (count s) env → LivePlan s.heap (enter (native_call w this vs env) s ends)
native_live w this vs env s l a b v = ((a, b, v), same_store s l, passes s.heap)

kind_live : (k : FuncKind) (by : ℕ) (f this : Value) (vs : List Value) (env : Env) (s : Store)
    → LiveStore s → IsLive (count s) f → IsLive (count s) this → All (IsLive (count s)) vs → LiveEnv (count s) env → LivePlan s.heap (apply_kind k by f this vs env s)
kind_live (kind.Code c) by f this vs env s l a b d w = open_live (slice_get s.codes c) by f (this_of this s) vs env.calls s body_end l a (this_live this s l b) d (body_live s.heap)
kind_live (kind.Simple x) by f this vs env s l a b d w = native_live x this vs env s l b d w
kind_live (kind.Constructor x) by f this vs env s l a b d w = native_live x this vs env s l b d w
kind_live (kind.Exophoric x r) by f this vs env s l a b d w = native_live x this vs env s l b d w

callable_live : (c : Option Callable) (f this : Value) (vs : List Value) (env : Env) (s : Store)
    → LiveStore s → IsLive (count s) f → IsLive (count s) this → All (IsLive (count s)) vs → LiveEnv (count s) env → LivePlan s.heap (apply_callable c f this vs env s)
callable_live None f this vs env s l a b d w = throw_live (codes "not a function") s l
callable_live (Some c) f this vs env s l a b d w = kind_live c.kind c.maker f this vs env s l a b d w

pub apply_live : (f this : Value) (vs : List Value) (env : Env) (s : Store)
    → LiveStore s → IsLive (count s) f → IsLive (count s) this → All (IsLive (count s)) vs → LiveEnv (count s) env → LivePlan s.heap (apply f this vs env s)
apply_live (Obj o) this vs env s l a b d w = callable_live (callable_of (object_at s.heap o)) (Obj o) this vs env s l a b d w
apply_live f this vs env s l a b d w = throw_live (codes "not a function") s l

-- `new`

made_proto_live : (h : Objects) (v : Value) → AreClosed h → IsLive (length h.list) v → made_proto v < length h.list
made_proto_live h (Obj p) c a = a
made_proto_live h v c a = proto_there h proto.Object c

made_live : (f : ℕ) (s : Store) → LiveStore s → Next s.heap (with_made f s)
made_live f s l =
    let p = Some (made_proto (get s.heap f (codes "prototype"))) in
    with_heap_live s (made class.Object p s.heap) l (made_grown s.heap class.Object p l.heap (made_proto_live s.heap (get s.heap f (codes "prototype")) l.heap (get_live s.heap f (codes "prototype") l.heap)))

construct_kind_live : (k : FuncKind) (by f : ℕ) (vs : List Value) (env : Env) (s : Store)
    → LiveStore s → f < count s → All (IsLive (count s)) vs → LiveEnv (count s) env → LivePlan s.heap (construct_kind k by f vs env s)
construct_kind_live (kind.Code c) by f vs env s l a d w =
    let n = made_live f s l in
    let m = with_made f s in
    let there : count s < count m = new_within s.heap (plain_object class.Object (Some (made_proto (get s.heap f (codes "prototype"))))) in
    earlier (open_code (slice_get s.codes c) by (Obj f) (count s) vs env.calls m (new_end (count s))) n.later
    (open_live (slice_get s.codes c) by (Obj f) (count s) vs env.calls m (new_end (count s)) n.store (lt_of_lt_of_le a n.later.more) there (all_more vs n.later.more d) (new_live m.heap (count s) there))
construct_kind_live (kind.Constructor x) by f vs env s l a d w = native_live x Undefined vs env s l tt d w
construct_kind_live (kind.Simple x) by f vs env s l a d w = throw_live (codes "not a constructor") s l
construct_kind_live (kind.Exophoric x r) by f vs env s l a d w = throw_live (codes "not a constructor") s l

construct_callable_live : (c : Option Callable) (f : ℕ) (vs : List Value) (env : Env) (s : Store)
    → LiveStore s → f < count s → All (IsLive (count s)) vs → LiveEnv (count s) env → LivePlan s.heap (construct_callable c f vs env s)
construct_callable_live None f vs env s l a d w = throw_live (codes "not a constructor") s l
construct_callable_live (Some c) f vs env s l a d w = construct_kind_live c.kind c.maker f vs env s l a d w

construct_live : (f : Value) (vs : List Value) (env : Env) (s : Store) → LiveStore s → IsLive (count s) f → All (IsLive (count s)) vs → LiveEnv (count s) env → LivePlan s.heap (construct f vs env s)
construct_live (Obj o) vs env s l a d w = construct_callable_live (callable_of (object_at s.heap o)) o vs env s l a d w
construct_live f vs env s l a d w = throw_live (codes "not a constructor") s l

-- what is done with arguments

abbrev pub LiveCallee : ℕ → Callee → Type 0
LiveCallee n (called r) = LiveRef n r
LiveCallee n (maker v) = IsLive n v

callee_more : {n m : ℕ} (f : Callee) → n ≤ m → LiveCallee n f → LiveCallee m f
callee_more (called r) le a = ref_more r le a
callee_more (maker v) le a = live_more v le a

do_call_live : (f : Callee) (vs : List Value) (env : Env) (s : Store) → LiveStore s → LiveCallee (count s) f → All (IsLive (count s)) vs → LiveEnv (count s) env → LivePlan s.heap (do_call f vs env s)
do_call_live (called r) vs env s l a b w =
    with_read_live r env s (call_value r vs env) l a (λ f s' n c.
    note_call_live s'.heap touch.Call f env s' (apply f (base_of r) vs env s')
    (apply_live f (base_of r) vs env s' n.store c (live_more (base_of r) n.later.more (base_of_live (count s) r a)) (all_more vs n.later.more b) (env_later env n w)))
do_call_live (maker f) vs env s l a b w = note_call_live s.heap touch.New f env s (construct f vs env s) (construct_live f vs env s l a b w)

pub arguments_live : (f : Callee) (vs : List Value) (es : t.Tree t.exprs) (env : Env) (s : Store) → LiveStore s → LiveCallee (count s) f → All (IsLive (count s)) vs → LiveEnv (count s) env → LivePlan s.heap (arguments f vs es env s)
arguments_live f vs t.no_exprs env s l a b w = do_call_live f vs env s l a b w
arguments_live f vs (t.more_exprs e rest) env s l a b w =
    with_value_live e env s (after_argument f vs rest env) l w (λ v s' n c.
    arguments_live f (vs ++ v ∷ []) rest env s' n.store (callee_more f n.later.more a) (All-push (IsLive (count s')) vs v (all_more vs n.later.more b) c) (env_later env n w))
