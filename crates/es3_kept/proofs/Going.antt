-- How a plan goes on: from a value, a reference or how a node ended, with live objects alone (ES3 8.7, 8.9).
use Rattle.std.proofs.Common.{ℕ, List, Option, Some, None, IfSome, codes, length, lt_of_lt_of_le}
use Rattle.plans.specs.Plans.{ends}
use Rattle.caja_units.specs.Units.{is_hidden}
use Rattle.es3_tree.specs.Tree as t
use Rattle.es3_objects.specs.declared.value.Value.{Value}
use Rattle.es3_objects.specs.declared.value.Value.TheVariants.{Obj}
use Rattle.es3_objects.specs.declared.value.Proto.TheVariants as proto
use Rattle.es3_objects.specs.declared.value.Tag.{Tag}
use Rattle.es3_objects.specs.declared.value.Tag.TheVariants as tag
use Rattle.es3_heap.specs.Objects.{Objects, object_at, tag_of, with_object}
use Rattle.es3_heap.specs.Making.{error_object}
use Rattle.es3_language.specs.declared.Touch.{Touch}
use Rattle.es3_language.specs.declared.Touch.TheVariants as touch
use Rattle.es3_language.specs.Store.{Store}
use Rattle.es3_language.specs.Arguments.{arguments_name, with_arguments}
use Rattle.es3_language.specs.References.{Ref, unresolved, slot, own_arguments, in_object, named, member, just, read, write}
use Rattle.es3_language.specs.Operators.{Given, gives, faults, raises}
use Rattle.es3_language.specs.Tasks.{Completion, gave, found, Env, Plan, on_value_of, on_target_of, with_value, with_target, give, throw_error, with_given}
use Rattle.es3_language.specs.Expressions.{note_of, note_member, callee_tag, note_call, on_read, read_arguments, with_read, write_plan, on_member}
use Rattle.es3_live.specs.Live.{IsLive, Later}
use Rattle.es3_live.specs.Runs.{IsLiveOrNone, LiveStore, LiveRef, LiveEnv}
use Rattle.es3_live.proofs.Growth.{live_more}
use Rattle.es3_kept.proofs.Next.{Next, same_store, next_earlier}
use Rattle.es3_kept.proofs.Plans.{LivePlan, Follows, earlier}
use Rattle.es3_kept.proofs.Parts.{either}
use Rattle.es3_live.proofs.Making.{new_within, error_grown}
use Rattle.es3_kept.proofs.Stores.{count, with_heap_live}
use Rattle.es3_kept.proofs.Arguments.{with_arguments_live}
use Rattle.es3_kept.proofs.References.{read_live, write_live}
use Rattle.es3_kept.proofs.Operators.{LiveGiven}

-- from a value, and from a reference, where objects h were behind what gave it
abbrev pub Goes : Objects → (Value → Store → Plan) → Type 0
Goes h go = (v : Value) (s : Store) → Next h s → IsLive (count s) v → LivePlan s.heap (go v s)

abbrev pub GoesTo : Objects → (Ref → Store → Plan) → Type 0
GoesTo h go = (r : Ref) (s : Store) → Next h s → LiveRef (count s) r → LivePlan s.heap (go r s)

pub goes_later : {h h' : Objects} (go : Value → Store → Plan) → Later h h' → Goes h go → Goes h' go
goes_later go later g v s n a = g v s (next_earlier s later n) a

pub goes_to_later : {h h' : Objects} (go : Ref → Store → Plan) → Later h h' → GoesTo h go → GoesTo h' go
goes_to_later go later g r s n a = g r s (next_earlier s later n) a

pub follows_later : {h h' : Objects} (next : Completion → Store → Plan) → Later h h' → Follows h next → Follows h' next
follows_later next later f e s n a = f e s (next_earlier s later n) a

-- an ending passes
pub passes : (h : Objects) → Follows h ends
passes h e s n a = (a, same_store s n.store)

pub from_value : (h : Objects) (go : Value → Store → Plan) → Goes h go → Follows h (on_value_of go)
from_value h go g (gave v) s n a = g v s n a
from_value h go g e s n a = passes h e s n a

pub from_target : (h : Objects) (go : Ref → Store → Plan) → GoesTo h go → Follows h (on_target_of go)
from_target h go g (found r) s n a = g r s n a
from_target h go g (gave v) s n a = g (just v) s n a
from_target h go g e s n a = passes h e s n a

pub with_value_live : (e : t.Tree t.expr) (env : Env) (s : Store) (go : Value → Store → Plan) → LiveStore s → LiveEnv (count s) env → Goes s.heap go → LivePlan s.heap (with_value e env s go)
with_value_live e env s go l w g = (w, same_store s l, from_value s.heap go g)

pub with_target_live : (e : t.Tree t.expr) (env : Env) (s : Store) (go : Ref → Store → Plan) → LiveStore s → LiveEnv (count s) env → GoesTo s.heap go → LivePlan s.heap (with_target e env s go)
with_target_live e env s go l w g = (w, same_store s l, from_target s.heap go g)

-- where a store is later, a place of a text is live still
pub env_later : {h : Objects} {s : Store} (env : Env) → Next h s → LiveEnv (length h.list) env → LiveEnv (count s) env
env_later env n w = lt_of_lt_of_le w n.later.more

pub give_live : (v : Value) (s : Store) → LiveStore s → IsLive (count s) v → LivePlan s.heap (give v s)
give_live v s l a = (a, same_store s l)

pub gives_on : (h : Objects) → Goes h give
gives_on h v s n a = give_live v s n.store a

pub throw_live : (message : List ℕ) (s : Store) → LiveStore s → LivePlan s.heap (throw_error message s)
throw_live message s l =
    let error = error_object proto.TypeError (codes "TypeError") message in
    (new_within s.heap error, with_heap_live s (with_object s.heap error) l (error_grown s.heap proto.TypeError (codes "TypeError") message l.heap))

pub with_given_live : (g : Given) (s : Store) (go : Value → Store → Plan) → LiveStore s → LiveGiven (count s) g → Goes s.heap go → LivePlan s.heap (with_given g s go)
with_given_live (gives v) s go l a f = f v s (same_store s l) a
with_given_live (faults x) s go l a f = same_store s l
with_given_live (raises message) s go l a f = throw_live message s l

-- touches

note_of_live : (h : Objects) (w : Touch) (g : Tag) (k : Option (List ℕ)) (env : Env) (p : Plan) → LivePlan h p → LivePlan h (note_of w g k env p)
note_of_live h w tag.None k env p l = l
note_of_live h w g k env p l = l

pub note_member_live : (h : Objects) (w : Touch) (r : Ref) (env : Env) (s : Store) (p : Plan) → LivePlan h p → LivePlan h (note_member w r env s p)
note_member_live h w (member (Obj o) k) env s p l =
    either (LivePlan h) (is_hidden k) p (note_of w (tag_of (object_at s.heap o)) (Some k) env p) l (note_of_live h w (tag_of (object_at s.heap o)) (Some k) env p l)
note_member_live h w r env s p l = l

pub note_call_live : (h : Objects) (w : Touch) (f : Value) (env : Env) (s : Store) (p : Plan) → LivePlan h p → LivePlan h (note_call w f env s p)
note_call_live h w f env s p l = note_of_live h w (callee_tag s.heap f) None env p l

-- references

on_read_live : (v : Option Value) (r : Ref) (env : Env) (s : Store) (go : Value → Store → Plan) → LiveStore s → IsLiveOrNone (count s) v → Goes s.heap go → LivePlan s.heap (on_read v r env s go)
on_read_live None r env s go l a g = throw_live (codes "unbound") s l
on_read_live (Some v) r env s go l a g = note_member_live s.heap touch.Get r env s (go v s) (g v s (same_store s l) a)

read_live_plan : (r : Ref) (env : Env) (s : Store) (go : Value → Store → Plan) → LiveStore s → LiveRef (count s) r → Goes s.heap go → LivePlan s.heap (on_read (read r s) r env s go)
read_live_plan r env s go l a g = on_read_live (read r s) r env s go l (read_live r s l a) g

pub with_read_live : (r : Ref) (env : Env) (s : Store) (go : Value → Store → Plan) → LiveStore s → LiveRef (count s) r → Goes s.heap go → LivePlan s.heap (with_read r env s go)
with_read_live (own_arguments c) env s go l a g =
    let n = with_arguments_live c s l in
    earlier (read_arguments c env (with_arguments c s) go) n.later (read_live_plan (slot c arguments_name) env (with_arguments c s) go n.store tt (goes_later go n.later g))
with_read_live (unresolved x) env s go l a g = read_live_plan (unresolved x) env s go l a g
with_read_live (slot c x) env s go l a g = read_live_plan (slot c x) env s go l a g
with_read_live (in_object o x) env s go l a g = read_live_plan (in_object o x) env s go l a g
with_read_live (named o x) env s go l a g = read_live_plan (named o x) env s go l a g
with_read_live (member v k) env s go l a g = read_live_plan (member v k) env s go l a g
with_read_live (just v) env s go l a g = read_live_plan (just v) env s go l a g

pub write_plan_live : (r : Ref) (w v : Value) (env : Env) (s : Store) → LiveStore s → IsLive (count s) w → IsLive (count s) v → LivePlan s.heap (write_plan r w v env s)
write_plan_live r w v env s l a b =
    let n = write_live r w s l a in
    note_member_live s.heap touch.Set r env s (ends (gave v) (write r w s)) (live_more v n.later.more b, n)

pub on_member_live : (r : Option Ref) (s : Store) (go : Ref → Store → Plan) → LiveStore s → IfSome r (LiveRef (count s)) → GoesTo s.heap go → LivePlan s.heap (on_member r s go)
on_member_live None s go l a g = throw_live (codes "no object") s l
on_member_live (Some r) s go l a g = g r s (same_store s l) a
