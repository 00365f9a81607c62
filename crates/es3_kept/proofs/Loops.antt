-- Loops name live objects alone (ES3 12.6, 12.12).
use Rattle.std.proofs.Common.{ℕ, ◌<◌, List, [], ◌∷◌, Option, Some, None, IfSome, is_some, codes, length, lt_of_lt_of_le}
use Rattle.plans.specs.Plans.{ends, enter}
use Rattle.es3_tree.specs.Tree as t
use Rattle.es3_objects.specs.declared.value.Value.{Value}
use Rattle.es3_objects.specs.declared.value.Value.TheVariants.{Bool as Truth, Num, Text, Obj}
use Rattle.es3_objects.specs.declared.value.Proto.TheVariants as proto
use Rattle.es3_heap.specs.Objects.{Objects}
use Rattle.es3_heap.specs.Properties.{lookup}
use Rattle.es3_heap.specs.Enumerating.{keys}
use Rattle.es3_convert.specs.Comparisons.{truth_of}
use Rattle.es3_language.specs.declared.Touch.TheVariants as touch
use Rattle.es3_language.specs.Store.{Store}
use Rattle.es3_language.specs.References.{Ref, reference, write}
use Rattle.es3_language.specs.Tasks.{Completion, gave, found, normal, broke, continued, returned, threw, Env, Loop, again, Plan}
use Rattle.es3_language.specs.Lists as language
use Rattle.es3_language.specs.Statements.{var_list, after_var, is_to, Turn, turns, leaves, turned, on_turn, loop_next, loop_body, loop_test, test_of, at_test, after_update, for_first, turn_keys, key_body, key_target, key_written, key_plan, keys_object, on_keys, for_keys}
use Rattle.es3_live.specs.Live.{IsLive}
use Rattle.es3_live.specs.Runs.{IsLiveOrNone, LiveStore, LiveEnding, LiveEnv}
use Rattle.es3_live.proofs.Growth.{none_more, later_trans}
use Rattle.es3_kept.proofs.Next.{Next, same_store, next_earlier}
use Rattle.es3_kept.proofs.Plans.{LivePlan, Follows, earlier}
use Rattle.es3_kept.proofs.Parts.{either}
use Rattle.es3_live.proofs.Making.{proto_there}
use Rattle.es3_kept.proofs.Stores.{count}
use Rattle.es3_kept.proofs.References.{write_live}
use Rattle.es3_kept.proofs.Going.{Goes, passes, with_value_live, with_target_live, env_later, throw_live, note_member_live}
use Rattle.es3_kept.proofs.Lists.{later_live}

-- `var` (12.2)

pub var_live : (is : t.Tree t.items) (env : Env) (s : Store) (end : Store → Plan) → LiveStore s → LiveEnv (count s) env → ((s' : Store) → Next s.heap s' → LivePlan s'.heap (end s')) → LivePlan s.heap (var_list is env s end)
var_live t.no_items env s end l w g = g s (same_store s l)
var_live (t.more_items x t.no_expr rest) env s end l w g = var_live rest env s end l w g
var_live (t.more_items x (t.some_expr e) rest) env s end l w g =
    let r = reference env.chain s x in
    with_value_live e env s (after_var r rest env end) l w (λ v s' n a.
    let m = write_live r v s' n.store a in
    earlier (var_list rest env (write r v s') end) m.later
    (var_live rest env (write r v s') end m.store (env_later env m (env_later env n w)) (λ s'' p. g s'' (next_earlier s'' (later_trans n.later m.later) p))))

-- after the body of a loop

abbrev LiveTurn : ℕ → Turn → Type 0
LiveTurn n (turns v) = IsLiveOrNone n v
LiveTurn n (leaves e) = LiveEnding n e

turned_live : (n : ℕ) (ls : List (List ℕ)) (acc : Option Value) (e : Completion) → IsLiveOrNone n acc → LiveEnding n e → LiveTurn n (turned ls acc e)
turned_live n ls acc (normal v) a b = later_live n v acc b a
turned_live n ls acc (continued l v) a b = either (LiveTurn n) (is_to l ls) (turns (language.later v acc)) (leaves (continued l v)) (later_live n v acc b a) b
turned_live n ls acc (broke l v) a b = either (LiveEnding n) (is_to l ls) (normal (language.later v acc)) (broke l v) (later_live n v acc b a) b
turned_live n ls acc (gave v) a b = b
turned_live n ls acc (found r) a b = b
turned_live n ls acc (returned v) a b = b
turned_live n ls acc (threw v) a b = b

on_turn_live : (x : Turn) (s : Store) (go : Option Value → Plan) → LiveStore s → LiveTurn (count s) x → ((v : Option Value) → IsLiveOrNone (count s) v → LivePlan s.heap (go v)) → LivePlan s.heap (on_turn x s go)
on_turn_live (turns v) s go l a g = g v a
on_turn_live (leaves e) s go l a g = (a, same_store s l)

-- `while`, `do`, `for` (12.6.1 to 12.6.3)

pub loop_next_live : (h : Objects) (l : Loop) (acc : Option Value) (ls : List (List ℕ)) (env : Env) → IsLiveOrNone (length h.list) acc → LiveEnv (length h.list) env → Follows h (loop_next l acc ls env)
loop_next_live h l acc ls env a w e s n b =
    on_turn_live (turned ls acc e) s (λ v. enter (again l v ls env) s ends) n.store (turned_live (count s) ls acc e (none_more acc n.later.more a) b)
    (λ v c. ((c, env_later env n w), same_store s n.store, passes s.heap))

pub loop_body_live : (l : Loop) (acc : Option Value) (ls : List (List ℕ)) (env : Env) (s : Store) → LiveStore s → IsLiveOrNone (count s) acc → LiveEnv (count s) env → LivePlan s.heap (loop_body l acc ls env s)
loop_body_live l acc ls env s live a w = (w, same_store s live, loop_next_live s.heap l acc ls env a w)

pub loop_test_live : (h : Objects) (l : Loop) (acc : Option Value) (ls : List (List ℕ)) (env : Env) → IsLiveOrNone (length h.list) acc → LiveEnv (length h.list) env → Goes h (loop_test l acc ls env)
loop_test_live h l acc ls env a w v s n b =
    let c = none_more acc n.later.more a in
    either (LivePlan s.heap) (truth_of v) (loop_body l acc ls env s) (ends (normal acc) s) (loop_body_live l acc ls env s n.store c (env_later env n w)) (c, same_store s n.store)

test_live : (e : t.Tree t.maybe_expr) (l : Loop) (acc : Option Value) (ls : List (List ℕ)) (env : Env) (s : Store) → LiveStore s → IsLiveOrNone (count s) acc → LiveEnv (count s) env → LivePlan s.heap (test_of e l acc ls env s)
test_live t.no_expr l acc ls env s live a w = loop_body_live l acc ls env s live a w
test_live (t.some_expr e) l acc ls env s live a w = with_value_live e env s (loop_test l acc ls env) live w (loop_test_live s.heap l acc ls env a w)

pub at_test_live : (l : Loop) (acc : Option Value) (ls : List (List ℕ)) (env : Env) (s : Store) → LiveStore s → IsLiveOrNone (count s) acc → LiveEnv (count s) env → LivePlan s.heap (at_test l acc ls env s)
at_test_live l acc ls env s live a w = test_live l.test l acc ls env s live a w

pub after_update_live : (h : Objects) (l : Loop) (acc : Option Value) (ls : List (List ℕ)) (env : Env) → IsLiveOrNone (length h.list) acc → LiveEnv (length h.list) env → Goes h (after_update l acc ls env)
after_update_live h l acc ls env a w v s n b = at_test_live l acc ls env s n.store (none_more acc n.later.more a) (env_later env n w)

pub for_live : (i : t.Tree t.first) (l : Loop) (ls : List (List ℕ)) (env : Env) (s : Store) → LiveStore s → LiveEnv (count s) env → LivePlan s.heap (for_first i l ls env s)
for_live t.no_first l ls env s live w = at_test_live l None ls env s live tt w
for_live (t.first_var is) l ls env s live w = var_live is env s (at_test l None ls env) live w (λ s' n. at_test_live l None ls env s' n.store tt (env_later env n w))
for_live (t.first_expr e) l ls env s live w = with_value_live e env s (after_update l None ls env) live w (after_update_live s.heap l None ls env tt w)

-- `for in` (12.6.4)

turn_keys_live : (o : ℕ) (ks : List (List ℕ)) (x : t.Tree t.loop_target) (b : t.Tree t.stmt) (acc : Option Value) (ls : List (List ℕ)) (env : Env) (s : Store)
    → LiveStore s → o < count s → IsLiveOrNone (count s) acc → LiveEnv (count s) env → LivePlan s.heap (turn_keys o ks x b acc ls env s)
turn_keys_live o [] x b acc ls env s l within a w = (a, same_store s l)
turn_keys_live o (k ∷ ks) x b acc ls env s l within a w = ((within, a, w), same_store s l, passes s.heap)

key_body_live : (o : ℕ) (ks : List (List ℕ)) (x : t.Tree t.loop_target) (b : t.Tree t.stmt) (acc : Option Value) (ls : List (List ℕ)) (env : Env) (s : Store)
    → LiveStore s → o < count s → IsLiveOrNone (count s) acc → LiveEnv (count s) env → LivePlan s.heap (key_body o ks x b acc ls env s)
key_body_live o ks x b acc ls env s l within a w = (
  w,
  same_store s l,
  λ e s' n c.
      on_turn_live (turned ls acc e) s' (λ v. turn_keys o ks x b v ls env s') n.store (turned_live (count s') ls acc e (none_more acc n.later.more a) c)
      (λ v d. turn_keys_live o ks x b v ls env s' n.store (lt_of_lt_of_le within n.later.more) d (env_later env n w)),
)

-- the body, once a key was written
written_live : (r : Ref) (k : List ℕ) (o : ℕ) (ks : List (List ℕ)) (x : t.Tree t.loop_target) (b : t.Tree t.stmt) (acc : Option Value) (ls : List (List ℕ)) (env : Env) (s : Store)
    → LiveStore s → o < count s → IsLiveOrNone (count s) acc → LiveEnv (count s) env → LivePlan s.heap (key_body o ks x b acc ls env (write r (Text k) s))
written_live r k o ks x b acc ls env s l within a w =
    let n = write_live r (Text k) s l tt in
    earlier (key_body o ks x b acc ls env (write r (Text k) s)) n.later (key_body_live o ks x b acc ls env (write r (Text k) s) n.store (lt_of_lt_of_le within n.later.more) (none_more acc n.later.more a) (env_later env n w))

key_written_live : (x : t.Tree t.loop_target) (k : List ℕ) (o : ℕ) (ks : List (List ℕ)) (b : t.Tree t.stmt) (acc : Option Value) (ls : List (List ℕ)) (env : Env) (s : Store)
    → LiveStore s → o < count s → IsLiveOrNone (count s) acc → LiveEnv (count s) env → LivePlan s.heap (key_written x k o ks b acc ls env s)
key_written_live (t.loop_var y) k o ks b acc ls env s l within a w = written_live (reference env.chain s y) k o ks (t.loop_var y) b acc ls env s l within a w
key_written_live (t.loop_expr e) k o ks b acc ls env s l within a w =
    with_target_live e env s (key_target k o ks (t.loop_expr e) b acc ls env) l w (λ r s' n c.
    note_member_live s'.heap touch.Set r env s' (key_body o ks (t.loop_expr e) b acc ls env (write r (Text k) s'))
    (written_live r k o ks (t.loop_expr e) b acc ls env s' n.store (lt_of_lt_of_le within n.later.more) (none_more acc n.later.more a) (env_later env n w)))

pub key_live : (o : ℕ) (k : List ℕ) (ks : List (List ℕ)) (x : t.Tree t.loop_target) (b : t.Tree t.stmt) (acc : Option Value) (ls : List (List ℕ)) (env : Env) (s : Store)
    → LiveStore s → o < count s → IsLiveOrNone (count s) acc → LiveEnv (count s) env → LivePlan s.heap (key_plan o k ks x b acc ls env s)
key_live o k ks x b acc ls env s l within a w =
    either (LivePlan s.heap) (is_some (lookup s.heap o k)) (key_written x k o ks b acc ls env s) (turn_keys o ks x b acc ls env s)
    (key_written_live x k o ks b acc ls env s l within a w) (turn_keys_live o ks x b acc ls env s l within a w)

keys_object_live : (v : Value) (s : Store) → LiveStore s → IsLive (count s) v → IfSome (keys_object v) (λ o. o < count s)
keys_object_live (Obj o) s l a = a
keys_object_live (Text us) s l a = proto_there s.heap proto.String l.heap
keys_object_live (Num n) s l a = proto_there s.heap proto.Number l.heap
keys_object_live (Truth b) s l a = proto_there s.heap proto.Boolean l.heap
keys_object_live v s l a = tt

on_keys_live : (o : Option ℕ) (x : t.Tree t.loop_target) (b : t.Tree t.stmt) (ls : List (List ℕ)) (env : Env) (s : Store) → LiveStore s → IfSome o (λ i. i < count s) → LiveEnv (count s) env → LivePlan s.heap (on_keys o x b ls env s)
on_keys_live None x b ls env s l a w = throw_live (codes "no object") s l
on_keys_live (Some o) x b ls env s l a w = turn_keys_live o (keys s.heap o) x b None ls env s l a tt w

pub for_keys_live : (x : t.Tree t.loop_target) (b : t.Tree t.stmt) (ls : List (List ℕ)) (env : Env) (v : Value) (s : Store) → LiveStore s → LiveEnv (count s) env → IsLive (count s) v → LivePlan s.heap (for_keys x b ls env v s)
for_keys_live x b ls env v s l w a = on_keys_live (keys_object v) x b ls env s l (keys_object_live v s l a) w
