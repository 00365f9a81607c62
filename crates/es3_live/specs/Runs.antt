-- What a running text names: live objects alone, in its scopes, in what is to be done, and in how it ends (ES3 8.7, 8.9, 10).
use Rattle.std.specs.Prelude.{ℕ, ◌<◌, Option, Some, None, List, All, length}
use Rattle.es3_objects.specs.declared.value.Value.{Value}
use Rattle.es3_language.specs.Store.{Owner, activation, with_object_of, Scope, Shared, Store}
use Rattle.es3_language.specs.References.{Ref, in_object, named, member, just}
use Rattle.es3_language.specs.Tasks.{Completion, gave, found, normal, broke, continued, returned, threw, Env, Task, value_of, target_of, effect_of, again, next_key, native_call}
use Rattle.es3_live.specs.Live.{IsLive, AreClosed}

-- a value that there may be
abbrev pub IsLiveOrNone : ℕ → Option Value → Type 0
IsLiveOrNone n None = Unit {0}
IsLiveOrNone n (Some v) = IsLive n v

-- what a scope belongs to (10.1.4, 10.1.6, 12.10)
abbrev pub LiveOwner : ℕ → Owner → Type 0
LiveOwner n (activation f xs vs) = IsLive n f × All (IsLive n) vs
LiveOwner n (with_object_of o) = o < n
LiveOwner n w = Unit {0}

pub record LiveScope (n : ℕ) (s : Scope) : Type 0 where
  pub owner : LiveOwner n s.owner
  pub names : All (λ (p : List ℕ × Value). IsLive n p.1) s.names

-- a store names live objects alone
pub record LiveStore (s : Store) : Type 0 where
  pub heap : AreClosed s.heap
  pub scopes : All (LiveScope (length s.heap.list)) s.scopes
  pub globals : s.globals < length s.heap.list
  pub shared : All (λ (g : Shared). g.object < length s.heap.list) s.shared

abbrev pub LiveRef : ℕ → Ref → Type 0
LiveRef n (in_object o x) = o < n
LiveRef n (named o x) = o < n
LiveRef n (member v k) = IsLive n v
LiveRef n (just v) = IsLive n v
LiveRef n r = Unit {0}

-- how a node ends
abbrev pub LiveEnding : ℕ → Completion → Type 0
LiveEnding n (gave v) = IsLive n v
LiveEnding n (found r) = LiveRef n r
LiveEnding n (normal v) = IsLiveOrNone n v
LiveEnding n (broke l v) = IsLiveOrNone n v
LiveEnding n (continued l v) = IsLiveOrNone n v
LiveEnding n (returned v) = IsLive n v
LiveEnding n (threw v) = IsLive n v

-- where a node stands: its `this` is live
abbrev pub LiveEnv : ℕ → Env → Type 0
LiveEnv n env = env.this < n

-- what is entered
abbrev pub LiveTask : ℕ → Task → Type 0
LiveTask n (value_of e env) = LiveEnv n env
LiveTask n (target_of e env) = LiveEnv n env
LiveTask n (effect_of x ls env) = LiveEnv n env
LiveTask n (again l acc ls env) = IsLiveOrNone n acc × LiveEnv n env
LiveTask n (next_key o k ks x b acc ls env) = (o < n) × IsLiveOrNone n acc × LiveEnv n env
LiveTask n (native_call w this vs env) = IsLive n this × All (IsLive n) vs × LiveEnv n env
