-- A store that names live objects alone stays so: with other objects, a new scope, a value for a name, a new function.
use Rattle.std.proofs.Common.{ℕ, ◌<◌, ◌≤◌, List, Some, All, IfSome, codes, pos, length, slice_get, lt_of_lt_of_le, le_trans}
use Rattle.std.proofs.lemmas.List.Elements.{All-push, All-set, All-weaker}
use Rattle.es3_objects.specs.declared.value.Value.{Value}
use Rattle.es3_objects.specs.declared.value.Value.TheVariants.{Num, Obj}
use Rattle.es3_objects.specs.declared.value.Class.TheVariants as class
use Rattle.es3_objects.specs.declared.value.FuncKind.TheVariants.{Code as CodeKind}
use Rattle.es3_objects.specs.declared.value.Proto.TheVariants as proto
use Rattle.es3_heap.specs.Objects.{Objects, fixed_attrs, hidden_attrs, kept_attrs}
use Rattle.es3_heap.specs.Properties.{define, length_key}
use Rattle.es3_heap.specs.Making.{proto_id, made, made_function}
use Rattle.es3_language.specs.Store.{Names, Owner, Shared, Code, Store, with_heap, with_scope, with_slot, scope_at, new_function, with_code}
use Rattle.es3_live.specs.Live.{IsLive, AreClosed}
use Rattle.es3_live.specs.Runs.{LiveOwner, LiveScope, LiveStore}
use Rattle.es3_live.proofs.Growth.{scope_more, later_refl}
use Rattle.es3_kept.proofs.Next.{Next, next_earlier}
use Rattle.es3_kept.proofs.Parts.{all_at}
use Rattle.es3_kept.proofs.Names.{LiveNames, names_of_scope, renamed_live, with_name_live}
use Rattle.es3_live.proofs.Writing.{Grown, grown_trans, define_grown}
use Rattle.es3_live.proofs.Making.{proto_there, new_within, made_grown, made_function_grown}

abbrev pub count : Store → ℕ
count s = length s.heap.list

pub next_trans : {h : Objects} {s s' : Store} → Next h s → Next s.heap s' → Next h s'
next_trans {s' = s'} a b = next_earlier s' a.later b

abbrev pub LiveShared : ℕ → List Shared → Type 0
LiveShared n gs = All (λ (g : Shared). g.object < n) gs

pub shared_more : {n m : ℕ} (gs : List Shared) → n ≤ m → LiveShared n gs → LiveShared m gs
shared_more {n = n} {m = m} gs le l = All-weaker (λ (g : Shared). g.object < n) (λ g. g.object < m) (λ g within. lt_of_lt_of_le within le) gs l

-- other objects, and functions
grown_store : (s : Store) (h : Objects) (cs : List Code) → LiveStore s → Grown s.heap h → Next s.heap (record s { heap = h; codes = cs })
grown_store s h cs l w = record {
  store = record {
    heap = w.closed;
    scopes = All-weaker (LiveScope (count s)) (LiveScope (length h.list)) (λ x. scope_more x w.later.more) s.scopes l.scopes;
    globals = lt_of_lt_of_le l.globals w.later.more;
    shared = shared_more s.shared w.later.more l.shared;
  };
  later = w.later;
}

pub with_heap_live : (s : Store) (h : Objects) → LiveStore s → Grown s.heap h → Next s.heap (with_heap s h)
with_heap_live s h l w = grown_store s h s.codes l w

-- scopes

pub with_scope_live : (w : Owner) (names : Names) (s : Store) → LiveStore s → LiveOwner (count s) w → LiveNames (count s) names → Next s.heap (with_scope w names s)
with_scope_live w names s l a b = record {
  store = record { heap = l.heap; scopes = All-push (LiveScope (count s)) s.scopes _ l.scopes (record { owner = a; names = b }); globals = l.globals; shared = l.shared };
  later = later_refl s.heap;
}

pub scope_live : (c : ℕ) (s : Store) → LiveStore s → IfSome (slice_get s.scopes c) (LiveScope (count s))
scope_live c s l = all_at (LiveScope (count s)) s.scopes c l.scopes

pub names_live : (c : ℕ) (s : Store) → LiveStore s → LiveNames (count s) (scope_at (slice_get s.scopes c))
names_live c s l = names_of_scope (count s) (slice_get s.scopes c) (scope_live c s l)

pub with_slot_live : (c : ℕ) (x : List ℕ) (v : Value) (s : Store) → LiveStore s → IsLive (count s) v → Next s.heap (with_slot c x v s)
with_slot_live c x v s l a =
    let named = with_name_live (count s) x v (scope_at (slice_get s.scopes c)) a (names_live c s l) in
    record {
      store = record {
        heap = l.heap;
        scopes = All-set (LiveScope (count s)) s.scopes c _ (renamed_live (count s) (slice_get s.scopes c) _ (scope_live c s l) named) l.scopes;
        globals = l.globals;
        shared = l.shared;
      };
      later = later_refl s.heap;
    }

-- functions

-- a new function, which is there
pub record Made (h h' : Objects) : Type 0 where
  pub grown : Grown h h'
  pub there : length h.list < length h'.list

pub new_function_made : (code params maker : ℕ) (h : Objects) → AreClosed h → Made h (new_function code params maker h)
new_function_made code params maker h c =
    let f = length h.list in
    let bare = made_function (CodeKind code) maker h in
    let a : Grown h bare = made_function_grown h (CodeKind code) maker c in
    let counted = define bare f length_key (Num (pos params)) fixed_attrs in
    let b : Grown bare counted = define_grown bare f length_key (Num (pos params)) fixed_attrs a.closed tt in
    let p = length counted.list in
    let plain = made class.Object (Some (proto_id proto.Object)) counted in
    let d : Grown counted plain = made_grown counted class.Object (Some (proto_id proto.Object)) b.closed (proto_there counted proto.Object b.closed) in
    let here : f < length counted.list = lt_of_lt_of_le (new_within h _) b.later.more in
    let prototype = define plain p (codes "constructor") (Obj f) hidden_attrs in
    let e : Grown plain prototype = define_grown plain p (codes "constructor") (Obj f) hidden_attrs d.closed (lt_of_lt_of_le here d.later.more) in
    let g : Grown prototype (new_function code params maker h) = define_grown prototype f (codes "prototype") (Obj p) kept_attrs e.closed (lt_of_lt_of_le (new_within counted _) e.later.more) in
    record {
      grown = grown_trans a (grown_trans b (grown_trans d (grown_trans e g)));
      there = lt_of_lt_of_le here (le_trans d.later.more (le_trans e.later.more g.later.more));
    }

pub with_code_live : (c : Code) (maker : ℕ) (s : Store) → LiveStore s → Next s.heap (with_code c maker s)
with_code_live c maker s l = grown_store s (with_code c maker s).heap (with_code c maker s).codes l (new_function_made (length s.codes) (length c.params) maker s.heap l.heap).grown

pub code_there : (c : Code) (maker : ℕ) (s : Store) → LiveStore s → count s < count (with_code c maker s)
code_there c maker s l = (new_function_made (length s.codes) (length c.params) maker s.heap l.heap).there
