-- The values of handles are live, where the row's values are.
use Rattle.std.proofs.Common.{ℕ, zero, suc, ◌<◌, Bool, true, false, List, [], ◌∷◌, All, cond}
use Rattle.std.specs.Prelude.{slice_get, map}
use Rattle.std.proofs.lemmas.List.Elements.{All-head, All-tail, All-weaker, All-map}
use Rattle.es3_objects.specs.declared.value.Value.{Value}
use Rattle.es3_objects.specs.declared.value.Value.TheVariants as v
use Rattle.es3_live.specs.Live.{IsLive}
use Rattle.rows.specs.Rows as r
use Rattle.rows.specs.Rows.{Native, Handle}
use Rattle.rows.specs.Names.{is_of_text}
use Rattle.heap_rows.specs.Doing.{or_nothing, method_in, value_in}
use Rattle.live_rows.specs.Named.{HandleNames, HandlesName}

pub live_if : (n : ℕ) (b : Bool) (x z : Value) → IsLive n x → IsLive n z → IsLive n (cond b x z)
live_if n true x z first second = first
live_if n false x z first second = second

held_live : (n : ℕ) (vs : List Value) (i : ℕ) → All (IsLive n) vs → IsLive n (or_nothing (slice_get vs i))
held_live n [] i live = tt
held_live n (x ∷ vs) zero live = All-head (IsLive n) x vs live
held_live n (x ∷ vs) (suc i) live = held_live n vs i (All-tail (IsLive n) x vs live)

method_live : (n : ℕ) (fs : Native → ℕ) (x : Value) (f : Native) → fs f < n → IsLive n (method_in fs x f)
method_live n fs (v.Obj o) f there = there
method_live n fs (v.Text us) f there = live_if n (is_of_text f) (v.Obj (fs f)) v.Undefined there tt
method_live n fs x f there = tt

pub value_live : (n : ℕ) (fs : Native → ℕ) (vs : List Value) (x : Handle) → HandleNames (λ f. fs f < n) x → All (IsLive n) vs → IsLive n (value_in fs vs x)
value_live n fs vs (r.method_of o f) names live = method_live n fs (value_in fs vs o) f names
value_live n fs vs (r.held i) names live = held_live n vs i live
value_live n fs vs x names live = tt

pub values_live : (n : ℕ) (fs : Native → ℕ) (vs : List Value) (xs : List Handle) → HandlesName (λ f. fs f < n) xs → All (IsLive n) vs → All (IsLive n) (map (value_in fs vs) xs)
values_live n fs vs xs names live =
    All-map (IsLive n) (value_in fs vs) xs (All-weaker (HandleNames (λ f. fs f < n)) (λ x. IsLive n (value_in fs vs x)) (λ x name. value_live n fs vs x name live) xs names)
