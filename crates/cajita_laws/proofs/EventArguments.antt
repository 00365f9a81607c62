-- What the row of an event calls with: the values that it was given behind the first one.
use Rattle.std.proofs.Common.{◌≡◌, ℕ, suc, List, [], ◌∷◌, ◌++◌, Some, refl, sym, ap, subst, arith}
use Rattle.std.specs.Prelude.{◌+◌, ◌-◌, slice_get, length, map}
use Rattle.std.proofs.lemmas.List.{append_assoc}
use Rattle.acts.specs.Laws.{All}
use Rattle.rows.specs.Rows as r
use Rattle.rows.specs.Rows.{Sight}
use Rattle.rows.specs.Arguments.{values_from, arguments}
use Rattle.rows.specs.Public.{pub_get}
use Rattle.rows.specs.Events.{found_end, key_row, call_key}
use Rattle.cajita_meaning.specs.World.{Value, World}
use Rattle.cajita_meaning.specs.Doing as d
use Rattle.cajita_meaning.specs.Doing.{Held, given, value_of}

-- what holds of the arguments of a call
abbrev pub OfArguments : (Value → Type 0) → d.Outcome → Type 0
OfArguments P (d.calls recorded f t vs) = All P vs
OfArguments P o = Unit {0}

placed : (before : List Value) (v : Value) (rest : List Value) → slice_get (before ++ v ∷ rest) (length before) ≡ Some v
placed [] v rest = refl
placed (u ∷ before) v rest = placed before v rest

from_has : (P : Value → Type 0) (before vs more : List Value) → All P vs → All P (map (value_of (before ++ (vs ++ more))) (values_from (length before) (length vs)))
from_has P before [] more h = tt
from_has P before (v ∷ vs) more h = (
  subst (λ o. P (d.or_nothing o)) (sym (placed before v (vs ++ more))) h.0,
  subst (λ us. All P (map (value_of us) (values_from (length before + 1) (length vs)))) (append_assoc before (v ∷ []) (vs ++ more))
      (subst (λ n. All P (map (value_of ((before ++ v ∷ []) ++ (vs ++ more))) (values_from n (length vs)))) (Rattle.std.proofs.lemmas.List.length-append before (v ∷ [])) (from_has P (before ++ v ∷ []) vs more h.1)),
)

module _ (P : Value → Type 0) (m : ℕ) (k : List ℕ) (v : Value) (vs : List Value) (h : All P vs) where
  own_count : (n : ℕ) → suc n - 1 ≡ n
  own_count n = omega arith

  -- whatever was seen behind them
  found_has : (more : List Value) (s : Held) → s.values ≡ v ∷ (vs ++ more) → (f : r.Handle) (x : Sight) (w : World) → OfArguments P (d.finish m (found_end f (arguments (suc (length vs))) x) s w []).outcome
  found_has more s is f (r.a_function sort) w = subst (λ us. All P (map (value_of us) (arguments (suc (length vs))))) (sym is) (subst (λ n. All P (map (value_of (v ∷ (vs ++ more))) (values_from 1 n))) (sym (own_count (length vs))) (from_has P (v ∷ []) vs more h))
  found_has more s is f x w = tt

  row_has : (more : List Value) (s : Held) → s.values ≡ v ∷ (vs ++ more) → (x : Sight) (w : World) → OfArguments P (d.does m (key_row k (suc (length vs)) x) s w []).outcome
  row_has more s is r.nothing w = tt
  row_has more s is r.a_null w = tt
  row_has more s is x w =
      let f = pub_get (r.held 0) x k in
      let seen = d.see w (length s.values) (value_of s.values f) in
      found_has (more ++ seen.values) (d.and_seen s (d.way_into s f) seen.values) (subst (λ us. us ++ seen.values ≡ v ∷ (vs ++ (more ++ seen.values))) (sym is) (ap (λ l. v ∷ l) (append_assoc vs more seen.values))) f seen.sight w

  pub key_has : (w : World) → OfArguments P (d.does m (call_key k (suc (length vs))) (given (v ∷ vs)) w []).outcome
  key_has w =
      let s = given (v ∷ vs) in
      let seen = d.see w (length s.values) v in
      row_has seen.values (d.and_seen s (d.way_into s (r.held 0)) seen.values) refl seen.sight w
