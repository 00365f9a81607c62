-- What holds of each value that is put into variables and scopes holds of each value there.
use Rattle.std.proofs.Common.{ℕ, zero, suc, Bool, true, false, List, [], ◌∷◌, ◌++◌, Option, Some, None}
use Rattle.std.specs.Prelude.{nat_eq, if◌then◌else◌, slice_get, slice_set, is_some}
use Rattle.acts.specs.Laws.{All, IfThere}
use Rattle.acts.proofs.Keeps.{all_append}
use Rattle.caja_units.specs.Units.{same_units}
use Rattle.cajita_meaning.specs.World as W
use Rattle.cajita_meaning.specs.World.{Value, undefined, Pairs}
use Rattle.cajita_meaning.specs.Asking as A

-- one of two things that it holds of
pub picked : {V : Type 0} (P : V → Type 0) (b : Bool) (x y : V) → P x → P y → P (if b then x else y)
picked P true x y p q = p
picked P false x y p q = q

-- a value that is found
pub value_at_has : (P : Value → Type 0) (x : List ℕ) (ps : Pairs) → All (λ p. P p.1) ps → IfThere P (W.value_at x ps)
value_at_has P x [] h = tt
value_at_has P x ((y, v) ∷ ps) h = picked (IfThere P) (same_units x y) (Some v) (W.value_at x ps) h.0 (value_at_has P x ps h.1)

pub got_has : {V : Type 0} (Q : V → Type 0) (xs : List V) (n : ℕ) → All Q xs → IfThere Q (slice_get xs n)
got_has Q [] n h = tt
got_has Q (x ∷ xs) zero h = h.0
got_has Q (x ∷ xs) (suc n) h = got_has Q xs n h.1

-- another one in its place
pub set_has : {V : Type 0} (Q : V → Type 0) (xs : List V) (n : ℕ) (x : V) → All Q xs → Q x → All Q (slice_set xs n x)
set_has Q [] n x h q = tt
set_has Q (y ∷ xs) zero x h q = (q, h.1)
set_has Q (y ∷ xs) (suc n) x h q = (h.0, set_has Q xs n x h.1 q)

scope_has : (P : Value → Type 0) (o : Option Pairs) → IfThere (λ ps. All (λ p. P p.1) ps) o → All (λ p. P p.1) (W.scope_at o)
scope_has P None h = tt
scope_has P (Some ps) h = h

first_has : (P : Value → Type 0) (a b : Option Value) → IfThere P a → IfThere P b → IfThere P (A.first_of a b)
first_has P None b h g = g
first_has P (Some v) b h g = h

pub scope_at_has : (P : Value → Type 0) (n : ℕ) (ss : List Pairs) → All (λ ps. All (λ p. P p.1) ps) ss → All (λ p. P p.1) (W.scope_at (slice_get ss n))
scope_at_has P n ss h = scope_has P (slice_get ss n) (got_has (λ ps. All (λ p. P p.1) ps) ss n h)

-- a variable that is found
pub lookup_has : (P : Value → Type 0) (chain : List ℕ) (ss : List Pairs) (x : List ℕ) → All (λ ps. All (λ p. P p.1) ps) ss → IfThere P (A.lookup chain ss x)
lookup_has P [] ss x h = tt
lookup_has P (n ∷ chain) ss x h = first_has P (W.value_at x (W.scope_at (slice_get ss n))) (A.lookup chain ss x) (value_at_has P x (W.scope_at (slice_get ss n)) (scope_at_has P n ss h)) (lookup_has P chain ss x h)

-- a value for a name, for several, and for a variable that is found
pub with_value_has : (P : Value → Type 0) (x : List ℕ) (v : Value) (ps : Pairs) → P v → All (λ p. P p.1) ps → All (λ p. P p.1) (W.with_value x v ps)
with_value_has P x v [] q h = (q, tt)
with_value_has P x v ((y, u) ∷ ps) q h = picked (All (λ p. P p.1)) (same_units x y) ((y, v) ∷ ps) ((y, u) ∷ W.with_value x v ps) (q, h.1) (h.0, with_value_has P x v ps q h.1)

pub with_values_has : (P : Value → Type 0) (qs ps : Pairs) → All (λ p. P p.1) qs → All (λ p. P p.1) ps → All (λ p. P p.1) (W.with_values qs ps)
with_values_has P [] ps q h = h
with_values_has P ((k, v) ∷ qs) ps q h = with_values_has P qs (W.with_value k v ps) q.1 (with_value_has P k v ps q.0 h)

pub assigned_has : (P : Value → Type 0) (chain : List ℕ) (x : List ℕ) (v : Value) (ss : List Pairs) → P v → All (λ ps. All (λ p. P p.1) ps) ss → All (λ ps. All (λ p. P p.1) ps) (A.assigned chain x v ss)
assigned_has P [] x v ss q h = h
assigned_has P (n ∷ chain) x v ss q h =
    picked (All (λ ps. All (λ p. P p.1) ps)) (is_some (W.value_at x (W.scope_at (slice_get ss n)))) (slice_set ss n (W.with_value x v (W.scope_at (slice_get ss n)))) (A.assigned chain x v ss)
    (set_has (λ ps. All (λ p. P p.1) ps) ss n (W.with_value x v (W.scope_at (slice_get ss n))) h (with_value_has P x v (W.scope_at (slice_get ss n)) q (scope_at_has P n ss h)))
    (assigned_has P chain x v ss q h)

-- names of a scope: variables, and parameters with arguments
pub with_vars_has : (P : Value → Type 0) → P undefined → (xs : List (List ℕ)) (names : Pairs) → All (λ p. P p.1) names → All (λ p. P p.1) (W.with_vars xs names)
with_vars_has P u [] names h = h
with_vars_has P u (x ∷ xs) names h =
    with_vars_has P u xs (if is_some (W.value_at x names) then names else names ++ (x, undefined) ∷ []) (picked (All (λ p. P p.1)) (is_some (W.value_at x names)) names (names ++ (x, undefined) ∷ []) h (all_append (λ p. P p.1) names ((x, undefined) ∷ []) h (u, tt)))

pub with_params_has : (P : Value → Type 0) → P undefined → (xs : List (List ℕ)) (vs : List Value) (names : Pairs) → All P vs → All (λ p. P p.1) names → All (λ p. P p.1) (W.with_params xs vs names)
with_params_has P u [] vs names g h = h
with_params_has P u (x ∷ xs) [] names g h = with_params_has P u xs [] (W.with_value x undefined names) tt (with_value_has P x undefined names u h)
with_params_has P u (x ∷ xs) (v ∷ vs) names g h = with_params_has P u xs vs (W.with_value x v names) g.1 (with_value_has P x v names g.0 h)

-- a name that is bound in a scope
pub declared_has : (P : Value → Type 0) (n : ℕ) (x : List ℕ) (v : Value) (ss : List Pairs) → P v → All (λ ps. All (λ p. P p.1) ps) ss → All (λ ps. All (λ p. P p.1) ps) (slice_set ss n (W.with_value x v (W.scope_at (slice_get ss n))))
declared_has P n x v ss q h = set_has (λ ps. All (λ p. P p.1) ps) ss n (W.with_value x v (W.scope_at (slice_get ss n))) h (with_value_has P x v (W.scope_at (slice_get ss n)) q (scope_at_has P n ss h))

-- one scope more
pub last_has : (P : Value → Type 0) (m n : ℕ) (names : Pairs) (ss : ℕ → List Pairs) → All (λ p. P p.1) names → All (λ ps. All (λ p. P p.1) ps) (ss n) → All (λ ps. All (λ p. P p.1) ps) (W.with_last m names ss n)
last_has P m n names ss q h = picked (All (λ ps. All (λ p. P p.1) ps)) (nat_eq n m) (ss n ++ names ∷ []) (ss n) (all_append (λ ps. All (λ p. P p.1) ps) (ss n) (names ∷ []) h (q, tt)) h
