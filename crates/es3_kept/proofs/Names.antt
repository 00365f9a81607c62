-- The names of a scope, with live values alone.
use Rattle.std.proofs.Common.{ℕ, List, [], ◌∷◌, ◌++◌, Option, Some, None, All, IfSome, is_some}
use Rattle.std.proofs.lemmas.List.Elements.{All-nil, All-cons, All-head, All-tail, All-push}
use Rattle.caja_units.specs.Units.{same_units}
use Rattle.es3_objects.specs.declared.value.Value.{Value}
use Rattle.es3_objects.specs.declared.value.Value.TheVariants.{Undefined}
use Rattle.es3_language.specs.Store.{Names, Scope, Code, name_value, scope_at, with_name, with_params, with_vars, first_names, renamed}
use Rattle.es3_live.specs.Live.{IsLive}
use Rattle.es3_live.specs.Runs.{IsLiveOrNone, LiveScope}
use Rattle.es3_kept.proofs.Parts.{either}

abbrev pub LiveName : ℕ → List ℕ × Value → Type 0
LiveName n p = IsLive n p.1

abbrev pub LiveNames : ℕ → Names → Type 0
LiveNames n names = All (LiveName n) names

module _ (n : ℕ) where
  pub names_of_scope : (s : Option Scope) → IfSome s (LiveScope n) → LiveNames n (scope_at s)
  names_of_scope None l = All-nil (LiveName n)
  names_of_scope (Some s) l = l.names

  pub renamed_live : (s : Option Scope) (names : Names) → IfSome s (LiveScope n) → LiveNames n names → LiveScope n (renamed s names)
  renamed_live None names l m = record { owner = tt; names = m }
  renamed_live (Some s) names l m = record { owner = l.owner; names = m }

  pub name_value_live : (x : List ℕ) (names : Names) → LiveNames n names → IsLiveOrNone n (name_value x names)
  name_value_live x [] l = tt
  name_value_live x ((y, v) ∷ rest) l =
      either (IsLiveOrNone n) (same_units x y) (Some v) (name_value x rest) (All-head (LiveName n) (y, v) rest l) (name_value_live x rest (All-tail (LiveName n) (y, v) rest l))

  pub one_name : (x : List ℕ) (v : Value) → IsLive n v → LiveNames n ((x, v) ∷ [])
  one_name x v a = All-cons (LiveName n) (x, v) [] a (All-nil (LiveName n))

  pub with_name_live : (x : List ℕ) (v : Value) (names : Names) → IsLive n v → LiveNames n names → LiveNames n (with_name x v names)
  with_name_live x v [] a l = one_name x v a
  with_name_live x v ((y, w) ∷ rest) a l =
      let below = All-tail (LiveName n) (y, w) rest l in
      either (LiveNames n) (same_units x y) ((y, v) ∷ rest) ((y, w) ∷ with_name x v rest)
      (All-cons (LiveName n) (y, v) rest a below)
      (All-cons (LiveName n) (y, w) (with_name x v rest) (All-head (LiveName n) (y, w) rest l) (with_name_live x v rest a below))

  with_params_live : (xs : List (List ℕ)) (vs : List Value) (names : Names) → All (IsLive n) vs → LiveNames n names → LiveNames n (with_params xs vs names)
  with_params_live [] vs names a l = l
  with_params_live (x ∷ xs) [] names a l = with_params_live xs [] (with_name x Undefined names) a (with_name_live x Undefined names tt l)
  with_params_live (x ∷ xs) (v ∷ vs) names a l =
      with_params_live xs vs (with_name x v names) (All-tail (IsLive n) v vs a) (with_name_live x v names (All-head (IsLive n) v vs a) l)

  with_vars_live : (xs : List (List ℕ)) (names : Names) → LiveNames n names → LiveNames n (with_vars xs names)
  with_vars_live [] names l = l
  with_vars_live (x ∷ xs) names l =
      with_vars_live xs _ (either (LiveNames n) (is_some (name_value x names)) names (names ++ (x, Undefined) ∷ []) l (All-push (LiveName n) names (x, Undefined) l tt))

  pub first_names_live : (c : Code) (vs : List Value) → All (IsLive n) vs → LiveNames n (first_names c vs)
  first_names_live c vs a = with_vars_live c.vars (with_params c.params vs []) (with_params_live c.params vs [] a (All-nil (LiveName n)))
