-- The table by which a declared name is found, and the table of names that stand once.
use Rattle.std.proofs.Common.{◌≡◌, ℕ, Bool, true, false, cond, ◌&&◌, ◌||◌, List, [], ◌∷◌, ◌++◌, map, Option, Some, None, is_some, refl, ap, sym, ◌∙◌}
use Rattle.std.specs.List.{list_any}
use Rattle.std.specs.Map.{lookup, keys_of}
use Rattle.std.proofs.lemmas.List.Folds.{list_any-append}
use Rattle.property_tables.specs.Indexed.{insert_entry}
use Rattle.caja_units.specs.Units.{same_units}
use Rattle.caja_units.proofs.Texts.{same_units-equal, same_units-from_equal}
use Rattle.cajita_names.specs.declared.declarations.Declaration.{Declaration as DeclarationPart}
use Rattle.cajita_names.specs.declared.tabled.Kinds.{Kinds}
use Rattle.cajita_names.specs.DeclarationViews.{declaration_of}
use Rattle.cajita_names.specs.Declarations.{Role, Declaration}
use Rattle.cajita_names.specs.Found.{Finds, function_in, parameter_in}
use Rattle.cajita_names.specs.Once.{once_after}
use Rattle.cajita_names.specs.Rules.{is_among}
use Rattle.cajita_names.specs.Scope.{is_function, is_parameter, declares, declares_function, declares_parameter}

same_other : (x k y : List ℕ) → same_units k y ≡ true → same_units x y ≡ same_units x k
same_other x k y h = ap (same_units x) (sym (same_units-equal k y h))

apart : (x k y : List ℕ) → same_units k y ≡ false → same_units x y ≡ true → same_units x k ≡ false
apart x k y h is =
    elim (same_units x k) as (λ b. same_units x k ≡ b → b ≡ false) [
      | true ↦ λ e. sym (same_units-from_equal k y (sym (same_units-equal x k e) ∙ same_units-equal x y is)) ∙ h
      | false ↦ λ e. refl
    ] refl

module _ {P : Type 0} where
  -- what is found after a key was put into a table
  pub lookup_inserted : (x k : List ℕ) (v : P) (es : List (List ℕ × P)) → lookup (same_units x) (insert_entry same_units es k v) ≡ cond (same_units x k) (Some v) (lookup (same_units x) es)
  lookup_inserted x k v [] = refl
  lookup_inserted x k v (e ∷ es) =
      elim (same_units k e.0) as (λ b. same_units k e.0 ≡ b → lookup (same_units x) (cond b ((e.0, v) ∷ es) (e ∷ insert_entry same_units es k v)) ≡ cond (same_units x k) (Some v) (lookup (same_units x) (e ∷ es))) [
        | true ↦ λ is.
            ap (λ b. cond b (Some v) (lookup (same_units x) es)) (same_other x k e.0 is)
            ∙ twice (same_units x k) (Some v) (Some e.1) (lookup (same_units x) es)
            ∙ ap (λ b. cond (same_units x k) (Some v) (cond b (Some e.1) (lookup (same_units x) es))) (sym (same_other x k e.0 is))
        | false ↦ λ is.
            ap (cond (same_units x e.0) (Some e.1)) (lookup_inserted x k v es)
            ∙ either (same_units x e.0) (same_units x k) (Some e.1) (Some v) (lookup (same_units x) es) (apart x k e.0 is)
      ] refl
    where
      twice : (b : Bool) (v w o : Option P) → cond b v o ≡ cond b v (cond b w o)
      twice true v w o = refl
      twice false v w o = refl

      either : (a b : Bool) (u v o : Option P) → (a ≡ true → b ≡ false) → cond a u (cond b v o) ≡ cond b v (cond a u o)
      either true b u v o h = ap (λ c. cond c v u) (sym (h refl))
      either false b u v o h = refl

  -- a key that is put into a table stands once among the keys
  pub keys_inserted : (k : List ℕ) (v : P) (es : List (List ℕ × P)) → keys_of (insert_entry same_units es k v) ≡ once_after (keys_of es) (k ∷ [])
  keys_inserted k v [] = refl
  keys_inserted k v (e ∷ es) =
      elim (same_units k e.0) as (λ b. keys_of (cond b ((e.0, v) ∷ es) (e ∷ insert_entry same_units es k v)) ≡ cond (b || is_among (keys_of es) k) (keys_of (e ∷ es)) (keys_of (e ∷ es) ++ k ∷ [])) [
        | true ↦ refl
        | false ↦ ap (λ l. e.0 ∷ l) (keys_inserted k v es) ∙ under e.0 (is_among (keys_of es) k) (keys_of es) (keys_of es ++ k ∷ [])
      ]
    where
      under : (x : List ℕ) (b : Bool) (xs ys : List (List ℕ)) → x ∷ cond b xs ys ≡ cond b (x ∷ xs) (x ∷ ys)
      under x true xs ys = refl
      under x false xs ys = refl

-- names behind others, one of them first
pub once_first : (seen : List (List ℕ)) (x : List ℕ) (xs : List (List ℕ)) → once_after seen (x ∷ xs) ≡ once_after (once_after seen (x ∷ [])) xs
once_first seen x xs = refl

pub finds_none : Finds [] []
finds_none = record {
  named = λ x. refl;
  functions = λ x. refl;
  parameters = λ x. refl;
}

-- a declaration behind the others, where the table told of its name before what it tells now
module _ (es : List (List ℕ × Kinds)) (ds : List Declaration) (d : Declaration) (v : Kinds) (all : Finds es ds) where
  or_last : (a b : Bool) → (a || (b || false)) ≡ (a || b)
  or_last true b = refl
  or_last false true = refl
  or_last false false = refl

  told : (has : Role → Bool) (in_kinds : Option Kinds → Bool) (x : List ℕ) → ((y : List ℕ) → in_kinds (lookup (same_units y) es) ≡ list_any (λ e. has e.role && same_units y e.word.text) ds)
      → in_kinds (Some v) ≡ (in_kinds (lookup (same_units d.word.text) es) || has d.role)
      → in_kinds (lookup (same_units x) (insert_entry same_units es d.word.text v)) ≡ list_any (λ e. has e.role && same_units x e.word.text) (ds ++ d ∷ [])
  told has in_kinds x before is =
      ap in_kinds (lookup_inserted x d.word.text v es)
      ∙ elim (same_units x d.word.text) as (λ b. same_units x d.word.text ≡ b → in_kinds (cond b (Some v) (lookup (same_units x) es)) ≡ (list_any (λ e. has e.role && same_units x e.word.text) ds || ((has d.role && b) || false))) [
        | true ↦ λ h.
            is
            ∙ ap (λ k. in_kinds (lookup (same_units k) es) || has d.role) (sym (same_units-equal x d.word.text h))
            ∙ ap (λ b. b || has d.role) (before x)
            ∙ with_true (list_any (λ e. has e.role && same_units x e.word.text) ds) (has d.role)
        | false ↦ λ h. before x ∙ with_false (list_any (λ e. has e.role && same_units x e.word.text) ds) (has d.role)
      ] refl
      ∙ sym (list_any-append (λ e. has e.role && same_units x e.word.text) ds (d ∷ []))
    where
      with_true : (a b : Bool) → (a || b) ≡ (a || ((b && true) || false))
      with_true true b = refl
      with_true false true = refl
      with_true false false = refl

      with_false : (a b : Bool) → a ≡ (a || ((b && false) || false))
      with_false true b = refl
      with_false false true = refl
      with_false false false = refl

  named_still : (x : List ℕ) → is_some (lookup (same_units x) (insert_entry same_units es d.word.text v)) ≡ declares (ds ++ d ∷ []) x
  named_still x =
      ap is_some (lookup_inserted x d.word.text v es)
      ∙ by (same_units x d.word.text) (lookup (same_units x) es)
      ∙ ap (λ b. b || (same_units x d.word.text || false)) (all.named x)
      ∙ sym (list_any-append (λ e. same_units x e.word.text) ds (d ∷ []))
    where
      by : (b : Bool) (o : Option Kinds) → is_some (cond b (Some v) o) ≡ (is_some o || (b || false))
      by true None = refl
      by true (Some k) = refl
      by false None = refl
      by false (Some k) = refl

  pub finds_more : v.function ≡ (declares_function ds d.word.text || is_function d.role) → v.parameter ≡ (declares_parameter ds d.word.text || is_parameter d.role)
      → Finds (insert_entry same_units es d.word.text v) (ds ++ d ∷ [])
  finds_more of_function of_parameter = record {
    named = named_still;
    functions = λ x. told is_function function_in x all.functions (of_function ∙ ap (λ b. b || is_function d.role) (sym (all.functions d.word.text)));
    parameters = λ x. told is_parameter parameter_in x all.parameters (of_parameter ∙ ap (λ b. b || is_parameter d.role) (sym (all.parameters d.word.text)));
  }

pub finds_as : {es fs : List (List ℕ × Kinds)} {ds gs : List Declaration} → fs ≡ es → gs ≡ ds → Finds es ds → Finds fs gs
finds_as h g all = record {
  named = λ x. ap (λ e. is_some (lookup (same_units x) e)) h ∙ all.named x ∙ ap (λ l. declares l x) (sym g);
  functions = λ x. ap (λ e. function_in (lookup (same_units x) e)) h ∙ all.functions x ∙ ap (λ l. declares_function l x) (sym g);
  parameters = λ x. ap (λ e. parameter_in (lookup (same_units x) e)) h ∙ all.parameters x ∙ ap (λ l. declares_parameter l x) (sym g);
}

pub told_last : (parts : List DeclarationPart) (d : DeclarationPart) → map declaration_of (parts ++ d ∷ []) ≡ map declaration_of parts ++ declaration_of d ∷ []
told_last [] d = refl
told_last (x ∷ xs) d = ap (λ l. declaration_of x ∷ l) (told_last xs d)
