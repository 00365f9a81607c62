-- What is known around a part: which names may be read there, and which may be written to.
use Rattle.std.proofs.Common.{◌≡◌, ℕ, Bool, true, false, List, [], ◌∷◌, cond, refl, sym, ap, ◌∙◌, subst}
use Rattle.std.specs.Prelude.{◌||◌, ◌&&◌, not}
use Rattle.std.specs.Cmp.Lexicographic.{same_text}
use Rattle.caja_units.specs.Units.{same_units}
use Rattle.es3_objects.proofs.Keys.{same_key-refl}
use Rattle.es3_tree.specs.Placed.{Word}
use Rattle.cajita_tree.specs.Tree as c
use Rattle.cajita_names.specs.Declarations.{Declaration}
use Rattle.cajita_names.specs.Scope.{Scope, in_module, in_function, in_catch, in_named, changing, settled, imported, unbound, is_unbound, is_settled, is_imported, declares, declares_function, own, is_arguments, lacks, keeps}
use Rattle.cajita_names.specs.Scope as scope
use Rattle.cajita_rewrite.specs.Rewrite.{arguments_copy}
use Rattle.scope_rules.specs.Free.{import_at}
use Rattle.cajita_simulation.specs.Guest.{is_among, Names, inner, without, is_declared, within}
use Rattle.accepted_modules.proofs.Declared.{right_there, left_there, both_true, never, AllIn, either}

-- the names around a part, and those that a guest's part may read and write there; what it imports are names from outside, which the module doesn't declare
pub record Place (imports : List (List ℕ)) (outer : Names) : Type 0 where
  pub around : Scope
  pub vars : Names
  pub free : Names
  pub fixed : (k : List ℕ) → scope.imports around k ≡ true → outer k ≡ true
  -- a name that isn't lacking may be read
  pub known : (x : Word) → is_arguments x.text ≡ false → lacks around x.text ≡ false → AllIn (import_at around x) (is_among imports) → vars x.text ≡ true
  -- and one that isn't kept besides may be written to
  pub writable : (x : Word) → is_arguments x.text ≡ false → lacks around x.text ≡ false → keeps around x.text ≡ false → free x.text ≡ true

pub import_fixed : {imports : List (List ℕ)} {outer : Names} (P : Place imports outer) (x : Word) → AllIn (import_at P.around x) outer
import_fixed {outer = outer} P x =
    let cases = elim (scope.imports P.around x.text) as (λ b. scope.imports P.around x.text ≡ b → AllIn (cond b (x.text ∷ []) []) outer) [
      | true ↦ λ is k there. either (same_units k x.text) false there (λ same. subst (λ z. outer z ≡ true) (sym (same_text k x.text (sym same))) (P.fixed x.text is)) never
      | false ↦ λ is k there. never there
    ] in cases refl

-- what a name is that isn't `arguments`

bound_lacks : (s : Scope) (x : List ℕ) → is_arguments x ≡ false → lacks s x ≡ false → is_unbound (scope.bound s x) ≡ false
bound_lacks s x bare e = subst (λ b. cond b (not (scope.is_within s)) (is_unbound (scope.bound s x)) ≡ false) bare e

bound_keeps : (s : Scope) (x : List ℕ) → is_arguments x ≡ false → keeps s x ≡ false → is_settled (scope.bound s x) ≡ false
bound_keeps s x bare e = subst (λ b. (not b && is_settled (scope.bound s x)) ≡ false) bare e

lacks_bound : (s : Scope) (x : List ℕ) → is_arguments x ≡ false → is_unbound (scope.bound s x) ≡ false → lacks s x ≡ false
lacks_bound s x bare e = subst (λ b. cond b (not (scope.is_within s)) (is_unbound (scope.bound s x)) ≡ false) (sym bare) e

keeps_bound : (s : Scope) (x : List ℕ) → is_arguments x ≡ false → is_settled (scope.bound s x) ≡ false → keeps s x ≡ false
keeps_bound s x bare e = subst (λ b. (not b && is_settled (scope.bound s x)) ≡ false) (sym bare) e

-- among what a body adds, and around it

pub within_own : (params names : List (List ℕ)) (fs : c.Tree c.funcs) (args : Bool) (n : Names) (k : List ℕ) → (is_declared fs k || (is_among params k || is_among names k)) ≡ true → within params names fs args n k ≡ true
within_own params names fs args n k e = right_there (args && same_units k arguments_copy) _ (either (is_declared fs k) _ e (λ h. left_there _ _ h) (λ h. right_there (is_declared fs k) _ (left_there _ _ h)))

pub within_outer : (params names : List (List ℕ)) (fs : c.Tree c.funcs) (args : Bool) (n : Names) (k : List ℕ) → n k ≡ true → within params names fs args n k ≡ true
within_outer params names fs args n k e = right_there (args && same_units k arguments_copy) _ (right_there (is_declared fs k) _ (right_there (is_among params k || is_among names k) _ e))

pub within_copy : (params names : List (List ℕ)) (fs : c.Tree c.funcs) (args : Bool) (n : Names) → args ≡ true → within params names fs args n arguments_copy ≡ true
within_copy params names fs args n e = subst (λ b. within params names fs b n arguments_copy ≡ true) (sym e) refl

-- a module's own names, and those that it may import

module _ (known : List (List ℕ)) (ds : List Declaration) (imports names : List (List ℕ)) (fs : c.Tree c.funcs) (usable : (k : List ℕ) → declares ds k ≡ true → (is_declared fs k || is_among names k) ≡ true) where
  abbrev pub around : Scope
  around = in_module ds known

  abbrev pub outside : Names
  outside k = not (declares ds k) && is_among known k

  pub module_fixed : (k : List ℕ) → scope.imports around k ≡ true → outside k ≡ true
  module_fixed k e = by_declared (declares ds k) (both_true _ _ e).1
    where
      no_own : (b : Bool) → is_imported (cond b settled changing) ≡ true → false ≡ true
      no_own true h = never h
      no_own false h = never h

      by_fixed : (b : Bool) → is_imported (cond b imported unbound) ≡ true → b ≡ true
      by_fixed true h = refl
      by_fixed false h = never h

      by_declared : (b : Bool) → is_imported (cond b (own ds k) (cond (is_among known k) imported unbound)) ≡ true → (not b && is_among known k) ≡ true
      by_declared true h = no_own (declares_function ds k) h
      by_declared false h = by_fixed (is_among known k) h

  -- a name that isn't lacking is declared or imported
  pub module_known : (x : Word) → is_arguments x.text ≡ false → lacks around x.text ≡ false → AllIn (import_at around x) (is_among imports) → within [] names fs false (is_among imports) x.text ≡ true
  module_known x bare lacked all =
      let cases = elim (declares ds x.text) as (λ b. declares ds x.text ≡ b → is_unbound (cond b (own ds x.text) (cond (is_among known x.text) imported unbound)) ≡ false → within [] names fs false (is_among imports) x.text ≡ true) [
        | true ↦ λ is e. within_own [] names fs false (is_among imports) x.text (usable x.text is)
        | false ↦ λ is e. within_outer [] names fs false (is_among imports) x.text (all x.text (ap (λ b. is_among (cond b (x.text ∷ []) []) x.text) (here is (by_fixed (is_among known x.text) e)) ∙ left_there (same_units x.text x.text) false (same_key-refl x.text)))
      ] in cases refl (bound_lacks around x.text bare lacked)
    where
      by_fixed : (b : Bool) → is_unbound (cond b imported unbound) ≡ false → b ≡ true
      by_fixed true h = refl
      by_fixed false h = absurd cc

      here : declares ds x.text ≡ false → is_among known x.text ≡ true → scope.imports around x.text ≡ true
      here d f = rw (bare, d, f) refl

  pub module_writable : (x : Word) → is_arguments x.text ≡ false → lacks around x.text ≡ false → keeps around x.text ≡ false → within [] names fs false (λ y. false) x.text ≡ true
  module_writable x bare lacked kept =
      let cases = elim (declares ds x.text) as (λ b. declares ds x.text ≡ b → is_unbound (cond b (own ds x.text) (cond (is_among known x.text) imported unbound)) ≡ false → is_settled (cond b (own ds x.text) (cond (is_among known x.text) imported unbound)) ≡ false → within [] names fs false (λ y. false) x.text ≡ true) [
        | true ↦ λ is e h. within_own [] names fs false (λ y. false) x.text (usable x.text is)
        | false ↦ λ is e h. neither (is_among known x.text) e h
      ] in cases refl (bound_lacks around x.text bare lacked) (bound_keeps around x.text bare kept)
    where
      neither : (b : Bool) → is_unbound (cond b imported unbound) ≡ false → is_settled (cond b imported unbound) ≡ false → within [] names fs false (λ y. false) x.text ≡ true
      neither true e h = absurd cc
      neither false e h = absurd cc

  abbrev pub in_the_module : Place imports outside
  in_the_module = record { around = around; vars = within [] names fs false (is_among imports); free = within [] names fs false (λ y. false); fixed = module_fixed; known = module_known; writable = module_writable }

-- the body of a function, with its parameters, its variables and its functions

module _ {imports : List (List ℕ)} {outer : Names} (P : Place imports outer) (ds : List Declaration) (params names : List (List ℕ)) (fs : c.Tree c.funcs) (args : Bool) (usable : (k : List ℕ) → declares ds k ≡ true → (is_declared fs k || (is_among params k || is_among names k)) ≡ true) where
  abbrev pub inside : Scope
  inside = in_function ds P.around

  pub function_fixed : (k : List ℕ) → scope.imports inside k ≡ true → outer k ≡ true
  function_fixed k e = by_declared (declares ds k) e
    where
      no_own : (b : Bool) → is_imported (cond b settled changing) ≡ true → outer k ≡ true
      no_own true h = never h
      no_own false h = never h

      by_declared : (b : Bool) → (not (is_arguments k) && is_imported (cond b (own ds k) (scope.bound P.around k))) ≡ true → outer k ≡ true
      by_declared true h = no_own (declares_function ds k) (both_true _ _ h).1
      by_declared false h = P.fixed k h

  pub function_known : (x : Word) → is_arguments x.text ≡ false → lacks inside x.text ≡ false → AllIn (import_at inside x) (is_among imports) → within params names fs args P.vars x.text ≡ true
  function_known x bare lacked all =
      let cases = elim (declares ds x.text) as (λ b. declares ds x.text ≡ b → is_unbound (cond b (own ds x.text) (scope.bound P.around x.text)) ≡ false
      → AllIn (cond (not (is_arguments x.text) && is_imported (cond b (own ds x.text) (scope.bound P.around x.text))) (x.text ∷ []) []) (is_among imports) → within params names fs args P.vars x.text ≡ true) [
        | true ↦ λ is e h. within_own params names fs args P.vars x.text (usable x.text is)
        | false ↦ λ is e h. within_outer params names fs args P.vars x.text (P.known x bare (lacks_bound P.around x.text bare e) h)
      ] in cases refl (bound_lacks inside x.text bare lacked) all

  pub function_writable : (x : Word) → is_arguments x.text ≡ false → lacks inside x.text ≡ false → keeps inside x.text ≡ false → within params names fs args P.free x.text ≡ true
  function_writable x bare lacked kept =
      let cases = elim (declares ds x.text) as (λ b. declares ds x.text ≡ b → is_unbound (cond b (own ds x.text) (scope.bound P.around x.text)) ≡ false
      → is_settled (cond b (own ds x.text) (scope.bound P.around x.text)) ≡ false → within params names fs args P.free x.text ≡ true) [
        | true ↦ λ is e h. within_own params names fs args P.free x.text (usable x.text is)
        | false ↦ λ is e h. within_outer params names fs args P.free x.text (P.writable x bare (lacks_bound P.around x.text bare e) (keeps_bound P.around x.text bare h))
      ] in cases refl (bound_lacks inside x.text bare lacked) (bound_keeps inside x.text bare kept)

  abbrev pub in_the_function : Place imports outer
  in_the_function = record { around = inside; vars = within params names fs args P.vars; free = within params names fs args P.free; fixed = function_fixed; known = function_known; writable = function_writable }

-- the block of a `catch`, with its name

module _ {imports : List (List ℕ)} {outer : Names} (P : Place imports outer) (y : List ℕ) where
  abbrev pub caught : Scope
  caught = in_catch y P.around

  pub catch_fixed : (k : List ℕ) → scope.imports caught k ≡ true → outer k ≡ true
  catch_fixed k e = by_same (same_units k y) e
    where
      by_same : (b : Bool) → (not (is_arguments k) && is_imported (cond b changing (scope.bound P.around k))) ≡ true → outer k ≡ true
      by_same true h = never (both_true _ _ h).1
      by_same false h = P.fixed k h

  pub catch_known : (x : Word) → is_arguments x.text ≡ false → lacks caught x.text ≡ false → AllIn (import_at caught x) (is_among imports) → inner [] (y ∷ []) P.vars x.text ≡ true
  catch_known x bare lacked all = by_same (same_units x.text y) lacked all
    where
      by_same : (b : Bool) → cond (is_arguments x.text) (not (scope.is_within P.around)) (is_unbound (cond b changing (scope.bound P.around x.text))) ≡ false → AllIn (cond (not (is_arguments x.text) && is_imported (cond b changing (scope.bound P.around x.text))) (x.text ∷ []) []) (is_among imports) → ((b || false) || P.vars x.text) ≡ true
      by_same true e h = refl
      by_same false e h = P.known x bare e h

  pub catch_writable : (x : Word) → is_arguments x.text ≡ false → lacks caught x.text ≡ false → keeps caught x.text ≡ false → inner [] (y ∷ []) P.free x.text ≡ true
  catch_writable x bare lacked kept = by_same (same_units x.text y) lacked kept
    where
      by_same : (b : Bool) → cond (is_arguments x.text) (not (scope.is_within P.around)) (is_unbound (cond b changing (scope.bound P.around x.text))) ≡ false → (not (is_arguments x.text) && is_settled (cond b changing (scope.bound P.around x.text))) ≡ false → ((b || false) || P.free x.text) ≡ true
      by_same true e h = refl
      by_same false e h = P.writable x bare e h

  abbrev pub in_the_catch : Place imports outer
  in_the_catch = record { around = caught; vars = inner [] (y ∷ []) P.vars; free = inner [] (y ∷ []) P.free; fixed = catch_fixed; known = catch_known; writable = catch_writable }

-- a function expression, with its own name

module _ {imports : List (List ℕ)} {outer : Names} (P : Place imports outer) (y : List ℕ) where
  abbrev pub called : Scope
  called = in_named y P.around

  pub named_fixed : (k : List ℕ) → scope.imports called k ≡ true → outer k ≡ true
  named_fixed k e = by_same (same_units k y) e
    where
      by_same : (b : Bool) → (not (is_arguments k) && is_imported (cond b settled (scope.bound P.around k))) ≡ true → outer k ≡ true
      by_same true h = never (both_true _ _ h).1
      by_same false h = P.fixed k h

  pub named_known : (x : Word) → is_arguments x.text ≡ false → lacks called x.text ≡ false → AllIn (import_at called x) (is_among imports) → inner [] (y ∷ []) P.vars x.text ≡ true
  named_known x bare lacked all = by_same (same_units x.text y) lacked all
    where
      by_same : (b : Bool) → cond (is_arguments x.text) (not (scope.is_within P.around)) (is_unbound (cond b settled (scope.bound P.around x.text))) ≡ false → AllIn (cond (not (is_arguments x.text) && is_imported (cond b settled (scope.bound P.around x.text))) (x.text ∷ []) []) (is_among imports) → ((b || false) || P.vars x.text) ≡ true
      by_same true e h = refl
      by_same false e h = P.known x bare e h

  pub named_writable : (x : Word) → is_arguments x.text ≡ false → lacks called x.text ≡ false → keeps called x.text ≡ false → without y P.free x.text ≡ true
  named_writable x bare lacked kept = by_same (same_units x.text y) lacked (bound_keeps called x.text bare kept)
    where
      by_same : (b : Bool) → cond (is_arguments x.text) (not (scope.is_within P.around)) (is_unbound (cond b settled (scope.bound P.around x.text))) ≡ false → is_settled (cond b settled (scope.bound P.around x.text)) ≡ false → (not b && P.free x.text) ≡ true
      by_same true e h = never (sym h)
      by_same false e h = P.writable x bare e (keeps_bound P.around x.text bare h)

  abbrev pub in_the_named : Place imports outer
  in_the_named = record { around = called; vars = inner [] (y ∷ []) P.vars; free = without y P.free; fixed = named_fixed; known = named_known; writable = named_writable }
