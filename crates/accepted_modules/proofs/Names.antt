-- The names that a body declares (ES3 10.1.3): a module may use each of them, and each function has a name of its own.
use Rattle.std.proofs.Common.{◌≡◌, ℕ, Bool, true, false, List, [], ◌∷◌, ◌++◌, map, cond, refl, sym, ap, ◌∙◌, subst}
use Rattle.std.specs.Prelude.{◌||◌, ◌&&◌}
use Rattle.std.specs.List.{list_any}
use Rattle.std.specs.Cmp.Lexicographic.{same_text}
use Rattle.std.proofs.lemmas.List.Folds.{list_any-append}
use Rattle.caja_units.specs.Units.{same_units}
use Rattle.es3_objects.proofs.Keys.{same_key-refl}
use Rattle.es3_tree.specs.Tree as t
use Rattle.es3_tree.specs.Placed.{Placed, Word}
use Rattle.cajita_names.specs.Declarations as d
use Rattle.cajita_names.specs.Declarations.{Role, Declaration, declared_as, declarations}
use Rattle.cajita_names.specs.Scope.{declares, is_function, is_parameter}
use Rattle.cajita_names.specs.Once.{names_of, is_variable, is_loop_variable, once_after, vars_of}
use Rattle.cajita_rules.specs.Faults.{word_fault, clashes, redeclared}
use Rattle.cajita_forms.specs.Forms.{texts_of}
use Rattle.cajita_simulation.specs.Guest.{is_among, AreDistinct}
use Rattle.accepted_modules.proofs.Declared.{never, either, left_there, right_there, or_left, or_right, no_front, no_back, none_there, once_same}

-- ---- the names of some roles

pub names_apart : (has : Role → Bool) (ds es : List Declaration) → names_of has (ds ++ es) ≡ names_of has ds ++ names_of has es
names_apart has [] es = refl
names_apart has (x ∷ ds) es = by_role (has x.role) (names_apart has ds es)
  where
    by_role : (b : Bool) → names_of has (ds ++ es) ≡ names_of has ds ++ names_of has es → cond b (x.word.text ∷ names_of has (ds ++ es)) (names_of has (ds ++ es)) ≡ cond b (x.word.text ∷ names_of has ds) (names_of has ds) ++ names_of has es
    by_role true e = ap (λ l. x.word.text ∷ l) e
    by_role false e = e

pub parameter_names : (ps : List Word) → names_of is_parameter (map (declared_as d.parameter) ps) ≡ texts_of ps
parameter_names [] = refl
parameter_names (x ∷ ps) = ap (λ l. x.text ∷ l) (parameter_names ps)

pub without_parameters : (has : Role → Bool) → has d.parameter ≡ false → (ps : List Word) → names_of has (map (declared_as d.parameter) ps) ≡ []
without_parameters has none [] = refl
without_parameters has none (x ∷ ps) = rw none (without_parameters has none ps)

-- the first of some declarations has the name and the role, or it is of the others
pub among_one : {A : Type 0} (has : Role → Bool) (x : Declaration) (ds : List Declaration) (k : List ℕ) → is_among (names_of has (x ∷ ds)) k ≡ true → (has x.role ≡ true → same_units k x.word.text ≡ true → A) → (is_among (names_of has ds) k ≡ true → A) → A
among_one {A = A} has x ds k there f g =
    let cases = elim (has x.role) as (λ b. has x.role ≡ b → is_among (cond b (x.word.text ∷ names_of has ds) (names_of has ds)) k ≡ true → A) [
      | true ↦ λ is h. either (same_units k x.word.text) _ h (λ same. f is same) g
      | false ↦ λ is h. g h
    ] in cases refl there

pub this_role : (has : Role → Bool) (x : Declaration) (ds : List Declaration) (k : List ℕ) → has x.role ≡ true → same_units k x.word.text ≡ true → is_among (names_of has (x ∷ ds)) k ≡ true
this_role has x ds k is same = subst (λ b. is_among (cond b (x.word.text ∷ names_of has ds) (names_of has ds)) k ≡ true) (sym is) (left_there _ _ same)

pub more_roles : (has : Role → Bool) (x : Declaration) (ds : List Declaration) (k : List ℕ) → is_among (names_of has ds) k ≡ true → is_among (names_of has (x ∷ ds)) k ≡ true
more_roles has x ds k there = by_role (has x.role)
  where
    by_role : (b : Bool) → is_among (cond b (x.word.text ∷ names_of has ds) (names_of has ds)) k ≡ true
    by_role true = right_there _ _ there
    by_role false = there

pub among_declared : (has : Role → Bool) (ds : List Declaration) (k : List ℕ) → is_among (names_of has ds) k ≡ true → declares ds k ≡ true
among_declared has [] k there = never there
among_declared has (x ∷ ds) k there = among_one has x ds k there (λ is same. left_there _ _ same) (λ more. right_there (same_units k x.word.text) _ (among_declared has ds k more))

-- what is declared has one of the four roles
by_role : {A : Type 0} (r : Role) → (is_parameter r ≡ true → A) → (is_variable r ≡ true → A) → (is_loop_variable r ≡ true → A) → (is_function r ≡ true → A) → A
by_role d.parameter f g h i = f refl
by_role d.variable f g h i = g refl
by_role d.loop_variable f g h i = h refl
by_role d.function f g h i = i refl

pub by_roles : {A : Type 0} (ds : List Declaration) (k : List ℕ) → declares ds k ≡ true → (is_among (names_of is_parameter ds) k ≡ true → A) → (is_among (names_of is_variable ds) k ≡ true → A)
    → (is_among (names_of is_loop_variable ds) k ≡ true → A) → (is_among (names_of is_function ds) k ≡ true → A) → A
by_roles [] k there f g h i = never there
by_roles (x ∷ ds) k there f g h i = either (same_units k x.word.text) (declares ds k) there
    (λ same. by_role x.role (λ is. f (this_role is_parameter x ds k is same)) (λ is. g (this_role is_variable x ds k is same)) (λ is. h (this_role is_loop_variable x ds k is same)) (λ is. i (this_role is_function x ds k is same)))
    (λ more. by_roles ds k more (λ e. f (more_roles is_parameter x ds k e)) (λ e. g (more_roles is_variable x ds k e)) (λ e. h (more_roles is_loop_variable x ds k e)) (λ e. i (more_roles is_function x ds k e)))

-- the variables of a body
pub variable_there : (body : Placed t.stmts) (k : List ℕ) → is_among (names_of is_variable (declarations t.stmts body)) k ≡ true → is_among (vars_of body) k ≡ true
variable_there body k there =
    once_same (once_after [] (names_of is_variable (declarations t.stmts body))) (names_of is_loop_variable (declarations t.stmts body)) k
    ∙ left_there (is_among (once_after [] (names_of is_variable (declarations t.stmts body))) k) _ (once_same [] (names_of is_variable (declarations t.stmts body)) k ∙ there)

pub loop_variable_there : (body : Placed t.stmts) (k : List ℕ) → is_among (names_of is_loop_variable (declarations t.stmts body)) k ≡ true → is_among (vars_of body) k ≡ true
loop_variable_there body k there =
    once_same (once_after [] (names_of is_variable (declarations t.stmts body))) (names_of is_loop_variable (declarations t.stmts body)) k
    ∙ right_there (is_among (once_after [] (names_of is_variable (declarations t.stmts body))) k) _ there

pub of_variables : {A : Type 0} (body : Placed t.stmts) (k : List ℕ) → is_among (vars_of body) k ≡ true → (is_among (names_of is_variable (declarations t.stmts body)) k ≡ true → A) → (is_among (names_of is_loop_variable (declarations t.stmts body)) k ≡ true → A) → A
of_variables body k there f g =
    either (is_among (once_after [] (names_of is_variable (declarations t.stmts body))) k) (is_among (names_of is_loop_variable (declarations t.stmts body)) k)
    (sym (once_same (once_after [] (names_of is_variable (declarations t.stmts body))) (names_of is_loop_variable (declarations t.stmts body)) k) ∙ there)
    (λ e. f (sym (once_same [] (names_of is_variable (declarations t.stmts body)) k) ∙ e)) g

-- ---- no declaration repeats another

abbrev pub Each : (Declaration → Type 0) → List Declaration → Type 0
Each P [] = Unit {0}
Each P (x ∷ ds) = P x × Each P ds

each : (P Q : Declaration → Type 0) → ((e : Declaration) → P e → Q e) → (ds : List Declaration) → Each P ds → Each Q ds
each P Q f [] h = tt
each P Q f (x ∷ ds) h = (f x h.0, each P Q f ds h.1)

-- none clashes with an earlier one
abbrev pub Apart : List Declaration → Type 0
Apart [] = Unit {0}
Apart (x ∷ ds) = Each (λ e. clashes e x ≡ false) ds × Apart ds

apart_behind : (before ds : List Declaration) → redeclared before ds ≡ [] → Each (λ e. list_any (clashes e) before ≡ false) ds × Apart ds
apart_behind before [] h = (tt, tt)
apart_behind before (x ∷ ds) h =
    let r = apart_behind (before ++ x ∷ []) ds (no_back (word_fault 5 x.word (list_any (clashes x) before)) _ h) in (
      (none_there _ _ (no_front (word_fault 5 x.word (list_any (clashes x) before)) _ h), each (λ e. list_any (clashes e) (before ++ x ∷ []) ≡ false) (λ e. list_any (clashes e) before ≡ false) (λ e g. or_left (list_any (clashes e) before) (clashes e x || false) (sym (list_any-append (clashes e) before (x ∷ [])) ∙ g)) ds r.0),
      (each (λ e. list_any (clashes e) (before ++ x ∷ []) ≡ false) (λ e. clashes e x ≡ false) (λ e g. or_left (clashes e x) false (or_right (list_any (clashes e) before) (clashes e x || false) (sym (list_any-append (clashes e) before (x ∷ [])) ∙ g))) ds r.0, r.1),
    )

pub apart : (ds : List Declaration) → redeclared [] ds ≡ [] → Apart ds
apart ds h = (apart_behind [] ds h).1

-- two roles of which a name has one at most
abbrev pub AreUnlike : Role → Role → Type 0
AreUnlike r q = ((is_function r || is_function q) || (is_parameter r && is_parameter q)) ≡ true

-- two names that are each the same as a third
alike : (k x y : List ℕ) → same_units k x ≡ true → same_units k y ≡ true → same_units x y ≡ true
alike k x y a b = subst (λ z. same_units z y ≡ true) (same_text k x (sym a)) b

clash_later : {A : Type 0} (has : Role → Bool) (x : Declaration) (ds : List Declaration) (k : List ℕ) → ((r : Role) → has r ≡ true → AreUnlike r x.role) → Each (λ e. clashes e x ≡ false) ds → same_units k x.word.text ≡ true → is_among (names_of has ds) k ≡ true → A
clash_later has x [] k unlike h same there = never there
clash_later {A = A} has x (e ∷ ds) k unlike h same there = among_one has e ds k there here (clash_later has x ds k unlike h.1 same)
  where
    here : has e.role ≡ true → same_units k e.word.text ≡ true → A
    here is as_e = never (sym (both (same_units e.word.text x.word.text) _ (alike k e.word.text x.word.text as_e same) (unlike e.role is) ∙ h.0))
      where
        both : (a b : Bool) → a ≡ true → b ≡ true → true ≡ (a && b)
        both true true p q = refl
        both true false p q = never q
        both false b p q = never p

-- the names of one role, if that is unlike itself, are each there once
pub not_there : (b : Bool) → (b ≡ true → false ≡ true) → b ≡ false
not_there true f = sym (f refl)
not_there false f = refl

pub distinct : (has : Role → Bool) → ((r q : Role) → has r ≡ true → has q ≡ true → AreUnlike r q) → (ds : List Declaration) → Apart ds → AreDistinct (names_of has ds)
distinct has unlike [] h = tt
distinct has unlike (x ∷ ds) h =
    let cases = elim (has x.role) as (λ b. has x.role ≡ b → AreDistinct (cond b (x.word.text ∷ names_of has ds) (names_of has ds))) [
      | true ↦ λ is. (not_there (is_among (names_of has ds) x.word.text) (clash_later has x ds x.word.text (λ r e. unlike r x.role e is) h.0 (same_key-refl x.word.text)), distinct has unlike ds h.1)
      | false ↦ λ is. distinct has unlike ds h.1
    ] in cases refl

pub parameters_unlike : (r q : Role) → is_parameter r ≡ true → is_parameter q ≡ true → AreUnlike r q
parameters_unlike d.parameter d.parameter e h = refl
parameters_unlike d.parameter d.function e h = never h
parameters_unlike d.parameter d.variable e h = never h
parameters_unlike d.parameter d.loop_variable e h = never h
parameters_unlike d.function q e h = never e
parameters_unlike d.variable q e h = never e
parameters_unlike d.loop_variable q e h = never e

pub function_unlike : (r q : Role) → is_function r ≡ true → AreUnlike r q
function_unlike d.function q e = refl
function_unlike d.parameter q e = never e
function_unlike d.variable q e = never e
function_unlike d.loop_variable q e = never e

other_unlike : (r q : Role) → is_function q ≡ true → AreUnlike r q
other_unlike r d.function e = right_there_then (is_function r) (is_parameter r)
  where
    right_there_then : (a b : Bool) → ((a || true) || (b && false)) ≡ true
    right_there_then true b = refl
    right_there_then false b = refl
other_unlike r d.parameter e = never e
other_unlike r d.variable e = never e
other_unlike r d.loop_variable e = never e

no_function : {A : Type 0} (has : Role → Bool) → has d.function ≡ false → (r : Role) → is_function r ≡ true → has r ≡ true → A
no_function has none d.function e h = never (sym none ∙ h)
no_function has none d.parameter e h = never e
no_function has none d.variable e h = never e
no_function has none d.loop_variable e h = never e

-- the name of a function has no other role
pub function_apart : {A : Type 0} (has : Role → Bool) → has d.function ≡ false → (ds : List Declaration) → Apart ds → (k : List ℕ) → is_among (names_of is_function ds) k ≡ true → is_among (names_of has ds) k ≡ true → A
function_apart has none [] h k f g = never f
function_apart {A = A} has none (x ∷ ds) h k f g = among_one is_function x ds k f
    (λ is same. among_one has x ds k g (λ also other. no_function has none x.role is also) (clash_later has x ds k (λ r e. other_unlike r x.role is) h.0 same))
    (λ more. among_one has x ds k g (λ also other. clash_later is_function x ds k (λ r e. function_unlike r x.role e) h.0 other more) (function_apart has none ds h.1 k more))
