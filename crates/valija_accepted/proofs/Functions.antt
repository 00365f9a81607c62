-- Functions: each takes its receiver first, and stands in a `var`.
use Rattle.std.proofs.Common.{◌≡◌, ℕ, zero, suc, Bool, true, false, List, [], ◌∷◌, ◌++◌, map, cond, None, refl, sym, ap, ◌∙◌, subst, arith}
use Rattle.std.specs.Prelude.{◌||◌, ◌&&◌, codes}
use Rattle.std.specs.List.{list_any}
use Rattle.std.proofs.lemmas.List.Folds.{list_any-append}
use Rattle.caja_units.specs.Units.{same_units, is_hidden}
use Rattle.es3_tree.specs.Tree as t
use Rattle.es3_tree.specs.Placed as p
use Rattle.es3_tree.specs.Placed.{Placed, Word}
use Rattle.es3_labels.specs.Around.{Around, in_function}
use Rattle.es3_labels.specs.Misplaced.{misplaced}
use Rattle.cajita_names.specs.Rules.{is_among}
use Rattle.cajita_names.specs.Declarations as role
use Rattle.cajita_names.specs.Declarations.{Role, Declaration, declared_as, declarations, body_declarations}
use Rattle.cajita_names.specs.Scope.{Scope, bound, changing, is_function, is_parameter, is_unbound, is_arguments, is_eval}
use Rattle.cajita_names.specs.Scope as scope
use Rattle.cajita_names.specs.Once.{is_variable}
use Rattle.cajita_rules.specs.Faults as cajita
use Rattle.cajita_rules.specs.Faults.{faults_in}
use Rattle.valija_rules.specs.Faults as valija
use Rattle.valija_rules.specs.Words.{is_taken, is_numbered}
use Rattle.valija_forms.specs.Forms.{word, items, declaring, joined, declares, named, taking_receiver, receiver_name, temporary, temporaries_from}
use Rattle.valija_parts.specs.Lower.{lowered, functions_before, loop_names, within}
use Rattle.valija_accepted.proofs.Lists.{never, either, or_left, or_right, neither, two, no_front, no_back, no_fault, none_there, same_self, as_good, among_one_of, left_there}
use Rattle.valija_accepted.proofs.Words.{Declarable, declarable, declared_clean, declarable_clean, used_clean, lacks_none, temporary_open}
use Rattle.valija_accepted.proofs.Formed.{FormedBody}
use Rattle.valija_accepted.proofs.Scopes.{Outer, Fits, Home, around_function}
use Rattle.valija_accepted.proofs.Parts.{Good, IsClean, Kept, behind}
use Rattle.valija_accepted.proofs.Asking.{list1_clean, ask_clean}
use Rattle.valija_accepted.proofs.Declared.{variables, lowered_body, taken_by, body_names, body_declares}
use Rattle.valija_accepted.proofs.Bodies.{GoodBody, V, loops_declarable, body_enters, function_enters, parameters}

-- ---- no declaration repeats another: a lowered body declares variables behind its parameters

var_no_function : (r : Role) → is_variable r ≡ true → is_function r ≡ false
var_no_function role.variable e = refl
var_no_function role.parameter e = never e
var_no_function role.loop_variable e = never e
var_no_function role.function e = never e

no_clash : (b : Bool) (r q : Role) → is_variable r ≡ true → is_function q ≡ false → (b && ((is_function r || is_function q) || (is_parameter r && is_parameter q))) ≡ false
no_clash true role.variable q e h = ap (λ c. c || false) h
no_clash false role.variable q e h = refl
no_clash b role.parameter q e h = never e
no_clash b role.loop_variable q e h = never e
no_clash b role.function q e h = never e

abbrev no_functions : List Declaration → Bool
no_functions ds = list_any (λ e. is_function e.role) ds

abbrev pub AllVariables : List Declaration → Type 0
AllVariables [] = Unit {0}
AllVariables (d ∷ ds) = (is_variable d.role ≡ true) × AllVariables ds

pub all_variables : (xs : List (List ℕ)) → AllVariables (variables xs)
all_variables [] = tt
all_variables (x ∷ xs) = (refl, all_variables xs)

clashes_none : (d : Declaration) → is_variable d.role ≡ true → (before : List Declaration) → no_functions before ≡ false → list_any (cajita.clashes d) before ≡ false
clashes_none d is [] h = refl
clashes_none d is (e ∷ es) h =
    neither (cajita.clashes d e) (list_any (cajita.clashes d) es) (no_clash (same_units d.word.text e.word.text) d.role e.role is (or_left (is_function e.role) (no_functions es) h)) (clashes_none d is es (or_right (is_function e.role) (no_functions es) h))

no_more_functions : (before : List Declaration) (d : Declaration) → is_function d.role ≡ false → no_functions before ≡ false → no_functions (before ++ d ∷ []) ≡ false
no_more_functions before d is h = list_any-append (λ (e : Declaration). is_function e.role) before (d ∷ []) ∙ neither (no_functions before) (is_function d.role || false) h (neither (is_function d.role) false is refl)

pub variables_once : (before ds : List Declaration) → no_functions before ≡ false → AllVariables ds → cajita.redeclared before ds ≡ []
variables_once before [] h k = refl
variables_once before (d ∷ ds) h k = two (no_fault 5 d.word _ (clashes_none d k.0 before h)) (variables_once (before ++ d ∷ []) ds (no_more_functions before d (var_no_function d.role k.0) h) k.1)

abbrev par : Word → Declaration
par x = declared_as role.parameter x

-- the same clashes of a parameter with those before it
Alike : List Declaration → List Declaration → Type 0
Alike vs cs = (x : Word) → is_taken x.text ≡ false → list_any (cajita.clashes (par (word x.text))) cs ≡ list_any (valija.clashes (par x)) vs

alike_more : (vs cs : List Declaration) (x : Word) → Alike vs cs → Alike (vs ++ par x ∷ []) (cs ++ par (word x.text) ∷ [])
unfolding Alike
alike_more vs cs x h y own =
    list_any-append (cajita.clashes (par (word y.text))) cs (par (word x.text) ∷ [])
    ∙ ap (λ b. b || ((same_units y.text x.text && true) || false)) (h y own)
    ∙ sym (list_any-append (valija.clashes (par y)) vs (par x ∷ []))

alike_receiver : Alike [] (par (word receiver_name) ∷ [])
unfolding Alike
alike_receiver y own = ap (λ b. (b && true) || false) (or_right (is_numbered y.text) (same_units y.text (codes "$dis")) own)

parameters_once : (vs cs : List Declaration) → Alike vs cs → no_functions cs ≡ false → (ps : List Word) (ds es : List Declaration) → valija.all_declared ps ≡ [] → AllVariables es
    → valija.redeclared vs (map par ps ++ ds) ≡ [] → cajita.redeclared cs (map par (map (λ x. word x.text) ps) ++ es) ≡ []
unfolding Alike
parameters_once vs cs alike none [] ds es clean all once = variables_once cs es none all
parameters_once vs cs alike none (x ∷ ps) ds es clean all once =
    let d = declarable x (no_front (valija.declared x) (valija.all_declared ps) clean) in
    two (no_fault 5 (word x.text) _ (alike x d.usable.own_name ∙ none_there 6 x _ (no_front (cajita.word_fault 6 x (list_any (valija.clashes (par x)) vs)) (valija.redeclared (vs ++ par x ∷ []) (map par ps ++ ds)) once)))
    (parameters_once (vs ++ par x ∷ []) (cs ++ par (word x.text) ∷ []) (alike_more vs cs x alike) (no_more_functions cs (par (word x.text)) refl none) ps ds es
    (no_back (valija.declared x) (valija.all_declared ps) clean) all (no_back (cajita.word_fault 6 x (list_any (valija.clashes (par x)) vs)) (valija.redeclared (vs ++ par x ∷ []) (map par ps ++ ds)) once))

parameters_declared : (ps : List Word) → valija.all_declared ps ≡ [] → cajita.all_declared (map (λ x. word x.text) ps) ≡ []
parameters_declared [] e = refl
parameters_declared (x ∷ ps) e = two (declarable_clean x.text (declarable x (no_front (valija.declared x) (valija.all_declared ps) e))) (parameters_declared ps (no_back (valija.declared x) (valija.all_declared ps) e))

-- ---- the front of a body

record Fit (x : List ℕ) : Type 0 where
  open_name : is_hidden x ≡ false
  no_eval : is_eval x ≡ false
  no_arguments : is_arguments x ≡ false

fit_of : (x : List ℕ) → Declarable x → Fit x
fit_of x d = record { open_name = d.usable.open_name; no_eval = d.usable.no_eval; no_arguments = d.no_arguments }

temporaries_fit : (i n : ℕ) (k : List ℕ) → is_among (temporaries_from i n) k ≡ true → Fit k
temporaries_fit i zero k there = never there
temporaries_fit i (suc n) k there =
    either (same_units k (temporary i)) (is_among (temporaries_from (suc i) n) k) there
    (λ same. as_good Fit k (temporary i) same (record { open_name = temporary_open i; no_eval = refl; no_arguments = refl })) (temporaries_fit (suc i) n k)

module _ {r : Scope} {a : Around} where
  pub joined_clean : {y : Placed t.stmts} (x : Placed t.stmts) → IsClean r a t.stmts x → IsClean r a t.stmts y → IsClean r a t.stmts (joined x y)
  unfolding faults_in misplaced
  joined_clean p.no_stmts h k = k
  joined_clean {y = y} (p.more_stmts x ss) h k =
      let rest = joined_clean {y = y} ss (record { rules = no_back (faults_in r t.stmt x) (faults_in r t.stmts ss) h.rules; jumps = no_back (misplaced a t.stmt x) (misplaced a t.stmts ss) h.jumps }) k in
      record { rules = two (no_front (faults_in r t.stmt x) (faults_in r t.stmts ss) h.rules) rest.rules; jumps = two (no_front (misplaced a t.stmt x) (misplaced a t.stmts ss) h.jumps) rest.jumps }

  items_clean : (xs : List (List ℕ)) → ((k : List ℕ) → is_among xs k ≡ true → Fit k) → IsClean r a t.items (items xs)
  unfolding faults_in misplaced
  items_clean [] f = record { rules = refl; jumps = refl }
  items_clean (x ∷ xs) f =
      let here = f x (left_there (same_units x x) (is_among xs x) (same_self x)) in
      let rest = items_clean xs (λ k e. f k (further (same_units k x) (is_among xs k) e)) in
      record { rules = two (two (declared_clean x here.open_name here.no_eval here.no_arguments) refl) rest.rules; jumps = rest.jumps }
    where
      further : (b c : Bool) → c ≡ true → (b || c) ≡ true
      further true c e = refl
      further false c e = e

  declaring_clean : {ss : Placed t.stmts} (xs : List (List ℕ)) → ((k : List ℕ) → is_among xs k ≡ true → Fit k) → IsClean r a t.stmts ss → IsClean r a t.stmts (declaring xs ss)
  unfolding faults_in misplaced
  declaring_clean [] f h = h
  declaring_clean (x ∷ xs) f h = let head = items_clean (x ∷ xs) f in record { rules = two head.rules h.rules; jumps = two head.jumps h.jumps }

  pub body_clean : (s : Scope) (body : Placed t.stmts) → GoodBody s a body → Kept r a (taken_by s body) 0 t.stmts (lowered s t.stmts body) → IsClean r a t.stmts (functions_before s body) → IsClean r a t.stmts (lowered_body s body)
  body_clean s body h k functions =
      declaring_clean (temporaries_from 0 (taken_by s body) ++ loop_names body)
      (λ n there. among_one_of (temporaries_from 0 (taken_by s body)) (loop_names body) n there (temporaries_fit 0 (taken_by s body) n) (λ e. fit_of n (loops_declarable s a body h n e)))
      (joined_clean (functions_before s body) functions (k.clean 0 (omega arith) (omega arith)))

  -- `var f = e;`
  pub declares_clean : {e : Placed t.expr} (f : Word) → Declarable f.text → IsClean r a t.expr e → IsClean r a t.stmt (declares f e)
  unfolding faults_in misplaced
  declares_clean f d h = record { rules = two (two (declarable_clean f.text d) h.rules) refl; jumps = two h.jumps refl }

  function_clean : (ps : List Word) (body : Placed t.stmts) → Home r → cajita.all_declared (parameters ps) ≡ [] → cajita.redeclared [] (body_declarations (parameters ps) body) ≡ []
      → IsClean (scope.in_function (body_declarations (parameters ps) body) r) in_function t.stmts body → IsClean r a t.expr (taking_receiver ps body)
  unfolding faults_in misplaced
  function_clean ps body home declared once h =
      let f : IsClean r a t.expr (p.function (p.fun None (parameters ps) body 0)) = record { rules = two (two declared once) h.rules; jumps = h.jumps } in
      ask_clean (codes "dis") home refl (list1_clean f)

-- ---- a function

abbrev pub GoodFunction : Scope → List Word → Placed t.stmts → Type 0
GoodFunction s ps body = Good (FormedBody body) ((valija.all_declared ps ++ valija.redeclared [] (body_declarations ps body)) ++ V (within s ps body) t.stmts body) (misplaced in_function t.stmts body)

pub good_inner : (s : Scope) (ps : List Word) (body : Placed t.stmts) → GoodFunction s ps body → GoodBody (within s ps body) in_function body
good_inner s ps body h = behind (valija.all_declared ps ++ valija.redeclared [] (body_declarations ps body)) h

-- what is declared around its lowered body
abbrev pub inner : Scope → Scope → List Word → Placed t.stmts → Scope
inner s r ps body = scope.in_function (body_declarations (parameters ps) (lowered_body (within s ps body) body)) r

pub inner_fits : {s r : Scope} → Outer s r → (ps : List Word) (body : Placed t.stmts) → GoodFunction s ps body → Fits (within s ps body) (inner s r ps body) (taken_by (within s ps body) body)
inner_fits {s} o ps body h = around_function o (function_enters ps (body_enters (within s ps body) in_function body (good_inner s ps body h))) refl

pub receiver_function_clean : {s r : Scope} (a : Around) → Outer s r → (ps : List Word) (body : Placed t.stmts) → GoodFunction s ps body
    → Kept (inner s r ps body) in_function (taken_by (within s ps body) body) 0 t.stmts (lowered (within s ps body) t.stmts body)
    → IsClean (inner s r ps body) in_function t.stmts (functions_before (within s ps body) body)
    → IsClean r a t.expr (taking_receiver ps (lowered_body (within s ps body) body))
receiver_function_clean {s} a o ps body h k functions =
    let front = no_front (valija.all_declared ps ++ valija.redeclared [] (body_declarations ps body)) (V (within s ps body) t.stmts body) h.rules in
    let declared = no_front (valija.all_declared ps) (valija.redeclared [] (body_declarations ps body)) front in
    function_clean ps (lowered_body (within s ps body) body) o.home
    (parameters_declared ps declared)
    (parameters_once [] (par (word receiver_name) ∷ []) alike_receiver refl ps (declarations t.stmts body) (declarations t.stmts (lowered_body (within s ps body) body)) declared
    (subst AllVariables (sym (body_declares (within s ps body) body)) (all_variables (body_names (within s ps body) body)))
    (no_back (valija.all_declared ps) (valija.redeclared [] (body_declarations ps body)) front))
    (body_clean (within s ps body) body (good_inner s ps body h) k functions)

-- a function expression with a name
pub named_clean : {r : Scope} {a : Around} {e : Placed t.expr} (f : Word) → Declarable f.text → IsClean (scope.in_function (declared_as role.variable (word f.text) ∷ []) r) in_function t.expr e → IsClean r a t.expr (named f e)
unfolding faults_in misplaced declarations
named_clean {r} {a} {e} f d h =
    let there : is_unbound (bound (scope.in_function (declared_as role.variable (word f.text) ∷ []) r) f.text) ≡ false = ap (λ b. is_unbound (cond (b || false) changing (bound r f.text))) (same_self f.text) in
    let used = used_clean (scope.in_function (declared_as role.variable (word f.text) ∷ []) r) f.text d.usable.open_name d.usable.no_eval (lacks_none (scope.in_function (declared_as role.variable (word f.text) ∷ []) r) f.text d.no_arguments there) in
    record { rules = two (two (two (two (declarable_clean f.text d) h.rules) refl) (two used refl)) refl; jumps = two (two (two h.jumps refl) refl) refl }
