-- A function of an accepted module is a guest's where its body is (ES3 13): its names are its own, each variable is declared, and its jumps are its own.
use Rattle.std.proofs.Common.{◌≡◌, ℕ, ◌+◌, Bool, true, false, List, [], ◌++◌, map, Option, Some, None, refl, sym, ap, ◌∙◌, subst, arith}
use Rattle.std.specs.Prelude.{◌||◌, IfSome}
use Rattle.std.proofs.lemmas.List.Folds.{list_any-append}
use Rattle.caja_units.specs.Units.{same_units}
use Rattle.es3_objects.proofs.Keys.{same_key-refl}
use Rattle.es3_tree.specs.Tree as t
use Rattle.es3_tree.specs.Placed as p
use Rattle.es3_tree.specs.Placed.{Placed, Word}
use Rattle.es3_labels.specs.Around.{Around, in_function}
use Rattle.es3_labels.specs.Misplaced.{misplaced}
use Rattle.cajita_tree.specs.Tree as c
use Rattle.cajita_names.specs.Declarations as d
use Rattle.cajita_names.specs.Declarations.{Role, Declaration, declared_as, declarations, body_declarations}
use Rattle.cajita_names.specs.Scope as scope
use Rattle.cajita_names.specs.Scope.{declares, is_function, is_parameter}
use Rattle.cajita_names.specs.Once.{names_of, is_variable, is_loop_variable, vars_of}
use Rattle.cajita_rules.specs.Faults.{declared, all_declared, redeclared, faults_in}
use Rattle.cajita_forms.specs.Options.{one, both}
use Rattle.cajita_forms.specs.Forms.{text_of, texts_of}
use Rattle.cajita_forms.specs.Arguments.{names_arguments}
use Rattle.cajita_rewrite.specs.Rewrite as rewriting
use Rattle.cajita_rewrite.specs.Rewrite.{temps}
use Rattle.source_sizes.specs.Sizes.{inner_temps}
use Rattle.scope_rules.specs.Free.{free}
use Rattle.scope_rules.specs.Resolve.{resolved, declared_functions}
use Rattle.cajita_simulation.specs.Jumps.{function_jumps, Targets}
use Rattle.cajita_simulation.specs.Guest.{is_among, Names, GuestName, AreDistinct, NewFuncs, is_declared}
use Rattle.accepted_modules.proofs.Declared.{never, left_there, right_there, no_front, no_back, guest_declared}
use Rattle.accepted_modules.proofs.Formed.{FormedBody}
use Rattle.accepted_modules.proofs.Names.{names_apart, parameter_names, without_parameters, among_declared, by_roles, variable_there, loop_variable_there, of_variables, apart, not_there, distinct, parameters_unlike, function_unlike, function_apart}
use Rattle.accepted_modules.proofs.Words.{parameters_named, list_words}
use Rattle.accepted_modules.proofs.Variables.{list_variables, Named, no_names, more_names, named_same, functions_named, no_parameter}
use Rattle.accepted_modules.proofs.Jumps.{own_jumps}
use Rattle.accepted_modules.proofs.Places.{Place, within_own, within_copy, in_the_function, in_the_named}
use Rattle.accepted_modules.proofs.Parts.{About, about, behind_faults, Few, fewer, Clear, Fine, Holds, lacking, held, there, HoldsBody, body_there, Part, Lines, Means}

-- functions whose names are their own
pub new_functions : (params names : List (List ℕ)) (fs : c.Tree c.funcs) (xs : List (List ℕ)) → Named fs xs → AreDistinct xs → ((k : List ℕ) → is_among xs k ≡ true → GuestName k × (is_among params k ≡ false) × (is_among names k ≡ false)) → NewFuncs params names fs
new_functions params names _ _ no_names apart own = tt
new_functions params names _ _ (more_names x ps args body fs xs h) apart own =
    let mine = own x (left_there (same_units x x) (is_among xs x) (same_key-refl x)) in
    ((mine.0, mine.1, mine.2, named_same fs xs h x ∙ apart.0), new_functions params names fs xs h apart.1 (λ k e. own k (right_there (same_units k x) _ e)))

-- what the names of a body are, where its functions are these
module _ (ps : List Word) (body : Placed t.stmts) (h : FormedBody body) (fs : c.Tree c.funcs) (is : declared_functions body ≡ Some fs) where
  abbrev own : List Declaration
  own = body_declarations ps body

  behind_parameters : (has : Role → Bool) → has d.parameter ≡ false → names_of has own ≡ names_of has (declarations t.stmts body)
  behind_parameters has none = names_apart has (map (declared_as d.parameter) ps) (declarations t.stmts body) ∙ ap (λ l. l ++ names_of has (declarations t.stmts body)) (without_parameters has none ps)

  of_parameters : names_of is_parameter own ≡ texts_of ps
  of_parameters = names_apart is_parameter (map (declared_as d.parameter) ps) (declarations t.stmts body) ∙ ap (λ l. names_of is_parameter (map (declared_as d.parameter) ps) ++ l) (no_parameter body h) ∙ nil (names_of is_parameter (map (declared_as d.parameter) ps)) ∙ parameter_names ps
    where
      nil : (xs : List (List ℕ)) → xs ++ [] ≡ xs
      nil xs = Rattle.std.proofs.lemmas.List.append-nil xs

  pub named_functions : Named fs (names_of is_function (declarations t.stmts body))
  named_functions = subst (λ o. IfSome o (λ gs. Named gs (names_of is_function (declarations t.stmts body)))) is (functions_named body h)

  -- each name that is declared is a parameter's, a variable's or a function's
  pub each_kind : (k : List ℕ) → declares own k ≡ true → (is_declared fs k || (is_among (texts_of ps) k || is_among (vars_of body) k)) ≡ true
  each_kind k there = by_roles own k there
      (λ e. right_there (is_declared fs k) _ (left_there _ _ (subst (λ l. is_among l k ≡ true) of_parameters e)))
      (λ e. right_there (is_declared fs k) _ (right_there (is_among (texts_of ps) k) _ (variable_there body k (subst (λ l. is_among l k ≡ true) (behind_parameters is_variable refl) e))))
      (λ e. right_there (is_declared fs k) _ (right_there (is_among (texts_of ps) k) _ (loop_variable_there body k (subst (λ l. is_among l k ≡ true) (behind_parameters is_loop_variable refl) e))))
      (λ e. left_there _ _ (named_same fs _ named_functions k ∙ subst (λ l. is_among l k ≡ true) (behind_parameters is_function refl) e))

  module _ (clean : redeclared [] own ≡ []) where
    pub distinct_parameters : AreDistinct (texts_of ps)
    distinct_parameters = subst AreDistinct of_parameters (distinct is_parameter parameters_unlike own (apart own clean))

    pub distinct_functions : AreDistinct (names_of is_function (declarations t.stmts body))
    distinct_functions = subst AreDistinct (behind_parameters is_function refl) (distinct is_function (λ r q e i. function_unlike r q e) own (apart own clean))

    abbrev a_function : List ℕ → Type 0
    a_function k = is_among (names_of is_function (declarations t.stmts body)) k ≡ true

    back : (k : List ℕ) → a_function k → is_among (names_of is_function own) k ≡ true
    back k e = subst (λ l. is_among l k ≡ true) (sym (behind_parameters is_function refl)) e

    pub no_parameters_name : (k : List ℕ) → a_function k → is_among (texts_of ps) k ≡ false
    no_parameters_name k e = not_there (is_among (texts_of ps) k) (λ g. function_apart is_parameter refl own (apart own clean) k (back k e) (subst (λ l. is_among l k ≡ true) (sym of_parameters) g))

    pub no_variables_name : (k : List ℕ) → a_function k → is_among (vars_of body) k ≡ false
    no_variables_name k e = not_there (is_among (vars_of body) k) (λ g. of_variables body k g
        (λ v. function_apart is_variable refl own (apart own clean) k (back k e) (subst (λ l. is_among l k ≡ true) (sym (behind_parameters is_variable refl)) v))
        (λ v. function_apart is_loop_variable refl own (apart own clean) k (back k e) (subst (λ l. is_among l k ≡ true) (sym (behind_parameters is_loop_variable refl)) v)))

-- a variable of a body is declared there
pub variable_declared : (body : Placed t.stmts) (k : List ℕ) → is_among (vars_of body) k ≡ true → declares (declarations t.stmts body) k ≡ true
variable_declared body k there = of_variables body k there (among_declared is_variable (declarations t.stmts body) k) (among_declared is_loop_variable (declarations t.stmts body) k)

pub function_declared : (body : Placed t.stmts) (k : List ℕ) → is_among (names_of is_function (declarations t.stmts body)) k ≡ true → declares (declarations t.stmts body) k ≡ true
function_declared body k there = among_declared is_function (declarations t.stmts body) k there

-- what its statements declare are its variables
pub declared_variable : (body : Placed t.stmts) (list : c.Tree c.stmts) → resolved t.stmts body ≡ Some list → (k : List ℕ) → is_among (rewriting.declared c.stmts list) k ≡ true → is_among (vars_of body) k ≡ true
declared_variable body list is k there =
    variable_there body k (subst (λ l. is_among l k ≡ true) (sym (subst (λ o. IfSome o (λ y. names_of is_variable (declarations t.stmts body) ≡ rewriting.declared c.stmts y)) is (list_variables body))) there)

-- ---- a function over its body

module _ {imports : List (List ℕ)} {outer : Names} (P : Place imports outer) (a : Around) (name : Option Word) (ps : List Word) (body : Placed t.stmts) (at : ℕ) (h : FormedBody body) where
  abbrev params : List (List ℕ)
  params = texts_of ps

  abbrev vars : List (List ℕ)
  vars = vars_of body

  abbrev args : Bool
  args = names_arguments t.stmts body

  abbrev ds : List Declaration
  ds = body_declarations ps body

  abbrev pub inside : (fs : c.Tree c.funcs) → declared_functions body ≡ Some fs → Place imports outer
  inside fs is = in_the_function P ds params vars fs args (each_kind ps body h fs is)

  abbrev whole : About
  whole = about P.around a t.func (p.fun name ps body at)

  abbrev within_it : About
  within_it = about (scope.in_function ds P.around) in_function t.stmts body

  clear_inside : (fs : c.Tree c.funcs) (is : declared_functions body ≡ Some fs) → Clear P whole → Clear (inside fs is) within_it
  unfolding faults_in free misplaced
  clear_inside fs is clear = record {
    usable = λ k e.
        let here = each_kind ps body h fs is k (list_any-append (λ (x : Declaration). same_units k x.word.text) (map (declared_as d.parameter) ps) (declarations t.stmts body) ∙ right_there (declares (map (declared_as d.parameter) ps) k) _ e) in
        (within_own params vars fs args P.vars k here, within_own params vars fs args P.free k here);
    granted = clear.granted;
    copied = λ e w. within_copy params vars fs args P.vars e;
    clean = no_back (all_declared ps ++ redeclared [] ds) _ clear.clean;
    placed = clear.placed;
  }

  of_body : (fs : c.Tree c.funcs) (is : declared_functions body ≡ Some fs) (list : c.Tree c.stmts) → resolved t.stmts body ≡ Some list → HoldsBody (inside fs is) within_it (Some fs) (Some list)
      → Few (inner_temps c.func (c.fun (text_of name) params args (c.a_body fs vars list))) → Clear P whole → Fine P whole.imported c.func (c.fun (text_of name) params args (c.a_body fs vars list))
  unfolding inner_temps faults_in free misplaced
  of_body fs is list lists lines few clear =
      let front = no_front (all_declared ps ++ redeclared [] ds) (faults_in (scope.in_function ds P.around) t.stmts body) clear.clean in
      let once = no_back (all_declared ps) (redeclared [] ds) front in
      let words = list_words (scope.in_function ds P.around) body (no_back (all_declared ps ++ redeclared [] ds) (faults_in (scope.in_function ds P.around) t.stmts body) clear.clean) in
      let parts : Few (temps c.stmts list) × Few (inner_temps c.funcs fs + inner_temps c.stmts list) = (fewer _ (temps c.stmts list + (inner_temps c.funcs fs + inner_temps c.stmts list)) (omega arith) few, fewer _ (temps c.stmts list + (inner_temps c.funcs fs + inner_temps c.stmts list)) (omega arith) few) in
      let fine = body_there (inside fs is) lines parts.1 (clear_inside fs is clear) in
      let jumps : Targets function_jumps [] c.stmts list = subst (λ o. IfSome o (Targets function_jumps [] c.stmts)) lists (own_jumps body h clear.placed) in
      record {
        guest = (
          parameters_named ps (no_front (all_declared ps) (redeclared [] ds) front),
          (λ k e. words k (variable_declared body k e)),
          distinct_parameters ps body h fs is once,
          declared_variable body list lists,
          parts.0,
          jumps,
          new_functions params vars fs (names_of is_function (declarations t.stmts body)) (named_functions ps body h fs is) (distinct_functions ps body h fs is once) (λ k e. (words k (function_declared body k e), no_parameters_name ps body h fs is once k e, no_variables_name ps body h fs is once k e)),
          fine.functions,
          fine.statements,
        );
        fixed = fine.fixed;
      }

  pub function_over : ((fs : c.Tree c.funcs) (is : declared_functions body ≡ Some fs) → HoldsBody (inside fs is) within_it (declared_functions body) (resolved t.stmts body)) → Part P a t.func (p.fun name ps body at)
  unfolding resolved
  function_over f =
      let by_functions = elim (declared_functions body) as (λ o. declared_functions body ≡ o → Holds P whole c.func (both (λ fs list. c.fun (text_of name) params args (c.a_body fs vars list)) o (resolved t.stmts body))) [
        | None ↦ λ is. lacking
        | Some fs ↦ λ is.
            let by_list = elim (resolved t.stmts body) as (λ o. resolved t.stmts body ≡ o → Holds P whole c.func (both (λ fs list. c.fun (text_of name) params args (c.a_body fs vars list)) (Some fs) o)) [
              | None ↦ λ lists. lacking
              | Some list ↦ λ lists. held (c.fun (text_of name) params args (c.a_body fs vars list)) (of_body fs is list lists (subst (λ o. HoldsBody (inside fs is) within_it (Some fs) o) lists (subst (λ o. HoldsBody (inside fs is) within_it o (resolved t.stmts body)) is (f fs is))))
            ] in by_list refl
      ] in by_functions refl

-- ---- a function as a part, and as an expression: with a name of its own, and without one

module _ (imports : List (List ℕ)) (outer : Names) where
  pub func_form : (name : Option Word) (ps : List Word) (body : Placed t.stmts) (at : ℕ) → Lines imports outer body → Means imports outer t.func (p.fun name ps body at)
  func_form name ps body at f h P a = function_over P a name ps body at h (λ fs is. f.in_body h (inside P a name ps body at h fs is) in_function)

  anonymous : (P : Place imports outer) {A : About} (qs vs : List (List ℕ)) (named : Bool) (o : Option (c.Tree c.funcs)) (r : Option (c.Tree c.stmts))
      → Holds P A c.func (both (λ fs list. c.fun None qs named (c.a_body fs vs list)) o r) → Holds P A c.expr (one c.function (both (λ fs list. c.fun None qs named (c.a_body fs vs list)) o r))
  unfolding inner_temps
  anonymous P qs vs named None r f = lacking
  anonymous P qs vs named (Some fs) None f = lacking
  anonymous P qs vs named (Some fs) (Some list) f = held (c.function (c.fun None qs named (c.a_body fs vs list))) (λ few clear. let g = there P f few clear in record { guest = g.guest; fixed = g.fixed })

  own_named : (P : Place imports outer) (x : Word) {A : About} → A.declared ≡ [] → A.named ≡ false → (qs vs : List (List ℕ)) (named : Bool) (o : Option (c.Tree c.funcs)) (r : Option (c.Tree c.stmts))
      → Holds (in_the_named P x.text) A c.func (both (λ fs list. c.fun (Some x.text) qs named (c.a_body fs vs list)) o r) → Holds P (behind_faults (declared x) A) c.expr (one c.function (both (λ fs list. c.fun (Some x.text) qs named (c.a_body fs vs list)) o r))
  unfolding inner_temps
  own_named P x bare unnamed qs vs named None r f = lacking
  own_named P x bare unnamed qs vs named (Some fs) None f = lacking
  own_named P x {A = A} bare unnamed qs vs named (Some fs) (Some list) f = held (c.function (c.fun (Some x.text) qs named (c.a_body fs vs list))) (λ few clear.
      let inside : Clear (in_the_named P x.text) A = record {
        usable = λ k e. never (subst (λ l. declares l k ≡ true) bare e);
        granted = clear.granted;
        copied = λ e w. never (sym unnamed ∙ e);
        clean = no_back (declared x) A.faults clear.clean;
        placed = clear.placed;
      } in
      let g = there (in_the_named P x.text) f few inside in
      record { guest = (guest_declared x (no_front (declared x) A.faults clear.clean), g.guest); fixed = g.fixed })

  pub function_form : (f : Placed t.func) → Means imports outer t.func f → Means imports outer t.expr (p.function f)
  unfolding resolved faults_in free names_arguments misplaced
  function_form (p.fun None ps body at) g h P a = anonymous P (texts_of ps) (vars_of body) (names_arguments t.stmts body) (declared_functions body) (resolved t.stmts body) (g h P a)
  function_form (p.fun (Some x) ps body at) g h P a = own_named P x refl refl (texts_of ps) (vars_of body) (names_arguments t.stmts body) (declared_functions body) (resolved t.stmts body) (g h (in_the_named P x.text) a)
