-- What a body declares where it breaks no rule, and what its lowered body does.
use Rattle.std.proofs.Common.{◌≡◌, ℕ, zero, suc, ◌+◌, ◌<◌, Bool, true, false, List, [], ◌∷◌, ◌++◌, map, cond, Some, None, refl, sym, ap, ◌∙◌, subst, arith}
use Rattle.std.specs.Prelude.{◌||◌, codes}
use Rattle.std.proofs.lemmas.List.Folds.{list_any-append}
use Rattle.caja_units.specs.Units.{same_units}
use Rattle.es3_tree.specs.Tree as t
use Rattle.es3_tree.specs.Placed as p
use Rattle.es3_tree.specs.Placed.{Placed, Word}
use Rattle.es3_labels.specs.Around.{Around, in_loop, in_switch, in_label}
use Rattle.es3_labels.specs.Misplaced.{Misplaced, misplaced, again, is_loop}
use Rattle.es3_labels.specs.Around.{has_label}
use Rattle.es3_labels.specs.Around as labels
use Rattle.cajita_names.specs.Rules.{is_among}
use Rattle.cajita_names.specs.Declarations as role
use Rattle.cajita_names.specs.Declarations.{Role, Declaration, declared_as, declarations, body_declarations}
use Rattle.cajita_names.specs.Once.{names_of, is_variable, is_loop_variable}
use Rattle.cajita_names.specs.Scope.{Scope, in_function, in_catch, declares, declares_function}
use Rattle.cajita_rules.specs.Faults.{Fault, hidden}
use Rattle.valija_rules.specs.Faults as valija
use Rattle.valija_rules.specs.Words.{is_taken, is_numbered}
use Rattle.valija_forms.specs.Forms.{word, temporary, temporaries_from, receiver_name}
use Rattle.valija_parts.specs.Lower.{loop_names}
use Rattle.valija_accepted.proofs.Lists.{never, either, left_there, right_there, or_left, or_right, neither, refuted, same_self, as_good, among_front, among_back, among_one_of, once_same, no_front, no_back, something}
use Rattle.valija_accepted.proofs.Words.{Declarable, declarable, temporary_taken}
use Rattle.valija_accepted.proofs.Formed.{FormedBody}
use Rattle.valija_accepted.proofs.Scopes.{Enters}
use Rattle.valija_accepted.proofs.Parts.{Good, GoodPart, front, back, behind}
use Rattle.valija_accepted.proofs.Declared.{names_apart, variables_declare, no_function, function_names, lowered_body, taken_by, body_names, body_declares}

-- ---- a statement declares variables alone, each of which may be declared

pub record Varies (d : Declaration) : Type 0 where
  pub varies : (is_variable d.role || is_loop_variable d.role) ≡ true
  pub name : Declarable d.word.text

abbrev pub Each : List Declaration → Type 0
Each [] = Unit {0}
Each (d ∷ ds) = Varies d × Each ds

each_both : (ds es : List Declaration) → Each ds → Each es → Each (ds ++ es)
each_both [] es h k = k
each_both (d ∷ ds) es h k = (h.0, each_both ds es h.1 k)

pub labelled : {F : Type 0} (xs : List Fault) (ns : List Misplaced) {fs : List Fault} {ms : List Misplaced} → Good F (xs ++ fs) (ns ++ ms) → Good F fs ms
labelled xs ns {fs = fs} {ms = ms} h = record { formed = h.formed; rules = no_back xs fs h.rules; jumps = no_back ns ms h.jumps }

abbrev pub V : Scope → (k : t.Sort) → Placed k → List Fault
V s k x = valija.faults_in s k x

abbrev pub M : Around → (k : t.Sort) → Placed k → List Misplaced
M a k x = misplaced a k x

mutual
  unfolding valija.faults_in misplaced declarations

  pub stmt_each : (s : Scope) (a : Around) (x : Placed t.stmt) → GoodPart s a t.stmt x → Each (declarations t.stmt x)
  stmt_each s a (p.block ss) h = list_each s a ss h
  stmt_each s a (p.var is) h = items_each s a is h
  stmt_each s a (p.branch e x m) h = each_both (declarations t.stmt x) (declarations t.maybe_stmt m) (stmt_each s a x (back (V s t.expr e) (M a t.expr e) (front _ _ h))) (side_each s a m (back (V s t.expr e ++ V s t.stmt x) (M a t.expr e ++ M a t.stmt x) h))
  stmt_each s a (p.while_loop e x) h = stmt_each s (in_loop a) x (back (V s t.expr e) (M a t.expr e) h)
  stmt_each s a (p.do_loop x e) h = stmt_each s (in_loop a) x (front _ _ h)
  stmt_each s a (p.for_loop i e f x) h = each_both (declarations t.first i) (declarations t.stmt x) (head_each s a i (front _ _ (front _ _ (front _ _ h)))) (stmt_each s (in_loop a) x (back ((V s t.first i ++ V s t.maybe_expr e) ++ V s t.maybe_expr f) ((M a t.first i ++ M a t.maybe_expr e) ++ M a t.maybe_expr f) h))
  stmt_each s a (p.for_in i e x) h = each_both (declarations t.loop_target i) (declarations t.stmt x) (target_each s a i (front _ _ (front _ _ h))) (stmt_each s (in_loop a) x (back (V s t.loop_target i ++ V s t.expr e) (M a t.loop_target i ++ M a t.expr e) h))
  stmt_each s a (p.with_object e x at) h = something _ _ h.rules
  stmt_each s a (p.switch e cs) h = clauses_each s (in_switch a) cs (back (V s t.expr e) (M a t.expr e) h)
  stmt_each s a (p.label l x) h = stmt_each s (in_label l.text (is_loop x) a) x (labelled (hidden l) (again (has_label a l.text) l) h)
  stmt_each s a (p.try ss c m) h = each_both (declarations t.stmts ss ++ declarations t.handler c) (declarations t.maybe_block m) (each_both (declarations t.stmts ss) (declarations t.handler c) (list_each s a ss (front _ _ (front _ _ h))) (catch_each s a c (back (V s t.stmts ss) (M a t.stmts ss) (front _ _ h)))) (end_each s a m (back (V s t.stmts ss ++ V s t.handler c) (M a t.stmts ss ++ M a t.handler c) h))
  stmt_each s a (p.declare f) h = absurd h.formed
  stmt_each s a x h = tt

  list_each : (s : Scope) (a : Around) (ss : Placed t.stmts) → GoodPart s a t.stmts ss → Each (declarations t.stmts ss)
  list_each s a p.no_stmts h = tt
  list_each s a (p.more_stmts x ss) h = each_both (declarations t.stmt x) (declarations t.stmts ss) (stmt_each s a x (front _ _ h)) (list_each s a ss (back (V s t.stmt x) (M a t.stmt x) h))

  items_each : (s : Scope) (a : Around) (is : Placed t.items) → GoodPart s a t.items is → Each (declarations t.items is)
  items_each s a p.no_items h = tt
  items_each s a (p.more_items x m is) h = (record { varies = refl; name = declarable x (no_front (valija.declared x) (V s t.maybe_expr m) (no_front (valija.declared x ++ V s t.maybe_expr m) (V s t.items is) h.rules)) }, items_each s a is (back (valija.declared x ++ V s t.maybe_expr m) (misplaced a t.maybe_expr m) h))

  side_each : (s : Scope) (a : Around) (m : Placed t.maybe_stmt) → GoodPart s a t.maybe_stmt m → Each (declarations t.maybe_stmt m)
  side_each s a p.no_stmt h = tt
  side_each s a (p.some_stmt x) h = stmt_each s a x h

  end_each : (s : Scope) (a : Around) (m : Placed t.maybe_block) → GoodPart s a t.maybe_block m → Each (declarations t.maybe_block m)
  end_each s a p.no_block h = tt
  end_each s a (p.some_block ss) h = list_each s a ss h

  head_each : (s : Scope) (a : Around) (i : Placed t.first) → GoodPart s a t.first i → Each (declarations t.first i)
  head_each s a p.no_first h = tt
  head_each s a (p.first_var is) h = items_each s a is h
  head_each s a (p.first_expr e) h = tt

  target_each : (s : Scope) (a : Around) (i : Placed t.loop_target) → GoodPart s a t.loop_target i → Each (declarations t.loop_target i)
  target_each s a (p.loop_var x) h = (record { varies = refl; name = declarable x h.rules }, tt)
  target_each s a (p.loop_expr e) h = tt

  clauses_each : (s : Scope) (a : Around) (cs : Placed t.cases) → GoodPart s a t.cases cs → Each (declarations t.cases cs)
  clauses_each s a p.no_cases h = tt
  clauses_each s a (p.more_cases m ss cs) h = each_both (declarations t.stmts ss) (declarations t.cases cs) (list_each s a ss (back (V s t.maybe_expr m) (M a t.maybe_expr m) (front _ _ h))) (clauses_each s a cs (back (V s t.maybe_expr m ++ V s t.stmts ss) (M a t.maybe_expr m ++ M a t.stmts ss) h))

  catch_each : (s : Scope) (a : Around) (c : Placed t.handler) → GoodPart s a t.handler c → Each (declarations t.handler c)
  catch_each s a p.no_handler h = tt
  catch_each s a (p.some_handler x ss) h = list_each (in_catch x.text s) a ss (behind (valija.declared x ++ valija.masking s x) h)

-- ---- the names that a body declares: variables, variables of heads with `in`, and functions

by_each : {A : Type 0} (ds : List Declaration) → Each ds → (k : List ℕ) → declares ds k ≡ true → (is_among (names_of is_variable ds) k ≡ true → A) → (is_among (names_of is_loop_variable ds) k ≡ true → A) → A
by_each [] h k there f g = never there
by_each {A = A} (d ∷ ds) h k there f g =
    either (same_units k d.word.text) (declares ds k) there here
    (λ more. by_each ds h.1 k more (λ e. f (further is_variable e)) (λ e. g (further is_loop_variable e)))
  where
    further : (has : Role → Bool) → is_among (names_of has ds) k ≡ true → is_among (names_of has (d ∷ ds)) k ≡ true
    further has e = by (has d.role)
      where
        by : (b : Bool) → is_among (cond b (d.word.text ∷ names_of has ds) (names_of has ds)) k ≡ true
        by true = right_there (same_units k d.word.text) (is_among (names_of has ds) k) e
        by false = e

    this : (has : Role → Bool) → has d.role ≡ true → same_units k d.word.text ≡ true → is_among (names_of has (d ∷ ds)) k ≡ true
    this has is same = subst (λ b. is_among (cond b (d.word.text ∷ names_of has ds) (names_of has ds)) k ≡ true) (sym is) (left_there (same_units k d.word.text) (is_among (names_of has ds) k) same)

    here : same_units k d.word.text ≡ true → A
    here same = either (is_variable d.role) (is_loop_variable d.role) h.0.varies (λ is. f (this is_variable is same)) (λ is. g (this is_loop_variable is same))

-- each of the names of one role is the name of such a declaration
each_named : (has : Role → Bool) (ds : List Declaration) → Each ds → (k : List ℕ) → is_among (names_of has ds) k ≡ true → Declarable k
each_named has [] h k there = never there
each_named has (d ∷ ds) h k there = by (has d.role) there (each_named has ds h.1 k)
  where
    by : (b : Bool) → is_among (cond b (d.word.text ∷ names_of has ds) (names_of has ds)) k ≡ true → (is_among (names_of has ds) k ≡ true → Declarable k) → Declarable k
    by true e more = either (same_units k d.word.text) (is_among (names_of has ds) k) e (λ same. as_good Declarable k d.word.text same h.0.name) more
    by false e more = more e

pub among_declared : (has : Role → Bool) (ds : List Declaration) (k : List ℕ) → is_among (names_of has ds) k ≡ true → declares ds k ≡ true
among_declared has [] k there = never there
among_declared has (d ∷ ds) k there = by (has d.role) there (among_declared has ds k)
  where
    by : (b : Bool) → is_among (cond b (d.word.text ∷ names_of has ds) (names_of has ds)) k ≡ true → (is_among (names_of has ds) k ≡ true → declares ds k ≡ true) → declares (d ∷ ds) k ≡ true
    by true e more = either (same_units k d.word.text) (is_among (names_of has ds) k) e (λ same. left_there (same_units k d.word.text) (declares ds k) same) (λ m. right_there (same_units k d.word.text) (declares ds k) (more m))
    by false e more = right_there (same_units k d.word.text) (declares ds k) (more e)

-- where a name of a body is declared
data Found (vs ls fs : List (List ℕ)) (k : List ℕ) : Type 0 where
  in_variables : is_among vs k ≡ true → Found vs ls fs k
  in_loops : is_among ls k ≡ true → Found vs ls fs k
  in_functions : is_among fs k ≡ true → Found vs ls fs k

-- what is said of a body
record Told (ss : Placed t.stmts) : Type 0 where
  names : (k : List ℕ) → declares (declarations t.stmts ss) k ≡ true → Found (names_of is_variable (declarations t.stmts ss)) (names_of is_loop_variable (declarations t.stmts ss)) (function_names ss) k
  loops : (k : List ℕ) → is_among (names_of is_loop_variable (declarations t.stmts ss)) k ≡ true → Declarable k

among_apart : (has : Role → Bool) (ds es : List Declaration) (k : List ℕ) → is_among (names_of has (ds ++ es)) k ≡ is_among (names_of has ds ++ names_of has es) k
among_apart has ds es k = ap (λ l. is_among l k) (names_apart has ds es)

-- a statement that declares no function, and those behind it
module _ (ds es : List Declaration) (h : Each ds) (fs : List (List ℕ)) where
  abbrev Behind : List ℕ → Type 0
  Behind k = Found (names_of is_variable es) (names_of is_loop_variable es) fs k

  abbrev Whole : List ℕ → Type 0
  Whole k = Found (names_of is_variable (ds ++ es)) (names_of is_loop_variable (ds ++ es)) fs k

  from_front : (k : List ℕ) → declares ds k ≡ true → Whole k
  from_front k e = by_each ds h k e
      (λ v. in_variables (among_apart is_variable ds es k ∙ among_front (names_of is_variable ds) (names_of is_variable es) k v))
      (λ l. in_loops (among_apart is_loop_variable ds es k ∙ among_front (names_of is_loop_variable ds) (names_of is_loop_variable es) k l))

  from_behind : (k : List ℕ) → Behind k → Whole k
  from_behind k (in_variables v) = in_variables (among_apart is_variable ds es k ∙ among_back (names_of is_variable ds) (names_of is_variable es) k v)
  from_behind k (in_loops l) = in_loops (among_apart is_loop_variable ds es k ∙ among_back (names_of is_loop_variable ds) (names_of is_loop_variable es) k l)
  from_behind k (in_functions f) = in_functions f

  more_names : (k : List ℕ) → declares (ds ++ es) k ≡ true → (declares es k ≡ true → Behind k) → Whole k
  more_names k there rest =
      either (declares ds k) (declares es k) (sym (list_any-append (λ (e : Declaration). same_units k e.word.text) ds es) ∙ there) (from_front k) (λ e. from_behind k (rest e))

  more_loops : ((k : List ℕ) → is_among (names_of is_loop_variable es) k ≡ true → Declarable k) → (k : List ℕ) → is_among (names_of is_loop_variable (ds ++ es)) k ≡ true → Declarable k
  more_loops rest k there =
      among_one_of (names_of is_loop_variable ds) (names_of is_loop_variable es) k (sym (among_apart is_loop_variable ds es k) ∙ there) (each_named is_loop_variable ds h k) (rest k)

abbrev pub GoodBody : Scope → Around → Placed t.stmts → Type 0
GoodBody s a ss = Good (FormedBody ss) (V s t.stmts ss) (misplaced a t.stmts ss)

told_more : (x : Placed t.stmt) (ss : Placed t.stmts) → Each (declarations t.stmt x) → function_names (p.more_stmts x ss) ≡ function_names ss → Told ss → Told (p.more_stmts x ss)
unfolding declarations
told_more x ss h same k = record {
  names = λ n there. subst (λ fs. Found (names_of is_variable (declarations t.stmt x ++ declarations t.stmts ss)) (names_of is_loop_variable (declarations t.stmt x ++ declarations t.stmts ss)) fs n) (sym same)
      (more_names (declarations t.stmt x) (declarations t.stmts ss) h (function_names ss) n there (k.names n));
  loops = more_loops (declarations t.stmt x) (declarations t.stmts ss) h (function_names ss) k.loops;
}

told_function : (f : Word) (ps : List Word) (body ss : Placed t.stmts) (at : ℕ) → Told ss → Told (p.more_stmts (p.declare (p.fun (Some f) ps body at)) ss)
unfolding declarations
told_function f ps body ss at k = record {
  names = λ n there. either (same_units n f.text) (declares (declarations t.stmts ss) n) there (λ same. in_functions (left_there (same_units n f.text) (is_among (function_names ss) n) same)) (λ e. further n (k.names n e));
  loops = k.loops;
}
  where
    further : (n : List ℕ) → Found (names_of is_variable (declarations t.stmts ss)) (names_of is_loop_variable (declarations t.stmts ss)) (function_names ss) n
        → Found (names_of is_variable (declarations t.stmts ss)) (names_of is_loop_variable (declarations t.stmts ss)) (f.text ∷ function_names ss) n
    further n (in_variables v) = in_variables v
    further n (in_loops l) = in_loops l
    further n (in_functions o) = in_functions (right_there (same_units n f.text) (is_among (function_names ss) n) o)

told : (s : Scope) (a : Around) (ss : Placed t.stmts) → GoodBody s a ss → Told ss
unfolding valija.faults_in misplaced declarations
told s a p.no_stmts h = record { names = λ k there. never there; loops = λ k there. never there }
told s a (p.more_stmts (p.declare (p.fun (Some f) ps body at)) ss) h = told_function f ps body ss at (told s a ss (back (valija.declared f ++ ((valija.all_declared ps ++ valija.redeclared [] (body_declarations ps body)) ++ V (in_function (body_declarations ps body) s) t.stmts body)) (M labels.in_function t.stmts body) h))
told s a (p.more_stmts (p.declare (p.fun None ps body at)) ss) h = absurd h.formed
told s a (p.more_stmts x ss) h = told_more x ss (stmt_each s a x (front _ _ h)) refl (told s a ss (back (V s t.stmt x) (M a t.stmt x) h))

pub loops_declarable : (s : Scope) (a : Around) (body : Placed t.stmts) → GoodBody s a body → (k : List ℕ) → is_among (loop_names body) k ≡ true → Declarable k
loops_declarable s a body h k there = let r = told s a body h in r.loops k (sym (once_same [] (names_of is_loop_variable (declarations t.stmts body)) k) ∙ there)

-- the functions of a body are declared there
functions_declared : (ss : Placed t.stmts) (k : List ℕ) → is_among (function_names ss) k ≡ true → declares (declarations t.stmts ss) k ≡ true
unfolding declarations
functions_declared p.no_stmts k there = never there
functions_declared (p.more_stmts (p.declare (p.fun (Some f) ps body at)) ss) k there =
    either (same_units k f.text) (is_among (function_names ss) k) there (λ same. left_there (same_units k f.text) (declares (declarations t.stmts ss) k) same) (λ e. right_there (same_units k f.text) (declares (declarations t.stmts ss) k) (functions_declared ss k e))
functions_declared (p.more_stmts x ss) k there =
    list_any-append (λ (e : Declaration). same_units k e.word.text) (declarations t.stmt x) (declarations t.stmts ss) ∙ right_there (declares (declarations t.stmt x) k) (declares (declarations t.stmts ss) k) (functions_declared ss k there)

-- ---- temporaries

temporaries_taken : (i n : ℕ) (k : List ℕ) → is_among (temporaries_from i n) k ≡ true → is_taken k ≡ true
temporaries_taken i zero k there = never there
temporaries_taken i (suc n) k there = either (same_units k (temporary i)) (is_among (temporaries_from (suc i) n) k) there (λ same. as_good (λ x. is_taken x ≡ true) k (temporary i) same (temporary_taken i)) (temporaries_taken (suc i) n k)

pub temporaries_there : (i n k : ℕ) → k < n → is_among (temporaries_from i n) (temporary (i + k)) ≡ true
temporaries_there i zero k few = absurd (omega arith)
temporaries_there i (suc n) zero few =
    let none : i ≡ i + 0 = omega arith in
    subst (λ j. is_among (temporaries_from i (suc n)) (temporary j) ≡ true) none (left_there (same_units (temporary i) (temporary i)) (is_among (temporaries_from (suc i) n) (temporary i)) (same_self (temporary i)))
temporaries_there i (suc n) (suc k) few =
    let one : suc i + k ≡ i + suc k = omega arith in
    subst (λ j. is_among (temporaries_from i (suc n)) (temporary j) ≡ true) one (right_there (same_units (temporary (suc i + k)) (temporary i)) (is_among (temporaries_from (suc i) n) (temporary (suc i + k))) (temporaries_there (suc i) n k (omega arith)))

-- ---- a lowered body declares the names of the body, its temporaries, and nothing else

module _ (s : Scope) (a : Around) (body : Placed t.stmts) (h : GoodBody s a body) where
  abbrev own_names : List Declaration
  own_names = declarations t.stmts body

  abbrev temps : List (List ℕ)
  temps = temporaries_from 0 (taken_by s body)

  abbrev rest : List (List ℕ)
  rest = function_names body ++ names_of is_variable own_names

  same : (k : List ℕ) → declares (declarations t.stmts (lowered_body s body)) k ≡ is_among (body_names s body) k
  same k = ap (λ es. declares es k) (body_declares s body) ∙ variables_declare (body_names s body) k

  in_rest : (k : List ℕ) → is_among rest k ≡ true → is_among (body_names s body) k ≡ true
  in_rest k e = among_back (temps ++ loop_names body) rest k e

  in_front : (k : List ℕ) → is_among (temps ++ loop_names body) k ≡ true → is_among (body_names s body) k ≡ true
  in_front k e = among_front (temps ++ loop_names body) rest k e

  found_there : (k : List ℕ) → Found (names_of is_variable own_names) (names_of is_loop_variable own_names) (function_names body) k → is_among (body_names s body) k ≡ true
  found_there k (in_variables v) = in_rest k (among_back (function_names body) (names_of is_variable own_names) k v)
  found_there k (in_loops l) = in_front k (among_back temps (loop_names body) k (once_same [] (names_of is_loop_variable own_names) k ∙ l))
  found_there k (in_functions f) = in_rest k (among_front (function_names body) (names_of is_variable own_names) k f)

  is_there : (k : List ℕ) → declares own_names k ≡ true → is_among (body_names s body) k ≡ true
  is_there k e = let r = told s a body h in found_there k (r.names k e)

  none_else : (k : List ℕ) → is_taken k ≡ false → declares own_names k ≡ false → is_among (body_names s body) k ≡ true → false ≡ true
  none_else k own none there =
      among_one_of (temps ++ loop_names body) rest k there
      (λ front. among_one_of temps (loop_names body) k front
      (λ e. sym own ∙ temporaries_taken 0 (taken_by s body) k e)
      (λ e. sym none ∙ among_declared is_loop_variable own_names k (sym (once_same [] (names_of is_loop_variable own_names) k) ∙ e)))
      (λ back. among_one_of (function_names body) (names_of is_variable own_names) k back
      (λ e. sym none ∙ functions_declared body k e)
      (λ e. sym none ∙ among_declared is_variable own_names k e))

  pub body_enters : Enters (declarations t.stmts body) (declarations t.stmts (lowered_body s body)) (taken_by s body)
  body_enters = record {
    more = λ k e. same k ∙ is_there k e;
    variable = λ k. ap (λ es. declares_function es k) (body_declares s body) ∙ no_function (body_names s body) k;
    few = λ k own none. refuted (declares (declarations t.stmts (lowered_body s body)) k) (λ e. none_else k own none (sym (same k) ∙ e));
    temporaries = λ i e. same (temporary i) ∙ in_front (temporary i) (among_front temps (loop_names body) (temporary i) (let z : 0 + i ≡ i = omega arith in subst (λ j. is_among temps (temporary j) ≡ true) z (temporaries_there 0 (taken_by s body) i e)));
  }

-- ---- with the parameters before: the lowered function takes the receiver first

abbrev pub parameters : List Word → List Word
parameters ps = word receiver_name ∷ map (λ x. word x.text) ps

same_parameters : (ps : List Word) (ds : List Declaration) (k : List ℕ) → declares (map (declared_as role.parameter) (map (λ x. word x.text) ps) ++ ds) k ≡ declares (map (declared_as role.parameter) ps ++ ds) k
same_parameters [] ds k = refl
same_parameters (x ∷ ps) ds k = ap (λ b. same_units k x.text || b) (same_parameters ps ds k)

no_parameter : (ps : List Word) (ds : List Declaration) (k : List ℕ) → declares_function (map (declared_as role.parameter) ps ++ ds) k ≡ declares_function ds k
no_parameter [] ds k = refl
no_parameter (x ∷ ps) ds k = no_parameter ps ds k

pub function_enters : {ds es : List Declaration} {total : ℕ} (ps : List Word) → Enters ds es total → Enters (map (declared_as role.parameter) ps ++ ds) (map (declared_as role.parameter) (parameters ps) ++ es) total
function_enters {ds} {es} {total} ps h = record {
  more = λ k e. right_there (same_units k receiver_name) (all es k) (same_parameters ps es k ∙ by k e h.more);
  variable = λ k. no_parameter (parameters ps) es k ∙ h.variable k;
  few = λ k own none. neither (same_units k receiver_name) (all es k) (or_right (is_numbered k) (same_units k (codes "$dis")) own)
      (same_parameters ps es k ∙ list_any-append (λ (e : Declaration). same_units k e.word.text) front es
      ∙ neither (declares front k) (declares es k) (or_left (declares front k) (declares ds k) (apart k none)) (h.few k own (or_right (declares front k) (declares ds k) (apart k none))));
  temporaries = λ i e. right_there (same_units (temporary i) receiver_name) (all es (temporary i)) (same_parameters ps es (temporary i) ∙ list_any-append (λ (e : Declaration). same_units (temporary i) e.word.text) front es ∙ right_there (declares front (temporary i)) (declares es (temporary i)) (h.temporaries i e));
}
  where
    front : List Declaration
    front = map (declared_as role.parameter) ps

    all : List Declaration → List ℕ → Bool
    all l k = declares (map (declared_as role.parameter) (map (λ x. word x.text) ps) ++ l) k

    apart : (k : List ℕ) → declares (front ++ ds) k ≡ false → (declares front k || declares ds k) ≡ false
    apart k none = sym (list_any-append (λ (e : Declaration). same_units k e.word.text) front ds) ∙ none

    by : (k : List ℕ) → declares (front ++ ds) k ≡ true → ((k : List ℕ) → declares ds k ≡ true → declares es k ≡ true) → declares (front ++ es) k ≡ true
    by k e f = list_any-append (λ (e : Declaration). same_units k e.word.text) front es ∙ either (declares front k) (declares ds k) (sym (list_any-append (λ (e : Declaration). same_units k e.word.text) front ds) ∙ e) (λ l. left_there (declares front k) (declares es k) l) (λ r. right_there (declares front k) (declares es k) (f k r))
