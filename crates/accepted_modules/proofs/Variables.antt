-- What statements declare by `var` is what the resolved statements declare, and what they declare as functions are the resolved functions.
use Rattle.std.proofs.Common.{◌≡◌, ℕ, Bool, false, List, [], ◌∷◌, ◌++◌, Option, Some, None, refl, sym, ap, ◌∙◌, subst}
use Rattle.std.specs.Prelude.{◌||◌, IfSome}
use Rattle.std.proofs.Common.{append_assoc}
use Rattle.caja_units.specs.Units.{same_units}
use Rattle.es3_tree.specs.Tree as t
use Rattle.es3_tree.specs.Placed as p
use Rattle.es3_tree.specs.Placed.{Placed}
use Rattle.cajita_tree.specs.Tree as c
use Rattle.cajita_names.specs.Declarations as d
use Rattle.cajita_names.specs.Declarations.{Role, declarations}
use Rattle.cajita_names.specs.Scope.{is_function, is_parameter}
use Rattle.cajita_names.specs.Once.{names_of, is_variable, vars_of}
use Rattle.cajita_forms.specs.Options.{one, both, three, four}
use Rattle.cajita_forms.specs.Forms.{texts_of}
use Rattle.cajita_forms.specs.Arguments.{names_arguments}
use Rattle.cajita_rewrite.specs.Rewrite as rewriting
use Rattle.scope_rules.specs.Resolve.{of_sort, resolved, declared_functions}
use Rattle.scope_rules.proofs.Options.{one_any}
use Rattle.cajita_simulation.specs.Guest.{is_among, is_declared}
use Rattle.accepted_modules.proofs.Formed.{Formed, FormedBody}
use Rattle.accepted_modules.proofs.Names.{names_apart}

-- ---- forms of one part, two, three and four, of which some have names

one_names : {A B : Type 0} (Q : A → Type 0) (R : B → Type 0) (f : A → B) → ((x : A) → Q x → R (f x)) → (o : Option A) → IfSome o Q → IfSome (one f o) R
one_names Q R f g None a = tt
one_names Q R f g (Some x) a = g x a

both_names : {A B D : Type 0} (Q : A → Type 0) (T : B → Type 0) (R : D → Type 0) (f : A → B → D) → ((x : A) (y : B) → Q x → T y → R (f x y)) → (o : Option A) (r : Option B) → IfSome o Q → IfSome r T → IfSome (both f o r) R
both_names Q T R f g None r a b = tt
both_names Q T R f g (Some x) None a b = tt
both_names Q T R f g (Some x) (Some y) a b = g x y a b

three_names : {A B D E : Type 0} (Q : A → Type 0) (T : B → Type 0) (V : D → Type 0) (R : E → Type 0) (f : A → B → D → E) → ((x : A) (y : B) (z : D) → Q x → T y → V z → R (f x y z)) → (o : Option A) (r : Option B) (s : Option D) → IfSome o Q → IfSome r T → IfSome s V → IfSome (three f o r s) R
three_names Q T V R f g None r s a b d = tt
three_names Q T V R f g (Some x) None s a b d = tt
three_names Q T V R f g (Some x) (Some y) None a b d = tt
three_names Q T V R f g (Some x) (Some y) (Some z) a b d = g x y z a b d

four_names : {A B D E F : Type 0} (Q : A → Type 0) (W : E → Type 0) (R : F → Type 0) (f : A → B → D → E → F) → ((x : A) (y : B) (z : D) (u : E) → Q x → W u → R (f x y z u)) → (o : Option A) (r : Option B) (s : Option D) (q : Option E) → IfSome o Q → IfSome q W → IfSome (four f o r s q) R
four_names Q W R f g None r s q a b = tt
four_names Q W R f g (Some x) None s q a b = tt
four_names Q W R f g (Some x) (Some y) None q a b = tt
four_names Q W R f g (Some x) (Some y) (Some z) None a b = tt
four_names Q W R f g (Some x) (Some y) (Some z) (Some u) a b = g x y z u a b

any : {A : Type 0} (o : Option A) → IfSome o (λ x. Unit {0})
any None = tt
any (Some x) = tt

-- ---- variables

abbrev Variables : (s : t.Sort) → Placed s → c.Tree (of_sort s) → Type 0
Variables s x y = names_of is_variable (declarations s x) ≡ rewriting.declared (of_sort s) y

abbrev No : {A : Type 0} → A → Type 0
No x = Unit {0}

two : (ds es : List d.Declaration) (xs ys : List (List ℕ)) → names_of is_variable ds ≡ xs → names_of is_variable es ≡ ys → names_of is_variable (ds ++ es) ≡ xs ++ ys
two ds es xs ys a b = names_apart is_variable ds es ∙ ap (λ l. l ++ names_of is_variable es) a ∙ ap (λ l. xs ++ l) b

mutual
  unfolding resolved declarations

  variables : (x : Placed t.stmt) → IfSome (resolved t.stmt x) (Variables t.stmt x)
  variables (p.block ss) = one_names (Variables t.stmts ss) (Variables t.stmt (p.block ss)) c.block (λ y a. a) (resolved t.stmts ss) (list_variables ss)
  variables (p.var is) = one_names (Variables t.items is) (Variables t.stmt (p.var is)) c.var (λ y a. a) (resolved t.items is) (item_variables is)
  variables p.empty = refl
  variables (p.expression e) = one_any c.expression (Variables t.stmt (p.expression e)) (λ y. refl) (resolved t.expr e)
  variables (p.branch e x m) = three_names No (Variables t.stmt x) (Variables t.maybe_stmt m) (Variables t.stmt (p.branch e x m)) c.branch (λ u v w q a b. two (declarations t.stmt x) (declarations t.maybe_stmt m) _ _ a b) (resolved t.expr e) (resolved t.stmt x) (resolved t.maybe_stmt m) (any (resolved t.expr e)) (variables x) (side_variables m)
  variables (p.while_loop e x) = both_names No (Variables t.stmt x) (Variables t.stmt (p.while_loop e x)) c.while_loop (λ u v q a. a) (resolved t.expr e) (resolved t.stmt x) (any (resolved t.expr e)) (variables x)
  variables (p.do_loop x e) = both_names (Variables t.stmt x) No (Variables t.stmt (p.do_loop x e)) c.do_loop (λ u v a q. a) (resolved t.stmt x) (resolved t.expr e) (variables x) (any (resolved t.expr e))
  variables (p.for_loop i e f x) = four_names (Variables t.first i) (Variables t.stmt x) (Variables t.stmt (p.for_loop i e f x)) c.for_loop (λ u v w z a b. two (declarations t.first i) (declarations t.stmt x) _ _ a b) (resolved t.first i) (resolved t.maybe_expr e) (resolved t.maybe_expr f) (resolved t.stmt x) (head_variables i) (variables x)
  variables (p.for_in i e x) = three_names No No (Variables t.stmt x) (Variables t.stmt (p.for_in i e x)) c.for_in (λ u v w q r a. two (declarations t.loop_target i) (declarations t.stmt x) [] _ (no_variable i) a) (resolved t.loop_target i) (resolved t.expr e) (resolved t.stmt x) (any (resolved t.loop_target i)) (any (resolved t.expr e)) (variables x)
  variables (p.continue n a) = refl
  variables (p.break n a) = refl
  variables (p.return m a) = one_any c.return (Variables t.stmt (p.return m a)) (λ y. refl) (resolved t.maybe_expr m)
  variables (p.with_object e x a) = tt
  variables (p.switch e cs) = both_names No (Variables t.cases cs) (Variables t.stmt (p.switch e cs)) c.switch (λ u v q a. a) (resolved t.expr e) (resolved t.cases cs) (any (resolved t.expr e)) (clause_variables cs)
  variables (p.label n x) = one_names (Variables t.stmt x) (Variables t.stmt (p.label n x)) (c.label n.text) (λ y a. a) (resolved t.stmt x) (variables x)
  variables (p.throw e) = one_any c.throw (Variables t.stmt (p.throw e)) (λ y. refl) (resolved t.expr e)
  variables (p.try ss h m) = three_names (Variables t.stmts ss) (Variables t.handler h) (Variables t.maybe_block m) (Variables t.stmt (p.try ss h m)) c.try (λ u v w a b e. two (declarations t.stmts ss ++ declarations t.handler h) (declarations t.maybe_block m) _ _ (two (declarations t.stmts ss) (declarations t.handler h) _ _ a b) e ∙ append_assoc (rewriting.declared c.stmts u) (rewriting.declared c.handler v) (rewriting.declared c.maybe_block w)) (resolved t.stmts ss) (resolved t.handler h) (resolved t.maybe_block m) (list_variables ss) (catch_variables h) (end_variables m)
  variables (p.declare (p.fun None ps body at)) = refl
  variables (p.declare (p.fun (Some n) ps body at)) = refl

  pub list_variables : (ss : Placed t.stmts) → IfSome (resolved t.stmts ss) (Variables t.stmts ss)
  list_variables p.no_stmts = refl
  list_variables (p.more_stmts (p.declare (p.fun None ps body at)) ss) = list_variables ss
  list_variables (p.more_stmts (p.declare (p.fun (Some n) ps body at)) ss) = list_variables ss
  list_variables (p.more_stmts x ss) = both_names (Variables t.stmt x) (Variables t.stmts ss) (Variables t.stmts (p.more_stmts x ss)) c.more_stmts (λ u v a b. two (declarations t.stmt x) (declarations t.stmts ss) _ _ a b) (resolved t.stmt x) (resolved t.stmts ss) (variables x) (list_variables ss)

  item_variables : (is : Placed t.items) → IfSome (resolved t.items is) (Variables t.items is)
  item_variables p.no_items = refl
  item_variables (p.more_items x m is) = both_names No (Variables t.items is) (Variables t.items (p.more_items x m is)) (c.more_items x.text) (λ u v q a. ap (λ l. x.text ∷ l) a) (resolved t.maybe_expr m) (resolved t.items is) (any (resolved t.maybe_expr m)) (item_variables is)

  side_variables : (m : Placed t.maybe_stmt) → IfSome (resolved t.maybe_stmt m) (Variables t.maybe_stmt m)
  side_variables p.no_stmt = refl
  side_variables (p.some_stmt x) = one_names (Variables t.stmt x) (Variables t.maybe_stmt (p.some_stmt x)) c.some_stmt (λ y a. a) (resolved t.stmt x) (variables x)

  end_variables : (m : Placed t.maybe_block) → IfSome (resolved t.maybe_block m) (Variables t.maybe_block m)
  end_variables p.no_block = refl
  end_variables (p.some_block ss) = one_names (Variables t.stmts ss) (Variables t.maybe_block (p.some_block ss)) c.some_block (λ y a. a) (resolved t.stmts ss) (list_variables ss)

  head_variables : (i : Placed t.first) → IfSome (resolved t.first i) (Variables t.first i)
  head_variables p.no_first = refl
  head_variables (p.first_var is) = one_names (Variables t.items is) (Variables t.first (p.first_var is)) c.first_var (λ y a. a) (resolved t.items is) (item_variables is)
  head_variables (p.first_expr e) = one_any c.first_expr (Variables t.first (p.first_expr e)) (λ y. refl) (resolved t.expr e)

  no_variable : (i : Placed t.loop_target) → names_of is_variable (declarations t.loop_target i) ≡ []
  no_variable (p.loop_var x) = refl
  no_variable (p.loop_expr e) = refl

  clause_variables : (cs : Placed t.cases) → IfSome (resolved t.cases cs) (Variables t.cases cs)
  clause_variables p.no_cases = refl
  clause_variables (p.more_cases m ss cs) = three_names No (Variables t.stmts ss) (Variables t.cases cs) (Variables t.cases (p.more_cases m ss cs)) c.more_cases (λ u v w q a b. two (declarations t.stmts ss) (declarations t.cases cs) _ _ a b) (resolved t.maybe_expr m) (resolved t.stmts ss) (resolved t.cases cs) (any (resolved t.maybe_expr m)) (list_variables ss) (clause_variables cs)

  catch_variables : (h : Placed t.handler) → IfSome (resolved t.handler h) (Variables t.handler h)
  catch_variables p.no_handler = refl
  catch_variables (p.some_handler x ss) = one_names (Variables t.stmts ss) (Variables t.handler (p.some_handler x ss)) (c.some_handler x.text) (λ y a. a) (resolved t.stmts ss) (list_variables ss)

-- ---- functions

module _ (has : Role → Bool) (no_var : has d.variable ≡ false) (no_loop : has d.loop_variable ≡ false) where
  neither : (ds es : List d.Declaration) → names_of has ds ≡ [] → names_of has es ≡ [] → names_of has (ds ++ es) ≡ []
  neither ds es a b = names_apart has ds es ∙ ap (λ l. l ++ names_of has es) a ∙ b

  -- no statement of a body that declares no function declares anything but variables
  mutual
    unfolding declarations

    pub none_else : (x : Placed t.stmt) → Formed t.stmt x → names_of has (declarations t.stmt x) ≡ []
    none_else (p.block ss) h = none_of_list ss h
    none_else (p.var is) h = none_of_items is
    none_else (p.branch e x m) h = neither (declarations t.stmt x) _ (none_else x h.1) (none_aside m h.2)
    none_else (p.while_loop e x) h = none_else x h.1
    none_else (p.do_loop x e) h = none_else x h.0
    none_else (p.for_loop i e f x) h = neither (declarations t.first i) _ (none_ahead i) (none_else x h.3)
    none_else (p.for_in i e x) h = neither (declarations t.loop_target i) _ (none_targeted i) (none_else x h.2)
    none_else (p.with_object e x a) h = none_else x h.1
    none_else (p.switch e cs) h = none_of_clauses cs h.1
    none_else (p.label n x) h = none_else x h
    none_else (p.try ss d m) h = neither (declarations t.stmts ss ++ declarations t.handler d) _ (neither (declarations t.stmts ss) _ (none_of_list ss h.0) (none_caught d h.1)) (none_at_last m h.2)
    none_else (p.declare f) h = absurd h
    none_else x h = refl

    none_of_list : (ss : Placed t.stmts) → Formed t.stmts ss → names_of has (declarations t.stmts ss) ≡ []
    none_of_list p.no_stmts h = refl
    none_of_list (p.more_stmts x ss) h = neither (declarations t.stmt x) _ (none_else x h.0) (none_of_list ss h.1)

    none_of_items : (is : Placed t.items) → names_of has (declarations t.items is) ≡ []
    none_of_items p.no_items = refl
    none_of_items (p.more_items x m is) = rw no_var (none_of_items is)

    none_aside : (m : Placed t.maybe_stmt) → Formed t.maybe_stmt m → names_of has (declarations t.maybe_stmt m) ≡ []
    none_aside p.no_stmt h = refl
    none_aside (p.some_stmt x) h = none_else x h

    none_at_last : (m : Placed t.maybe_block) → Formed t.maybe_block m → names_of has (declarations t.maybe_block m) ≡ []
    none_at_last p.no_block h = refl
    none_at_last (p.some_block ss) h = none_of_list ss h

    none_ahead : (i : Placed t.first) → names_of has (declarations t.first i) ≡ []
    none_ahead p.no_first = refl
    none_ahead (p.first_var is) = none_of_items is
    none_ahead (p.first_expr e) = refl

    none_targeted : (i : Placed t.loop_target) → names_of has (declarations t.loop_target i) ≡ []
    none_targeted (p.loop_var x) = rw no_loop refl
    none_targeted (p.loop_expr e) = refl

    none_of_clauses : (cs : Placed t.cases) → Formed t.cases cs → names_of has (declarations t.cases cs) ≡ []
    none_of_clauses p.no_cases h = refl
    none_of_clauses (p.more_cases m ss cs) h = neither (declarations t.stmts ss) _ (none_of_list ss h.1) (none_of_clauses cs h.2)

    none_caught : (d : Placed t.handler) → Formed t.handler d → names_of has (declarations t.handler d) ≡ []
    none_caught p.no_handler h = refl
    none_caught (p.some_handler x ss) h = none_of_list ss h

-- functions that have these names, in order
pub data Named : c.Tree c.funcs → List (List ℕ) → Type 0 where
  no_names : Named c.no_funcs []
  more_names : (x : List ℕ) (ps : List (List ℕ)) (args : Bool) (body : c.Tree c.body) (fs : c.Tree c.funcs) (xs : List (List ℕ)) → Named fs xs → Named (c.more_funcs (c.fun (Some x) ps args body) fs) (x ∷ xs)

pub named_same : (fs : c.Tree c.funcs) (xs : List (List ℕ)) → Named fs xs → (k : List ℕ) → is_declared fs k ≡ is_among xs k
named_same _ _ no_names k = refl
named_same _ _ (more_names x ps args body fs xs h) k = ap (λ b. same_units k x || b) (named_same fs xs h k)

named_more : (x : List ℕ) (ps : List (List ℕ)) (args : Bool) (names : List (List ℕ)) (o : Option (c.Tree c.funcs)) (r : Option (c.Tree c.stmts)) (q : Option (c.Tree c.funcs)) (xs : List (List ℕ)) → IfSome q (λ fs. Named fs xs)
    → IfSome (both c.more_funcs (both (λ fs ss. c.fun (Some x) ps args (c.a_body fs names ss)) o r) q) (λ fs. Named fs (x ∷ xs))
named_more x ps args names None r q xs h = tt
named_more x ps args names (Some fs) None q xs h = tt
named_more x ps args names (Some fs) (Some ss) None xs h = tt
named_more x ps args names (Some fs) (Some ss) (Some rest) xs h = more_names x ps args (c.a_body fs names ss) rest xs h

-- the functions that a body declares have the names that it declares as functions
pub functions_named : (ss : Placed t.stmts) → FormedBody ss → IfSome (declared_functions ss) (λ fs. Named fs (names_of is_function (declarations t.stmts ss)))
unfolding resolved declarations
functions_named p.no_stmts h = no_names
functions_named (p.more_stmts (p.declare (p.fun None ps body at)) ss) h = absurd h
functions_named (p.more_stmts (p.declare (p.fun (Some n) ps body at)) ss) h =
    named_more n.text (texts_of ps) (names_arguments t.stmts body) (vars_of body) (declared_functions body) (resolved t.stmts body) (declared_functions ss) (names_of is_function (declarations t.stmts ss)) (functions_named ss h.1)
functions_named (p.more_stmts x ss) h =
    subst (λ xs. IfSome (declared_functions ss) (λ fs. Named fs xs)) (sym (names_apart is_function (declarations t.stmt x) (declarations t.stmts ss) ∙ ap (λ l. l ++ names_of is_function (declarations t.stmts ss)) (none_else is_function refl refl x h.0))) (functions_named ss h.1)

-- no statement declares a parameter
pub no_parameter : (ss : Placed t.stmts) → FormedBody ss → names_of is_parameter (declarations t.stmts ss) ≡ []
unfolding declarations
no_parameter p.no_stmts h = refl
no_parameter (p.more_stmts (p.declare (p.fun None ps body at)) ss) h = absurd h
no_parameter (p.more_stmts (p.declare (p.fun (Some n) ps body at)) ss) h = no_parameter ss h.1
no_parameter (p.more_stmts x ss) h = neither is_parameter refl refl (declarations t.stmt x) (declarations t.stmts ss) (none_else is_parameter refl refl x h.0) (no_parameter ss h.1)
