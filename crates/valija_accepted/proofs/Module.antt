-- A lowered program behind the prelude, as a module: one `var` and then a body that declares variables alone.
use Rattle.std.proofs.Common.{◌≡◌, ℕ, Bool, true, false, List, [], ◌∷◌, ◌++◌, map, cond, None, refl, sym, ap, ◌∙◌, subst}
use Rattle.std.specs.Prelude.{◌||◌}
use Rattle.std.specs.Cmp.Lexicographic.{same_text}
use Rattle.caja_units.specs.Units.{same_units}
use Rattle.es3_tree.specs.Tree as t
use Rattle.es3_tree.specs.Placed as p
use Rattle.es3_tree.specs.Placed.{Placed, Word}
use Rattle.es3_labels.specs.Around.{in_program}
use Rattle.es3_labels.specs.Misplaced.{Misplaced, misplaced}
use Rattle.cajita_names.specs.Rules.{fixed_names, is_among}
use Rattle.cajita_names.specs.Declarations as role
use Rattle.cajita_names.specs.Declarations.{Declaration, declared_as, declarations, body_declarations}
use Rattle.cajita_names.specs.Scope.{Scope, Binding, in_module, changing, settled, imported, unbound, bound, declares, declares_function, own, is_unbound}
use Rattle.cajita_names.specs.Scope as scope
use Rattle.cajita_rules.specs.Faults as cajita
use Rattle.cajita_rules.specs.Faults.{Fault, faults_in, module_scope, ordered, first}
use Rattle.cajita_rules.proofs.Order.{none_at_all}
use Rattle.valija_rules.specs.Words.{is_taken}
use Rattle.valija_forms.specs.Forms.{prelude_name, temporary, joined}
use Rattle.valija_accepted.proofs.Lists.{never, left_there, right_there, neither, refuted, two, no_front, no_back, as_good, among_back}
use Rattle.valija_accepted.proofs.Words.{taken_same}
use Rattle.valija_accepted.proofs.Scopes.{Enters, Fits, around_module, placed_in}
use Rattle.valija_accepted.proofs.Parts.{IsClean}
use Rattle.valija_accepted.proofs.Declared.{lowered_body, taken_by, body_names, body_declares}
use Rattle.valija_accepted.proofs.Bodies.{GoodBody, body_enters}
use Rattle.valija_accepted.proofs.Functions.{AllVariables, all_variables, variables_once, joined_clean, body_clean}
use Rattle.valija_accepted.proofs.Standing.{Within}
use Rattle.valija_accepted.proofs.Program.{part}
use Rattle.valija_accepted.proofs.Wider.{widens, in_a_function, Less, same, beside, wider_less}

-- `var $v = (function () { .. })();`
pub record IsPrelude (ss : Placed t.stmts) : Type 0 where
  pub named : Word
  pub body : Placed t.stmts
  pub at : ℕ
  pub spelled : ss ≡ p.more_stmts (p.var (p.more_items named (p.some_expr (p.call (p.function (p.fun None [] body at)) p.no_exprs)) p.no_items)) p.no_stmts
  pub name : same_units named.text prelude_name ≡ true

pub none_mapped : (f : Misplaced → Fault) (ms : List Misplaced) → map f ms ≡ [] → ms ≡ []
none_mapped f [] e = refl
none_mapped f (m ∷ ms) e = absurd cc

-- ---- a module that begins with the prelude

variable_of : Word → List Declaration
variable_of x = declared_as role.variable x ∷ []

module_enters : {ds es : List Declaration} {total : ℕ} (x : Word) → same_units x.text prelude_name ≡ true → Enters ds es total → Enters ds (variable_of x ++ es) total
unfolding variable_of
module_enters {es = es} x named h = record {
  more = λ k e. right_there (same_units k x.text) (declares es k) (h.more k e);
  variable = λ k. h.variable k;
  few = λ k own none. neither (same_units k x.text) (declares es k) (refuted (same_units k x.text) (λ same. taken_same k x.text own (as_good (λ z. is_taken z ≡ true) x.text prelude_name named refl) same)) (h.few k own none);
  temporaries = λ i e. right_there (same_units (temporary i) x.text) (declares es (temporary i)) (h.temporaries i e);
}

-- what the prelude alone declares and what a module has
module_widens : (x : Word) (es : List Declaration) (grants : List (List ℕ)) → ((k : List ℕ) → declares_function es k ≡ false)
    → (k : List ℕ) → widens (bound (in_module (variable_of x) fixed_names) k) (bound (in_module (variable_of x ++ es) (grants ++ fixed_names)) k) ≡ true
unfolding variable_of
module_widens x es grants none k = by (same_units k x.text) (declares es k) (declares_function es k) (none k) (is_among fixed_names k) refl (is_among (grants ++ fixed_names) k) refl
  where
    by : (b c d : Bool) → d ≡ false → (e : Bool) → is_among fixed_names k ≡ e → (g : Bool) → is_among (grants ++ fixed_names) k ≡ g
        → widens (cond (b || false) changing (cond e imported unbound)) (cond (b || c) (cond d settled changing) (cond g imported unbound)) ≡ true
    by true c true f e is g has = never (sym f)
    by true c false f e is g has = refl
    by false c d f false is g has = refl
    by false true true f true is g has = refl
    by false true false f true is g has = refl
    by false false d f true is true has = refl
    by false false d f true is false has = never (sym has ∙ among_back grants fixed_names k is)

module _ (grants : List (List ℕ)) (body : Placed t.stmts) (h : GoodBody (module_scope grants body) in_program body) (x : Word) (inner : Placed t.stmts) (at : ℕ) (named : same_units x.text prelude_name ≡ true) where
  abbrev prelude : Placed t.stmts
  prelude = p.more_stmts (p.var (p.more_items x (p.some_expr (p.call (p.function (p.fun None [] inner at)) p.no_exprs)) p.no_items)) p.no_stmts

  abbrev S : Scope
  S = module_scope grants body

  abbrev L : Placed t.stmts
  L = lowered_body S body

  abbrev es : List Declaration
  es = declarations t.stmts L

  abbrev R : Scope
  R = in_module (variable_of x ++ es) (grants ++ fixed_names)

  enters : Enters (declarations t.stmts body) es (taken_by S body)
  enters = body_enters S in_program body h

  fits : Fits S R (taken_by S body)
  unfolding variable_of
  fits = around_module (grants ++ fixed_names) (module_enters x named enters) (left_there (same_units prelude_name x.text) (declares es prelude_name) (ap (same_units prelude_name) (same_text x.text prelude_name (sym named))))

  body_there : IsClean R in_program t.stmts L
  body_there = let b = part t.stmts body in body_clean S body h (b.kept S R (taken_by S body) fits in_program h within) (b.functions S R (taken_by S body) fits in_program h)
    where
      within : Within S (declarations t.stmts body)
      within = record { placed = λ k e. placed_in (declarations t.stmts body) k (cond (is_among (grants ++ fixed_names) k) imported unbound) e }

  -- the prelude alone, and what it breaks here
  alone : Scope
  alone = in_module (variable_of x) fixed_names

  prelude_less : Less (faults_in alone t.stmts prelude) (faults_in R t.stmts prelude)
  unfolding faults_in alone variable_of
  prelude_less = beside (beside (beside (same (cajita.declared x)) (beside (beside (same (cajita.redeclared [] (body_declarations [] inner))) called) (same []))) (same [])) (same [])
    where
      called : Less (faults_in (scope.in_function (body_declarations [] inner) alone) t.stmts inner) (faults_in (scope.in_function (body_declarations [] inner) R) t.stmts inner)
      called = wider_less t.stmts inner (in_a_function (body_declarations [] inner) (module_widens x es grants enters.variable))

  module _ (clean : cajita.faults [] prelude ≡ []) where
    none_alone : cajita.all_faults [] prelude ≡ []
    none_alone = none_at_all (cajita.all_faults [] prelude) (ap first clean)

    prelude_there : IsClean R in_program t.stmts prelude
    unfolding declarations alone variable_of
    prelude_there =
        let two_parts = no_front (cajita.redeclared [] (declarations t.stmts prelude) ++ faults_in (module_scope [] prelude) t.stmts prelude) (map cajita.bad_label (misplaced in_program t.stmts prelude)) none_alone in
        record {
          rules = prelude_less.so (no_back (cajita.redeclared [] (declarations t.stmts prelude)) (faults_in (module_scope [] prelude) t.stmts prelude) two_parts);
          jumps = none_mapped cajita.bad_label (misplaced in_program t.stmts prelude) (no_back (cajita.redeclared [] (declarations t.stmts prelude) ++ faults_in (module_scope [] prelude) t.stmts prelude) (map cajita.bad_label (misplaced in_program t.stmts prelude)) none_alone);
        }

    all_variables_there : AllVariables (variable_of x ++ es)
    unfolding variable_of
    all_variables_there = (refl, subst AllVariables (sym (body_declares S body)) (all_variables (body_names S body)))

    no_faults : cajita.all_faults grants (joined prelude L) ≡ []
    unfolding declarations variable_of
    no_faults =
        let whole : IsClean R in_program t.stmts (joined prelude L) = joined_clean prelude prelude_there body_there in
        two (two (variables_once [] (variable_of x ++ es) refl all_variables_there) whole.rules) (ap (map cajita.bad_label) whole.jumps)

pub no_faults_after : (grants : List (List ℕ)) (body : Placed t.stmts) → GoodBody (module_scope grants body) in_program body → (ss : Placed t.stmts) → IsPrelude ss → cajita.faults [] ss ≡ [] → cajita.all_faults grants (joined ss (lowered_body (module_scope grants body) body)) ≡ []
no_faults_after grants body h ss P clean =
    subst (λ z. cajita.all_faults grants (joined z (lowered_body (module_scope grants body) body)) ≡ []) (sym P.spelled) (no_faults grants body h P.named P.body P.at P.name (subst (λ z. cajita.faults [] z ≡ []) P.spelled clean))
