-- A module that breaks no rule is a guest.
use Rattle.std.proofs.Common.{◌≡◌, ℕ, ◌+◌, ◌<◌, true, false, List, [], ◌∷◌, ◌++◌, map, Option, Some, None, cond, refl, sym, ◌∙◌, subst, arith}
use Rattle.std.specs.Prelude.{not, IfSome}
use Rattle.es3_tree.specs.Tree as t
use Rattle.es3_tree.specs.Placed as p
use Rattle.es3_tree.specs.Placed.{Placed}
use Rattle.es3_labels.specs.Around.{in_program}
use Rattle.es3_labels.specs.Misplaced.{Misplaced, misplaced}
use Rattle.es3_grammar.specs.Spots.{Spot}
use Rattle.es3_grammar.specs.Grammar as grammar
use Rattle.es3_grammar.specs.Grammar.{Spells}
use Rattle.cajita_tree.specs.Tree as c
use Rattle.cajita_names.specs.Rules.{fixed_names}
use Rattle.cajita_names.specs.Declarations.{Declaration, declarations}
use Rattle.cajita_names.specs.Scope.{declares, is_function}
use Rattle.cajita_names.specs.Once.{names_of, vars_of}
use Rattle.cajita_rules.specs.Faults.{Fault, redeclared, faults_in, bad_label, module_scope, all_faults, ordered, inserted, faults, first, is_before}
use Rattle.cajita_forms.specs.Options.{one, both}
use Rattle.cajita_rewrite.specs.Rewrite.{temps}
use Rattle.source_sizes.specs.Sizes.{inner_temps, temps_everywhere}
use Rattle.scope_rules.specs.Free.{free}
use Rattle.scope_rules.specs.Resolve.{resolved, declared_functions, imports_of, module_of}
use Rattle.cajita_simulation.specs.Guest.{is_among, Names, GuestName, GuestModule, a_guest}
use Rattle.cajita_simulation.specs.Jumps.{no_jumps, Targets}
use Rattle.accepted_modules.proofs.Declared.{never, not_true, both_true, no_front, no_back, known_guest, once_same}
use Rattle.accepted_modules.proofs.Formed.{FormedBody, formed_script}
use Rattle.accepted_modules.proofs.Names.{not_there}
use Rattle.accepted_modules.proofs.Words.{list_words}
use Rattle.accepted_modules.proofs.Jumps.{module_jumps}
use Rattle.accepted_modules.proofs.Places.{Place, within_own, in_the_module, outside}
use Rattle.accepted_modules.proofs.Parts.{about, Few, fewer, Clear, HoldsBody, body_there, Means}
use Rattle.accepted_modules.proofs.Expressions.{this_form, null_form, bool_form, num_form, text_form, name_form, array_form, object_form, dot_form, index_form, call_form, new_form, unary_form, step_form, binary_form, and_form, or_form, choice_form, assign_form, comma_form, no_exprs_form, more_exprs_form, no_fields_form, more_fields_form, no_expr_form, some_expr_form}
use Rattle.accepted_modules.proofs.Statements.{block_form, var_form, empty_form, expression_form, branch_form, while_form, do_form, for_form, for_in_form, continue_form, break_form, return_form, with_form, switch_form, label_form, throw_form, try_form, declare_form, no_items_form, more_items_form, no_stmt_form, some_stmt_form, no_block_form, some_block_form, no_first_form, first_var_form, first_expr_form, loop_var_form, loop_expr_form, no_cases_form, more_cases_form, no_handler_form, some_handler_form, no_stmts_form, more_stmts_form, declaration_form, no_declaration_form}
use Rattle.accepted_modules.proofs.Functions.{new_functions, named_functions, each_kind, distinct_functions, no_variables_name, variable_declared, function_declared, declared_variable, func_form, function_form}

-- ---- every part of a source

part : (imports : List (List ℕ)) (outer : Names) {s : t.Sort} (x : Placed s) → Means imports outer s x
part i o (p.this at) = this_form i o at
part i o p.null = null_form i o
part i o (p.bool b) = bool_form i o b
part i o (p.num n) = num_form i o n
part i o (p.text us) = text_form i o us
part i o (p.name x) = name_form i o x
part i o (p.array xs) = array_form i o xs (part i o xs)
part i o (p.object fs) = object_form i o fs (part i o fs)
part i o (p.function f) = function_form i o f (part i o f)
part i o (p.dot x k) = dot_form i o x k (part i o x)
part i o (p.index x y) = index_form i o x y (part i o x) (part i o y)
part i o (p.call x xs) = call_form i o x xs (part i o x) (part i o xs)
part i o (p.new x xs) = new_form i o x xs (part i o x) (part i o xs)
part i o (p.unary op x at) = unary_form i o op x at (part i o x)
part i o (p.step up before x) = step_form i o up before x (part i o x)
part i o (p.binary op x y) = binary_form i o op x y (part i o x) (part i o y)
part i o (p.and x y) = and_form i o x y (part i o x) (part i o y)
part i o (p.or x y) = or_form i o x y (part i o x) (part i o y)
part i o (p.choice x y z) = choice_form i o x y z (part i o x) (part i o y) (part i o z)
part i o (p.assign op x y) = assign_form i o op x y (part i o x) (part i o y)
part i o (p.comma x y) = comma_form i o x y (part i o x) (part i o y)
part i o p.no_exprs = no_exprs_form i o
part i o (p.more_exprs x xs) = more_exprs_form i o x xs (part i o x) (part i o xs)
part i o p.no_fields = no_fields_form i o
part i o (p.more_fields k x fs) = more_fields_form i o k x fs (part i o x) (part i o fs)
part i o p.no_expr = no_expr_form i o
part i o (p.some_expr x) = some_expr_form i o x (part i o x)
part i o (p.block ss) = block_form i o ss (part i o ss)
part i o (p.var is) = var_form i o is (part i o is)
part i o p.empty = empty_form i o
part i o (p.expression x) = expression_form i o x (part i o x)
part i o (p.branch e x m) = branch_form i o e x m (part i o e) (part i o x) (part i o m)
part i o (p.while_loop e x) = while_form i o e x (part i o e) (part i o x)
part i o (p.do_loop x e) = do_form i o x e (part i o x) (part i o e)
part i o (p.for_loop r e m x) = for_form i o r e m x (part i o r) (part i o e) (part i o m) (part i o x)
part i o (p.for_in r e x) = for_in_form i o r e x (part i o r) (part i o e) (part i o x)
part i o (p.continue n at) = continue_form i o n at
part i o (p.break n at) = break_form i o n at
part i o (p.return m at) = return_form i o m at (part i o m)
part i o (p.with_object e x at) = with_form i o e x at
part i o (p.switch e cs) = switch_form i o e cs (part i o e) (part i o cs)
part i o (p.label l x) = label_form i o l x (part i o x)
part i o (p.throw e) = throw_form i o e (part i o e)
part i o (p.try ss d m) = try_form i o ss d m (part i o ss) (part i o d) (part i o m)
part i o (p.declare f) = declare_form i o f
part i o p.no_stmts = no_stmts_form i o
part i o (p.more_stmts (p.declare (p.fun None ps body at)) ss) = no_declaration_form i o ps body at ss
part i o (p.more_stmts (p.declare (p.fun (Some x) ps body at)) ss) = declaration_form i o x ps body at ss (func_form i o (Some x) ps body at (part i o body)) (part i o ss)
part i o (p.more_stmts x ss) = more_stmts_form i o x ss refl (part i o x) (part i o ss)
part i o p.no_items = no_items_form i o
part i o (p.more_items x m is) = more_items_form i o x m is (part i o m) (part i o is)
part i o p.no_stmt = no_stmt_form i o
part i o (p.some_stmt x) = some_stmt_form i o x (part i o x)
part i o p.no_block = no_block_form i o
part i o (p.some_block ss) = some_block_form i o ss (part i o ss)
part i o p.no_first = no_first_form i o
part i o (p.first_var is) = first_var_form i o is (part i o is)
part i o (p.first_expr x) = first_expr_form i o x (part i o x)
part i o (p.loop_var x) = loop_var_form i o x
part i o (p.loop_expr x) = loop_expr_form i o x (part i o x)
part i o p.no_cases = no_cases_form i o
part i o (p.more_cases m ss cs) = more_cases_form i o m ss cs (part i o m) (part i o ss) (part i o cs)
part i o p.no_handler = no_handler_form i o
part i o (p.some_handler x ss) = some_handler_form i o x ss (part i o ss)
part i o (p.fun name ps body at) = func_form i o name ps body at (part i o body)
part i o (p.script ss) = tt

-- ---- no first fault, no fault

inserted_some : (f : Fault) (fs : List Fault) → inserted f fs ≡ [] → ⊥
inserted_some f [] e = absurd cc
inserted_some f (g ∷ gs) e =
    let cases = elim (is_before g f) as (λ b. cond b (g ∷ inserted f gs) (f ∷ g ∷ gs) ≡ [] → ⊥) [
      | true ↦ λ h. absurd cc
      | false ↦ λ h. absurd cc
    ] in cases e

ordered_none : (fs : List Fault) → ordered fs ≡ [] → fs ≡ []
ordered_none [] e = refl
ordered_none (f ∷ fs) e = absurd (inserted_some f (ordered fs) e)

pub first_none : (fs : List Fault) → first fs ≡ None → fs ≡ []
first_none [] e = refl
first_none (f ∷ fs) e = absurd cc

none_mapped : (ms : List Misplaced) → map bad_label ms ≡ [] → ms ≡ []
none_mapped [] e = refl
none_mapped (m ∷ ms) e = absurd cc

-- ---- modules

module _ (grants : List (List ℕ)) (each : (k : List ℕ) → is_among grants k ≡ true → GuestName k) (body : Placed t.stmts) (h : FormedBody body) (fs : c.Tree c.funcs) (is : declared_functions body ≡ Some fs) (list : c.Tree c.stmts) (lists : resolved t.stmts body ≡ Some list) (clean : all_faults grants body ≡ []) where
  abbrev ds : List Declaration
  ds = declarations t.stmts body

  abbrev given : List (List ℕ)
  given = imports_of grants body

  abbrev vars : List (List ℕ)
  vars = vars_of body

  abbrev foreign : Names
  foreign = outside (grants ++ fixed_names) ds given vars fs (each_kind [] body h fs is)

  abbrev P : Place given foreign
  P = in_the_module (grants ++ fixed_names) ds given vars fs (each_kind [] body h fs is)

  once : redeclared [] ds ≡ []
  once = no_front (redeclared [] ds) _ (no_front _ (map bad_label (misplaced in_program t.stmts body)) clean)

  without_faults : faults_in (module_scope grants body) t.stmts body ≡ []
  without_faults = no_back (redeclared [] ds) _ (no_front _ (map bad_label (misplaced in_program t.stmts body)) clean)

  placed : misplaced in_program t.stmts body ≡ []
  placed = none_mapped _ (no_back (redeclared [] ds ++ faults_in (module_scope grants body) t.stmts body) _ clean)

  given_same : (k : List ℕ) → is_among given k ≡ is_among (free (module_scope grants body) t.stmts body) k
  given_same k = once_same [] (free (module_scope grants body) t.stmts body) k

  clear : Clear P (about (module_scope grants body) in_program t.stmts body)
  clear = record {
    usable = λ k e. let here = each_kind [] body h fs is k e in (within_own [] vars fs false (is_among given) k here, within_own [] vars fs false (λ x. false) k here);
    granted = λ k e. given_same k ∙ e;
    copied = λ e w. never w;
    clean = without_faults;
    placed = placed;
  }

  held : HoldsBody P (about (module_scope grants body) in_program t.stmts body) (Some fs) (Some list)
  held =
      let both_held = (part given foreign body).in_body h P in_program in
      subst (λ o. HoldsBody P (about (module_scope grants body) in_program t.stmts body) (Some fs) o) lists (subst (λ o. HoldsBody P (about (module_scope grants body) in_program t.stmts body) o (resolved t.stmts body)) is both_held)

  words : (k : List ℕ) → declares ds k ≡ true → GuestName k
  words = list_words (module_scope grants body) body without_faults

  guest_module : Few (temps c.stmts list + (inner_temps c.funcs fs + inner_temps c.stmts list)) → GuestModule (c.a_module given (c.a_body fs vars list))
  guest_module few =
      let own_few : Few (temps c.stmts list) = fewer _ (temps c.stmts list + (inner_temps c.funcs fs + inner_temps c.stmts list)) (omega arith) few in
      let inner_few : Few (inner_temps c.funcs fs + inner_temps c.stmts list) = fewer _ (temps c.stmts list + (inner_temps c.funcs fs + inner_temps c.stmts list)) (omega arith) few in
      let fine = body_there P held inner_few clear in
      let from_outside : (k : List ℕ) → is_among given k ≡ true → (not (declares ds k) ≡ true) × (is_among (grants ++ fixed_names) k ≡ true) = λ k e. both_true (not (declares ds k)) (is_among (grants ++ fixed_names) k) (fine.fixed k (sym (given_same k) ∙ e)) in
      let targets : Targets no_jumps [] c.stmts list = subst (λ o. IfSome o (Targets no_jumps [] c.stmts)) lists (module_jumps body h placed) in
      a_guest given vars fs list (declared_variable body list lists) (λ k e. known_guest grants each k (from_outside k e).1) (λ k e. words k (variable_declared body k e)) own_few targets
      (new_functions given vars fs (names_of is_function ds) (named_functions [] body h fs is) (distinct_functions [] body h fs is once)
      (λ k e. (words k (function_declared body k e), not_there (is_among given k) (λ g. sym (not_true (declares ds k) (from_outside k g).0) ∙ function_declared body k e), no_variables_name [] body h fs is once k e)))
      fine.functions fine.statements

of_body : (grants : List (List ℕ)) → ((k : List ℕ) → is_among grants k ≡ true → GuestName k) → (body : Placed t.stmts) → FormedBody body → all_faults grants body ≡ [] → (fs : Option (c.Tree c.funcs)) (list : Option (c.Tree c.stmts)) → declared_functions body ≡ fs → resolved t.stmts body ≡ list
    → IfSome (one (c.a_module (imports_of grants body)) (both (λ fs ss. c.a_body fs (vars_of body) ss) fs list)) (λ m. Few (temps_everywhere m) → GuestModule m)
unfolding inner_temps
of_body grants each body h clean None list a b = tt
of_body grants each body h clean (Some fs) None a b = tt
of_body grants each body h clean (Some fs) (Some list) a b = λ few. guest_module grants each body h fs a list b clean few

-- the module of a tree that tokens spell and that breaks no rule is a guest, where it and its functions take few temporaries
pub guest_of : (grants : List (List ℕ)) → ((k : List ℕ) → is_among grants k ≡ true → GuestName k) → (body : Placed t.stmts) (u : List Spot) (m : c.Tree c.program) → Spells t.program grammar.free 0 (p.script body) u → first (faults grants body) ≡ None → module_of grants body ≡ Some m → temps_everywhere m < 18446744073709551616 → GuestModule m
guest_of grants each body u m spelled clean is few =
    subst (λ o. IfSome o (λ m. Few (temps_everywhere m) → GuestModule m)) is (of_body grants each body (formed_script spelled) (ordered_none (all_faults grants body) (first_none (faults grants body) clean)) (declared_functions body) (resolved t.stmts body) refl refl) few
