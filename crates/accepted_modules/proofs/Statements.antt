-- Each form of a statement of an accepted module is a guest's where its parts are.
use Rattle.std.proofs.Common.{◌≡◌, ℕ, ◌+◌, true, false, List, [], ◌∷◌, ◌++◌, Option, Some, None, refl, sym, ap, ◌∙◌, subst, arith}
use Rattle.std.specs.Prelude.{◌||◌}
use Rattle.std.proofs.lemmas.List.{append-nil}
use Rattle.caja_units.specs.Units.{same_units}
use Rattle.es3_objects.proofs.Keys.{same_key-refl}
use Rattle.es3_tree.specs.Tree as t
use Rattle.es3_tree.specs.Placed as p
use Rattle.es3_tree.specs.Placed.{Placed, Word}
use Rattle.es3_labels.specs.Around as around
use Rattle.es3_labels.specs.Misplaced.{misplaced, jump, again, is_loop}
use Rattle.cajita_tree.specs.Tree as c
use Rattle.cajita_names.specs.Declarations as d
use Rattle.cajita_names.specs.Declarations.{declared_as, declarations}
use Rattle.cajita_rules.specs.Faults.{hidden, declared, masking, faults_in}
use Rattle.cajita_forms.specs.Options.{one, both}
use Rattle.cajita_forms.specs.Forms.{text_of}
use Rattle.cajita_forms.specs.Arguments.{names_arguments}
use Rattle.source_sizes.specs.Sizes.{inner_temps}
use Rattle.scope_rules.specs.Declaring.{is_declaration}
use Rattle.scope_rules.specs.Free.{free}
use Rattle.scope_rules.specs.Resolve.{resolved, declared_functions}
use Rattle.scope_rules.proofs.Declaring.{stands, declares_none}
use Rattle.cajita_simulation.specs.Guest.{Names}
use Rattle.accepted_modules.proofs.Declared.{never, left_there, right_there, no_front, no_back, guest_declared, all_both}
use Rattle.accepted_modules.proofs.Formed.{Formed, FormedBody}
use Rattle.accepted_modules.proofs.Places.{Place, in_the_catch}
use Rattle.accepted_modules.proofs.Parts.{About, about, beside, behind_faults, declaring, fewer, Clear, Fine, Holds, lacking, held, clear_front, clear_back, clear_behind, more_front, more_jumps, same_declared, no_part, one_form, pair_form, three_form, four_form, both_held, body_more, body_declares, HoldsBody, Means}
use Rattle.accepted_modules.proofs.Expressions.{target_part}

-- a word that is declared
item_part : {imports : List (List ℕ)} {outer : Names} (P : Place imports outer) {A B : About} {o : Option (c.Tree c.maybe_expr)} {r : Option (c.Tree c.items)} (x : Word) → A.declared ≡ [] → Holds P A c.maybe_expr o → Holds P B c.items r
    → Holds P (declaring (declared_as d.variable x ∷ B.declared) (beside (behind_faults (declared x) A) B)) c.items (both (c.more_items x.text) o r)
unfolding inner_temps
item_part P x bare lacking b = lacking
item_part P x bare (held y f) lacking = lacking
item_part {outer = outer} P {A = A} {B = B} x bare (held y f) (held z g) = held (c.more_items x.text y z) (λ few clear.
    let here = clear.usable x.text (left_there (same_units x.text x.text) _ (same_key-refl x.text)) in
    let both_clear : Clear P (declaring B.declared (beside (behind_faults (declared x) A) B)) = record { usable = λ k e. clear.usable k (right_there (same_units k x.text) _ e); granted = clear.granted; copied = clear.copied; clean = clear.clean; placed = clear.placed } in
    let parts : Clear P (beside (behind_faults (declared x) A) B) = record { usable = λ k e. both_clear.usable k (subst (λ l. Rattle.cajita_names.specs.Scope.declares (l ++ B.declared) k ≡ true) bare e); granted = clear.granted; copied = clear.copied; clean = clear.clean; placed = clear.placed } in
    let front = clear_front P (behind_faults (declared x) A) B parts in
    let u : Fine P A.imported c.maybe_expr y = f (fewer _ (inner_temps c.maybe_expr y + inner_temps c.items z) (omega arith) few) (clear_behind P (declared x) A front) in
    let v : Fine P B.imported c.items z = g (fewer _ (inner_temps c.maybe_expr y + inner_temps c.items z) (omega arith) few) (clear_back P (behind_faults (declared x) A) B parts) in
    record { guest = (here.0, here.1, guest_declared x (no_front (declared x) A.faults front.clean), u.guest, v.guest); fixed = all_both A.imported B.imported outer u.fixed v.fixed })

-- 12.14: a `catch` has its name more
catch_part : {imports : List (List ℕ)} {outer : Names} (P : Place imports outer) {A : About} (x : Word) (o : Option (c.Tree c.stmts)) → Holds (in_the_catch P x.text) A c.stmts o → Holds P (behind_faults (declared x ++ masking P.around x) A) c.handler (one (c.some_handler x.text) o)
unfolding inner_temps
catch_part P x None f = lacking
catch_part P {A = A} x (Some list) (held _ f) = held (c.some_handler x.text list) (λ few clear.
    let inside : Clear (in_the_catch P x.text) A = record {
      usable = λ k e. let u = clear.usable k e in (right_there (false || (same_units k x.text || false)) _ u.0, right_there (false || (same_units k x.text || false)) _ u.1);
      granted = clear.granted;
      copied = λ e w. right_there _ _ (clear.copied e w);
      clean = no_back (declared x ++ masking P.around x) A.faults clear.clean;
      placed = clear.placed;
    } in
    let g = f few inside in
    record { guest = (guest_declared x (no_front (declared x) (masking P.around x) (no_front (declared x ++ masking P.around x) A.faults clear.clean)), g.guest); fixed = g.fixed })

-- of a body each statement is formed that declares no function
body_parts : (x : Placed t.stmt) (ss : Placed t.stmts) → false ≡ is_declaration x → FormedBody (p.more_stmts x ss) → Formed t.stmt x × FormedBody ss
body_parts (p.declare f) ss plain h = absurd cc
body_parts x ss plain h = (h.0, h.1)

module _ (imports : List (List ℕ)) (outer : Names) where
  abbrev M : (s : t.Sort) → Placed s → Type 0
  M s x = Means imports outer s x

  pub block_form : (ss : Placed t.stmts) → M t.stmts ss → M t.stmt (p.block ss)
  unfolding resolved faults_in free names_arguments misplaced inner_temps declarations
  block_form ss f h P a = one_form P c.block (λ y. omega arith) (λ y g. g) (f.in_block h P a)

  pub var_form : (is : Placed t.items) → M t.items is → M t.stmt (p.var is)
  unfolding resolved faults_in free names_arguments misplaced inner_temps declarations
  var_form is f h P a = one_form P c.var (λ y. omega arith) (λ y g. g) (f h P a)

  pub empty_form : M t.stmt p.empty
  unfolding resolved free
  empty_form h P a = no_part P c.empty refl tt

  pub expression_form : (x : Placed t.expr) → M t.expr x → M t.stmt (p.expression x)
  unfolding resolved faults_in free names_arguments misplaced inner_temps declarations
  expression_form x f h P a = one_form P c.expression (λ y. omega arith) (λ y g. g) (f h P a)

  pub branch_form : (e : Placed t.expr) (x : Placed t.stmt) (m : Placed t.maybe_stmt) → M t.expr e → M t.stmt x → M t.maybe_stmt m → M t.stmt (p.branch e x m)
  unfolding resolved faults_in free names_arguments misplaced inner_temps declarations
  branch_form e x m f g k h P a = three_form P c.branch (λ u v w. omega arith) (λ u v w i j l. (i, j, l)) (f h.0 P a) (g h.1 P a) (k h.2 P a)

  pub while_form : (e : Placed t.expr) (x : Placed t.stmt) → M t.expr e → M t.stmt x → M t.stmt (p.while_loop e x)
  unfolding resolved faults_in free names_arguments misplaced inner_temps declarations
  while_form e x f g h P a = pair_form P c.while_loop (λ u v. omega arith) (λ u v i j. (i, j)) (f h.0 P a) (g h.1 P (around.in_loop a))

  pub do_form : (x : Placed t.stmt) (e : Placed t.expr) → M t.stmt x → M t.expr e → M t.stmt (p.do_loop x e)
  unfolding resolved faults_in free names_arguments misplaced inner_temps declarations
  do_form x e f g h P a = same_declared P (declarations t.stmt x) (append-nil (declarations t.stmt x)) (pair_form P c.do_loop (λ u v. omega arith) (λ u v i j. (i, j)) (f h.0 P (around.in_loop a)) (g h.1 P a))

  pub for_form : (i : Placed t.first) (e m : Placed t.maybe_expr) (x : Placed t.stmt) → M t.first i → M t.maybe_expr e → M t.maybe_expr m → M t.stmt x → M t.stmt (p.for_loop i e m x)
  unfolding resolved faults_in free names_arguments misplaced inner_temps declarations
  for_form i e m x f g k l h P a =
      same_declared P (declarations t.first i ++ declarations t.stmt x) (ap (λ ds. ds ++ declarations t.stmt x) (append-nil (declarations t.first i ++ []) ∙ append-nil (declarations t.first i)))
      (four_form P c.for_loop (λ u v w z. omega arith) (λ u v w z q r s o. (q, r, s, o)) (f h.0 P a) (g h.1 P a) (k h.2 P a) (l h.3 P (around.in_loop a)))

  pub for_in_form : (i : Placed t.loop_target) (e : Placed t.expr) (x : Placed t.stmt) → M t.loop_target i → M t.expr e → M t.stmt x → M t.stmt (p.for_in i e x)
  unfolding resolved faults_in free names_arguments misplaced inner_temps declarations
  for_in_form i e x f g k h P a =
      same_declared P (declarations t.loop_target i ++ declarations t.stmt x) (ap (λ ds. ds ++ declarations t.stmt x) (append-nil (declarations t.loop_target i)))
      (three_form P c.for_in (λ u v w. omega arith) (λ u v w q r s. (q, r, s)) (f h.0 P a) (g h.1 P a) (k h.2 P (around.in_loop a)))

  pub continue_form : (n : Option Word) (at : ℕ) → M t.stmt (p.continue n at)
  unfolding resolved free
  continue_form n at h P a = no_part P (c.continue (text_of n)) refl tt

  pub break_form : (n : Option Word) (at : ℕ) → M t.stmt (p.break n at)
  unfolding resolved free
  break_form n at h P a = no_part P (c.break (text_of n)) refl tt

  pub return_form : (m : Placed t.maybe_expr) (at : ℕ) → M t.maybe_expr m → M t.stmt (p.return m at)
  unfolding resolved faults_in free names_arguments misplaced inner_temps declarations
  return_form m at f h P a = more_jumps P (jump (around.has_function a) at) (one_form P c.return (λ y. omega arith) (λ y g. g) (f h P a))

  pub with_form : (e : Placed t.expr) (x : Placed t.stmt) (at : ℕ) → M t.stmt (p.with_object e x at)
  unfolding resolved
  with_form e x at h P a = lacking

  pub switch_form : (e : Placed t.expr) (cs : Placed t.cases) → M t.expr e → M t.cases cs → M t.stmt (p.switch e cs)
  unfolding resolved faults_in free names_arguments misplaced inner_temps declarations
  switch_form e cs f g h P a = pair_form P c.switch (λ u v. omega arith) (λ u v i j. (i, j)) (f h.0 P a) (g h.1 P (around.in_switch a))

  pub label_form : (l : Word) (x : Placed t.stmt) → M t.stmt x → M t.stmt (p.label l x)
  unfolding resolved faults_in free names_arguments misplaced inner_temps declarations
  label_form l x f h P a = more_jumps P (again (around.has_label a l.text) l) (more_front P (hidden l) (one_form P (c.label l.text) (λ y. omega arith) (λ y g. g) (f h P (around.in_label l.text (is_loop x) a))))

  pub throw_form : (e : Placed t.expr) → M t.expr e → M t.stmt (p.throw e)
  unfolding resolved faults_in free names_arguments misplaced inner_temps declarations
  throw_form e f h P a = one_form P c.throw (λ y. omega arith) (λ y g. g) (f h P a)

  pub try_form : (ss : Placed t.stmts) (d : Placed t.handler) (m : Placed t.maybe_block) → M t.stmts ss → M t.handler d → M t.maybe_block m → M t.stmt (p.try ss d m)
  unfolding resolved faults_in free names_arguments misplaced inner_temps declarations
  try_form ss d m f g k h P a = three_form P c.try (λ u v w. omega arith) (λ u v w i j l. (i, j, l)) (f.in_block h.0 P a) (g h.1 P a) (k h.2 P a)

  pub declare_form : (f : Placed t.func) → M t.stmt (p.declare f)
  declare_form f h P a = absurd h

  pub no_items_form : M t.items p.no_items
  unfolding resolved free
  no_items_form h P a = no_part P c.no_items refl tt

  pub more_items_form : (x : Word) (m : Placed t.maybe_expr) (is : Placed t.items) → M t.maybe_expr m → M t.items is → M t.items (p.more_items x m is)
  unfolding resolved faults_in free names_arguments misplaced declarations
  more_items_form x m is f g h P a = item_part P x refl (f h.0 P a) (g h.1 P a)

  pub no_stmt_form : M t.maybe_stmt p.no_stmt
  unfolding resolved free
  no_stmt_form h P a = no_part P c.no_stmt refl tt

  pub some_stmt_form : (x : Placed t.stmt) → M t.stmt x → M t.maybe_stmt (p.some_stmt x)
  unfolding resolved faults_in free names_arguments misplaced inner_temps declarations
  some_stmt_form x f h P a = one_form P c.some_stmt (λ y. omega arith) (λ y g. g) (f h P a)

  pub no_block_form : M t.maybe_block p.no_block
  unfolding resolved free
  no_block_form h P a = no_part P c.no_block refl tt

  pub some_block_form : (ss : Placed t.stmts) → M t.stmts ss → M t.maybe_block (p.some_block ss)
  unfolding resolved faults_in free names_arguments misplaced inner_temps declarations
  some_block_form ss f h P a = one_form P c.some_block (λ y. omega arith) (λ y g. g) (f.in_block h P a)

  pub no_first_form : M t.first p.no_first
  unfolding resolved free
  no_first_form h P a = no_part P c.no_first refl tt

  pub first_var_form : (is : Placed t.items) → M t.items is → M t.first (p.first_var is)
  unfolding resolved faults_in free names_arguments misplaced inner_temps declarations
  first_var_form is f h P a = one_form P c.first_var (λ y. omega arith) (λ y g. g) (f h P a)

  pub first_expr_form : (x : Placed t.expr) → M t.expr x → M t.first (p.first_expr x)
  unfolding resolved faults_in free names_arguments misplaced inner_temps declarations
  first_expr_form x f h P a = one_form P c.first_expr (λ y. omega arith) (λ y g. g) (f h P a)

  -- 12.6.4: what the keys are given to
  pub loop_var_form : (x : Word) → M t.loop_target (p.loop_var x)
  unfolding resolved faults_in free declarations
  loop_var_form x h P a = held (c.variable x.text) (λ few clear.
      let here = clear.usable x.text (left_there (same_units x.text x.text) false (same_key-refl x.text)) in
      record { guest = (here.0, here.1, guest_declared x clear.clean); fixed = λ k e. never e })

  pub loop_expr_form : (x : Placed t.expr) → M t.expr x → M t.loop_target (p.loop_expr x)
  unfolding resolved faults_in free names_arguments misplaced declarations
  loop_expr_form x f h P a = target_part P a x (f h P a)

  pub no_cases_form : M t.cases p.no_cases
  unfolding resolved free
  no_cases_form h P a = no_part P c.no_cases refl tt

  pub more_cases_form : (m : Placed t.maybe_expr) (ss : Placed t.stmts) (cs : Placed t.cases) → M t.maybe_expr m → M t.stmts ss → M t.cases cs → M t.cases (p.more_cases m ss cs)
  unfolding resolved faults_in free names_arguments misplaced inner_temps declarations
  more_cases_form m ss cs f g k h P a = three_form P c.more_cases (λ u v w. omega arith) (λ u v w i j l. (i, j, l)) (f h.0 P a) (g.in_block h.1 P a) (k h.2 P a)

  pub no_handler_form : M t.handler p.no_handler
  unfolding resolved free
  no_handler_form h P a = no_part P c.no_handler refl tt

  pub some_handler_form : (x : Word) (ss : Placed t.stmts) → M t.stmts ss → M t.handler (p.some_handler x ss)
  unfolding resolved faults_in free names_arguments misplaced declarations
  some_handler_form x ss f h P a = catch_part P x (resolved t.stmts ss) (f.in_block h (in_the_catch P x.text) a)

  -- ---- lists of statements, in a block and in a body

  pub no_stmts_form : M t.stmts p.no_stmts
  unfolding resolved free inner_temps
  no_stmts_form = record { in_block = λ h P a. no_part P c.no_stmts refl tt; in_body = λ h P a. both_held c.no_funcs c.no_stmts (λ few clear. record { functions = tt; statements = tt; fixed = λ k e. never e }) }

  pub more_stmts_form : (x : Placed t.stmt) (ss : Placed t.stmts) → false ≡ is_declaration x → M t.stmt x → M t.stmts ss → M t.stmts (p.more_stmts x ss)
  unfolding resolved faults_in free names_arguments misplaced inner_temps declarations
  more_stmts_form x ss plain f g = record {
    in_block = λ h P a. subst (λ o. Holds P (about P.around a t.stmts (p.more_stmts x ss)) c.stmts o) (sym (stands x (resolved t.stmt x) (resolved t.stmts ss) plain)) (pair_form P c.more_stmts (λ u v. omega arith) (λ u v i j. (i, j)) (f h.0 P a) (g.in_block h.1 P a));
    in_body = λ h P a.
        let parts = body_parts x ss plain h in
        subst (λ o. HoldsBody P (about P.around a t.stmts (p.more_stmts x ss)) o (resolved t.stmts (p.more_stmts x ss))) (sym (declares_none x ss plain))
        (subst (λ o. HoldsBody P (about P.around a t.stmts (p.more_stmts x ss)) (declared_functions ss) o) (sym (stands x (resolved t.stmt x) (resolved t.stmts ss) plain)) (body_more P (f parts.0 P a) (g.in_body parts.1 P a)));
  }

  -- 13: a function that is declared
  declared_part : (P : Place imports outer) {A : About} {o : Option (c.Tree c.func)} (x : Word) → A.declared ≡ [] → Holds P A c.func o → Holds P (declaring (declared_as d.function x ∷ []) (behind_faults (declared x) A)) c.func o
  declared_part P x bare lacking = lacking
  declared_part P {A = A} x bare (held y f) = held y (λ few clear. f few (record { usable = λ k e. never (subst (λ l. Rattle.cajita_names.specs.Scope.declares l k ≡ true) bare e); granted = clear.granted; copied = clear.copied; clean = no_back (declared x) A.faults clear.clean; placed = clear.placed }))

  pub declaration_form : (x : Word) (ps : List Word) (body : Placed t.stmts) (at : ℕ) (ss : Placed t.stmts) → M t.func (p.fun (Some x) ps body at) → M t.stmts ss → M t.stmts (p.more_stmts (p.declare (p.fun (Some x) ps body at)) ss)
  unfolding resolved faults_in free names_arguments misplaced declarations
  declaration_form x ps body at ss f g = record { in_block = λ h P a. absurd h.0; in_body = λ h P a. body_declares P (declared_part P x refl (f h.0 P a)) (g.in_body h.1 P a) }

  pub no_declaration_form : (ps : List Word) (body : Placed t.stmts) (at : ℕ) (ss : Placed t.stmts) → M t.stmts (p.more_stmts (p.declare (p.fun None ps body at)) ss)
  no_declaration_form ps body at ss = record { in_block = λ h P a. absurd h.0; in_body = λ h P a. absurd h }
