-- Each name that statements declare is one that a module may declare, where they break no rule.
use Rattle.std.proofs.Common.{◌≡◌, ℕ, true, List, [], ◌∷◌, ◌++◌, Some, sym, ◌∙◌}
use Rattle.std.proofs.lemmas.List.Folds.{list_any-append}
use Rattle.caja_units.specs.Units.{same_units}
use Rattle.es3_tree.specs.Tree as t
use Rattle.es3_tree.specs.Placed as p
use Rattle.es3_tree.specs.Placed.{Placed, Word}
use Rattle.cajita_names.specs.Declarations as role
use Rattle.cajita_names.specs.Declarations.{Role, Declaration, declared_as, declarations}
use Rattle.cajita_names.specs.Scope.{Scope, in_catch, declares}
use Rattle.cajita_rules.specs.Faults.{declared, all_declared, masking, hidden, form_fault, faults_in}
use Rattle.cajita_forms.specs.Forms.{texts_of}
use Rattle.cajita_simulation.specs.Guest.{is_among, GuestName}
use Rattle.accepted_modules.proofs.Declared.{never, either, no_front, no_back, guest_same, guest_declared}

abbrev pub Words : List Declaration → Type 0
Words ds = (k : List ℕ) → declares ds k ≡ true → GuestName k

no_words : Words []
no_words k there = never there

more_words : (r : Role) (x : Word) (ds : List Declaration) → declared x ≡ [] → Words ds → Words (declared_as r x ∷ ds)
more_words r x ds clean h k there = either (same_units k x.text) _ there (λ same. guest_same k x.text same (guest_declared x clean)) (h k)

both_words : (ds es : List Declaration) → Words ds → Words es → Words (ds ++ es)
both_words ds es f g k there = either (declares ds k) (declares es k) (sym (list_any-append (λ (e : Declaration). same_units k e.word.text) ds es) ∙ there) (f k) (g k)

-- parameters
pub parameters_named : (ps : List Word) → all_declared ps ≡ [] → (k : List ℕ) → is_among (texts_of ps) k ≡ true → GuestName k
parameters_named [] clean k there = never there
parameters_named (x ∷ ps) clean k there = either (same_units k x.text) _ there (λ same. guest_same k x.text same (guest_declared x (no_front (declared x) _ clean))) (parameters_named ps (no_back (declared x) _ clean) k)

mutual
  unfolding faults_in declarations

  words : (s : Scope) (x : Placed t.stmt) → faults_in s t.stmt x ≡ [] → Words (declarations t.stmt x)
  words s (p.block ss) h = list_words s ss h
  words s (p.var is) h = item_words s is h
  words s (p.branch e x m) h = both_words (declarations t.stmt x) (declarations t.maybe_stmt m) (words s x (no_back (faults_in s t.expr e) _ (no_front (faults_in s t.expr e ++ faults_in s t.stmt x) _ h))) (side_words s m (no_back (faults_in s t.expr e ++ faults_in s t.stmt x) _ h))
  words s (p.while_loop e x) h = words s x (no_back (faults_in s t.expr e) _ h)
  words s (p.do_loop x e) h = words s x (no_front (faults_in s t.stmt x) _ h)
  words s (p.for_loop i e f x) h = both_words (declarations t.first i) (declarations t.stmt x) (head_words s i (no_front (faults_in s t.first i) _ (no_front (faults_in s t.first i ++ faults_in s t.maybe_expr e) _ (no_front ((faults_in s t.first i ++ faults_in s t.maybe_expr e) ++ faults_in s t.maybe_expr f) _ h)))) (words s x (no_back ((faults_in s t.first i ++ faults_in s t.maybe_expr e) ++ faults_in s t.maybe_expr f) _ h))
  words s (p.for_in i e x) h = both_words (declarations t.loop_target i) (declarations t.stmt x) (target_words s i (no_front (faults_in s t.loop_target i) _ (no_front (faults_in s t.loop_target i ++ faults_in s t.expr e) _ h))) (words s x (no_back (faults_in s t.loop_target i ++ faults_in s t.expr e) _ h))
  words s (p.with_object e x at) h = words s x (no_back (form_fault 2 at ++ faults_in s t.expr e) _ h)
  words s (p.switch e cs) h = clause_words s cs (no_back (faults_in s t.expr e) _ h)
  words s (p.label l x) h = words s x (no_back (hidden l) _ h)
  words s (p.try ss d m) h =
      let two = no_front (faults_in s t.stmts ss ++ faults_in s t.handler d) _ h in
      both_words (declarations t.stmts ss ++ declarations t.handler d) (declarations t.maybe_block m) (both_words (declarations t.stmts ss) (declarations t.handler d) (list_words s ss (no_front (faults_in s t.stmts ss) _ two)) (catch_words s d (no_back (faults_in s t.stmts ss) _ two))) (end_words s m (no_back (faults_in s t.stmts ss ++ faults_in s t.handler d) _ h))
  words s (p.declare (p.fun (Some n) ps body at)) h = more_words role.function n [] (no_front (declared n) _ h) no_words
  words s _ h = no_words

  pub list_words : (s : Scope) (ss : Placed t.stmts) → faults_in s t.stmts ss ≡ [] → Words (declarations t.stmts ss)
  list_words s p.no_stmts h = no_words
  list_words s (p.more_stmts x ss) h = both_words (declarations t.stmt x) (declarations t.stmts ss) (words s x (no_front (faults_in s t.stmt x) _ h)) (list_words s ss (no_back (faults_in s t.stmt x) _ h))

  item_words : (s : Scope) (is : Placed t.items) → faults_in s t.items is ≡ [] → Words (declarations t.items is)
  item_words s p.no_items h = no_words
  item_words s (p.more_items x m is) h = more_words role.variable x (declarations t.items is) (no_front (declared x) _ (no_front (declared x ++ faults_in s t.maybe_expr m) _ h)) (item_words s is (no_back (declared x ++ faults_in s t.maybe_expr m) _ h))

  side_words : (s : Scope) (m : Placed t.maybe_stmt) → faults_in s t.maybe_stmt m ≡ [] → Words (declarations t.maybe_stmt m)
  side_words s p.no_stmt h = no_words
  side_words s (p.some_stmt x) h = words s x h

  end_words : (s : Scope) (m : Placed t.maybe_block) → faults_in s t.maybe_block m ≡ [] → Words (declarations t.maybe_block m)
  end_words s p.no_block h = no_words
  end_words s (p.some_block ss) h = list_words s ss h

  head_words : (s : Scope) (i : Placed t.first) → faults_in s t.first i ≡ [] → Words (declarations t.first i)
  head_words s p.no_first h = no_words
  head_words s (p.first_var is) h = item_words s is h
  head_words s (p.first_expr e) h = no_words

  target_words : (s : Scope) (i : Placed t.loop_target) → faults_in s t.loop_target i ≡ [] → Words (declarations t.loop_target i)
  target_words s (p.loop_var x) h = more_words role.loop_variable x [] h no_words
  target_words s (p.loop_expr e) h = no_words

  clause_words : (s : Scope) (cs : Placed t.cases) → faults_in s t.cases cs ≡ [] → Words (declarations t.cases cs)
  clause_words s p.no_cases h = no_words
  clause_words s (p.more_cases m ss cs) h = both_words (declarations t.stmts ss) (declarations t.cases cs) (list_words s ss (no_back (faults_in s t.maybe_expr m) _ (no_front (faults_in s t.maybe_expr m ++ faults_in s t.stmts ss) _ h))) (clause_words s cs (no_back (faults_in s t.maybe_expr m ++ faults_in s t.stmts ss) _ h))

  catch_words : (s : Scope) (d : Placed t.handler) → faults_in s t.handler d ≡ [] → Words (declarations t.handler d)
  catch_words s p.no_handler h = no_words
  catch_words s (p.some_handler x ss) h = list_words (in_catch x.text s) ss (no_back (declared x ++ masking s x) _ h)
