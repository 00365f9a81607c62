-- A module in which no jump is misplaced has a target for each.
use Rattle.std.proofs.Common.{◌≡◌, ℕ, Bool, true, false, List, [], ◌∷◌, ◌++◌, Option, Some, None, cond, refl, sym, subst}
use Rattle.std.specs.Prelude.{◌||◌, ◌&&◌, IfSome}
use Rattle.caja_units.specs.Units.{same_units}
use Rattle.es3_tree.specs.Tree as t
use Rattle.es3_tree.specs.Placed as p
use Rattle.es3_tree.specs.Placed.{Placed, Word}
use Rattle.es3_labels.specs.Around as around
use Rattle.es3_labels.specs.Around.{Around, in_program, in_function}
use Rattle.es3_labels.specs.Misplaced.{jump, is_loop, continues, breaks, misplaced}
use Rattle.cajita_tree.specs.Tree as c
use Rattle.cajita_meaning.specs.Direct.{is_to, is_label}
use Rattle.cajita_forms.specs.Options.{one, both, three, four}
use Rattle.cajita_forms.specs.Forms.{text_of}
use Rattle.scope_rules.specs.Resolve.{resolved}
use Rattle.scope_rules.proofs.Declaring.{stands}
use Rattle.cajita_simulation.specs.Jumps.{Jumps, no_jumps, function_jumps, in_loop, in_switch, in_label, Targets}
use Rattle.accepted_modules.proofs.Declared.{no_front, no_back, right_there, left_there, never, either}
use Rattle.accepted_modules.proofs.Formed.{Formed, FormedBody, formed_stands}

-- the targets that the rules know are those that jumps have; where the statement is a loop, those of its own labels too
pub record Known (a : Around) (loop : Bool) (J : Jumps) (ls : List (List ℕ)) : Type 0 where
  pub breaks : (w : Option Word) → breaks a w ≡ true → J.breaks (text_of w) ≡ true
  pub continues : (w : Option Word) → continues a w ≡ true → (J.continues (text_of w) || (loop && is_to (text_of w) ls)) ≡ true
  pub returns : around.has_function a ≡ true → J.returns ≡ true

jump_there : (b : Bool) (at : ℕ) → jump b at ≡ [] → b ≡ true
jump_there true at e = refl
jump_there false at e = absurd cc

or_nothing : (a b : Bool) → (a || (false && b)) ≡ true → a ≡ true
or_nothing true b e = refl
or_nothing false b e = absurd cc

no_target : {A : Type 0} (a : Around) → (breaks a None ≡ true → A) → ((l : Word) → breaks a (Some l) ≡ true → A) → (w : Option Word) → breaks a w ≡ true → A
no_target a f g None e = f e
no_target a f g (Some l) e = g l e

none_continues : {A : Type 0} (a : Around) → (continues a None ≡ true → A) → ((l : Word) → continues a (Some l) ≡ true → A) → (w : Option Word) → continues a w ≡ true → A
none_continues a f g None e = f e
none_continues a f g (Some l) e = g l e

in_a_program : Known in_program false no_jumps []
in_a_program = record { breaks = no_target in_program never (λ l. never); continues = none_continues in_program never (λ l. never); returns = λ e. never e }

in_a_function : Known in_function false function_jumps []
in_a_function = record { breaks = no_target in_function never (λ l. never); continues = none_continues in_function never (λ l. never); returns = λ e. refl }

-- within a statement that is no loop
within : {a : Around} {J : Jumps} {ls : List (List ℕ)} (l : Bool) → Known a false J ls → Known a l J []
within {J = J} {ls = ls} l k = record { breaks = k.breaks; continues = λ w e. left_there (J.continues (text_of w)) _ (or_nothing (J.continues (text_of w)) (is_to (text_of w) ls) (k.continues w e)); returns = k.returns }

within_loop : {a : Around} {J : Jumps} {ls : List (List ℕ)} (l : Bool) → Known a true J ls → Known (around.in_loop a) l (in_loop ls J) []
within_loop {a = a} {J = J} {ls = ls} l k = record { breaks = to_break; continues = to_continue; returns = k.returns }
  where
    to_break : (w : Option Word) → breaks (around.in_loop a) w ≡ true → (J.breaks (text_of w) || is_to (text_of w) ls) ≡ true
    to_break None e = right_there _ _ refl
    to_break (Some x) e = left_there _ _ (k.breaks (Some x) e)

    to_continue : (w : Option Word) → continues (around.in_loop a) w ≡ true → ((J.continues (text_of w) || is_to (text_of w) ls) || (l && is_to (text_of w) [])) ≡ true
    to_continue None e = left_there _ _ (right_there _ _ refl)
    to_continue (Some x) e = left_there _ _ (k.continues (Some x) e)

within_switch : {a : Around} {J : Jumps} {ls : List (List ℕ)} (l : Bool) → Known a false J ls → Known (around.in_switch a) l (in_switch ls J) []
within_switch {a = a} {J = J} {ls = ls} l k = record { breaks = to_break; continues = to_continue; returns = k.returns }
  where
    to_break : (w : Option Word) → breaks (around.in_switch a) w ≡ true → (J.breaks (text_of w) || is_to (text_of w) ls) ≡ true
    to_break None e = right_there _ _ refl
    to_break (Some x) e = left_there _ _ (k.breaks (Some x) e)

    to_continue : (w : Option Word) → continues (around.in_switch a) w ≡ true → (J.continues (text_of w) || (l && is_to (text_of w) [])) ≡ true
    to_continue None e = left_there (J.continues None) _ (or_nothing (J.continues None) true (k.continues None e))
    to_continue (Some x) e = left_there (J.continues (Some x.text)) _ (or_nothing (J.continues (Some x.text)) (is_to (Some x.text) ls) (k.continues (Some x) e))

within_label : {a : Around} {J : Jumps} {ls : List (List ℕ)} (l : Bool) (n : Word) → Known a l J ls → Known (around.in_label n.text l a) l (in_label n.text J) (n.text ∷ ls)
within_label {a = a} {J = J} {ls = ls} l n k = record { breaks = to_break; continues = to_continue; returns = k.returns }
  where
    to_break : (w : Option Word) → breaks (around.in_label n.text l a) w ≡ true → (J.breaks (text_of w) || is_label (text_of w) n.text) ≡ true
    to_break None e = left_there _ _ (k.breaks None e)
    to_break (Some x) e = either (same_units x.text n.text) _ e (λ same. right_there _ _ same) (λ there. left_there _ _ (k.breaks (Some x) there))

    further : (b s o : Bool) (q : Bool) → (b || (q && o)) ≡ true → (b || (q && cond s true o)) ≡ true
    further true s o q e = refl
    further false s o true e = by s o e
      where
        by : (s o : Bool) → o ≡ true → cond s true o ≡ true
        by true o e = refl
        by false o e = e
    further false s o false e = e

    this_one : (b s o q : Bool) → (q && s) ≡ true → (b || (q && cond s true o)) ≡ true
    this_one true s o q e = refl
    this_one false true o true e = refl
    this_one false true o false e = e
    this_one false false o true e = never e
    this_one false false o false e = e

    to_continue : (w : Option Word) → continues (around.in_label n.text l a) w ≡ true → (J.continues (text_of w) || (l && is_to (text_of w) (n.text ∷ ls))) ≡ true
    to_continue None e = k.continues None e
    to_continue (Some x) e = either (l && same_units x.text n.text) _ e (λ h. this_one (J.continues (Some x.text)) (same_units x.text n.text) (is_to (Some x.text) ls) l h) (λ there. further (J.continues (Some x.text)) (same_units x.text n.text) (is_to (Some x.text) ls) l (k.continues (Some x) there))

-- a part whose forms have parts

two : {A B D : Type 0} {Q : A → Type 0} {R : B → Type 0} (T : D → Type 0) (o : Option A) (r : Option B) (f : A → B → D) → ((x : A) (y : B) → Q x → R y → T (f x y)) → IfSome o Q → IfSome r R → IfSome (both f o r) T
two T None r f g a b = tt
two T (Some x) None f g a b = tt
two T (Some x) (Some y) f g a b = g x y a b

one_of : {A D : Type 0} {Q : A → Type 0} (T : D → Type 0) (o : Option A) (f : A → D) → ((x : A) → Q x → T (f x)) → IfSome o Q → IfSome (one f o) T
one_of T None f g a = tt
one_of T (Some x) f g a = g x a

any : {A : Type 0} (o : Option A) → IfSome o (λ x. Unit {0})
any None = tt
any (Some x) = tt

three_of : {A B D E : Type 0} {Q : A → Type 0} {R : B → Type 0} {S : D → Type 0} (T : E → Type 0) (o : Option A) (r : Option B) (q : Option D) (f : A → B → D → E) → ((x : A) (y : B) (z : D) → Q x → R y → S z → T (f x y z)) → IfSome o Q → IfSome r R → IfSome q S → IfSome (three f o r q) T
three_of T None r q f g a b d = tt
three_of T (Some x) None q f g a b d = tt
three_of T (Some x) (Some y) None f g a b d = tt
three_of T (Some x) (Some y) (Some z) f g a b d = g x y z a b d

four_of : {A B D E F : Type 0} {Q : E → Type 0} (T : F → Type 0) (o : Option A) (r : Option B) (q : Option D) (l : Option E) (f : A → B → D → E → F) → ((x : A) (y : B) (z : D) (m : E) → Q m → T (f x y z m)) → IfSome l Q → IfSome (four f o r q l) T
four_of T None r q l f g a = tt
four_of T (Some x) None q l f g a = tt
four_of T (Some x) (Some y) None l f g a = tt
four_of T (Some x) (Some y) (Some z) None f g a = tt
four_of T (Some x) (Some y) (Some z) (Some m) f g a = g x y z m a

mutual
  unfolding resolved misplaced

  jumps : (x : Placed t.stmt) → Formed t.stmt x → {a : Around} {J : Jumps} {ls : List (List ℕ)} → Known a (is_loop x) J ls → misplaced a t.stmt x ≡ [] → IfSome (resolved t.stmt x) (Targets J ls c.stmt)
  jumps (p.block ss) h {J = J} {ls = ls} k e = one_of (Targets J ls c.stmt) (resolved t.stmts ss) c.block (λ y q. q) (jumps_of ss h (within false k) e)
  jumps (p.var is) h {J = J} {ls = ls} k e = one_of (Targets J ls c.stmt) (resolved t.items is) c.var (λ y q. tt) (any (resolved t.items is))
  jumps p.empty h {J = J} {ls = ls} k e = tt
  jumps (p.expression x) h {J = J} {ls = ls} k e = one_of (Targets J ls c.stmt) (resolved t.expr x) c.expression (λ y q. tt) (any (resolved t.expr x))
  jumps (p.branch x s m) h {J = J} {ls = ls} k e = three_of (Targets J ls c.stmt) (resolved t.expr x) (resolved t.stmt s) (resolved t.maybe_stmt m) c.branch (λ u v w q r l. (r, l)) (any (resolved t.expr x)) (jumps s h.1 (within (is_loop s) k) (no_back (misplaced _ t.expr x) _ (no_front (misplaced _ t.expr x ++ misplaced _ t.stmt s) _ e))) (side_jumps m h.2 (within false k) (no_back (misplaced _ t.expr x ++ misplaced _ t.stmt s) _ e))
  jumps (p.while_loop x s) h {J = J} {ls = ls} k e = two (Targets J ls c.stmt) (resolved t.expr x) (resolved t.stmt s) c.while_loop (λ u v q r. r) (any (resolved t.expr x)) (jumps s h.1 (within_loop (is_loop s) k) (no_back (misplaced _ t.expr x) _ e))
  jumps (p.do_loop s x) h {J = J} {ls = ls} k e = two (Targets J ls c.stmt) (resolved t.stmt s) (resolved t.expr x) c.do_loop (λ u v q r. q) (jumps s h.0 (within_loop (is_loop s) k) (no_front (misplaced _ t.stmt s) _ e)) (any (resolved t.expr x))
  jumps (p.for_loop i x y s) h {J = J} {ls = ls} k e = four_of (Targets J ls c.stmt) (resolved t.first i) (resolved t.maybe_expr x) (resolved t.maybe_expr y) (resolved t.stmt s) c.for_loop (λ u v w z q. q) (jumps s h.3 (within_loop (is_loop s) k) (no_back ((misplaced _ t.first i ++ misplaced _ t.maybe_expr x) ++ misplaced _ t.maybe_expr y) _ e))
  jumps (p.for_in i x s) h {J = J} {ls = ls} k e = three_of (Targets J ls c.stmt) (resolved t.loop_target i) (resolved t.expr x) (resolved t.stmt s) c.for_in (λ u v w q r l. l) (any (resolved t.loop_target i)) (any (resolved t.expr x)) (jumps s h.2 (within_loop (is_loop s) k) (no_back (misplaced _ t.loop_target i ++ misplaced _ t.expr x) _ e))
  jumps (p.continue l at) h {J = J} {ls = ls} k e = or_nothing (J.continues (text_of l)) (is_to (text_of l) ls) (k.continues l (jump_there _ at e))
  jumps (p.break l at) h {J = J} {ls = ls} k e = k.breaks l (jump_there _ at e)
  jumps (p.return m at) h {J = J} {ls = ls} k e = one_of (Targets J ls c.stmt) (resolved t.maybe_expr m) c.return (λ y q. k.returns (jump_there _ at (no_front (jump _ at) _ e))) (any (resolved t.maybe_expr m))
  jumps (p.with_object x s at) h {J = J} {ls = ls} k e = tt
  jumps (p.switch x cs) h {J = J} {ls = ls} k e = two (Targets J ls c.stmt) (resolved t.expr x) (resolved t.cases cs) c.switch (λ u v q r. r) (any (resolved t.expr x)) (clause_jumps cs h.1 (within_switch false k) (no_back (misplaced _ t.expr x) _ e))
  jumps (p.label n s) h {J = J} {ls = ls} k e = one_of (Targets J ls c.stmt) (resolved t.stmt s) (c.label n.text) (λ y q. q) (jumps s h (within_label (is_loop s) n k) (no_back _ _ e))
  jumps (p.throw x) h {J = J} {ls = ls} k e = one_of (Targets J ls c.stmt) (resolved t.expr x) c.throw (λ y q. tt) (any (resolved t.expr x))
  jumps (p.try ss d m) h {J = J} {ls = ls} k e =
      let front = no_front (misplaced _ t.stmts ss ++ misplaced _ t.handler d) _ e in
      three_of (Targets J ls c.stmt) (resolved t.stmts ss) (resolved t.handler d) (resolved t.maybe_block m) c.try (λ u v w q r l. (q, r, l)) (jumps_of ss h.0 (within false k) (no_front (misplaced _ t.stmts ss) _ front)) (catch_jumps d h.1 (within false k) (no_back (misplaced _ t.stmts ss) _ front)) (end_jumps m h.2 (within false k) (no_back (misplaced _ t.stmts ss ++ misplaced _ t.handler d) _ e))
  jumps (p.declare f) h {J = J} {ls = ls} k e = absurd h

  jumps_of : (ss : Placed t.stmts) → Formed t.stmts ss → {a : Around} {J : Jumps} → Known a false J [] → misplaced a t.stmts ss ≡ [] → IfSome (resolved t.stmts ss) (Targets J [] c.stmts)
  jumps_of p.no_stmts h {J = J} k e = tt
  jumps_of (p.more_stmts x ss) h {J = J} k e = subst (λ o. IfSome o (Targets J [] c.stmts)) (sym (stands x (resolved t.stmt x) (resolved t.stmts ss) (formed_stands x h.0))) (two (Targets J [] c.stmts) (resolved t.stmt x) (resolved t.stmts ss) c.more_stmts (λ u v q r. (q, r)) (jumps x h.0 (within (is_loop x) k) (no_front (misplaced _ t.stmt x) _ e)) (jumps_of ss h.1 k (no_back (misplaced _ t.stmt x) _ e)))

  side_jumps : (m : Placed t.maybe_stmt) → Formed t.maybe_stmt m → {a : Around} {J : Jumps} → Known a false J [] → misplaced a t.maybe_stmt m ≡ [] → IfSome (resolved t.maybe_stmt m) (Targets J [] c.maybe_stmt)
  side_jumps p.no_stmt h {J = J} k e = tt
  side_jumps (p.some_stmt x) h {J = J} k e = one_of (Targets J [] c.maybe_stmt) (resolved t.stmt x) c.some_stmt (λ y q. q) (jumps x h (within (is_loop x) k) e)

  end_jumps : (m : Placed t.maybe_block) → Formed t.maybe_block m → {a : Around} {J : Jumps} → Known a false J [] → misplaced a t.maybe_block m ≡ [] → IfSome (resolved t.maybe_block m) (Targets J [] c.maybe_block)
  end_jumps p.no_block h {J = J} k e = tt
  end_jumps (p.some_block ss) h {J = J} k e = one_of (Targets J [] c.maybe_block) (resolved t.stmts ss) c.some_block (λ y q. q) (jumps_of ss h k e)

  catch_jumps : (d : Placed t.handler) → Formed t.handler d → {a : Around} {J : Jumps} → Known a false J [] → misplaced a t.handler d ≡ [] → IfSome (resolved t.handler d) (Targets J [] c.handler)
  catch_jumps p.no_handler h {J = J} k e = tt
  catch_jumps (p.some_handler x ss) h {J = J} k e = one_of (Targets J [] c.handler) (resolved t.stmts ss) (c.some_handler x.text) (λ y q. q) (jumps_of ss h k e)

  clause_jumps : (cs : Placed t.cases) → Formed t.cases cs → {a : Around} {J : Jumps} → Known a false J [] → misplaced a t.cases cs ≡ [] → IfSome (resolved t.cases cs) (Targets J [] c.cases)
  clause_jumps p.no_cases h {J = J} k e = tt
  clause_jumps (p.more_cases m ss cs) h {J = J} k e = three_of (Targets J [] c.cases) (resolved t.maybe_expr m) (resolved t.stmts ss) (resolved t.cases cs) c.more_cases (λ u v w q r l. (r, l)) (any (resolved t.maybe_expr m)) (jumps_of ss h.1 k (no_back (misplaced _ t.maybe_expr m) _ (no_front (misplaced _ t.maybe_expr m ++ misplaced _ t.stmts ss) _ e))) (clause_jumps cs h.2 k (no_back (misplaced _ t.maybe_expr m ++ misplaced _ t.stmts ss) _ e))

-- those of a body's own statements
body_jumps : (ss : Placed t.stmts) → FormedBody ss → {a : Around} {J : Jumps} → Known a false J [] → misplaced a t.stmts ss ≡ [] → IfSome (resolved t.stmts ss) (Targets J [] c.stmts)
unfolding resolved misplaced
body_jumps p.no_stmts h k e = tt
body_jumps (p.more_stmts (p.declare (p.fun None ps body at)) ss) h k e = absurd h
body_jumps (p.more_stmts (p.declare (p.fun (Some n) ps body at)) ss) h k e = body_jumps ss h.1 k (no_back (misplaced in_function t.stmts body) _ e)
body_jumps (p.more_stmts x ss) h {a = a} {J = J} k e =
    two (Targets J [] c.stmts) (resolved t.stmt x) (resolved t.stmts ss) c.more_stmts (λ u v q r. (q, r)) (jumps x h.0 (within (is_loop x) k) (no_front (misplaced a t.stmt x) (misplaced a t.stmts ss) e)) (body_jumps ss h.1 k (no_back (misplaced a t.stmt x) (misplaced a t.stmts ss) e))

pub module_jumps : (ss : Placed t.stmts) → FormedBody ss → misplaced in_program t.stmts ss ≡ [] → IfSome (resolved t.stmts ss) (Targets no_jumps [] c.stmts)
module_jumps ss h e = body_jumps ss h in_a_program e

pub own_jumps : (ss : Placed t.stmts) → FormedBody ss → misplaced in_function t.stmts ss ≡ [] → IfSome (resolved t.stmts ss) (Targets function_jumps [] c.stmts)
own_jumps ss h e = body_jumps ss h in_a_function e
