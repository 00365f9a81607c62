-- What resolution keeps of statements: whether one ends in an `if` without `else` (ES3 12.5), and whether the clauses of a `switch` have one `default` (12.11).
use Rattle.std.proofs.Common.{◌≡◌, Bool, true, false, Option, Some, None, refl, ap, ◌∙◌}
use Rattle.std.specs.Prelude.{not, IfSome}
use Rattle.es3_tree.specs.Tree as t
use Rattle.es3_tree.specs.Placed as tree
use Rattle.es3_tree.specs.Placed.{Placed}
use Rattle.es3_grammar.specs.Grammar as grammar
use Rattle.cajita_tree.specs.Tree as c
use Rattle.cajita_forms.specs.Options.{one, both, three, four}
use Rattle.scope_rules.specs.Resolve.{resolved}
use Rattle.scope_rules.proofs.Options.{one_any, both_any, three_any, all_of}
use Rattle.cajoled_text.specs.Clean.{is_open, has_default, one_default}

-- ---- what a statement ends in

abbrev IsOpen : Bool → c.Tree c.stmt → Type 0
IsOpen b y = is_open y ≡ b

one_ends : (f : c.Tree c.stmt → c.Tree c.stmt) (b : Bool) → ((y : c.Tree c.stmt) → is_open (f y) ≡ is_open y) → (o : Option (c.Tree c.stmt)) → IfSome o (IsOpen b) → IfSome (one f o) (IsOpen b)
one_ends f b g None h = tt
one_ends f b g (Some y) h = g y ∙ h

both_ends : {A : Type 0} (f : A → c.Tree c.stmt → c.Tree c.stmt) (b : Bool) → ((x : A) (y : c.Tree c.stmt) → is_open (f x y) ≡ is_open y) → (o : Option A) (r : Option (c.Tree c.stmt))
    → IfSome r (IsOpen b) → IfSome (both f o r) (IsOpen b)
both_ends f b g None r h = tt
both_ends f b g (Some x) None h = tt
both_ends f b g (Some x) (Some y) h = g x y ∙ h

three_ends : {A B : Type 0} (f : A → B → c.Tree c.stmt → c.Tree c.stmt) (b : Bool) → ((x : A) (y : B) (z : c.Tree c.stmt) → is_open (f x y z) ≡ is_open z)
    → (o : Option A) (r : Option B) (q : Option (c.Tree c.stmt)) → IfSome q (IsOpen b) → IfSome (three f o r q) (IsOpen b)
three_ends f b g None r q h = tt
three_ends f b g (Some x) None q h = tt
three_ends f b g (Some x) (Some y) None h = tt
three_ends f b g (Some x) (Some y) (Some z) h = g x y z ∙ h

four_ends : {A B D : Type 0} (f : A → B → D → c.Tree c.stmt → c.Tree c.stmt) (b : Bool) → ((x : A) (y : B) (z : D) (w : c.Tree c.stmt) → is_open (f x y z w) ≡ is_open w)
    → (o : Option A) (r : Option B) (q : Option D) (u : Option (c.Tree c.stmt)) → IfSome u (IsOpen b) → IfSome (four f o r q u) (IsOpen b)
four_ends f b g None r q u h = tt
four_ends f b g (Some x) None q u h = tt
four_ends f b g (Some x) (Some y) None u h = tt
four_ends f b g (Some x) (Some y) (Some z) None h = tt
four_ends f b g (Some x) (Some y) (Some z) (Some w) h = g x y z w ∙ h

branch_ends : (o : Option (c.Tree c.expr)) (r : Option (c.Tree c.stmt)) → IfSome (three c.branch o r (Some c.no_stmt)) (IsOpen true)
branch_ends None r = tt
branch_ends (Some x) None = tt
branch_ends (Some x) (Some y) = refl

else_ends : (b : Bool) (o : Option (c.Tree c.expr)) (r q : Option (c.Tree c.stmt)) → IfSome q (IsOpen b) → IfSome (three c.branch o r (one c.some_stmt q)) (IsOpen b)
else_ends b None r q h = tt
else_ends b (Some x) None q h = tt
else_ends b (Some x) (Some y) None h = tt
else_ends b (Some x) (Some y) (Some z) h = h

same_open : (s : Placed t.stmt) → IfSome (resolved t.stmt s) (IsOpen (grammar.is_open s))
unfolding resolved
same_open (tree.block ss) = one_any c.block (IsOpen false) (λ y. refl) (resolved t.stmts ss)
same_open (tree.var is) = one_any c.var (IsOpen false) (λ y. refl) (resolved t.items is)
same_open tree.empty = refl
same_open (tree.expression x) = one_any c.expression (IsOpen false) (λ y. refl) (resolved t.expr x)
same_open (tree.branch x s tree.no_stmt) = branch_ends (resolved t.expr x) (resolved t.stmt s)
same_open (tree.branch x s (tree.some_stmt e)) = else_ends (grammar.is_open e) (resolved t.expr x) (resolved t.stmt s) (resolved t.stmt e) (same_open e)
same_open (tree.while_loop x s) = both_ends c.while_loop (grammar.is_open s) (λ x y. refl) (resolved t.expr x) (resolved t.stmt s) (same_open s)
same_open (tree.do_loop s x) = both_any c.do_loop (IsOpen false) (λ y z. refl) (resolved t.stmt s) (resolved t.expr x)
same_open (tree.for_loop i m n s) = four_ends c.for_loop (grammar.is_open s) (λ x y z w. refl) (resolved t.first i) (resolved t.maybe_expr m) (resolved t.maybe_expr n) (resolved t.stmt s) (same_open s)
same_open (tree.for_in i x s) = three_ends c.for_in (grammar.is_open s) (λ x y z. refl) (resolved t.loop_target i) (resolved t.expr x) (resolved t.stmt s) (same_open s)
same_open (tree.continue n a) = refl
same_open (tree.break n a) = refl
same_open (tree.return m a) = one_any c.return (IsOpen false) (λ y. refl) (resolved t.maybe_expr m)
same_open (tree.with_object x s a) = tt
same_open (tree.switch x cs) = both_any c.switch (IsOpen false) (λ y z. refl) (resolved t.expr x) (resolved t.cases cs)
same_open (tree.label n s) = one_ends (c.label n.text) (grammar.is_open s) (λ y. refl) (resolved t.stmt s) (same_open s)
same_open (tree.throw x) = one_any c.throw (IsOpen false) (λ y. refl) (resolved t.expr x)
same_open (tree.try ss h m) = three_any c.try (IsOpen false) (λ x y z. refl) (resolved t.stmts ss) (resolved t.handler h) (resolved t.maybe_block m)
same_open (tree.declare f) = refl

pub resolved_closed : (s : Placed t.stmt) → grammar.is_open s ≡ false → IfSome (resolved t.stmt s) (λ y. is_open y ≡ false)
resolved_closed s e = all_of (IsOpen (grammar.is_open s)) (IsOpen false) (λ y h. h ∙ e) (resolved t.stmt s) (same_open s)

-- ---- what the clauses of a `switch` have

abbrev HasDefaults : Bool → Bool → c.Tree c.cases → Type 0
HasDefaults has single y = (has_default y ≡ has) × (one_default y ≡ single)

default_first : (a b : Bool) (r : Option (c.Tree c.stmts)) (q : Option (c.Tree c.cases)) → IfSome q (HasDefaults a b) → IfSome (three c.more_cases (Some c.no_expr) r q) (HasDefaults true (not a))
default_first a b None q h = tt
default_first a b (Some ss) None h = tt
default_first a b (Some ss) (Some cs) h = (refl, ap not h.0)

case_first : (a b : Bool) (o : Option (c.Tree c.expr)) (r : Option (c.Tree c.stmts)) (q : Option (c.Tree c.cases)) → IfSome q (HasDefaults a b)
    → IfSome (three c.more_cases (one c.some_expr o) r q) (HasDefaults a b)
case_first a b None r q h = tt
case_first a b (Some x) None q h = tt
case_first a b (Some x) (Some ss) None h = tt
case_first a b (Some x) (Some ss) (Some cs) h = h

same_defaults : (cs : Placed t.cases) → IfSome (resolved t.cases cs) (HasDefaults (grammar.has_default cs) (grammar.one_default cs))
unfolding resolved
same_defaults tree.no_cases = (refl, refl)
same_defaults (tree.more_cases tree.no_expr ss cs) = default_first (grammar.has_default cs) (grammar.one_default cs) (resolved t.stmts ss) (resolved t.cases cs) (same_defaults cs)
same_defaults (tree.more_cases (tree.some_expr x) ss cs) =
    case_first (grammar.has_default cs) (grammar.one_default cs) (resolved t.expr x) (resolved t.stmts ss) (resolved t.cases cs) (same_defaults cs)

pub resolved_one : (cs : Placed t.cases) → grammar.one_default cs ≡ true → IfSome (resolved t.cases cs) (λ y. one_default y ≡ true)
resolved_one cs e = all_of (HasDefaults (grammar.has_default cs) (grammar.one_default cs)) (λ y. one_default y ≡ true) (λ y h. h.1 ∙ e) (resolved t.cases cs) (same_defaults cs)
