-- A higher part makes a higher tree, and what is added at the end of a list is as deep as it is.
use Rattle.std.proofs.Common.{◌≡◌, ℕ, ◌+◌, ◌≤◌, max, Bool, true, false, cond, List, [], ◌∷◌, ◌++◌, refl, arith}
use Rattle.es3_tree.specs.Tree as t
use Rattle.es3_tree.specs.Placed.{Placed, Word}
use Rattle.es3_grammar.specs.Levels.{E, Join, an_op, an_and, an_or, an_assign, a_comma, joined}
use Rattle.es3_grammar.specs.Grammar.{S}
use Rattle.es3_grammar.specs.Plain.{deep}
use Rattle.es3_grammar.specs.Frames.{Field, Item, Clause, stmts_of, items_of, cases_of, Opened, an_array, a_call, a_new, a_program, a_block, a_function, a_clause, a_try, a_catch, a_finally, paren, subscript, items, field, new_of, prefix_step, prefix, join, test, either, statement, value, if_test, while_test, do_test, for_first, for_test, for_step, for_object, giving, throwing, with_head, switch_head, case_test, then_of, else_of, while_body, do_body, for_body, in_body, with_body, label_of, body, Stack, exprs_of, fields_of}
use Rattle.es3_grammar.specs.Ends.{stepping, height_at, height_behind}

stepping_more : (b : Bool) (h k : ℕ) → h ≤ k → stepping b h ≤ stepping b k
stepping_more true h k le = le
stepping_more false h k le = omega arith

pub cond_more : (d : Bool) (a b x y : ℕ) → a ≤ x → b ≤ y → cond d a b ≤ cond d x y
cond_more true a b x y p q = p
cond_more false a b x y p q = q

mutual
  pub more_at : (f : Stack) (b : Bool) (h k : ℕ) → h ≤ k → height_at b f h ≤ height_at b f k
  more_at [] b h k le = le
  more_at (paren ∷ f) b h k le = more_at f b h k le
  more_at (subscript x ∷ f) b h k le = more_at f true _ _ (omega arith)
  more_at (items an_array xs ∷ f) b h k le = more_at f false _ _ (omega arith)
  more_at (items (a_call x) xs ∷ f) b h k le = more_at f false _ _ (omega arith)
  more_at (items (a_new x) xs ∷ f) b h k le = more_at f false _ _ (omega arith)
  more_at (field fs n ∷ f) b h k le = more_at f false _ _ (omega arith)
  more_at (new_of ∷ f) b h k le = more_at f false _ _ (omega arith)
  more_at (prefix_step up ∷ f) b h k le = more_at f false _ _ (omega (arith, stepping_more b h k le))
  more_at (prefix op a ∷ f) b h k le = more_at f false _ _ (omega arith)
  more_at (join j x ∷ f) b h k le = more_at f false _ _ (omega arith)
  more_at (test x ∷ f) b h k le = more_at f false _ _ (omega arith)
  more_at (either x y ∷ f) b h k le = more_at f false _ _ (omega arith)
  more_at (statement ∷ f) b h k le = more_behind f _ _ (omega arith)
  more_at (value true n its ∷ f) b h k le = more_behind f _ _ (omega arith)
  more_at (value false n its ∷ f) b h k le = more_behind f _ _ (omega arith)
  more_at (if_test ∷ f) b h k le = more_behind f _ _ (omega arith)
  more_at (while_test ∷ f) b h k le = more_behind f _ _ (omega arith)
  more_at (do_test s ∷ f) b h k le = more_behind f _ _ (omega arith)
  more_at (for_first ∷ f) b h k le = more_behind f _ _ (omega arith)
  more_at (for_test r ∷ f) b h k le = more_behind f _ _ (omega arith)
  more_at (for_step r m ∷ f) b h k le = more_behind f _ _ (omega arith)
  more_at (for_object r ∷ f) b h k le = more_behind f _ _ (omega arith)
  more_at (giving a ∷ f) b h k le = more_behind f _ _ (omega arith)
  more_at (throwing ∷ f) b h k le = more_behind f _ _ (omega arith)
  more_at (with_head a ∷ f) b h k le = more_behind f _ _ (omega arith)
  more_at (switch_head ∷ f) b h k le = more_behind f _ _ (omega arith)
  more_at (case_test x cs ∷ f) b h k le = more_behind f _ _ (omega arith)
  more_at (_ ∷ f) b h k le = le

  pub more_behind : (f : Stack) (h k : ℕ) → h ≤ k → height_behind f h ≤ height_behind f k
  more_behind [] h k le = le
  more_behind (then_of x ∷ f) h k le = more_behind f _ _ (omega arith)
  more_behind (else_of x s ∷ f) h k le = more_behind f _ _ (omega arith)
  more_behind (while_body x ∷ f) h k le = more_behind f _ _ (omega arith)
  more_behind (do_body ∷ f) h k le = more_behind f _ _ (omega arith)
  more_behind (for_body r m n ∷ f) h k le = more_behind f _ _ (omega arith)
  more_behind (in_body r x ∷ f) h k le = more_behind f _ _ (omega arith)
  more_behind (with_body x a ∷ f) h k le = more_behind f _ _ (omega arith)
  more_behind (label_of n ∷ f) h k le = more_behind f _ _ (omega arith)
  more_behind (body a_program ss ∷ f) h k le = omega arith
  more_behind (body a_block ss ∷ f) h k le = more_behind f _ _ (omega arith)
  more_behind (body (a_function g ps) ss ∷ f) h k le = cond_more g.declared _ _ _ _ (more_behind f _ _ (omega arith)) (more_at f false _ _ (omega arith))
  more_behind (body (a_clause x cs m) ss ∷ f) h k le = more_behind f _ _ (omega arith)
  more_behind (body a_try ss ∷ f) h k le = more_behind f _ _ (omega arith)
  more_behind (body (a_catch rs n) ss ∷ f) h k le = more_behind f _ _ (omega arith)
  more_behind (body (a_finally rs g) ss ∷ f) h k le = more_behind f _ _ (omega arith)
  more_behind (_ ∷ f) h k le = le

-- a target is never dearer, and whatever is no target becomes one by one member
pub target_less : (f : Stack) (b : Bool) (h : ℕ) → height_at true f h ≤ height_at b f h
target_less [] b h = omega arith
target_less (paren ∷ f) b h = target_less f b h
target_less (prefix_step up ∷ f) true h = omega arith
target_less (prefix_step up ∷ f) false h = more_at f false (1 + h) (1 + (1 + h)) (omega arith)
target_less (items o xs ∷ f) b h = same_items o xs f b h
  where
    same_items : (o : Opened) (xs : List E) (f : Stack) (b : Bool) (h : ℕ) → height_at true (items o xs ∷ f) h ≤ height_at b (items o xs ∷ f) h
    same_items an_array xs f b h = omega arith
    same_items (a_call x) xs f b h = omega arith
    same_items (a_new x) xs f b h = omega arith
target_less (value true n its ∷ f) b h = omega arith
target_less (value false n its ∷ f) b h = omega arith
target_less (_ ∷ f) b h = omega arith

pub target_next : (f : Stack) (b : Bool) (h : ℕ) → height_at b f h ≤ height_at true f (1 + h)
target_next [] b h = omega arith
target_next (paren ∷ f) b h = target_next f b h
target_next (prefix_step up ∷ f) true h = more_at f false (1 + h) (1 + (1 + h)) (omega arith)
target_next (prefix_step up ∷ f) false h = omega arith
target_next (items an_array xs ∷ f) b h = more_at (items an_array xs ∷ f) b h (1 + h) (omega arith)
target_next (items (a_call x) xs ∷ f) b h = more_at (items (a_call x) xs ∷ f) b h (1 + h) (omega arith)
target_next (items (a_new x) xs ∷ f) b h = more_at (items (a_new x) xs ∷ f) b h (1 + h) (omega arith)
target_next (value true n its ∷ f) b h = more_at (value true n its ∷ f) b h (1 + h) (omega arith)
target_next (value false n its ∷ f) b h = more_at (value false n its ∷ f) b h (1 + h) (omega arith)
target_next (g ∷ f) b h = more_at (g ∷ f) b h (1 + h) (omega arith)

pub any_next : (f : Stack) (b c : Bool) (h k : ℕ) → 1 + h ≤ k → height_at b f h ≤ height_at c f k
any_next f b c h k le = omega (arith, target_next f b h, more_at f true (1 + h) k le, target_less f c k)

-- ---- the depth of lists

pub joined_deep : (j : Join) (x y : E) → deep t.expr (joined j x y) ≡ 1 + max (deep t.expr x) (deep t.expr y)
joined_deep (an_op op) x y = refl
joined_deep an_and x y = refl
joined_deep an_or x y = refl
joined_deep (an_assign op) x y = refl
joined_deep a_comma x y = refl

pub exprs_deep : (xs : List E) (y : E) → deep t.exprs (exprs_of (xs ++ y ∷ [])) ≡ max (deep t.exprs (exprs_of xs)) (deep t.expr y)
exprs_deep [] y = omega arith
exprs_deep (x ∷ xs) y = omega (arith, exprs_deep xs y)

pub fields_deep : (xs : List Field) (n : Word) (y : E) → deep t.fields (fields_of (xs ++ (n, y) ∷ [])) ≡ max (deep t.fields (fields_of xs)) (deep t.expr y)
fields_deep [] n y = omega arith
fields_deep (x ∷ xs) n y = omega (arith, fields_deep xs n y)

pub stmts_deep : (xs : List S) (y : S) → deep t.stmts (stmts_of (xs ++ y ∷ [])) ≡ max (deep t.stmts (stmts_of xs)) (deep t.stmt y)
stmts_deep [] y = omega arith
stmts_deep (x ∷ xs) y = omega (arith, stmts_deep xs y)

pub items_deep : (xs : List Item) (n : Word) (y : Placed t.maybe_expr) → deep t.items (items_of (xs ++ (n, y) ∷ [])) ≡ max (deep t.items (items_of xs)) (deep t.maybe_expr y)
items_deep [] n y = omega arith
items_deep (x ∷ xs) n y = omega (arith, items_deep xs n y)

pub cases_deep : (xs : List Clause) (m : Placed t.maybe_expr) (ss : List S) → deep t.cases (cases_of (xs ++ (m, ss) ∷ [])) ≡ max (deep t.cases (cases_of xs)) (max (deep t.maybe_expr m) (deep t.stmts (stmts_of ss)))
cases_deep [] m ss = omega arith
cases_deep (x ∷ xs) m ss = omega (arith, cases_deep xs m ss)
