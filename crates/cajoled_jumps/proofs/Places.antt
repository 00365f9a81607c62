-- Which jumps and labels are misplaced doesn't go by places.
use Rattle.std.proofs.Common.{◌≡◌, ℕ, Bool, true, false, List, [], ◌∷◌, ◌++◌, Option, Some, None, refl, sym, ap, subst, ◌∙◌}
use Rattle.std.specs.Prelude.{◌&&◌, not, ◌↔◌}
use Rattle.es3_tree.specs.Tree as t
use Rattle.es3_tree.specs.Placed as p
use Rattle.es3_tree.specs.Placed.{Placed, Word}
use Rattle.es3_grammar.specs.Plain.{plain, plain_name}
use Rattle.es3_labels.specs.Around.{Around, in_program, in_function, in_loop, in_switch, in_label, has_label, has_function}
use Rattle.es3_labels.specs.Misplaced as placed
use Rattle.es3_labels.specs.Misplaced.{Misplaced, misplaced, jump, again}
use Rattle.cajoled_jumps.specs.Targets.{continues, breaks, is_loop, targeted}

-- ---- lists that hold nothing

abbrev none_of : List Misplaced → Bool
none_of [] = true
none_of (m ∷ ms) = false

-- the list holds nothing just where it is so
record Tells (ms : List Misplaced) (b : Bool) : Type 0 where
  same : none_of ms ≡ b

nothing : Tells [] true
nothing = record { same = refl }

two : {xs ys : List Misplaced} {b d : Bool} → Tells xs b → Tells ys d → Tells (xs ++ ys) (b && d)
two {xs = xs} {ys = ys} {b = b} h i = record { same = both xs ys ∙ ap (λ e. e && none_of ys) h.same ∙ ap (λ e. b && e) i.same }
  where
    both : (xs ys : List Misplaced) → none_of (xs ++ ys) ≡ (none_of xs && none_of ys)
    both [] ys = refl
    both (x ∷ xs) ys = refl

three : {xs ys zs : List Misplaced} {b d e : Bool} → Tells xs b → Tells ys d → Tells zs e → Tells ((xs ++ ys) ++ zs) ((b && d) && e)
three h i j = two (two h i) j

-- ---- jumps and labels

jumps : (b : Bool) (at : ℕ) → Tells (jump b at) b
jumps true at = record { same = refl }
jumps false at = record { same = refl }

labels : (b : Bool) (l : Word) → Tells (again b l) (not b)
labels true l = record { same = refl }
labels false l = record { same = refl }

loops : (x : Placed t.stmt) → placed.is_loop x ≡ is_loop (plain t.stmt x)
loops (p.block xs) = refl
loops (p.var is) = refl
loops p.empty = refl
loops (p.expression e) = refl
loops (p.branch e x y) = refl
loops (p.while_loop e x) = refl
loops (p.do_loop x e) = refl
loops (p.for_loop i e u x) = refl
loops (p.for_in i e x) = refl
loops (p.continue l at) = refl
loops (p.break l at) = refl
loops (p.return e at) = refl
loops (p.with_object e x at) = refl
loops (p.switch e cs) = refl
loops (p.label l x) = loops x
loops (p.throw e) = refl
loops (p.try xs h f) = refl
loops (p.declare f) = refl

continuing : (a : Around) (l : Option Word) → placed.continues a l ≡ continues a (plain_name l)
continuing a None = refl
continuing a (Some l) = refl

breaking : (a : Around) (l : Option Word) → placed.breaks a l ≡ breaks a (plain_name l)
breaking a None = refl
breaking a (Some l) = refl

-- ---- each form

by_tree : (a : Around) (s : t.Sort) (x : Placed s) → Tells (misplaced a s x) (targeted a s (plain s x))
unfolding misplaced targeted
by_tree a _ (p.this at) = nothing
by_tree a _ p.null = nothing
by_tree a _ (p.bool b) = nothing
by_tree a _ (p.num n) = nothing
by_tree a _ (p.text u) = nothing
by_tree a _ (p.name x) = nothing
by_tree a _ (p.array es) = by_tree a t.exprs es
by_tree a _ (p.object fs) = by_tree a t.fields fs
by_tree a _ (p.function f) = by_tree a t.func f
by_tree a _ (p.dot e k) = by_tree a t.expr e
by_tree a _ (p.index e f) = two (by_tree a t.expr e) (by_tree a t.expr f)
by_tree a _ (p.call e es) = two (by_tree a t.expr e) (by_tree a t.exprs es)
by_tree a _ (p.new e es) = two (by_tree a t.expr e) (by_tree a t.exprs es)
by_tree a _ (p.unary op e at) = by_tree a t.expr e
by_tree a _ (p.step up before e) = by_tree a t.expr e
by_tree a _ (p.binary op e f) = two (by_tree a t.expr e) (by_tree a t.expr f)
by_tree a _ (p.and e f) = two (by_tree a t.expr e) (by_tree a t.expr f)
by_tree a _ (p.or e f) = two (by_tree a t.expr e) (by_tree a t.expr f)
by_tree a _ (p.choice e f g) = three (by_tree a t.expr e) (by_tree a t.expr f) (by_tree a t.expr g)
by_tree a _ (p.assign op e f) = two (by_tree a t.expr e) (by_tree a t.expr f)
by_tree a _ (p.comma e f) = two (by_tree a t.expr e) (by_tree a t.expr f)
by_tree a _ p.no_exprs = nothing
by_tree a _ (p.more_exprs e es) = two (by_tree a t.expr e) (by_tree a t.exprs es)
by_tree a _ p.no_fields = nothing
by_tree a _ (p.more_fields k e fs) = two (by_tree a t.expr e) (by_tree a t.fields fs)
by_tree a _ p.no_expr = nothing
by_tree a _ (p.some_expr e) = by_tree a t.expr e
by_tree a _ (p.block xs) = by_tree a t.stmts xs
by_tree a _ (p.var is) = by_tree a t.items is
by_tree a _ p.empty = nothing
by_tree a _ (p.expression e) = by_tree a t.expr e
by_tree a _ (p.branch e x y) = three (by_tree a t.expr e) (by_tree a t.stmt x) (by_tree a t.maybe_stmt y)
by_tree a _ (p.while_loop e x) = two (by_tree a t.expr e) (by_tree (in_loop a) t.stmt x)
by_tree a _ (p.do_loop x e) = two (by_tree (in_loop a) t.stmt x) (by_tree a t.expr e)
by_tree a _ (p.for_loop i e u x) = two (three (by_tree a t.first i) (by_tree a t.maybe_expr e) (by_tree a t.maybe_expr u)) (by_tree (in_loop a) t.stmt x)
by_tree a _ (p.for_in i e x) = three (by_tree a t.loop_target i) (by_tree a t.expr e) (by_tree (in_loop a) t.stmt x)
by_tree a _ (p.continue l at) = subst (Tells (jump (placed.continues a l) at)) (continuing a l) (jumps (placed.continues a l) at)
by_tree a _ (p.break l at) = subst (Tells (jump (placed.breaks a l) at)) (breaking a l) (jumps (placed.breaks a l) at)
by_tree a _ (p.return e at) = two (jumps (has_function a) at) (by_tree a t.maybe_expr e)
by_tree a _ (p.with_object e x at) = two (by_tree a t.expr e) (by_tree a t.stmt x)
by_tree a _ (p.switch e cs) = two (by_tree a t.expr e) (by_tree (in_switch a) t.cases cs)
by_tree a _ (p.label l x) =
    two (labels (has_label a l.text) l)
    (subst (λ b. Tells (misplaced (in_label l.text (placed.is_loop x) a) t.stmt x) (targeted (in_label l.text b a) t.stmt (plain t.stmt x))) (loops x) (by_tree (in_label l.text (placed.is_loop x) a) t.stmt x))
by_tree a _ (p.throw e) = by_tree a t.expr e
by_tree a _ (p.try xs h f) = three (by_tree a t.stmts xs) (by_tree a t.handler h) (by_tree a t.maybe_block f)
by_tree a _ (p.declare f) = by_tree a t.func f
by_tree a _ p.no_stmts = nothing
by_tree a _ (p.more_stmts x xs) = two (by_tree a t.stmt x) (by_tree a t.stmts xs)
by_tree a _ p.no_items = nothing
by_tree a _ (p.more_items x e is) = two (by_tree a t.maybe_expr e) (by_tree a t.items is)
by_tree a _ p.no_stmt = nothing
by_tree a _ (p.some_stmt x) = by_tree a t.stmt x
by_tree a _ p.no_block = nothing
by_tree a _ (p.some_block xs) = by_tree a t.stmts xs
by_tree a _ p.no_first = nothing
by_tree a _ (p.first_var is) = by_tree a t.items is
by_tree a _ (p.first_expr e) = by_tree a t.expr e
by_tree a _ (p.loop_var x) = nothing
by_tree a _ (p.loop_expr e) = by_tree a t.expr e
by_tree a _ p.no_cases = nothing
by_tree a _ (p.more_cases e xs cs) = three (by_tree a t.maybe_expr e) (by_tree a t.stmts xs) (by_tree a t.cases cs)
by_tree a _ p.no_handler = nothing
by_tree a _ (p.some_handler x xs) = by_tree a t.stmts xs
by_tree a _ (p.fun name params body at) = by_tree in_function t.stmts body
by_tree a _ (p.script xs) = by_tree in_program t.stmts xs

empty_list : (ms : List Misplaced) → none_of ms ≡ true → ms ≡ []
empty_list [] h = refl
empty_list (m ∷ ms) h = absurd cc

pub none_where_targeted : (a : Around) (s : t.Sort) (x : Placed s) → (misplaced a s x ≡ []) ↔ (targeted a s (plain s x) ≡ true)
none_where_targeted a s x = (λ h. sym (by_tree a s x).same ∙ ap none_of h, λ h. empty_list (misplaced a s x) ((by_tree a s x).same ∙ h))
