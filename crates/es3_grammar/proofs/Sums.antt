-- The sums of a stack say how deep its shortest end is, and numbers of 32 bits say it as far as they reach.
use Rattle.std.proofs.Common.{◌≡◌, ℕ, ◌+◌, ◌<◌, max, Bool, true, false, cond, ◌∷◌, [], nat_le, refl, arith, ◌∙◌}
use Rattle.std.proofs.lemmas.Bool.{leb-true, leb-false, le-leb, lt-leb}
use Rattle.es3_tree.specs.Tree as t
use Rattle.es3_grammar.specs.Plain.{deep}
use Rattle.es3_grammar.specs.Frames.{stmts_of, an_array, a_call, a_new, a_program, a_block, a_function, a_clause, a_try, a_catch, a_finally, paren, subscript, items, field, new_of, prefix_step, prefix, join, test, either, statement, value, if_test, while_test, do_test, for_first, for_test, for_step, for_object, giving, throwing, with_head, switch_head, case_test, then_of, else_of, while_body, do_body, for_body, in_body, with_body, label_of, body, Stack, no_in_here, exprs_of, fields_of, items_of, cases_of}
use Rattle.es3_grammar.specs.Ends.{stepped, height_at, height_behind}
use Rattle.es3_grammar.specs.Sums.{Rise, rise, level_rise, raise, capped, IsCapped, around, part_sums, behind_sums, sums}

-- a frame that an expression stands in is the same round a target and round what is none
part_at : (r : Rise) (o n b : Bool) (m h : ℕ) → m ≡ rise r h → m ≡ rise (around b (part_sums r o n)) h
part_at r o n true m h e = e
part_at r o n false m h e = e

pub raised : (c d : ℕ) (r : Rise) (h : ℕ) → rise r (c + max d h) ≡ rise (raise c d r) h
raised c d r h = omega arith

function_rise : (d : Bool) (k o : Rise) (x y c s h : ℕ) → x ≡ rise k (c + max s h) → y ≡ rise o (c + max s h) → cond d x y ≡ rise (raise c s (cond d k o)) h
function_rise true k o x y c s h p q = p ∙ raised c s k h
function_rise false k o x y c s h p q = q ∙ raised c s o h

level : (h : ℕ) → h ≡ rise level_rise h
level h = omega arith

level_at : (r : Rise) (o b : Bool) (h : ℕ) → h ≡ rise (around b (behind_sums r o)) h
level_at r o true h = level h
level_at r o false h = level h

mutual
  pub at_sums : (f : Stack) (b : Bool) (h : ℕ) → height_at b f h ≡ rise (around b (sums f)) h
  at_sums [] b h = part_at _ _ _ b _ h (level h)
  at_sums (paren ∷ f) true h = at_sums f true h
  at_sums (paren ∷ f) false h = at_sums f false h
  at_sums (subscript x ∷ f) b h = part_at _ _ _ b _ h (omega (arith, at_sums f true (1 + max (deep t.expr x) h)))
  at_sums (items an_array xs ∷ f) b h = part_at _ _ _ b _ h (omega (arith, at_sums f false (1 + max (deep t.exprs (exprs_of xs)) h)))
  at_sums (items (a_call x) xs ∷ f) b h = part_at _ _ _ b _ h (omega (arith, at_sums f false (1 + max (deep t.expr x) (max (deep t.exprs (exprs_of xs)) h))))
  at_sums (items (a_new x) xs ∷ f) b h = part_at _ _ _ b _ h (omega (arith, at_sums f false (1 + max (deep t.expr x) (max (deep t.exprs (exprs_of xs)) h))))
  at_sums (field fs n ∷ f) b h = part_at _ _ _ b _ h (omega (arith, at_sums f false (1 + max (deep t.fields (fields_of fs)) h)))
  at_sums (new_of ∷ f) true h = omega (arith, at_sums f false (1 + h))
  at_sums (new_of ∷ f) false h = omega (arith, at_sums f false (1 + h))
  at_sums (prefix_step up ∷ f) true h = omega (arith, at_sums f false (1 + h))
  at_sums (prefix_step up ∷ f) false h = omega (arith, at_sums f false (1 + (1 + h)))
  at_sums (prefix op a ∷ f) b h = part_at _ _ _ b _ h (omega (arith, at_sums f false (1 + h)))
  at_sums (join j x ∷ f) b h = part_at _ _ _ b _ h (omega (arith, at_sums f false (1 + max (deep t.expr x) h)))
  at_sums (test x ∷ f) b h = part_at _ _ _ b _ h (omega (arith, at_sums f false (1 + max (deep t.expr x) (max h 1))))
  at_sums (either x y ∷ f) b h = part_at _ _ _ b _ h (omega (arith, at_sums f false (1 + max (deep t.expr x) (max (deep t.expr y) h))))
  at_sums (statement ∷ f) b h = part_at _ _ _ b _ h (omega (arith, height_sums f (1 + h)))
  at_sums (value true n its ∷ f) b h = part_at _ _ _ b _ h (omega (arith, height_sums f (1 + max (max (deep t.items (items_of its)) h) 1)))
  at_sums (value false n its ∷ f) b h = part_at _ _ _ b _ h (omega (arith, height_sums f (1 + max (deep t.items (items_of its)) h)))
  at_sums (if_test ∷ f) b h = part_at _ _ _ b _ h (omega (arith, height_sums f (1 + max h 1)))
  at_sums (while_test ∷ f) b h = part_at _ _ _ b _ h (omega (arith, height_sums f (1 + max h 1)))
  at_sums (do_test s ∷ f) b h = part_at _ _ _ b _ h (omega (arith, height_sums f (1 + max (deep t.stmt s) h)))
  at_sums (for_first ∷ f) b h = part_at _ _ _ b _ h (omega (arith, height_sums f (1 + max h 1)))
  at_sums (for_test r ∷ f) b h = part_at _ _ _ b _ h (omega (arith, height_sums f (1 + max (deep t.first r) (max h 1))))
  at_sums (for_step r m ∷ f) b h = part_at _ _ _ b _ h (omega (arith, height_sums f (1 + max (deep t.first r) (max (deep t.maybe_expr m) (max h 1)))))
  at_sums (for_object r ∷ f) b h = part_at _ _ _ b _ h (omega (arith, height_sums f (1 + max (deep t.loop_target r) (max h 1))))
  at_sums (giving a ∷ f) b h = part_at _ _ _ b _ h (omega (arith, height_sums f (1 + h)))
  at_sums (throwing ∷ f) b h = part_at _ _ _ b _ h (omega (arith, height_sums f (1 + h)))
  at_sums (with_head a ∷ f) b h = part_at _ _ _ b _ h (omega (arith, height_sums f (1 + max h 1)))
  at_sums (switch_head ∷ f) b h = part_at _ _ _ b _ h (omega (arith, height_sums f (1 + h)))
  at_sums (case_test x cs ∷ f) b h = part_at _ _ _ b _ h (omega (arith, height_sums f (1 + max (deep t.expr x) (max (deep t.cases (cases_of cs)) h))))
  at_sums (_ ∷ f) b h = level_at _ _ b h

  pub height_sums : (f : Stack) (h : ℕ) → height_behind f h ≡ rise (sums f).behind h
  height_sums [] h = level h
  height_sums (then_of x ∷ f) h = omega (arith, height_sums f (1 + max (deep t.expr x) h))
  height_sums (else_of x s ∷ f) h = omega (arith, height_sums f (1 + max (deep t.expr x) (max (deep t.stmt s) h)))
  height_sums (while_body x ∷ f) h = omega (arith, height_sums f (1 + max (deep t.expr x) h))
  height_sums (do_body ∷ f) h = omega (arith, height_sums f (1 + max h 1))
  height_sums (for_body r m n ∷ f) h = omega (arith, height_sums f (1 + max (deep t.first r) (max (deep t.maybe_expr m) (max (deep t.maybe_expr n) h))))
  height_sums (in_body r x ∷ f) h = omega (arith, height_sums f (1 + max (deep t.loop_target r) (max (deep t.expr x) h)))
  height_sums (with_body x a ∷ f) h = omega (arith, height_sums f (1 + max (deep t.expr x) h))
  height_sums (label_of n ∷ f) h = omega (arith, height_sums f (1 + h))
  height_sums (body a_program ss ∷ f) h = omega arith
  height_sums (body a_block ss ∷ f) h = omega (arith, height_sums f (1 + max (deep t.stmts (stmts_of ss)) h))
  height_sums (body (a_function k ps) ss ∷ f) h = function_rise k.declared (sums f).behind (sums f).other _ _ 2 _ h (height_sums f _) (at_sums f false _)
  height_sums (body (a_clause x cs m) ss ∷ f) h = omega (arith, height_sums f (1 + max (deep t.expr x) (max (deep t.cases (cases_of cs)) (max (deep t.maybe_expr m) (max (deep t.stmts (stmts_of ss)) h)))))
  height_sums (body a_try ss ∷ f) h = omega (arith, height_sums f (1 + max (deep t.stmts (stmts_of ss)) h))
  height_sums (body (a_catch rs n) ss ∷ f) h = omega (arith, height_sums f (1 + max (deep t.stmts (stmts_of rs)) (max (deep t.stmts (stmts_of ss)) h)))
  height_sums (body (a_finally rs k) ss ∷ f) h = omega (arith, height_sums f (1 + max (deep t.stmts (stmts_of rs)) (max (deep t.handler k) (max (deep t.stmts (stmts_of ss)) h))))
  height_sums (_ ∷ f) h = level h

pub stepped_sums : (f : Stack) → stepped f ≡ (sums f).stepped
stepped_sums [] = refl
stepped_sums (new_of ∷ f) = stepped_sums f
stepped_sums (_ ∷ f) = refl

pub no_in_sums : (f : Stack) → no_in_here f ≡ (sums f).no_in
no_in_sums [] = refl
no_in_sums (new_of ∷ f) = no_in_sums f
no_in_sums (prefix_step up ∷ f) = no_in_sums f
no_in_sums (prefix op a ∷ f) = no_in_sums f
no_in_sums (join j x ∷ f) = no_in_sums f
no_in_sums (either x y ∷ f) = no_in_sums f
no_in_sums (_ ∷ f) = refl

-- ---- in numbers of 32 bits

pub capped_sum : (a b : ℕ) → capped (capped a + capped b) ≡ capped (a + b)
capped_sum a b = omega arith

pub capped_max : (a b : ℕ) → capped (max a b) ≡ max (capped a) (capped b)
capped_max a b = omega arith

pub capped_below : (n l : ℕ) → l < 4294967295 → nat_le (capped n) l ≡ nat_le n l
capped_below n l h = go (nat_le n l) refl
  where
    go : (b : Bool) → nat_le n l ≡ b → nat_le (capped n) l ≡ b
    go true e = le-leb (capped n) l (omega (arith, leb-true n l e))
    go false e = lt-leb (capped n) l (omega (arith, leb-false n l e))

pub capped_level : IsCapped level_rise 0 0
capped_level = record { floor_is = omega arith; layers_is = omega arith }

pub capped_raise : (c d : ℕ) (r : Rise) (f l e : ℕ) → IsCapped r f l → e ≡ capped d → IsCapped (raise c d r) (max f (capped (l + capped (c + e)))) (capped (l + c))
capped_raise c d r f l e h i = record { floor_is = (let p = h.floor_is in let q = h.layers_is in omega arith); layers_is = (let q = h.layers_is in omega arith) }

pub capped_rise : (r : Rise) (f l h e : ℕ) → IsCapped r f l → e ≡ capped h → max f (capped (l + e)) ≡ capped (rise r h)
capped_rise r f l h e g i = (let p = g.floor_is in let q = g.layers_is in omega arith)
