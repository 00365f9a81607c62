-- What tokens spell, its printed tokens spell: a claim for each sort, by recursion on how the tree is spelled.
use Rattle.std.proofs.Common.{◌≡◌, ℕ, zero, suc, ◌≤◌, ◌⊎◌, inl, inr, Bool, true, false, cond, ◌&&◌, List, [], ◌∷◌, ◌++◌, map, Some, None, refl, sym, subst, ◌∙◌, nat_lt, arith}
use Rattle.std.proofs.lemmas.Bool.{true≢false, ltb-true, ltb-false, lt-ltb, or_parts, and_left, and_right, cond-true, cond-false, cond_both}
use Rattle.es3_tree.specs.Tree as t
use Rattle.es3_tree.specs.Placed as tree
use Rattle.es3_tree.specs.Placed.{Placed}
use Rattle.es3_tree.specs.Token.{Token}
use Rattle.es3_tree.specs.declared.UnOp.{UnOp}
use Rattle.es3_tree.specs.declared.BinOp.TheVariants.{Mul, InObject}
use Rattle.es3_grammar.specs.Spots.{Spot, same_token, look_up, in_word, open_brace, close_brace, open_paren, close_paren, comma}
use Rattle.es3_grammar.specs.Levels.{Join, an_op, an_and, an_or, an_assign, a_comma, own, left, right, Infix, joins, infixes, infix_of}
use Rattle.es3_grammar.specs.Grammar.{Bars, free, no_in, no_call, bars_in, bars_call, Spells, s_call, s_num, s_object, s_this, s_null, s_true, s_false, s_text, s_name, s_paren, s_array, s_array_comma, s_func, s_function, s_do, s_dot, s_index, s_new_call, s_new, s_postfix, s_prefix, s_prefix_step, s_join, s_choice, s_no_exprs, s_no_expr, s_some_exprs, s_some_expr, s_one_expr, s_more_exprs, s_no_fields, s_some_fields, s_one_field, s_more_fields, s_block, s_var, s_empty, s_expression, s_one_item, s_more_items, s_no_value, s_value, s_if, s_else, s_while, s_for, s_for_in, s_no_first, s_first_var, s_first_expr, s_loop_var, s_loop_expr, s_continue, s_break, s_return, s_with, s_switch, s_no_cases, s_case, s_default, s_label, s_throw, s_catch, s_finally, s_catch_finally, s_no_stmts, s_more_stmts, s_declaration, s_script}
use Rattle.es3_grammar.specs.Plain.{plain, plain_name}
use Rattle.es3_grammar.proofs.Tables.{same_is, looked_up, infix_found}
use Rattle.es3_grammar.proofs.Follow.{level_fits}
use Rattle.es3_printed.specs.Tokens.{own_level, is_in, calls, is_number, opens, wraps, wraps_object, wraps_maker, wrapped, join_sign, between, behind_comma, behind_field, behind_item, initialiser, named, listed, bare}
use Rattle.es3_printed.proofs.Shown.{Shown}
use Rattle.es3_printed.proofs.ShownExpressions.{made, made_of, may_stand_left, left_kept, shown_this, shown_null, shown_bool, shown_num, shown_text, shown_name, shown_wrapped, shown_array, shown_object, shown_function, shown_dot, shown_index, shown_call, shown_new_call, shown_postfix, shown_prefix_step, shown_prefix, shown_join, shown_choice, shown_no_exprs, shown_some_exprs, shown_one_expr, shown_more_exprs, shown_no_fields, shown_some_fields, shown_one_field, shown_more_fields}
use Rattle.es3_printed.proofs.ShownParts.{plain_is_target, same_target, shown_no_stmts, shown_more_stmts, shown_declaration, shown_func, shown_script, shown_one_item, shown_more_items, shown_no_value, shown_value, shown_no_first, shown_first_var, shown_first_expr, shown_no_expr, shown_some_expr, shown_loop_var, shown_loop_expr, shown_no_cases, shown_case, shown_default}
use Rattle.es3_printed.proofs.ShownStatements.{same_open, same_default, shown_block, shown_var, shown_empty, shown_expression, shown_if, shown_else, shown_do, shown_while, shown_for, shown_for_in, shown_continue, shown_break, shown_return, shown_with, shown_switch, shown_label, shown_throw, shown_catch, shown_finally, shown_catch_finally}

-- ---- where an expression may stand without parentheses

-- the level of the grammar at which it stands: `new` is printed with its arguments, so what has level 15 stands at 16
abbrev pub stands : ℕ → ℕ
stands n = cond (nat_lt n 15) n (suc n)

above : (l n : ℕ) → l ≤ n → l ≤ stands n
above l n h = cond_both (nat_lt n 15) n (suc n) (λ z. l ≤ z) (λ e. h) (λ e. omega arith)

high : (n : ℕ) → 15 ≤ n → 16 ≤ stands n
high n h = cond_both (nat_lt n 15) n (suc n) (λ z. 16 ≤ z) (λ e. absurd (omega (arith, ltb-true n 15 e))) (λ e. omega arith)

low : (l n : ℕ) → n ≤ 14 → l ≤ stands n → l ≤ n
low l n m h = subst (λ z. l ≤ z) (cond-true (nat_lt n 15) n (suc n) (lt-ltb n 15 (omega arith))) h

-- f: each `in` takes parentheses
abbrev pub BarsFit : Bool → Bars → t.Tree t.expr → Type 0
BarsFit f free q = Unit {0}
BarsFit f no_in q = ((f ≡ true) × (is_in q ≡ false)) ⊎ (15 ≤ own_level q)
BarsFit f no_call q = (15 ≤ own_level q) × (calls q ≡ false)

-- the printed tokens spell it wherever it may stand so
abbrev pub Prints : t.Tree t.expr → Type 0
Prints q = (f : Bool) (b : Bars) (l : ℕ) → l ≤ stands (own_level q) → BarsFit f b q → Shown t.expr b l q (bare t.expr f q)

anywhere : (q : t.Tree t.expr) → Prints q → (f : Bool) → Shown t.expr free 0 q (bare t.expr f q)
anywhere q p f = p f free 0 (omega arith) tt

-- ---- parts of what has a level below 15

-- within these bars the flag is set where `in` is barred
abbrev pub Flagged : Bool → Bars → Type 0
Flagged f free = Unit {0}
Flagged f no_in = f ≡ true
Flagged f no_call = ⊥

flagged : (f : Bool) (b : Bars) (q : t.Tree t.expr) → own_level q ≤ 14 → BarsFit f b q → Flagged f b
flagged f free q m h = tt
flagged f no_in q m h = elim h [ inl k ↦ k.0 | inr k ↦ absurd (omega arith) ]
flagged f no_call q m h = absurd (omega arith)

flag_fits : (f : Bool) (b : Bars) (q : t.Tree t.expr) → Flagged f b → (f ≡ true → is_in q ≡ false) → BarsFit f b q
flag_fits f free q h g = tt
flag_fits f no_in q h g = inl (h, g h)
flag_fits f no_call q h g = absurd h

in_unwrapped : (f : Bool) (i : Bool) → (f && i) ≡ false → f ≡ true → i ≡ false
in_unwrapped true i e h = e
in_unwrapped false i e h = absurd cc

unwrapped : (f : Bool) (l : ℕ) (q : t.Tree t.expr) → wraps f l q ≡ false → (l ≤ own_level q) × (f ≡ true → is_in q ≡ false)
unwrapped f l q e =
    let r = or_parts (nat_lt (own_level q) l) (f && is_in q) e in
    (ltb-false (own_level q) l r.0, in_unwrapped f (is_in q) r.1)

shown_part : (f : Bool) (b : Bars) (l : ℕ) (q : t.Tree t.expr) → l ≤ 16 → Flagged f b → Prints q → Shown t.expr b l q (wrapped (wraps f l q) (bare t.expr f q))
shown_part f b l q le h p = shown_wrapped b l (wraps f l q) q (bare t.expr f q) le (anywhere q p f) (λ e.
    let u = unwrapped f l q e in p f b l (above l (own_level q) u.0) (flag_fits f b q h u.1))

-- ---- objects, callees and what stands behind `new`

abbrev HeadFits : Bars → t.Tree t.expr → Type 0
HeadFits no_call q = calls q ≡ false
HeadFits b q = Unit {0}

head_fits : (f : Bool) (b : Bars) (q : t.Tree t.expr) → 15 ≤ own_level q → HeadFits b q → BarsFit f b q
head_fits f free q m h = tt
head_fits f no_in q m h = inr m
head_fits f no_call q m h = (m, h)

head_of : (f : Bool) (b : Bars) (q r : t.Tree t.expr) → (calls r ≡ false → calls q ≡ false) → BarsFit f b r → HeadFits b q
head_of f free q r c h = tt
head_of f no_in q r c h = tt
head_of f no_call q r c h = c h.1

shown_head : (f : Bool) (b : Bars) (w : Bool) (q : t.Tree t.expr) → (w ≡ false → (15 ≤ own_level q) × HeadFits b q) → Prints q
    → Shown t.expr b 16 q (wrapped w (bare t.expr f q))
shown_head f b w q h p = shown_wrapped b 16 w q (bare t.expr f q) (omega arith) (anywhere q p f) (λ e.
    let k = h e in p f b 16 (high (own_level q) k.0) (head_fits f b q k.0 k.1))

-- ---- a claim for each form

of_array : (xs : t.Tree t.exprs) → ((f : Bool) → Shown t.exprs free 0 xs (bare t.exprs f xs)) → Prints (t.array xs)
unfolding bare
of_array xs p f b l h g = shown_array b l xs _ h (p f)

of_object : (fs : t.Tree t.fields) → ((f : Bool) → Shown t.fields free 0 fs (bare t.fields f fs)) → Prints (t.object fs)
unfolding bare
of_object fs p f b l h g = shown_object b l fs _ h (p f)

object_high : (f : Bool) (q : t.Tree t.expr) → wraps_object f q ≡ false → 15 ≤ own_level q
object_high f q e = (unwrapped f 15 q (or_parts (is_number q) (wraps f 15 q) e).1).0

of_dot : (x : t.Tree t.expr) (us : List ℕ) → Prints x → Prints (t.dot x us)
unfolding bare
of_dot x us p f b l h g = shown_dot b l x us _ h (shown_head f b (wraps_object f x) x (λ e. (object_high f x e, head_of f b x (t.dot x us) (λ n. n) g)) p)

of_index : (x y : t.Tree t.expr) → Prints x → Prints y → Prints (t.index x y)
unfolding bare
of_index x y p q f b l h g = shown_index b l x y _ _ h (shown_head f b (wraps_object f x) x (λ e. (object_high f x e, head_of f b x (t.index x y) (λ n. n) g)) p)
    (shown_part f free 0 y (omega arith) tt q)

may_call : (f : Bool) (b : Bars) (x : t.Tree t.expr) (xs : t.Tree t.exprs) → BarsFit f b (t.call x xs) → bars_call b ≡ false
may_call f free x xs g = refl
may_call f no_in x xs g = refl
may_call f no_call x xs g = absurd (true≢false g.1)

of_call : (x : t.Tree t.expr) (xs : t.Tree t.exprs) → Prints x → ((f : Bool) → Shown t.exprs free 0 xs (bare t.exprs f xs)) → Prints (t.call x xs)
unfolding bare
of_call x xs p q f b l h g = shown_call b l x xs _ _ h (may_call f b x xs g)
    (shown_head f b (wraps f 15 x) x (λ e. ((unwrapped f 15 x e).0, head_of f b x (t.call x xs) (λ n. absurd (true≢false n)) g)) p) (q f)

of_new : (x : t.Tree t.expr) (xs : t.Tree t.exprs) → Prints x → ((f : Bool) → Shown t.exprs free 0 xs (bare t.exprs f xs)) → Prints (t.new x xs)
unfolding bare
of_new x xs p q f b l h g = shown_new_call b l x xs _ _ h
    (shown_head f no_call (wraps_maker f x) x (λ e. let r = or_parts (calls x) (wraps f 15 x) e in ((unwrapped f 15 x r.1).0, r.0)) p) (q f)

-- what may be assigned to
set_fits : (x : t.Tree t.expr) → plain_is_target x ≡ true → (15 ≤ own_level x) × (is_in x ≡ false)
set_fits (t.name us) h = (omega arith, refl)
set_fits (t.dot x us) h = (omega arith, refl)
set_fits (t.index x y) h = (omega arith, refl)
set_fits _ h = absurd cc

of_postfix : (up : Bool) (x : t.Tree t.expr) → plain_is_target x ≡ true → Prints x → Prints (t.step up false x)
unfolding bare
of_postfix up x s p f b l h g = shown_postfix b l up x _ h s (shown_part f b 15 x (omega arith) (flagged f b (t.step up false x) (omega arith) g) p)

of_prefix_step : (up : Bool) (x : t.Tree t.expr) → plain_is_target x ≡ true → Prints x → Prints (t.step up true x)
unfolding bare
of_prefix_step up x s p f b l h g =
    let k = set_fits x s in
    shown_prefix_step b l up x _ h s (shown_wrapped b 15 (wraps f 13 x) x _ (omega arith) (anywhere x p f) (λ e.
    p f b 15 (above 15 (own_level x) k.0) (flag_fits f b x (flagged f b (t.step up true x) (omega arith) g) (λ e. k.1))))

of_prefix : (op : UnOp) (x : t.Tree t.expr) → Prints x → Prints (t.unary op x)
unfolding bare
of_prefix op x p f b l h g = shown_prefix b l op x _ h (shown_part f b 13 x (omega arith) (flagged f b (t.unary op x) (omega arith) g) p)

of_choice : (x y z : t.Tree t.expr) → Prints x → Prints y → Prints z → Prints (t.choice x y z)
unfolding bare
of_choice x y z p q r f b l h g =
    let k = flagged f b (t.choice x y z) (omega arith) g in
    shown_choice b l x y z _ _ _ h (shown_part f b 3 x (omega arith) k p)
    (shown_part f free 1 y (omega arith) tt q) (shown_part f b 1 z (omega arith) k r)

-- ---- two parts with an operator between them

level_made : (j : Join) (x y : t.Tree t.expr) → own_level (made j x y) ≡ own j
level_made (an_op op) x y = refl
level_made an_and x y = refl
level_made an_or x y = refl
level_made (an_assign op) x y = refl
level_made a_comma x y = refl

bare_made : (f : Bool) (j : Join) (x y : t.Tree t.expr) → bare t.expr f (made j x y) ≡ between f j x (bare t.expr f x) y (bare t.expr f y)
unfolding bare
bare_made f (an_op op) x y = refl
bare_made f an_and x y = refl
bare_made f an_or x y = refl
bare_made f (an_assign op) x y = refl
bare_made f a_comma x y = refl

own_low : (j : Join) → (own j ≤ 12) × (left j ≤ 15) × (right j ≤ 13)
own_low (an_op op) = let k = level_fits op in (omega arith, omega arith, omega arith)
own_low an_and = (omega arith, omega arith, omega arith)
own_low an_or = (omega arith, omega arith, omega arith)
own_low (an_assign op) = (omega arith, omega arith, omega arith)
own_low a_comma = (omega arith, omega arith, omega arith)

-- the one operator that is a word and is barred
in_sign : (j : Join) (x y : t.Tree t.expr) → is_in (made j x y) ≡ same_token in_word (join_sign j)
in_sign (an_op InObject) x y = refl
in_sign (an_op Mul) x y = refl
in_sign (an_op _) x y = refl
in_sign an_and x y = refl
in_sign an_or x y = refl
in_sign (an_assign None) x y = refl
in_sign (an_assign (Some Mul)) x y = refl
in_sign (an_assign (Some _)) x y = refl
in_sign a_comma x y = refl

not_barred : (f : Bool) (b : Bars) (j : Join) (x y : t.Tree t.expr) → BarsFit f b (made j x y) → (same_token in_word (join_sign j) && bars_in b) ≡ false
not_barred f free j x y g = and_right _ false refl
not_barred f no_call j x y g = and_right _ false refl
not_barred f no_in j x y g = and_left _ true (sym (in_sign j x y) ∙ elim g [ inl k ↦ k.1 | inr k ↦ absurd (omega (arith, level_made j x y, own_low j)) ])

of_join : (j : Join) (x y : t.Tree t.expr) → look_up infixes (join_sign j) ≡ Some (joins j) → may_stand_left j x ≡ true → Prints x → Prints y → Prints (made j x y)
of_join j x y is s p q f b l h g =
    let m = own_low j in
    let k = flagged f b (made j x y) (rw (level_made j x y) (omega arith)) g in
    rw (bare_made f j x y) (shown_join b l j (join_sign j) x y _ _ (low l (own j) (omega arith) (rw (level_made j x y) at h)) (cond-false _ None _ (not_barred f b j x y g) ∙ is) s
    (shown_part f b (left j) x (omega arith) k p) (shown_part f b (right j) y (omega arith) k q))

-- the operator of an assignment is one that assignments have
abbrev signs : Token → Infix → Bool
signs t (joins j) = same_token (join_sign j) t
signs t i = true

sign_of : (i : Bool) (c : Token) (j : Join) → infix_of i c ≡ Some (joins j) → look_up infixes (join_sign j) ≡ Some (joins j)
unfolding look_up
sign_of i c j e = let f = infix_found i c (joins j) e in subst (λ z. look_up infixes z ≡ Some (joins j)) (same_is (join_sign j) c (looked_up signs infixes c (joins j) refl f)) f

-- ---- functions, lists, fields, items

-- the tokens behind the word `function`
abbrev pub behind_function : t.Tree t.func → List Token
behind_function (t.fun x ps body) = named x ++ open_paren ∷ (listed ps ++ close_paren ∷ open_brace ∷ (bare t.stmts false body ++ close_brace ∷ []))

of_function : (q : t.Tree t.func) → Shown t.func free 0 q (behind_function q) → Prints (t.function q)
unfolding bare
of_function (t.fun x ps body) p f b l h g = shown_function b l (t.fun x ps body) _ h p

-- of a list with one part at least, and of the list within brackets
abbrev pub PrintsExprs : ℕ → t.Tree t.exprs → Type 0
PrintsExprs zero q = (f : Bool) → Shown t.exprs free 0 q (bare t.exprs f q)
PrintsExprs (suc l) q = ((f : Bool) → Shown t.exprs free 1 q (bare t.exprs f q)) × ((ts : List Token) → behind_comma q ts ≡ comma ∷ ts)

abbrev pub PrintsFields : ℕ → t.Tree t.fields → Type 0
PrintsFields zero q = (f : Bool) → Shown t.fields free 0 q (bare t.fields f q)
PrintsFields (suc l) q = ((f : Bool) → Shown t.fields free 1 q (bare t.fields f q)) × ((ts : List Token) → behind_field q ts ≡ comma ∷ ts)

abbrev pub PrintsItems : t.Tree t.items → Type 0
PrintsItems q = ((f : Bool) (b : Bars) → Flagged f b → Shown t.items b 0 q (bare t.items f q)) × ((ts : List Token) → behind_item q ts ≡ comma ∷ ts)

no_exprs_print : PrintsExprs 0 t.no_exprs
unfolding bare
no_exprs_print f = shown_no_exprs

one_expr_prints : (x : t.Tree t.expr) → Prints x → PrintsExprs 1 (t.more_exprs x t.no_exprs)
unfolding bare
one_expr_prints x p = (λ f. shown_one_expr x _ (shown_part f free 1 x (omega arith) tt p), λ ts. refl)

more_exprs_print : (x : t.Tree t.expr) (xs : t.Tree t.exprs) → Prints x → PrintsExprs 1 xs → PrintsExprs 1 (t.more_exprs x xs)
unfolding bare
more_exprs_print x xs p q = (λ f. rw (q.1 (bare t.exprs f xs)) (shown_more_exprs x xs _ _ (shown_part f free 1 x (omega arith) tt p) (q.0 f)), λ ts. refl)

no_fields_print : PrintsFields 0 t.no_fields
unfolding bare
no_fields_print f = shown_no_fields

one_field_prints : (us : List ℕ) (x : t.Tree t.expr) → Prints x → PrintsFields 1 (t.more_fields us x t.no_fields)
unfolding bare
one_field_prints us x p = (λ f. shown_one_field us x _ (shown_part f free 1 x (omega arith) tt p), λ ts. refl)

more_fields_print : (us : List ℕ) (x : t.Tree t.expr) (fs : t.Tree t.fields) → Prints x → PrintsFields 1 fs → PrintsFields 1 (t.more_fields us x fs)
unfolding bare
more_fields_print us x fs p q = (λ f. rw (q.1 (bare t.fields f fs)) (shown_more_fields us x fs _ _ (shown_part f free 1 x (omega arith) tt p) (q.0 f)), λ ts. refl)

abbrev pub PrintsMaybe : t.Tree t.maybe_expr → Type 0
PrintsMaybe t.no_expr = Unit {0}
PrintsMaybe (t.some_expr x) = Prints x

value_prints : (f : Bool) (b : Bars) (m : t.Tree t.maybe_expr) → Flagged f b → PrintsMaybe m → Shown t.maybe_expr b 1 m (initialiser f m (bare t.maybe_expr f m))
unfolding bare
value_prints f b t.no_expr h p = shown_no_value b
value_prints f b (t.some_expr x) h p = shown_value b x _ (shown_part f b 1 x (omega arith) h p)

maybe_prints : (m : t.Tree t.maybe_expr) → PrintsMaybe m → Shown t.maybe_expr free 0 m (bare t.maybe_expr false m)
unfolding bare
maybe_prints t.no_expr p = shown_no_expr
maybe_prints (t.some_expr x) p = shown_some_expr x _ (anywhere x p false)

one_item_prints : (us : List ℕ) (m : t.Tree t.maybe_expr) → PrintsMaybe m → PrintsItems (t.more_items us m t.no_items)
unfolding bare
one_item_prints us m p = (λ f b h. shown_one_item b us m _ (value_prints f b m h p), λ ts. refl)

more_items_print : (us : List ℕ) (m : t.Tree t.maybe_expr) (is : t.Tree t.items) → PrintsMaybe m → PrintsItems is → PrintsItems (t.more_items us m is)
unfolding bare
more_items_print us m is p q = (λ f b h. rw (q.1 (bare t.items f is)) (shown_more_items b us m is _ _ (value_prints f b m h p) (q.0 f b h)), λ ts. refl)

-- ---- an expression as a statement

plain_start : (b : Bool) (u : List Token) → opens u ≡ b → opens (wrapped b u) ≡ false
plain_start true u e = refl
plain_start false u e = e

expression_prints : (x : t.Tree t.expr) → Prints x → Shown t.stmt free 0 (t.expression x) (bare t.stmt false (t.expression x))
unfolding bare
expression_prints x p =
    let u = bare t.expr false x in
    shown_expression x _ (shown_wrapped free 0 (opens u) x u (omega arith) (anywhere x p false) (λ e. anywhere x p false)) (plain_start (opens u) u refl)

-- 12.6: what a loop writes to may be assigned to
loop_target_prints : (x : t.Tree t.expr) → plain_is_target x ≡ true → Prints x
    → Shown t.loop_target no_in 0 (t.loop_expr x) (bare t.loop_target false (t.loop_expr x))
unfolding bare
loop_target_prints x s p = let k = (set_fits x s).0 in shown_loop_expr x _ s (p false no_in 15 (above 15 (own_level x) k) (inr k))

-- ---- each sort

abbrev pub Claim : (s : t.Sort) → ℕ → t.Tree s → Type 0
Claim t.expr l q = Prints q
Claim t.exprs l q = PrintsExprs l q
Claim t.fields l q = PrintsFields l q
Claim t.maybe_expr l q = PrintsMaybe q
Claim t.items l q = PrintsItems q
Claim t.first l q = Shown t.first no_in 0 q (bare t.first true q)
Claim t.loop_target l q = Shown t.loop_target no_in 0 q (bare t.loop_target false q)
Claim t.func l q = Shown t.func free 0 q (behind_function q)
Claim t.stmts l q = Shown t.stmts free l q (bare t.stmts false q)
Claim t.stmt l q = Shown t.stmt free 0 q (bare t.stmt false q)
Claim t.cases l q = Shown t.cases free 0 q (bare t.cases false q)
Claim t.program l q = Shown t.program free 0 q (bare t.program false q)
Claim _ l q = Unit {0}

prints : (s : t.Sort) (b : Bars) (l : ℕ) (x : Placed s) (u : List Spot) → Spells s b l x u → Claim s l (plain s x)
unfolding bare
prints _ _ _ _ _ (s_this b l a le) = λ f c m h g. shown_this c m h
prints _ _ _ _ _ (s_null b l a le) = λ f c m h g. shown_null c m h
prints _ _ _ _ _ (s_true b l a le) = λ f c m h g. shown_bool c m true h
prints _ _ _ _ _ (s_false b l a le) = λ f c m h g. shown_bool c m false h
prints _ _ _ _ _ (s_num b l a n le) = λ f c m h g. shown_num c m n h
prints _ _ _ _ _ (s_text b l a us le) = λ f c m h g. shown_text c m us h
prints _ _ _ _ _ (s_name b l n le) = λ f c m h g. shown_name c m n.text h
prints _ _ _ _ _ (s_paren b l a d x u le p) = prints _ _ _ _ _ p
prints _ _ _ _ _ (s_array b l a d xs u le p) = of_array (plain _ xs) (prints _ _ _ _ _ p)
prints _ _ _ _ _ (s_array_comma b l a d e xs u le p) = of_array (plain _ xs) (λ f. shown_some_exprs (plain _ xs) _ ((prints _ _ _ _ _ p).0 f))
prints _ _ _ _ _ (s_object b l a d fs u le p) = of_object (plain _ fs) (prints _ _ _ _ _ p)
prints _ _ _ _ _ (s_function b l a n ps ss u le p) = of_function (plain _ (tree.fun n ps ss a)) (prints _ _ _ _ _ p)
prints _ _ _ _ _ (s_dot b l a x n u le p) = of_dot (plain _ x) n.text (prints _ _ _ _ _ p)
prints _ _ _ _ _ (s_index b l a d x y u v le p q) = of_index (plain _ x) (plain _ y) (prints _ _ _ _ _ p) (prints _ _ _ _ _ q)
prints _ _ _ _ _ (s_call b l a d x xs u v le c p q) = of_call (plain _ x) (plain _ xs) (prints _ _ _ _ _ p) (prints _ _ _ _ _ q)
prints _ _ _ _ _ (s_new_call b l a d e x xs u v le p q) = of_new (plain _ x) (plain _ xs) (prints _ _ _ _ _ p) (prints _ _ _ _ _ q)
prints _ _ _ _ _ (s_new b l a x u le p) = of_new (plain _ x) t.no_exprs (prints _ _ _ _ _ p) no_exprs_print
prints _ _ _ _ _ (s_postfix b l a up x u le h p) = of_postfix up (plain _ x) (sym (same_target x) ∙ h) (prints _ _ _ _ _ p)
prints _ _ _ _ _ (s_prefix_step b l a up x u le h p) = of_prefix_step up (plain _ x) (sym (same_target x) ∙ h) (prints _ _ _ _ _ p)
prints _ _ _ _ _ (s_prefix b l a op x u le p) = of_prefix op (plain _ x) (prints _ _ _ _ _ p)
prints _ _ _ _ _ (s_join b l a j c x y u v le i h p q) =
    subst (λ z. Prints z) (sym (made_of j x y)) (of_join j (plain _ x) (plain _ y) (sign_of (bars_in b) c j i) (left_kept j x h) (prints _ _ _ _ _ p) (prints _ _ _ _ _ q))
prints _ _ _ _ _ (s_choice b l a d x y z u v w le p q r) = of_choice (plain _ x) (plain _ y) (plain _ z) (prints _ _ _ _ _ p) (prints _ _ _ _ _ q) (prints _ _ _ _ _ r)
prints _ _ _ _ _ s_no_exprs = no_exprs_print
prints _ _ _ _ _ (s_some_exprs xs u p) = λ f. shown_some_exprs (plain _ xs) _ ((prints _ _ _ _ _ p).0 f)
prints _ _ _ _ _ (s_one_expr x u p) = one_expr_prints (plain _ x) (prints _ _ _ _ _ p)
prints _ _ _ _ _ (s_more_exprs a x xs u v p q) = more_exprs_print (plain _ x) (plain _ xs) (prints _ _ _ _ _ p) (prints _ _ _ _ _ q)
prints _ _ _ _ _ s_no_fields = no_fields_print
prints _ _ _ _ _ (s_some_fields fs u p) = λ f. shown_some_fields (plain _ fs) _ ((prints _ _ _ _ _ p).0 f)
prints _ _ _ _ _ (s_one_field a c n x u e p) = one_field_prints n.text (plain _ x) (prints _ _ _ _ _ p)
prints _ _ _ _ _ (s_more_fields a d c n x fs u v e p q) = more_fields_print n.text (plain _ x) (plain _ fs) (prints _ _ _ _ _ p) (prints _ _ _ _ _ q)
prints _ _ _ _ _ (s_func a d e f g n ps ss u v ns p) = shown_func (plain_name n) (map (λ w. w.text) ps) (plain _ ss) _ (prints _ _ _ _ _ p)
prints _ _ _ _ _ (s_block a d ss u p) = shown_block (plain _ ss) _ (prints _ _ _ _ _ p)
prints _ _ _ _ _ (s_var a c is u p e) = shown_var (plain _ is) _ ((prints _ _ _ _ _ p).0 false free tt)
prints _ _ _ _ _ (s_empty a) = shown_empty
prints _ _ _ _ _ (s_expression c x u p h e) = expression_prints (plain _ x) (prints _ _ _ _ _ p)
prints _ _ _ _ _ (s_one_item b n m u p) = one_item_prints n.text (plain _ m) (prints _ _ _ _ _ p)
prints _ _ _ _ _ (s_more_items b a n m is u v p q) = more_items_print n.text (plain _ m) (plain _ is) (prints _ _ _ _ _ p) (prints _ _ _ _ _ q)
prints _ _ _ _ _ (s_no_value b) = tt
prints _ _ _ _ _ (s_value b a x u p) = prints _ _ _ _ _ p
prints _ _ _ _ _ (s_if a d e x s u v p q) = shown_if (plain _ x) (plain _ s) _ _ (anywhere (plain _ x) (prints _ _ _ _ _ p) false) (prints _ _ _ _ _ q)
prints _ _ _ _ _ (s_else a d e f x s r u v w p q o i) =
    shown_else (plain _ x) (plain _ s) (plain _ r) _ _ _ (anywhere (plain _ x) (prints _ _ _ _ _ p) false) (prints _ _ _ _ _ q) (sym (same_open s) ∙ o) (prints _ _ _ _ _ i)
prints _ _ _ _ _ (s_do a d e f c s x u v p q h) = shown_do (plain _ s) (plain _ x) _ _ (prints _ _ _ _ _ p) (anywhere (plain _ x) (prints _ _ _ _ _ q) false)
prints _ _ _ _ _ (s_while a d e x s u v p q) = shown_while (plain _ x) (plain _ s) _ _ (anywhere (plain _ x) (prints _ _ _ _ _ p) false) (prints _ _ _ _ _ q)
prints _ _ _ _ _ (s_for a d e f g r m n s u v w q h1 h2 h3 h4) =
    shown_for (plain _ r) (plain _ m) (plain _ n) (plain _ s) _ _ _ _ (prints _ _ _ _ _ h1)
    (maybe_prints (plain _ m) (prints _ _ _ _ _ h2)) (maybe_prints (plain _ n) (prints _ _ _ _ _ h3)) (prints _ _ _ _ _ h4)
prints _ _ _ _ _ (s_for_in a d e f r x s u v w h1 h2 h3) =
    shown_for_in (plain _ r) (plain _ x) (plain _ s) _ _ _ (prints _ _ _ _ _ h1) (anywhere (plain _ x) (prints _ _ _ _ _ h2) false) (prints _ _ _ _ _ h3)
prints _ _ _ _ _ s_no_first = shown_no_first
prints _ _ _ _ _ (s_first_var a is u p) = shown_first_var (plain _ is) _ ((prints _ _ _ _ _ p).0 true no_in refl)
prints _ _ _ _ _ (s_first_expr x u p) = shown_first_expr (plain _ x) _ (shown_part true no_in 0 (plain _ x) (omega arith) refl (prints _ _ _ _ _ p))
prints _ _ _ _ _ s_no_expr = tt
prints _ _ _ _ _ (s_some_expr x u p) = prints _ _ _ _ _ p
prints _ _ _ _ _ (s_loop_var a n) = shown_loop_var n.text
prints _ _ _ _ _ (s_loop_expr x u h p) = loop_target_prints (plain _ x) (sym (same_target x) ∙ h) (prints _ _ _ _ _ p)
prints _ _ _ _ _ (s_continue a c n e) = shown_continue (plain_name n)
prints _ _ _ _ _ (s_break a c n e) = shown_break (plain_name n)
prints _ _ _ _ _ (s_return a c m u p e) = shown_return (plain _ m) _ (maybe_prints (plain _ m) (prints _ _ _ _ _ p))
prints _ _ _ _ _ (s_with a d e x s u v p q) = shown_with (plain _ x) (plain _ s) _ _ (anywhere (plain _ x) (prints _ _ _ _ _ p) false) (prints _ _ _ _ _ q)
prints _ _ _ _ _ (s_switch a d e f g x cs u v p q o) =
    shown_switch (plain _ x) (plain _ cs) _ _ (anywhere (plain _ x) (prints _ _ _ _ _ p) false) (prints _ _ _ _ _ q) (sym (same_default cs) ∙ o)
prints _ _ _ _ _ s_no_cases = shown_no_cases
prints _ _ _ _ _ (s_case a d x ss cs u v w p q r) =
    shown_case (plain _ x) (plain _ ss) (plain _ cs) _ _ _ (anywhere (plain _ x) (prints _ _ _ _ _ p) false) (prints _ _ _ _ _ q) (prints _ _ _ _ _ r)
prints _ _ _ _ _ (s_default a d ss cs v w p q) = shown_default (plain _ ss) (plain _ cs) _ _ (prints _ _ _ _ _ p) (prints _ _ _ _ _ q)
prints _ _ _ _ _ (s_label a n s u p) = shown_label n.text (plain _ s) _ (prints _ _ _ _ _ p)
prints _ _ _ _ _ (s_throw a c x u p e) = shown_throw (plain _ x) _ (anywhere (plain _ x) (prints _ _ _ _ _ p) false)
prints _ _ _ _ _ (s_catch a d e f g h i j ss n hs u v p q) = shown_catch (plain _ ss) n.text (plain _ hs) _ _ (prints _ _ _ _ _ p) (prints _ _ _ _ _ q)
prints _ _ _ _ _ (s_finally a d e f g h ss ls u v p q) = shown_finally (plain _ ss) (plain _ ls) _ _ (prints _ _ _ _ _ p) (prints _ _ _ _ _ q)
prints _ _ _ _ _ (s_catch_finally a d e f g h i j k l m ss n hs ls u v w p q r) =
    shown_catch_finally (plain _ ss) n.text (plain _ hs) (plain _ ls) _ _ _ (prints _ _ _ _ _ p) (prints _ _ _ _ _ q) (prints _ _ _ _ _ r)
prints _ _ _ _ _ (s_no_stmts l) = shown_no_stmts l
prints _ _ _ _ _ (s_more_stmts l s ss u v p q) = shown_more_stmts l (plain _ s) (plain _ ss) _ _ (prints _ _ _ _ _ p) (prints _ _ _ _ _ q)
prints _ _ _ _ _ (s_declaration a n ps body ss u v p q) =
    shown_declaration n.text (map (λ w. w.text) ps) (plain _ body) (plain _ ss) _ _ (prints _ _ _ _ _ p) (prints _ _ _ _ _ q)
prints _ _ _ _ _ (s_script ss u p) = shown_script (plain _ ss) _ (prints _ _ _ _ _ p)

-- the printed tokens of what some tokens spell, at any places, spell it apart from its places
pub shown : (p : Placed t.program) (u : List Spot) → Spells t.program free 0 p u
    → Shown t.program free 0 (plain t.program p) (bare t.program false (plain t.program p))
shown p u d = prints t.program free 0 p u d
