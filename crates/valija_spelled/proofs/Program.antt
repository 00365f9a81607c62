-- Each part of a program that tokens spell: what it is lowered to is spelled, by no more than so many tokens for each of the part.
use Rattle.std.proofs.Common.{◌≡◌, ℕ, ◌+◌, ◌*◌, ◌≤◌, Bool, true, false, List, [], ◌∷◌, ◌++◌, length, Option, None, Some, refl, subst, arith, length-append}
use Rattle.std.proofs.lemmas.List.Elements.{All-nil, All-cons, All-head, All-tail}
use Rattle.es3_tree.specs.Tree as t
use Rattle.es3_tree.specs.Placed as p
use Rattle.es3_tree.specs.Placed.{Placed, Word}
use Rattle.es3_tree.specs.Token.{Token, name, text}
use Rattle.es3_tree.specs.declared.UnOp.{UnOp}
use Rattle.es3_tokens.specs.Back.{IsToken}
use Rattle.es3_grammar.specs.Spots.{Spot, in_word, same_token, look_up}
use Rattle.es3_grammar.specs.Levels.{E, Join, joined, joins, infixes, infix_of, is_target, takes_left}
use Rattle.es3_grammar.specs.Grammar.{Bars, free, bars_in, naming, Names, no_name, one_name, more_names, Spells, s_this, s_null, s_true, s_false, s_num, s_text, s_name, s_paren, s_array, s_array_comma, s_object, s_function, s_dot, s_index, s_call, s_new_call, s_new, s_postfix, s_prefix_step, s_prefix, s_join, s_choice, s_no_exprs, s_some_exprs, s_one_expr, s_more_exprs, s_no_fields, s_some_fields, s_one_field, s_more_fields, s_func, s_block, s_var, s_empty, s_expression, s_one_item, s_more_items, s_no_value, s_value, s_if, s_else, s_do, s_while, s_for, s_for_in, s_no_first, s_first_var, s_first_expr, s_loop_var, s_loop_expr, s_no_expr, s_some_expr, s_continue, s_break, s_return, s_with, s_switch, s_no_cases, s_case, s_default, s_label, s_throw, s_catch, s_finally, s_catch_finally, s_no_stmts, s_more_stmts, s_declaration, s_script}
use Rattle.es3_grammar.specs.Plain.{plain}
use Rattle.es3_grammar.proofs.Tables.{infix_found}
use Rattle.es3_printed.specs.Tokens.{bare}
use Rattle.es3_printed.proofs.Written.{name_small, written}
use Rattle.std.specs.List.{All}
use Rattle.std.specs.Prelude.{◌&&◌, if◌then◌else◌}
use Rattle.valija_parts.specs.Lower.{declares_function}
use Rattle.valija_spelled.proofs.Pieces.{Are, Sign}
use Rattle.valija_spelled.proofs.Asks.{AName}
use Rattle.valija_spelled.proofs.Lines.{IsMaybeName}
use Rattle.valija_spelled.proofs.Low.{Exprs, Fields, Maybe}
use Rattle.valija_spelled.proofs.Expressions.{Whole, this_form, null_form, bool_form, num_form, text_form, name_form, array_form, object_form, dot_form, index_form, call_form, new_form, unary_form, choice_form, no_exprs_form, some_exprs_form, one_expr_form, more_exprs_form, no_fields_form, some_fields_form, one_field_form, more_fields_form, no_value_form, value_form, no_expr_form, some_expr_form}
use Rattle.valija_spelled.proofs.Assignments.{step_form, join_form, join_place}
use Rattle.valija_spelled.proofs.Functions.{AreParameters, no_parameters, one_parameter, more_parameters, Lines, Func, func_form, function_form, no_stmts_form, more_stmts_form, declaration_form}
use Rattle.valija_spelled.proofs.Statements.{Stmt, Items, First, Cases, Target, one_item_form, more_items_form, block_form, var_form, empty_form, expression_form, if_form, else_form, while_form, do_form, no_first_form, first_var_form, first_expr_form, for_form, target_var_form, target_expr_form, for_in_form, continue_form, break_form, return_form, with_form, label_form, throw_form, no_cases_form, case_form, default_form, switch_form, catch_form, finally_form, catch_finally_form}

-- ---- tokens, by parts

abbrev At : Spot → Type 0
At c = IsToken c.0

head : {c : Spot} {u : List Spot} → Are (c ∷ u) → IsToken c.0
head {c} {u} h = All-head At c u h.all

rest : {c : Spot} {u : List Spot} → Are (c ∷ u) → Are u
rest {c} {u} h = record { all = All-tail At c u h.all }

front : {u : List Spot} (v : List Spot) → Are (u ++ v) → Are u
front {u = []} v h = record { all = All-nil At }
front {u = c ∷ u} v h = let r : Are u = front v (rest h) in record { all = All-cons At c u (head h) r.all }

back : (u : List Spot) {v : List Spot} → Are (u ++ v) → Are v
back [] h = h
back (c ∷ u) h = back u (rest h)

a_name : (x : Word) → IsToken (name x.text) → AName x
a_name x i = record { named = i; written = name_small x.text i.0 }

maybe_name : (n : Option Word) → Are (naming n) → IsMaybeName n
maybe_name None h = tt
maybe_name (Some n) h = head h

parameters : (ps : List Word) (u : List Spot) → Names ps u → Are u → AreParameters ps u
parameters _ _ no_name h = no_parameters
parameters _ _ (one_name n) h = one_parameter n (head h)
parameters _ _ (more_names a n m ns u p) h = more_parameters a n m ns u (head h) (parameters (m ∷ ns) u p (rest (rest h)))

-- a key of the source is printed as a text
first_token : (c : Token) (w z : List Token) → z ≡ c ∷ w → All IsToken z → IsToken c
first_token c w z e h = All-head IsToken c w (subst (All IsToken) e h)

key_token : (n : Word) (x : E) (fs : Placed t.fields) (u : List Spot) → Spells t.fields free 1 (p.more_fields n x fs) u → Are u → IsToken (text n.text)
unfolding bare
key_token n x fs u q h = first_token (text n.text) _ (bare t.fields false (plain t.fields (p.more_fields n x fs))) refl (written _ _ _ _ _ q h.all false)

-- the token of an operator, where `in` may stand
sign_of : (b : Bool) (j : Join) (c : Token) → IsToken c → infix_of b c ≡ Some (joins j) → Sign j
sign_of b j c i e = record { sign = c; token = i; read = freed (same_token in_word c) (look_up infixes c) (infix_found b c (joins j) e) }
  where
    freed : {A : Type 0} {r : Option A} (d : Bool) (o : Option A) → o ≡ r → (if d && false then None else o) ≡ r
    freed true o f = f
    freed false o f = f

declares_nothing : {x : Placed t.stmt} {u : List Spot} → Spells t.stmt free 0 x u → declares_function x ≡ false
declares_nothing (s_empty a) = refl
declares_nothing _ = refl

-- ---- what holds of a part

abbrev FuncAt : Placed t.func → ℕ → Type 0
FuncAt (p.fun n ps body a) m = Func n ps body m

abbrev PartAt : (s : t.Sort) → Bars → ℕ → Placed s → ℕ → Type 0
PartAt t.expr b l x m = Whole x m
PartAt t.exprs b l x m = Exprs l x m
PartAt t.fields b l x m = Fields l x m
PartAt t.maybe_expr b l x m = Maybe b l x m
PartAt t.items b l x m = Items b x m
PartAt t.first b l x m = First x m
PartAt t.stmt b l x m = Stmt x m
PartAt t.stmts b l x m = Lines x m
PartAt t.func b l x m = FuncAt x m
PartAt t.loop_target b l x m = Target x m
PartAt t.cases b l x m = Cases x m
PartAt s b l x m = Unit {0}

-- there is room for it where so many tokens spell the part
abbrev Room : t.Sort → ℕ → List Spot → Type 0
Room t.expr m u = m + 16 ≤ 64 * length u
Room t.func m u = m + 80 ≤ 64 * length u
Room t.loop_target m u = m ≤ 64 * length u + 64
Room s m u = m ≤ 64 * length u

pub record Part (s : t.Sort) (b : Bars) (l : ℕ) (x : Placed s) (u : List Spot) : Type 0 where
  pub most : ℕ
  pub part : PartAt s b l x most
  pub room : Room s most u

so : {s : t.Sort} {b : Bars} {l : ℕ} {x : Placed s} {u : List Spot} (m : ℕ) → PartAt s b l x m → Room s m u → Part s b l x u
so m q le = record { most = m; part = q; room = le }

-- ---- forms of expressions by their parts

call_part : {x : E} {xs : Placed t.exprs} (m n : ℕ) → Whole x m → Exprs 0 xs n → Whole (p.call x xs) (m + n + 128)
call_part {x} {xs} m n q r = record { low = call_form x xs m n q r; place = tt }

unary_part : (op : UnOp) (x : E) (a m : ℕ) → Whole x m → Whole (p.unary op x a) (m + 64)
unary_part op x a m q = record { low = unary_form op x a m q; place = tt }

step_part : (up first : Bool) (x : E) (m : ℕ) → is_target x ≡ true → Whole x m → Whole (p.step up first x) (m + 64)
step_part up first x m h q = record { low = step_form up first x m h q; place = tt }

join_part : (j : Join) (x y : E) (m n : ℕ) → Sign j → takes_left j x ≡ true → Whole x m → Whole y n → Whole (joined j x y) (m + n + 64)
join_part j x y m n sign h q r = record { low = join_form j x y m n sign h q r; place = join_place j x y (m + n + 64) }

-- ---- every part of a source

pub part : {s : t.Sort} {b : Bars} {l : ℕ} {x : Placed s} {u : List Spot} → Spells s b l x u → Are u → Part s b l x u
part (s_this b l a le) h = so 48 (this_form a) (omega arith)
part (s_null b l a le) h = so 48 (null_form) (omega arith)
part (s_true b l a le) h = so 48 (bool_form true) (omega arith)
part (s_false b l a le) h = so 48 (bool_form false) (omega arith)
part (s_num b l a n le) h = so 48 (num_form n (head h)) (omega arith)
part (s_text b l a us le) h = so 48 (text_form us (head h)) (omega arith)
part (s_name b l n le) h = so 48 (name_form n (a_name n (head h))) (omega arith)
part (s_paren b l a d x u le o) h = let q = part o (front _ (rest h)) in so q.most (q.part) (simp length-append (omega (arith, q.room)))
part (s_array b l a d xs u le o) h = let q = part o (front _ (rest h)) in so _ (array_form xs q.part) (simp length-append (omega (arith, q.room)))
part (s_array_comma b l a d e xs u le o) h = let q = part o (front _ (rest h)) in so _ (array_form xs (some_exprs_form xs q.most q.part)) (simp length-append (omega (arith, q.room)))
part (s_object b l a d fs u le o) h = let q = part o (front _ (rest h)) in so _ (object_form fs q.part) (simp length-append (omega (arith, q.room)))
part (s_function b l a n ps ss u le o) h = let q = part o (rest h) in so _ (function_form n ps ss a q.most q.part) (omega (arith, q.room))
part (s_dot b l a x n u le o) h = let q = part o (front _ h) in so _ (dot_form x n (name_small n.text (head (rest (back u h))).0) q.part) (simp length-append (omega (arith, q.room)))
part (s_index b l a d x y u v le o k) h =
    let q = part o (front _ h) in
    let r = part k (front _ (rest (back u h))) in
    so _ (index_form x y q.part r.part) (simp length-append (omega (arith, q.room, r.room)))
part (s_call b l a d x xs u v le bars o k) h =
    let q = part o (front _ h) in
    let r = part k (front _ (rest (back u h))) in
    so _ (call_part q.most r.most q.part r.part) (simp length-append (omega (arith, q.room, r.room)))
part (s_new_call b l a d e x xs u v le o k) h =
    let q = part o (front _ (rest h)) in
    let r = part k (front _ (rest (back u (rest h)))) in
    so _ (new_form x xs q.part r.part) (simp length-append (omega (arith, q.room, r.room)))
part (s_new b l a x u le o) h = let q = part o (rest h) in so _ (new_form x p.no_exprs q.part no_exprs_form) (omega (arith, q.room))
part (s_postfix b l a up x u le k o) h = let q = part o (front _ h) in so _ (step_part up false x q.most k q.part) (simp length-append (omega (arith, q.room)))
part (s_prefix_step b l a up x u le k o) h = let q = part o (rest h) in so _ (step_part up true x q.most k q.part) (omega (arith, q.room))
part (s_prefix b l a op x u le o) h = let q = part o (rest h) in so _ (unary_part op x a q.most q.part) (omega (arith, q.room))
part (s_join b l a j k x y u v le i takes o e) h =
    let q = part o (front _ h) in
    let r = part e (rest (back u h)) in
    so _ (join_part j x y q.most r.most (sign_of (bars_in b) j k (head (back u h)) i) takes q.part r.part) (simp length-append (omega (arith, q.room, r.room)))
part (s_choice b l a d x y z u v w le o e i) h =
    let q = part o (front _ h) in
    let r = part e (front _ (rest (back u h))) in
    let s = part i (rest (back v (rest (back u h)))) in
    so _ (choice_form x y z q.part r.part s.part) (simp length-append (omega (arith, q.room, r.room, s.room)))
part s_no_exprs h = so 0 no_exprs_form (omega arith)
part (s_some_exprs xs u o) h = let q = part o h in so _ (some_exprs_form xs q.most q.part) (omega (arith, q.room))
part (s_one_expr x u o) h = let q = part o h in so _ (one_expr_form x q.most q.part) (omega (arith, q.room))
part (s_more_exprs a x xs u v o k) h =
    let q = part o (front _ h) in
    let r = part k (rest (back u h)) in
    so _ (more_exprs_form x xs q.most r.most q.part r.part) (simp length-append (omega (arith, q.room, r.room)))
part s_no_fields h = so 0 no_fields_form (omega arith)
part (s_some_fields fs u o) h = let q = part o h in so _ (some_fields_form fs q.most q.part) (omega (arith, q.room))
part (s_one_field a k n x u e o) h = let q = part o (rest (rest h)) in so _ (one_field_form n x q.most (key_token n x p.no_fields _ (s_one_field a k n x u e o) h) q.part) (omega (arith, q.room))
part (s_more_fields a d k n x fs u v e o i) h =
    let q = part o (front _ (rest (rest h))) in
    let r = part i (rest (back u (rest (rest h)))) in
    so _ (more_fields_form n x fs q.most r.most (key_token n x fs _ (s_more_fields a d k n x fs u v e o i) h) q.part r.part) (simp length-append (omega (arith, q.room, r.room)))
part (s_func a d e f g n ps ss u v k o) h =
    let i = rest (back (naming n) h) in
    let q = part o (front _ (rest (rest (back u i)))) in
    so (length u + q.most + 16) (record { named = maybe_name n (front {u = naming n} _ h); function = func_form ps ss u q.most (parameters ps u k (front _ i)) q.part }) (simp length-append (omega (arith, q.room)))
part (s_block a d ss u o) h = let q = part o (front _ (rest h)) in so _ (block_form ss q.most q.part) (simp length-append (omega (arith, q.room)))
part (s_var a k is u o e) h = let q = part o (front _ (rest h)) in so _ (var_form is q.most q.part) (simp length-append (omega (arith, q.room)))
part (s_empty a) h = so 1 (empty_form) (omega arith)
part (s_expression k x u o i e) h = let q = part o (front _ h) in so _ (expression_form x q.most q.part) (simp length-append (omega (arith, q.room)))
part (s_one_item b n m u o) h = let q = part o (rest h) in so _ (one_item_form b n m q.most (head h) q.part) (omega (arith, q.room))
part (s_more_items b a n m is u v o k) h =
    let q = part o (front _ (rest h)) in
    let r = part k (rest (back u (rest h))) in
    so _ (more_items_form b n m is q.most r.most (head h) q.part r.part) (simp length-append (omega (arith, q.room, r.room)))
part (s_no_value b) h = so 0 (no_value_form b) (omega arith)
part (s_value b a x u o) h = let q = part o (rest h) in so _ (value_form b x q.most q.part) (omega (arith, q.room))
part (s_if a d e x s u v o k) h =
    let q = part o (front _ (rest (rest h))) in
    let r = part k (rest (back u (rest (rest h)))) in
    so _ (if_form x s q.most r.most q.part r.part) (simp length-append (omega (arith, q.room, r.room)))
part (s_else a d e f x s r u v w o k c j) h =
    let i = rest (back u (rest (rest h))) in
    let q = part o (front _ (rest (rest h))) in
    let y = part k (front _ i) in
    let z = part j (rest (back v i)) in
    so _ (else_form x s r q.most y.most z.most c q.part y.part z.part) (simp length-append (omega (arith, q.room, y.room, z.room)))
part (s_do a d e f k s x u v o i c) h =
    let q = part o (front _ (rest h)) in
    let r = part i (front _ (rest (rest (back u (rest h))))) in
    so _ (do_form s x q.most r.most q.part r.part) (simp length-append (omega (arith, q.room, r.room)))
part (s_while a d e x s u v o k) h =
    let q = part o (front _ (rest (rest h))) in
    let r = part k (rest (back u (rest (rest h)))) in
    so _ (while_form x s q.most r.most q.part r.part) (simp length-append (omega (arith, q.room, r.room)))
part (s_for a d e f g r m n s u v w z o1 o2 o3 o4) h =
    let i = rest (back u (rest (rest h))) in
    let j = rest (back v i) in
    let q1 = part o1 (front _ (rest (rest h))) in
    let q2 = part o2 (front _ i) in
    let q3 = part o3 (front _ j) in
    let q4 = part o4 (rest (back w j)) in
    so _ (for_form r m n s q1.most q2.most q3.most q4.most q1.part q2.part q3.part q4.part) (simp length-append (omega (arith, q1.room, q2.room, q3.room, q4.room)))
part (s_for_in a d e f r x s u v w o1 o2 o3) h =
    let i = rest (back u (rest (rest h))) in
    let q1 = part o1 (front _ (rest (rest h))) in
    let q2 = part o2 (front _ i) in
    let q3 = part o3 (rest (back v i)) in
    so _ (for_in_form r x s q1.most q2.most q3.most q1.part q2.part q3.part) (simp length-append (omega (arith, q1.room, q2.room, q3.room)))
part s_no_first h = so 0 no_first_form (omega arith)
part (s_first_var a is u o) h = let q = part o (rest h) in so _ (first_var_form is q.most q.part) (omega (arith, q.room))
part (s_first_expr x u o) h = let q = part o h in so _ (first_expr_form x q.most q.part) (omega (arith, q.room))
part s_no_expr h = so 0 no_expr_form (omega arith)
part (s_some_expr x u o) h = let q = part o h in so _ (some_expr_form x q.most q.part) (omega (arith, q.room))
part (s_loop_var a n) h = so 68 (target_var_form n (a_name n (head (rest h)))) (omega arith)
part (s_loop_expr x u i o) h = let q = part o h in so _ (target_expr_form x q.most i q.part) (omega (arith, q.room))
part (s_continue a k n e) h = so 3 (continue_form n a (maybe_name n (front {u = naming n} _ (rest h)))) (simp length-append (omega arith))
part (s_break a k n e) h = so 3 (break_form n a (maybe_name n (front {u = naming n} _ (rest h)))) (simp length-append (omega arith))
part (s_return a k m u o e) h = let q = part o (front _ (rest h)) in so _ (return_form m a q.most q.part) (simp length-append (omega (arith, q.room)))
part (s_with a d e x s u v o k) h =
    let q = part o (front _ (rest (rest h))) in
    let r = part k (rest (back u (rest (rest h)))) in
    so _ (with_form x s a q.most r.most q.part r.part) (simp length-append (omega (arith, q.room, r.room)))
part (s_switch a d e f g x cs u v o k single) h =
    let q = part o (front _ (rest (rest h))) in
    let r = part k (front _ (rest (rest (back u (rest (rest h)))))) in
    so _ (switch_form x cs q.most r.most single q.part r.part) (simp length-append (omega (arith, q.room, r.room)))
part s_no_cases h = so 0 no_cases_form (omega arith)
part (s_case a d x ss cs u v w o1 o2 o3) h =
    let i = rest (back u (rest h)) in
    let q1 = part o1 (front _ (rest h)) in
    let q2 = part o2 (front _ i) in
    let q3 = part o3 (back v i) in
    so _ (case_form x ss cs q1.most q2.most q3.most q1.part q2.part q3.part) (simp length-append (omega (arith, q1.room, q2.room, q3.room)))
part (s_default a d ss cs v w o k) h =
    let q = part o (front _ (rest (rest h))) in
    let r = part k (back v (rest (rest h))) in
    so _ (default_form ss cs q.most r.most q.part r.part) (simp length-append (omega (arith, q.room, r.room)))
part (s_label a n s u o) h = let q = part o (rest (rest h)) in so _ (label_form n s q.most (head h) q.part) (omega (arith, q.room))
part (s_throw a k x u o e) h = let q = part o (front _ (rest h)) in so _ (throw_form x q.most q.part) (simp length-append (omega (arith, q.room)))
part (s_catch a d e f g i j k ss n hs u v o1 o2) h =
    let w = rest (rest (rest (back u (rest (rest h))))) in
    let q = part o1 (front _ (rest (rest h))) in
    let r = part o2 (front _ (rest (rest (rest w)))) in
    so _ (catch_form ss n hs q.most r.most (head w) q.part r.part) (simp length-append (omega (arith, q.room, r.room)))
part (s_finally a d e f g i ss ls u v o1 o2) h =
    let q = part o1 (front _ (rest (rest h))) in
    let r = part o2 (front _ (rest (rest (rest (back u (rest (rest h))))))) in
    so _ (finally_form ss ls q.most r.most q.part r.part) (simp length-append (omega (arith, q.room, r.room)))
part (s_catch_finally a d e f g a1 a2 a3 a4 a5 a6 ss n hs ls u v w o1 o2 o3) h =
    let i = rest (rest (rest (back u (rest (rest h))))) in
    let j = rest (rest (rest i)) in
    let q1 = part o1 (front _ (rest (rest h))) in
    let q2 = part o2 (front _ j) in
    let q3 = part o3 (front _ (rest (rest (rest (back v j))))) in
    so _ (catch_finally_form ss n hs ls q1.most q2.most q3.most (head i) q1.part q2.part q3.part) (simp length-append (omega (arith, q1.room, q2.room, q3.room)))
part (s_no_stmts l) h = so 0 (no_stmts_form) (omega arith)
part (s_more_stmts l x ss u v o k) h =
    let q = part o (front _ h) in
    let r = part k (back u h) in
    let x1 = q.part in
    so _ (more_stmts_form x ss q.most r.most (declares_nothing o) x1.declared x1.low r.part) (simp length-append (omega (arith, q.room, r.room)))
part (s_declaration a n ps body ss u v o k) h =
    let q = part o (front _ (rest h)) in
    let r = part k (back u (rest h)) in
    so _ (declaration_form n ps body a ss q.most r.most q.part r.part) (simp length-append (omega (arith, q.room, r.room)))
part (s_script ss u o) h = so 0 tt (omega arith)
