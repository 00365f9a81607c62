-- The neighbours in the tokens of each form of a tree (ES3 11 to 14).
use Rattle.std.proofs.Common.{◌≡◌, ℕ, Bool, true, false, List, [], ◌∷◌, ◌++◌, refl, ap, subst, ◌∙◌, nat_lt}
use Rattle.std.specs.Prelude.{◌&&◌, Option, Some, None}
use Rattle.std.proofs.lemmas.Bool.{and_from, or_parts}
use Rattle.es3_tree.specs.Token.{Token, name, num, text}
use Rattle.es3_tree.specs.Tree as t
use Rattle.es3_tree.specs.declared.UnOp.{UnOp}
use Rattle.es3_tree.specs.declared.UnOp.TheVariants.{Delete}
use Rattle.es3_tree.specs.declared.BinOp.{BinOp}
use Rattle.es3_tree.specs.declared.BinOp.TheVariants.{Mul, Add, InstanceOf}
use Rattle.es3_grammar.specs.Spots.{break_word, case_word, catch_word, continue_word, default_word, do_word, else_word, finally_word, for_word, function_word, if_word, in_word, new_word, return_word, switch_word, this_word, throw_word, try_word, var_word, while_word, with_word, null_word, open_brace, close_brace, open_paren, close_paren, open_bracket, close_bracket, point, semicolon, comma, query, colon, equals}
use Rattle.es3_grammar.specs.Levels.{Join, an_op, an_and, an_or, an_assign, a_comma, left, right, level, unary_sign, step_sign}
use Rattle.es3_printed.specs.Tokens.{op_sign, assign_sign, join_sign, wrapped, wraps, wraps_object, wraps_maker, is_in, opens, between, step_tokens, truth, behind_comma, behind_field, behind_item, initialiser, clause_head, listed, named, bare}
use Rattle.es3_printed.proofs.Sides.{Behind, an_operator, a_point, a_number, an_end, after, is_settled, may, sides, end_of, ends, IsCalm, IsOperand, sides-append, sides-settled, end_of-append, end_of-settled, end_of-operand, calm, chain, any_end, chain_end, nothing, only, last, put, put_end}

-- a token that may stand behind an operand, and behind which an operand may stand
record IsJoin (t : Token) : Type 0 where
  behind_number : may a_number t ≡ true
  behind_end : may an_end t ≡ true
  settled : is_settled (after t) ≡ true

is_op : (op : BinOp) → IsJoin (op_sign op)
is_op InstanceOf = record { behind_number = refl; behind_end = refl; settled = refl }
is_op op = record { behind_number = refl; behind_end = refl; settled = refl }

is_assign : (op : Option BinOp) → IsJoin (assign_sign op)
is_assign None = record { behind_number = refl; behind_end = refl; settled = refl }
is_assign (Some Add) = record { behind_number = refl; behind_end = refl; settled = refl }
is_assign (Some op) = record { behind_number = refl; behind_end = refl; settled = refl }

is_join : (j : Join) → IsJoin (join_sign j)
is_join (an_op op) = is_op op
is_join an_and = record { behind_number = refl; behind_end = refl; settled = refl }
is_join an_or = record { behind_number = refl; behind_end = refl; settled = refl }
is_join (an_assign op) = is_assign op
is_join a_comma = record { behind_number = refl; behind_end = refl; settled = refl }

joins_there : (n : Bool) (a : Behind) (t : Token) → ends n a ≡ true → IsJoin t → may a t ≡ true
joins_there n an_operator t h j = absurd cc
joins_there n a_point t h j = absurd cc
joins_there n a_number t h j = j.behind_number
joins_there n an_end t h j = j.behind_end

joined_sides : {n : Bool} (t : Token) {u : List Token} (v : List Token) → IsJoin t → IsOperand n u → sides an_operator v ≡ true → sides an_operator (u ++ t ∷ v) ≡ true
joined_sides {n} t {u} v j p h =
    sides-append u (t ∷ v) an_operator p.beside
    (and_from (may (end_of an_operator u) t) (sides (after t) v) (joins_there n (end_of an_operator u) t p.end j) (sides-settled (after t) v j.settled h))

joined : {n : Bool} (t : Token) {u v : List Token} → IsJoin t → IsOperand n u → IsCalm v → IsCalm (u ++ t ∷ v)
joined t {u} {v} j p q = record {
  beside = joined_sides t v j p q.beside;
  end = ap is_settled (end_of-append u (t ∷ v) an_operator) ∙ end_of-settled (after t) v j.settled q.end;
}

joined_end : {n m : Bool} (t : Token) {u v : List Token} → IsJoin t → IsOperand n u → IsOperand m v → IsOperand m (u ++ t ∷ v)
joined_end {n} {m} t {u} {v} j p q = record {
  beside = joined_sides t v j p q.beside;
  end = ap (ends m) (end_of-append u (t ∷ v) an_operator) ∙ end_of-operand m (after t) v q.end;
}

-- a point stands behind an operand that no number ends
only_an_end : (k : List ℕ) (a : Behind) → ends false a ≡ true → sides a (point ∷ name k ∷ []) ≡ true
only_an_end k an_operator h = absurd cc
only_an_end k a_point h = absurd cc
only_an_end k a_number h = absurd cc
only_an_end k an_end h = refl

member : (k : List ℕ) {u : List Token} → IsOperand false u → IsOperand false (u ++ point ∷ name k ∷ [])
member k {u} p = record {
  beside = sides-append u (point ∷ name k ∷ []) an_operator p.beside (only_an_end k (end_of an_operator u) p.end);
  end = ap (ends false) (end_of-append u (point ∷ name k ∷ []) an_operator);
}

-- brackets

parens : {ts : List Token} (n : Bool) → IsCalm ts → IsOperand n (open_paren ∷ (ts ++ close_paren ∷ []))
parens n h = put_end open_paren refl refl (chain_end h (last n close_paren refl refl))

square : {ts : List Token} → IsCalm ts → IsOperand false (open_bracket ∷ (ts ++ close_bracket ∷ []))
square h = put_end open_bracket refl refl (chain_end h (last false close_bracket refl refl))

braces : {ts : List Token} → IsCalm ts → IsOperand false (open_brace ∷ (ts ++ close_brace ∷ []))
braces h = put_end open_brace refl refl (chain_end h (last false close_brace refl refl))

-- a part, and a part in parentheses

within : (w : Bool) {n : Bool} {ts : List Token} → IsOperand n ts → IsOperand n (wrapped w ts)
within true {n} h = parens n (calm h)
within false h = h

calm_within : (w : Bool) {ts : List Token} → IsCalm ts → IsCalm (wrapped w ts)
calm_within true h = calm (parens false h)
calm_within false h = h

-- whether a number may end an expression
abbrev ends_number : t.Tree t.expr → Bool
ends_number (t.num n) = true
ends_number (t.unary op x) = true
ends_number (t.step up true x) = true
ends_number (t.binary op x y) = true
ends_number (t.and x y) = true
ends_number (t.or x y) = true
ends_number (t.choice x y z) = true
ends_number (t.assign op x y) = true
ends_number (t.comma x y) = true
ends_number e = false

low : (op : BinOp) → nat_lt (level op) 15 ≡ true
low Mul = refl
low op = refl

-- such an expression takes parentheses as the object of a member
bare_object : (b : Bool) (e : t.Tree t.expr) → wraps_object b e ≡ false → ends_number e ≡ false
bare_object b (t.num n) h = absurd cc
bare_object b (t.unary op x) h = absurd cc
bare_object b (t.step up true x) h = absurd cc
bare_object b (t.binary op x y) h = let l = low op in let p = or_parts (nat_lt (level op) 15) (b && is_in (t.binary op x y)) h in absurd cc
bare_object b (t.and x y) h = absurd cc
bare_object b (t.or x y) h = absurd cc
bare_object b (t.choice x y z) h = absurd cc
bare_object b (t.assign op x y) h = absurd cc
bare_object b (t.comma x y) h = absurd cc
bare_object b e h = refl

object : (b : Bool) (e : t.Tree t.expr) {ts : List Token} → IsOperand (ends_number e) ts → IsOperand false (wrapped (wraps_object b e) ts)
object b e {ts} h = go (wraps_object b e) (bare_object b e)
  where
    go : (w : Bool) → (w ≡ false → ends_number e ≡ false) → IsOperand false (wrapped w ts)
    go true f = parens false (calm h)
    go false f = subst (λ n. IsOperand n ts) (f refl) h

-- two parts with an operator between them
two_parts : {n m : Bool} (b : Bool) (j : Join) (x y : t.Tree t.expr) {u v : List Token} → IsOperand n u → IsOperand m v → IsOperand true (between b j x u y v)
two_parts b j x y p q = joined_end (join_sign j) (is_join j) (within (wraps b (left j) x) p) (within (wraps b (right j) y) (any_end q))

unary_put : (op : UnOp) {ts : List Token} → IsOperand true ts → IsOperand true (unary_sign op ∷ ts)
unary_put Delete h = put_end (unary_sign Delete) refl refl h
unary_put op h = put_end (unary_sign op) refl refl h

step_before : (b up : Bool) (x : t.Tree t.expr) {ts : List Token} → IsOperand true ts → IsOperand true (step_tokens b up true x ts)
step_before b true x h = put_end (step_sign true) refl refl (within (wraps b 13 x) h)
step_before b false x h = put_end (step_sign false) refl refl (within (wraps b 13 x) h)

step_behind : (b up : Bool) (x : t.Tree t.expr) {ts : List Token} → IsCalm ts → IsOperand false (step_tokens b up false x ts)
step_behind b true x h = chain_end (calm_within (wraps b 15 x) h) (last false (step_sign true) refl refl)
step_behind b false x h = chain_end (calm_within (wraps b 15 x) h) (last false (step_sign false) refl refl)

a_truth : (v : Bool) → IsOperand false (truth v ∷ [])
a_truth true = last false (truth true) refl refl
a_truth false = last false (truth false) refl refl

-- parts of lists

more_exprs : (es : t.Tree t.exprs) {ts : List Token} → IsCalm ts → IsCalm (behind_comma es ts)
more_exprs t.no_exprs h = nothing
more_exprs (t.more_exprs e es) h = put comma refl refl h

more_fields : (fs : t.Tree t.fields) {ts : List Token} → IsCalm ts → IsCalm (behind_field fs ts)
more_fields t.no_fields h = nothing
more_fields (t.more_fields k e fs) h = put comma refl refl h

more_items : (is : t.Tree t.items) {ts : List Token} → IsCalm ts → IsCalm (behind_item is ts)
more_items t.no_items h = nothing
more_items (t.more_items x m is) h = put comma refl refl h

item : (b : Bool) (x : List ℕ) (m : t.Tree t.maybe_expr) {u v : List Token} → IsCalm u → IsCalm v → IsCalm (name x ∷ (initialiser b m u ++ v))
item b x t.no_expr p q = put (name x) refl refl q
item b x (t.some_expr e) p q = joined equals (is_join (an_assign None)) (last false (name x) refl refl) (chain (calm_within (wraps b 1 e) p) q)

a_clause : (m : t.Tree t.maybe_expr) {ts : List Token} → IsCalm ts → IsCalm (clause_head m ts)
a_clause t.no_expr h = put default_word refl refl (only colon refl refl)
a_clause (t.some_expr e) h = put case_word refl refl (chain h (only colon refl refl))

name_list : (xs : List (List ℕ)) → IsCalm (listed xs)
name_list [] = nothing
name_list (x ∷ []) = only (name x) refl refl
name_list (x ∷ y ∷ ys) = put (name x) refl refl (put comma refl refl (name_list (y ∷ ys)))

maybe_name : (x : Option (List ℕ)) → IsCalm (named x)
maybe_name None = nothing
maybe_name (Some x) = only (name x) refl refl

ended : {ts : List Token} → IsCalm ts → IsCalm (ts ++ semicolon ∷ [])
ended h = chain h (only semicolon refl refl)

-- parentheses, and more behind them
parens_then : {u v : List Token} → IsCalm u → IsCalm v → IsCalm (open_paren ∷ (u ++ close_paren ∷ v))
parens_then p q = put open_paren refl refl (chain p (put close_paren refl refl q))

braces_then : {u v : List Token} → IsCalm u → IsCalm v → IsCalm (open_brace ∷ (u ++ close_brace ∷ v))
braces_then p q = put open_brace refl refl (chain p (put close_brace refl refl q))

-- the tokens of a tree

abbrev Said : (s : t.Sort) → Bool → t.Tree s → Type 0
Said t.expr b e = IsOperand (ends_number e) (bare t.expr b e)
Said t.func b f = IsOperand false (bare t.func b f)
Said s b q = IsCalm (bare s b q)

said : (s : t.Sort) (b : Bool) (q : t.Tree s) → Said s b q
unfolding bare
said _ b t.this = last false this_word refl refl
said _ b t.null = last false null_word refl refl
said _ b (t.bool v) = a_truth v
said _ b (t.num n) = last true (num n) refl refl
said _ b (t.text us) = last false (text us) refl refl
said _ b (t.name x) = last false (name x) refl refl
said _ b (t.array es) = square (said t.exprs b es)
said _ b (t.object fs) = braces (said t.fields b fs)
said _ b (t.function f) = said t.func b f
said _ b (t.dot e k) = member k (object b e (said t.expr b e))
said _ b (t.index e k) = chain_end (calm (object b e (said t.expr b e))) (square (calm_within (wraps b 0 k) (calm (said t.expr b k))))
said _ b (t.call e es) = chain_end (calm_within (wraps b 15 e) (calm (said t.expr b e))) (parens false (said t.exprs b es))
said _ b (t.new e es) = put_end new_word refl refl (chain_end (calm_within (wraps_maker b e) (calm (said t.expr b e))) (parens false (said t.exprs b es)))
said _ b (t.unary op x) = unary_put op (within (wraps b 13 x) (any_end (said t.expr b x)))
said _ b (t.step up true x) = step_before b up x (any_end (said t.expr b x))
said _ b (t.step up false x) = step_behind b up x (calm (said t.expr b x))
said _ b (t.binary op x y) = two_parts b (an_op op) x y (said t.expr b x) (said t.expr b y)
said _ b (t.and x y) = two_parts b an_and x y (said t.expr b x) (said t.expr b y)
said _ b (t.or x y) = two_parts b an_or x y (said t.expr b x) (said t.expr b y)
said _ b (t.choice x y z) =
    chain_end (calm_within (wraps b 3 x) (calm (said t.expr b x)))
    (put_end query refl refl (chain_end (calm_within (wraps b 1 y) (calm (said t.expr b y)))
    (put_end colon refl refl (within (wraps b 1 z) (any_end (said t.expr b z))))))
said _ b (t.assign op x y) = two_parts b (an_assign op) x y (said t.expr b x) (said t.expr b y)
said _ b (t.comma x y) = two_parts b a_comma x y (said t.expr b x) (said t.expr b y)
said _ b t.no_exprs = nothing
said _ b (t.more_exprs e es) = chain (calm_within (wraps b 1 e) (calm (said t.expr b e))) (more_exprs es (said t.exprs b es))
said _ b t.no_fields = nothing
said _ b (t.more_fields k e fs) =
    put (text k) refl refl (put colon refl refl (chain (calm_within (wraps b 1 e) (calm (said t.expr b e))) (more_fields fs (said t.fields b fs))))
said _ b t.no_expr = nothing
said _ b (t.some_expr e) = calm (said t.expr b e)
said _ b (t.block ss) = calm (braces (said t.stmts false ss))
said _ b (t.var is) = put var_word refl refl (ended (said t.items false is))
said _ b t.empty = only semicolon refl refl
said _ b (t.expression e) = ended (calm_within (opens (bare t.expr false e)) (calm (said t.expr false e)))
said _ b (t.branch e s r) = put if_word refl refl (parens_then (calm (said t.expr false e)) (chain (said t.stmt false s) (said t.maybe_stmt false r)))
said _ b (t.while_loop e s) = put while_word refl refl (parens_then (calm (said t.expr false e)) (said t.stmt false s))
said _ b (t.do_loop s e) =
    put do_word refl refl (chain (said t.stmt false s) (put while_word refl refl (parens_then (calm (said t.expr false e)) (only semicolon refl refl))))
said _ b (t.for_loop f m n s) =
    put for_word refl refl (put open_paren refl refl (chain (said t.first true f) (put semicolon refl refl (chain (said t.maybe_expr false m)
    (put semicolon refl refl (chain (said t.maybe_expr false n) (put close_paren refl refl (said t.stmt false s))))))))
said _ b (t.for_in l e s) =
    put for_word refl refl (put open_paren refl refl (chain (said t.loop_target false l)
    (put in_word refl refl (chain (calm (said t.expr false e)) (put close_paren refl refl (said t.stmt false s))))))
said _ b (t.continue x) = put continue_word refl refl (ended (maybe_name x))
said _ b (t.break x) = put break_word refl refl (ended (maybe_name x))
said _ b (t.return m) = put return_word refl refl (ended (said t.maybe_expr false m))
said _ b (t.with_object e s) = put with_word refl refl (parens_then (calm (said t.expr false e)) (said t.stmt false s))
said _ b (t.switch e cs) = put switch_word refl refl (parens_then (calm (said t.expr false e)) (braces_then (said t.cases false cs) nothing))
said _ b (t.label x s) = put (name x) refl refl (put colon refl refl (said t.stmt false s))
said _ b (t.throw e) = put throw_word refl refl (ended (calm (said t.expr false e)))
said _ b (t.try ss h l) = put try_word refl refl (braces_then (said t.stmts false ss) (chain (said t.handler false h) (said t.maybe_block false l)))
said _ b (t.declare f) = calm (said t.func false f)
said _ b t.no_stmts = nothing
said _ b (t.more_stmts s ss) = chain (said t.stmt false s) (said t.stmts false ss)
said _ b t.no_items = nothing
said _ b (t.more_items x m is) = item b x m (said t.maybe_expr b m) (more_items is (said t.items b is))
said _ b t.no_stmt = nothing
said _ b (t.some_stmt s) = put else_word refl refl (said t.stmt false s)
said _ b t.no_block = nothing
said _ b (t.some_block ss) = put finally_word refl refl (calm (braces (said t.stmts false ss)))
said _ b t.no_first = nothing
said _ b (t.first_var is) = put var_word refl refl (said t.items b is)
said _ b (t.first_expr e) = calm_within (wraps b 0 e) (calm (said t.expr b e))
said _ b (t.loop_var x) = put var_word refl refl (only (name x) refl refl)
said _ b (t.loop_expr e) = calm (said t.expr false e)
said _ b t.no_cases = nothing
said _ b (t.more_cases m ss cs) = chain (a_clause m (said t.maybe_expr false m)) (chain (said t.stmts false ss) (said t.cases false cs))
said _ b t.no_handler = nothing
said _ b (t.some_handler x ss) =
    put catch_word refl refl (put open_paren refl refl (put (name x) refl refl (put close_paren refl refl (calm (braces (said t.stmts false ss))))))
said _ b (t.fun x ps body) =
    put_end function_word refl refl (chain_end (maybe_name x) (put_end open_paren refl refl (chain_end (name_list ps)
    (put_end close_paren refl refl (braces (said t.stmts false body))))))
said _ b (t.script body) = said t.stmts false body

pub sides_of : (p : t.Tree t.program) → sides an_operator (bare t.program false p) ≡ true
sides_of p = let h : IsCalm (bare t.program false p) = said t.program false p in h.beside
