-- Trees that tokens spell, each form from its parts: the tokens are not those that are printed, since parentheses stand round each operation.
use Rattle.std.proofs.Common.{◌≡◌, ℕ, ◌≤◌, Bool, true, false, List, [], ◌∷◌, ◌++◌, None, refl, arith, lit<}
use Rattle.std.specs.Prelude.{ℤ}
use Rattle.std.specs.List.{All}
use Rattle.std.proofs.lemmas.List.Elements.{All-nil, All-cons, All-append}
use Rattle.es3_tree.specs.Tree as t
use Rattle.es3_tree.specs.Token.{Token, name, num, text}
use Rattle.es3_tree.specs.declared.UnOp.{UnOp}
use Rattle.es3_tokens.specs.Back.{IsToken}
use Rattle.es3_grammar.specs.Spots.{function_word, open_paren, close_paren, open_bracket, close_bracket, point, comma, query, colon, null_word, true_word, false_word}
use Rattle.es3_grammar.specs.Levels.{Join, an_assign, left, right, unary_sign, step_sign}
use Rattle.es3_grammar.specs.Grammar.{Bars, free, bars_call}
use Rattle.es3_printed.specs.Tokens.{join_sign}
use Rattle.es3_printed.proofs.Shown.{Shown}
use Rattle.es3_printed.proofs.ShownExpressions.{made, may_stand_left, shown_null, shown_bool, shown_num, shown_text, shown_name, shown_paren, shown_array, shown_function, shown_dot, shown_index, shown_call, shown_postfix, shown_prefix_step, shown_prefix, shown_join, shown_choice, shown_no_exprs, shown_some_exprs, shown_one_expr, shown_more_exprs}
use Rattle.cajoled_text.proofs.Operators.{HasSign, of_plain, unary_token, step_token}

-- ---- tokens, one behind another

pub record Are (w : List Token) : Type 0 where
  pub all : All IsToken w

pub nothing : Are []
nothing = record { all = All-nil IsToken }

pub then : {c : Token} {w : List Token} → IsToken c → Are w → Are (c ∷ w)
then {c} {w} i p = record { all = All-cons IsToken c w i p.all }

pub before : {u w : List Token} → Are u → Are w → Are (u ++ w)
before {u} {w} p q = record { all = All-append IsToken u w p.all q.all }

pub within : {c : Token} {u w : List Token} → IsToken c → Are w → Are u → Are (c ∷ (u ++ w))
within i q p = then i (before p q)

pub last : {c : Token} → IsToken c → Are (c ∷ [])
last i = then i nothing

-- ---- what tokens spell: a part of a tree at its level; an expression, whatever level is asked, and whether or not `in` may stand there (12.6)

pub record Written (s : t.Sort) (l : ℕ) (q : t.Tree s) : Type 0 where
  pub tokens : List Token
  pub are : Are tokens
  pub shown : Shown s free l q tokens

pub record Expression (x : t.Tree t.expr) : Type 0 where
  pub tokens : List Token
  pub are : Are tokens
  pub shown : (b : Bars) → bars_call b ≡ false → (l : ℕ) → l ≤ 16 → Shown t.expr b l x tokens

-- where nothing is barred
pub freely : {x : t.Tree t.expr} (p : Expression x) (l : ℕ) → l ≤ 16 → Shown t.expr free l x p.tokens
freely p l le = p.shown free refl l le

-- a list of expressions, alone and behind another one
pub record Expressions (xs : t.Tree t.exprs) : Type 0 where
  pub alone : Written t.exprs 0 xs
  pub more : List Token
  pub are : Are more
  pub behind : (x : t.Tree t.expr) (u : List Token) → Shown t.expr free 1 x u → Shown t.exprs free 1 (t.more_exprs x xs) (u ++ more)

-- ---- expressions

pub number : (n : ℤ) → IsToken (num n) → Expression (t.num n)
number n i = record { tokens = num n ∷ []; are = last i; shown = λ b may l le. shown_num b l n le }

pub literal : (us : List ℕ) → IsToken (text us) → Expression (t.text us)
literal us i = record { tokens = text us ∷ []; are = last i; shown = λ b may l le. shown_text b l us le }

pub named : (us : List ℕ) → IsToken (name us) → Expression (t.name us)
named us i = record { tokens = name us ∷ []; are = last i; shown = λ b may l le. shown_name b l us le }

pub null : Expression t.null
null = record { tokens = null_word ∷ []; are = last (lit< tt); shown = λ b may l le. shown_null b l le }

pub boolean : (v : Bool) → Expression (t.bool v)
boolean true = record { tokens = true_word ∷ []; are = last (lit< tt); shown = λ b may l le. shown_bool b l true le }
boolean false = record { tokens = false_word ∷ []; are = last (lit< tt); shown = λ b may l le. shown_bool b l false le }

-- in parentheses, whatever stands at the lowest level is an expression at each level
pub within_parens : (x : t.Tree t.expr) → Written t.expr 0 x → Expression x
within_parens x p = record {
  tokens = open_paren ∷ (p.tokens ++ close_paren ∷ []);
  are = within (lit< tt) (last (lit< tt)) p.are;
  shown = λ b may l le. shown_paren b l x p.tokens le p.shown;
}

-- 11.5 to 11.11, 11.13, 11.14: an operator between two parts
pub join : (j : Join) (x y : t.Tree t.expr) → HasSign j → may_stand_left j x ≡ true → Expression x → Expression y → Expression (made j x y)
join j x y i h p q = within_parens _ record {
  tokens = p.tokens ++ join_sign j ∷ q.tokens;
  are = before p.are (then i.token q.are);
  shown = shown_join free 0 j (join_sign j) x y p.tokens q.tokens (omega arith) i.read h (freely p (left j) i.left_low) (freely q (right j) i.right_low);
}

pub assigned : (us : List ℕ) (x : t.Tree t.expr) → IsToken (name us) → Expression x → Expression (t.assign None (t.name us) x)
assigned us x i p = join (an_assign None) (t.name us) x of_plain refl (named us i) p

-- 11.3, 11.4.4, 11.4.5: of a name
pub step : (up first : Bool) (us : List ℕ) → IsToken (name us) → Expression (t.step up first (t.name us))
step up true us i = within_parens _ record {
  tokens = step_sign up ∷ name us ∷ [];
  are = then (step_token up) (last i);
  shown = shown_prefix_step free 0 up (t.name us) (name us ∷ []) (omega arith) refl (shown_name free 15 us (omega arith));
}
step up false us i = within_parens _ record {
  tokens = name us ∷ step_sign up ∷ [];
  are = then i (last (step_token up));
  shown = shown_postfix free 0 up (t.name us) (name us ∷ []) (omega arith) refl (shown_name free 15 us (omega arith));
}

-- 11.4
pub unary : (op : UnOp) (x : t.Tree t.expr) → Expression x → Expression (t.unary op x)
unary op x p = within_parens _ record {
  tokens = unary_sign op ∷ p.tokens;
  are = then (unary_token op) p.are;
  shown = shown_prefix free 0 op x p.tokens (omega arith) (freely p 13 (omega arith));
}

-- 11.12
pub choice : (x y z : t.Tree t.expr) → Expression x → Expression y → Expression z → Expression (t.choice x y z)
choice x y z p q r = within_parens _ record {
  tokens = p.tokens ++ query ∷ (q.tokens ++ colon ∷ r.tokens);
  are = before p.are (then (lit< tt) (before q.are (then (lit< tt) r.are)));
  shown = shown_choice free 0 x y z p.tokens q.tokens r.tokens (omega arith) (freely p 3 (omega arith)) (freely q 1 (omega arith)) (freely r 1 (omega arith));
}

pub array : (xs : t.Tree t.exprs) → Expressions xs → Expression (t.array xs)
array xs p = record {
  tokens = open_bracket ∷ (p.alone.tokens ++ close_bracket ∷ []);
  are = within (lit< tt) (last (lit< tt)) p.alone.are;
  shown = λ b may l le. shown_array b l xs p.alone.tokens le p.alone.shown;
}

pub member : (x : t.Tree t.expr) (us : List ℕ) → Expression x → IsToken (name us) → Expression (t.dot x us)
member x us p i = record {
  tokens = p.tokens ++ point ∷ name us ∷ [];
  are = before p.are (then (lit< tt) (last i));
  shown = λ b may l le. shown_dot b l x us p.tokens le (p.shown b may 16 (omega arith));
}

pub call : (x : t.Tree t.expr) (xs : t.Tree t.exprs) → Expression x → Expressions xs → Expression (t.call x xs)
call x xs p q = record {
  tokens = p.tokens ++ open_paren ∷ (q.alone.tokens ++ close_paren ∷ []);
  are = before p.are (within (lit< tt) (last (lit< tt)) q.alone.are);
  shown = λ b may l le. shown_call b l x xs p.tokens q.alone.tokens le may (p.shown b may 16 (omega arith)) q.alone.shown;
}

pub index : (x y : t.Tree t.expr) → Expression x → Expression y → Expression (t.index x y)
index x y p q = record {
  tokens = p.tokens ++ open_bracket ∷ (q.tokens ++ close_bracket ∷ []);
  are = before p.are (within (lit< tt) (last (lit< tt)) q.are);
  shown = λ b may l le. shown_index b l x y p.tokens q.tokens le (p.shown b may 16 (omega arith)) (freely q 0 (omega arith));
}

-- 13
pub function : (f : t.Tree t.func) → Written t.func 0 f → Expression (t.function f)
function f p = record { tokens = function_word ∷ p.tokens; are = then (lit< tt) p.are; shown = λ b may l le. shown_function b l f p.tokens le p.shown }

pub no_more : Expressions t.no_exprs
no_more = record {
  alone = record { tokens = []; are = nothing; shown = shown_no_exprs };
  more = [];
  are = nothing;
  behind = λ x u p. shown_one_expr x u p;
}

pub more : (x : t.Tree t.expr) (xs : t.Tree t.exprs) → Expression x → Expressions xs → Expressions (t.more_exprs x xs)
more x xs p q = record {
  alone = record { tokens = p.tokens ++ q.more; are = before p.are q.are; shown = shown_some_exprs (t.more_exprs x xs) _ of_level_one };
  more = comma ∷ (p.tokens ++ q.more);
  are = then (lit< tt) (before p.are q.are);
  behind = λ y u h. shown_more_exprs y (t.more_exprs x xs) u (p.tokens ++ q.more) h of_level_one;
}
  where
    of_level_one : Shown t.exprs free 1 (t.more_exprs x xs) (p.tokens ++ q.more)
    of_level_one = q.behind x p.tokens (freely p 1 (omega arith))
