-- Statements that tokens spell, each form from its parts (ES3 12).
use Rattle.std.proofs.Common.{◌≡◌, ℕ, false, true, List, [], ◌∷◌, ◌++◌, Option, Some, None, refl, arith, lit<}
use Rattle.es3_tree.specs.Tree as t
use Rattle.es3_tree.specs.Token.{Token, name}
use Rattle.es3_tokens.specs.Back.{IsToken}
use Rattle.es3_grammar.specs.Spots.{break_word, case_word, catch_word, continue_word, default_word, do_word, else_word, finally_word, for_word, if_word, return_word, switch_word, throw_word, try_word, var_word, while_word, open_brace, close_brace, open_paren, close_paren, semicolon, comma, colon, equals}
use Rattle.es3_grammar.specs.Grammar.{Bars, free, no_in, bars_call}
use Rattle.es3_printed.specs.Tokens.{named}
use Rattle.es3_printed.proofs.Shown.{Shown}
use Rattle.es3_printed.proofs.ShownExpressions.{shown_paren}
use Rattle.es3_printed.proofs.ShownParts.{shown_no_stmts, shown_more_stmts, shown_one_item, shown_more_items, shown_no_value, shown_value, shown_no_first, shown_first_var, shown_first_expr, shown_no_expr, shown_some_expr, shown_no_cases, shown_case, shown_default}
use Rattle.es3_printed.proofs.ShownStatements.{plain_is_open, plain_one_default, shown_block, shown_var, shown_empty, shown_expression, shown_if, shown_else, shown_while, shown_do, shown_for, shown_continue, shown_break, shown_return, shown_switch, shown_label, shown_throw, shown_catch, shown_finally, shown_catch_finally}
use Rattle.rewrite_parts.specs.Parts.{joined}
use Rattle.cajoled_text.specs.Clean.{IsMaybeName}
use Rattle.cajoled_text.proofs.Forms.{Are, nothing, then, before, within, last, Written, Expression, freely}

-- a name that may be absent
pub maybe_named : (x : Option (List ℕ)) → IsMaybeName x → Are (named x)
maybe_named None i = nothing
maybe_named (Some x) i = last i

-- ---- variables, and what they begin as, whether or not `in` may stand there (12.2, 12.6)

pub record Value (m : t.Tree t.maybe_expr) : Type 0 where
  pub tokens : List Token
  pub are : Are tokens
  pub shown : (b : Bars) → bars_call b ≡ false → Shown t.maybe_expr b 1 m tokens

pub record Items (is : t.Tree t.items) : Type 0 where
  pub tokens : List Token
  pub are : Are tokens
  pub shown : (b : Bars) → bars_call b ≡ false → Shown t.items b 0 is tokens

-- variables, of which there may be none
abbrev pub Listed : t.Tree t.items → Type 0
Listed t.no_items = Unit {0}
Listed (t.more_items x m is) = Items (t.more_items x m is)

pub no_value : Value t.no_expr
no_value = record { tokens = []; are = nothing; shown = λ b may. shown_no_value b }

pub value : (x : t.Tree t.expr) → Expression x → Value (t.some_expr x)
value x p = record { tokens = equals ∷ p.tokens; are = then (lit< tt) p.are; shown = λ b may. shown_value b x p.tokens (p.shown b may 1 (omega arith)) }

pub item : (x : List ℕ) (m : t.Tree t.maybe_expr) (is : t.Tree t.items) → IsToken (name x) → Value m → Listed is → Items (t.more_items x m is)
item x m t.no_items i p q = record {
  tokens = name x ∷ (p.tokens ++ []);
  are = then i (before p.are nothing);
  shown = λ b may. shown_one_item b x m p.tokens (p.shown b may);
}
item x m (t.more_items y n is) i p q = record {
  tokens = name x ∷ (p.tokens ++ comma ∷ q.tokens);
  are = then i (before p.are (then (lit< tt) q.are));
  shown = λ b may. shown_more_items b x m (t.more_items y n is) p.tokens q.tokens (p.shown b may) (q.shown b may);
}

pub variables : (is : t.Tree t.items) → Items is → Written t.stmt 0 (t.var is)
variables is p = record {
  tokens = var_word ∷ (p.tokens ++ semicolon ∷ []);
  are = within (lit< tt) (last (lit< tt)) p.are;
  shown = shown_var is p.tokens (p.shown free refl);
}

-- ---- an expression that may be absent

pub no_expr : Written t.maybe_expr 0 t.no_expr
no_expr = record { tokens = []; are = nothing; shown = shown_no_expr }

pub some_expr : (x : t.Tree t.expr) → Expression x → Written t.maybe_expr 0 (t.some_expr x)
some_expr x p = record { tokens = p.tokens; are = p.are; shown = shown_some_expr x p.tokens (freely p 0 (omega arith)) }

-- ---- lists of statements without declarations of functions: in a block, and before what stands behind them in a body

pub record Statements (ss : t.Tree t.stmts) : Type 0 where
  pub tokens : List Token
  pub are : Are tokens
  pub shown : (l : ℕ) → Shown t.stmts free l ss tokens
  pub with_rest : (rest : t.Tree t.stmts) → Written t.stmts 1 rest → Written t.stmts 1 (joined ss rest)

pub one_before : (s : t.Tree t.stmt) (ss : t.Tree t.stmts) → Written t.stmt 0 s → Written t.stmts 1 ss → Written t.stmts 1 (t.more_stmts s ss)
one_before s ss p q = record { tokens = p.tokens ++ q.tokens; are = before p.are q.are; shown = shown_more_stmts 1 s ss p.tokens q.tokens p.shown q.shown }

pub no_stmts : Statements t.no_stmts
no_stmts = record { tokens = []; are = nothing; shown = shown_no_stmts; with_rest = λ rest q. q }

pub more_stmts : (s : t.Tree t.stmt) (ss : t.Tree t.stmts) → Written t.stmt 0 s → Statements ss → Statements (t.more_stmts s ss)
more_stmts s ss p q = record {
  tokens = p.tokens ++ q.tokens;
  are = before p.are q.are;
  shown = λ l. shown_more_stmts l s ss p.tokens q.tokens p.shown (q.shown l);
  with_rest = λ rest r. one_before s (joined ss rest) p (q.with_rest rest r);
}

-- ---- 12.1 to 12.5

pub block : (ss : t.Tree t.stmts) → Statements ss → Written t.stmt 0 (t.block ss)
block ss p = record { tokens = open_brace ∷ (p.tokens ++ close_brace ∷ []); are = within (lit< tt) (last (lit< tt)) p.are; shown = shown_block ss p.tokens (p.shown 0) }

pub empty : Written t.stmt 0 t.empty
empty = record { tokens = semicolon ∷ []; are = last (lit< tt); shown = shown_empty }

-- in parentheses, so that it begins neither like a block nor like a function declaration
pub statement : (x : t.Tree t.expr) → Expression x → Written t.stmt 0 (t.expression x)
statement x p = record {
  tokens = (open_paren ∷ (p.tokens ++ close_paren ∷ [])) ++ semicolon ∷ [];
  are = before (within (lit< tt) (last (lit< tt)) p.are) (last (lit< tt));
  shown = shown_expression x _ (shown_paren free 0 x p.tokens (omega arith) (freely p 0 (omega arith))) refl;
}

pub branch_alone : (x : t.Tree t.expr) (s : t.Tree t.stmt) → Expression x → Written t.stmt 0 s → Written t.stmt 0 (t.branch x s t.no_stmt)
branch_alone x s p q = record {
  tokens = if_word ∷ open_paren ∷ (p.tokens ++ close_paren ∷ (q.tokens ++ []));
  are = then (lit< tt) (within (lit< tt) (then (lit< tt) (before q.are nothing)) p.are);
  shown = shown_if x s p.tokens q.tokens (freely p 0 (omega arith)) q.shown;
}

-- what stands before `else` ends in no `if` without `else`
pub branch_else : (x : t.Tree t.expr) (s r : t.Tree t.stmt) → plain_is_open s ≡ false → Expression x → Written t.stmt 0 s → Written t.stmt 0 r
    → Written t.stmt 0 (t.branch x s (t.some_stmt r))
branch_else x s r closed p q h = record {
  tokens = if_word ∷ open_paren ∷ (p.tokens ++ close_paren ∷ (q.tokens ++ else_word ∷ h.tokens));
  are = then (lit< tt) (within (lit< tt) (then (lit< tt) (before q.are (then (lit< tt) h.are))) p.are);
  shown = shown_else x s r p.tokens q.tokens h.tokens (freely p 0 (omega arith)) q.shown closed h.shown;
}

-- ---- 12.6

pub while_loop : (x : t.Tree t.expr) (s : t.Tree t.stmt) → Expression x → Written t.stmt 0 s → Written t.stmt 0 (t.while_loop x s)
while_loop x s p q = record {
  tokens = while_word ∷ open_paren ∷ (p.tokens ++ close_paren ∷ q.tokens);
  are = then (lit< tt) (within (lit< tt) (then (lit< tt) q.are) p.are);
  shown = shown_while x s p.tokens q.tokens (freely p 0 (omega arith)) q.shown;
}

pub do_loop : (s : t.Tree t.stmt) (x : t.Tree t.expr) → Written t.stmt 0 s → Expression x → Written t.stmt 0 (t.do_loop s x)
do_loop s x p q = record {
  tokens = do_word ∷ (p.tokens ++ while_word ∷ open_paren ∷ (q.tokens ++ close_paren ∷ semicolon ∷ []));
  are = within (lit< tt) (then (lit< tt) (within (lit< tt) (then (lit< tt) (last (lit< tt))) q.are)) p.are;
  shown = shown_do s x p.tokens q.tokens p.shown (freely q 0 (omega arith));
}

-- the first part of a head, where no `in` stands
pub record First (r : t.Tree t.first) : Type 0 where
  pub tokens : List Token
  pub are : Are tokens
  pub shown : Shown t.first no_in 0 r tokens

pub no_first : First t.no_first
no_first = record { tokens = []; are = nothing; shown = shown_no_first }

pub first_var : (is : t.Tree t.items) → Items is → First (t.first_var is)
first_var is p = record { tokens = var_word ∷ p.tokens; are = then (lit< tt) p.are; shown = shown_first_var is p.tokens (p.shown no_in refl) }

pub first_expr : (x : t.Tree t.expr) → Expression x → First (t.first_expr x)
first_expr x p = record { tokens = p.tokens; are = p.are; shown = shown_first_expr x p.tokens (p.shown no_in refl 0 (omega arith)) }

pub for_loop : (r : t.Tree t.first) (m n : t.Tree t.maybe_expr) (s : t.Tree t.stmt) → First r → Written t.maybe_expr 0 m → Written t.maybe_expr 0 n → Written t.stmt 0 s
    → Written t.stmt 0 (t.for_loop r m n s)
for_loop r m n s p q h k = record {
  tokens = for_word ∷ open_paren ∷ (p.tokens ++ semicolon ∷ (q.tokens ++ semicolon ∷ (h.tokens ++ close_paren ∷ k.tokens)));
  are = then (lit< tt) (within (lit< tt) (within (lit< tt) (within (lit< tt) (then (lit< tt) k.are) h.are) q.are) p.are);
  shown = shown_for r m n s p.tokens q.tokens h.tokens k.tokens p.shown q.shown h.shown k.shown;
}

-- ---- 12.7 to 12.9, 12.12, 12.13

pub continued : (x : Option (List ℕ)) → IsMaybeName x → Written t.stmt 0 (t.continue x)
continued x i = record { tokens = continue_word ∷ (named x ++ semicolon ∷ []); are = within (lit< tt) (last (lit< tt)) (maybe_named x i); shown = shown_continue x }

pub broken : (x : Option (List ℕ)) → IsMaybeName x → Written t.stmt 0 (t.break x)
broken x i = record { tokens = break_word ∷ (named x ++ semicolon ∷ []); are = within (lit< tt) (last (lit< tt)) (maybe_named x i); shown = shown_break x }

pub returned : (m : t.Tree t.maybe_expr) → Written t.maybe_expr 0 m → Written t.stmt 0 (t.return m)
returned m p = record { tokens = return_word ∷ (p.tokens ++ semicolon ∷ []); are = within (lit< tt) (last (lit< tt)) p.are; shown = shown_return m p.tokens p.shown }

pub label : (x : List ℕ) (s : t.Tree t.stmt) → IsToken (name x) → Written t.stmt 0 s → Written t.stmt 0 (t.label x s)
label x s i p = record { tokens = name x ∷ colon ∷ p.tokens; are = then i (then (lit< tt) p.are); shown = shown_label x s p.tokens p.shown }

pub thrown : (x : t.Tree t.expr) → Expression x → Written t.stmt 0 (t.throw x)
thrown x p = record { tokens = throw_word ∷ (p.tokens ++ semicolon ∷ []); are = within (lit< tt) (last (lit< tt)) p.are; shown = shown_throw x p.tokens (freely p 0 (omega arith)) }

-- ---- 12.11

pub no_cases : Written t.cases 0 t.no_cases
no_cases = record { tokens = []; are = nothing; shown = shown_no_cases }

pub case : (x : t.Tree t.expr) (ss : t.Tree t.stmts) (cs : t.Tree t.cases) → Expression x → Statements ss → Written t.cases 0 cs
    → Written t.cases 0 (t.more_cases (t.some_expr x) ss cs)
case x ss cs p q h = record {
  tokens = case_word ∷ ((p.tokens ++ colon ∷ []) ++ (q.tokens ++ h.tokens));
  are = within (lit< tt) (before q.are h.are) (before p.are (last (lit< tt)));
  shown = shown_case x ss cs p.tokens q.tokens h.tokens (freely p 0 (omega arith)) (q.shown 0) h.shown;
}

pub otherwise : (ss : t.Tree t.stmts) (cs : t.Tree t.cases) → Statements ss → Written t.cases 0 cs → Written t.cases 0 (t.more_cases t.no_expr ss cs)
otherwise ss cs q h = record {
  tokens = default_word ∷ colon ∷ (q.tokens ++ h.tokens);
  are = then (lit< tt) (then (lit< tt) (before q.are h.are));
  shown = shown_default ss cs q.tokens h.tokens (q.shown 0) h.shown;
}

pub switch : (x : t.Tree t.expr) (cs : t.Tree t.cases) → plain_one_default cs ≡ true → Expression x → Written t.cases 0 cs → Written t.stmt 0 (t.switch x cs)
switch x cs one p q = record {
  tokens = switch_word ∷ open_paren ∷ (p.tokens ++ close_paren ∷ open_brace ∷ (q.tokens ++ close_brace ∷ []));
  are = then (lit< tt) (within (lit< tt) (then (lit< tt) (within (lit< tt) (last (lit< tt)) q.are)) p.are);
  shown = shown_switch x cs p.tokens q.tokens (freely p 0 (omega arith)) q.shown one;
}

-- ---- 12.14

pub caught : (ss : t.Tree t.stmts) (x : List ℕ) (hs : t.Tree t.stmts) → IsToken (name x) → Statements ss → Statements hs
    → Written t.stmt 0 (t.try ss (t.some_handler x hs) t.no_block)
caught ss x hs i p q = record {
  tokens = try_word ∷ open_brace ∷ (p.tokens ++ close_brace ∷ catch_word ∷ open_paren ∷ name x ∷ close_paren ∷ open_brace ∷ ((q.tokens ++ close_brace ∷ []) ++ []));
  are = then (lit< tt) (within (lit< tt) (then (lit< tt) (then (lit< tt) (then (lit< tt) (then i (then (lit< tt) (within (lit< tt) nothing (before q.are (last (lit< tt))))))))) p.are);
  shown = shown_catch ss x hs p.tokens q.tokens (p.shown 0) (q.shown 0);
}

pub at_last : (ss ls : t.Tree t.stmts) → Statements ss → Statements ls → Written t.stmt 0 (t.try ss t.no_handler (t.some_block ls))
at_last ss ls p q = record {
  tokens = try_word ∷ open_brace ∷ (p.tokens ++ close_brace ∷ finally_word ∷ open_brace ∷ (q.tokens ++ close_brace ∷ []));
  are = then (lit< tt) (within (lit< tt) (then (lit< tt) (then (lit< tt) (within (lit< tt) (last (lit< tt)) q.are))) p.are);
  shown = shown_finally ss ls p.tokens q.tokens (p.shown 0) (q.shown 0);
}

pub caught_at_last : (ss : t.Tree t.stmts) (x : List ℕ) (hs ls : t.Tree t.stmts) → IsToken (name x) → Statements ss → Statements hs → Statements ls
    → Written t.stmt 0 (t.try ss (t.some_handler x hs) (t.some_block ls))
caught_at_last ss x hs ls i p q h = record {
  tokens = try_word ∷ open_brace ∷ (p.tokens ++ close_brace ∷ catch_word ∷ open_paren ∷ name x ∷ close_paren ∷ open_brace
      ∷ ((q.tokens ++ close_brace ∷ []) ++ finally_word ∷ open_brace ∷ (h.tokens ++ close_brace ∷ [])));
  are = then (lit< tt) (within (lit< tt) (then (lit< tt) (then (lit< tt) (then (lit< tt) (then i (then (lit< tt)
      (within (lit< tt) (then (lit< tt) (within (lit< tt) (last (lit< tt)) h.are)) (before q.are (last (lit< tt))))))))) p.are);
  shown = shown_catch_finally ss x hs ls p.tokens q.tokens h.tokens (p.shown 0) (q.shown 0) (h.shown 0);
}
