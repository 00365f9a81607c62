-- How expressions and statements begin.
use Rattle.std.proofs.Common.{◌≡◌, ℕ, suc, Bool, true, false, not, List, [], ◌∷◌, ◌++◌, Some, refl, sym, ap, subst, append_assoc}
use Rattle.es3_tree.specs.Token.{Token, name, word, punct, num, text}
use Rattle.es3_tree.specs.Tree as t
use Rattle.es3_tree.specs.Placed.{Placed}
use Rattle.es3_tree.specs.declared.UnOp.{UnOp}
use Rattle.es3_tree.specs.declared.UnOp.TheVariants.{Delete, Void, Typeof, Plus, Minus, BitNot, Not}
use Rattle.es3_grammar.specs.Spots.{Spot, is, same_token, look_up, else_word, finally_word, colon, open_paren, close_paren, open_brace, close_brace, open_bracket, close_bracket, function_word, new_word, this_word, null_word, true_word, false_word, comma}
use Rattle.es3_grammar.specs.Levels.{unary_sign, step_sign, Opening, a_bool, an_object, a_function, a_prefix, a_prefix_step, openings, joins, Infix, infixes, infix_of}
use Rattle.es3_grammar.specs.Grammar.{Bars, bars_in, is_plain, BeginsPlain, named, Spells, s_this, s_null, s_true, s_false, s_num, s_text, s_name, s_paren, s_array, s_array_comma, s_object, s_function, s_dot, s_index, s_call, s_new_call, s_new, s_postfix, s_prefix_step, s_prefix, s_join, s_choice, s_one_expr, s_more_exprs, s_block, s_var, s_empty, s_expression, s_if, s_else, s_do, s_while, s_for, s_for_in, s_continue, s_break, s_return, s_with, s_switch, s_no_cases, s_case, s_default, s_label, s_throw, s_catch, s_finally, s_catch_finally, s_no_stmts, s_more_stmts, s_declaration}
use Rattle.es3_grammar.specs.Frames.{statement, Stack, want, start}
use Rattle.es3_grammar.specs.Machine.{operand, begin, step, goes, run, finished}
use Rattle.es3_grammar.proofs.Tables.{starts, started, opening_sign, not_first, infix_found, looked_up, not_false}
use Rattle.es3_grammar.proofs.Follow.{NoElse}

abbrev pub Starts : List Spot → Type 0
Starts [] = ⊥
Starts (c ∷ k) = starts c.0 ≡ true

abbrev pub Heads : List Spot → Type 0
Heads [] = ⊥
Heads (c ∷ k) = (is else_word c ≡ false) × (is finally_word c ≡ false)

abbrev pub is_name : Token → Bool
is_name (name us) = true
is_name t = false

-- no colon directly behind a first name
abbrev pub NoLabel : List Spot → Type 0
NoLabel [] = Unit {0}
NoLabel (c ∷ []) = Unit {0}
NoLabel (c ∷ d ∷ k) = is_name c.0 ≡ true → is colon d ≡ false

abbrev pub NoColon : List Spot → Type 0
NoColon [] = Unit {0}
NoColon (c ∷ k) = is colon c ≡ false

starts_append : (u v : List Spot) → Starts u → Starts (u ++ v)
starts_append [] v h = absurd h
starts_append (c ∷ u) v h = h

heads_of : (u v : List Spot) → Starts u → Heads (u ++ v)
unfolding look_up
heads_of [] v h = absurd h
heads_of (c ∷ u) v h = (not_first else_word refl c.0 h, not_first finally_word refl c.0 h)

pub no_else : (u v : List Spot) → Heads u → NoElse (u ++ v)
no_else [] v h = absurd h
no_else (c ∷ u) v h = h

abbrev pub First : t.Sort → ℕ → List Spot → Type 0
First t.expr l u = Starts u
First t.exprs (suc l) u = Starts u
First t.stmt l u = Heads u
First t.stmts l u = (k : List Spot) → NoElse k → NoElse (u ++ k)
First t.cases l u = (k : List Spot) → NoElse k → NoElse (u ++ k)
First _ l u = Unit {0}

-- each sign of a prefix operator begins an operand
unary_starts : (op : UnOp) → starts (unary_sign op) ≡ true
unfolding look_up
unary_starts Delete = refl
unary_starts Void = refl
unary_starts Typeof = refl
unary_starts Plus = refl
unary_starts Minus = refl
unary_starts BitNot = refl
unary_starts Not = refl

step_starts : (up : Bool) → starts (step_sign up) ≡ true
unfolding look_up
step_starts true = refl
step_starts false = refl

pub first : (s : t.Sort) (b : Bars) (l : ℕ) (x : Placed s) (u : List Spot) → Spells s b l x u → First s l u
unfolding look_up
first _ _ _ _ _ (s_this b l a le) = refl
first _ _ _ _ _ (s_null b l a le) = refl
first _ _ _ _ _ (s_true b l a le) = refl
first _ _ _ _ _ (s_false b l a le) = refl
first _ _ _ _ _ (s_num b l a n le) = refl
first _ _ _ _ _ (s_text b l a n le) = refl
first _ _ _ _ _ (s_name b l n le) = refl
first _ _ _ _ _ (s_paren b l a d x u le p) = refl
first _ _ _ _ _ (s_array b l a d xs u le p) = refl
first _ _ _ _ _ (s_array_comma b l a d e xs u le p) = refl
first _ _ _ _ _ (s_object b l a d fs u le p) = refl
first _ _ _ _ _ (s_function b l a n ps ss u le p) = refl
first _ _ _ _ _ (s_dot b l a x n u le p) = starts_append u _ (first _ _ _ _ _ p)
first _ _ _ _ _ (s_index b l a d x y u v le p q) = starts_append u _ (first _ _ _ _ _ p)
first _ _ _ _ _ (s_call b l a d x xs u v le c p q) = starts_append u _ (first _ _ _ _ _ p)
first _ _ _ _ _ (s_new_call b l a d e x xs u v le p q) = refl
first _ _ _ _ _ (s_new b l a x u le p) = refl
first _ _ _ _ _ (s_postfix b l a up x u le h p) = starts_append u _ (first _ _ _ _ _ p)
first _ _ _ _ _ (s_prefix_step b l a up x u le h p) = step_starts up
first _ _ _ _ _ (s_prefix b l a op x u le p) = unary_starts op
first _ _ _ _ _ (s_join b l a j c x y u v le i h p q) = starts_append u _ (first _ _ _ _ _ p)
first _ _ _ _ _ (s_choice b l a d x y z u v w le p q r) = starts_append u _ (first _ _ _ _ _ p)
first _ _ _ _ _ (s_one_expr x u p) = first _ _ _ _ _ p
first _ _ _ _ _ (s_more_exprs a x xs u v p q) = starts_append u _ (first _ _ _ _ _ p)
first _ _ _ _ _ (s_block a d ss u p) = (refl, refl)
first _ _ _ _ _ (s_var a c is u p e) = (refl, refl)
first _ _ _ _ _ (s_empty a) = (refl, refl)
first _ _ _ _ _ (s_expression c x u p h e) = heads_of u _ (first _ _ _ _ _ p)
first _ _ _ _ _ (s_if a d e x s u v p q) = (refl, refl)
first _ _ _ _ _ (s_else a d e f x s r u v w p q o i) = (refl, refl)
first _ _ _ _ _ (s_do a d e f c s x u v p q h) = (refl, refl)
first _ _ _ _ _ (s_while a d e x s u v p q) = (refl, refl)
first _ _ _ _ _ (s_for a d e f g r m n s u v w q h1 h2 h3 h4) = (refl, refl)
first _ _ _ _ _ (s_for_in a d e f r x s u v w h1 h2 h3) = (refl, refl)
first _ _ _ _ _ (s_continue a c n e) = (refl, refl)
first _ _ _ _ _ (s_break a c n e) = (refl, refl)
first _ _ _ _ _ (s_return a c m u p e) = (refl, refl)
first _ _ _ _ _ (s_with a d e x s u v p q) = (refl, refl)
first _ _ _ _ _ (s_switch a d e f g x cs u v p q o) = (refl, refl)
first _ _ _ _ _ (s_label a n s u p) = (refl, refl)
first _ _ _ _ _ (s_throw a c x u p e) = (refl, refl)
first _ _ _ _ _ (s_catch a d e f g h i j ss n hs u v p q) = (refl, refl)
first _ _ _ _ _ (s_finally a d e f g h ss ls u v p q) = (refl, refl)
first _ _ _ _ _ (s_catch_finally a d e f g h i j k l m ss n hs ls u v w p q r) = (refl, refl)
first _ _ _ _ _ (s_no_stmts l) = λ k h. h
first _ _ _ _ _ (s_more_stmts l s ss u v p q) = λ k h. subst NoElse (sym (append_assoc u v k)) (no_else u (v ++ k) (first _ _ _ _ _ p))
first _ _ _ _ _ (s_declaration a n ps body ss u v p q) = λ k h. (refl, refl)
first _ _ _ _ _ s_no_cases = λ k h. h
first _ _ _ _ _ (s_case a d x ss cs u v w p q r) = λ k h. (refl, refl)
first _ _ _ _ _ (s_default a d ss cs v w p q) = λ k h. (refl, refl)
first _ _ _ _ _ _ = tt

-- ---- an expression statement is no label

behind_label : (u v : List Spot) (k : List Spot) → NoLabel (u ++ (v ++ k)) → NoLabel ((u ++ v) ++ k)
behind_label u v k h = subst NoLabel (sym (append_assoc u v k)) h

no_colon : (b : Bool) (t : Token) (i : Infix) → infix_of b t ≡ Some i → same_token colon t ≡ false
unfolding look_up
no_colon b t i e = not_false _ (looked_up (λ t i. not (same_token colon t)) infixes t i refl (infix_found b t i e))

-- a step's sign and a prefix operator's are no names
unary_name : (op : UnOp) → is_name (unary_sign op) ≡ false
unary_name Delete = refl
unary_name Void = refl
unary_name Typeof = refl
unary_name Plus = refl
unary_name Minus = refl
unary_name BitNot = refl
unary_name Not = refl

step_name : (up : Bool) → is_name (step_sign up) ≡ false
step_name true = refl
step_name false = refl

step_colon : (up : Bool) → same_token colon (step_sign up) ≡ false
step_colon true = refl
step_colon false = refl

unnamed : (c : Spot) (k : List Spot) → is_name c.0 ≡ false → NoLabel (c ∷ k)
unnamed c [] h = tt
unnamed c (d ∷ k) h = λ e. absurd (cc (e, h))

abbrev pub Unlabelled : t.Sort → List Spot → Type 0
Unlabelled t.expr u = (k : List Spot) → NoColon k → NoLabel (u ++ k)
Unlabelled _ u = Unit {0}

name_alone : (c : Spot) (k : List Spot) → NoColon k → NoLabel (c ∷ k)
name_alone c [] h = tt
name_alone c (d ∷ k) h = λ e. h

pub unlabelled : (s : t.Sort) (b : Bars) (l : ℕ) (x : Placed s) (u : List Spot) → Spells s b l x u → Unlabelled s u
unlabelled _ _ _ _ _ (s_this b l a le) = λ k h. unnamed (this_word, a) k refl
unlabelled _ _ _ _ _ (s_null b l a le) = λ k h. unnamed (null_word, a) k refl
unlabelled _ _ _ _ _ (s_true b l a le) = λ k h. unnamed (true_word, a) k refl
unlabelled _ _ _ _ _ (s_false b l a le) = λ k h. unnamed (false_word, a) k refl
unlabelled _ _ _ _ _ (s_num b l a n le) = λ k h. unnamed (num n, a) k refl
unlabelled _ _ _ _ _ (s_text b l a n le) = λ k h. unnamed (text n, a) k refl
unlabelled _ _ _ _ _ (s_name b l n le) = λ k h. name_alone (named n) k h
unlabelled _ _ _ _ _ (s_paren b l a d x u le p) = λ k h. unnamed (open_paren, a) ((u ++ (close_paren, d) ∷ []) ++ k) refl
unlabelled _ _ _ _ _ (s_array b l a d xs u le p) = λ k h. unnamed (open_bracket, a) ((u ++ (close_bracket, d) ∷ []) ++ k) refl
unlabelled _ _ _ _ _ (s_array_comma b l a d e xs u le p) = λ k h. unnamed (open_bracket, a) ((u ++ (comma, e) ∷ (close_bracket, d) ∷ []) ++ k) refl
unlabelled _ _ _ _ _ (s_object b l a d fs u le p) = λ k h. unnamed (open_brace, a) ((u ++ (close_brace, d) ∷ []) ++ k) refl
unlabelled _ _ _ _ _ (s_function b l a n ps ss u le p) = λ k h. unnamed (function_word, a) (u ++ k) refl
unlabelled _ _ _ _ _ (s_dot b l a x n u le p) = λ k h. behind_label u _ k (unlabelled _ _ _ _ _ p _ refl)
unlabelled _ _ _ _ _ (s_index b l a d x y u v le p q) = λ k h. behind_label u _ k (unlabelled _ _ _ _ _ p _ refl)
unlabelled _ _ _ _ _ (s_call b l a d x xs u v le c p q) = λ k h. behind_label u _ k (unlabelled _ _ _ _ _ p _ refl)
unlabelled _ _ _ _ _ (s_new_call b l a d e x xs u v le p q) = λ k h. unnamed (new_word, a) ((u ++ (open_paren, d) ∷ (v ++ (close_paren, e) ∷ [])) ++ k) refl
unlabelled _ _ _ _ _ (s_new b l a x u le p) = λ k h. unnamed (new_word, a) (u ++ k) refl
unlabelled _ _ _ _ _ (s_postfix b l a up x u le i p) = λ k h. behind_label u _ k (unlabelled _ _ _ _ _ p _ (step_colon up))
unlabelled _ _ _ _ _ (s_prefix_step b l a up x u le h p) = λ k h. unnamed (step_sign up, a) (u ++ k) (step_name up)
unlabelled _ _ _ _ _ (s_prefix b l a op x u le p) = λ k h. unnamed (unary_sign op, a) (u ++ k) (unary_name op)
unlabelled _ _ _ _ _ (s_join b l a j c x y u v le i g p q) = λ k h. behind_label u _ k (unlabelled _ _ _ _ _ p _ (no_colon (bars_in b) c (joins j) i))
unlabelled _ _ _ _ _ (s_choice b l a d x y z u v w le p q r) = λ k h. behind_label u _ k (unlabelled _ _ _ _ _ p _ refl)
unlabelled _ _ _ _ _ _ = tt

-- a word or a punctuator begins an expression statement as its expression
plain_begins : (f : Stack) (t : Token) (a : ℕ) (o : Opening) → t ≡ opening_sign o → is_plain (t, a) ≡ true → begin f (t, a) ≡ operand (statement ∷ f) (t, a)
unfolding look_up
plain_begins f t a o e h = subst (λ t. begin f (t, a) ≡ operand (statement ∷ f) (t, a)) (sym e) (go o (subst (λ t. is_plain (t, a) ≡ true) e h))
  where
    go : (o : Opening) → is_plain (opening_sign o, a) ≡ true → begin f (opening_sign o, a) ≡ operand (statement ∷ f) (opening_sign o, a)
    go an_object h = absurd cc
    go a_function h = absurd cc
    go (a_bool true) h = refl
    go (a_bool false) h = refl
    go (a_prefix Delete) h = refl
    go (a_prefix Void) h = refl
    go (a_prefix Typeof) h = refl
    go (a_prefix Plus) h = refl
    go (a_prefix Minus) h = refl
    go (a_prefix BitNot) h = refl
    go (a_prefix Not) h = refl
    go (a_prefix_step true) h = refl
    go (a_prefix_step false) h = refl
    go _ h = refl

begins_as : (f : Stack) (c : Spot) (k : List Spot) → starts c.0 ≡ true → is_plain c ≡ true → NoLabel (c ∷ k) → run (c ∷ k) (start f) ≡ run (c ∷ k) (want (statement ∷ f))
unfolding run step look_up finished
begins_as f (name us, a) [] s p n = refl
begins_as f (name us, a) (d ∷ k) s p n = rw (n refl) refl
begins_as f (num m, a) k s p n = refl
begins_as f (text us, a) k s p n = refl
begins_as f (word m, a) k s p n = let o = started (word m) (look_up openings (word m)) refl s in ap (goes (run k) ((word m, a) ∷ k)) (plain_begins f (word m) a o.0 o.1 p)
begins_as f (punct m, a) k s p n = let o = started (punct m) (look_up openings (punct m)) refl s in ap (goes (run k) ((punct m, a) ∷ k)) (plain_begins f (punct m) a o.0 o.1 p)

pub plain : (f : Stack) (u k : List Spot) → Starts u → BeginsPlain u → NoLabel (u ++ k) → run (u ++ k) (start f) ≡ run (u ++ k) (want (statement ∷ f))
plain f [] k s p n = absurd s
plain f (c ∷ u) k s p n = begins_as f c (u ++ k) s p n
