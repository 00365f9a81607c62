-- Statements (ES3 12).
use Rattle.std.proofs.Common.{◌≡◌, ℕ, List, [], ◌∷◌, ◌++◌, Bool, true, false, ◌||◌, not, Option, refl, ap, ◌∙◌}
use Rattle.es3_tree.specs.Tree as t
use Rattle.es3_tree.specs.Placed as tree
use Rattle.es3_tree.specs.Token.{Token, name}
use Rattle.es3_grammar.specs.Spots.{Spot, same_token, break_word, catch_word, continue_word, do_word, else_word, finally_word, for_word, function_word, if_word, in_word, return_word, switch_word, throw_word, try_word, var_word, while_word, with_word, open_brace, close_brace, open_paren, close_paren, semicolon, colon}
use Rattle.es3_grammar.specs.Grammar.{free, no_in, placed_word, BeginsPlain, is_open, has_default, one_default, s_block, s_var, s_empty, s_expression, s_if, s_else, s_do, s_while, s_for, s_for_in, s_continue, s_break, s_return, s_with, s_switch, s_label, s_throw, s_catch, s_finally, s_catch_finally}
use Rattle.es3_grammar.specs.Plain.{plain}
use Rattle.es3_grammar.proofs.First.{Starts, first}
use Rattle.es3_printed.specs.Tokens.{named, opens}
use Rattle.es3_printed.proofs.Shown.{kinds, Shown, none, token, tokens, last, alone, closed, maybe_name, both, all_three, all_four}

-- 12.1 to 12.4

pub shown_block : (ss : t.Tree t.stmts) (u : List Token) → Shown t.stmts free 0 ss u → Shown t.stmt free 0 (t.block ss) (open_brace ∷ (u ++ close_brace ∷ []))
shown_block ss u p = token open_brace _ _ (λ a. tokens u _ _ (λ k of_k. last close_brace _ (λ d.
    let f = p k of_k in
    record { tree = tree.block f.tree; same = ap t.block f.same; spelled = s_block a d f.tree k f.spelled })))

pub shown_var : (is : t.Tree t.items) (u : List Token) → Shown t.items free 0 is u → Shown t.stmt free 0 (t.var is) (var_word ∷ (u ++ semicolon ∷ []))
shown_var is u p = token var_word _ _ (λ a. tokens u _ _ (λ k of_k. last semicolon _ (λ d.
    let f = p k of_k in
    record { tree = tree.var f.tree; same = ap t.var f.same; spelled = s_var a (semicolon, d) f.tree k f.spelled refl })))

pub shown_empty : Shown t.stmt free 0 t.empty (semicolon ∷ [])
shown_empty = last semicolon _ (λ a. record { tree = tree.empty; same = refl; spelled = s_empty a })

begins_plain : (u : List Token) (k : List Spot) → kinds k ≡ u → Starts k → opens u ≡ false → BeginsPlain k
begins_plain u [] e s h = absurd s
begins_plain [] (c ∷ k) e s h = cc
begins_plain (d ∷ u) (c ∷ k) e s h = ap (λ z. not (same_token open_brace z || same_token function_word z)) first_kind ∙ ap not h
  where
    first_kind : c.0 ≡ d
    first_kind = cc

pub shown_expression : (x : t.Tree t.expr) (u : List Token) → Shown t.expr free 0 x u → opens u ≡ false → Shown t.stmt free 0 (t.expression x) (u ++ semicolon ∷ [])
shown_expression x u p h = tokens u _ _ (λ k of_k. last semicolon _ (λ d.
    let f = p k of_k in
    record {
      tree = tree.expression f.tree;
      same = ap t.expression f.same;
      spelled = s_expression (semicolon, d) f.tree k f.spelled (begins_plain u k of_k (first t.expr free 0 f.tree k f.spelled) h) refl;
    }))

-- 12.5

pub shown_if : (x : t.Tree t.expr) (s : t.Tree t.stmt) (u v : List Token) → Shown t.expr free 0 x u → Shown t.stmt free 0 s v
    → Shown t.stmt free 0 (t.branch x s t.no_stmt) (if_word ∷ open_paren ∷ (u ++ close_paren ∷ (v ++ [])))
shown_if x s u v p q = token if_word _ _ (λ a. token open_paren _ _ (λ d. tokens u _ _ (λ k of_k. token close_paren _ _ (λ e. alone v _ (λ j of_j.
    let f = p k of_k in
    let g = q j of_j in
    record {
      tree = tree.branch f.tree g.tree tree.no_stmt;
      same = both (λ y z. t.branch y z t.no_stmt) f.same g.same;
      spelled = s_if a d e f.tree g.tree k j f.spelled g.spelled;
    })))))

-- the statement ends in an `if` without `else`
abbrev pub plain_is_open : t.Tree t.stmt → Bool
plain_is_open (t.branch x s t.no_stmt) = true
plain_is_open (t.branch x s (t.some_stmt e)) = plain_is_open e
plain_is_open (t.while_loop x s) = plain_is_open s
plain_is_open (t.for_loop f m n s) = plain_is_open s
plain_is_open (t.for_in l x s) = plain_is_open s
plain_is_open (t.with_object x s) = plain_is_open s
plain_is_open (t.label n s) = plain_is_open s
plain_is_open s = false

pub same_open : (s : tree.Placed t.stmt) → is_open s ≡ plain_is_open (plain t.stmt s)
same_open (tree.branch x s tree.no_stmt) = refl
same_open (tree.branch x s (tree.some_stmt e)) = same_open e
same_open (tree.while_loop x s) = same_open s
same_open (tree.for_loop f m n s) = same_open s
same_open (tree.for_in l x s) = same_open s
same_open (tree.with_object x s a) = same_open s
same_open (tree.label n s) = same_open s
same_open (tree.block ss) = refl
same_open (tree.var is) = refl
same_open tree.empty = refl
same_open (tree.expression x) = refl
same_open (tree.do_loop s x) = refl
same_open (tree.continue n a) = refl
same_open (tree.break n a) = refl
same_open (tree.return m a) = refl
same_open (tree.switch x cs) = refl
same_open (tree.throw x) = refl
same_open (tree.try ss h l) = refl
same_open (tree.declare f) = refl

pub shown_else : (x : t.Tree t.expr) (s r : t.Tree t.stmt) (u v w : List Token) → Shown t.expr free 0 x u → Shown t.stmt free 0 s v
    → plain_is_open s ≡ false → Shown t.stmt free 0 r w
    → Shown t.stmt free 0 (t.branch x s (t.some_stmt r)) (if_word ∷ open_paren ∷ (u ++ close_paren ∷ (v ++ else_word ∷ w)))
shown_else x s r u v w p q o i =
    token if_word _ _ (λ a. token open_paren _ _ (λ d. tokens u _ _ (λ k of_k. token close_paren _ _ (λ e. tokens v _ _ (λ j of_j. token else_word w _ (λ b l of_l.
    let f = p k of_k in
    let g = q j of_j in
    let h = i l of_l in
    record {
      tree = tree.branch f.tree g.tree (tree.some_stmt h.tree);
      same = all_three t.branch f.same g.same (ap t.some_stmt h.same);
      spelled = s_else a d e b f.tree g.tree h.tree k j l f.spelled g.spelled (same_open g.tree ∙ ap plain_is_open g.same ∙ o) h.spelled;
    }))))))

-- 12.6

pub shown_do : (s : t.Tree t.stmt) (x : t.Tree t.expr) (u v : List Token) → Shown t.stmt free 0 s u → Shown t.expr free 0 x v
    → Shown t.stmt free 0 (t.do_loop s x) (do_word ∷ (u ++ while_word ∷ open_paren ∷ (v ++ close_paren ∷ semicolon ∷ [])))
shown_do s x u v p q =
    token do_word _ _ (λ a. tokens u _ _ (λ k of_k. token while_word _ _ (λ d. token open_paren _ _ (λ e. tokens v _ _ (λ j of_j.
    token close_paren _ _ (λ b. last semicolon _ (λ c.
    let f = p k of_k in
    let g = q j of_j in
    record {
      tree = tree.do_loop f.tree g.tree;
      same = both t.do_loop f.same g.same;
      spelled = s_do a d e b (semicolon, c) f.tree g.tree k j f.spelled g.spelled refl;
    })))))))

pub shown_while : (x : t.Tree t.expr) (s : t.Tree t.stmt) (u w : List Token) → Shown t.expr free 0 x u → Shown t.stmt free 0 s w
    → Shown t.stmt free 0 (t.while_loop x s) (while_word ∷ open_paren ∷ (u ++ close_paren ∷ w))
shown_while x s u w p q =
    token while_word _ _ (λ a. token open_paren _ _ (λ d. tokens u _ _ (λ k of_k. token close_paren w _ (λ e v of_v.
    let f = p k of_k in
    let g = q v of_v in
    record { tree = tree.while_loop f.tree g.tree; same = both t.while_loop f.same g.same; spelled = s_while a d e f.tree g.tree k v f.spelled g.spelled }))))

pub shown_for : (r : t.Tree t.first) (m n : t.Tree t.maybe_expr) (s : t.Tree t.stmt) (u v w z : List Token)
    → Shown t.first no_in 0 r u → Shown t.maybe_expr free 0 m v → Shown t.maybe_expr free 0 n w → Shown t.stmt free 0 s z
    → Shown t.stmt free 0 (t.for_loop r m n s) (for_word ∷ open_paren ∷ (u ++ semicolon ∷ (v ++ semicolon ∷ (w ++ close_paren ∷ z))))
shown_for r m n s u v w z of_r of_m of_n of_s =
    token for_word _ _ (λ a. token open_paren _ _ (λ d. tokens u _ _ (λ i of_i. token semicolon _ _ (λ e. tokens v _ _ (λ j of_j. token semicolon _ _ (λ b.
    tokens w _ _ (λ k of_k. token close_paren z _ (λ c l of_l.
    let f = of_r i of_i in
    let g = of_m j of_j in
    let h = of_n k of_k in
    let y = of_s l of_l in
    record {
      tree = tree.for_loop f.tree g.tree h.tree y.tree;
      same = all_four t.for_loop f.same g.same h.same y.same;
      spelled = s_for a d e b c f.tree g.tree h.tree y.tree i j k l f.spelled g.spelled h.spelled y.spelled;
    }))))))))

pub shown_for_in : (r : t.Tree t.loop_target) (x : t.Tree t.expr) (s : t.Tree t.stmt) (u v w : List Token) → Shown t.loop_target no_in 0 r u
    → Shown t.expr free 0 x v → Shown t.stmt free 0 s w
    → Shown t.stmt free 0 (t.for_in r x s) (for_word ∷ open_paren ∷ (u ++ in_word ∷ (v ++ close_paren ∷ w)))
shown_for_in r x s u v w of_r of_x of_s =
    token for_word _ _ (λ a. token open_paren _ _ (λ d. tokens u _ _ (λ i of_i. token in_word _ _ (λ e. tokens v _ _ (λ j of_j. token close_paren w _ (λ c k of_k.
    let f = of_r i of_i in
    let g = of_x j of_j in
    let h = of_s k of_k in
    record {
      tree = tree.for_in f.tree g.tree h.tree;
      same = all_three t.for_in f.same g.same h.same;
      spelled = s_for_in a d e c f.tree g.tree h.tree i j k f.spelled g.spelled h.spelled;
    }))))))

-- 12.7 to 12.10

pub shown_continue : (x : Option (List ℕ)) → Shown t.stmt free 0 (t.continue x) (continue_word ∷ (named x ++ semicolon ∷ []))
shown_continue x = token continue_word _ _ (λ a. maybe_name x _ _ (λ n of_n. last semicolon _ (λ c.
    record { tree = tree.continue n a; same = ap t.continue of_n; spelled = s_continue a (semicolon, c) n refl })))

pub shown_break : (x : Option (List ℕ)) → Shown t.stmt free 0 (t.break x) (break_word ∷ (named x ++ semicolon ∷ []))
shown_break x = token break_word _ _ (λ a. maybe_name x _ _ (λ n of_n. last semicolon _ (λ c.
    record { tree = tree.break n a; same = ap t.break of_n; spelled = s_break a (semicolon, c) n refl })))

pub shown_return : (m : t.Tree t.maybe_expr) (u : List Token) → Shown t.maybe_expr free 0 m u
    → Shown t.stmt free 0 (t.return m) (return_word ∷ (u ++ semicolon ∷ []))
shown_return m u p = token return_word _ _ (λ a. tokens u _ _ (λ k of_k. last semicolon _ (λ c.
    let f = p k of_k in
    record { tree = tree.return f.tree a; same = ap t.return f.same; spelled = s_return a (semicolon, c) f.tree k f.spelled refl })))

pub shown_with : (x : t.Tree t.expr) (s : t.Tree t.stmt) (u v : List Token) → Shown t.expr free 0 x u → Shown t.stmt free 0 s v
    → Shown t.stmt free 0 (t.with_object x s) (with_word ∷ open_paren ∷ (u ++ close_paren ∷ v))
shown_with x s u v p q = token with_word _ _ (λ a. token open_paren _ _ (λ d. tokens u _ _ (λ k of_k. token close_paren v _ (λ e j of_j.
    let f = p k of_k in
    let g = q j of_j in
    record { tree = tree.with_object f.tree g.tree a; same = both t.with_object f.same g.same; spelled = s_with a d e f.tree g.tree k j f.spelled g.spelled }))))

-- 12.11: at most one clause is `default`

abbrev pub plain_has_default : t.Tree t.cases → Bool
plain_has_default t.no_cases = false
plain_has_default (t.more_cases t.no_expr ss cs) = true
plain_has_default (t.more_cases (t.some_expr x) ss cs) = plain_has_default cs

abbrev pub plain_one_default : t.Tree t.cases → Bool
plain_one_default t.no_cases = true
plain_one_default (t.more_cases t.no_expr ss cs) = not (plain_has_default cs)
plain_one_default (t.more_cases (t.some_expr x) ss cs) = plain_one_default cs

same_has_default : (cs : tree.Placed t.cases) → has_default cs ≡ plain_has_default (plain t.cases cs)
same_has_default tree.no_cases = refl
same_has_default (tree.more_cases tree.no_expr ss cs) = refl
same_has_default (tree.more_cases (tree.some_expr x) ss cs) = same_has_default cs

pub same_default : (cs : tree.Placed t.cases) → one_default cs ≡ plain_one_default (plain t.cases cs)
same_default tree.no_cases = refl
same_default (tree.more_cases tree.no_expr ss cs) = ap not (same_has_default cs)
same_default (tree.more_cases (tree.some_expr x) ss cs) = same_default cs

pub shown_switch : (x : t.Tree t.expr) (cs : t.Tree t.cases) (u v : List Token) → Shown t.expr free 0 x u → Shown t.cases free 0 cs v → plain_one_default cs ≡ true
    → Shown t.stmt free 0 (t.switch x cs) (switch_word ∷ open_paren ∷ (u ++ close_paren ∷ open_brace ∷ (v ++ close_brace ∷ [])))
shown_switch x cs u v p q o =
    token switch_word _ _ (λ a. token open_paren _ _ (λ d. tokens u _ _ (λ k of_k. token close_paren _ _ (λ e. token open_brace _ _ (λ b.
    tokens v _ _ (λ j of_j. last close_brace _ (λ c.
    let f = p k of_k in
    let g = q j of_j in
    record {
      tree = tree.switch f.tree g.tree;
      same = both t.switch f.same g.same;
      spelled = s_switch a d e b c f.tree g.tree k j f.spelled g.spelled (same_default g.tree ∙ ap plain_one_default g.same ∙ o);
    })))))))

-- 12.12, 12.13

pub shown_label : (x : List ℕ) (s : t.Tree t.stmt) (u : List Token) → Shown t.stmt free 0 s u → Shown t.stmt free 0 (t.label x s) (name x ∷ colon ∷ u)
shown_label x s u p = token (name x) _ _ (λ a. token colon u _ (λ d k of_k.
    let n = placed_word x a in
    let f = p k of_k in
    record { tree = tree.label n f.tree; same = ap (t.label x) f.same; spelled = s_label d n f.tree k f.spelled }))

pub shown_throw : (x : t.Tree t.expr) (u : List Token) → Shown t.expr free 0 x u → Shown t.stmt free 0 (t.throw x) (throw_word ∷ (u ++ semicolon ∷ []))
shown_throw x u p = token throw_word _ _ (λ a. tokens u _ _ (λ k of_k. last semicolon _ (λ c.
    let f = p k of_k in
    record { tree = tree.throw f.tree; same = ap t.throw f.same; spelled = s_throw a (semicolon, c) f.tree k f.spelled refl })))

-- 12.14

pub shown_catch : (ss : t.Tree t.stmts) (x : List ℕ) (hs : t.Tree t.stmts) (u v : List Token) → Shown t.stmts free 0 ss u → Shown t.stmts free 0 hs v
    → Shown t.stmt free 0 (t.try ss (t.some_handler x hs) t.no_block)
    (try_word ∷ open_brace ∷ (u ++ close_brace ∷ catch_word ∷ open_paren ∷ name x ∷ close_paren ∷ open_brace ∷ ((v ++ close_brace ∷ []) ++ [])))
shown_catch ss x hs u v p q =
    token try_word _ _ (λ a. token open_brace _ _ (λ d. tokens u _ _ (λ k of_k. token close_brace _ _ (λ e. token catch_word _ _ (λ b. token open_paren _ _ (λ c.
    token (name x) _ _ (λ y. token close_paren _ _ (λ h. token open_brace _ _ (λ i. closed v close_brace _ _ (λ j of_j l. none _ (
    let n = placed_word x y in
    let f = p k of_k in
    let g = q j of_j in
    record {
      tree = tree.try f.tree (tree.some_handler n g.tree) tree.no_block;
      same = both (λ m o. t.try m (t.some_handler x o) t.no_block) f.same g.same;
      spelled = s_catch a d e b c h i l f.tree n g.tree k j f.spelled g.spelled;
    })))))))))))

pub shown_finally : (ss ls : t.Tree t.stmts) (u v : List Token) → Shown t.stmts free 0 ss u → Shown t.stmts free 0 ls v
    → Shown t.stmt free 0 (t.try ss t.no_handler (t.some_block ls))
    (try_word ∷ open_brace ∷ (u ++ close_brace ∷ finally_word ∷ open_brace ∷ (v ++ close_brace ∷ [])))
shown_finally ss ls u v p q =
    token try_word _ _ (λ a. token open_brace _ _ (λ d. tokens u _ _ (λ k of_k. token close_brace _ _ (λ e. token finally_word _ _ (λ b. token open_brace _ _ (λ c.
    tokens v _ _ (λ j of_j. last close_brace _ (λ h.
    let f = p k of_k in
    let g = q j of_j in
    record {
      tree = tree.try f.tree tree.no_handler (tree.some_block g.tree);
      same = both (λ m o. t.try m t.no_handler (t.some_block o)) f.same g.same;
      spelled = s_finally a d e b c h f.tree g.tree k j f.spelled g.spelled;
    }))))))))

pub shown_catch_finally : (ss : t.Tree t.stmts) (x : List ℕ) (hs ls : t.Tree t.stmts) (u v w : List Token) → Shown t.stmts free 0 ss u
    → Shown t.stmts free 0 hs v → Shown t.stmts free 0 ls w
    → Shown t.stmt free 0 (t.try ss (t.some_handler x hs) (t.some_block ls))
    (try_word ∷ open_brace ∷ (u ++ close_brace ∷ catch_word ∷ open_paren ∷ name x ∷ close_paren ∷ open_brace
    ∷ ((v ++ close_brace ∷ []) ++ finally_word ∷ open_brace ∷ (w ++ close_brace ∷ []))))
shown_catch_finally ss x hs ls u v w p q r =
    token try_word _ _ (λ a. token open_brace _ _ (λ d. tokens u _ _ (λ k of_k. token close_brace _ _ (λ e. token catch_word _ _ (λ b. token open_paren _ _ (λ c.
    token (name x) _ _ (λ y. token close_paren _ _ (λ z. token open_brace _ _ (λ i. closed v close_brace _ _ (λ j of_j l.
    token finally_word _ _ (λ m. token open_brace _ _ (λ o. tokens w _ _ (λ n of_n. last close_brace _ (λ s.
    let f = p k of_k in
    let g = q j of_j in
    let h = r n of_n in
    record {
      tree = tree.try f.tree (tree.some_handler (placed_word x y) g.tree) (tree.some_block h.tree);
      same = all_three t.try f.same (ap (t.some_handler x) g.same) (ap t.some_block h.same);
      spelled = s_catch_finally a d e b c z i l m o s f.tree (placed_word x y) g.tree h.tree k j n f.spelled g.spelled h.spelled;
    }))))))))))))))
