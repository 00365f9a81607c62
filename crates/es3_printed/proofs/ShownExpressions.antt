-- Expressions (ES3 11), their lists, and the properties of an object literal.
use Rattle.std.proofs.Common.{◌≡◌, ℕ, ℤ, ◌≤◌, Bool, true, false, List, [], ◌∷◌, ◌++◌, Some, refl, sym, ap, ◌∙◌}
use Rattle.es3_tree.specs.Tree as t
use Rattle.es3_tree.specs.Placed as tree
use Rattle.es3_tree.specs.Token.{Token, name, num, text}
use Rattle.es3_tree.specs.declared.UnOp.{UnOp}
use Rattle.es3_grammar.specs.Spots.{function_word, new_word, this_word, null_word, true_word, false_word, open_brace, close_brace, open_paren, close_paren, open_bracket, close_bracket, point, comma, query, colon}
use Rattle.es3_grammar.specs.Levels.{E, Join, an_op, an_and, an_or, an_assign, a_comma, own, left, right, joined, is_target, takes_left, joins, infix_of, unary_sign, step_sign}
use Rattle.es3_grammar.specs.Grammar.{Bars, free, no_call, bars_in, bars_call, placed_word, s_this, s_null, s_true, s_false, s_num, s_text, s_name, s_paren, s_array, s_object, s_function, s_dot, s_index, s_call, s_new_call, s_postfix, s_prefix_step, s_prefix, s_join, s_choice, s_no_exprs, s_some_exprs, s_one_expr, s_more_exprs, s_no_fields, s_some_fields, s_one_field, s_more_fields}
use Rattle.es3_grammar.specs.Plain.{plain}
use Rattle.es3_printed.specs.Tokens.{truth, wrapped}
use Rattle.es3_printed.proofs.Shown.{Shown, none, token, tokens, last, alone, function_at, both, all_three}
use Rattle.es3_printed.proofs.ShownParts.{plain_is_target, same_target}

-- ---- 11.1

pub shown_this : (b : Bars) (l : ℕ) → l ≤ 16 → Shown t.expr b l t.this (this_word ∷ [])
shown_this b l le = last this_word _ (λ a. record { tree = tree.this a; same = refl; spelled = s_this b l a le })

pub shown_null : (b : Bars) (l : ℕ) → l ≤ 16 → Shown t.expr b l t.null (null_word ∷ [])
shown_null b l le = last null_word _ (λ a. record { tree = tree.null; same = refl; spelled = s_null b l a le })

pub shown_bool : (b : Bars) (l : ℕ) (v : Bool) → l ≤ 16 → Shown t.expr b l (t.bool v) (truth v ∷ [])
shown_bool b l true le = last true_word _ (λ a. record { tree = tree.bool true; same = refl; spelled = s_true b l a le })
shown_bool b l false le = last false_word _ (λ a. record { tree = tree.bool false; same = refl; spelled = s_false b l a le })

pub shown_num : (b : Bars) (l : ℕ) (n : ℤ) → l ≤ 16 → Shown t.expr b l (t.num n) (num n ∷ [])
shown_num b l n le = last (num n) _ (λ a. record { tree = tree.num n; same = refl; spelled = s_num b l a n le })

pub shown_text : (b : Bars) (l : ℕ) (us : List ℕ) → l ≤ 16 → Shown t.expr b l (t.text us) (text us ∷ [])
shown_text b l us le = last (text us) _ (λ a. record { tree = tree.text us; same = refl; spelled = s_text b l a us le })

pub shown_name : (b : Bars) (l : ℕ) (us : List ℕ) → l ≤ 16 → Shown t.expr b l (t.name us) (name us ∷ [])
shown_name b l us le = last (name us) _ (λ a. record { tree = tree.name (placed_word us a); same = refl; spelled = s_name b l (placed_word us a) le })

pub shown_paren : (b : Bars) (l : ℕ) (x : t.Tree t.expr) (u : List Token) → l ≤ 16 → Shown t.expr free 0 x u
    → Shown t.expr b l x (open_paren ∷ (u ++ close_paren ∷ []))
shown_paren b l x u le p = token open_paren _ _ (λ a. tokens u _ _ (λ k of_k. last close_paren _ (λ d.
    let f = p k of_k in
    record { tree = f.tree; same = f.same; spelled = s_paren b l a d f.tree k le f.spelled })))

pub shown_wrapped : (b : Bars) (l : ℕ) (w : Bool) (x : t.Tree t.expr) (u : List Token) → l ≤ 16 → Shown t.expr free 0 x u → (w ≡ false → Shown t.expr b l x u)
    → Shown t.expr b l x (wrapped w u)
shown_wrapped b l true x u le p q = shown_paren b l x u le p
shown_wrapped b l false x u le p q = q refl

pub shown_array : (b : Bars) (l : ℕ) (xs : t.Tree t.exprs) (u : List Token) → l ≤ 16 → Shown t.exprs free 0 xs u
    → Shown t.expr b l (t.array xs) (open_bracket ∷ (u ++ close_bracket ∷ []))
shown_array b l xs u le p = token open_bracket _ _ (λ a. tokens u _ _ (λ k of_k. last close_bracket _ (λ d.
    let f = p k of_k in
    record { tree = tree.array f.tree; same = ap t.array f.same; spelled = s_array b l a d f.tree k le f.spelled })))

pub shown_object : (b : Bars) (l : ℕ) (fs : t.Tree t.fields) (u : List Token) → l ≤ 16 → Shown t.fields free 0 fs u
    → Shown t.expr b l (t.object fs) (open_brace ∷ (u ++ close_brace ∷ []))
shown_object b l fs u le p = token open_brace _ _ (λ a. tokens u _ _ (λ k of_k. last close_brace _ (λ d.
    let f = p k of_k in
    record { tree = tree.object f.tree; same = ap t.object f.same; spelled = s_object b l a d f.tree k le f.spelled })))

pub shown_function : (b : Bars) (l : ℕ) (q : t.Tree t.func) (u : List Token) → l ≤ 16 → Shown t.func free 0 q u → Shown t.expr b l (t.function q) (function_word ∷ u)
shown_function b l q u le p = token function_word _ _ (λ a k of_k.
    let f = function_at a q k (p k of_k) in
    record { tree = tree.function (tree.fun f.name f.parameters f.body a); same = ap t.function f.same; spelled = s_function b l a f.name f.parameters f.body k le f.spelled })

-- ---- 11.2

pub shown_dot : (b : Bars) (l : ℕ) (x : t.Tree t.expr) (us : List ℕ) (u : List Token) → l ≤ 16 → Shown t.expr b 16 x u
    → Shown t.expr b l (t.dot x us) (u ++ point ∷ name us ∷ [])
shown_dot b l x us u le p = tokens u _ _ (λ k of_k. token point _ _ (λ a. last (name us) _ (λ d.
    let f = p k of_k in
    record { tree = tree.dot f.tree (placed_word us d); same = ap (λ z. t.dot z us) f.same; spelled = s_dot b l a f.tree (placed_word us d) k le f.spelled })))

pub shown_index : (b : Bars) (l : ℕ) (x y : t.Tree t.expr) (u w : List Token) → l ≤ 16 → Shown t.expr b 16 x u → Shown t.expr free 0 y w
    → Shown t.expr b l (t.index x y) (u ++ open_bracket ∷ (w ++ close_bracket ∷ []))
shown_index b l x y u w le p q = tokens u _ _ (λ k of_k. token open_bracket _ _ (λ a. tokens w _ _ (λ v of_v. last close_bracket _ (λ d.
    let f = p k of_k in
    let g = q v of_v in
    record { tree = tree.index f.tree g.tree; same = both t.index f.same g.same; spelled = s_index b l a d f.tree g.tree k v le f.spelled g.spelled }))))

pub shown_call : (b : Bars) (l : ℕ) (x : t.Tree t.expr) (xs : t.Tree t.exprs) (u w : List Token) → l ≤ 16 → bars_call b ≡ false → Shown t.expr b 16 x u
    → Shown t.exprs free 0 xs w
    → Shown t.expr b l (t.call x xs) (u ++ open_paren ∷ (w ++ close_paren ∷ []))
shown_call b l x xs u w le may p q = tokens u _ _ (λ k of_k. token open_paren _ _ (λ a. tokens w _ _ (λ v of_v. last close_paren _ (λ d.
    let f = p k of_k in
    let g = q v of_v in
    record { tree = tree.call f.tree g.tree; same = both t.call f.same g.same; spelled = s_call b l a d f.tree g.tree k v le may f.spelled g.spelled }))))

pub shown_new_call : (b : Bars) (l : ℕ) (x : t.Tree t.expr) (xs : t.Tree t.exprs) (u w : List Token) → l ≤ 16 → Shown t.expr no_call 16 x u
    → Shown t.exprs free 0 xs w
    → Shown t.expr b l (t.new x xs) (new_word ∷ (u ++ open_paren ∷ (w ++ close_paren ∷ [])))
shown_new_call b l x xs u w le p q = token new_word _ _ (λ a. tokens u _ _ (λ k of_k. token open_paren _ _ (λ d. tokens w _ _ (λ v of_v. last close_paren _ (λ e.
    let f = p k of_k in
    let g = q v of_v in
    record { tree = tree.new f.tree g.tree; same = both t.new f.same g.same; spelled = s_new_call b l a d e f.tree g.tree k v le f.spelled g.spelled })))))

-- ---- 11.3 to 11.14

-- 8.7, 11.13: whether an expression may be assigned to does not depend on places
target_found : (x : E) (q : t.Tree t.expr) → plain t.expr x ≡ q → plain_is_target q ≡ true → is_target x ≡ true
target_found x q e h = same_target x ∙ ap plain_is_target e ∙ h

pub shown_postfix : (b : Bars) (l : ℕ) (up : Bool) (x : t.Tree t.expr) (u : List Token) → l ≤ 14 → plain_is_target x ≡ true → Shown t.expr b 15 x u
    → Shown t.expr b l (t.step up false x) (u ++ step_sign up ∷ [])
shown_postfix b l up x u le h p = tokens u _ _ (λ k of_k. last (step_sign up) _ (λ a.
    let f = p k of_k in
    record { tree = tree.step up false f.tree; same = ap (t.step up false) f.same; spelled = s_postfix b l a up f.tree k le (target_found f.tree x f.same h) f.spelled }))

pub shown_prefix_step : (b : Bars) (l : ℕ) (up : Bool) (x : t.Tree t.expr) (u : List Token) → l ≤ 13 → plain_is_target x ≡ true → Shown t.expr b 15 x u
    → Shown t.expr b l (t.step up true x) (step_sign up ∷ u)
shown_prefix_step b l up x u le h p = token (step_sign up) _ _ (λ a k of_k.
    let f = p k of_k in
    record { tree = tree.step up true f.tree; same = ap (t.step up true) f.same; spelled = s_prefix_step b l a up f.tree k le (target_found f.tree x f.same h) f.spelled })

pub shown_prefix : (b : Bars) (l : ℕ) (op : UnOp) (x : t.Tree t.expr) (u : List Token) → l ≤ 13 → Shown t.expr b 13 x u
    → Shown t.expr b l (t.unary op x) (unary_sign op ∷ u)
shown_prefix b l op x u le p = token (unary_sign op) _ _ (λ a k of_k.
    let f = p k of_k in
    record { tree = tree.unary op f.tree a; same = ap (t.unary op) f.same; spelled = s_prefix b l a op f.tree k le f.spelled })

-- what an operator makes of two parts
abbrev pub made : Join → t.Tree t.expr → t.Tree t.expr → t.Tree t.expr
made (an_op op) x y = t.binary op x y
made an_and x y = t.and x y
made an_or x y = t.or x y
made (an_assign op) x y = t.assign op x y
made a_comma x y = t.comma x y

pub made_of : (j : Join) (x y : E) → plain t.expr (joined j x y) ≡ made j (plain t.expr x) (plain t.expr y)
made_of (an_op op) x y = refl
made_of an_and x y = refl
made_of an_or x y = refl
made_of (an_assign op) x y = refl
made_of a_comma x y = refl

-- 11.13: an assignment's left part may be assigned to
abbrev pub may_stand_left : Join → t.Tree t.expr → Bool
may_stand_left (an_assign op) x = plain_is_target x
may_stand_left j x = true

left_found : (j : Join) (x : E) (q : t.Tree t.expr) → plain t.expr x ≡ q → may_stand_left j q ≡ true → takes_left j x ≡ true
left_found (an_assign op) x q e h = target_found x q e h
left_found _ x q e h = refl

pub left_kept : (j : Join) (x : E) → takes_left j x ≡ true → may_stand_left j (plain t.expr x) ≡ true
left_kept (an_assign op) x h = sym (same_target x) ∙ h
left_kept _ x h = refl

pub shown_join : (b : Bars) (l : ℕ) (j : Join) (c : Token) (x y : t.Tree t.expr) (u w : List Token) → l ≤ own j → infix_of (bars_in b) c ≡ Some (joins j)
    → may_stand_left j x ≡ true
    → Shown t.expr b (left j) x u → Shown t.expr b (right j) y w → Shown t.expr b l (made j x y) (u ++ c ∷ w)
shown_join b l j c x y u w le is h p q = tokens u _ _ (λ k of_k. token c _ _ (λ a v of_v.
    let f = p k of_k in
    let g = q v of_v in
    record {
      tree = joined j f.tree g.tree;
      same = rw (made_of j f.tree g.tree) (both (made j) f.same g.same);
      spelled = s_join b l a j c f.tree g.tree k v le is (left_found j f.tree x f.same h) f.spelled g.spelled;
    }))

pub shown_choice : (b : Bars) (l : ℕ) (x y z : t.Tree t.expr) (u w r : List Token) → l ≤ 2 → Shown t.expr b 3 x u → Shown t.expr free 1 y w → Shown t.expr b 1 z r
    → Shown t.expr b l (t.choice x y z) (u ++ query ∷ (w ++ colon ∷ r))
shown_choice b l x y z u w r le p q s = tokens u _ _ (λ k of_k. token query _ _ (λ a. tokens w _ _ (λ v of_v. token colon _ _ (λ d m of_m.
    let f = p k of_k in
    let g = q v of_v in
    let h = s m of_m in
    record { tree = tree.choice f.tree g.tree h.tree; same = all_three t.choice f.same g.same h.same; spelled = s_choice b l a d f.tree g.tree h.tree k v m le f.spelled g.spelled h.spelled }))))

-- ---- lists

pub shown_no_exprs : Shown t.exprs free 0 t.no_exprs []
shown_no_exprs = none _ (record { tree = tree.no_exprs; same = refl; spelled = s_no_exprs })

pub shown_some_exprs : (xs : t.Tree t.exprs) (u : List Token) → Shown t.exprs free 1 xs u → Shown t.exprs free 0 xs u
shown_some_exprs xs u p v of_v =
    let f = p v of_v in
    record { tree = f.tree; same = f.same; spelled = s_some_exprs f.tree v f.spelled }

pub shown_one_expr : (x : t.Tree t.expr) (u : List Token) → Shown t.expr free 1 x u → Shown t.exprs free 1 (t.more_exprs x t.no_exprs) (u ++ [])
shown_one_expr x u p = alone u _ (λ v of_v.
    let f = p v of_v in
    record { tree = tree.more_exprs f.tree tree.no_exprs; same = ap (λ z. t.more_exprs z t.no_exprs) f.same; spelled = s_one_expr f.tree v f.spelled })

pub shown_more_exprs : (x : t.Tree t.expr) (xs : t.Tree t.exprs) (u w : List Token) → Shown t.expr free 1 x u → Shown t.exprs free 1 xs w
    → Shown t.exprs free 1 (t.more_exprs x xs) (u ++ comma ∷ w)
shown_more_exprs x xs u w p q = tokens u _ _ (λ k of_k. token comma _ _ (λ a v of_v.
    let f = p k of_k in
    let g = q v of_v in
    record { tree = tree.more_exprs f.tree g.tree; same = both t.more_exprs f.same g.same; spelled = s_more_exprs a f.tree g.tree k v f.spelled g.spelled }))

pub shown_no_fields : Shown t.fields free 0 t.no_fields []
shown_no_fields = none _ (record { tree = tree.no_fields; same = refl; spelled = s_no_fields })

pub shown_some_fields : (fs : t.Tree t.fields) (u : List Token) → Shown t.fields free 1 fs u → Shown t.fields free 0 fs u
shown_some_fields fs u p v of_v =
    let f = p v of_v in
    record { tree = f.tree; same = f.same; spelled = s_some_fields f.tree v f.spelled }

-- 11.1.5: a key is printed as a text
pub shown_one_field : (us : List ℕ) (x : t.Tree t.expr) (u : List Token) → Shown t.expr free 1 x u
    → Shown t.fields free 1 (t.more_fields us x t.no_fields) (text us ∷ colon ∷ (u ++ []))
shown_one_field us x u p = token (text us) _ _ (λ d. token colon _ _ (λ a. alone u _ (λ v of_v.
    let f = p v of_v in
    let n = placed_word us d in
    record { tree = tree.more_fields n f.tree tree.no_fields; same = ap (λ z. t.more_fields us z t.no_fields) f.same; spelled = s_one_field a (text us, d) n f.tree v refl f.spelled })))

pub shown_more_fields : (us : List ℕ) (x : t.Tree t.expr) (fs : t.Tree t.fields) (u w : List Token) → Shown t.expr free 1 x u → Shown t.fields free 1 fs w
    → Shown t.fields free 1 (t.more_fields us x fs) (text us ∷ colon ∷ (u ++ comma ∷ w))
shown_more_fields us x fs u w p q = token (text us) _ _ (λ d. token colon _ _ (λ a. tokens u _ _ (λ k of_k. token comma _ _ (λ e v of_v.
    let f = p k of_k in
    let g = q v of_v in
    let n = placed_word us d in
    record { tree = tree.more_fields n f.tree g.tree; same = both (t.more_fields us) f.same g.same; spelled = s_more_fields a e (text us, d) n f.tree g.tree k v refl f.spelled g.spelled }))))
