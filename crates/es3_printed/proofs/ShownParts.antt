-- Parts of statements (ES3 12 and 13): lists, what a variable begins as, the heads of loops, the clauses of a `switch`, functions; and programs (14).
use Rattle.std.proofs.Common.{◌≡◌, ℕ, List, [], ◌∷◌, ◌++◌, Bool, true, false, Option, Some, None, refl, ap, ◌∙◌}
use Rattle.es3_tree.specs.Tree as t
use Rattle.es3_tree.specs.Placed as tree
use Rattle.es3_tree.specs.Token.{Token, name}
use Rattle.es3_grammar.specs.Spots.{Spot, function_word, case_word, default_word, var_word, colon, comma, equals, open_paren, close_paren, open_brace, close_brace}
use Rattle.es3_grammar.specs.Levels.{is_target}
use Rattle.es3_grammar.specs.Grammar.{Bars, free, no_in, placed_word, Spells, s_one_item, s_more_items, s_no_value, s_value, s_no_first, s_first_var, s_first_expr, s_no_expr, s_some_expr, s_loop_var, s_loop_expr, s_no_cases, s_case, s_default, s_no_stmts, s_more_stmts, s_declaration, s_script, s_func}
use Rattle.es3_grammar.specs.Plain.{plain}
use Rattle.es3_printed.specs.Tokens.{named, listed}
use Rattle.es3_printed.proofs.Shown.{Found, Shown, none, token, tokens, last, alone, closed, maybe_name, names, function_at, both, all_three}

-- 12.1 and 14: lists of statements, functions among them

pub shown_no_stmts : (l : ℕ) → Shown t.stmts free l t.no_stmts []
shown_no_stmts l = none _ record { tree = tree.no_stmts; same = refl; spelled = s_no_stmts l }

pub shown_more_stmts : (l : ℕ) (s : t.Tree t.stmt) (ss : t.Tree t.stmts) (u w : List Token) → Shown t.stmt free 0 s u → Shown t.stmts free l ss w
    → Shown t.stmts free l (t.more_stmts s ss) (u ++ w)
shown_more_stmts l s ss u w p q = tokens u w _ (λ k of_k v of_v.
    let f = p k of_k in
    let g = q v of_v in
    record { tree = tree.more_stmts f.tree g.tree; same = both t.more_stmts f.same g.same; spelled = s_more_stmts l f.tree g.tree k v f.spelled g.spelled })

pub shown_declaration : (x : List ℕ) (ps : List (List ℕ)) (body ss : t.Tree t.stmts) (u w : List Token)
    → Shown t.func free 0 (t.fun (Some x) ps body) u → Shown t.stmts free 1 ss w
    → Shown t.stmts free 1 (t.more_stmts (t.declare (t.fun (Some x) ps body)) ss) (function_word ∷ (u ++ w))
shown_declaration x ps body ss u w p q = token function_word _ _ (λ a. tokens u w _ (λ k of_k v of_v.
    let f = function_at a _ k (p k of_k) in
    declared a k f.name f.parameters f.body f.same f.spelled v (q v of_v)))
  where
    declared : (a : ℕ) (k : List Spot) (n : Option tree.Word) (ns : List tree.Word) (b : tree.Placed t.stmts)
        → plain t.func (tree.fun n ns b a) ≡ t.fun (Some x) ps body → Spells t.func free 0 (tree.fun n ns b a) k
        → (v : List Spot) → Found t.stmts free 1 ss v → Found t.stmts free 1 (t.more_stmts (t.declare (t.fun (Some x) ps body)) ss) ((function_word, a) ∷ (k ++ v))
    declared a k None ns b e s v g = absurd cc
    declared a k (Some n) ns b e s v g = record {
      tree = tree.more_stmts (tree.declare (tree.fun (Some n) ns b a)) g.tree;
      same = both t.more_stmts (ap t.declare e) g.same;
      spelled = s_declaration a n ns b g.tree k v s g.spelled;
    }

pub shown_func : (x : Option (List ℕ)) (ps : List (List ℕ)) (ss : t.Tree t.stmts) (w : List Token) → Shown t.stmts free 1 ss w
    → Shown t.func free 0 (t.fun x ps ss) (named x ++ open_paren ∷ (listed ps ++ close_paren ∷ open_brace ∷ (w ++ close_brace ∷ [])))
shown_func x ps ss w p =
    maybe_name x _ _ (λ n of_n. token open_paren _ _ (λ d. names ps _ _ (λ ns u of_u of_ns. token close_paren _ _ (λ e. token open_brace _ _ (λ h.
    tokens w _ _ (λ v of_v. last close_brace _ (λ g.
    let f = p v of_v in
    record { tree = tree.fun n ns f.tree 0; same = all_three t.fun of_n of_ns f.same; spelled = s_func 0 d e h g n ns f.tree u v of_u f.spelled })))))))

pub shown_script : (ss : t.Tree t.stmts) (u : List Token) → Shown t.stmts free 1 ss u → Shown t.program free 0 (t.script ss) u
shown_script ss u p v of_v =
    let f = p v of_v in
    record { tree = tree.script f.tree; same = ap t.script f.same; spelled = s_script f.tree v f.spelled }

-- 12.2

pub shown_one_item : (b : Bars) (x : List ℕ) (m : t.Tree t.maybe_expr) (u : List Token) → Shown t.maybe_expr b 1 m u
    → Shown t.items b 0 (t.more_items x m t.no_items) (name x ∷ (u ++ []))
shown_one_item b x m u p = token (name x) _ _ (λ a. alone u _ (λ k of_k.
    let n = placed_word x a in
    let f = p k of_k in
    record { tree = tree.more_items n f.tree tree.no_items; same = ap (λ z. t.more_items x z t.no_items) f.same; spelled = s_one_item b n f.tree k f.spelled }))

pub shown_more_items : (b : Bars) (x : List ℕ) (m : t.Tree t.maybe_expr) (is : t.Tree t.items) (u w : List Token) → Shown t.maybe_expr b 1 m u
    → Shown t.items b 0 is w
    → Shown t.items b 0 (t.more_items x m is) (name x ∷ (u ++ comma ∷ w))
shown_more_items b x m is u w p q = token (name x) _ _ (λ a. tokens u _ _ (λ k of_k. token comma w _ (λ d v of_v.
    let n = placed_word x a in
    let f = p k of_k in
    let g = q v of_v in
    record {
      tree = tree.more_items n f.tree g.tree;
      same = both (t.more_items x) f.same g.same;
      spelled = s_more_items b d n f.tree g.tree k v f.spelled g.spelled;
    })))

pub shown_no_value : (b : Bars) → Shown t.maybe_expr b 1 t.no_expr []
shown_no_value b = none _ record { tree = tree.no_expr; same = refl; spelled = s_no_value b }

pub shown_value : (b : Bars) (x : t.Tree t.expr) (u : List Token) → Shown t.expr b 1 x u → Shown t.maybe_expr b 1 (t.some_expr x) (equals ∷ u)
shown_value b x u p = token equals u _ (λ a k of_k.
    let f = p k of_k in
    record { tree = tree.some_expr f.tree; same = ap t.some_expr f.same; spelled = s_value b a f.tree k f.spelled })

-- 12.6

pub shown_no_first : Shown t.first no_in 0 t.no_first []
shown_no_first = none _ record { tree = tree.no_first; same = refl; spelled = s_no_first }

pub shown_first_var : (is : t.Tree t.items) (u : List Token) → Shown t.items no_in 0 is u → Shown t.first no_in 0 (t.first_var is) (var_word ∷ u)
shown_first_var is u p = token var_word u _ (λ a k of_k.
    let f = p k of_k in
    record { tree = tree.first_var f.tree; same = ap t.first_var f.same; spelled = s_first_var a f.tree k f.spelled })

pub shown_first_expr : (x : t.Tree t.expr) (u : List Token) → Shown t.expr no_in 0 x u → Shown t.first no_in 0 (t.first_expr x) u
shown_first_expr x u p k of_k =
    let f = p k of_k in
    record { tree = tree.first_expr f.tree; same = ap t.first_expr f.same; spelled = s_first_expr f.tree k f.spelled }

pub shown_no_expr : Shown t.maybe_expr free 0 t.no_expr []
shown_no_expr = none _ record { tree = tree.no_expr; same = refl; spelled = s_no_expr }

pub shown_some_expr : (x : t.Tree t.expr) (u : List Token) → Shown t.expr free 0 x u → Shown t.maybe_expr free 0 (t.some_expr x) u
shown_some_expr x u p k of_k =
    let f = p k of_k in
    record { tree = tree.some_expr f.tree; same = ap t.some_expr f.same; spelled = s_some_expr f.tree k f.spelled }

pub shown_loop_var : (x : List ℕ) → Shown t.loop_target no_in 0 (t.loop_var x) (var_word ∷ name x ∷ [])
shown_loop_var x = token var_word _ _ (λ a. last (name x) _ (λ d.
    record { tree = tree.loop_var (placed_word x d); same = refl; spelled = s_loop_var a (placed_word x d) }))

-- 8.7, 11.13: a name or a member
abbrev pub plain_is_target : t.Tree t.expr → Bool
plain_is_target (t.name n) = true
plain_is_target (t.dot x n) = true
plain_is_target (t.index x y) = true
plain_is_target x = false

pub same_target : (x : tree.Placed t.expr) → is_target x ≡ plain_is_target (plain t.expr x)
same_target (tree.this a) = refl
same_target tree.null = refl
same_target (tree.bool v) = refl
same_target (tree.num n) = refl
same_target (tree.text us) = refl
same_target (tree.name n) = refl
same_target (tree.array xs) = refl
same_target (tree.object fs) = refl
same_target (tree.function f) = refl
same_target (tree.dot x n) = refl
same_target (tree.index x y) = refl
same_target (tree.call x xs) = refl
same_target (tree.new x xs) = refl
same_target (tree.unary op x a) = refl
same_target (tree.step up before x) = refl
same_target (tree.binary op x y) = refl
same_target (tree.and x y) = refl
same_target (tree.or x y) = refl
same_target (tree.choice x y z) = refl
same_target (tree.assign op x y) = refl
same_target (tree.comma x y) = refl

pub shown_loop_expr : (x : t.Tree t.expr) (u : List Token) → plain_is_target x ≡ true → Shown t.expr no_in 15 x u → Shown t.loop_target no_in 0 (t.loop_expr x) u
shown_loop_expr x u h p k of_k =
    let f = p k of_k in
    record {
      tree = tree.loop_expr f.tree;
      same = ap t.loop_expr f.same;
      spelled = s_loop_expr f.tree k (same_target f.tree ∙ ap plain_is_target f.same ∙ h) f.spelled;
    }

-- 12.11

pub shown_no_cases : Shown t.cases free 0 t.no_cases []
shown_no_cases = none _ record { tree = tree.no_cases; same = refl; spelled = s_no_cases }

pub shown_case : (x : t.Tree t.expr) (ss : t.Tree t.stmts) (cs : t.Tree t.cases) (u v w : List Token) → Shown t.expr free 0 x u
    → Shown t.stmts free 0 ss v → Shown t.cases free 0 cs w
    → Shown t.cases free 0 (t.more_cases (t.some_expr x) ss cs) (case_word ∷ ((u ++ colon ∷ []) ++ (v ++ w)))
shown_case x ss cs u v w p q r = token case_word _ _ (λ a. closed u colon _ _ (λ i of_i d. tokens v w _ (λ j of_j k of_k.
    let f = p i of_i in
    let g = q j of_j in
    let h = r k of_k in
    record {
      tree = tree.more_cases (tree.some_expr f.tree) g.tree h.tree;
      same = all_three t.more_cases (ap t.some_expr f.same) g.same h.same;
      spelled = s_case a d f.tree g.tree h.tree i j k f.spelled g.spelled h.spelled;
    })))

pub shown_default : (ss : t.Tree t.stmts) (cs : t.Tree t.cases) (v w : List Token) → Shown t.stmts free 0 ss v → Shown t.cases free 0 cs w
    → Shown t.cases free 0 (t.more_cases t.no_expr ss cs) (default_word ∷ colon ∷ (v ++ w))
shown_default ss cs v w p q = token default_word _ _ (λ a. token colon _ _ (λ d. tokens v w _ (λ j of_j k of_k.
    let f = p j of_j in
    let g = q k of_k in
    record {
      tree = tree.more_cases tree.no_expr f.tree g.tree;
      same = both (t.more_cases t.no_expr) f.same g.same;
      spelled = s_default a d f.tree g.tree j k f.spelled g.spelled;
    })))
