-- Lists of parts grow at their right end, and so does what spells them.
use Rattle.std.proofs.Common.{◌≡◌, ℕ, ◌≤◌, List, [], ◌∷◌, ◌++◌, Some, refl, sym, ap, subst, ◌∙◌, arith, append_assoc}
use Rattle.std.proofs.lemmas.List.{append-nil}
use Rattle.es3_tree.specs.Tree as t
use Rattle.es3_tree.specs.Placed as tree
use Rattle.es3_tree.specs.Placed.{Placed, Word}
use Rattle.es3_grammar.specs.Spots.{Spot, comma, colon, function_word, case_word, default_word}
use Rattle.es3_grammar.specs.Levels.{E}
use Rattle.es3_grammar.specs.Grammar.{S, Bars, free, named, key_of, Names, one_name, more_names, Spells, s_this, s_null, s_true, s_false, s_num, s_text, s_name, s_paren, s_array, s_array_comma, s_object, s_function, s_dot, s_index, s_call, s_new_call, s_new, s_postfix, s_prefix_step, s_prefix, s_join, s_choice, s_no_exprs, s_some_exprs, s_one_expr, s_more_exprs, s_no_fields, s_some_fields, s_one_field, s_more_fields, s_one_item, s_more_items, s_no_cases, s_case, s_default, s_no_stmts, s_more_stmts, s_declaration}
use Rattle.es3_grammar.specs.Frames.{Field, Item, Clause, exprs_of, fields_of, stmts_of, items_of, cases_of}

-- a level has what the higher levels have
pub weaken : (b : Bars) (l n : ℕ) (x : E) (w : List Spot) → l ≤ n → Spells t.expr b n x w → Spells t.expr b l x w
weaken _ l _ _ _ le (s_this b n a h) = s_this b l a (omega arith)
weaken _ l _ _ _ le (s_null b n a h) = s_null b l a (omega arith)
weaken _ l _ _ _ le (s_true b n a h) = s_true b l a (omega arith)
weaken _ l _ _ _ le (s_false b n a h) = s_false b l a (omega arith)
weaken _ l _ _ _ le (s_num b n a m h) = s_num b l a m (omega arith)
weaken _ l _ _ _ le (s_text b n a us h) = s_text b l a us (omega arith)
weaken _ l _ _ _ le (s_name b n m h) = s_name b l m (omega arith)
weaken _ l _ _ _ le (s_paren b n a d x u h p) = s_paren b l a d x u (omega arith) p
weaken _ l _ _ _ le (s_array b n a d xs u h p) = s_array b l a d xs u (omega arith) p
weaken _ l _ _ _ le (s_array_comma b n a d e xs u h p) = s_array_comma b l a d e xs u (omega arith) p
weaken _ l _ _ _ le (s_object b n a d fs u h p) = s_object b l a d fs u (omega arith) p
weaken _ l _ _ _ le (s_function b n a m ps ss u h p) = s_function b l a m ps ss u (omega arith) p
weaken _ l _ _ _ le (s_dot b n a x m u h p) = s_dot b l a x m u (omega arith) p
weaken _ l _ _ _ le (s_index b n a d x y u v h p q) = s_index b l a d x y u v (omega arith) p q
weaken _ l _ _ _ le (s_call b n a d x xs u v h c p q) = s_call b l a d x xs u v (omega arith) c p q
weaken _ l _ _ _ le (s_new_call b n a d e x xs u v h p q) = s_new_call b l a d e x xs u v (omega arith) p q
weaken _ l _ _ _ le (s_new b n a x u h p) = s_new b l a x u (omega arith) p
weaken _ l _ _ _ le (s_postfix b n a up x u h g p) = s_postfix b l a up x u (omega arith) g p
weaken _ l _ _ _ le (s_prefix_step b n a up x u h g p) = s_prefix_step b l a up x u (omega arith) g p
weaken _ l _ _ _ le (s_prefix b n a op x u h p) = s_prefix b l a op x u (omega arith) p
weaken _ l _ _ _ le (s_join b n a j c x y u v h i g p q) = s_join b l a j c x y u v (omega arith) i g p q
weaken _ l _ _ _ le (s_choice b n a d x y z u v w h p q r) = s_choice b l a d x y z u v w (omega arith) p q r

-- ---- one more

abbrev exprs_more : Placed t.exprs → E → Placed t.exprs
exprs_more tree.no_exprs y = tree.more_exprs y tree.no_exprs
exprs_more (tree.more_exprs x xs) y = tree.more_exprs x (exprs_more xs y)

abbrev fields_more : Placed t.fields → Word → E → Placed t.fields
fields_more tree.no_fields n y = tree.more_fields n y tree.no_fields
fields_more (tree.more_fields m x xs) n y = tree.more_fields m x (fields_more xs n y)

abbrev stmts_more : Placed t.stmts → S → Placed t.stmts
stmts_more tree.no_stmts y = tree.more_stmts y tree.no_stmts
stmts_more (tree.more_stmts x xs) y = tree.more_stmts x (stmts_more xs y)

abbrev items_more : Placed t.items → Word → Placed t.maybe_expr → Placed t.items
items_more tree.no_items n y = tree.more_items n y tree.no_items
items_more (tree.more_items m x xs) n y = tree.more_items m x (items_more xs n y)

abbrev cases_more : Placed t.cases → Placed t.maybe_expr → Placed t.stmts → Placed t.cases
cases_more tree.no_cases m ss = tree.more_cases m ss tree.no_cases
cases_more (tree.more_cases n rs xs) m ss = tree.more_cases n rs (cases_more xs m ss)

exprs_end : (xs : List E) (y : E) → exprs_of (xs ++ y ∷ []) ≡ exprs_more (exprs_of xs) y
exprs_end [] y = refl
exprs_end (x ∷ xs) y = ap (tree.more_exprs x) (exprs_end xs y)

fields_end : (xs : List Field) (n : Word) (y : E) → fields_of (xs ++ (n, y) ∷ []) ≡ fields_more (fields_of xs) n y
fields_end [] n y = refl
fields_end (x ∷ xs) n y = ap (tree.more_fields x.0 x.1) (fields_end xs n y)

stmts_end : (xs : List S) (y : S) → stmts_of (xs ++ y ∷ []) ≡ stmts_more (stmts_of xs) y
stmts_end [] y = refl
stmts_end (x ∷ xs) y = ap (tree.more_stmts x) (stmts_end xs y)

items_end : (xs : List Item) (n : Word) (y : Placed t.maybe_expr) → items_of (xs ++ (n, y) ∷ []) ≡ items_more (items_of xs) n y
items_end [] n y = refl
items_end (x ∷ xs) n y = ap (tree.more_items x.0 x.1) (items_end xs n y)

cases_end : (xs : List Clause) (m : Placed t.maybe_expr) (ss : List S) → cases_of (xs ++ (m, ss) ∷ []) ≡ cases_more (cases_of xs) m (stmts_of ss)
cases_end [] m ss = refl
cases_end (x ∷ xs) m ss = ap (tree.more_cases x.0 (stmts_of x.1)) (cases_end xs m ss)

-- ---- parts with commas between them

longer_exprs : (b : Bars) (l : ℕ) (xs : Placed t.exprs) (r : List Spot) → Spells t.exprs b l xs r → 1 ≤ l → (a : ℕ) (y : E) (q : List Spot) → Spells t.expr free 1 y q
    → Spells t.exprs free 1 (exprs_more xs y) (r ++ (comma, a) ∷ q)
longer_exprs _ _ _ _ s_no_exprs h a y q g = absurd (omega arith)
longer_exprs _ _ _ _ (s_some_exprs xs u p) h a y q g = absurd (omega arith)
longer_exprs _ _ _ _ (s_one_expr x u p) h a y q g = s_more_exprs a x (tree.more_exprs y tree.no_exprs) u q p (s_one_expr y q g)
longer_exprs _ _ _ _ (s_more_exprs d x xs u v p i) h a y q g =
    subst (λ z. Spells t.exprs free 1 (tree.more_exprs x (exprs_more xs y)) z) (sym (append_assoc u ((comma, d) ∷ v) ((comma, a) ∷ q)))
    (s_more_exprs d x (exprs_more xs y) u (v ++ (comma, a) ∷ q) p (longer_exprs _ _ _ _ i h a y q g))

longer_fields : (b : Bars) (l : ℕ) (xs : Placed t.fields) (r : List Spot) → Spells t.fields b l xs r → 1 ≤ l → (a d : ℕ) (c : Spot) (n : Word) (y : E) (q : List Spot) → key_of c ≡ Some n → Spells t.expr free 1 y q
    → Spells t.fields free 1 (fields_more xs n y) (r ++ (comma, a) ∷ c ∷ (colon, d) ∷ q)
longer_fields _ _ _ _ s_no_fields h a d c n y q k g = absurd (omega arith)
longer_fields _ _ _ _ (s_some_fields xs u p) h a d c n y q k g = absurd (omega arith)
longer_fields _ _ _ _ (s_one_field e i m x u j p) h a d c n y q k g = s_more_fields e a i m x (tree.more_fields n y tree.no_fields) u (c ∷ (colon, d) ∷ q) j p (s_one_field d c n y q k g)
longer_fields _ _ _ _ (s_more_fields e f i m x xs u v j p o) h a d c n y q k g =
    subst (λ z. Spells t.fields free 1 (tree.more_fields m x (fields_more xs n y)) (i ∷ (colon, e) ∷ z)) (sym (append_assoc u ((comma, f) ∷ v) ((comma, a) ∷ c ∷ (colon, d) ∷ q)))
    (s_more_fields e f i m x (fields_more xs n y) u (v ++ (comma, a) ∷ c ∷ (colon, d) ∷ q) j p (longer_fields _ _ _ _ o h a d c n y q k g))

longer_items : (b : Bars) (l : ℕ) (xs : Placed t.items) (r : List Spot) → Spells t.items b l xs r → (a : ℕ) (n : Word) (y : Placed t.maybe_expr) (q : List Spot) → Spells t.maybe_expr b 1 y q
    → Spells t.items b 0 (items_more xs n y) (r ++ (comma, a) ∷ named n ∷ q)
longer_items _ _ _ _ (s_one_item b m x u p) a n y q g = s_more_items b a m x (tree.more_items n y tree.no_items) u (named n ∷ q) p (s_one_item b n y q g)
longer_items _ _ _ _ (s_more_items b d m x xs u v p i) a n y q g =
    subst (λ z. Spells t.items b 0 (tree.more_items m x (items_more xs n y)) (named m ∷ z)) (sym (append_assoc u ((comma, d) ∷ v) ((comma, a) ∷ named n ∷ q)))
    (s_more_items b d m x (items_more xs n y) u (v ++ (comma, a) ∷ named n ∷ q) p (longer_items _ _ _ _ i a n y q g))

-- the parts so far, each with its comma
abbrev pub Listed : List E → List Spot → Type 0
Listed [] w = w ≡ []
Listed (x ∷ xs) w = (r : List Spot) × (a : ℕ) × Spells t.exprs free 1 (exprs_of (x ∷ xs)) r × (w ≡ r ++ (comma, a) ∷ [])

abbrev pub ListedFields : List Field → List Spot → Type 0
ListedFields [] w = w ≡ []
ListedFields (x ∷ xs) w = (r : List Spot) × (a : ℕ) × Spells t.fields free 1 (fields_of (x ∷ xs)) r × (w ≡ r ++ (comma, a) ∷ [])

abbrev pub ListedItems : Bars → List Item → List Spot → Type 0
ListedItems b [] w = w ≡ []
ListedItems b (x ∷ xs) w = (r : List Spot) × (a : ℕ) × Spells t.items b 0 (items_of (x ∷ xs)) r × (w ≡ r ++ (comma, a) ∷ [])

pub exprs_so : (xs : List E) (w : List Spot) (y : E) (q : List Spot) → Listed xs w → Spells t.expr free 1 y q → Spells t.exprs free 1 (exprs_of (xs ++ y ∷ [])) (w ++ q)
exprs_so [] w y q l g = rw l (s_one_expr y q g)
exprs_so (x ∷ xs) w y q l g = rw (l.3, append_assoc l.0 ((comma, l.1) ∷ []) q)
    (subst (λ z. Spells t.exprs free 1 z (l.0 ++ (comma, l.1) ∷ q)) (sym (exprs_end (x ∷ xs) y)) (longer_exprs free 1 _ l.0 l.2 (omega arith) l.1 y q g))

pub fields_so : (xs : List Field) (w : List Spot) (d : ℕ) (c : Spot) (n : Word) (y : E) (q : List Spot) → ListedFields xs w → key_of c ≡ Some n → Spells t.expr free 1 y q
    → Spells t.fields free 1 (fields_of (xs ++ (n, y) ∷ [])) (w ++ c ∷ (colon, d) ∷ q)
fields_so [] w d c n y q l k g = rw l (s_one_field d c n y q k g)
fields_so (x ∷ xs) w d c n y q l k g = rw (l.3, append_assoc l.0 ((comma, l.1) ∷ []) (c ∷ (colon, d) ∷ q))
    (subst (λ z. Spells t.fields free 1 z (l.0 ++ (comma, l.1) ∷ c ∷ (colon, d) ∷ q)) (sym (fields_end (x ∷ xs) n y)) (longer_fields free 1 _ l.0 l.2 (omega arith) l.1 d c n y q k g))

pub items_so : (b : Bars) (xs : List Item) (w : List Spot) (n : Word) (y : Placed t.maybe_expr) (q : List Spot) → ListedItems b xs w → Spells t.maybe_expr b 1 y q
    → Spells t.items b 0 (items_of (xs ++ (n, y) ∷ [])) (w ++ named n ∷ q)
items_so b [] w n y q l g = rw l (s_one_item b n y q g)
items_so b (x ∷ xs) w n y q l g = rw (l.3, append_assoc l.0 ((comma, l.1) ∷ []) (named n ∷ q))
    (subst (λ z. Spells t.items b 0 z (l.0 ++ (comma, l.1) ∷ named n ∷ q)) (sym (items_end (x ∷ xs) n y)) (longer_items b 0 _ l.0 l.2 l.1 n y q g))

pub listed_on : (xs : List E) (y : E) (a : ℕ) (r : List Spot) → Spells t.exprs free 1 (exprs_of (xs ++ y ∷ [])) r → Listed (xs ++ y ∷ []) (r ++ (comma, a) ∷ [])
listed_on [] y a r g = (r, a, g, refl)
listed_on (x ∷ xs) y a r g = (r, a, g, refl)

pub fields_on : (xs : List Field) (y : Field) (a : ℕ) (r : List Spot) → Spells t.fields free 1 (fields_of (xs ++ y ∷ [])) r → ListedFields (xs ++ y ∷ []) (r ++ (comma, a) ∷ [])
fields_on [] y a r g = (r, a, g, refl)
fields_on (x ∷ xs) y a r g = (r, a, g, refl)

pub items_on : (b : Bars) (xs : List Item) (y : Item) (a : ℕ) (r : List Spot) → Spells t.items b 0 (items_of (xs ++ y ∷ [])) r → ListedItems b (xs ++ y ∷ []) (r ++ (comma, a) ∷ [])
items_on b [] y a r g = (r, a, g, refl)
items_on b (x ∷ xs) y a r g = (r, a, g, refl)

longer_names : (n : Word) (ns : List Word) (r : List Spot) → Names (n ∷ ns) r → (a : ℕ) (m : Word) → Names (n ∷ (ns ++ m ∷ [])) (r ++ (comma, a) ∷ named m ∷ [])
longer_names _ _ _ (one_name n) a m = more_names a n m [] (named m ∷ []) (one_name m)
longer_names _ _ _ (more_names d n i ns u p) a m = more_names d n i (ns ++ m ∷ []) (u ++ (comma, a) ∷ named m ∷ []) (longer_names i ns u p a m)

pub names_so : (ns : List Word) (r : List Spot) (a : ℕ) (m : Word) → Names ns r → (ns ≡ [] → ⊥) → Names (ns ++ m ∷ []) (r ++ (comma, a) ∷ named m ∷ [])
names_so [] r a m p h = absurd (h refl)
names_so (n ∷ ns) r a m p h = longer_names n ns r p a m

-- ---- statements and clauses

longer_stmts : (b : Bars) (l : ℕ) (xs : Placed t.stmts) (v : List Spot) → Spells t.stmts b l xs v → (y : S) (w : List Spot) → Spells t.stmt free 0 y w → Spells t.stmts free l (stmts_more xs y) (v ++ w)
longer_stmts _ _ _ _ (s_no_stmts l) y w g = subst (λ z. Spells t.stmts free l (tree.more_stmts y tree.no_stmts) z) (append-nil w) (s_more_stmts l y tree.no_stmts w [] g (s_no_stmts l))
longer_stmts _ _ _ _ (s_more_stmts l s ss u v p i) y w g = subst (λ z. Spells t.stmts free l (tree.more_stmts s (stmts_more ss y)) z) (sym (append_assoc u v w)) (s_more_stmts l s (stmts_more ss y) u (v ++ w) p (longer_stmts _ _ _ _ i y w g))
longer_stmts _ _ _ _ (s_declaration a n ps inner ss u v p i) y w g = subst (λ z. Spells t.stmts free 1 (tree.more_stmts (tree.declare (tree.fun (Some n) ps inner a)) (stmts_more ss y)) ((function_word, a) ∷ z)) (sym (append_assoc u v w))
    (s_declaration a n ps inner (stmts_more ss y) u (v ++ w) p (longer_stmts _ _ _ _ i y w g))

declared_last : (b : Bars) (l : ℕ) (xs : Placed t.stmts) (v : List Spot) → Spells t.stmts b l xs v → l ≡ 1 → (a : ℕ) (n : Word) (ps : List Word) (inner : Placed t.stmts) (w : List Spot) → Spells t.func free 0 (tree.fun (Some n) ps inner a) w
    → Spells t.stmts free 1 (stmts_more xs (tree.declare (tree.fun (Some n) ps inner a))) (v ++ (function_word, a) ∷ w)
declared_last _ _ _ _ (s_no_stmts l) e a n ps inner w g = subst (λ z. Spells t.stmts free 1 (tree.more_stmts (tree.declare (tree.fun (Some n) ps inner a)) tree.no_stmts) ((function_word, a) ∷ z)) (append-nil w) (s_declaration a n ps inner tree.no_stmts w [] g (s_no_stmts 1))
declared_last _ _ _ _ (s_more_stmts l s ss u v p i) e a n ps inner w g = subst (λ z. Spells t.stmts free 1 (tree.more_stmts s (stmts_more ss (tree.declare (tree.fun (Some n) ps inner a)))) z) (sym (append_assoc u v ((function_word, a) ∷ w)))
    (s_more_stmts 1 s _ u (v ++ (function_word, a) ∷ w) p (declared_last _ _ _ _ i e a n ps inner w g))
declared_last _ _ _ _ (s_declaration d m qs body ss u v p i) e a n ps inner w g = subst (λ z. Spells t.stmts free 1 (tree.more_stmts (tree.declare (tree.fun (Some m) qs body d)) (stmts_more ss (tree.declare (tree.fun (Some n) ps inner a)))) ((function_word, d) ∷ z)) (sym (append_assoc u v ((function_word, a) ∷ w)))
    (s_declaration d m qs body _ u (v ++ (function_word, a) ∷ w) p (declared_last _ _ _ _ i e a n ps inner w g))

pub stmts_so : (l : ℕ) (ss : List S) (v : List Spot) (s : S) (w : List Spot) → Spells t.stmts free l (stmts_of ss) v → Spells t.stmt free 0 s w → Spells t.stmts free l (stmts_of (ss ++ s ∷ [])) (v ++ w)
stmts_so l ss v s w p g = subst (λ z. Spells t.stmts free l z (v ++ w)) (sym (stmts_end ss s)) (longer_stmts free l _ v p s w g)

pub declared_so : (ss : List S) (v : List Spot) (a : ℕ) (n : Word) (ps : List Word) (inner : Placed t.stmts) (w : List Spot) → Spells t.stmts free 1 (stmts_of ss) v → Spells t.func free 0 (tree.fun (Some n) ps inner a) w
    → Spells t.stmts free 1 (stmts_of (ss ++ tree.declare (tree.fun (Some n) ps inner a) ∷ [])) (v ++ (function_word, a) ∷ w)
declared_so ss v a n ps inner w p g = subst (λ z. Spells t.stmts free 1 z (v ++ (function_word, a) ∷ w)) (sym (stmts_end ss _)) (declared_last free 1 _ v p refl a n ps inner w g)

-- the head of a clause
abbrev pub Case : Placed t.maybe_expr → List Spot → Type 0
Case tree.no_expr u = (a : ℕ) × (d : ℕ) × (u ≡ (default_word, a) ∷ (colon, d) ∷ [])
Case (tree.some_expr x) u = (v : List Spot) × (a : ℕ) × (d : ℕ) × Spells t.expr free 0 x v × (u ≡ (case_word, a) ∷ (v ++ (colon, d) ∷ []))

one_clause : (m : Placed t.maybe_expr) (u : List Spot) (ss cs : _) (w q : List Spot) → Case m u → Spells t.stmts free 0 ss w → Spells t.cases free 0 cs q → Spells t.cases free 0 (tree.more_cases m ss cs) ((u ++ w) ++ q)
one_clause tree.no_expr u ss cs w q c g i = rw c.2 (s_default c.0 c.1 ss cs w q g i)
one_clause (tree.some_expr x) u ss cs w q c g i = subst (λ z. Spells t.cases free 0 (tree.more_cases (tree.some_expr x) ss cs) z)
    (ap (λ z. (case_word, c.1) ∷ z) (sym (append_assoc (c.0 ++ (colon, c.2) ∷ []) w q ∙ append_assoc c.0 ((colon, c.2) ∷ []) (w ++ q))) ∙ ap (λ z. (z ++ w) ++ q) (sym c.4))
    (s_case c.1 c.2 x ss cs c.0 w q c.3 g i)

longer_cases : (b : Bars) (l : ℕ) (xs : Placed t.cases) (v : List Spot) → Spells t.cases b l xs v → (m : Placed t.maybe_expr) (ss : Placed t.stmts) (u w : List Spot) → Case m u → Spells t.stmts free 0 ss w
    → Spells t.cases free 0 (cases_more xs m ss) (v ++ (u ++ w))
longer_cases _ _ _ _ s_no_cases m ss u w c g = subst (λ z. Spells t.cases free 0 (tree.more_cases m ss tree.no_cases) z) (append-nil (u ++ w)) (one_clause m u ss tree.no_cases w [] c g s_no_cases)
longer_cases _ _ _ _ (s_case a d x rs cs u v w p q r) m ss i j c g = subst (λ z. Spells t.cases free 0 (tree.more_cases (tree.some_expr x) rs (cases_more cs m ss)) ((case_word, a) ∷ z)) (sym (append_assoc u ((colon, d) ∷ (v ++ w)) (i ++ j) ∙ ap (λ z. u ++ (colon, d) ∷ z) (append_assoc v w (i ++ j))))
    (s_case a d x rs _ u v (w ++ (i ++ j)) p q (longer_cases _ _ _ _ r m ss i j c g))
longer_cases _ _ _ _ (s_default a d rs cs v w q r) m ss i j c g = subst (λ z. Spells t.cases free 0 (tree.more_cases tree.no_expr rs (cases_more cs m ss)) ((default_word, a) ∷ (colon, d) ∷ z)) (sym (append_assoc v w (i ++ j)))
    (s_default a d rs _ v (w ++ (i ++ j)) q (longer_cases _ _ _ _ r m ss i j c g))

pub cases_so : (cs : List Clause) (v : List Spot) (m : Placed t.maybe_expr) (ss : List S) (u w : List Spot) → Spells t.cases free 0 (cases_of cs) v → Case m u → Spells t.stmts free 0 (stmts_of ss) w
    → Spells t.cases free 0 (cases_of (cs ++ (m, ss) ∷ [])) (v ++ (u ++ w))
cases_so cs v m ss u w p c g = subst (λ z. Spells t.cases free 0 z (v ++ (u ++ w))) (sym (cases_end cs m ss)) (longer_cases free 0 _ v p m (stmts_of ss) u w c g)
