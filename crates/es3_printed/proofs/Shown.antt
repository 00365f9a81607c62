-- Tokens without places that spell a tree without places: at any places, the tokens spell a tree that differs in places alone.
use Rattle.std.proofs.Common.{◌≡◌, ℕ, List, [], ◌∷◌, ◌++◌, map, Option, Some, None, refl, ap, subst, ◌∙◌, append_assoc}
use Rattle.std.proofs.lemmas.List.{append-nil}
use Rattle.es3_tree.specs.Token.{Token, name}
use Rattle.es3_tree.specs.Tree as t
use Rattle.es3_tree.specs.Placed.{Placed, Word, fun}
use Rattle.es3_grammar.specs.Spots.{Spot, comma}
use Rattle.es3_grammar.specs.Grammar.{Bars, free, placed_word, naming, named as spot_named, Names, no_name, one_name, more_names, Spells, s_func}
use Rattle.es3_grammar.specs.Plain.{plain, plain_name}
use Rattle.es3_printed.specs.Tokens.{named, listed}

abbrev pub kinds : List Spot → List Token
kinds v = map (λ c. c.0) v

-- P holds of these tokens, wherever they stand
abbrev pub Everywhere : (List Spot → Type 0) → List Token → Type 0
Everywhere P w = (v : List Spot) → kinds v ≡ w → P v

-- a tree that is q apart from its places, and is spelled by v
pub record Found (s : t.Sort) (b : Bars) (l : ℕ) (q : t.Tree s) (v : List Spot) : Type 0 where
  pub tree : Placed s
  pub same : plain s tree ≡ q
  pub spelled : Spells s b l tree v

abbrev pub Shown : (s : t.Sort) → Bars → ℕ → t.Tree s → List Token → Type 0
Shown s b l q w = Everywhere (Found s b l q) w

-- nothing more; a token, and tokens behind it; tokens, and tokens behind them

pub none : (P : List Spot → Type 0) → P [] → Everywhere P []
none P p [] h = p
none P p (c ∷ v) h = cc

pub token : (c : Token) (w : List Token) (P : List Spot → Type 0) → ((a : ℕ) → Everywhere (λ v. P ((c, a) ∷ v)) w) → Everywhere P (c ∷ w)
token c w P f [] h = cc
token c w P f ((d, a) ∷ v) h = let e : c ≡ d = cc in subst (λ z. P ((z, a) ∷ v)) e (f a v cc)

pub tokens : (u w : List Token) (P : List Spot → Type 0) → ((k : List Spot) → kinds k ≡ u → Everywhere (λ v. P (k ++ v)) w) → Everywhere P (u ++ w)
tokens [] w P f v h = f [] refl v h
tokens (c ∷ u) w P f v h = token c (u ++ w) P (λ a. tokens u w (λ v. P ((c, a) ∷ v)) (λ k e. f ((c, a) ∷ k) (ap (λ z. c ∷ z) e))) v h

-- equal parts make equal trees

pub both : {A B C : Type 0} (f : A → B → C) {a c : A} {b d : B} → a ≡ c → b ≡ d → f a b ≡ f c d
both f {a} {c} {b} {d} p q = ap (λ z. f z b) p ∙ ap (f c) q

pub all_three : {A B C D : Type 0} (f : A → B → C → D) {a d : A} {b e : B} {c g : C} → a ≡ d → b ≡ e → c ≡ g → f a b c ≡ f d e g
all_three f {a} {d} {b} {e} {c} {g} p q r = ap (λ z. f z b c) p ∙ both (f d) q r

pub all_four : {A B C D E : Type 0} (f : A → B → C → D → E) {a e : A} {b g : B} {c h : C} {d i : D} → a ≡ e → b ≡ g → c ≡ h → d ≡ i → f a b c d ≡ f e g h i
all_four f {a} {e} {b} {g} {c} {h} {d} {i} p q r s = ap (λ z. f z b c d) p ∙ all_three (f e) q r s

-- the last token; tokens with nothing behind them; tokens that a token ends, and tokens behind these

pub last : (c : Token) (P : List Spot → Type 0) → ((a : ℕ) → P ((c, a) ∷ [])) → Everywhere P (c ∷ [])
last c P f = token c [] P (λ a. none (λ v. P ((c, a) ∷ v)) (f a))

pub alone : (u : List Token) (P : List Spot → Type 0) → Everywhere P u → Everywhere P (u ++ [])
alone u P f v h = f v (h ∙ append-nil u)

pub closed : (u : List Token) (c : Token) (w : List Token) (P : List Spot → Type 0)
    → ((k : List Spot) → kinds k ≡ u → (a : ℕ) → Everywhere (λ v. P (k ++ (c, a) ∷ v)) w) → Everywhere P ((u ++ c ∷ []) ++ w)
closed u c w P f v h = tokens u (c ∷ w) P (λ k e. token c w (λ v. P (k ++ v)) (λ a. f k e a)) v (h ∙ append_assoc u (c ∷ []) w)

-- a name that may be absent, and tokens behind it
pub maybe_name : (x : Option (List ℕ)) (w : List Token) (P : List Spot → Type 0)
    → ((n : Option Word) → plain_name n ≡ x → Everywhere (λ v. P (naming n ++ v)) w) → Everywhere P (named x ++ w)
maybe_name None w P f = f None refl
maybe_name (Some x) w P f = token (name x) w P (λ a. f (Some (placed_word x a)) refl)

-- parameters, and tokens behind them

abbrev texts : List Word → List (List ℕ)
texts ns = map (λ w. w.text) ns

more : (n : Word) (a : ℕ) (y : List ℕ) (ys : List (List ℕ)) (ns : List Word) (u : List Spot) → Names ns u → texts ns ≡ y ∷ ys
    → Names (n ∷ ns) (spot_named n ∷ (comma, a) ∷ u)
more n a y ys [] u p e = cc
more n a y ys (m ∷ ns) u p e = more_names a n m ns u p

pub names : (ps : List (List ℕ)) (w : List Token) (P : List Spot → Type 0)
    → ((ns : List Word) (k : List Spot) → Names ns k → texts ns ≡ ps → Everywhere (λ v. P (k ++ v)) w) → Everywhere P (listed ps ++ w)
names [] w P f = f [] [] no_name refl
names (x ∷ []) w P f = token (name x) w P (λ a. let n = placed_word x a in f (n ∷ []) (spot_named n ∷ []) (one_name n) refl)
names (x ∷ y ∷ ys) w P f = token (name x) (comma ∷ (listed (y ∷ ys) ++ w)) P (λ a. let n = placed_word x a in
    token comma (listed (y ∷ ys) ++ w) (λ v. P (spot_named n ∷ v)) (λ d. names (y ∷ ys) w (λ v. P (spot_named n ∷ (comma, d) ∷ v)) (λ ns k p e.
    f (n ∷ ns) (spot_named n ∷ (comma, d) ∷ k) (more n d y ys ns k p e) (ap (λ z. x ∷ z) e))))

-- a function, the word `function` before it standing at a

pub record FoundFunction (a : ℕ) (q : t.Tree t.func) (v : List Spot) : Type 0 where
  pub name : Option Word
  pub parameters : List Word
  pub body : Placed t.stmts
  pub same : plain t.func (fun name parameters body a) ≡ q
  pub spelled : Spells t.func free 0 (fun name parameters body a) v

pub function_at : (a : ℕ) (q : t.Tree t.func) (v : List Spot) → Found t.func free 0 q v → FoundFunction a q v
function_at a q v f = go f.tree v f.same f.spelled
  where
    go : (x : Placed t.func) (v : List Spot) → plain t.func x ≡ q → Spells t.func free 0 x v → FoundFunction a q v
    go _ _ e (s_func _ d f g h n ps ss u v p r) = record { name = n; parameters = ps; body = ss; same = e; spelled = s_func a d f g h n ps ss u v p r }
