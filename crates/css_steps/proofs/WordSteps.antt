-- The step of a word.
use Rattle.std.proofs.Common.{◌≡◌, ℕ, Bool, true, false, Some, None, List, [], ◌∷◌, ◌++◌, ◌+◌, ◌∙◌, refl, ap, drop, nat_eq}
use Rattle.css_grammar.specs.Characters as s
use Rattle.css_grammar.specs.Characters.{Class, is_more}
use Rattle.css_grammar.specs.Sheets.{Body}
use Rattle.css_grammar.specs.Tokens as t
use Rattle.css_grammar.specs.Machine as m
use Rattle.std.proofs.lemmas.Bool.{eq-eqb}
use Rattle.css_tokens.specs.Classes.{is_open}

pub by_default : (x : m.Use) (w : List ℕ) (k : Class) (c : ℕ) → is_more k ≡ false → is_open k ≡ false → m.word_step x w k c ≡ m.place (m.put x w) k c
by_default x w (s.letter h) c e f = absurd cc
by_default x w s.digit c e f = absurd cc
by_default x w s.dash c e f = absurd cc
by_default x w s.open_parenthesis c e f = absurd cc
by_default x w _ c e f = refl

pub by_more : (x : m.Use) (w : List ℕ) (k : Class) (c : ℕ) → is_more k ≡ true → m.word_step x w k c ≡ Some (m.word x (w ++ c ∷ []))
by_more x w (s.letter h) c e = refl
by_more x w s.digit c e = refl
by_more x w s.dash c e = refl
by_more x w _ c e = absurd cc

pub by_open : (k : Class) → is_open k ≡ true → k ≡ s.open_parenthesis
by_open s.open_parenthesis e = refl
by_open _ e = absurd cc

-- ---- `!important`

urgent_when : (b : Bool) (x : m.State) → b ≡ true → m.when b x ≡ Some x
urgent_when true x e = refl
urgent_when false x e = absurd cc

urgent_never : (b : Bool) (x : m.State) → b ≡ false → m.when b x ≡ None
urgent_never true x e = absurd cc
urgent_never false x e = refl

pub urgent_goes : (d : ℕ) (k : t.Tail) (b : Body) (n : List ℕ) (vs : List (List ℕ)) (i l : ℕ) (j : Class) (c : ℕ) → drop i t.important ≡ l ∷ drop (i + 1) t.important → s.lower c ≡ l
    → m.urgent_step d k b n vs (drop i t.important) j c ≡ Some (m.urgent d k b n vs (drop (i + 1) t.important))
urgent_goes d k b n vs i l j c e f = ap (λ z. m.urgent_step d k b n vs z j c) e ∙ urgent_when (nat_eq (s.lower c) l) _ (eq-eqb (s.lower c) l f)

pub urgent_stops : (d : ℕ) (k : t.Tail) (b : Body) (n : List ℕ) (vs : List (List ℕ)) (i l : ℕ) (j : Class) (c : ℕ) → drop i t.important ≡ l ∷ drop (i + 1) t.important → nat_eq (s.lower c) l ≡ false
    → m.urgent_step d k b n vs (drop i t.important) j c ≡ None
urgent_stops d k b n vs i l j c e f = ap (λ z. m.urgent_step d k b n vs z j c) e ∙ urgent_never (nat_eq (s.lower c) l) _ f

pub urgent_ends : (d : ℕ) (k : t.Tail) (b : Body) (n : List ℕ) (vs : List (List ℕ)) (i : ℕ) (j : Class) (c : ℕ) → drop i t.important ≡ [] → m.urgent_step d k b n vs (drop i t.important) j c ≡ m.urgent_step d k b n vs [] j c
urgent_ends d k b n vs i j c e = ap (λ z. m.urgent_step d k b n vs z j c) e
