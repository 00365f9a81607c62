-- Which texts lead to a state.
use Rattle.std.proofs.Common.{◌≡◌, Bool, true, false, [], ◌∷◌, ◌++◌, Option, Some, None}
use Rattle.css_grammar.specs.Characters.{Class, class, dash, slash, dot, number_sign, open_parenthesis, open_bracket, colon, exclamation}
use Rattle.css_grammar.specs.Sheets.{Text, lowered}
use Rattle.css_grammar.specs.Tokens.{Tail, Word, Whole, Start, Fraction, Hash, Quoted, Inside, Comment, apart, free, important}
use Rattle.css_grammar.specs.Grammar.{Place, selecting, block, values, may_tag, is_raw, Leads}
use Rattle.css_grammar.specs.Machine.{Use, a_tag, a_part, a_state, an_element, a_name, a_value, a_unit, Opener, asked_of, attribute_of, call_of, State, at, slashed, commented, word_for, dash_for, word, colon_in, inside, quoted_in, quoted, minus, whole, fraction, number_dash, point, hash_for, hash, urgent}

abbrev pub Number : Bool → Text → Type 0
Number true w = Whole w
Number false w = Fraction w

-- what begins with w stays apart
abbrev pub Free : Tail → Text → Type 0
Free k w = (x : Text) → free k (w ++ x) ≡ true

-- what begins with a character of this class stays apart
abbrev pub Fits : Place → Class → Type 0
Fits (values t b n vs) k = (x : Text) → apart t k x ≡ true
Fits _ k = Unit {0}

abbrev pub Loose : Place → Type 0
Loose (values t b n vs) = (k : Class) (x : Text) → apart t k x ≡ true
Loose _ = Unit {0}

abbrev pub Ready : Use → Text → Type 0
Ready (a_tag w rs ss t) u = Leads (selecting w rs ss t) u × (may_tag w ≡ true)
Ready (a_part c w rs ss t) u = (v : Text) × Leads (selecting w rs ss t) v × (is_raw (class c) ≡ true) × (u ≡ v ++ c ∷ [])
Ready (a_state c w rs ss t) u = (v : Text) × Leads (selecting w rs ss t) v × (class c ≡ colon) × (u ≡ v ++ c ∷ [])
Ready (an_element c d w rs ss t) u = (v : Text) × Leads (selecting w rs ss t) v × (class c ≡ colon) × (class d ≡ colon) × (u ≡ v ++ c ∷ d ∷ [])
Ready (a_name h b) u = Leads (block h b) u
Ready (a_value k b n vs) u = Leads (values k b n vs) u
Ready (a_unit h k b n vs m) u = (v : Text) × Leads (values k b n vs) v × Number h m × Free k m × (u ≡ v ++ m)

abbrev pub Clear : Use → Text → Type 0
Clear (a_value k b n vs) w = Free k w
Clear _ w = Unit {0}

abbrev pub IsOpened : Opener → Text → Type 0
IsOpened (asked_of c a w rs ss t x) v = (y : Text) × Leads (selecting w rs ss t) y × (class c ≡ colon) × Word x × (class a ≡ open_parenthesis) × (v ≡ y ++ c ∷ (x ++ a ∷ []))
IsOpened (attribute_of a w rs ss t) v = (y : Text) × Leads (selecting w rs ss t) y × (class a ≡ open_bracket) × (v ≡ y ++ a ∷ [])
IsOpened (call_of a k b n vs x) v = (y : Text) × Leads (values k b n vs) y × Word x × Free k x × (class a ≡ open_parenthesis) × (v ≡ y ++ (x ++ a ∷ []))

abbrev pub StandsFor : State → Text → Type 0
StandsFor (at p) u = Leads p u × Loose p
StandsFor (slashed s p) u = (v : Text) × Leads p v × (class s ≡ slash) × (u ≡ v ++ s ∷ [])
StandsFor (commented h p) u = (v : Text) × (i : Text) × Leads p v × Comment h i × (u ≡ v ++ i)
StandsFor (word_for x) u = Ready x u × ((w : Text) → Clear x w)
StandsFor (dash_for d x) u = (v : Text) × Ready x v × ((w : Text) → Clear x w) × (class d ≡ dash) × (u ≡ v ++ d ∷ [])
StandsFor (word x w) u = (v : Text) × Ready x v × Word w × Clear x w × (u ≡ v ++ w)
StandsFor (colon_in c w rs ss t) u = (v : Text) × Leads (selecting w rs ss t) v × (class c ≡ colon) × (u ≡ v ++ c ∷ [])
StandsFor (inside h n i) u = (v : Text) × IsOpened h v × Inside n i × (u ≡ v ++ i)
StandsFor (quoted_in h n i q w) u = (v : Text) × IsOpened h v × Inside n i × Quoted q w × (u ≡ v ++ (i ++ w))
StandsFor (quoted k b n vs q w) u = (v : Text) × Leads (values k b n vs) v × Quoted q w × Free k w × (u ≡ v ++ w)
StandsFor (minus d k b n vs) u = (v : Text) × Leads (values k b n vs) v × (class d ≡ dash) × ((x : Text) → apart k dash x ≡ true) × (u ≡ v ++ d ∷ [])
StandsFor (whole k b n vs w) u = (v : Text) × Leads (values k b n vs) v × Whole w × Free k w × (u ≡ v ++ w)
StandsFor (fraction k b n vs w) u = (v : Text) × Leads (values k b n vs) v × Fraction w × Free k w × (u ≡ v ++ w)
StandsFor (number_dash h d k b n vs w) u = (v : Text) × Leads (values k b n vs) v × Number h w × Free k w × (class d ≡ dash) × (u ≡ v ++ (w ++ d ∷ []))
StandsFor (point p k b n vs w) u = (v : Text) × Leads (values k b n vs) v × Start w × (class p ≡ dot) × Free k (w ++ p ∷ []) × (u ≡ v ++ (w ++ p ∷ []))
StandsFor (hash_for m k b n vs) u = (v : Text) × Leads (values k b n vs) v × (class m ≡ number_sign) × Free k (m ∷ []) × (u ≡ v ++ m ∷ [])
StandsFor (urgent m k b n vs rest) u = (v : Text) × (w : Text) × Leads (values k b n vs) v × (class m ≡ exclamation) × (lowered w ++ rest ≡ important) × Free k (m ∷ []) × (u ≡ v ++ m ∷ w)
StandsFor (hash k b n vs w) u = (v : Text) × Leads (values k b n vs) v × Hash w × Free k w × (u ≡ v ++ w)

abbrev pub Good : Option State → Text → Type 0
Good None u = Unit {0}
Good (Some s) u = StandsFor s u
