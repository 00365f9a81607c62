-- The grammar: which places a text leads to, a token at a time. White space and comments may stand at each place.
use Rattle.std.specs.Prelude.{◌≡◌, ℕ, List, [], ◌∷◌, ◌++◌, Bool, true, false}
use Rattle.css_grammar.specs.Characters.{Class, class, space, dot, number_sign, star, slash, colon, semicolon, comma, open_brace, close_brace, open_parenthesis, close_parenthesis, open_bracket, close_bracket, combinator_sign}
use Rattle.css_grammar.specs.Sheets.{Text, Rule, Body, lowered, with_declaration, ruled, opened}
use Rattle.css_grammar.specs.Tokens.{Word, Inside, Comment, Tail, none, closed, free, Value}

-- in a selector: a compound is wanted; within one; behind one and white space
pub data Where : Type 0 where
  wanted within behind : Where

pub data Place : Type 0 where
  -- in a selector that is printed so far as t, behind these rules and selectors; and, where both are empty, between rules
  selecting : Where → (rules : List Rule) → (done : List Text) → (t : Text) → Place
  -- in a block; whether a `;` stands before, so that a declaration may be absent
  block : Bool → Body → Place
  -- behind the name of a declaration
  named : Body → (name : Text) → Place
  -- behind its `:` and these values
  values : Tail → Body → (name : Text) → List Text → Place

-- behind white space
abbrev pub spaced : Place → Place
spaced (selecting within rs ss t) = selecting behind rs ss t
spaced (values none b n vs) = values none b n vs
spaced (values k b n vs) = values closed b n vs
spaced p = p

-- behind a comment
abbrev pub parted : Place → Place
parted (values none b n vs) = values none b n vs
parted (values k b n vs) = values closed b n vs
parted p = p

abbrev pub may_tag : Where → Bool
may_tag within = false
may_tag _ = true

abbrev pub has_compound : Where → Bool
has_compound wanted = false
has_compound _ = true

-- white space between compounds is printed as one space
abbrev pub joined : Where → Text → Text
joined behind t = t ++ 32 ∷ []
joined _ t = t

-- where there is a value
abbrev pub has_value : Tail → Bool
has_value none = false
has_value _ = true

abbrev pub is_raw : Class → Bool
is_raw dot = true
is_raw number_sign = true
is_raw _ = false

pub data Leads : Place → Text → Type 0 where
  begins : Leads (selecting wanted [] [] []) []
  white : (p : Place) (u : Text) (c : ℕ) (h : Bool) → Leads p u → class c ≡ space h → Leads (spaced p) (u ++ c ∷ [])
  comment : (p : Place) (u g : Text) (c : ℕ) → Leads p u → Comment true g → class c ≡ slash → Leads (parted p) (u ++ (g ++ c ∷ []))
  -- a compound
  tag : (w : Where) (rs : List Rule) (ss : List Text) (t u v : Text) → Leads (selecting w rs ss t) u → may_tag w ≡ true → Word v → Leads (selecting within rs ss (joined w t ++ lowered v)) (u ++ v)
  all : (w : Where) (rs : List Rule) (ss : List Text) (t u : Text) (c : ℕ) → Leads (selecting w rs ss t) u → may_tag w ≡ true → class c ≡ star → Leads (selecting within rs ss (joined w t ++ c ∷ [])) (u ++ c ∷ [])
  part : (w : Where) (rs : List Rule) (ss : List Text) (t u v : Text) (c : ℕ) → Leads (selecting w rs ss t) u → is_raw (class c) ≡ true → Word v → Leads (selecting within rs ss (joined w t ++ c ∷ v)) (u ++ c ∷ v)
  state : (w : Where) (rs : List Rule) (ss : List Text) (t u v : Text) (c : ℕ) → Leads (selecting w rs ss t) u → class c ≡ colon → Word v → Leads (selecting within rs ss (joined w t ++ c ∷ lowered v)) (u ++ c ∷ v)
  asked : (w : Where) (rs : List Rule) (ss : List Text) (t u v i : Text) (c a b : ℕ) → Leads (selecting w rs ss t) u → class c ≡ colon → Word v → class a ≡ open_parenthesis → Inside 0 i → class b ≡ close_parenthesis
      → Leads (selecting within rs ss (joined w t ++ c ∷ (lowered v ++ a ∷ (i ++ b ∷ [])))) (u ++ c ∷ (v ++ a ∷ (i ++ b ∷ [])))
  element : (w : Where) (rs : List Rule) (ss : List Text) (t u v : Text) (c d : ℕ) → Leads (selecting w rs ss t) u → class c ≡ colon → class d ≡ colon → Word v → Leads (selecting within rs ss (joined w t ++ c ∷ d ∷ lowered v)) (u ++ c ∷ d ∷ v)
  attribute : (w : Where) (rs : List Rule) (ss : List Text) (t u i : Text) (a b : ℕ) → Leads (selecting w rs ss t) u → class a ≡ open_bracket → Inside 0 i → class b ≡ close_bracket
      → Leads (selecting within rs ss (joined w t ++ a ∷ (i ++ b ∷ []))) (u ++ a ∷ (i ++ b ∷ []))
  -- behind a compound
  combinator : (w : Where) (rs : List Rule) (ss : List Text) (t u : Text) (c : ℕ) → Leads (selecting w rs ss t) u → has_compound w ≡ true → class c ≡ combinator_sign → Leads (selecting wanted rs ss (t ++ c ∷ [])) (u ++ c ∷ [])
  next : (w : Where) (rs : List Rule) (ss : List Text) (t u : Text) (c : ℕ) → Leads (selecting w rs ss t) u → has_compound w ≡ true → class c ≡ comma → Leads (selecting wanted rs (ss ++ t ∷ []) []) (u ++ c ∷ [])
  opens : (w : Where) (rs : List Rule) (ss : List Text) (t u : Text) (c : ℕ) → Leads (selecting w rs ss t) u → has_compound w ≡ true → class c ≡ open_brace → Leads (block false (opened rs ss t)) (u ++ c ∷ [])
  -- a block
  name : (h : Bool) (b : Body) (u v : Text) → Leads (block h b) u → Word v → Leads (named b (lowered v)) (u ++ v)
  colons : (b : Body) (n u : Text) (c : ℕ) → Leads (named b n) u → class c ≡ colon → Leads (values none b n []) (u ++ c ∷ [])
  value : (k j : Tail) (b : Body) (n u v w : Text) (vs : List Text) → Leads (values k b n vs) u → Value v w j → free k w ≡ true → Leads (values j b n (vs ++ v ∷ [])) (u ++ w)
  ends : (k : Tail) (b : Body) (n u : Text) (vs : List Text) (c : ℕ) → Leads (values k b n vs) u → has_value k ≡ true → class c ≡ semicolon → Leads (block true (with_declaration b n vs)) (u ++ c ∷ [])
  absent : (b : Body) (u : Text) (c : ℕ) → Leads (block true b) u → class c ≡ semicolon → Leads (block true b) (u ++ c ∷ [])
  closes : (h : Bool) (b : Body) (u : Text) (c : ℕ) → Leads (block h b) u → class c ≡ close_brace → Leads (selecting wanted (ruled b) [] []) (u ++ c ∷ [])
  ends_closes : (k : Tail) (b : Body) (n u : Text) (vs : List Text) (c : ℕ) → Leads (values k b n vs) u → has_value k ≡ true → class c ≡ close_brace → Leads (selecting wanted (ruled (with_declaration b n vs)) [] []) (u ++ c ∷ [])

-- the rules are a sheet, and the text spells it
abbrev pub Spells : List Rule → Text → Type 0
Spells rs u = Leads (selecting wanted rs [] []) u

-- a prefix of a sheet
abbrev pub Begins : Text → Type 0
Begins u = (rs : List Rule) × (z : Text) × Spells rs (u ++ z)

-- the character c, behind u, is the first that no sheet goes on with
abbrev pub StopsAt : Text → ℕ → Type 0
StopsAt u c = Begins u × (Begins (u ++ c ∷ []) → ⊥)
