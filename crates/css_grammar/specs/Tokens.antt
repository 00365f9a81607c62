-- The tokens of CSS, each from left to right.
use Rattle.std.specs.Prelude.{◌≡◌, ℕ, suc, [], ◌∷◌, ◌++◌, Bool, true, false, codes}
use Rattle.css_grammar.specs.Characters.{Class, letter, digit, dash, dot, star, slash, number_sign, open_parenthesis, close_parenthesis, quote, comma, percent, exclamation, class, is_letter, is_more, is_hex, is_inner, is_plain}
use Rattle.css_grammar.specs.Sheets.{Text, lowered}

-- a letter, a `_`, or a `-` with one of these after it, and then letters, digits, `-` and `_`
pub data Word : Text → Type 0 where
  w_letter : (c : ℕ) (h : Bool) → class c ≡ letter h → Word (c ∷ [])
  w_dash : (d c : ℕ) (h : Bool) → class d ≡ dash → class c ≡ letter h → Word (d ∷ c ∷ [])
  w_more : (w : Text) (c : ℕ) → Word w → is_more (class c) ≡ true → Word (w ++ c ∷ [])

-- an optional `-` and digits
pub data Whole : Text → Type 0 where
  n_digit : (c : ℕ) → class c ≡ digit → Whole (c ∷ [])
  n_minus : (d c : ℕ) → class d ≡ dash → class c ≡ digit → Whole (d ∷ c ∷ [])
  n_more : (w : Text) (c : ℕ) → Whole w → class c ≡ digit → Whole (w ++ c ∷ [])

-- what stands before the point of a number
pub data Start : Text → Type 0 where
  s_none : Start []
  s_minus : (d : ℕ) → class d ≡ dash → Start (d ∷ [])
  s_whole : (w : Text) → Whole w → Start w

-- a point with digits after it
pub data Fraction : Text → Type 0 where
  b_point : (w : Text) (p c : ℕ) → Start w → class p ≡ dot → class c ≡ digit → Fraction (w ++ p ∷ c ∷ [])
  b_more : (w : Text) (c : ℕ) → Fraction w → class c ≡ digit → Fraction (w ++ c ∷ [])

-- `#` and hexadecimal digits
pub data Hash : Text → Type 0 where
  h_one : (m c : ℕ) → class m ≡ number_sign → is_hex (class c) ≡ true → Hash (m ∷ c ∷ [])
  h_more : (w : Text) (c : ℕ) → Hash w → is_hex (class c) ≡ true → Hash (w ++ c ∷ [])

-- a text in the quotes q that isn't closed yet
pub data Quoted : ℕ → Text → Type 0 where
  q_opens : (q : ℕ) → class q ≡ quote → Quoted q (q ∷ [])
  q_more : (q c : ℕ) (w : Text) → Quoted q w → is_plain q (class c) c ≡ true → Quoted q (w ++ c ∷ [])

-- what stands inside `(..)` and `[..]`; so many parentheses are open in it
pub data Inside : ℕ → Text → Type 0 where
  i_none : Inside 0 []
  i_other : (n c : ℕ) (w : Text) → Inside n w → is_inner (class c) ≡ true → Inside n (w ++ c ∷ [])
  i_text : (n q : ℕ) (w v : Text) → Inside n w → Quoted q v → Inside n (w ++ (v ++ q ∷ []))
  i_left : (n c : ℕ) (w : Text) → Inside n w → class c ≡ open_parenthesis → Inside (suc n) (w ++ c ∷ [])
  i_right : (n c : ℕ) (w : Text) → Inside (suc n) w → class c ≡ close_parenthesis → Inside n (w ++ c ∷ [])

-- whether a character goes on with a comment: a `/` behind a `*` ends it
abbrev pub in_comment : Bool → Class → Bool
in_comment true slash = false
in_comment b star = false
in_comment b k = true

-- a comment that isn't closed yet; whether its last character is a `*` that a `/` may follow
pub data Comment : Bool → Text → Type 0 where
  c_opens : (s a : ℕ) → class s ≡ slash → class a ≡ star → Comment false (s ∷ a ∷ [])
  c_more : (b : Bool) (c : ℕ) (g : Text) → Comment b g → in_comment b (class c) ≡ true → Comment false (g ++ c ∷ [])
  c_star : (b : Bool) (c : ℕ) (g : Text) → Comment b g → class c ≡ star → Comment true (g ++ c ∷ [])

-- What a value may go on with: it is as long as it can be. `none`: there is no value yet.
pub data Tail : Type 0 where
  none closed a_word a_whole a_fraction a_hash a_slash : Tail

abbrev pub begins_letter : Text → Bool
begins_letter [] = false
begins_letter (c ∷ w) = is_letter (class c)

abbrev pub not_so : Bool → Bool
not_so true = false
not_so false = true

-- whether what begins with a character of this class, and goes on with w, stays apart from a value before it
abbrev pub apart : Tail → Class → Text → Bool
apart a_word (letter h) w = false
apart a_word digit w = false
apart a_word dash w = false
apart a_word open_parenthesis w = false
apart a_whole (letter h) w = false
apart a_whole digit w = false
apart a_whole dot w = false
apart a_whole percent w = false
apart a_whole dash w = not_so (begins_letter w)
apart a_fraction (letter h) w = false
apart a_fraction digit w = false
apart a_fraction percent w = false
apart a_fraction dash w = not_so (begins_letter w)
apart a_hash (letter h) w = not_so h
apart a_hash digit w = false
apart a_slash star w = false
apart t k w = true

abbrev pub free : Tail → Text → Bool
free t [] = true
free t (c ∷ w) = apart t (class c) w

abbrev pub important : Text
important = codes "important"

-- a value as it is printed, as it is written, and what it may go on with
pub data Value : Text → Text → Tail → Type 0 where
  v_word : (w : Text) → Word w → Value (lowered w) w a_word
  v_call : (w i : Text) (a b : ℕ) → Word w → class a ≡ open_parenthesis → Inside 0 i → class b ≡ close_parenthesis → Value (lowered w ++ a ∷ (i ++ b ∷ [])) (w ++ a ∷ (i ++ b ∷ [])) closed
  v_whole : (w : Text) → Whole w → Value w w a_whole
  v_fraction : (w : Text) → Fraction w → Value w w a_fraction
  v_percent_whole : (w : Text) (c : ℕ) → Whole w → class c ≡ percent → Value (w ++ c ∷ []) (w ++ c ∷ []) closed
  v_percent_fraction : (w : Text) (c : ℕ) → Fraction w → class c ≡ percent → Value (w ++ c ∷ []) (w ++ c ∷ []) closed
  v_unit_whole : (w v : Text) → Whole w → Word v → Value (w ++ lowered v) (w ++ v) a_word
  v_unit_fraction : (w v : Text) → Fraction w → Word v → Value (w ++ lowered v) (w ++ v) a_word
  v_hash : (w : Text) → Hash w → Value w w a_hash
  v_text : (w : Text) (q : ℕ) → Quoted q w → Value (w ++ q ∷ []) (w ++ q ∷ []) closed
  v_important : (c : ℕ) (w : Text) → class c ≡ exclamation → lowered w ≡ important → Value (c ∷ important) (c ∷ w) a_word
  v_comma : (c : ℕ) → class c ≡ comma → Value (c ∷ []) (c ∷ []) closed
  v_slash : (c : ℕ) → class c ≡ slash → Value (c ∷ []) (c ∷ []) a_slash
