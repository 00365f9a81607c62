-- Reading from left to right, a unit at a time.
use Rattle.std.specs.Prelude.{ℕ, zero, suc, List, [], ◌∷◌, ◌++◌, Bool, true, false, Option, None, Some, nat_eq, if◌then◌else◌}
use Rattle.css_grammar.specs.Characters.{Class, class, lower, exclamation, letter, digit, dash, space, dot, number_sign, star, slash, colon, semicolon, comma, percent, open_brace, close_brace, open_parenthesis, close_parenthesis, open_bracket, close_bracket, quote, combinator_sign, backslash, is_hex, is_inner}
use Rattle.css_grammar.specs.Sheets.{Text, Rule, Body, lowered, with_declaration, ruled, opened}
use Rattle.css_grammar.specs.Tokens.{Tail, none, closed, a_word, a_whole, a_fraction, a_hash, a_slash, important}
use Rattle.css_grammar.specs.Grammar.{Where, wanted, within, Place, selecting, block, named, values, spaced, parted, may_tag, has_compound, joined, has_value}

-- what a word is for
pub data Use : Type 0 where
  a_tag : Where → List Rule → List Text → Text → Use
  -- behind `.` or `#`
  a_part : ℕ → Where → List Rule → List Text → Text → Use
  -- behind `:`
  a_state : ℕ → Where → List Rule → List Text → Text → Use
  -- behind `::`
  an_element : ℕ → ℕ → Where → List Rule → List Text → Text → Use
  a_name : Bool → Body → Use
  a_value : Tail → Body → Text → List Text → Use
  -- the unit of a number, whole or not
  a_unit : Bool → Tail → Body → Text → List Text → Text → Use

-- the place behind it
abbrev pub put : Use → Text → Place
put (a_tag w rs ss t) v = selecting within rs ss (joined w t ++ lowered v)
put (a_part c w rs ss t) v = selecting within rs ss (joined w t ++ c ∷ v)
put (a_state c w rs ss t) v = selecting within rs ss (joined w t ++ c ∷ lowered v)
put (an_element c d w rs ss t) v = selecting within rs ss (joined w t ++ c ∷ d ∷ lowered v)
put (a_name h b) v = named b (lowered v)
put (a_value k b n vs) v = values a_word b n (vs ++ lowered v ∷ [])
put (a_unit h k b n vs m) v = values a_word b n (vs ++ (m ++ lowered v) ∷ [])

-- what opens `(..)` or `[..]`
pub data Opener : Type 0 where
  asked_of : ℕ → ℕ → Where → List Rule → List Text → Text → Text → Opener
  attribute_of : ℕ → Where → List Rule → List Text → Text → Opener
  call_of : ℕ → Tail → Body → Text → List Text → Text → Opener

-- i is inside, and b closes it
abbrev pub enclosed : Opener → Text → ℕ → Place
enclosed (asked_of c a w rs ss t v) i b = selecting within rs ss (joined w t ++ c ∷ (lowered v ++ a ∷ (i ++ b ∷ [])))
enclosed (attribute_of a w rs ss t) i b = selecting within rs ss (joined w t ++ a ∷ (i ++ b ∷ []))
enclosed (call_of a k b n vs w) i c = values closed b n (vs ++ (lowered w ++ a ∷ (i ++ c ∷ [])) ∷ [])

abbrev pub in_brackets : Opener → Bool
in_brackets (attribute_of a w rs ss t) = true
in_brackets _ = false

pub data State : Type 0 where
  at : Place → State
  -- behind a `/`; in a comment; the same behind a `*`
  slashed : ℕ → Place → State
  commented : Bool → Place → State
  -- a word is wanted; it has begun with a `-`; it is read so far
  word_for : Use → State
  dash_for : ℕ → Use → State
  word : Use → Text → State
  -- behind one `:` of a selector
  colon_in : ℕ → Where → List Rule → List Text → Text → State
  -- so many parentheses are open
  inside : Opener → ℕ → Text → State
  quoted_in : Opener → ℕ → Text → ℕ → Text → State
  -- values: a text in quotes, `-`, a number, one and a `-`, a point, behind a point, `#`
  quoted : Tail → Body → Text → List Text → ℕ → Text → State
  minus : ℕ → Tail → Body → Text → List Text → State
  whole : Tail → Body → Text → List Text → Text → State
  fraction : Tail → Body → Text → List Text → Text → State
  number_dash : Bool → ℕ → Tail → Body → Text → List Text → Text → State
  point : ℕ → Tail → Body → Text → List Text → Text → State
  -- `!`, and the letters that are still to come
  urgent : ℕ → Tail → Body → Text → List Text → Text → State
  hash_for : ℕ → Tail → Body → Text → List Text → State
  hash : Tail → Body → Text → List Text → Text → State

abbrev pub when : Bool → State → Option State
when b s = if b then Some s else None

-- a step at a place; h: a hexadecimal letter
abbrev pub place : Place → Class → ℕ → Option State
place p (space h) c = Some (at (spaced p))
place p slash c = Some (slashed c p)
place (selecting w rs ss t) (letter h) c = when (may_tag w) (word (a_tag w rs ss t) (c ∷ []))
place (selecting w rs ss t) dash c = when (may_tag w) (dash_for c (a_tag w rs ss t))
place (selecting w rs ss t) star c = when (may_tag w) (at (selecting within rs ss (joined w t ++ c ∷ [])))
place (selecting w rs ss t) dot c = Some (word_for (a_part c w rs ss t))
place (selecting w rs ss t) number_sign c = Some (word_for (a_part c w rs ss t))
place (selecting w rs ss t) colon c = Some (colon_in c w rs ss t)
place (selecting w rs ss t) open_bracket c = Some (inside (attribute_of c w rs ss t) 0 [])
place (selecting w rs ss t) combinator_sign c = when (has_compound w) (at (selecting wanted rs ss (t ++ c ∷ [])))
place (selecting w rs ss t) comma c = when (has_compound w) (at (selecting wanted rs (ss ++ t ∷ []) []))
place (selecting w rs ss t) open_brace c = when (has_compound w) (at (block false (opened rs ss t)))
place (block h b) (letter i) c = Some (word (a_name h b) (c ∷ []))
place (block h b) dash c = Some (dash_for c (a_name h b))
place (block h b) semicolon c = when h (at (block true b))
place (block h b) close_brace c = Some (at (selecting wanted (ruled b) [] []))
place (named b n) colon c = Some (at (values none b n []))
place (values k b n vs) (letter h) c = Some (word (a_value k b n vs) (c ∷ []))
place (values k b n vs) digit c = Some (whole k b n vs (c ∷ []))
place (values k b n vs) dash c = Some (minus c k b n vs)
place (values k b n vs) dot c = Some (point c k b n vs [])
place (values k b n vs) exclamation c = Some (urgent c k b n vs important)
place (values k b n vs) number_sign c = Some (hash_for c k b n vs)
place (values k b n vs) quote c = Some (quoted k b n vs c (c ∷ []))
place (values k b n vs) comma c = Some (at (values closed b n (vs ++ (c ∷ []) ∷ [])))
place (values k b n vs) semicolon c = when (has_value k) (at (block true (with_declaration b n vs)))
place (values k b n vs) close_brace c = when (has_value k) (at (selecting wanted (ruled (with_declaration b n vs)) [] []))
place _ _ c = None

-- behind a `/`, of a comment or a value
abbrev pub after_slash : ℕ → Place → Class → ℕ → Option State
after_slash s p star c = Some (commented false p)
after_slash s (values k b n vs) d c = place (values a_slash b n (vs ++ (s ∷ []) ∷ [])) d c
after_slash s _ d c = None

abbrev pub comment_step : Bool → Place → Class → ℕ → Option State
comment_step true p slash c = Some (at (parted p))
comment_step b p star c = Some (commented true p)
comment_step b p k c = Some (commented false p)

abbrev pub word_begins : Use → Class → ℕ → Option State
word_begins x (letter h) c = Some (word x (c ∷ []))
word_begins x dash c = Some (dash_for c x)
word_begins x _ c = None

abbrev pub dash_step : ℕ → Use → Class → ℕ → Option State
dash_step d x (letter h) c = Some (word x (d ∷ c ∷ []))
dash_step d x _ c = None

abbrev pub word_step : Use → Text → Class → ℕ → Option State
word_step x w (letter h) c = Some (word x (w ++ c ∷ []))
word_step x w digit c = Some (word x (w ++ c ∷ []))
word_step x w dash c = Some (word x (w ++ c ∷ []))
word_step (a_state e y rs ss t) w open_parenthesis c = Some (inside (asked_of e c y rs ss t w) 0 [])
word_step (a_value k b n vs) w open_parenthesis c = Some (inside (call_of c k b n vs w) 0 [])
word_step x w k c = place (put x w) k c

abbrev pub inside_step : Opener → ℕ → Text → Class → ℕ → Option State
inside_step h n i quote c = Some (quoted_in h n i c (c ∷ []))
inside_step h n i open_parenthesis c = Some (inside h (suc n) (i ++ c ∷ []))
inside_step h (suc n) i close_parenthesis c = Some (inside h n (i ++ c ∷ []))
inside_step h zero i close_parenthesis c = when (if in_brackets h then false else true) (at (enclosed h i c))
inside_step h zero i close_bracket c = when (in_brackets h) (at (enclosed h i c))
inside_step h n i k c = when (is_inner k) (inside h n (i ++ c ∷ []))

-- what stands in quotes q goes on, to a state, or ends with another
abbrev pub quoted_step : ℕ → State → State → Class → ℕ → Option State
quoted_step q more s (space true) c = None
quoted_step q more s backslash c = None
quoted_step q more s quote c = if nat_eq c q then Some s else Some more
quoted_step q more s k c = Some more

abbrev pub minus_step : ℕ → Tail → Body → Text → List Text → Class → ℕ → Option State
minus_step d k b n vs (letter h) c = Some (word (a_value k b n vs) (d ∷ c ∷ []))
minus_step d k b n vs digit c = Some (whole k b n vs (d ∷ c ∷ []))
minus_step d k b n vs dot c = Some (point c k b n vs (d ∷ []))
minus_step d k b n vs _ c = None

abbrev pub whole_step : Tail → Body → Text → List Text → Text → Class → ℕ → Option State
whole_step k b n vs w (letter h) c = Some (word (a_unit true k b n vs w) (c ∷ []))
whole_step k b n vs w digit c = Some (whole k b n vs (w ++ c ∷ []))
whole_step k b n vs w dot c = Some (point c k b n vs w)
whole_step k b n vs w dash c = Some (number_dash true c k b n vs w)
whole_step k b n vs w percent c = Some (at (values closed b n (vs ++ (w ++ c ∷ []) ∷ [])))
whole_step k b n vs w j c = place (values a_whole b n (vs ++ w ∷ [])) j c

abbrev pub fraction_step : Tail → Body → Text → List Text → Text → Class → ℕ → Option State
fraction_step k b n vs w (letter h) c = Some (word (a_unit false k b n vs w) (c ∷ []))
fraction_step k b n vs w digit c = Some (fraction k b n vs (w ++ c ∷ []))
fraction_step k b n vs w dash c = Some (number_dash false c k b n vs w)
fraction_step k b n vs w percent c = Some (at (values closed b n (vs ++ (w ++ c ∷ []) ∷ [])))
fraction_step k b n vs w j c = place (values a_fraction b n (vs ++ w ∷ [])) j c

-- how a number may go on
abbrev pub tail_of : Bool → Tail
tail_of true = a_whole
tail_of false = a_fraction

-- the `-` of a unit, or of the next number
abbrev pub number_dash_step : Bool → ℕ → Tail → Body → Text → List Text → Text → Class → ℕ → Option State
number_dash_step h d k b n vs w (letter i) c = Some (word (a_unit h k b n vs w) (d ∷ c ∷ []))
number_dash_step h d k b n vs w digit c = Some (whole (tail_of h) b n (vs ++ w ∷ []) (d ∷ c ∷ []))
number_dash_step h d k b n vs w dot c = Some (point c (tail_of h) b n (vs ++ w ∷ []) (d ∷ []))
number_dash_step h d k b n vs w _ c = None

abbrev pub point_step : ℕ → Tail → Body → Text → List Text → Text → Class → ℕ → Option State
point_step p k b n vs w digit c = Some (fraction k b n vs (w ++ p ∷ c ∷ []))
point_step p k b n vs w _ c = None

abbrev pub hash_begins : ℕ → Tail → Body → Text → List Text → Class → ℕ → Option State
hash_begins m k b n vs j c = when (is_hex j) (hash k b n vs (m ∷ c ∷ []))

abbrev pub hash_step : Tail → Body → Text → List Text → Text → Class → ℕ → Option State
hash_step k b n vs w j c = if is_hex j then Some (hash k b n vs (w ++ c ∷ [])) else place (values a_hash b n (vs ++ w ∷ [])) j c

abbrev pub urgent_step : ℕ → Tail → Body → Text → List Text → Text → Class → ℕ → Option State
urgent_step m k b n vs (e ∷ rest) j c = when (nat_eq (lower c) e) (urgent m k b n vs rest)
urgent_step m k b n vs [] (letter h) c = None
urgent_step m k b n vs [] digit c = None
urgent_step m k b n vs [] dash c = None
urgent_step m k b n vs [] open_parenthesis c = None
urgent_step m k b n vs [] j c = place (values a_word b n (vs ++ (m ∷ important) ∷ [])) j c

abbrev pub colon_step : ℕ → Where → List Rule → List Text → Text → Class → ℕ → Option State
colon_step e w rs ss t colon c = Some (word_for (an_element e c w rs ss t))
colon_step e w rs ss t (letter h) c = Some (word (a_state e w rs ss t) (c ∷ []))
colon_step e w rs ss t dash c = Some (dash_for c (a_state e w rs ss t))
colon_step e w rs ss t _ c = None

unfoldable pub step : State → Class → ℕ → Option State
step (at p) k c = place p k c
step (slashed s p) k c = after_slash s p k c
step (commented b p) k c = comment_step b p k c
step (word_for x) k c = word_begins x k c
step (dash_for d x) k c = dash_step d x k c
step (word x w) k c = word_step x w k c
step (colon_in e w rs ss t) k c = colon_step e w rs ss t k c
step (inside h n i) k c = inside_step h n i k c
step (quoted_in h n i q v) k c = quoted_step q (quoted_in h n i q (v ++ c ∷ [])) (inside h n (i ++ (v ++ c ∷ []))) k c
step (quoted t b n vs q w) k c = quoted_step q (quoted t b n vs q (w ++ c ∷ [])) (at (values closed b n (vs ++ (w ++ c ∷ []) ∷ []))) k c
step (minus d t b n vs) k c = minus_step d t b n vs k c
step (whole t b n vs w) k c = whole_step t b n vs w k c
step (fraction t b n vs w) k c = fraction_step t b n vs w k c
step (number_dash h d t b n vs w) k c = number_dash_step h d t b n vs w k c
step (point p t b n vs w) k c = point_step p t b n vs w k c
step (hash_for m t b n vs) k c = hash_begins m t b n vs k c
step (urgent m t b n vs w) k c = urgent_step m t b n vs w k c
step (hash t b n vs w) k c = hash_step t b n vs w k c

pub data Answer : Type 0 where
  sheet : List Rule → Answer
  part : Answer
  -- what remains, from the unit on that was refused
  stopped : Text → Answer

abbrev pub if_none : List Text → Answer → Answer
if_none [] a = a
if_none (s ∷ ss) a = part

abbrev pub ending : State → Answer
ending (at (selecting wanted rs [] [])) = sheet rs
ending _ = part

abbrev pub goes : (State → Answer) → Text → Option State → Answer
goes f s None = stopped s
goes f s (Some x) = f x

unfoldable pub run : Text → State → Answer
run [] s = ending s
run (c ∷ u) s = goes (run u) (c ∷ u) (step s (class c) c)

abbrev pub read : Text → Answer
read u = run u (at (selecting wanted [] [] []))
