-- Selectors that are kept are of ASCII.
use Rattle.std.proofs.Common.{◌≡◌, ℕ, ◌<◌, Bool, true, false, ◌&&◌, List, [], ◌∷◌, ◌++◌, refl, sym, ap, ◌∙◌, nat_eq, arith, append_assoc, append-nil}
use Rattle.std.specs.Prelude.{if◌then◌else◌}
use Rattle.std.proofs.lemmas.Bool.Decides.{nat_tests}
use Rattle.css_grammar.specs.Characters.{Class, letter, dash, star, colon, open_parenthesis, open_bracket, combinator_sign, other, class, is_more}
use Rattle.css_grammar.specs.Sheets.{Text, Rule, lowered, with_declaration}
use Rattle.css_grammar.specs.Tokens.{Word, w_letter, w_dash, w_more}
use Rattle.css_grammar.specs.Grammar as g
use Rattle.css_grammar.specs.Grammar.{Where, wanted, within, behind, Place, selecting, block, named, values, joined, Leads, Spells, is_raw}
use Rattle.css_kept.specs.Selectors.{is_dropped, is_hover, keeps}
use Rattle.css_kept.specs.OfTable.{Each}
use Rattle.css_kept.proofs.Classes.{and_both, is_ascii, all_ascii, all_both, is_other, ascii_class, below, below_is}
use Rattle.css_kept.proofs.Lists.{each_more}
use Rattle.css_kept.proofs.Lowered.{lowered_word}
use Rattle.css_kept.proofs.Places as at

-- ---- classes

abbrev pub is_open : Class → Bool
is_open open_parenthesis = true
is_open open_bracket = true
is_open _ = false

more_class : (c : ℕ) → is_more (class c) ≡ true → is_ascii c ≡ true
more_class c e = ascii_class c (class c) refl (by_class (class c) e)
  where
    by_class : (k : Class) → is_more k ≡ true → is_other k ≡ false
    by_class other h = absurd cc
    by_class _ h = refl

raw_class : (c : ℕ) → is_raw (class c) ≡ true → is_ascii c ≡ true
raw_class c e = ascii_class c (class c) refl (by_class (class c) e)
  where
    by_class : (k : Class) → is_raw k ≡ true → is_other k ≡ false
    by_class other h = absurd cc
    by_class _ h = refl

pub word_ascii : (w : Text) → Word w → all_ascii w ≡ true
word_ascii _ (w_letter c h e) = and_both (is_ascii c) true (ascii_class c (letter h) e refl) refl
word_ascii _ (w_dash d c h e f) = and_both (is_ascii d) (is_ascii c && true) (ascii_class d dash e refl) (and_both (is_ascii c) true (ascii_class c (letter h) f refl) refl)
word_ascii _ (w_more w c x e) = all_both is_ascii w (c ∷ []) (word_ascii w x) (and_both (is_ascii c) true (more_class c e) refl)

-- what opens parentheses or brackets is dropped
abbrev pub drops : ℕ → Bool
drops c = if is_open (class c) then is_dropped c else true

all_drop : below 128 drops ≡ true
unfolding class
all_drop = refl

open_dropped : (c : ℕ) → is_open (class c) ≡ true → is_dropped c ≡ true
open_dropped c e =
    let small : is_ascii c ≡ true = ascii_class c (class c) refl (by_class (class c) e) in
    let lt : c < 128 = grind (arith, nat_tests) in
    sym (ap (λ b. if b then is_dropped c else true) e) ∙ below_is 128 drops c all_drop lt
  where
    by_class : (k : Class) → is_open k ≡ true → is_other k ≡ false
    by_class other h = absurd cc
    by_class _ h = refl

-- ---- what stands behind in a selector that is kept

keeps_rest : (c : ℕ) (s : Text) → keeps (c ∷ s) ≡ true → (is_dropped c ≡ false) × (keeps s ≡ true)
unfolding keeps
keeps_rest c s e = by_dropped (is_dropped c) refl e
  where
    by_hover : (b : Bool) → (if b then keeps s else false) ≡ true → keeps s ≡ true
    by_hover true f = f
    by_hover false f = absurd cc

    by_colon : (b : Bool) → (if b then (if is_hover s then keeps s else false) else keeps s) ≡ true → keeps s ≡ true
    by_colon true f = by_hover (is_hover s) f
    by_colon false f = f

    by_dropped : (b : Bool) → is_dropped c ≡ b → (if b then false else if nat_eq c 58 then (if is_hover s then keeps s else false) else keeps s) ≡ true → (is_dropped c ≡ false) × (keeps s ≡ true)
    by_dropped true h f = absurd cc
    by_dropped false h f = (h, by_colon (nat_eq c 58) f)

keeps_behind : (s t : Text) → keeps (s ++ t) ≡ true → keeps t ≡ true
keeps_behind [] t e = e
keeps_behind (c ∷ s) t e = keeps_behind s t (keeps_rest c (s ++ t) e).1

-- a text is of ASCII, if it is the front of a selector that is kept
abbrev pub Ascii : Text → Type 0
Ascii t = (y : Text) → keeps (t ++ y) ≡ true → all_ascii t ≡ true

both : (s t : Text) → Ascii s → Ascii t → Ascii (s ++ t)
both s t h k y e = let f : keeps (s ++ (t ++ y)) ≡ true = sym (ap keeps (append_assoc s t y)) ∙ e in all_both is_ascii s t (h (t ++ y) f) (k y (keeps_behind s (t ++ y) f))

plain : (t : Text) → all_ascii t ≡ true → Ascii t
plain t e y f = e

joined_ascii : (w : Where) (t : Text) → Ascii t → Ascii (joined w t)
joined_ascii wanted t h = h
joined_ascii within t h = h
joined_ascii behind t h = both t (32 ∷ []) h (plain (32 ∷ []) refl)

-- what begins with what is dropped
never : (a : ℕ) (z : Text) → is_open (class a) ≡ true → Ascii (a ∷ z)
never a z e y f = absurd (let h = (keeps_rest a (z ++ y) f).0 in let k = open_dropped a e in let b : true ≡ false = sym k ∙ h in cc)

one : (c : ℕ) (k : Class) → class c ≡ k → is_other k ≡ false → Ascii (c ∷ [])
one c k e f = plain (c ∷ []) (and_both (is_ascii c) true (ascii_class c k e f) refl)

word : (v : Text) → Word v → Ascii v
word v x = plain v (word_ascii v x)

abbrev pub KeptAscii : Text → Type 0
KeptAscii t = keeps t ≡ true → all_ascii t ≡ true

abbrev pub RuleAscii : Rule → Type 0
RuleAscii r = Each KeptAscii r.selectors

whole : (t : Text) → Ascii t → KeptAscii t
whole t h e = h [] (ap keeps (append-nil t) ∙ e)

abbrev pub Known : Place → Type 0
Known p = at.Selected RuleAscii KeptAscii (λ w t. Ascii t) p

-- a compound goes on with what is of ASCII
more : (w : Where) (rs : List Rule) (ss : List Text) (t z : Text) → Known (selecting w rs ss t) → Ascii z → Known (selecting within rs ss (joined w t ++ z))
more w rs ss t z k h = (k.0, k.1, both (joined w t) z (joined_ascii w t k.2) h)

known : (p : Place) (u : Text) → Leads p u → Known p
known _ _ g.begins = (tt, tt, plain [] refl)
known _ _ (g.white p u c h d e) = at.white_kept Known (λ rs ss t k. k) (λ j b n vs k. k) p (known p u d)
known _ _ (g.comment p u i c d e f) = at.comment_kept Known (λ j b n vs k. k) p (known p u d)
known _ _ (g.tag w rs ss t u v d m e) = more w rs ss t (lowered v) (known (selecting w rs ss t) u d) (word (lowered v) (lowered_word v e))
known _ _ (g.all w rs ss t u c d m e) = more w rs ss t (c ∷ []) (known (selecting w rs ss t) u d) (one c star e refl)
known _ _ (g.part w rs ss t u v c d m e) = more w rs ss t (c ∷ v) (known (selecting w rs ss t) u d) (both (c ∷ []) v (plain (c ∷ []) (and_both (is_ascii c) true (raw_class c m) refl)) (word v e))
known _ _ (g.state w rs ss t u v c d m e) = more w rs ss t (c ∷ lowered v) (known (selecting w rs ss t) u d) (both (c ∷ []) (lowered v) (one c colon m refl) (word (lowered v) (lowered_word v e)))
known _ _ (g.asked w rs ss t u v i c a b d e m f n q) =
    more w rs ss t (c ∷ (lowered v ++ a ∷ (i ++ b ∷ []))) (known (selecting w rs ss t) u d)
    (both (c ∷ []) (lowered v ++ a ∷ (i ++ b ∷ [])) (one c colon e refl) (both (lowered v) (a ∷ (i ++ b ∷ [])) (word (lowered v) (lowered_word v m)) (never a (i ++ b ∷ []) (ap is_open f))))
known _ _ (g.element w rs ss t u v c j d e f m) =
    more w rs ss t (c ∷ j ∷ lowered v) (known (selecting w rs ss t) u d) (both (c ∷ []) (j ∷ lowered v) (one c colon e refl) (both (j ∷ []) (lowered v) (one j colon f refl) (word (lowered v) (lowered_word v m))))
known _ _ (g.attribute w rs ss t u i a b d e f m) = more w rs ss t (a ∷ (i ++ b ∷ [])) (known (selecting w rs ss t) u d) (never a (i ++ b ∷ []) (ap is_open e))
known _ _ (g.combinator w rs ss t u c d m e) = let k = known (selecting w rs ss t) u d in (k.0, k.1, both t (c ∷ []) k.2 (one c combinator_sign e refl))
known _ _ (g.next w rs ss t u c d m e) = let k = known (selecting w rs ss t) u d in (k.0, each_more KeptAscii ss t k.1 (whole t k.2), plain [] refl)
known _ _ (g.opens w rs ss t u c d m e) = let k = known (selecting w rs ss t) u d in (k.0, each_more KeptAscii ss t k.1 (whole t k.2))
known _ _ (g.name h b u v d e) = known (block h b) u d
known _ _ (g.colons b n u c d e) = known (named b n) u d
known _ _ (g.value t j b n u v w vs d e f) = known (values t b n vs) u d
known _ _ (g.ends t b n u vs c d m e) = known (values t b n vs) u d
known _ _ (g.absent b u c d e) = known (block true b) u d
known _ _ (g.closes h b u c d e) = let k = known (block h b) u d in (each_more RuleAscii b.rules (record { selectors = b.selectors; declarations = b.declarations }) k.0 k.1, tt, plain [] refl)
known _ _ (g.ends_closes t b n u vs c d m e) = let k = known (values t b n vs) u d in
    let q = with_declaration b n vs in (each_more RuleAscii b.rules (record { selectors = q.selectors; declarations = q.declarations }) k.0 k.1, tt, plain [] refl)

pub kept_ascii : (rs : List Rule) (u : Text) → Spells rs u → Each RuleAscii rs
kept_ascii rs u d = (known (selecting wanted rs [] []) u d).0
