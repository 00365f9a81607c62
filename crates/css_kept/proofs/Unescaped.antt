-- No value of a sheet has a backslash, and so no URL in one has.
use Rattle.std.proofs.Common.{◌≡◌, ℕ, zero, suc, ◌-◌, Bool, true, false, ◌&&◌, ◌||◌, List, [], ◌∷◌, ◌++◌, refl, sym, ap, ◌∙◌, not, nat_eq, length, take, drop, arith}
use Rattle.std.specs.Prelude.{if◌then◌else◌}
use Rattle.std.specs.List.{prefix_len}
use Rattle.std.proofs.lemmas.Bool.Decides.{nat_tests}
use Rattle.caja_units.specs.Units.{same_units}
use Rattle.css_grammar.specs.Characters.{Class, letter, digit, dash, slash, dot, number_sign, comma, exclamation, percent, open_parenthesis, close_parenthesis, quote, backslash, class, is_more, is_hex, is_inner, is_plain}
use Rattle.css_grammar.specs.Sheets.{Text, Declaration, Rule, lowered}
use Rattle.css_grammar.specs.Tokens.{Tail, Word, w_letter, w_dash, w_more, Whole, n_digit, n_minus, n_more, Start, s_none, s_minus, s_whole, Fraction, b_point, b_more, Hash, h_one, h_more, Quoted, q_opens, q_more, Inside, i_none, i_other, i_text, i_left, i_right, important}
use Rattle.css_grammar.specs.Tokens as token
use Rattle.css_grammar.specs.Tokens.{Value}
use Rattle.css_grammar.specs.Grammar as g
use Rattle.css_grammar.specs.Grammar.{wanted, Place, selecting, block, named, values, Leads, Spells}
use Rattle.css_kept.specs.Table.{is_space, reversed, trimmed_front, trimmed, is_without, unquoted, link}
use Rattle.css_kept.specs.OfTable.{Each}
use Rattle.css_kept.proofs.Classes.{and_left, and_right, and_both, all_both}
use Rattle.css_kept.proofs.Lists.{each_more}
use Rattle.css_kept.proofs.Lowered.{lowered_word}
use Rattle.css_kept.proofs.Places.{white_kept, comment_kept}

abbrev pub Unescaped : Text → Type 0
Unescaped t = is_without 92 t ≡ true

abbrev pub is_backslash : Class → Bool
is_backslash backslash = true
is_backslash _ = false

backslash_class : is_backslash (class 92) ≡ true
unfolding class
backslash_class = refl

-- ---- tokens

unit : (c : ℕ) → is_backslash (class c) ≡ false → Unescaped (c ∷ [])
unit c e = and_both (not (nat_eq c 92)) true (by_test (nat_eq c 92) refl) refl
  where
    by_test : (b : Bool) → nat_eq c 92 ≡ b → not b ≡ true
    by_test true h = let f : c ≡ 92 = grind (arith, nat_tests) in absurd (let x : true ≡ false = sym backslash_class ∙ sym (ap (λ n. is_backslash (class n)) f) ∙ e in cc)
    by_test false h = refl

classed : (c : ℕ) (k : Class) → class c ≡ k → is_backslash k ≡ false → Unescaped (c ∷ [])
classed c k e f = unit c (ap is_backslash e ∙ f)

more : (c : ℕ) → is_more (class c) ≡ true → Unescaped (c ∷ [])
more c e = unit c (by_class (class c) e)
  where
    by_class : (k : Class) → is_more k ≡ true → is_backslash k ≡ false
    by_class backslash h = absurd cc
    by_class _ h = refl

hex : (c : ℕ) → is_hex (class c) ≡ true → Unescaped (c ∷ [])
hex c e = unit c (by_class (class c) e)
  where
    by_class : (k : Class) → is_hex k ≡ true → is_backslash k ≡ false
    by_class backslash h = absurd cc
    by_class _ h = refl

inner : (c : ℕ) → is_inner (class c) ≡ true → Unescaped (c ∷ [])
inner c e = unit c (by_class (class c) e)
  where
    by_class : (k : Class) → is_inner k ≡ true → is_backslash k ≡ false
    by_class backslash h = absurd cc
    by_class _ h = refl

plain : (q c : ℕ) → is_plain q (class c) c ≡ true → Unescaped (c ∷ [])
plain q c e = unit c (by_class (class c) e)
  where
    by_class : (k : Class) → is_plain q k c ≡ true → is_backslash k ≡ false
    by_class backslash h = absurd cc
    by_class _ h = refl

both : (s t : Text) → Unescaped s → Unescaped t → Unescaped (s ++ t)
both s t h k = all_both (λ c. not (nat_eq c 92)) s t h k

word : (w : Text) → Word w → Unescaped w
word _ (w_letter c h e) = classed c (letter h) e refl
word _ (w_dash d c h e f) = both (d ∷ []) (c ∷ []) (classed d dash e refl) (classed c (letter h) f refl)
word _ (w_more w c x e) = both w (c ∷ []) (word w x) (more c e)

low : (w : Text) → Word w → Unescaped (lowered w)
low w x = word (lowered w) (lowered_word w x)

whole : (w : Text) → Whole w → Unescaped w
whole _ (n_digit c e) = classed c digit e refl
whole _ (n_minus d c e f) = both (d ∷ []) (c ∷ []) (classed d dash e refl) (classed c digit f refl)
whole _ (n_more w c x e) = both w (c ∷ []) (whole w x) (classed c digit e refl)

start : (w : Text) → Start w → Unescaped w
start _ s_none = refl
start _ (s_minus d e) = classed d dash e refl
start _ (s_whole w x) = whole w x

fraction : (w : Text) → Fraction w → Unescaped w
fraction _ (b_point w p c x e f) = both w (p ∷ c ∷ []) (start w x) (both (p ∷ []) (c ∷ []) (classed p dot e refl) (classed c digit f refl))
fraction _ (b_more w c x e) = both w (c ∷ []) (fraction w x) (classed c digit e refl)

hash : (w : Text) → Hash w → Unescaped w
hash _ (h_one m c e f) = both (m ∷ []) (c ∷ []) (classed m number_sign e refl) (hex c f)
hash _ (h_more w c x e) = both w (c ∷ []) (hash w x) (hex c e)

quoted : (q : ℕ) (w : Text) → Quoted q w → Unescaped w
quoted _ _ (q_opens q e) = classed q quote e refl
quoted _ _ (q_more q c w x e) = both w (c ∷ []) (quoted q w x) (plain q c e)

quote_of : (q : ℕ) (w : Text) → Quoted q w → Unescaped (q ∷ [])
quote_of _ _ (q_opens q e) = classed q quote e refl
quote_of _ _ (q_more q c w x e) = quote_of q w x

inside : (n : ℕ) (w : Text) → Inside n w → Unescaped w
inside _ _ i_none = refl
inside _ _ (i_other n c w x e) = both w (c ∷ []) (inside n w x) (inner c e)
inside _ _ (i_text n q w v x y) = both w (v ++ q ∷ []) (inside n w x) (both v (q ∷ []) (quoted q v y) (quote_of q v y))
inside _ _ (i_left n c w x e) = both w (c ∷ []) (inside n w x) (classed c open_parenthesis e refl)
inside _ _ (i_right n c w x e) = both w (c ∷ []) (inside (suc n) w x) (classed c close_parenthesis e refl)

value : (v w : Text) (j : Tail) → Value v w j → Unescaped v
value _ _ _ (token.v_word w x) = low w x
value _ _ _ (token.v_call w i a b x e f g) =
    both (lowered w) (a ∷ (i ++ b ∷ [])) (low w x) (both (a ∷ []) (i ++ b ∷ []) (classed a open_parenthesis e refl) (both i (b ∷ []) (inside 0 i f) (classed b close_parenthesis g refl)))
value _ _ _ (token.v_whole w x) = whole w x
value _ _ _ (token.v_fraction w x) = fraction w x
value _ _ _ (token.v_percent_whole w c x e) = both w (c ∷ []) (whole w x) (classed c percent e refl)
value _ _ _ (token.v_percent_fraction w c x e) = both w (c ∷ []) (fraction w x) (classed c percent e refl)
value _ _ _ (token.v_unit_whole w v x y) = both w (lowered v) (whole w x) (low v y)
value _ _ _ (token.v_unit_fraction w v x y) = both w (lowered v) (fraction w x) (low v y)
value _ _ _ (token.v_hash w x) = hash w x
value _ _ _ (token.v_text w q x) = both w (q ∷ []) (quoted q w x) (quote_of q w x)
value _ _ _ (token.v_important c w e f) = both (c ∷ []) important (classed c exclamation e refl) refl
value _ _ _ (token.v_comma c e) = classed c comma e refl
value _ _ _ (token.v_slash c e) = classed c slash e refl

-- ---- places

abbrev pub DeclarationUnescaped : Declaration → Type 0
DeclarationUnescaped d = Each Unescaped d.values

abbrev pub RuleUnescaped : Rule → Type 0
RuleUnescaped r = Each DeclarationUnescaped r.declarations

abbrev pub Known : Place → Type 0
Known (selecting w rs ss t) = Each RuleUnescaped rs
Known (block h b) = Each RuleUnescaped b.rules × Each DeclarationUnescaped b.declarations
Known (named b n) = Each RuleUnescaped b.rules × Each DeclarationUnescaped b.declarations
Known (values j b n vs) = Each RuleUnescaped b.rules × Each DeclarationUnescaped b.declarations × Each Unescaped vs

known : (p : Place) (u : Text) → Leads p u → Known p
known _ _ g.begins = tt
known _ _ (g.white p u c h d e) = white_kept Known (λ rs ss t k. k) (λ j b n vs k. k) p (known p u d)
known _ _ (g.comment p u i c d e f) = comment_kept Known (λ j b n vs k. k) p (known p u d)
known _ _ (g.tag w rs ss t u v d m e) = known (selecting w rs ss t) u d
known _ _ (g.all w rs ss t u c d m e) = known (selecting w rs ss t) u d
known _ _ (g.part w rs ss t u v c d m e) = known (selecting w rs ss t) u d
known _ _ (g.state w rs ss t u v c d m e) = known (selecting w rs ss t) u d
known _ _ (g.asked w rs ss t u v i c a b d e m f n q) = known (selecting w rs ss t) u d
known _ _ (g.element w rs ss t u v c j d e f m) = known (selecting w rs ss t) u d
known _ _ (g.attribute w rs ss t u i a b d e f m) = known (selecting w rs ss t) u d
known _ _ (g.combinator w rs ss t u c d m e) = known (selecting w rs ss t) u d
known _ _ (g.next w rs ss t u c d m e) = known (selecting w rs ss t) u d
known _ _ (g.opens w rs ss t u c d m e) = (known (selecting w rs ss t) u d, tt)
known _ _ (g.name h b u v d e) = known (block h b) u d
known _ _ (g.colons b n u c d e) = let k = known (named b n) u d in (k.0, k.1, tt)
known _ _ (g.value t j b n u v w vs d e f) = let k = known (values t b n vs) u d in (k.0, k.1, each_more Unescaped vs v k.2 (value v w j e))
known _ _ (g.ends t b n u vs c d m e) = let k = known (values t b n vs) u d in (k.0, each_more DeclarationUnescaped b.declarations (record { name = n; values = vs }) k.1 k.2)
known _ _ (g.absent b u c d e) = known (block true b) u d
known _ _ (g.closes h b u c d e) = let k = known (block h b) u d in each_more RuleUnescaped b.rules (record { selectors = b.selectors; declarations = b.declarations }) k.0 k.1
known _ _ (g.ends_closes t b n u vs c d m e) =
    let k = known (values t b n vs) u d in
    each_more RuleUnescaped b.rules (record { selectors = b.selectors; declarations = b.declarations ++ record { name = n; values = vs } ∷ [] }) k.0 (each_more DeclarationUnescaped b.declarations (record { name = n; values = vs }) k.1 k.2)

pub values_unescaped : (rs : List Rule) (u : Text) → Spells rs u → Each RuleUnescaped rs
values_unescaped rs u d = known (selecting wanted rs [] []) u d

-- ---- the URL in a value

dropped : (n : ℕ) (s : Text) → Unescaped s → Unescaped (drop n s)
dropped zero s e = e
dropped (suc n) [] e = refl
dropped (suc n) (c ∷ s) e = dropped n s (and_right (not (nat_eq c 92)) (is_without 92 s) e)

taken : (n : ℕ) (s : Text) → Unescaped s → Unescaped (take n s)
taken zero s e = refl
taken (suc n) [] e = refl
taken (suc n) (c ∷ s) e = and_both (not (nat_eq c 92)) (is_without 92 (take n s)) (and_left (not (nat_eq c 92)) (is_without 92 s) e) (taken n s (and_right (not (nat_eq c 92)) (is_without 92 s) e))

turned : (s r : Text) → Unescaped s → Unescaped r → Unescaped (reversed s r)
turned [] r e f = f
turned (c ∷ s) r e f =
    turned s (c ∷ r) (and_right (not (nat_eq c 92)) (is_without 92 s) e) (and_both (not (nat_eq c 92)) (is_without 92 r) (and_left (not (nat_eq c 92)) (is_without 92 s) e) f)

front : (s : Text) → Unescaped s → Unescaped (trimmed_front s)
front s e = dropped (prefix_len is_space s) s e

both_ends : (s : Text) → Unescaped s → Unescaped (trimmed s)
both_ends s e = turned (trimmed_front (reversed (trimmed_front s) [])) [] (front (reversed (trimmed_front s) []) (turned (trimmed_front s) [] (front s e) refl)) refl

within_quotes : (s : Text) → Unescaped s → Unescaped (unquoted s)
within_quotes [] e = refl
within_quotes (q ∷ s) e =
    by_test ((nat_eq q 34 || nat_eq q 39) && same_units (take (length s - 1) s ++ q ∷ []) s && is_without q (take (length s - 1) s))
  where
    by_test : (b : Bool) → Unescaped (if b then take (length s - 1) s else q ∷ s)
    by_test true = taken (length s - 1) s (and_right (not (nat_eq q 92)) (is_without 92 s) e)
    by_test false = e

pub link_unescaped : (v : Text) → Unescaped v → Unescaped (link v)
link_unescaped v e =
    let s = drop 4 v in
    within_quotes (trimmed (take (length s - 1) s)) (both_ends (take (length s - 1) s) (taken (length s - 1) s (dropped 4 v e)))
