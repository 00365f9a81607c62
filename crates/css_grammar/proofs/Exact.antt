-- What is read is exactly what is spelled, and a refusal is exact.
use Rattle.std.proofs.Common.{◌≡◌, ◌↔◌, ℕ, Bool, true, false, List, [], ◌∷◌, ◌++◌, Some, refl, sym, ap, subst, ◌∙◌, append_assoc}
use Rattle.std.proofs.lemmas.List.{append-nil}
use Rattle.css_grammar.specs.Characters.{Class, class, exclamation, letter, digit, dash, space, dot, number_sign, star, slash, colon, semicolon, comma, open_brace, close_brace, open_parenthesis, close_parenthesis, open_bracket, close_bracket, quote, combinator_sign}
use Rattle.css_grammar.specs.Sheets.{Text, Rule, opened, with_declaration, ruled}
use Rattle.css_grammar.specs.Tokens.{Tail, none, closed, a_word, a_whole, a_fraction, a_hash, a_slash, Word, w_letter, w_dash, w_more, Whole, n_digit, n_minus, n_more, Start, s_none, s_minus, s_whole, Fraction, b_point, b_more, Hash, h_one, h_more, Quoted, q_opens, q_more, Comment, c_opens, c_more, c_star, apart, free, Value, v_word, v_call, v_whole, v_fraction, v_percent_whole, v_percent_fraction, v_unit_whole, v_unit_fraction, v_hash, v_text, v_comma, v_slash, in_comment, v_important}
use Rattle.css_grammar.specs.Grammar as g
use Rattle.css_grammar.specs.Grammar.{Where, wanted, within, behind, Place, selecting, block, named, values, spaced, parted, may_tag, has_compound, joined, has_value, is_raw, Leads, Spells, Begins, StopsAt}
use Rattle.css_grammar.specs.Machine.{a_tag, a_part, a_state, an_element, a_name, asked_of, attribute_of, State, at, slashed, commented, word_for, word, colon_in, inside, when, step, sheet, run, read}
use Rattle.css_grammar.proofs.Sound.{read_spelled, sheet_is}
use Rattle.css_grammar.proofs.Complete.{takes, over, word_read, word_ends, opens_word, opens_tag, opens_name, opens_state, inside_read, value_read}

-- ---- what a value begins with decides whether it stays apart

abbrev Firm : Text → Type 0
Firm w = (t : Tail) (z : Text) → free t (w ++ z) ≡ free t w

firm_more : (w x : Text) → Firm w → Firm (w ++ x)
firm_more w x f = λ t z. ap (free t) (append_assoc w x z) ∙ (f t (x ++ z) ∙ sym (f t x))

abbrev is_dash : Class → Bool
is_dash dash = true
is_dash _ = false

firm_class : (t : Tail) (j : Class) (z : Text) → is_dash j ≡ false → apart t j z ≡ apart t j []
firm_class none j z e = refl
firm_class closed j z e = refl
firm_class a_word (letter h) z e = refl
firm_class a_word _ z e = refl
firm_class a_whole dash z e = absurd cc
firm_class a_whole _ z e = refl
firm_class a_fraction dash z e = absurd cc
firm_class a_fraction _ z e = refl
firm_class a_hash (letter h) z e = refl
firm_class a_hash _ z e = refl
firm_class a_slash (letter h) z e = refl
firm_class a_slash _ z e = refl

firm_one : (c : ℕ) (j : Class) → class c ≡ j → is_dash j ≡ false → Firm (c ∷ [])
firm_one c j e f = λ t z. firm_class t (class c) z (ap is_dash e ∙ f)

firm_pair : (t : Tail) (c : ℕ) (z : Text) → apart t dash (c ∷ z) ≡ apart t dash (c ∷ [])
firm_pair none c z = refl
firm_pair closed c z = refl
firm_pair a_word c z = refl
firm_pair a_whole c z = refl
firm_pair a_fraction c z = refl
firm_pair a_hash c z = refl
firm_pair a_slash c z = refl

firm_two : (d c : ℕ) → class d ≡ dash → Firm (d ∷ c ∷ [])
firm_two d c e = λ t z. ap (λ j. apart t j (c ∷ z)) e ∙ (firm_pair t c z ∙ sym (ap (λ j. apart t j (c ∷ [])) e))

firm_word : (w : Text) → Word w → Firm w
firm_word _ (w_letter c h e) = firm_one c (letter h) e refl
firm_word _ (w_dash d c h e f) = firm_two d c e
firm_word _ (w_more w c i m) = firm_more w (c ∷ []) (firm_word w i)

firm_whole : (w : Text) → Whole w → Firm w
firm_whole _ (n_digit c e) = firm_one c digit e refl
firm_whole _ (n_minus d c e f) = firm_two d c e
firm_whole _ (n_more w c i m) = firm_more w (c ∷ []) (firm_whole w i)

firm_start : (w : Text) (p c : ℕ) → Start w → class p ≡ dot → Firm (w ++ p ∷ c ∷ [])
firm_start _ p c s_none e = firm_more (p ∷ []) (c ∷ []) (firm_one p dot e refl)
firm_start _ p c (s_minus d f) e = firm_more (d ∷ p ∷ []) (c ∷ []) (firm_two d p f)
firm_start _ p c (s_whole w i) e = firm_more w (p ∷ c ∷ []) (firm_whole w i)

firm_fraction : (w : Text) → Fraction w → Firm w
firm_fraction _ (b_point w p c i e f) = firm_start w p c i e
firm_fraction _ (b_more w c i m) = firm_more w (c ∷ []) (firm_fraction w i)

firm_hash : (w : Text) → Hash w → Firm w
firm_hash _ (h_one m c e f) = firm_more (m ∷ []) (c ∷ []) (firm_one m number_sign e refl)
firm_hash _ (h_more w c i m) = firm_more w (c ∷ []) (firm_hash w i)

firm_quoted : (q : ℕ) (w : Text) → Quoted q w → Firm w
firm_quoted q _ (q_opens p e) = firm_one q quote e refl
firm_quoted q _ (q_more p c w i m) = firm_more w (c ∷ []) (firm_quoted q w i)

firm_value : (v w : Text) (j : Tail) → Value v w j → Firm w
firm_value _ w _ (v_word x i) = firm_word w i
firm_value _ _ _ (v_call w i a c o e p q) = firm_more w (a ∷ (i ++ c ∷ [])) (firm_word w o)
firm_value _ w _ (v_whole x i) = firm_whole w i
firm_value _ w _ (v_fraction x i) = firm_fraction w i
firm_value _ _ _ (v_percent_whole w c i e) = firm_more w (c ∷ []) (firm_whole w i)
firm_value _ _ _ (v_percent_fraction w c i e) = firm_more w (c ∷ []) (firm_fraction w i)
firm_value _ _ _ (v_unit_whole w x i o) = firm_more w x (firm_whole w i)
firm_value _ _ _ (v_unit_fraction w x i o) = firm_more w x (firm_fraction w i)
firm_value _ w _ (v_hash x i) = firm_hash w i
firm_value _ _ _ (v_text w q i) = firm_more w (q ∷ []) (firm_quoted q w i)
firm_value _ _ _ (v_important c w e i) = firm_more (c ∷ []) w (firm_one c exclamation e refl)
firm_value _ _ _ (v_comma c e) = firm_one c comma e refl
firm_value _ _ _ (v_slash c e) = firm_one c slash e refl

-- ---- what may follow at a place

abbrev pub Follows : Place → Text → Type 0
Follows (selecting within rs ss t) k = free a_word k ≡ true
Follows (named b n) k = free a_word k ≡ true
Follows (values t b n vs) k = free t k ≡ true
Follows _ k = Unit {0}

follows_sel : (w : Where) (rs : List Rule) (ss : List Text) (t : Text) (c : ℕ) (j : Class) (k : Text) → class c ≡ j → apart a_word j k ≡ true → Follows (selecting w rs ss t) (c ∷ k)
follows_sel wanted rs ss t c j k e f = tt
follows_sel within rs ss t c j k e f = ap (λ i. apart a_word i k) e ∙ f
follows_sel behind rs ss t c j k e f = tt

follows_any : (p : Place) (c : ℕ) (j : Class) (k : Text) → class c ≡ j → ((t : Tail) → apart t j k ≡ true) → Follows p (c ∷ k)
follows_any (selecting w rs ss t) c j k e f = follows_sel w rs ss t c j k e (f a_word)
follows_any (block h b) c j k e f = tt
follows_any (named b n) c j k e f = ap (λ i. apart a_word i k) e ∙ f a_word
follows_any (values t b n vs) c j k e f = ap (λ i. apart t i k) e ∙ f t

space_apart : (h : Bool) (k : Text) (t : Tail) → apart t (space h) k ≡ true
space_apart h k none = refl
space_apart h k closed = refl
space_apart h k a_word = refl
space_apart h k a_whole = refl
space_apart h k a_fraction = refl
space_apart h k a_hash = refl
space_apart h k a_slash = refl

slash_apart : (k : Text) (t : Tail) → apart t slash k ≡ true
slash_apart k none = refl
slash_apart k closed = refl
slash_apart k a_word = refl
slash_apart k a_whole = refl
slash_apart k a_fraction = refl
slash_apart k a_hash = refl
slash_apart k a_slash = refl

semicolon_apart : (k : Text) (t : Tail) → apart t semicolon k ≡ true
semicolon_apart k none = refl
semicolon_apart k closed = refl
semicolon_apart k a_word = refl
semicolon_apart k a_whole = refl
semicolon_apart k a_fraction = refl
semicolon_apart k a_hash = refl
semicolon_apart k a_slash = refl

unbrace_apart : (k : Text) (t : Tail) → apart t close_brace k ≡ true
unbrace_apart k none = refl
unbrace_apart k closed = refl
unbrace_apart k a_word = refl
unbrace_apart k a_whole = refl
unbrace_apart k a_fraction = refl
unbrace_apart k a_hash = refl
unbrace_apart k a_slash = refl

tag_follows : (w : Where) (rs : List Rule) (ss : List Text) (t k : Text) → may_tag w ≡ true → Follows (selecting w rs ss t) k
tag_follows wanted rs ss t k m = tt
tag_follows within rs ss t k m = absurd cc
tag_follows behind rs ss t k m = tt

-- ---- comments

comment_goes : (h : Bool) (p : Place) (j : Class) (c : ℕ) → in_comment h j ≡ true → step (commented h p) j c ≡ Some (commented false p)
unfolding step
comment_goes true p slash c e = absurd cc
comment_goes true p star c e = absurd cc
comment_goes true p _ c e = refl
comment_goes false p star c e = absurd cc
comment_goes false p _ c e = refl

comment_star : (h : Bool) (p : Place) (c : ℕ) → step (commented h p) star c ≡ Some (commented true p)
unfolding step
comment_star true p c = refl
comment_star false p c = refl

slash_at : (p : Place) (c : ℕ) → step (at p) slash c ≡ Some (slashed c p)
unfolding step
slash_at p c = refl

star_at : (p : Place) (s c : ℕ) → step (slashed s p) star c ≡ Some (commented false p)
unfolding step
star_at p s c = refl

comment_read : (h : Bool) (i : Text) (p : Place) (k : Text) → Comment h i → run (i ++ k) (at p) ≡ run k (commented h p)
comment_read h _ p k (c_opens s a e f) = takes (at p) s slash (a ∷ k) e (slash_at p s) ∙ takes (slashed s p) a star k f (star_at p s a)
comment_read h _ p k (c_more b c i j e) = over i (c ∷ []) k (at p) ∙ comment_read b i p (c ∷ k) j ∙ takes (commented b p) c (class c) k refl (comment_goes b p (class c) c e)
comment_read h _ p k (c_star b c i j e) = over i (c ∷ []) k (at p) ∙ comment_read b i p (c ∷ k) j ∙ takes (commented b p) c star k e (comment_star b p c)

comment_begins : (h : Bool) (i : Text) (p : Place) (k : Text) → Comment h i → Follows p (i ++ k)
comment_begins h _ p k (c_opens s a e f) = follows_any p s slash (a ∷ k) e (slash_apart (a ∷ k))
comment_begins h _ p k (c_more b c i j e) = subst (λ (z : Text). Follows p z) (sym (append_assoc i (c ∷ []) k)) (comment_begins b i p (c ∷ k) j)
comment_begins h _ p k (c_star b c i j e) = subst (λ (z : Text). Follows p z) (sym (append_assoc i (c ∷ []) k)) (comment_begins b i p (c ∷ k) j)

-- ---- the whole

abbrev pub beginning : State
beginning = at (selecting wanted [] [] [])

space_at : (p : Place) (h : Bool) (c : ℕ) → step (at p) (space h) c ≡ Some (at (spaced p))
unfolding step
space_at p h c = refl

raw_at : (w : Where) (rs : List Rule) (ss : List Text) (t : Text) (c : ℕ) (j : Class) (k : Text) → is_raw j ≡ true → (step (at (selecting w rs ss t)) j c ≡ Some (word_for (a_part c w rs ss t))) × (apart a_word j k ≡ true)
unfolding step
raw_at w rs ss t c dot k e = (refl, refl)
raw_at w rs ss t c number_sign k e = (refl, refl)
raw_at w rs ss t c _ k e = absurd cc

pub complete : (p : Place) (u k : Text) → Leads p u → Follows p k → run (u ++ k) beginning ≡ run k (at p)
unfolding step
complete _ _ k g.begins f = refl
complete _ _ k (g.white p u c h d e) f = over u (c ∷ []) k beginning ∙ complete p u (c ∷ k) d (follows_any p c (space h) k e (space_apart h k)) ∙ takes (at p) c (space h) k e (space_at p h c)
complete _ _ k (g.comment p u i c d m e) f = over u (i ++ c ∷ []) k beginning ∙ (ap (λ z. run (u ++ z) beginning) (append_assoc i (c ∷ []) k) ∙ (complete p u (i ++ c ∷ k) d (comment_begins true i p (c ∷ k) m) ∙ (comment_read true i p (c ∷ k) m
    ∙ takes (commented true p) c slash k e refl)))
complete _ _ k (g.tag w rs ss t u v d m i) f = over u v k beginning ∙ complete (selecting w rs ss t) u (v ++ k) d (tag_follows w rs ss t (v ++ k) m) ∙ word_read (a_tag w rs ss t) (at (selecting w rs ss t)) v k i (opens_tag w rs ss t m) ∙ word_ends (a_tag w rs ss t) v k f
complete _ _ k (g.all w rs ss t u c d m e) f = over u (c ∷ []) k beginning ∙ complete (selecting w rs ss t) u (c ∷ k) d (tag_follows w rs ss t (c ∷ k) m)
    ∙ takes (at (selecting w rs ss t)) c star k e (ap (λ b. when b (at (selecting within rs ss (joined w t ++ c ∷ [])))) m)
complete _ _ k (g.part w rs ss t u v c d m i) f = let r = raw_at w rs ss t c (class c) (v ++ k) m in
    over u (c ∷ v) k beginning ∙ complete (selecting w rs ss t) u (c ∷ (v ++ k)) d (follows_sel w rs ss t c (class c) (v ++ k) refl r.1) ∙ takes (at (selecting w rs ss t)) c (class c) (v ++ k) refl r.0
    ∙ word_read (a_part c w rs ss t) (word_for (a_part c w rs ss t)) v k i (opens_word (a_part c w rs ss t)) ∙ word_ends (a_part c w rs ss t) v k f
complete _ _ k (g.state w rs ss t u v c d e i) f =
    over u (c ∷ v) k beginning ∙ complete (selecting w rs ss t) u (c ∷ (v ++ k)) d (follows_sel w rs ss t c colon (v ++ k) e refl) ∙ takes (at (selecting w rs ss t)) c colon (v ++ k) e refl
    ∙ word_read (a_state c w rs ss t) (colon_in c w rs ss t) v k i (opens_state c w rs ss t) ∙ word_ends (a_state c w rs ss t) v k f
complete _ _ k (g.asked w rs ss t u v i c a b d e o q x y) f =
    let z : Text = (i ++ b ∷ []) ++ k in
    over u (c ∷ (v ++ a ∷ (i ++ b ∷ []))) k beginning ∙ (ap (λ z. run (u ++ c ∷ z) beginning) (append_assoc v (a ∷ (i ++ b ∷ [])) k)
    ∙ (complete (selecting w rs ss t) u (c ∷ (v ++ a ∷ ((i ++ b ∷ []) ++ k))) d (follows_sel w rs ss t c colon (v ++ a ∷ ((i ++ b ∷ []) ++ k)) e refl) ∙ (takes (at (selecting w rs ss t)) c colon (v ++ a ∷ ((i ++ b ∷ []) ++ k)) e refl
    ∙ (word_read (a_state c w rs ss t) (colon_in c w rs ss t) v (a ∷ ((i ++ b ∷ []) ++ k)) o (opens_state c w rs ss t) ∙ (takes (word (a_state c w rs ss t) v) a open_parenthesis ((i ++ b ∷ []) ++ k) q refl
    ∙ (over i (b ∷ []) k (inside (asked_of c a w rs ss t v) 0 []) ∙ (inside_read (asked_of c a w rs ss t v) 0 i (b ∷ k) x ∙ takes (inside (asked_of c a w rs ss t v) 0 i) b close_parenthesis k y refl)))))))
complete _ _ k (g.element w rs ss t u v c d l e h i) f =
    over u (c ∷ d ∷ v) k beginning ∙ complete (selecting w rs ss t) u (c ∷ d ∷ (v ++ k)) l (follows_sel w rs ss t c colon (d ∷ (v ++ k)) e refl) ∙ takes (at (selecting w rs ss t)) c colon (d ∷ (v ++ k)) e refl
    ∙ takes (colon_in c w rs ss t) d colon (v ++ k) h refl ∙ word_read (an_element c d w rs ss t) (word_for (an_element c d w rs ss t)) v k i (opens_word (an_element c d w rs ss t)) ∙ word_ends (an_element c d w rs ss t) v k f
complete _ _ k (g.attribute w rs ss t u i a b d e x y) f =
    over u (a ∷ (i ++ b ∷ [])) k beginning ∙ complete (selecting w rs ss t) u (a ∷ ((i ++ b ∷ []) ++ k)) d (follows_sel w rs ss t a open_bracket ((i ++ b ∷ []) ++ k) e refl) ∙ takes (at (selecting w rs ss t)) a open_bracket ((i ++ b ∷ []) ++ k) e refl
    ∙ over i (b ∷ []) k (inside (attribute_of a w rs ss t) 0 []) ∙ inside_read (attribute_of a w rs ss t) 0 i (b ∷ k) x ∙ takes (inside (attribute_of a w rs ss t) 0 i) b close_bracket k y refl
complete _ _ k (g.combinator w rs ss t u c d m e) f = over u (c ∷ []) k beginning ∙ complete (selecting w rs ss t) u (c ∷ k) d (follows_sel w rs ss t c combinator_sign k e refl) ∙ takes (at (selecting w rs ss t)) c combinator_sign k e (ap (λ b. when b (at (selecting wanted rs ss (t ++ c ∷ [])))) m)
complete _ _ k (g.next w rs ss t u c d m e) f = over u (c ∷ []) k beginning ∙ complete (selecting w rs ss t) u (c ∷ k) d (follows_sel w rs ss t c comma k e refl) ∙ takes (at (selecting w rs ss t)) c comma k e (ap (λ b. when b (at (selecting wanted rs (ss ++ t ∷ []) []))) m)
complete _ _ k (g.opens w rs ss t u c d m e) f = over u (c ∷ []) k beginning ∙ complete (selecting w rs ss t) u (c ∷ k) d (follows_sel w rs ss t c open_brace k e refl) ∙ takes (at (selecting w rs ss t)) c open_brace k e (ap (λ b. when b (at (block false (opened rs ss t)))) m)
complete _ _ k (g.name h b u v d i) f = over u v k beginning ∙ complete (block h b) u (v ++ k) d tt ∙ word_read (a_name h b) (at (block h b)) v k i (opens_name h b) ∙ word_ends (a_name h b) v k f
complete _ _ k (g.colons b n u c d e) f = over u (c ∷ []) k beginning ∙ complete (named b n) u (c ∷ k) d (ap (λ i. apart a_word i k) e) ∙ takes (at (named b n)) c colon k e refl
complete _ _ k (g.value t j b n u v w vs d i m) f = over u w k beginning ∙ complete (values t b n vs) u (w ++ k) d (firm_value v w j i t k ∙ m) ∙ value_read t j b n v w vs k i f
complete _ _ k (g.ends t b n u vs c d m e) f = over u (c ∷ []) k beginning ∙ complete (values t b n vs) u (c ∷ k) d (follows_any (values t b n vs) c semicolon k e (semicolon_apart k)) ∙ takes (at (values t b n vs)) c semicolon k e (ap (λ i. when i (at (block true (with_declaration b n vs)))) m)
complete _ _ k (g.absent b u c d e) f = over u (c ∷ []) k beginning ∙ complete (block true b) u (c ∷ k) d tt ∙ takes (at (block true b)) c semicolon k e refl
complete _ _ k (g.closes h b u c d e) f = over u (c ∷ []) k beginning ∙ complete (block h b) u (c ∷ k) d tt ∙ takes (at (block h b)) c close_brace k e refl
complete _ _ k (g.ends_closes t b n u vs c d m e) f = over u (c ∷ []) k beginning ∙ complete (values t b n vs) u (c ∷ k) d (follows_any (values t b n vs) c close_brace k e (unbrace_apart k))
    ∙ takes (at (values t b n vs)) c close_brace k e (ap (λ i. when i (at (selecting wanted (ruled (with_declaration b n vs)) [] []))) m)

pub spelled_read : (u : Text) (rs : List Rule) → Spells rs u → read u ≡ sheet rs
unfolding run
spelled_read u rs d = ap (λ z. run z beginning) (sym (append-nil u)) ∙ complete (selecting wanted rs [] []) u [] d tt

pub reading : (u : Text) (rs : List Rule) → (read u ≡ sheet rs) ↔ Spells rs u
reading u rs = (read_spelled u rs, spelled_read u rs)

pub one_sheet : (u : Text) (rs qs : List Rule) → Spells rs u → Spells qs u → rs ≡ qs
one_sheet u rs qs d e = sheet_is rs qs (sym (spelled_read u rs d) ∙ spelled_read u qs e)
