-- What is read is spelled so.
use Rattle.std.proofs.Common.{◌≡◌, ℕ, zero, suc, Bool, true, false, List, [], ◌∷◌, ◌++◌, Option, Some, None, refl, sym, ap, subst, ◌∙◌, append_assoc, nat_eq}
use Rattle.std.specs.Prelude.{if◌then◌else◌}
use Rattle.std.proofs.lemmas.List.{append-nil, map-append}
use Rattle.std.proofs.lemmas.Bool.{eqb-true}
use Rattle.css_grammar.specs.Characters.{Class, class, lower, exclamation, letter, digit, dash, space, dot, number_sign, star, slash, colon, semicolon, comma, percent, open_brace, close_brace, open_parenthesis, close_parenthesis, open_bracket, close_bracket, quote, combinator_sign, backslash, is_letter, is_more, is_hex, is_inner, is_plain}
use Rattle.css_grammar.specs.Sheets.{Text, Rule, Body, lowered}
use Rattle.css_grammar.specs.Tokens as tok
use Rattle.css_grammar.specs.Tokens.{Tail, none, closed, a_word, a_whole, a_fraction, a_hash, a_slash, Word, w_letter, w_dash, w_more, Whole, n_digit, n_minus, n_more, Start, s_none, s_minus, s_whole, Fraction, b_point, b_more, Hash, h_one, h_more, Quoted, q_opens, q_more, Inside, i_none, i_other, i_text, i_left, i_right, Comment, c_opens, c_more, c_star, apart, free, Value, v_word, v_call, v_whole, v_fraction, v_percent_whole, v_percent_fraction, v_unit_whole, v_unit_fraction, v_hash, v_text, v_comma, v_slash, in_comment, important, v_important}
use Rattle.css_grammar.specs.Grammar as g
use Rattle.css_grammar.specs.Grammar.{Where, wanted, within, behind, Place, selecting, block, named, values, spaced, parted, may_tag, has_compound, joined, has_value, is_raw, Leads, Spells}
use Rattle.css_grammar.specs.Machine.{Use, a_tag, a_part, a_state, an_element, a_name, a_value, a_unit, put, Opener, asked_of, attribute_of, call_of, enclosed, in_brackets, State, at, slashed, commented, word_for, dash_for, word, colon_in, inside, quoted_in, quoted, minus, whole, fraction, number_dash, point, hash_for, hash, when, place, after_slash, comment_step, word_begins, dash_step, word_step, inside_step, quoted_step, minus_step, whole_step, fraction_step, tail_of, number_dash_step, point_step, hash_begins, hash_step, urgent, urgent_step, colon_step, step, Answer, sheet, ending, goes, run, read}
use Rattle.css_grammar.proofs.Stands.{Number, Free, Fits, Loose, Ready, Clear, IsOpened, StandsFor, Good}

pub moved : {p : Place} {u v : Text} → u ≡ v → Leads p v → Leads p u
moved {p} e d = subst (λ (z : Text). Leads p z) (sym e) d

pub grows : {u : Text} (v w x : Text) → u ≡ v ++ w → u ++ x ≡ v ++ (w ++ x)
grows v w x e = ap (λ z. z ++ x) e ∙ append_assoc v w x

pub good_when : (b : Bool) (s : State) (u : Text) → (b ≡ true → StandsFor s u) → Good (when b s) u
good_when true s u f = f refl
good_when false s u f = tt

pub good_if : (b : Bool) (x y : Option State) (u : Text) → (b ≡ true → Good x u) → (b ≡ false → Good y u) → Good (if b then x else y) u
good_if true x y u f h = f refl
good_if false x y u f h = h refl

pub loose_spaced : (p : Place) → Loose (spaced p)
loose_spaced (selecting wanted rs ss t) = tt
loose_spaced (selecting within rs ss t) = tt
loose_spaced (selecting behind rs ss t) = tt
loose_spaced (block h b) = tt
loose_spaced (named b n) = tt
loose_spaced (values none b n vs) = λ k x. refl
loose_spaced (values t b n vs) = λ k x. refl

pub loose_parted : (p : Place) → Loose (parted p)
loose_parted (selecting w rs ss t) = tt
loose_parted (block h b) = tt
loose_parted (named b n) = tt
loose_parted (values none b n vs) = λ k x. refl
loose_parted (values t b n vs) = λ k x. refl

-- a value begins
pub first_free : (t : Tail) (c : ℕ) (k : Class) → class c ≡ k → ((x : Text) → apart t k x ≡ true) → Free t (c ∷ [])
first_free t c k e f = λ x. ap (λ j. apart t j x) e ∙ f x

pub more_free : (t : Tail) (w : Text) (c : ℕ) → Free t w → Free t (w ++ c ∷ [])
more_free t w c f = λ x. ap (free t) (append_assoc w (c ∷ []) x) ∙ f (c ∷ x)

pub is_free : (t : Tail) (w : Text) → Free t w → free t w ≡ true
is_free t w f = ap (free t) (sym (append-nil w)) ∙ f []

-- a value is whole
valued : (t j : Tail) (b : Body) (n u v w : Text) (vs : List Text) → Leads (values t b n vs) u → Value v w j → Free t w → Leads (values j b n (vs ++ v ∷ [])) (u ++ w)
valued t j b n u v w vs d x f = g.value t j b n u v w vs d x (is_free t w f)

raw_dot : (c : ℕ) (k : Class) → class c ≡ k → is_raw k ≡ true → is_raw (class c) ≡ true
raw_dot c k e h = ap is_raw e ∙ h

place_sound : (p : Place) (k : Class) (c : ℕ) (u : Text) → class c ≡ k → Leads p u → Fits p k → Good (place p k c) (u ++ c ∷ [])
place_sound p (space h) c u e d f = (g.white p u c h d e, loose_spaced p)
place_sound p slash c u e d f = (u, d, e, refl)
place_sound (selecting w rs ss t) (letter h) c u e d f = good_when (may_tag w) (word (a_tag w rs ss t) (c ∷ [])) _ (λ m. (u, (d, m), w_letter c h e, tt, refl))
place_sound (selecting w rs ss t) dash c u e d f = good_when (may_tag w) (dash_for c (a_tag w rs ss t)) _ (λ m. (u, (d, m), (λ w. tt), e, refl))
place_sound (selecting w rs ss t) star c u e d f = good_when (may_tag w) (at (selecting within rs ss (joined w t ++ c ∷ []))) _ (λ m. (g.all w rs ss t u c d m e, tt))
place_sound (selecting w rs ss t) dot c u e d f = ((u, d, raw_dot c dot e refl, refl), (λ w. tt))
place_sound (selecting w rs ss t) number_sign c u e d f = ((u, d, raw_dot c number_sign e refl, refl), (λ w. tt))
place_sound (selecting w rs ss t) colon c u e d f = (u, d, e, refl)
place_sound (selecting w rs ss t) open_bracket c u e d f = (u ++ c ∷ [], (u, d, e, refl), i_none, sym (append-nil (u ++ c ∷ [])))
place_sound (selecting w rs ss t) combinator_sign c u e d f = good_when (has_compound w) (at (selecting wanted rs ss (t ++ c ∷ []))) _ (λ m. (g.combinator w rs ss t u c d m e, tt))
place_sound (selecting w rs ss t) comma c u e d f = good_when (has_compound w) (at (selecting wanted rs (ss ++ t ∷ []) [])) _ (λ m. (g.next w rs ss t u c d m e, tt))
place_sound (selecting w rs ss t) open_brace c u e d f = good_when (has_compound w) (at (block false _)) _ (λ m. (g.opens w rs ss t u c d m e, tt))
place_sound (block h b) (letter i) c u e d f = (u, d, w_letter c i e, tt, refl)
place_sound (block h b) dash c u e d f = (u, d, (λ w. tt), e, refl)
place_sound (block true b) semicolon c u e d f = (g.absent b u c d e, tt)
place_sound (block false b) semicolon c u e d f = tt
place_sound (block h b) close_brace c u e d f = (g.closes h b u c d e, tt)
place_sound (named b n) colon c u e d f = (g.colons b n u c d e, λ k x. refl)
place_sound (values t b n vs) (letter h) c u e d f = (u, d, w_letter c h e, first_free t c (letter h) e f, refl)
place_sound (values t b n vs) digit c u e d f = (u, d, n_digit c e, first_free t c digit e f, refl)
place_sound (values t b n vs) dash c u e d f = (u, d, e, f, refl)
place_sound (values t b n vs) dot c u e d f = (u, d, s_none, e, first_free t c dot e f, refl)
place_sound (values t b n vs) exclamation c u e d f = (u, [], d, e, refl, first_free t c exclamation e f, refl)
place_sound (values t b n vs) number_sign c u e d f = (u, d, e, first_free t c number_sign e f, refl)
place_sound (values t b n vs) quote c u e d f = (u, d, q_opens c e, first_free t c quote e f, refl)
place_sound (values t b n vs) comma c u e d f = (valued t closed b n u _ _ vs d (v_comma c e) (first_free t c comma e f), λ k x. refl)
place_sound (values t b n vs) semicolon c u e d f = good_when (has_value t) (at (block true _)) _ (λ m. (g.ends t b n u vs c d m e, tt))
place_sound (values t b n vs) close_brace c u e d f = good_when (has_value t) (at (selecting wanted _ [] [])) _ (λ m. (g.ends_closes t b n u vs c d m e, tt))
place_sound _ _ c u e d f = tt

slash_free : (t : Tail) (x : Text) → apart t slash x ≡ true
slash_free none x = refl
slash_free closed x = refl
slash_free a_word x = refl
slash_free a_whole x = refl
slash_free a_fraction x = refl
slash_free a_hash x = refl
slash_free a_slash x = refl

slashed_value : (s : ℕ) (t : Tail) (b : Body) (n : Text) (vs : List Text) (u : Text) → StandsFor (slashed s (values t b n vs)) u → Leads (values a_slash b n (vs ++ (s ∷ []) ∷ [])) u
slashed_value s t b n vs u st = moved st.3 (valued t a_slash b n st.0 _ _ vs st.1 (v_slash s st.2) (first_free t s slash st.2 (slash_free t)))

slash_sound : (s : ℕ) (p : Place) (k : Class) (c : ℕ) (u : Text) → class c ≡ k → StandsFor (slashed s p) u → Good (after_slash s p k c) (u ++ c ∷ [])
slash_sound s p star c u e st = (st.0, s ∷ c ∷ [], st.1, c_opens s c st.2 e, grows st.0 (s ∷ []) (c ∷ []) st.3)
slash_sound s (values t b n vs) k c u e st = place_sound (values a_slash b n (vs ++ (s ∷ []) ∷ [])) k c u e (slashed_value s t b n vs u st) (λ x. refl)
slash_sound s _ k c u e st = tt

comment_more : (h : Bool) (p : Place) (k : Class) (c : ℕ) (u : Text) → class c ≡ k → in_comment h k ≡ true → StandsFor (commented h p) u → StandsFor (commented false p) (u ++ c ∷ [])
comment_more h p k c u e m st = (st.0, st.1 ++ c ∷ [], st.2, c_more h c st.1 st.3 (ap (in_comment h) e ∙ m), grows st.0 st.1 (c ∷ []) st.4)

comment_sound : (h : Bool) (p : Place) (k : Class) (c : ℕ) (u : Text) → class c ≡ k → StandsFor (commented h p) u → Good (comment_step h p k c) (u ++ c ∷ [])
comment_sound true p slash c u e st = (moved (grows st.0 st.1 (c ∷ []) st.4) (g.comment p st.0 st.1 c st.2 st.3 e), loose_parted p)
comment_sound true p star c u e st = (st.0, st.1 ++ c ∷ [], st.2, c_star true c st.1 st.3 e, grows st.0 st.1 (c ∷ []) st.4)
comment_sound true p k c u e st = comment_more true p k c u e refl st
comment_sound false p star c u e st = (st.0, st.1 ++ c ∷ [], st.2, c_star false c st.1 st.3 e, grows st.0 st.1 (c ∷ []) st.4)
comment_sound false p k c u e st = comment_more false p k c u e refl st

-- ---- words

begins_sound : (x : Use) (k : Class) (c : ℕ) (u : Text) → class c ≡ k → StandsFor (word_for x) u → Good (word_begins x k c) (u ++ c ∷ [])
begins_sound x (letter h) c u e st = (u, st.0, w_letter c h e, st.1 (c ∷ []), refl)
begins_sound x dash c u e st = (u, st.0, st.1, e, refl)
begins_sound x _ c u e st = tt

dash_sound : (d : ℕ) (x : Use) (k : Class) (c : ℕ) (u : Text) → class c ≡ k → StandsFor (dash_for d x) u → Good (dash_step d x k c) (u ++ c ∷ [])
dash_sound d x (letter h) c u e st = (st.0, st.1, w_dash d c h st.3 e, st.2 (d ∷ c ∷ []), grows st.0 (d ∷ []) (c ∷ []) st.4)
dash_sound d x _ c u e st = tt

clear_more : (x : Use) (w : Text) (c : ℕ) → Clear x w → Clear x (w ++ c ∷ [])
clear_more (a_value k b n vs) w c f = more_free k w c f
clear_more (a_tag w rs ss t) v c f = tt
clear_more (a_part d w rs ss t) v c f = tt
clear_more (a_state d w rs ss t) v c f = tt
clear_more (an_element d e w rs ss t) v c f = tt
clear_more (a_name h b) v c f = tt
clear_more (a_unit h k b n vs m) v c f = tt

pub joins : {u v : Text} (w y q : Text) → u ≡ v ++ w → v ≡ y ++ q → u ≡ y ++ (q ++ w)
joins w y q e f = e ∙ ap (λ z. z ++ w) f ∙ append_assoc y q w

unit_value : (h : Bool) (m v : Text) → Number h m → Word v → Value (m ++ lowered v) (m ++ v) a_word
unit_value true m v a w = v_unit_whole m v a w
unit_value false m v a w = v_unit_fraction m v a w

unit_free : (k : Tail) (m v : Text) → Free k m → Free k (m ++ v)
unit_free k m v f = λ x. ap (free k) (append_assoc m v x) ∙ f (v ++ x)

put_leads : (x : Use) (w v u : Text) → Ready x v → Word w → Clear x w → u ≡ v ++ w → Leads (put x w) u
put_leads (a_tag y rs ss t) w v u r i f e = moved e (g.tag y rs ss t v w r.0 r.1 i)
put_leads (a_part c y rs ss t) w v u r i f e = moved (joins w r.0 (c ∷ []) e r.3) (g.part y rs ss t r.0 w c r.1 r.2 i)
put_leads (a_state c y rs ss t) w v u r i f e = moved (joins w r.0 (c ∷ []) e r.3) (g.state y rs ss t r.0 w c r.1 r.2 i)
put_leads (an_element c d y rs ss t) w v u r i f e = moved (joins w r.0 (c ∷ d ∷ []) e r.4) (g.element y rs ss t r.0 w c d r.1 r.2 r.3 i)
put_leads (a_name h b) w v u r i f e = moved e (g.name h b v w r i)
put_leads (a_value k b n vs) w v u r i f e = moved e (valued k a_word b n v _ w vs r (v_word w i) f)
put_leads (a_unit h k b n vs m) w v u r i f e = moved (joins w r.0 m e r.4) (valued k a_word b n r.0 _ (m ++ w) vs r.1 (unit_value h m w r.2 i) (unit_free k m w r.3))

word_fits : (x : Use) (w : Text) (k : Class) → ((z : Text) → apart a_word k z ≡ true) → Fits (put x w) k
word_fits (a_tag y rs ss t) w k f = tt
word_fits (a_part c y rs ss t) w k f = tt
word_fits (a_state c y rs ss t) w k f = tt
word_fits (an_element c d y rs ss t) w k f = tt
word_fits (a_name h b) w k f = tt
word_fits (a_value j b n vs) w k f = f
word_fits (a_unit h j b n vs m) w k f = f

word_more : (x : Use) (w : Text) (k : Class) (c : ℕ) (u : Text) → class c ≡ k → is_more k ≡ true → StandsFor (word x w) u → StandsFor (word x (w ++ c ∷ [])) (u ++ c ∷ [])
word_more x w k c u e m st = (st.0, st.1, w_more w c st.2 (ap is_more e ∙ m), clear_more x w c st.3, grows st.0 w (c ∷ []) st.4)

word_sound : (x : Use) (w : Text) (k : Class) (c : ℕ) (u : Text) → class c ≡ k → StandsFor (word x w) u → Good (word_step x w k c) (u ++ c ∷ [])
word_sound x w (letter h) c u e st = word_more x w (letter h) c u e refl st
word_sound x w digit c u e st = word_more x w digit c u e refl st
word_sound x w dash c u e st = word_more x w dash c u e refl st
word_sound (a_state d y rs ss t) w open_parenthesis c u e st = let r = st.1 in
    (u ++ c ∷ [], (r.0, r.1, r.2, st.2, e, joins (w ++ c ∷ []) r.0 (d ∷ []) (grows st.0 w (c ∷ []) st.4) r.3), i_none, sym (append-nil (u ++ c ∷ [])))
word_sound (a_value k b n vs) w open_parenthesis c u e st = (u ++ c ∷ [], (st.0, st.1, st.2, st.3, e, grows st.0 w (c ∷ []) st.4), i_none, sym (append-nil (u ++ c ∷ [])))
word_sound (a_tag y rs ss t) w open_parenthesis c u e st = tt
word_sound (a_part d y rs ss t) w open_parenthesis c u e st = tt
word_sound (an_element d f y rs ss t) w open_parenthesis c u e st = tt
word_sound (a_name h b) w open_parenthesis c u e st = tt
word_sound (a_unit h k b n vs m) w open_parenthesis c u e st = tt
word_sound x w k c u e st = place_sound (put x w) k c u e (put_leads x w st.0 u st.1 st.2 st.3 st.4) (word_fits x w k (λ z. refl))

colon_sound : (d : ℕ) (w : Where) (rs : List Rule) (ss : List Text) (t : Text) (k : Class) (c : ℕ) (u : Text) → class c ≡ k → StandsFor (colon_in d w rs ss t) u → Good (colon_step d w rs ss t k c) (u ++ c ∷ [])
colon_sound d w rs ss t colon c u e st = ((st.0, st.1, st.2, e, grows st.0 (d ∷ []) (c ∷ []) st.3), λ w. tt)
colon_sound d w rs ss t (letter h) c u e st = (u, st, w_letter c h e, tt, refl)
colon_sound d w rs ss t dash c u e st = (u, st, (λ w. tt), e, refl)
colon_sound d w rs ss t _ c u e st = tt

-- ---- parentheses and quotes

held_leads : (h : Opener) (i v u : Text) (c : ℕ) (b : Bool) → in_brackets h ≡ b → class c ≡ (if b then close_bracket else close_parenthesis) → IsOpened h v → Inside 0 i → u ≡ v ++ i → Leads (enclosed h i c) (u ++ c ∷ []) × Loose (enclosed h i c)
held_leads (asked_of d a w rs ss t x) i v u c true f e r j q = absurd cc
held_leads (asked_of d a w rs ss t x) i v u c false f e r j q = (
  moved (grows v i (c ∷ []) q ∙ (ap (λ z. z ++ (i ++ c ∷ [])) r.5 ∙ (append_assoc r.0 (d ∷ (x ++ a ∷ [])) (i ++ c ∷ []) ∙ ap (λ z. r.0 ++ d ∷ z) (append_assoc x (a ∷ []) (i ++ c ∷ [])))))
      (g.asked w rs ss t r.0 x i d a c r.1 r.2 r.3 r.4 j e),
  tt,
)
held_leads (attribute_of a w rs ss t) i v u c true f e r j q =
    (moved (grows v i (c ∷ []) q ∙ (ap (λ z. z ++ (i ++ c ∷ [])) r.3 ∙ append_assoc r.0 (a ∷ []) (i ++ c ∷ []))) (g.attribute w rs ss t r.0 i a c r.1 r.2 j e), tt)
held_leads (attribute_of a w rs ss t) i v u c false f e r j q = absurd cc
held_leads (call_of a k b n vs x) i v u c true f e r j q = absurd cc
held_leads (call_of a k b n vs x) i v u c false f e r j q = (
  moved (grows v i (c ∷ []) q ∙ (ap (λ z. z ++ (i ++ c ∷ [])) r.5 ∙ (append_assoc r.0 (x ++ a ∷ []) (i ++ c ∷ []) ∙ ap (λ z. r.0 ++ z) (append_assoc x (a ∷ []) (i ++ c ∷ [])))))
      (valued k closed b n r.0 _ _ vs r.1 (v_call x i a c r.2 r.4 j e) (unit_free k x (a ∷ (i ++ c ∷ [])) r.3)),
  λ k x. refl,
)

not_brackets : (h : Opener) → (if in_brackets h then false else true) ≡ true → in_brackets h ≡ false
not_brackets (asked_of d a w rs ss t x) e = refl
not_brackets (attribute_of a w rs ss t) e = absurd cc
not_brackets (call_of a k b n vs x) e = refl

inner_sound : (h : Opener) (n : ℕ) (i : Text) (k : Class) (c : ℕ) (u : Text) → class c ≡ k → is_inner k ≡ true → StandsFor (inside h n i) u → StandsFor (inside h n (i ++ c ∷ [])) (u ++ c ∷ [])
inner_sound h n i k c u e m st = (st.0, st.1, i_other n c i st.2 (ap is_inner e ∙ m), grows st.0 i (c ∷ []) st.3)

inside_sound : (h : Opener) (n : ℕ) (i : Text) (k : Class) (c : ℕ) (u : Text) → class c ≡ k → StandsFor (inside h n i) u → Good (inside_step h n i k c) (u ++ c ∷ [])
inside_sound h n i quote c u e st = (st.0, st.1, st.2, q_opens c e, grows st.0 i (c ∷ []) st.3)
inside_sound h n i open_parenthesis c u e st = (st.0, st.1, i_left n c i st.2 e, grows st.0 i (c ∷ []) st.3)
inside_sound h (suc n) i close_parenthesis c u e st = (st.0, st.1, i_right n c i st.2 e, grows st.0 i (c ∷ []) st.3)
inside_sound h zero i close_parenthesis c u e st = good_when (if in_brackets h then false else true) (at (enclosed h i c)) _ (λ m. held_leads h i st.0 u c false (not_brackets h m) e st.1 st.2 st.3)
inside_sound h zero i close_bracket c u e st = good_when (in_brackets h) (at (enclosed h i c)) _ (λ m. held_leads h i st.0 u c true m e st.1 st.2 st.3)
inside_sound h (suc n) i close_bracket c u e st = tt
inside_sound h n i backslash c u e st = tt
inside_sound h n i open_bracket c u e st = tt
inside_sound h n i open_brace c u e st = tt
inside_sound h n i close_brace c u e st = tt
inside_sound h zero i k c u e st = inner_sound h zero i k c u e refl st
inside_sound h (suc n) i k c u e st = inner_sound h (suc n) i k c u e refl st

same : (c q : ℕ) → nat_eq c q ≡ true → c ≡ q
same c q e = eqb-true c q e

unquoted : (c q : ℕ) → nat_eq c q ≡ false → (if nat_eq c q then false else true) ≡ true
unquoted c q e = ap (λ b. if b then false else true) e

quoted_sound : (q : ℕ) (more s : State) (k : Class) (c : ℕ) (u : Text) → class c ≡ k → (is_plain q (class c) c ≡ true → StandsFor more u) → (c ≡ q → StandsFor s u) → Good (quoted_step q more s k c) u
quoted_sound q more s (space true) c u e f h = tt
quoted_sound q more s backslash c u e f h = tt
quoted_sound q more s quote c u e f h = good_if (nat_eq c q) (Some s) (Some more) u (λ m. h (same c q m)) (λ m. f (ap (λ j. is_plain q j c) e ∙ unquoted c q m))
quoted_sound q more s k c u e f h = f (ap (λ j. is_plain q j c) e)

-- ---- values

minus_sound : (d : ℕ) (t : Tail) (b : Body) (n : Text) (vs : List Text) (k : Class) (c : ℕ) (u : Text) → class c ≡ k → StandsFor (minus d t b n vs) u → Good (minus_step d t b n vs k c) (u ++ c ∷ [])
minus_sound d t b n vs (letter h) c u e st = (st.0, st.1, w_dash d c h st.2 e, (λ x. ap (λ j. apart t j (c ∷ x)) st.2 ∙ st.3 (c ∷ x)), grows st.0 (d ∷ []) (c ∷ []) st.4)
minus_sound d t b n vs digit c u e st = (st.0, st.1, n_minus d c st.2 e, (λ x. ap (λ j. apart t j (c ∷ x)) st.2 ∙ st.3 (c ∷ x)), grows st.0 (d ∷ []) (c ∷ []) st.4)
minus_sound d t b n vs dot c u e st = (st.0, st.1, s_minus d st.2, e, (λ x. ap (λ j. apart t j (c ∷ x)) st.2 ∙ st.3 (c ∷ x)), grows st.0 (d ∷ []) (c ∷ []) st.4)
minus_sound d t b n vs _ c u e st = tt

whole_value : (t : Tail) (b : Body) (n w : Text) (vs : List Text) (u : Text) → StandsFor (whole t b n vs w) u → Leads (values a_whole b n (vs ++ w ∷ [])) u
whole_value t b n w vs u st = moved st.4 (valued t a_whole b n st.0 w w vs st.1 (v_whole w st.2) st.3)

whole_sound : (t : Tail) (b : Body) (n w : Text) (vs : List Text) (k : Class) (c : ℕ) (u : Text) → class c ≡ k → StandsFor (whole t b n vs w) u → Good (whole_step t b n vs w k c) (u ++ c ∷ [])
whole_sound t b n w vs (letter h) c u e st = (u, (st.0, st.1, st.2, st.3, st.4), w_letter c h e, tt, refl)
whole_sound t b n w vs digit c u e st = (st.0, st.1, n_more w c st.2 e, more_free t w c st.3, grows st.0 w (c ∷ []) st.4)
whole_sound t b n w vs dot c u e st = (st.0, st.1, s_whole w st.2, e, more_free t w c st.3, grows st.0 w (c ∷ []) st.4)
whole_sound t b n w vs dash c u e st = (st.0, st.1, st.2, st.3, e, grows st.0 w (c ∷ []) st.4)
whole_sound t b n w vs percent c u e st = (moved (grows st.0 w (c ∷ []) st.4) (valued t closed b n st.0 _ _ vs st.1 (v_percent_whole w c st.2 e) (more_free t w c st.3)), λ k x. refl)
whole_sound t b n w vs k c u e st = place_sound (values a_whole b n (vs ++ w ∷ [])) k c u e (whole_value t b n w vs u st) (λ x. refl)

fraction_value : (t : Tail) (b : Body) (n w : Text) (vs : List Text) (u : Text) → StandsFor (fraction t b n vs w) u → Leads (values a_fraction b n (vs ++ w ∷ [])) u
fraction_value t b n w vs u st = moved st.4 (valued t a_fraction b n st.0 w w vs st.1 (v_fraction w st.2) st.3)

fraction_sound : (t : Tail) (b : Body) (n w : Text) (vs : List Text) (k : Class) (c : ℕ) (u : Text) → class c ≡ k → StandsFor (fraction t b n vs w) u → Good (fraction_step t b n vs w k c) (u ++ c ∷ [])
fraction_sound t b n w vs (letter h) c u e st = (u, (st.0, st.1, st.2, st.3, st.4), w_letter c h e, tt, refl)
fraction_sound t b n w vs digit c u e st = (st.0, st.1, b_more w c st.2 e, more_free t w c st.3, grows st.0 w (c ∷ []) st.4)
fraction_sound t b n w vs dash c u e st = (st.0, st.1, st.2, st.3, e, grows st.0 w (c ∷ []) st.4)
fraction_sound t b n w vs percent c u e st = (moved (grows st.0 w (c ∷ []) st.4) (valued t closed b n st.0 _ _ vs st.1 (v_percent_fraction w c st.2 e) (more_free t w c st.3)), λ k x. refl)
fraction_sound t b n w vs k c u e st = place_sound (values a_fraction b n (vs ++ w ∷ [])) k c u e (fraction_value t b n w vs u st) (λ x. refl)

number_value : (h : Bool) (w : Text) → Number h w → Value w w (tail_of h)
number_value true w i = v_whole w i
number_value false w i = v_fraction w i

-- the `-` of a number stays apart from a number
dash_free : (h : Bool) (k : Class) (d c : ℕ) → class d ≡ dash → class c ≡ k → tok.not_so (is_letter k) ≡ true → Free (tail_of h) (d ∷ c ∷ [])
dash_free true k d c e f i = λ x. ap (λ j. apart a_whole j (c ∷ x)) e ∙ (ap (λ j. tok.not_so (is_letter j)) f ∙ i)
dash_free false k d c e f i = λ x. ap (λ j. apart a_fraction j (c ∷ x)) e ∙ (ap (λ j. tok.not_so (is_letter j)) f ∙ i)

behind_number : {u : Text} (v w : Text) (d c : ℕ) → u ≡ v ++ (w ++ d ∷ []) → u ++ c ∷ [] ≡ (v ++ w) ++ d ∷ c ∷ []
behind_number v w d c e = grows v (w ++ d ∷ []) (c ∷ []) e ∙ (ap (λ z. v ++ z) (append_assoc w (d ∷ []) (c ∷ [])) ∙ sym (append_assoc v w (d ∷ c ∷ [])))

number_dash_sound : (h : Bool) (d : ℕ) (t : Tail) (b : Body) (n w : Text) (vs : List Text) (k : Class) (c : ℕ) (u : Text) → class c ≡ k → StandsFor (number_dash h d t b n vs w) u → Good (number_dash_step h d t b n vs w k c) (u ++ c ∷ [])
number_dash_sound h d t b n w vs (letter i) c u e st = (st.0 ++ w, (st.0, st.1, st.2, st.3, refl), w_dash d c i st.4 e, tt, behind_number st.0 w d c st.5)
number_dash_sound h d t b n w vs digit c u e st = (st.0 ++ w, valued t (tail_of h) b n st.0 w w vs st.1 (number_value h w st.2) st.3, n_minus d c st.4 e, dash_free h digit d c st.4 e refl, behind_number st.0 w d c st.5)
number_dash_sound h d t b n w vs dot c u e st = (st.0 ++ w, valued t (tail_of h) b n st.0 w w vs st.1 (number_value h w st.2) st.3, s_minus d st.4, e, dash_free h dot d c st.4 e refl, behind_number st.0 w d c st.5)
number_dash_sound h d t b n w vs _ c u e st = tt

point_sound : (p : ℕ) (t : Tail) (b : Body) (n w : Text) (vs : List Text) (k : Class) (c : ℕ) (u : Text) → class c ≡ k → StandsFor (point p t b n vs w) u → Good (point_step p t b n vs w k c) (u ++ c ∷ [])
point_sound p t b n w vs digit c u e st =
    (st.0, st.1, b_point w p c st.2 st.3 e, (λ x. ap (free t) (append_assoc w (p ∷ c ∷ []) x ∙ sym (append_assoc w (p ∷ []) (c ∷ x))) ∙ st.4 (c ∷ x)), grows st.0 (w ++ p ∷ []) (c ∷ []) st.5 ∙ ap (λ z. st.0 ++ z) (append_assoc w (p ∷ []) (c ∷ [])))
point_sound p t b n w vs _ c u e st = tt

hash_fits : (k : Class) → is_hex k ≡ false → (x : Text) → apart a_hash k x ≡ true
hash_fits (letter true) h x = absurd cc
hash_fits (letter false) h x = refl
hash_fits digit h x = absurd cc
hash_fits _ h x = refl

hash_begins_sound : (m : ℕ) (t : Tail) (b : Body) (n : Text) (vs : List Text) (k : Class) (c : ℕ) (u : Text) → class c ≡ k → StandsFor (hash_for m t b n vs) u → Good (hash_begins m t b n vs k c) (u ++ c ∷ [])
hash_begins_sound m t b n vs k c u e st = good_when (is_hex k) (hash t b n vs (m ∷ c ∷ [])) _ (λ h. (st.0, st.1, h_one m c st.2 (ap is_hex e ∙ h), (λ x. st.3 (c ∷ x)), grows st.0 (m ∷ []) (c ∷ []) st.4))

hash_sound : (t : Tail) (b : Body) (n w : Text) (vs : List Text) (k : Class) (c : ℕ) (u : Text) → class c ≡ k → StandsFor (hash t b n vs w) u → Good (hash_step t b n vs w k c) (u ++ c ∷ [])
hash_sound t b n w vs k c u e st = good_if (is_hex k) (Some (hash t b n vs (w ++ c ∷ []))) (place (values a_hash b n (vs ++ w ∷ [])) k c) _
    (λ h. (st.0, st.1, h_more w c st.2 (ap is_hex e ∙ h), more_free t w c st.3, grows st.0 w (c ∷ []) st.4))
    (λ h. place_sound (values a_hash b n (vs ++ w ∷ [])) k c u e (moved st.4 (valued t a_hash b n st.0 w w vs st.1 (v_hash w st.2) st.3)) (hash_fits k h))

urgent_value : (m : ℕ) (t : Tail) (b : Body) (n : Text) (vs : List Text) (u : Text) → StandsFor (urgent m t b n vs []) u → Leads (values a_word b n (vs ++ (m ∷ important) ∷ [])) u
urgent_value m t b n vs u st = moved st.6 (valued t a_word b n st.0 _ (m ∷ st.1) vs st.2 (v_important m st.1 st.3 (sym (append-nil (lowered st.1)) ∙ st.4)) (λ x. st.5 (st.1 ++ x)))

urgent_sound : (m : ℕ) (t : Tail) (b : Body) (n : Text) (vs : List Text) (rest : Text) (k : Class) (c : ℕ) (u : Text) → class c ≡ k → StandsFor (urgent m t b n vs rest) u → Good (urgent_step m t b n vs rest k c) (u ++ c ∷ [])
urgent_sound m t b n vs (l ∷ rest) k c u e st = good_when (nat_eq (lower c) l) (urgent m t b n vs rest) _ (λ h.
    (st.0, st.1 ++ c ∷ [], st.2, st.3, ap (λ z. z ++ rest) (map-append lower st.1 (c ∷ [])) ∙ (append_assoc (lowered st.1) (lower c ∷ []) rest ∙ (ap (λ z. lowered st.1 ++ z ∷ rest) (eqb-true (lower c) l h) ∙ st.4)), st.5, grows st.0 (m ∷ st.1) (c ∷ []) st.6))
urgent_sound m t b n vs [] (letter h) c u e st = tt
urgent_sound m t b n vs [] digit c u e st = tt
urgent_sound m t b n vs [] dash c u e st = tt
urgent_sound m t b n vs [] open_parenthesis c u e st = tt
urgent_sound m t b n vs [] k c u e st = place_sound (values a_word b n (vs ++ (m ∷ important) ∷ [])) k c u e (urgent_value m t b n vs u st) (λ x. refl)

-- ---- all steps

loose_fits : (p : Place) (k : Class) → Loose p → Fits p k
loose_fits (selecting w rs ss t) k f = tt
loose_fits (block h b) k f = tt
loose_fits (named b n) k f = tt
loose_fits (values t b n vs) k f = f k

pub step_sound : (s : State) (k : Class) (c : ℕ) (u : Text) → class c ≡ k → StandsFor s u → Good (step s k c) (u ++ c ∷ [])
unfolding step
step_sound (at p) k c u e st = place_sound p k c u e st.0 (loose_fits p k st.1)
step_sound (slashed s p) k c u e st = slash_sound s p k c u e st
step_sound (commented h p) k c u e st = comment_sound h p k c u e st
step_sound (word_for x) k c u e st = begins_sound x k c u e st
step_sound (dash_for d x) k c u e st = dash_sound d x k c u e st
step_sound (word x w) k c u e st = word_sound x w k c u e st
step_sound (colon_in d w rs ss t) k c u e st = colon_sound d w rs ss t k c u e st
step_sound (inside h n i) k c u e st = inside_sound h n i k c u e st
step_sound (quoted_in h n i q w) k c u e st = quoted_sound q (quoted_in h n i q (w ++ c ∷ [])) (inside h n (i ++ (w ++ c ∷ []))) k c _ e
    (λ m. (st.0, st.1, st.2, q_more q c w st.3 m, grows st.0 (i ++ w) (c ∷ []) st.4 ∙ ap (λ z. st.0 ++ z) (append_assoc i w (c ∷ []))))
    (λ m. (st.0, st.1, subst (λ z. Inside n (i ++ (w ++ z ∷ []))) (sym m) (i_text n q i w st.2 st.3), grows st.0 (i ++ w) (c ∷ []) st.4 ∙ ap (λ z. st.0 ++ z) (append_assoc i w (c ∷ []))))
step_sound (quoted t b n vs q w) k c u e st = quoted_sound q (quoted t b n vs q (w ++ c ∷ [])) (at (values closed b n (vs ++ (w ++ c ∷ []) ∷ []))) k c _ e
    (λ m. (st.0, st.1, q_more q c w st.2 m, more_free t w c st.3, grows st.0 w (c ∷ []) st.4))
    (λ m. (moved (grows st.0 w (c ∷ []) st.4) (valued t closed b n st.0 _ _ vs st.1 (subst (λ z. Value (w ++ z ∷ []) (w ++ z ∷ []) closed) (sym m) (v_text w q st.2)) (more_free t w c st.3)), λ k x. refl))
step_sound (minus d t b n vs) k c u e st = minus_sound d t b n vs k c u e st
step_sound (whole t b n vs w) k c u e st = whole_sound t b n w vs k c u e st
step_sound (fraction t b n vs w) k c u e st = fraction_sound t b n w vs k c u e st
step_sound (number_dash h d t b n vs w) k c u e st = number_dash_sound h d t b n w vs k c u e st
step_sound (point p t b n vs w) k c u e st = point_sound p t b n w vs k c u e st
step_sound (hash_for m t b n vs) k c u e st = hash_begins_sound m t b n vs k c u e st
step_sound (urgent m t b n vs rest) k c u e st = urgent_sound m t b n vs rest k c u e st
step_sound (hash t b n vs w) k c u e st = hash_sound t b n w vs k c u e st

rules_of : Answer → List Rule
rules_of (sheet rs) = rs
rules_of _ = []

pub sheet_is : (rs qs : List Rule) → sheet rs ≡ sheet qs → rs ≡ qs
unfolding rules_of
sheet_is rs qs e = ap rules_of e

ending_sound : (s : State) (u : Text) (rs : List Rule) → StandsFor s u → ending s ≡ sheet rs → Spells rs u
ending_sound (at (selecting wanted qs [] [])) u rs st e = subst (λ z. Spells z u) (sheet_is qs rs e) st.0
ending_sound _ u rs st e = absurd cc

went : (f : State → Answer) (u : Text) (o : Option State) (rs : List Rule) → goes f u o ≡ sheet rs → (s : State) × (o ≡ Some s) × (f s ≡ sheet rs)
went f u None rs e = absurd cc
went f u (Some s) rs e = (s, refl, e)

pub sound : (k : Text) (s : State) (u : Text) (rs : List Rule) → StandsFor s u → run k s ≡ sheet rs → Spells rs (u ++ k)
unfolding run
sound [] s u rs st e = rw (append-nil u) (ending_sound s u rs st e)
sound (c ∷ k) s u rs st e =
    let w = went (run k) (c ∷ k) (step s (class c) c) rs e in
    rw (sym (append_assoc u (c ∷ []) k)) (sound k w.0 (u ++ c ∷ []) rs (subst (λ o. Good o (u ++ c ∷ [])) w.1 (step_sound s (class c) c u refl st)) w.2)

pub read_spelled : (u : Text) (rs : List Rule) → read u ≡ sheet rs → Spells rs u
read_spelled u rs e = sound u (at (selecting wanted [] [] [])) [] rs (g.begins, tt) e
