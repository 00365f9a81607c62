-- What is spelled is read, whatever follows that stays apart.
use Rattle.std.proofs.Common.{◌≡◌, ℕ, suc, Bool, true, false, List, [], ◌∷◌, ◌++◌, Some, refl, sym, ap, ◌∙◌, append_assoc, nat_eq, drop}
use Rattle.std.specs.Prelude.{if◌then◌else◌}
use Rattle.std.proofs.lemmas.Bool.{eq-eqb}
use Rattle.css_grammar.specs.Characters.{Class, class, lower, exclamation, letter, digit, dash, space, dot, number_sign, star, slash, comma, percent, open_brace, close_brace, open_parenthesis, close_parenthesis, open_bracket, close_bracket, quote, backslash, is_letter, is_more, is_hex, is_inner, is_plain}
use Rattle.css_grammar.specs.Sheets.{Text, Rule, Body, lowered}
use Rattle.css_grammar.specs.Tokens.{not_so, Tail, a_word, a_whole, a_fraction, a_hash, a_slash, Word, w_letter, w_dash, w_more, Whole, n_digit, n_minus, n_more, Start, s_none, s_minus, s_whole, Fraction, b_point, b_more, Hash, h_one, h_more, Quoted, q_opens, q_more, Inside, i_none, i_other, i_text, i_left, i_right, apart, free, begins_letter, Value, v_word, v_call, v_whole, v_fraction, v_percent_whole, v_percent_fraction, v_unit_whole, v_unit_fraction, v_hash, v_text, v_comma, v_slash, important, v_important}
use Rattle.css_grammar.specs.Grammar.{Where, selecting, block, values, may_tag}
use Rattle.css_grammar.specs.Machine.{Use, a_tag, a_part, a_state, an_element, a_name, a_value, a_unit, put, Opener, call_of, State, at, slashed, word_for, dash_for, word, colon_in, inside, quoted_in, quoted, minus, whole, fraction, number_dash, point, hash_for, hash, when, place, quoted_step, tail_of, urgent, step, ending, goes, run}

pub takes : (s : State) {r : State} (c : ℕ) (j : Class) (k : Text) → class c ≡ j → step s j c ≡ Some r → run (c ∷ k) s ≡ run k r
unfolding run
takes s {r} c j k e f = ap (λ i. goes (run k) (c ∷ k) (step s i c)) e ∙ ap (goes (run k) (c ∷ k)) f

-- two states that do the same with a character
pub alike : (s r : State) (c : ℕ) (j : Class) (k : Text) → class c ≡ j → step s j c ≡ step r j c → run (c ∷ k) s ≡ run (c ∷ k) r
unfolding run
alike s r c j k e f = ap (λ i. goes (run k) (c ∷ k) (step s i c)) e ∙ (ap (goes (run k) (c ∷ k)) f ∙ sym (ap (λ i. goes (run k) (c ∷ k) (step r i c)) e))

pub over : (u w k : Text) (s : State) → run ((u ++ w) ++ k) s ≡ run (u ++ (w ++ k)) s
over u w k s = ap (λ z. run z s) (append_assoc u w k)

-- ---- words

abbrev pub Opens : State → Use → Type 0
Opens s x = ((c : ℕ) (h : Bool) → step s (letter h) c ≡ Some (word x (c ∷ [])))
    × ((d c : ℕ) (h : Bool) → (r : State) × (step s dash d ≡ Some r) × (step r (letter h) c ≡ Some (word x (d ∷ c ∷ []))))

more_goes : (x : Use) (w : Text) (j : Class) (c : ℕ) → is_more j ≡ true → step (word x w) j c ≡ Some (word x (w ++ c ∷ []))
unfolding step
more_goes x w (letter h) c m = refl
more_goes x w digit c m = refl
more_goes x w dash c m = refl
more_goes x w _ c m = absurd cc

pub word_read : (x : Use) (s : State) (w k : Text) → Word w → Opens s x → run (w ++ k) s ≡ run k (word x w)
word_read x s _ k (w_letter c h e) o = takes s c (letter h) k e (o.0 c h)
word_read x s _ k (w_dash d c h e f) o = let r = o.1 d c h in takes s d dash (c ∷ k) e r.1 ∙ takes r.0 c (letter h) k f r.2
word_read x s _ k (w_more w c i m) o = over w (c ∷ []) k s ∙ word_read x s w (c ∷ k) i o ∙ takes (word x w) c (class c) k refl (more_goes x w (class c) c m)

word_closes : (x : Use) (w : Text) (j : Class) (c : ℕ) (k : Text) → apart a_word j k ≡ true → step (word x w) j c ≡ step (at (put x w)) j c
unfolding step
word_closes x w (letter h) c k f = absurd cc
word_closes x w digit c k f = absurd cc
word_closes x w dash c k f = absurd cc
word_closes x w open_parenthesis c k f = absurd cc
word_closes x w _ c k f = refl

word_part : (x : Use) (w : Text) → ending (word x w) ≡ ending (at (put x w))
word_part (a_tag y rs ss t) w = refl
word_part (a_part c y rs ss t) w = refl
word_part (a_state c y rs ss t) w = refl
word_part (an_element c d y rs ss t) w = refl
word_part (a_name h b) w = refl
word_part (a_value k b n vs) w = refl
word_part (a_unit h k b n vs m) w = refl

pub word_ends : (x : Use) (w k : Text) → free a_word k ≡ true → run k (word x w) ≡ run k (at (put x w))
unfolding run
word_ends x w [] f = word_part x w
word_ends x w (c ∷ k) f = alike (word x w) (at (put x w)) c (class c) k refl (word_closes x w (class c) c k f)

pub opens_word : (x : Use) → Opens (word_for x) x
unfolding step
opens_word x = ((λ c h. refl), (λ d c h. (dash_for d x, refl, refl)))

pub opens_tag : (w : Where) (rs : List Rule) (ss : List Text) (t : Text) → may_tag w ≡ true → Opens (at (selecting w rs ss t)) (a_tag w rs ss t)
unfolding step
opens_tag w rs ss t m = ((λ c h. ap (λ b. when b (word (a_tag w rs ss t) (c ∷ []))) m), (λ d c h. (dash_for d (a_tag w rs ss t), ap (λ b. when b (dash_for d (a_tag w rs ss t))) m, refl)))

pub opens_name : (h : Bool) (b : Body) → Opens (at (block h b)) (a_name h b)
unfolding step
opens_name h b = ((λ c i. refl), (λ d c i. (dash_for d (a_name h b), refl, refl)))

pub opens_state : (e : ℕ) (w : Where) (rs : List Rule) (ss : List Text) (t : Text) → Opens (colon_in e w rs ss t) (a_state e w rs ss t)
unfolding step
opens_state e w rs ss t = ((λ c h. refl), (λ d c h. (dash_for d (a_state e w rs ss t), refl, refl)))

pub opens_value : (k : Tail) (b : Body) (n : Text) (vs : List Text) → Opens (at (values k b n vs)) (a_value k b n vs)
unfolding step
opens_value k b n vs = ((λ c h. refl), (λ d c h. (minus d k b n vs, refl, refl)))

pub opens_unit_whole : (k : Tail) (b : Body) (n w : Text) (vs : List Text) → Opens (whole k b n vs w) (a_unit true k b n vs w)
unfolding step
opens_unit_whole k b n w vs = ((λ c h. refl), (λ d c h. (number_dash true d k b n vs w, refl, refl)))

pub opens_unit_fraction : (k : Tail) (b : Body) (n w : Text) (vs : List Text) → Opens (fraction k b n vs w) (a_unit false k b n vs w)
unfolding step
opens_unit_fraction k b n w vs = ((λ c h. refl), (λ d c h. (number_dash false d k b n vs w, refl, refl)))

-- ---- quotes and parentheses

pub quote_of : (q : ℕ) (w : Text) → Quoted q w → class q ≡ quote
quote_of q _ (q_opens p e) = e
quote_of q _ (q_more p c w i m) = quote_of q w i

plain_goes : (q : ℕ) (more s : State) (j : Class) (c : ℕ) → is_plain q j c ≡ true → quoted_step q more s j c ≡ Some more
plain_goes q more s (space true) c m = absurd cc
plain_goes q more s backslash c m = absurd cc
plain_goes q more s quote c m = other_quote (nat_eq c q) m
  where
    other_quote : (b : Bool) → (if b then false else true) ≡ true → (if b then Some s else Some more) ≡ Some more
    other_quote true e = absurd cc
    other_quote false e = refl
plain_goes q more s _ c m = refl

pub quote_closes : (q : ℕ) (more s : State) → quoted_step q more s quote q ≡ Some s
quote_closes q more s = ap (λ b. if b then Some s else Some more) (eq-eqb q q refl)

quoted_in_read : (h : Opener) (n : ℕ) (i : Text) (q : ℕ) (w k : Text) → Quoted q w → run (w ++ k) (inside h n i) ≡ run k (quoted_in h n i q w)
unfolding step
quoted_in_read h n i q _ k (q_opens p e) = takes (inside h n i) q quote k e refl
quoted_in_read h n i q _ k (q_more p c w j m) = over w (c ∷ []) k (inside h n i) ∙ quoted_in_read h n i q w (c ∷ k) j ∙ takes (quoted_in h n i q w) c (class c) k refl (plain_goes q _ _ (class c) c m)

inner_goes : (h : Opener) (n : ℕ) (i : Text) (j : Class) (c : ℕ) → is_inner j ≡ true → step (inside h n i) j c ≡ Some (inside h n (i ++ c ∷ []))
unfolding step
inner_goes h n i quote c m = absurd cc
inner_goes h n i backslash c m = absurd cc
inner_goes h n i open_bracket c m = absurd cc
inner_goes h n i close_bracket c m = absurd cc
inner_goes h n i open_brace c m = absurd cc
inner_goes h n i close_brace c m = absurd cc
inner_goes h n i open_parenthesis c m = absurd cc
inner_goes h n i close_parenthesis c m = absurd cc
inner_goes h n i _ c m = refl

pub inside_read : (h : Opener) (n : ℕ) (i k : Text) → Inside n i → run (i ++ k) (inside h 0 []) ≡ run k (inside h n i)
unfolding step
inside_read h _ _ k i_none = refl
inside_read h n _ k (i_other m c i j e) = over i (c ∷ []) k (inside h 0 []) ∙ inside_read h n i (c ∷ k) j ∙ takes (inside h n i) c (class c) k refl (inner_goes h n i (class c) c e)
inside_read h n _ k (i_text m q i v j e) = over i (v ++ q ∷ []) k (inside h 0 []) ∙ inside_read h n i ((v ++ q ∷ []) ++ k) j ∙ over v (q ∷ []) k (inside h n i) ∙ quoted_in_read h n i q v (q ∷ k) e
    ∙ takes (quoted_in h n i q v) q quote k (quote_of q v e) (quote_closes q _ _)
inside_read h _ _ k (i_left m c i j e) = over i (c ∷ []) k (inside h 0 []) ∙ inside_read h m i (c ∷ k) j ∙ takes (inside h m i) c open_parenthesis k e refl
inside_read h n _ k (i_right m c i j e) = over i (c ∷ []) k (inside h 0 []) ∙ inside_read h (suc n) i (c ∷ k) j ∙ takes (inside h (suc n) i) c close_parenthesis k e refl

quoted_read : (t : Tail) (b : Body) (n : Text) (vs : List Text) (q : ℕ) (w k : Text) → Quoted q w → run (w ++ k) (at (values t b n vs)) ≡ run k (quoted t b n vs q w)
unfolding step
quoted_read t b n vs q _ k (q_opens p e) = takes (at (values t b n vs)) q quote k e refl
quoted_read t b n vs q _ k (q_more p c w j m) = over w (c ∷ []) k (at (values t b n vs)) ∙ quoted_read t b n vs q w (c ∷ k) j ∙ takes (quoted t b n vs q w) c (class c) k refl (plain_goes q _ _ (class c) c m)

-- ---- numbers

whole_read : (t : Tail) (b : Body) (n : Text) (vs : List Text) (w k : Text) → Whole w → run (w ++ k) (at (values t b n vs)) ≡ run k (whole t b n vs w)
unfolding step
whole_read t b n vs _ k (n_digit c e) = takes (at (values t b n vs)) c digit k e refl
whole_read t b n vs _ k (n_minus d c e f) = takes (at (values t b n vs)) d dash (c ∷ k) e refl ∙ takes (minus d t b n vs) c digit k f refl
whole_read t b n vs _ k (n_more w c i e) = over w (c ∷ []) k (at (values t b n vs)) ∙ whole_read t b n vs w (c ∷ k) i ∙ takes (whole t b n vs w) c digit k e refl

start_read : (t : Tail) (b : Body) (n : Text) (vs : List Text) (w k : Text) (p : ℕ) → Start w → class p ≡ dot → run (w ++ p ∷ k) (at (values t b n vs)) ≡ run k (point p t b n vs w)
unfolding step
start_read t b n vs _ k p s_none e = takes (at (values t b n vs)) p dot k e refl
start_read t b n vs _ k p (s_minus d f) e = takes (at (values t b n vs)) d dash (p ∷ k) f refl ∙ takes (minus d t b n vs) p dot k e refl
start_read t b n vs _ k p (s_whole v i) e = whole_read t b n vs v (p ∷ k) i ∙ takes (whole t b n vs v) p dot k e refl

fraction_read : (t : Tail) (b : Body) (n : Text) (vs : List Text) (w k : Text) → Fraction w → run (w ++ k) (at (values t b n vs)) ≡ run k (fraction t b n vs w)
unfolding step
fraction_read t b n vs _ k (b_point w p c i e f) = over w (p ∷ c ∷ []) k (at (values t b n vs)) ∙ start_read t b n vs w (c ∷ k) p i e ∙ takes (point p t b n vs w) c digit k f refl
fraction_read t b n vs _ k (b_more w c i e) = over w (c ∷ []) k (at (values t b n vs)) ∙ fraction_read t b n vs w (c ∷ k) i ∙ takes (fraction t b n vs w) c digit k e refl

-- a `-` behind a number that no letter follows is that of the next value
number_minus : (h : Bool) (d : ℕ) (t : Tail) (b : Body) (n w : Text) (vs : List Text) (j : Class) (c : ℕ) → not_so (is_letter j) ≡ true → step (number_dash h d t b n vs w) j c ≡ step (minus d (tail_of h) b n (vs ++ w ∷ [])) j c
unfolding step
number_minus h d t b n w vs (letter i) c f = absurd cc
number_minus h d t b n w vs _ c f = refl

number_dashes : (h : Bool) (d : ℕ) (t : Tail) (b : Body) (n w : Text) (vs : List Text) (k : Text) → not_so (begins_letter k) ≡ true → run k (number_dash h d t b n vs w) ≡ run k (minus d (tail_of h) b n (vs ++ w ∷ []))
unfolding run
number_dashes h d t b n w vs [] f = refl
number_dashes h d t b n w vs (c ∷ k) f = alike (number_dash h d t b n vs w) (minus d (tail_of h) b n (vs ++ w ∷ [])) c (class c) k refl (number_minus h d t b n w vs (class c) c f)

whole_ends_at : (t : Tail) (b : Body) (n w : Text) (vs : List Text) (c : ℕ) (j : Class) (k : Text) → class c ≡ j → apart a_whole j k ≡ true → run (c ∷ k) (whole t b n vs w) ≡ run (c ∷ k) (at (values a_whole b n (vs ++ w ∷ [])))
unfolding step
whole_ends_at t b n w vs c (letter h) k e f = absurd cc
whole_ends_at t b n w vs c digit k e f = absurd cc
whole_ends_at t b n w vs c dot k e f = absurd cc
whole_ends_at t b n w vs c percent k e f = absurd cc
whole_ends_at t b n w vs c dash k e f = takes (whole t b n vs w) c dash k e refl ∙ number_dashes true c t b n w vs k f ∙ sym (takes (at (values a_whole b n (vs ++ w ∷ []))) c dash k e refl)
whole_ends_at t b n w vs c j k e f = alike (whole t b n vs w) (at (values a_whole b n (vs ++ w ∷ []))) c j k e refl

whole_ends : (t : Tail) (b : Body) (n w : Text) (vs : List Text) (k : Text) → free a_whole k ≡ true → run k (whole t b n vs w) ≡ run k (at (values a_whole b n (vs ++ w ∷ [])))
unfolding run
whole_ends t b n w vs [] f = refl
whole_ends t b n w vs (c ∷ k) f = whole_ends_at t b n w vs c (class c) k refl f

fraction_ends_at : (t : Tail) (b : Body) (n w : Text) (vs : List Text) (c : ℕ) (j : Class) (k : Text) → class c ≡ j → apart a_fraction j k ≡ true → run (c ∷ k) (fraction t b n vs w) ≡ run (c ∷ k) (at (values a_fraction b n (vs ++ w ∷ [])))
unfolding step
fraction_ends_at t b n w vs c (letter h) k e f = absurd cc
fraction_ends_at t b n w vs c digit k e f = absurd cc
fraction_ends_at t b n w vs c percent k e f = absurd cc
fraction_ends_at t b n w vs c dash k e f = takes (fraction t b n vs w) c dash k e refl ∙ number_dashes false c t b n w vs k f ∙ sym (takes (at (values a_fraction b n (vs ++ w ∷ []))) c dash k e refl)
fraction_ends_at t b n w vs c j k e f = alike (fraction t b n vs w) (at (values a_fraction b n (vs ++ w ∷ []))) c j k e refl

fraction_ends : (t : Tail) (b : Body) (n w : Text) (vs : List Text) (k : Text) → free a_fraction k ≡ true → run k (fraction t b n vs w) ≡ run k (at (values a_fraction b n (vs ++ w ∷ [])))
unfolding run
fraction_ends t b n w vs [] f = refl
fraction_ends t b n w vs (c ∷ k) f = fraction_ends_at t b n w vs c (class c) k refl f

hash_read : (t : Tail) (b : Body) (n : Text) (vs : List Text) (w k : Text) → Hash w → run (w ++ k) (at (values t b n vs)) ≡ run k (hash t b n vs w)
unfolding step
hash_read t b n vs _ k (h_one m c e f) = takes (at (values t b n vs)) m number_sign (c ∷ k) e refl ∙ takes (hash_for m t b n vs) c (class c) k refl (ap (λ i. when i (hash t b n vs (m ∷ c ∷ []))) f)
hash_read t b n vs _ k (h_more w c i f) = over w (c ∷ []) k (at (values t b n vs)) ∙ hash_read t b n vs w (c ∷ k) i ∙ takes (hash t b n vs w) c (class c) k refl (ap (λ i. if i then Some (hash t b n vs (w ++ c ∷ [])) else place (values a_hash b n (vs ++ w ∷ [])) (class c) c) f)

no_hex : (j : Class) (k : Text) → apart a_hash j k ≡ true → is_hex j ≡ false
no_hex (letter true) k f = absurd cc
no_hex (letter false) k f = refl
no_hex digit k f = absurd cc
no_hex _ k f = refl

hash_ends : (t : Tail) (b : Body) (n w : Text) (vs : List Text) (k : Text) → free a_hash k ≡ true → run k (hash t b n vs w) ≡ run k (at (values a_hash b n (vs ++ w ∷ [])))
unfolding run step
hash_ends t b n w vs [] f = refl
hash_ends t b n w vs (c ∷ k) f = alike (hash t b n vs w) (at (values a_hash b n (vs ++ w ∷ []))) c (class c) k refl (ap (λ i. if i then Some (hash t b n vs (w ++ c ∷ [])) else place (values a_hash b n (vs ++ w ∷ [])) (class c) c) (no_hex (class c) k f))

slash_other : (s : ℕ) (t : Tail) (b : Body) (n : Text) (vs : List Text) (j : Class) (c : ℕ) (k : Text) → apart a_slash j k ≡ true → step (slashed s (values t b n vs)) j c ≡ step (at (values a_slash b n (vs ++ (s ∷ []) ∷ []))) j c
unfolding step
slash_other s t b n vs star c k f = absurd cc
slash_other s t b n vs _ c k f = refl

slash_ends : (s : ℕ) (t : Tail) (b : Body) (n : Text) (vs : List Text) (k : Text) → free a_slash k ≡ true → run k (slashed s (values t b n vs)) ≡ run k (at (values a_slash b n (vs ++ (s ∷ []) ∷ [])))
unfolding run
slash_ends s t b n vs [] f = refl
slash_ends s t b n vs (c ∷ k) f = alike (slashed s (values t b n vs)) (at (values a_slash b n (vs ++ (s ∷ []) ∷ []))) c (class c) k refl (slash_other s t b n vs (class c) c k f)

pub urgent_read : (m : ℕ) (t : Tail) (b : Body) (n : Text) (vs : List Text) (w rest k : Text) → lowered w ≡ rest → run (w ++ k) (urgent m t b n vs rest) ≡ run k (urgent m t b n vs [])
unfolding step
urgent_read m t b n vs [] [] k e = refl
urgent_read m t b n vs [] (l ∷ rest) k e = absurd cc
urgent_read m t b n vs (c ∷ w) [] k e = absurd cc
urgent_read m t b n vs (c ∷ w) (l ∷ rest) k e = takes (urgent m t b n vs (l ∷ rest)) c (class c) (w ++ k) refl (ap (λ i. when i (urgent m t b n vs rest)) (eq-eqb (lower c) l (ap (first_or 0) e)))
    ∙ urgent_read m t b n vs w rest k (ap (drop 1) e)
  where
    first_or : ℕ → Text → ℕ
    first_or d [] = d
    first_or d (x ∷ xs) = x

urgent_closes : (m : ℕ) (t : Tail) (b : Body) (n : Text) (vs : List Text) (j : Class) (c : ℕ) (k : Text) → apart a_word j k ≡ true → step (urgent m t b n vs []) j c ≡ step (at (values a_word b n (vs ++ (m ∷ important) ∷ []))) j c
unfolding step
urgent_closes m t b n vs (letter h) c k f = absurd cc
urgent_closes m t b n vs digit c k f = absurd cc
urgent_closes m t b n vs dash c k f = absurd cc
urgent_closes m t b n vs open_parenthesis c k f = absurd cc
urgent_closes m t b n vs _ c k f = refl

urgent_ends : (m : ℕ) (t : Tail) (b : Body) (n : Text) (vs : List Text) (k : Text) → free a_word k ≡ true → run k (urgent m t b n vs []) ≡ run k (at (values a_word b n (vs ++ (m ∷ important) ∷ [])))
unfolding run
urgent_ends m t b n vs [] f = refl
urgent_ends m t b n vs (c ∷ k) f = alike (urgent m t b n vs []) (at (values a_word b n (vs ++ (m ∷ important) ∷ []))) c (class c) k refl (urgent_closes m t b n vs (class c) c k f)

-- ---- values

pub value_read : (t j : Tail) (b : Body) (n v w : Text) (vs : List Text) (k : Text) → Value v w j → free j k ≡ true → run (w ++ k) (at (values t b n vs)) ≡ run k (at (values j b n (vs ++ v ∷ [])))
unfolding step
value_read t _ b n _ _ vs k (v_word w i) f = word_read (a_value t b n vs) (at (values t b n vs)) w k i (opens_value t b n vs) ∙ word_ends (a_value t b n vs) w k f
value_read t _ b n _ _ vs k (v_call w i a c o e p q) f =
    over w (a ∷ (i ++ c ∷ [])) k (at (values t b n vs)) ∙ word_read (a_value t b n vs) (at (values t b n vs)) w (a ∷ ((i ++ c ∷ []) ++ k)) o (opens_value t b n vs) ∙ takes (word (a_value t b n vs) w) a open_parenthesis ((i ++ c ∷ []) ++ k) e refl
    ∙ over i (c ∷ []) k (inside (call_of a t b n vs w) 0 []) ∙ inside_read (call_of a t b n vs w) 0 i (c ∷ k) p ∙ takes (inside (call_of a t b n vs w) 0 i) c close_parenthesis k q refl
value_read t _ b n _ _ vs k (v_whole w i) f = whole_read t b n vs w k i ∙ whole_ends t b n w vs k f
value_read t _ b n _ _ vs k (v_fraction w i) f = fraction_read t b n vs w k i ∙ fraction_ends t b n w vs k f
value_read t _ b n _ _ vs k (v_percent_whole w c i e) f = over w (c ∷ []) k (at (values t b n vs)) ∙ whole_read t b n vs w (c ∷ k) i ∙ takes (whole t b n vs w) c percent k e refl
value_read t _ b n _ _ vs k (v_percent_fraction w c i e) f = over w (c ∷ []) k (at (values t b n vs)) ∙ fraction_read t b n vs w (c ∷ k) i ∙ takes (fraction t b n vs w) c percent k e refl
value_read t _ b n _ _ vs k (v_unit_whole w x i o) f = over w x k (at (values t b n vs)) ∙ whole_read t b n vs w (x ++ k) i ∙ word_read (a_unit true t b n vs w) (whole t b n vs w) x k o (opens_unit_whole t b n w vs) ∙ word_ends (a_unit true t b n vs w) x k f
value_read t _ b n _ _ vs k (v_unit_fraction w x i o) f = over w x k (at (values t b n vs)) ∙ fraction_read t b n vs w (x ++ k) i ∙ word_read (a_unit false t b n vs w) (fraction t b n vs w) x k o (opens_unit_fraction t b n w vs) ∙ word_ends (a_unit false t b n vs w) x k f
value_read t _ b n _ _ vs k (v_hash w i) f = hash_read t b n vs w k i ∙ hash_ends t b n w vs k f
value_read t _ b n _ _ vs k (v_text w q i) f = over w (q ∷ []) k (at (values t b n vs)) ∙ quoted_read t b n vs q w (q ∷ k) i ∙ takes (quoted t b n vs q w) q quote k (quote_of q w i) (quote_closes q _ _)
value_read t _ b n _ _ vs k (v_important c w e i) f = takes (at (values t b n vs)) c exclamation (w ++ k) e refl ∙ urgent_read c t b n vs w important k i ∙ urgent_ends c t b n vs k f
value_read t _ b n _ _ vs k (v_comma c e) f = takes (at (values t b n vs)) c comma k e refl
value_read t _ b n _ _ vs k (v_slash c e) f = takes (at (values t b n vs)) c slash k e refl ∙ slash_ends c t b n vs k f
