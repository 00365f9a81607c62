-- What a table says of a token that it has.
use Rattle.std.proofs.Common.{◌≡◌, ◌⊎◌, Bool, true, false, cond, not, ◌&&◌, List, [], ◌∷◌, Option, Some, None, refl, sym, ap, inl, inr}
use Rattle.std.proofs.lemmas.Bool.{eqb-true}
use Rattle.es3_tree.specs.Token.{Token, name, word, punct, num, text}
use Rattle.es3_grammar.specs.Spots.{Spot, is, same_token, look_up, query, open_brace, open_paren, open_bracket, function_word, new_word, this_word, null_word, true_word, false_word, in_word}
use Rattle.es3_grammar.specs.Levels.{Infix, joins, a_query, a_step, infixes, infix_of, is_trailer, unary_sign, step_sign, Opening, a_this, a_null, a_bool, a_paren, an_array, an_object, a_function, a_new, a_prefix, a_prefix_step, openings}

pub chosen : {A : Type 0} (b : Bool) (x y z : A) → cond b x y ≡ z → ((b ≡ true) × (x ≡ z)) ⊎ ((b ≡ false) × (y ≡ z))
chosen true x y z e = inl (refl, e)
chosen false x y z e = inr (refl, e)

pub some_is : {A : Type 0} (x y : A) → Some x ≡ Some y → x ≡ y
some_is x y e = cc

pub none_some : {A C : Type 0} (y : A) → None ≡ Some y → C
none_some y e = absurd cc

pub same_is : (t u : Token) → same_token t u ≡ true → u ≡ t
same_is (word n) (word m) e = ap word (eqb-true m n e)
same_is (punct n) (punct m) e = ap punct (eqb-true m n e)
same_is _ _ e = absurd cc

pub spot_is : (t : Token) (c : Spot) → is t c ≡ true → c ≡ (t, c.1)
spot_is t c e = ap (λ (u : Token). (u, c.1)) (same_is t c.0 e)

-- all rows pass
abbrev pub every : {A : Type 0} → (Token → A → Bool) → List (Token × A) → Bool
every p [] = true
every p (r ∷ rs) = cond (p r.0 r.1) (every p rs) false

pub first_passes : (a b : Bool) → cond a b false ≡ true → (a ≡ true) × (b ≡ true)
first_passes true b e = (refl, e)
first_passes false b e = absurd cc

-- what all rows pass, what is found passes
pub looked_up : {A : Type 0} (p : Token → A → Bool) (rows : List (Token × A)) (t : Token) (m : A) → every p rows ≡ true → look_up rows t ≡ Some m → p t m ≡ true
unfolding look_up
looked_up p [] t m h e = none_some m e
looked_up p (r ∷ rs) t m h e =
    let g = first_passes (p r.0 r.1) (every p rs) h in
    elim (chosen (same_token r.0 t) (Some r.1) (look_up rs t) (Some m) e) [
      | inl q ↦ rw (same_is r.0 t q.0, sym (some_is r.1 m q.1)) g.0
      | inr q ↦ looked_up p rs t m g.1 q.1
    ]

pub infix_found : (b : Bool) (t : Token) (i : Infix) → infix_of b t ≡ Some i → look_up infixes t ≡ Some i
infix_found b t i e = elim (chosen (same_token in_word t && b) None (look_up infixes t) (Some i) e) [ inl q ↦ none_some i q.1 | inr q ↦ q.1 ]

pub not_false : (b : Bool) → not b ≡ true → b ≡ false
not_false false e = refl
not_false true e = absurd cc

-- an operator behind a part begins no member, item or call
pub no_trailer : (b : Bool) (t : Token) (i : Infix) → infix_of b t ≡ Some i → is_trailer t ≡ false
unfolding look_up
no_trailer b t i e = not_false (is_trailer t) (looked_up (λ t i. not (is_trailer t)) infixes t i refl (infix_found b t i e))

abbrev infix_sign : Token → Infix → Bool
infix_sign t (joins j) = true
infix_sign t a_query = same_token query t
infix_sign t (a_step up) = same_token (step_sign up) t

pub query_is : (b : Bool) (t : Token) → infix_of b t ≡ Some a_query → t ≡ query
query_is b t e = same_is query t (looked_up infix_sign infixes t a_query refl (infix_found b t a_query e))

pub step_is : (b : Bool) (t : Token) (up : Bool) → infix_of b t ≡ Some (a_step up) → t ≡ step_sign up
step_is b t up e = same_is (step_sign up) t (looked_up infix_sign infixes t (a_step up) refl (infix_found b t (a_step up) e))

abbrev pub opening_sign : Opening → Token
opening_sign a_this = this_word
opening_sign a_null = null_word
opening_sign (a_bool true) = true_word
opening_sign (a_bool false) = false_word
opening_sign a_paren = open_paren
opening_sign an_array = open_bracket
opening_sign an_object = open_brace
opening_sign a_function = function_word
opening_sign a_new = new_word
opening_sign (a_prefix op) = unary_sign op
opening_sign (a_prefix_step up) = step_sign up

pub opening_is : (t : Token) (o : Opening) → look_up openings t ≡ Some o → t ≡ opening_sign o
opening_is t o e = same_is (opening_sign o) t (looked_up (λ t o. same_token (opening_sign o) t) openings t o refl e)

abbrev pub found : {A : Type 0} → Option A → Bool
found None = false
found (Some x) = true

-- an operand begins with this token
abbrev pub starts : Token → Bool
starts (name us) = true
starts (num n) = true
starts (text us) = true
starts (word n) = found (look_up openings (word n))
starts (punct n) = found (look_up openings (punct n))

found_is : {A : Type 0} (o : Option A) → found o ≡ true → (x : A) × (o ≡ Some x)
found_is None e = absurd cc
found_is (Some x) e = (x, refl)

pub started : (t : Token) (o : Option Opening) → look_up openings t ≡ o → found o ≡ true → (x : Opening) × (t ≡ opening_sign x)
started t None e h = absurd cc
started t (Some x) e h = (x, opening_is t x e)

-- a word or a punctuator with which no operand begins
pub not_first : (d : Token) → every (λ t o. not (same_token d t)) openings ≡ true → (t : Token) → starts t ≡ true → same_token d t ≡ false
not_first (word n) h (name us) s = refl
not_first (punct n) h (name us) s = refl
not_first d h (word n) s = let o = found_is (look_up openings (word n)) s in not_false _ (looked_up (λ t o. not (same_token d t)) openings (word n) o.0 h o.1)
not_first d h (punct n) s = let o = found_is (look_up openings (punct n)) s in not_false _ (looked_up (λ t o. not (same_token d t)) openings (punct n) o.0 h o.1)
not_first _ h _ s = refl
