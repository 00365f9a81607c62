-- Reading back tokens, one after another.
use Rattle.std.proofs.Common.{◌≡◌, ℕ, zero, suc, ◌+◌, ◌<◌, ◌&&◌, Bool, true, false, List, [], ◌∷◌, ◌++◌, Option, Some, None, Ok, Err, refl, sym, ap, ◌∙◌, arith, subst, nat_eq, ◌||◌, length, drop, map}
use Rattle.std.specs.Prelude.{ℤ, if◌then◌else◌}
use Rattle.std.proofs.Math.Seq.{take-append_seam}
use Rattle.caja_units.specs.Number.{number_text}
use Rattle.es3_tokens.proofs.BackNames.{back_name, drop_seam}
use Rattle.es3_tokens.proofs.BackNumbers.{back_number}
use Rattle.es3_tokens.proofs.BackPunctuators.{back_sign}
use Rattle.es3_tokens.proofs.BackTexts.{back_text}
use Rattle.es3_tokens.proofs.Cut.{cut_accept, cut_nil, cut_skip, point_fits}
use Rattle.es3_tokens.proofs.Gaps.{point_white}
use Rattle.es3_tokens.proofs.Tests.{and_parts, eq_of, false_of}
use Rattle.es3_tokens.specs.Back.{AllStay, IsToken, is_apart, spaced, spelled, spelling, stays, tokens_in}
use Rattle.es3_tokens.specs.Characters.{begins, is_part}
use Rattle.es3_tokens.specs.Cut.{Answer, Step, accept, cut_from, front, point, width}
use Rattle.es3_tokens.specs.Refusals.{goes_on}
use Rattle.es3_tokens.specs.Steps.{Fits, begins_sign, is_sign}
use Rattle.es3_tokens.specs.Tokens.{Placed, entry, is_name, name_or_word, place_in, placed, wants_operand}
use Rattle.es3_tree.specs.Token.{Token, name, num, punct, puncts, text, word, words}

-- a test that each entry of a table passes
abbrev each : (ℕ → List ℕ → Bool) → ℕ → List (List ℕ) → Bool
each p n [] = true
each p n (w ∷ ws) = p n w && each p (n + 1) ws

each_entry : (p : ℕ → List ℕ → Bool) (m n : ℕ) (ws : List (List ℕ)) → each p m ws ≡ true → n < length ws → p (m + n) (entry ws n) ≡ true
each_entry p m n [] h lt = absurd (omega arith)
each_entry p m zero (w ∷ ws) h lt = let e : m + 0 ≡ m = omega arith in ap (λ k. p k w) e ∙ (and_parts (p m w) (each p (m + 1) ws) h).0
each_entry p m (suc n) (w ∷ ws) h lt =
    let e : m + suc n ≡ m + 1 + n = omega arith in
    ap (λ k. p k (entry ws n)) e ∙ each_entry p (m + 1) n ws (and_parts (p m w) (each p (m + 1) ws) h).1 (omega arith)

entry_passes : (p : ℕ → List ℕ → Bool) (n : ℕ) (ws : List (List ℕ)) → each p 0 ws ≡ true → n < length ws → p n (entry ws n) ≡ true
entry_passes p n ws h lt = let e : n ≡ 0 + n = omega arith in ap (λ k. p k (entry ws n)) e ∙ each_entry p 0 n ws h lt

abbrev is_place : ℕ → Option ℕ → Bool
is_place n None = false
is_place n (Some m) = nat_eq m n

place_of : (n : ℕ) (o : Option ℕ) → is_place n o ≡ true → o ≡ Some n
place_of n None h = absurd cc
place_of n (Some m) h = ap (λ k. Some k) (eq_of m n h)

-- an entry of the table of words is a name in form, and stands at its place
abbrev is_word_entry : ℕ → List ℕ → Bool
is_word_entry n w = is_name w && is_place n (place_in words w)

abbrev is_punct_entry : ℕ → List ℕ → Bool
is_punct_entry n w = begins begins_sign w && is_place n (place_in puncts w)

back_word : (o : Bool) (n : ℕ) (w r : List ℕ) → is_word_entry n w ≡ true → begins is_part r ≡ false → point o (w ++ r) ≡ accept (word n) (length w)
back_word o n w r h e =
    let p = and_parts (is_name w) (is_place n (place_in words w)) h in
    back_name o w r p.0 e ∙ ap (λ x. accept (name_or_word w x) (length w)) (place_of n (place_in words w) p.1)

back_punct : (o : Bool) (n : ℕ) (w r : List ℕ) → is_punct_entry n w ≡ true → is_apart w r ≡ true → is_sign o (w ++ r) ≡ true → point o (w ++ r) ≡ accept (punct n) (length w)
back_punct o n [] r h a s = absurd cc
back_punct o n (c ∷ w) r h a s =
    let p = and_parts (begins_sign c) (is_place n (place_in puncts (c ∷ w))) h in
    back_sign o c w r n p.0 (place_of n (place_in puncts (c ∷ w)) p.1) a s

-- a token that stays is read back
pub back_token : (o : Bool) (t : Token) (r : List ℕ) → IsToken t → stays o t r ≡ true → point o (spelling t ++ r) ≡ accept t (length (spelling t))
back_token o (name us) r h s = back_name o us r h.0 (false_of (begins is_part r) s) ∙ ap (λ x. accept (name_or_word us x) (length us)) h.1
back_token o (word n) r h s = back_word o n (entry words n) r (entry_passes is_word_entry n words refl h) (false_of (begins is_part r) s)
back_token o (punct n) r h s =
    let p = and_parts (is_apart (entry puncts n) r) (is_sign o (entry puncts n ++ r)) s in
    back_punct o n (entry puncts n) r (entry_passes is_punct_entry n puncts refl h) p.0 p.1
back_token o (num n) r h s = subst (λ (n : ℤ). point o (number_text n ++ r) ≡ accept (num n) (length (number_text n))) (sym h.1) (back_number o h.0 r h.2 (false_of (begins goes_on r) s))
back_token o (text us) r h s = back_text o us r h

or_false : (l : Bool) → (l || false) ≡ l
or_false true = refl
or_false false = refl

-- a space is skipped
pub back_space : (p : ℕ) (l o : Bool) (r : List ℕ) → cut_from 0 p l o (32 ∷ r) ≡ cut_from 0 (p + 1) l o r
back_space p l o r = cut_skip p l o 32 r false 1 (point_white o 32 r refl) (omega arith) ∙ ap (λ m. cut_from 0 (p + 1) m o r) (or_false l)

-- what is accepted has a character
accepts_some : (o : Bool) (w r : List ℕ) (t : Token) → point o (w ++ r) ≡ accept t (length w) → 0 < length w
accepts_some o w r t e = (subst (λ (x : Step). Fits (length (w ++ r)) x) e (point_fits o (w ++ r))).0

-- behind a token, what follows it is cut
accepted : (p : ℕ) (l o : Bool) (w r : List ℕ) (t : Token) → point o (w ++ r) ≡ accept t (length w) → cut_from 0 p l o (w ++ r) ≡ front (placed t p (p + width w) l) (cut_from 0 (p + width w) false (wants_operand t) r)
accepted p l o [] r t e = absurd (let some = accepts_some o [] r t e in omega (arith, some))
accepted p l o (c ∷ w) r t e =
    cut_accept p l o c (w ++ r) t (length (c ∷ w)) e (omega arith)
    ∙ ap (λ (v : List ℕ). front (placed t p (p + width v) l) (cut_from 0 (p + width v) false (wants_operand t) (drop (length (c ∷ w)) ((c ∷ w) ++ r)))) (take-append_seam (c ∷ w) r)
    ∙ ap (λ (v : List ℕ). front (placed t p (p + width (c ∷ w)) l) (cut_from 0 (p + width (c ∷ w)) false (wants_operand t) v)) (drop_seam (c ∷ w) r)

tokens_front : (t : Placed) (a : Answer) (ts : List Token) → tokens_in a ≡ Some ts → tokens_in (front t a) ≡ Some (t.token ∷ ts)
tokens_front t (Ok us) ts e = ap (λ (o : Option (List Token)). after_token t.token o) e
  where
    after_token : Token → Option (List Token) → Option (List Token)
    after_token t None = None
    after_token t (Some ts) = Some (t ∷ ts)
tokens_front t (Err e) ts h = absurd cc

skip_spaced : (p : ℕ) (l o b : Bool) (s : List ℕ) → cut_from 0 p l o (spaced b s) ≡ cut_from 0 (if b then p + 1 else p) l o s
skip_spaced p l o true s = back_space p l o s
skip_spaced p l o false s = refl

-- tokens that stay are read back
pub back_tokens : (p : ℕ) (l o : Bool) (ts : List (Bool × Token)) → AllStay o ts → tokens_in (cut_from 0 p l o (spelled ts)) ≡ Some (map (λ x. x.1) ts)
back_tokens p l o [] h = ap tokens_in (cut_nil p l o)
back_tokens p l o (x ∷ ts) h =
    ap tokens_in (skip_spaced p l o x.0 (spelling x.1 ++ spelled ts) ∙ accepted (if x.0 then p + 1 else p) l o (spelling x.1) (spelled ts) x.1 (back_token o x.1 (spelled ts) h.0 h.1))
    ∙ tokens_front _ _ (map (λ x. x.1) ts) (back_tokens ((if x.0 then p + 1 else p) + width (spelling x.1)) false (wants_operand x.1) ts h.2)
