-- The text of tokens whose neighbours are fine neither begins nor ends markup.
use Rattle.std.proofs.Common.{◌≡◌, ℕ, Bool, true, false, List, [], ◌∷◌, ◌++◌, refl, sym, ap, ◌∙◌, arith, nat_lt, nat_eq}
use Rattle.std.specs.Prelude.{not, ◌&&◌, ◌||◌, Option, Some, None, slice_get}
use Rattle.std.proofs.lemmas.Bool.{and_parts, and_from, and_right, or_from, or_parts, cond_both}
use Rattle.std.proofs.lemmas.Bool.Decides.{nat_tests}
use Rattle.std.proofs.lemmas.List.Elements.{All-head, All-tail}
use Rattle.es3_tree.specs.Tree as t
use Rattle.es3_tree.specs.Token.{Token}
use Rattle.es3_tokens.specs.Characters.{is_part, begins}
use Rattle.es3_printed.specs.Text.{runs_together, last_of, gap_between, token_text, then_text, onto}
use Rattle.es3_printed.specs.Safe.{is_markup, is_safe, IsWord, AreWords}
use Rattle.es3_printed.specs.Tokens.{bare, printed}
use Rattle.es3_printed.proofs.Sides.{Behind, an_operator, a_point, a_number, an_end, after, may, sides}
use Rattle.es3_printed.proofs.SidesOfTrees.{sides_of}
use Rattle.es3_printed.proofs.Quiet.{is_tame, is_filled, is_such}
use Rattle.es3_printed.proofs.TokenTexts.{is_less, is_operator, IsText, text_of}

-- texts side by side

abbrev meets : Option ℕ → Option ℕ → Bool
meets (Some a) (Some b) = is_markup a b
meets a b = false

joined : (u v : List ℕ) → is_safe u ≡ true → is_safe v ≡ true → meets (last_of u) (slice_get v 0) ≡ false → is_safe (u ++ v) ≡ true
joined [] v p q m = q
joined (c ∷ []) [] p q m = p
joined (c ∷ []) (d ∷ s) p q m = and_from (nat_lt c 128 && not (is_markup c d)) (is_safe (d ∷ s)) (and_from (nat_lt c 128) (not (is_markup c d)) p (ap not m)) q
joined (c ∷ d ∷ s) v p q m =
    let h = and_parts (nat_lt c 128 && not (is_markup c d)) (is_safe (d ∷ s)) p in
    and_from (nat_lt c 128 && not (is_markup c d)) (is_safe (d ∷ (s ++ v))) h.0 (joined (d ∷ s) v h.1 q m)

-- the space keeps every such pair apart but `</`
apart : (a b : ℕ) → (nat_eq a 60 && nat_eq b 47) ≡ false → runs_together a b ≡ false → is_markup a b ≡ false
apart a b slash r =
    let h = or_parts (is_part a && is_part b || nat_eq a 43 && nat_eq b 43 || nat_eq a 45 && nat_eq b 45 || nat_eq a 60 && nat_eq b 33) (nat_eq a 93 && nat_eq b 62) r in
    let g = or_parts (is_part a && is_part b || nat_eq a 43 && nat_eq b 43 || nat_eq a 45 && nat_eq b 45) (nat_eq a 60 && nat_eq b 33) h.0 in
    or_from (nat_eq a 60 && nat_eq b 47 || nat_eq a 60 && nat_eq b 33) (nat_eq a 93 && nat_eq b 62)
    (or_from (nat_eq a 60 && nat_eq b 47) (nat_eq a 60 && nat_eq b 33) slash g.1) h.1

spaced_apart : (a : ℕ) → is_markup a 32 ≡ false
spaced_apart a =
    or_from (nat_eq a 60 && false || nat_eq a 60 && false) (nat_eq a 93 && false)
    (or_from (nat_eq a 60 && false) (nat_eq a 60 && false) (and_right (nat_eq a 60) false refl) (and_right (nat_eq a 60) false refl))
    (and_right (nat_eq a 93) false refl)

behind : (out : List ℕ) (a b : ℕ) (s : List ℕ) → last_of out ≡ Some a → is_safe out ≡ true → is_safe (b ∷ s) ≡ true
    → (nat_eq a 60 && nat_eq b 47) ≡ false → is_safe (out ++ (gap_between (Some a) (Some b) ++ b ∷ s)) ≡ true
behind out a b s l p q slash =
    cond_both (runs_together a b) (32 ∷ []) [] (λ g. is_safe (out ++ (g ++ b ∷ s)) ≡ true)
    (λ r. joined out (32 ∷ b ∷ s) p q (ap (λ o. meets o (Some 32)) l ∙ spaced_apart a))
    (λ r. joined out (b ∷ s) p q (ap (λ o. meets o (Some b)) l ∙ apart a b slash r))

then_safe : (out w : List ℕ) → is_safe out ≡ true → is_safe w ≡ true → is_filled w ≡ true
    → (is_such is_less (last_of out) ≡ true → begins is_tame w ≡ true) → is_safe (then_text out w) ≡ true
then_safe out [] p q f h = absurd cc
then_safe out (b ∷ s) p q f h = go (last_of out) refl
  where
    no_slash : (a b : ℕ) → (is_less a ≡ true → is_tame b ≡ true) → (nat_eq a 60 && nat_eq b 47) ≡ false
    no_slash a b h = by_test (nat_eq a 60) b h
      where
        by_test : (less : Bool) (b : ℕ) → (less ≡ true → is_tame b ≡ true) → (less && nat_eq b 47) ≡ false
        by_test true b h = let g = h refl in grind (arith, nat_tests)
        by_test false b h = refl

    go : (o : Option ℕ) → last_of out ≡ o → is_safe (out ++ (gap_between o (Some b) ++ b ∷ s)) ≡ true
    go None l = joined out (b ∷ s) p q (ap (λ o. meets o (Some b)) l)
    go (Some a) l = behind out a b s l p q (no_slash a b (λ g. h (ap (is_such is_less) l ∙ g)))

is_filled-append : (u v : List ℕ) → is_filled v ≡ true → is_filled (u ++ v) ≡ true
is_filled-append [] v h = h
is_filled-append (c ∷ u) v h = refl

last_of-append : (u v : List ℕ) → is_filled v ≡ true → last_of (u ++ v) ≡ last_of v
last_of-append [] v h = refl
last_of-append (c ∷ []) [] h = absurd cc
last_of-append (c ∷ []) (d ∷ s) h = refl
last_of-append (c ∷ d ∷ u) v h = last_of-append (d ∷ u) v h

pub last_of-then : (out w : List ℕ) → is_filled w ≡ true → last_of (then_text out w) ≡ last_of w
last_of-then out w h =
    let g : List ℕ = gap_between (last_of out) (slice_get w 0) in
    last_of-append out (g ++ w) (is_filled-append g w h) ∙ last_of-append g w h

-- tokens behind a text, where an operand is wanted if it ends in `<`

first_tame : (a : Behind) (c : Token) → IsText c → may a c ≡ true → is_operator a ≡ true → begins is_tame (token_text c) ≡ true
first_tame an_operator c x m h = x.first m
first_tame a_point c x m h = absurd cc
first_tame a_number c x m h = absurd cc
first_tame an_end c x m h = absurd cc

onto_safe : (cs : List Token) (out : List ℕ) (a : Behind) → AreWords cs → sides a cs ≡ true → is_safe out ≡ true
    → (is_such is_less (last_of out) ≡ true → is_operator a ≡ true) → is_safe (onto out cs) ≡ true
onto_safe [] out a w h p l = p
onto_safe (c ∷ cs) out a w h p l =
    let s = and_parts (may a c) (sides (after c) cs) h in
    let x = text_of c a s.0 (All-head IsWord c cs w) in
    onto_safe cs (then_text out (token_text c)) (after c) (All-tail IsWord c cs w) s.1
    (then_safe out (token_text c) p x.safe x.filled (λ e. first_tame a c x s.0 (l e)))
    (λ e. x.last (sym (ap (is_such is_less) (last_of-then out (token_text c) x.filled)) ∙ e))

pub safe_text : (cs : List Token) → AreWords cs → sides an_operator cs ≡ true → is_safe (onto [] cs) ≡ true
safe_text cs w h = onto_safe cs [] an_operator w h refl (λ e. refl)

pub safe_program : (p : t.Tree t.program) → AreWords (bare t.program false p) → is_safe (printed p) ≡ true
safe_program p w = safe_text (bare t.program false p) w (sides_of p)
