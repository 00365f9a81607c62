-- From each state the text can be ended; so each refusal is at the first character that no sheet goes on with.
use Rattle.std.proofs.Common.{◌≡◌, ℕ, zero, suc, Bool, true, false, List, [], ◌∷◌, ◌++◌, Option, Some, None, refl, sym, ap, subst, ◌∙◌, append_assoc, drop, length}
use Rattle.std.proofs.lemmas.List.{append-nil}
use Rattle.css_grammar.specs.Characters.{class, lower, letter, star, quote}
use Rattle.css_grammar.specs.Sheets.{Text, Rule, Body, lowered}
use Rattle.css_grammar.specs.Tokens.{Tail, none, closed, important}
use Rattle.css_grammar.specs.Grammar.{wanted, within, behind, Place, selecting, block, named, values, Begins, StopsAt, begins}
use Rattle.css_grammar.specs.Machine.{Use, a_tag, a_part, a_state, an_element, a_name, a_value, a_unit, put, Opener, asked_of, attribute_of, call_of, State, at, slashed, commented, word_for, dash_for, word, colon_in, inside, quoted_in, quoted, minus, whole, fraction, number_dash, point, hash_for, hash, urgent, step, Answer, sheet, part, stopped, ending, goes, run, read}
use Rattle.css_grammar.specs.Ends.{end, end_inside, finish}
use Rattle.css_grammar.proofs.Stands.{StandsFor, Good}
use Rattle.css_grammar.proofs.Sound.{read_spelled, step_sound}
use Rattle.css_grammar.proofs.Complete.{takes, quote_of, quote_closes, urgent_read}
use Rattle.css_grammar.proofs.Exact.{spelled_read, beginning}

abbrev pub Stopped : Text → Text → Type 0
Stopped u r = (w : Text) × (c : ℕ) × (z : Text) × (u ≡ w ++ c ∷ z) × (r ≡ c ∷ z) × StopsAt w c

abbrev pub Ended : Answer → Type 0
Ended a = (rs : List Rule) × (a ≡ sheet rs)

end_whole : (p : Place) → Ended (run (end p) (at p))
unfolding run step class
end_whole (selecting wanted rs ss t) = (_, refl)
end_whole (selecting within rs ss t) = (_, refl)
end_whole (selecting behind rs ss t) = (_, refl)
end_whole (block h b) = (_, refl)
end_whole (named b n) = (_, refl)
end_whole (values none b n vs) = (_, refl)
end_whole (values t b n vs) = (_, refl)

moved_end : {a c : Answer} → a ≡ c → Ended c → Ended a
moved_end e w = (w.0, e ∙ w.1)

commented_whole : (p : Place) → Ended (run (47 ∷ end p) (commented true p))
unfolding run step class
commented_whole (selecting wanted rs ss t) = (_, refl)
commented_whole (selecting within rs ss t) = (_, refl)
commented_whole (selecting behind rs ss t) = (_, refl)
commented_whole (block i b) = (_, refl)
commented_whole (named b n) = (_, refl)
commented_whole (values none b n vs) = (_, refl)
commented_whole (values t b n vs) = (_, refl)

inside_whole : (h : Opener) (n : ℕ) (i : Text) → Ended (run (end_inside h n) (inside h n i))
unfolding run step class
inside_whole (asked_of c a w rs ss t v) zero i = (_, refl)
inside_whole (attribute_of a w rs ss t) zero i = (_, refl)
inside_whole (call_of a k b n vs v) zero i = (_, refl)
inside_whole h (suc n) i = inside_whole h n (i ++ 41 ∷ [])

-- a word is ended by what ends the place behind it
word_whole : (x : Use) (w : Text) → Ended (run (end (put x w)) (word x w))
unfolding run step class
word_whole (a_tag y rs ss t) w = (_, refl)
word_whole (a_part c y rs ss t) w = (_, refl)
word_whole (a_state c y rs ss t) w = (_, refl)
word_whole (an_element c d y rs ss t) w = (_, refl)
word_whole (a_name h b) w = (_, refl)
word_whole (a_value k b n vs) w = (_, refl)
word_whole (a_unit h k b n vs m) w = (_, refl)

-- which end it is doesn't depend on the word
same_end : (x : Use) (w : Text) → end (put x []) ≡ end (put x w)
same_end (a_tag y rs ss t) w = refl
same_end (a_part c y rs ss t) w = refl
same_end (a_state c y rs ss t) w = refl
same_end (an_element c d y rs ss t) w = refl
same_end (a_name h b) w = refl
same_end (a_value k b n vs) w = refl
same_end (a_unit h k b n vs m) w = refl

class_a : class 97 ≡ letter true
unfolding class
class_a = refl

class_star : class 42 ≡ star
unfolding class
class_star = refl

word_for_whole : (x : Use) → Ended (run (97 ∷ end (put x [])) (word_for x))
unfolding step
word_for_whole x = moved_end (takes (word_for x) 97 (letter true) (end (put x [])) class_a refl ∙ ap (λ z. run z (word x (97 ∷ []))) (same_end x (97 ∷ []))) (word_whole x (97 ∷ []))

dash_for_whole : (d : ℕ) (x : Use) → Ended (run (97 ∷ end (put x [])) (dash_for d x))
unfolding step
dash_for_whole d x = moved_end (takes (dash_for d x) 97 (letter true) (end (put x [])) class_a refl ∙ ap (λ z. run z (word x (d ∷ 97 ∷ []))) (same_end x (d ∷ 97 ∷ []))) (word_whole x (d ∷ 97 ∷ []))

slashed_whole : (s : ℕ) (p : Place) → Ended (run (finish (slashed s p)) (slashed s p))
unfolding step
slashed_whole s p = moved_end (takes (slashed s p) 42 star (42 ∷ 47 ∷ end p) class_star refl ∙ takes (commented false p) 42 star (47 ∷ end p) class_star refl) (commented_whole p)

comment_whole : (h : Bool) (p : Place) → Ended (run (42 ∷ 47 ∷ end p) (commented h p))
unfolding step
comment_whole true p = moved_end (takes (commented true p) 42 star (47 ∷ end p) class_star refl) (commented_whole p)
comment_whole false p = moved_end (takes (commented false p) 42 star (47 ∷ end p) class_star refl) (commented_whole p)

text_whole : (t : Tail) (b : Body) (n : Text) (vs : List Text) (w : Text) → Ended (run (125 ∷ []) (at (values closed b n (vs ++ w ∷ []))))
text_whole t b n vs w = end_whole (values closed b n (vs ++ w ∷ []))

small : lowered important ≡ important
unfolding lower
small = refl

split_off : (w rest : Text) → drop (length w) (lowered w ++ rest) ≡ rest
split_off [] rest = refl
split_off (c ∷ w) rest = split_off w rest

drop_lowered : (i : ℕ) (w : Text) → lowered (drop i w) ≡ drop i (lowered w)
drop_lowered zero w = refl
drop_lowered (suc i) [] = refl
drop_lowered (suc i) (c ∷ w) = drop_lowered i w

-- the letters that are still to come are small
rest_small : (w rest : Text) → lowered w ++ rest ≡ important → lowered rest ≡ rest
rest_small w rest e =
    let d : rest ≡ drop (length w) important = sym (split_off w rest) ∙ ap (drop (length w)) e in
    ap lowered d ∙ (drop_lowered (length w) important ∙ (ap (drop (length w)) small ∙ sym d))

urgent_whole : (m : ℕ) (t : Tail) (b : Body) (n : Text) (vs : List Text) → Ended (run (125 ∷ []) (urgent m t b n vs []))
unfolding run step class
urgent_whole m t b n vs = (_, refl)

pub viable : (s : State) (u : Text) → StandsFor s u → Ended (run (finish s) s)
unfolding run step class
viable (at p) u st = end_whole p
viable (slashed s p) u st = slashed_whole s p
viable (commented h p) u st = comment_whole h p
viable (word_for x) u st = word_for_whole x
viable (dash_for d x) u st = dash_for_whole d x
viable (word x w) u st = word_whole x w
viable (colon_in c w rs ss t) u st = (_, refl)
viable (inside h n i) u st = inside_whole h n i
viable (quoted_in h n i q w) u st = moved_end (takes (quoted_in h n i q w) q quote (end_inside h n) (quote_of q w st.3) (quote_closes q _ _)) (inside_whole h n (i ++ (w ++ q ∷ [])))
viable (quoted t b n vs q w) u st = moved_end (takes (quoted t b n vs q w) q quote (125 ∷ []) (quote_of q w st.2) (quote_closes q _ _)) (text_whole t b n vs (w ++ q ∷ []))
viable (minus d t b n vs) u st = (_, refl)
viable (whole t b n vs w) u st = (_, refl)
viable (fraction t b n vs w) u st = (_, refl)
viable (number_dash true d t b n vs w) u st = (_, refl)
viable (number_dash false d t b n vs w) u st = (_, refl)
viable (point p t b n vs w) u st = (_, refl)
viable (hash_for m t b n vs) u st = (_, refl)
viable (urgent m t b n vs rest) u st = moved_end (urgent_read m t b n vs rest rest (125 ∷ []) (rest_small st.1 rest st.4)) (urgent_whole m t b n vs)
viable (hash t b n vs w) u st = (_, refl)

-- ---- exact refusals

-- what was taken of a text, and the state that it leads to
pub record Taken (u : Text) (s : State) (v : Text) (r : State) : Type 0 where
  pub goes_on : (z : Text) → run (v ++ z) s ≡ run z r

pub begins_there : (v : Text) (r : State) → ((z : Text) → run (v ++ z) beginning ≡ run z r) → StandsFor r v → Begins v
begins_there v r f st = let y = viable r v st in (y.0, finish r, read_spelled (v ++ finish r) y.0 (f (finish r) ∙ y.1))

rest_of : Answer → Text
rest_of (stopped r) = r
rest_of _ = []

stopped_is : (k r : Text) → stopped k ≡ stopped r → k ≡ r
unfolding rest_of
stopped_is k r e = ap rest_of e

never : (rs : List Rule) (r : Text) → stopped r ≡ sheet rs → ⊥
never rs r e = cc

one_more : (v : Text) (c : ℕ) (z : Text) (r s : State) → ((z : Text) → run (v ++ z) beginning ≡ run z r) → step r (class c) c ≡ Some s → run ((v ++ c ∷ []) ++ z) beginning ≡ run z s
one_more v c z r s f e = ap (λ y. run y beginning) (append_assoc v (c ∷ []) z) ∙ (f (c ∷ z) ∙ takes r c (class c) z refl e)

refuses : (r : State) (c : ℕ) (z : Text) → step r (class c) c ≡ None → run (c ∷ z) r ≡ stopped (c ∷ z)
unfolding run
refuses r c z e = ap (goes (run z) (c ∷ z)) e

pub stops_from : (k v r : Text) (s : State) → ((z : Text) → run (v ++ z) beginning ≡ run z s) → StandsFor s v → run k s ≡ stopped r
    → Stopped (v ++ k) r
unfolding run
stops_from [] v r s f st e = absurd (ended s e)
  where
    ended : (s : State) → ending s ≡ stopped r → ⊥
    ended (at (selecting wanted rs [] [])) e = cc
    ended _ e = cc
stops_from (c ∷ k) v r s f st e = by_step (λ s' h g e. stops_from k (v ++ c ∷ []) r s' h g e) (step s (class c) c) refl e
  where
    by_step : ((s' : State) → ((z : Text) → run ((v ++ c ∷ []) ++ z) beginning ≡ run z s') → StandsFor s' (v ++ c ∷ []) → run k s' ≡ stopped r → Stopped ((v ++ c ∷ []) ++ k) r)
        → (o : Option State) → step s (class c) c ≡ o → goes (run k) (c ∷ k) o ≡ stopped r → Stopped (v ++ c ∷ k) r
    by_step rec None g e = (
      v,
      c,
      k,
      refl,
      sym (stopped_is (c ∷ k) r e),
      (
        begins_there v s f st,
        λ y.
            never y.0 (c ∷ y.1) (sym (ap (λ x. run x beginning) (append_assoc v (c ∷ []) y.1) ∙ (f (c ∷ y.1) ∙ refuses s c y.1 g)) ∙ spelled_read ((v ++ c ∷ []) ++ y.1) y.0 y.2),
      ),
    )
    by_step rec (Some s') g e = let x = rec s' (λ z. one_more v c z s s' f g) (subst (λ o. Good o (v ++ c ∷ [])) g (step_sound s (class c) c v refl st)) e in
        (x.0, x.1, x.2, sym (append_assoc v (c ∷ []) k) ∙ x.3, x.4, x.5)

pub stops_exactly : (u r : Text) → read u ≡ stopped r → Stopped u r
stops_exactly u r e = stops_from u [] r beginning (λ z. refl) (begins, tt) e

pub part_from : (k v : Text) (s : State) → ((z : Text) → run (v ++ z) beginning ≡ run z s) → StandsFor s v → run k s ≡ part → Begins (v ++ k)
unfolding run
part_from [] v s f st e = rw (append-nil v) (begins_there v s f st)
part_from (c ∷ k) v s f st e = by_step (λ s' h g e. part_from k (v ++ c ∷ []) s' h g e) (step s (class c) c) refl e
  where
    by_step : ((s' : State) → ((z : Text) → run ((v ++ c ∷ []) ++ z) beginning ≡ run z s') → StandsFor s' (v ++ c ∷ []) → run k s' ≡ part → Begins ((v ++ c ∷ []) ++ k))
        → (o : Option State) → step s (class c) c ≡ o → goes (run k) (c ∷ k) o ≡ part → Begins (v ++ c ∷ k)
    by_step rec None g e = absurd cc
    by_step rec (Some s') g e = subst (λ (z : Text). Begins z) (append_assoc v (c ∷ []) k) (rec s' (λ z. one_more v c z s s' f g) (subst (λ o. Good o (v ++ c ∷ [])) g (step_sound s (class c) c v refl st)) e)

pub breaks_off : (u : Text) → read u ≡ part → Begins u
breaks_off u e = part_from u [] beginning (λ z. refl) (begins, tt) e
