-- What is read is spelled so: functions and lists.
use Rattle.std.proofs.Common.{◌≡◌, ℕ, Bool, true, false, not, ◌&&◌, List, [], ◌∷◌, ◌++◌, Option, Some, None, refl, sym, ap, subst, inl, inr, ◌∙◌, arith, append_assoc}
use Rattle.std.proofs.lemmas.List.{append-nil}
use Rattle.es3_tree.specs.Token.{name, word, punct, num, text}
use Rattle.es3_tree.specs.Tree as t
use Rattle.es3_tree.specs.Placed as tree
use Rattle.es3_tree.specs.Placed.{Word}
use Rattle.es3_grammar.specs.Spots.{Spot, is, function_word, open_brace, close_brace, open_paren, close_paren, open_bracket, close_bracket, point, comma, colon}
use Rattle.es3_grammar.specs.Levels.{E}
use Rattle.es3_grammar.specs.Grammar.{S, free, naming, key_of, placed_word, Names, Spells, s_array_comma, s_object, s_function, s_dot, s_no_exprs, s_no_fields, s_func, s_no_stmts, no_name, one_name}
use Rattle.es3_grammar.specs.Frames.{Field, exprs_of, stmts_of, Opened, an_array, a_call, a_new, Head, Body, items, field, body, Stack, State, want, have, listed, member, key, func, await, a_function, head, params, param, param_end}
use Rattle.es3_grammar.specs.Machine.{when, closer, closed_list, open_step, none_yet, key_step, keyed, func_step, params_step, param_step, param_end_step, bodied, func_of, func_made, holds, declares, member_step}
use Rattle.es3_grammar.proofs.Tables.{chosen, none_some, spot_is}
use Rattle.es3_grammar.proofs.Follow.{bars_of}
use Rattle.es3_grammar.proofs.Longer.{Listed, stmts_so, declared_so, names_so}
use Rattle.es3_grammar.proofs.Stands.{Place, Before, FuncPlace, Leads, Stands, Over, StandsFor, NamedIf, HeadTokens, Parameters, of_bool}
use Rattle.es3_grammar.proofs.SoundParts.{the_state, when_so, token_so, token_or, asked_fits, over_on, over_as, over_frame, inward, asked_within}
use Rattle.es3_grammar.proofs.SoundExpr.{closed_so, one_mark, within_sound}

-- ---- lists, keys, functions

-- one more statement in a list
pub longer_body : (f : Stack) (o : Body) (ss : List S) (x : S) (u : List Spot) → Over (body o ss ∷ f) (Spells t.stmt free 0 x) u → Stands (body o (ss ++ x ∷ []) ∷ f) u
longer_body f o ss x u h = over_frame (body o (ss ++ x ∷ [])) f u
    (inward (body o ss) f (Spells t.stmt free 0 x) (Leads f (body o (ss ++ x ∷ []))) u h (λ v w i p. (i.0, i.1 ++ w, i.2, stmts_so (of_bool (holds o)) ss i.1 x w i.3 p, ap (λ z. z ++ w) i.4 ∙ append_assoc i.0 i.1 w)))
    (asked_within (body o ss) f _ u h)

pub open_sound : (o : Opened) (xs : List E) (f : Stack) (c : Spot) (u : List Spot) (s : State) → StandsFor (listed o xs f) u → open_step o xs f c ≡ Some s → StandsFor s (u ++ c ∷ [])
open_sound o xs f c u s st e = token_or (closer o) c (have (closed_list o xs) f) _ s u e (whole o xs st)
    (λ e g. within_sound (items o xs) f c s u (over_frame (items o xs) f u st.0 (let a = asked_fits f in omega arith)) tt e)
  where
    ending : (o : Opened) (xs : List E) → Over f (λ z. (v : List Spot) × (w : List Spot) × Before (bars_of f) o v × (w ≡ []) × (z ≡ v ++ w)) u → xs ≡ [] → Over f (Spells t.expr (bars_of f) 16 (closed_list o xs)) (u ++ (closer o, c.1) ∷ [])
    ending o xs h e = over_on f _ _ u ((closer o, c.1) ∷ []) h (λ z i. subst (λ q. Spells t.expr (bars_of f) 16 (closed_list o xs) q) (sym (ap (λ k. k ++ (closer o, c.1) ∷ []) (i.4 ∙ ap (λ k. i.0 ++ k) i.3 ∙ append-nil i.0)))
        (closed_so (bars_of f) o i.0 xs [] c.1 i.2 (subst (λ ys. Spells t.exprs free 0 (exprs_of ys) []) (sym e) s_no_exprs)))

    as_none : (o : Opened) (xs : List E) → xs ≡ [] → Over f (λ z. (v : List Spot) × (w : List Spot) × Before (bars_of f) o v × Listed xs w × (z ≡ v ++ w)) u → Over f (λ z. (v : List Spot) × (w : List Spot) × Before (bars_of f) o v × (w ≡ []) × (z ≡ v ++ w)) u
    as_none o [] e h = h
    as_none o (x ∷ xs) e h = absurd cc

    whole : (o : Opened) (xs : List E) → StandsFor (listed o xs f) u → Over f (Spells t.expr (bars_of f) 16 (closed_list o xs)) (u ++ (closer o, c.1) ∷ [])
    whole (a_call x) xs h = ending (a_call x) xs (as_none (a_call x) xs h.1 h.0) h.1
    whole (a_new x) xs h = ending (a_new x) xs (as_none (a_new x) xs h.1 h.0) h.1
    whole an_array [] h = ending an_array [] h.0 refl
    whole an_array (x ∷ xs) h = over_on f _ _ u ((close_bracket, c.1) ∷ []) h.0 (λ z i. let r = i.3 in
        subst (λ q. Spells t.expr (bars_of f) 16 (tree.array (exprs_of (x ∷ xs))) q)
        (sym (ap (λ k. k ++ (close_bracket, c.1) ∷ []) (i.4 ∙ ap (λ k. k ++ i.1) i.2.1 ∙ ap (λ k. (open_bracket, i.2.0) ∷ k) r.3) ∙ ap (λ k. (open_bracket, i.2.0) ∷ k) (append_assoc r.0 ((comma, r.1) ∷ []) ((close_bracket, c.1) ∷ []))))
        (s_array_comma (bars_of f) 16 i.2.0 c.1 r.1 (exprs_of (x ∷ xs)) r.0 (omega arith) r.2))

pub key_sound : (fs : List Field) (f : Stack) (c : Spot) (u : List Spot) (s : State) → StandsFor (key fs f) u → key_step fs f c ≡ Some s → StandsFor s (u ++ c ∷ [])
key_sound fs f c u s st e = elim (chosen (is close_brace c) (when (none_yet fs) (have (tree.object tree.no_fields) f)) (keyed fs f (key_of c)) (Some s) e) [
  | inl g ↦ when_so (none_yet fs) (have (tree.object tree.no_fields) f) s (u ++ c ∷ []) g.1 (λ h. empty_one fs h st (spot_is close_brace c g.0))
  | inr g ↦ at_key (key_of c) refl g.1
]
  where
    empty_one : (fs : List Field) → none_yet fs ≡ true → StandsFor (key fs f) u → c ≡ (close_brace, c.1) → Over f (Spells t.expr (bars_of f) 16 (tree.object tree.no_fields)) (u ++ c ∷ [])
    empty_one [] h st g = over_on f _ _ u (c ∷ []) st (λ w i. subst (λ q. Spells t.expr (bars_of f) 16 (tree.object tree.no_fields) q) (sym (ap (λ k. k ++ c ∷ []) (i.3 ∙ ap (λ k. (open_brace, i.1) ∷ k) i.2) ∙ ap (λ (k : Spot). (open_brace, i.1) ∷ k ∷ []) g))
        (s_object (bars_of f) 16 i.1 c.1 tree.no_fields [] (omega arith) s_no_fields))
    empty_one (x ∷ fs) h st g = absurd cc

    at_key : (o : Option Word) → key_of c ≡ o → keyed fs f o ≡ Some s → StandsFor s (u ++ c ∷ [])
    at_key None k e = none_some s e
    at_key (Some n) k e = the_state (u ++ c ∷ []) (await (colon ∷ []) (want (field fs n ∷ f))) s e (λ q h. (let m = one_mark colon q h in
        subst (λ (z : List Spot). Stands (field fs n ∷ f) ((u ++ c ∷ []) ++ z) × Place (field fs n ∷ f)) (sym m.1) (
          over_frame (field fs n) f _ (subst (λ (z : List Spot). Over f (Leads f (field fs n)) z) (sym (append_assoc u (c ∷ []) ((colon, m.0) ∷ [])))
              (over_on f _ (Leads f (field fs n)) u (c ∷ (colon, m.0) ∷ []) st (λ w i. (i.0, c, i.1, m.0, i.2, k, ap (λ z. z ++ c ∷ (colon, m.0) ∷ []) i.3)))) (let a = asked_fits f in omega arith),
          tt,
        )))

pub member_sound : (x : E) (f : Stack) (c : Spot) (u : List Spot) (s : State) → StandsFor (member x f) u → member_step x f c ≡ Some s → StandsFor s (u ++ c ∷ [])
member_sound x f (name us, a) u s st e = the_state _ _ s e (over_on f _ _ u _ st (λ w i. subst (λ z. Spells t.expr (bars_of f) 16 (tree.dot x (placed_word us a)) z) (sym (ap (λ z. z ++ (name us, a) ∷ []) i.3 ∙ append_assoc i.0 ((point, i.1) ∷ []) ((name us, a) ∷ [])))
    (s_dot (bars_of f) 16 i.1 x (placed_word us a) i.0 (omega arith) i.2)))
member_sound x f _ u s st e = none_some s e

-- the tokens of the head of a function
head_so : (f : Stack) (d : Bool) (n : Option Word) (a b : ℕ) (u : List Spot) → NamedIf d n → Over f (λ z. z ≡ (function_word, a) ∷ []) u → Over f (HeadTokens (head d n a)) (u ++ (naming n ++ (open_paren, b) ∷ []))
head_so f d n a b u h o = over_on f _ (HeadTokens (head d n a)) u _ o (λ w i. (b, h, ap (λ z. z ++ (naming n ++ (open_paren, b) ∷ [])) i))

named_any : (d : Bool) (n : Word) → NamedIf d (Some n)
named_any true n = tt
named_any false n = tt

unnamed_head : (d b : Bool) (c : Spot) (a : ℕ) (f : Stack) (u : List Spot) (s : State) → is open_paren c ≡ b → StandsFor (func d a f) u → when (not d && b) (params (head d None a) f) ≡ Some s → StandsFor s (u ++ c ∷ [])
unnamed_head true b c a f u s g st e = none_some s e
unnamed_head false true c a f u s g st e = the_state _ _ s e (subst (λ (z : Spot). Over f (HeadTokens (head false None a)) (u ++ z ∷ [])) (sym (spot_is open_paren c g)) (head_so f false None a c.1 u tt st.0), st.1)
unnamed_head false false c a f u s g st e = none_some s e

pub func_sound : (d : Bool) (a : ℕ) (f : Stack) (c : Spot) (u : List Spot) (s : State) → StandsFor (func d a f) u → func_step d a f c ≡ Some s → StandsFor s (u ++ c ∷ [])
func_sound d a f (name us, b) u s st e = the_state _ _ s e (λ q h. (let m = one_mark open_paren q h in
    subst (λ (z : List Spot). Over f (HeadTokens (head d (Some (placed_word us b)) a)) ((u ++ (name us, b) ∷ []) ++ z) × FuncPlace d f a) (sym m.1)
    (subst (λ (z : List Spot). Over f (HeadTokens (head d (Some (placed_word us b)) a)) z) (sym (append_assoc u ((name us, b) ∷ []) ((open_paren, m.0) ∷ []))) (head_so f d (Some (placed_word us b)) a m.0 u (named_any d (placed_word us b)) st.0), st.1)))
func_sound d a f (word n, b) u s st e = unnamed_head d (is open_paren (word n, b)) (word n, b) a f u s refl st e
func_sound d a f (punct n, b) u s st e = unnamed_head d (is open_paren (punct n, b)) (punct n, b) a f u s refl st e
func_sound d a f (num n, b) u s st e = unnamed_head d (is open_paren (num n, b)) (num n, b) a f u s refl st e
func_sound d a f (text n, b) u s st e = unnamed_head d (is open_paren (text n, b)) (text n, b) a f u s refl st e

-- the body of a function opens
bodied_so : (h : Head) (ps : List Word) (f : Stack) (a : ℕ) (u : List Spot) → FuncPlace h.declared f h.begins → Over f (λ z. (v : List Spot) × (w : List Spot) × HeadTokens h v × Names ps w × (z ≡ v ++ w)) u → StandsFor (bodied h ps f) (u ++ (close_paren, a) ∷ [])
bodied_so h ps f a u pl o = λ q e. (let m = one_mark open_brace q e in
    subst (λ (z : List Spot). Stands (body (a_function h ps) [] ∷ f) ((u ++ (close_paren, a) ∷ []) ++ z) × Place (body (a_function h ps) [] ∷ f)) (sym m.1) (
      over_frame (body (a_function h ps) []) f _ (subst (λ (z : List Spot). Over f (Leads f (body (a_function h ps) [])) z) (sym (append_assoc u ((close_paren, a) ∷ []) ((open_brace, m.0) ∷ [])))
          (over_on f _ (Leads f (body (a_function h ps) [])) u _ o (λ z i. (
            i.0 ++ (i.1 ++ (close_paren, a) ∷ (open_brace, m.0) ∷ []),
            [],
            (i.0, i.1, a, m.0, i.2, pl, i.3, refl),
            s_no_stmts 1,
            ap (λ k. k ++ (close_paren, a) ∷ (open_brace, m.0) ∷ []) i.4 ∙ append_assoc i.0 i.1 ((close_paren, a) ∷ (open_brace, m.0) ∷ []) ∙ sym (append-nil _),
          )))) (let b = asked_fits f in omega arith),
      tt,
    ))

no_params : (h : Head) (f : Stack) (c : Spot) (u : List Spot) (s : State) → StandsFor (params h f) u → when (is close_paren c) (bodied h [] f) ≡ Some s → StandsFor s (u ++ c ∷ [])
no_params h f c u s st e = token_so close_paren c (bodied h [] f) s u e (bodied_so h [] f c.1 u st.1 (over_as f _ _ u st.0 (λ w i. (w, [], i, no_name, sym (append-nil w)))))

pub params_sound : (h : Head) (f : Stack) (c : Spot) (u : List Spot) (s : State) → StandsFor (params h f) u → params_step h f c ≡ Some s → StandsFor s (u ++ c ∷ [])
params_sound h f (name us, b) u s st e = the_state _ _ s e (over_on f _ (Parameters h (placed_word us b ∷ [])) u _ st.0 (λ w i. (w, (name us, b) ∷ [], i, one_name (placed_word us b), λ z. cc, refl)), st.1)
params_sound h f (word n, b) u s st e = no_params h f (word n, b) u s st e
params_sound h f (punct n, b) u s st e = no_params h f (punct n, b) u s st e
params_sound h f (num n, b) u s st e = no_params h f (num n, b) u s st e
params_sound h f (text n, b) u s st e = no_params h f (text n, b) u s st e

not_empty : (ps : List Word) (n : Word) → ps ++ n ∷ [] ≡ [] → ⊥
not_empty [] n e = cc
not_empty (p ∷ ps) n e = cc

pub param_sound : (h : Head) (ps : List Word) (f : Stack) (c : Spot) (u : List Spot) (s : State) → StandsFor (param h ps f) u → param_step h ps f c ≡ Some s → StandsFor s (u ++ c ∷ [])
param_sound h ps f (name us, b) u s st e = the_state _ _ s e (
  over_on f _ (Parameters h (ps ++ placed_word us b ∷ [])) u ((name us, b) ∷ []) st.0
      (λ z i. let p = i.2 in (
        p.0,
        p.1 ++ (comma, i.1) ∷ (name us, b) ∷ [],
        p.2,
        names_so ps p.1 i.1 (placed_word us b) p.3 p.4,
        not_empty ps (placed_word us b),
        ap (λ k. k ++ (name us, b) ∷ []) (i.3 ∙ ap (λ k. k ++ (comma, i.1) ∷ []) p.5) ∙ append_assoc (p.0 ++ p.1) ((comma, i.1) ∷ []) ((name us, b) ∷ []) ∙ append_assoc p.0 p.1 ((comma, i.1) ∷ (name us, b) ∷ []),
      )),
  st.1,
)
param_sound h ps f _ u s st e = none_some s e

pub param_end_sound : (h : Head) (ps : List Word) (f : Stack) (c : Spot) (u : List Spot) (s : State) → StandsFor (param_end h ps f) u → param_end_step h ps f c ≡ Some s → StandsFor s (u ++ c ∷ [])
param_end_sound h ps f c u s st e = token_or comma c (param h ps f) _ s u e (over_on f _ _ u ((comma, c.1) ∷ []) st.0 (λ w i. (w, c.1, i, refl)), st.1)
    (λ e g. token_so close_paren c (bodied h ps f) s u e (bodied_so h ps f c.1 u st.1 (over_as f _ _ u st.0 (λ w i. (i.0, i.1, i.2, i.3, i.5)))))

-- a function that is read
func_spelled : (h : Head) (ps : List Word) (ss : List S) (v w q : List Spot) (e g c : ℕ) → HeadTokens h v → Names ps w → Spells t.stmts free 1 (stmts_of ss) q
    → (r : List Spot) × Spells t.func free 0 (func_of h ps ss) r × (((v ++ (w ++ (close_paren, e) ∷ (open_brace, g) ∷ [])) ++ (q ++ (close_brace, c) ∷ [])) ≡ (function_word, h.begins) ∷ r)
func_spelled h ps ss v w q e g c hd ns p = (
  naming h.called ++ (open_paren, hd.0) ∷ (w ++ (close_paren, e) ∷ (open_brace, g) ∷ (q ++ (close_brace, c) ∷ [])),
  s_func h.begins hd.0 e g c h.called ps (stmts_of ss) w q ns p,
  ap (λ z. (z ++ (w ++ (close_paren, e) ∷ (open_brace, g) ∷ [])) ++ (q ++ (close_brace, c) ∷ [])) hd.2
      ∙ ap (λ z. (function_word, h.begins) ∷ z) (nest (naming h.called) ((open_paren, hd.0) ∷ []) w ((close_paren, e) ∷ (open_brace, g) ∷ []) (q ++ (close_brace, c) ∷ [])),
)
  where
    nest : (n o w k q : List Spot) → ((n ++ o) ++ (w ++ k)) ++ q ≡ n ++ (o ++ (w ++ (k ++ q)))
    nest n o w k q = append_assoc (n ++ o) (w ++ k) q ∙ append_assoc n o ((w ++ k) ++ q) ∙ ap (λ z. n ++ (o ++ z)) (append_assoc w k q)

declared_name : (h : Head) → h.declared ≡ true → NamedIf h.declared h.called → (n : Word) × (h.called ≡ Some n)
declared_name h e g = go h.called (subst (λ d. NamedIf d h.called) e g)
  where
    go : (o : Option Word) → NamedIf true o → (n : Word) × (o ≡ Some n)
    go None g = absurd g
    go (Some n) g = (n, refl)

pub func_closed : (h : Head) (ps : List Word) (ss : List S) (f : Stack) (c : ℕ) (u : List Spot) → Stands (body (a_function h ps) ss ∷ f) u → StandsFor (func_made h.declared (func_of h ps ss) f) (u ++ (close_brace, c) ∷ [])
func_closed h ps ss f c u st = by_kind h.declared refl
  where
    tokens_of : Over f (λ z. (r : List Spot) × Spells t.func free 0 (func_of h ps ss) r × (z ≡ (function_word, h.begins) ∷ r) × NamedIf h.declared h.called × FuncPlace h.declared f h.begins) (u ++ (close_brace, c) ∷ [])
    tokens_of = over_on f (Leads f (body (a_function h ps) ss)) _ u ((close_brace, c) ∷ []) (st.0, st.1, st.2, st.5, st.3, st.6)
        (λ z i. let k = i.2 in let r = func_spelled h ps ss k.0 k.1 i.1 k.2 k.3 c k.4 k.6 i.3 in
        (r.0, r.1, ap (λ y. y ++ (close_brace, c) ∷ []) (i.4 ∙ ap (λ y. y ++ i.1) k.7) ∙ append_assoc _ i.1 ((close_brace, c) ∷ []) ∙ r.2, k.4.1, k.5))

    by_kind : (d : Bool) → h.declared ≡ d → StandsFor (func_made d (func_of h ps ss) f) (u ++ (close_brace, c) ∷ [])
    by_kind false e = over_as f _ _ _ tokens_of (λ z i. subst (λ y. Spells t.expr (bars_of f) 16 (tree.function (func_of h ps ss)) y) (sym i.2) (s_function (bars_of f) 16 h.begins h.called ps (stmts_of ss) i.0 (omega arith) i.1))
    by_kind true e = let o = tokens_of in let place = subst (λ d. FuncPlace d f h.begins) e o.4.4 in let n = declared_name h e o.4.3 in
        more f place (o.0, o.1, o.2, o.3, (n.0, o.4.0, subst (λ m. Spells t.func free 0 (tree.fun m ps (stmts_of ss) h.begins) o.4.0) n.1 o.4.1, ap (λ m. tree.fun m ps (stmts_of ss) h.begins) n.1, o.4.2), o.5)
      where
        more : (f : Stack) → declares f ≡ true → Over f (λ z. (n : Word) × (r : List Spot) × Spells t.func free 0 (tree.fun (Some n) ps (stmts_of ss) h.begins) r × (func_of h ps ss ≡ tree.fun (Some n) ps (stmts_of ss) h.begins) × (z ≡ (function_word, h.begins) ∷ r)) (u ++ (close_brace, c) ∷ [])
            → StandsFor (func_made true (func_of h ps ss) f) (u ++ (close_brace, c) ∷ [])
        more (body b rs ∷ k) g o = (
          over_frame (body b (rs ++ tree.declare (func_of h ps ss) ∷ [])) k _ (inward (body b rs) k _ (Leads k (body b (rs ++ tree.declare (func_of h ps ss) ∷ []))) _ o
              (λ v w i p. (
                i.0,
                i.1 ++ w,
                i.2,
                subst (λ l. Spells t.stmts free (of_bool l) (stmts_of (rs ++ tree.declare (func_of h ps ss) ∷ [])) (i.1 ++ w)) (sym g)
                    (subst (λ y. Spells t.stmts free 1 (stmts_of (rs ++ tree.declare y ∷ [])) (i.1 ++ w)) (sym p.3) (subst (λ y. Spells t.stmts free 1 (stmts_of (rs ++ tree.declare (tree.fun (Some p.0) ps (stmts_of ss) h.begins) ∷ [])) (i.1 ++ y)) (sym p.4)
                    (declared_so rs i.1 h.begins p.0 ps (stmts_of ss) p.1 (subst (λ l. Spells t.stmts free (of_bool l) (stmts_of rs) i.1) g i.3) p.2))),
                ap (λ y. y ++ w) i.4 ∙ append_assoc i.0 i.1 w,
              ))) (asked_within (body b rs) k _ _ o),
          tt,
        )
        more [] g o = absurd cc
        more _ g o = absurd cc
