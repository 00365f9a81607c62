-- What is kept of a sheet that was read is read again as it is written.
use Rattle.std.proofs.Common.{◌≡◌, Bool, true, false, List, [], ◌∷◌, ◌++◌, Option, None, Some, refl, sym, ap, subst, ◌∙◌, append_assoc, append-nil, codes}
use Rattle.std.specs.Prelude.{if◌then◌else◌}
use Rattle.std.specs.List.{flat_map}
use Rattle.css_grammar.specs.Characters.{class, colon, semicolon, comma, open_brace, close_brace, number_sign}
use Rattle.css_grammar.specs.Sheets.{Text, Declaration, Rule, Body, with_declaration}
use Rattle.css_grammar.specs.Tokens as t
use Rattle.css_grammar.specs.Tokens.{Tail, none, closed, a_word, a_whole, a_fraction, a_hash, a_slash, free, Value}
use Rattle.css_grammar.specs.Grammar as g
use Rattle.css_grammar.specs.Grammar.{wanted, within, behind, Place, selecting, block, named, values, has_value, Leads, Spells}
use Rattle.css_kept.specs.Selectors.{keeps}
use Rattle.css_kept.specs.Table.{Answers, rows, values_in}
use Rattle.css_kept.specs.Kept.{scoped, with_values, kept_declaration, kept_rule, filled, cleaned}
use Rattle.css_kept.specs.Printed.{between}
use Rattle.css_kept.specs.OfTable.{Each}
use Rattle.css_kept.specs.Back.{IsScope, Quotable, written_declaration, written_rule, written}
use Rattle.css_kept.proofs.BackSelectors.{Readable, RuleReadable, readable, blank}
use Rattle.css_kept.proofs.BackValues.{Stands, Written, kept_written, plain_is_word, plain_lower, has_some}
use Rattle.css_kept.proofs.Lists.{each_flat_where, each_both}
use Rattle.css_kept.proofs.Unescaped.{DeclarationUnescaped, RuleUnescaped, values_unescaped}

-- a text that leads to a place, up to how it is put together
at : (p : Place) (u v : Text) → u ≡ v → Leads p u → Leads p v
at p u v e d = subst (Leads p) e d

colon_class : class 58 ≡ colon
unfolding class
colon_class = refl

semicolon_class : class 59 ≡ semicolon
unfolding class
semicolon_class = refl

comma_class : class 44 ≡ comma
unfolding class
comma_class = refl

open_class : class 123 ≡ open_brace
unfolding class
open_class = refl

close_class : class 125 ≡ close_brace
unfolding class
close_class = refl

sign_class : class 35 ≡ number_sign
unfolding class
sign_class = refl

-- ---- values

free_none : (v : Text) → free none v ≡ true
free_none [] = refl
free_none (c ∷ v) = refl

free_closed : (v : Text) → free closed v ≡ true
free_closed [] = refl
free_closed (c ∷ v) = refl

spaced_values : (k : Tail) (b : Body) (n : Text) (vs : List Text) (u : Text) → has_value k ≡ true → Leads (values k b n vs) u → Leads (values closed b n vs) (u ++ 32 ∷ [])
spaced_values none b n vs u h d = absurd cc
spaced_values closed b n vs u h d = g.white (values closed b n vs) u 32 false d blank
spaced_values a_word b n vs u h d = g.white (values a_word b n vs) u 32 false d blank
spaced_values a_whole b n vs u h d = g.white (values a_whole b n vs) u 32 false d blank
spaced_values a_fraction b n vs u h d = g.white (values a_fraction b n vs) u 32 false d blank
spaced_values a_hash b n vs u h d = g.white (values a_hash b n vs) u 32 false d blank
spaced_values a_slash b n vs u h d = g.white (values a_slash b n vs) u 32 false d blank

-- behind at least one value
pub record Behind (b : Body) (n : Text) (vs : List Text) (u : Text) : Type 0 where
  pub tail : Tail
  pub is_some : has_value tail ≡ true
  pub leads : Leads (values tail b n vs) u

tail_some : (v w : Text) (j : Tail) → Value v w j → has_value j ≡ true
tail_some _ _ _ (t.v_word w x) = refl
tail_some _ _ _ (t.v_call w i a b x e f g) = refl
tail_some _ _ _ (t.v_whole w x) = refl
tail_some _ _ _ (t.v_fraction w x) = refl
tail_some _ _ _ (t.v_percent_whole w c x e) = refl
tail_some _ _ _ (t.v_percent_fraction w c x e) = refl
tail_some _ _ _ (t.v_unit_whole w v x y) = refl
tail_some _ _ _ (t.v_unit_fraction w v x y) = refl
tail_some _ _ _ (t.v_hash w x) = refl
tail_some _ _ _ (t.v_text w q x) = refl
tail_some _ _ _ (t.v_important c w e f) = refl
tail_some _ _ _ (t.v_comma c e) = refl
tail_some _ _ _ (t.v_slash c e) = refl

more_values : (b : Body) (n : Text) (vs ws : List Text) (u : Text) → Each Stands ws → Behind b n vs u → Behind b n (vs ++ ws) (u ++ flat_map (λ (t : Text). 32 ∷ t) ws)
more_values b n vs [] u h d = subst (λ (z : Text). Behind b n (vs ++ []) z) (sym (append-nil u)) (subst (λ (z : List Text). Behind b n z u) (sym (append-nil vs)) d)
more_values b n vs (w ∷ ws) u h d =
    let s = spaced_values d.tail b n vs u d.is_some d.leads in
    let e = g.value closed h.0.0 b n (u ++ 32 ∷ []) w w vs s h.0.1 (free_closed w) in
    let r = more_values b n (vs ++ w ∷ []) ws ((u ++ 32 ∷ []) ++ w) h.1 (record { tail = h.0.0; is_some = tail_some w w h.0.0 h.0.1; leads = e }) in
    subst (λ (z : Text). Behind b n (vs ++ w ∷ ws) z) (append_assoc (u ++ 32 ∷ []) w (flat_map (λ (t : Text). 32 ∷ t) ws) ∙ append_assoc u (32 ∷ []) (w ++ flat_map (λ (t : Text). 32 ∷ t) ws))
    (subst (λ (z : List Text). Behind b n z (((u ++ 32 ∷ []) ++ w) ++ flat_map (λ (t : Text). 32 ∷ t) ws)) (append_assoc vs (w ∷ []) ws) r)

-- values behind a `:`
all_values : (b : Body) (n : Text) (u : Text) (vs : List Text) → Leads (values none b n []) u → has_some vs ≡ true → Each Stands vs → Behind b n vs (u ++ between 32 (λ (t : Text). t) vs)
all_values b n u [] d e f = absurd cc
all_values b n u (v ∷ vs) d e f =
    let s = g.value none f.0.0 b n u v v [] d f.0.1 (free_none v) in
    let r = more_values b n (v ∷ []) vs (u ++ v) f.1 (record { tail = f.0.0; is_some = tail_some v v f.0.0 f.0.1; leads = s }) in
    subst (λ (z : Text). Behind b n (v ∷ vs) z) (append_assoc u v (flat_map (λ (t : Text). 32 ∷ t) vs)) r

-- a declaration in a block
declared : (h : Bool) (b : Body) (d : Declaration) (u : Text) → Written d.name d.values → Leads (block h b) u → Behind b d.name d.values (u ++ written_declaration d)
declared h b d u x l =
    let name : Leads (named b d.name) (u ++ d.name) = subst (λ (z : Text). Leads (named b z) (u ++ d.name)) (plain_lower d.name x.plain) (g.name h b u d.name l (plain_is_word d.name x.plain)) in
    let begun : Leads (values none b d.name []) ((u ++ d.name) ++ 58 ∷ []) = g.colons b d.name (u ++ d.name) 58 name colon_class in
    let vs = between 32 (λ (t : Text). t) d.values in
    subst (λ (z : Text). Behind b d.name d.values z) (append_assoc (u ++ d.name) (58 ∷ []) vs ∙ append_assoc u d.name (58 ∷ vs)) (all_values b d.name ((u ++ d.name) ++ 58 ∷ []) d.values begun x.some x.values)

abbrev pub WrittenDeclaration : Declaration → Type 0
WrittenDeclaration d = Written d.name d.values

-- declarations behind one, and the end of the block
block_ends : (b : Body) (n : Text) (vs : List Text) (ds : List Declaration) (u : Text) → Each WrittenDeclaration ds → Behind b n vs u
    → Leads (selecting wanted (b.rules ++ record { selectors = b.selectors; declarations = b.declarations ++ record { name = n; values = vs } ∷ ds } ∷ []) [] []) (u ++ (flat_map (λ d. 59 ∷ written_declaration d) ds ++ 125 ∷ []))
block_ends b n vs [] u h d = g.ends_closes d.tail b n u vs 125 d.leads d.is_some close_class
block_ends b n vs (e ∷ ds) u h d =
    let q = with_declaration b n vs in
    let s = g.ends d.tail b n u vs 59 d.leads d.is_some semicolon_class in
    let f = declared true q e (u ++ 59 ∷ []) h.0 s in
    let r = block_ends q e.name e.values ds ((u ++ 59 ∷ []) ++ written_declaration e) h.1 f in
    let x = flat_map (λ d. 59 ∷ written_declaration d) ds ++ 125 ∷ [] in
    at _ (((u ++ 59 ∷ []) ++ written_declaration e) ++ x) (u ++ ((59 ∷ written_declaration e ++ flat_map (λ d. 59 ∷ written_declaration d) ds) ++ 125 ∷ []))
    (append_assoc (u ++ 59 ∷ []) (written_declaration e) x ∙ append_assoc u (59 ∷ []) (written_declaration e ++ x)
    ∙ ap (λ (z : Text). u ++ 59 ∷ z) (sym (append_assoc (written_declaration e) (flat_map (λ d. 59 ∷ written_declaration d) ds) (125 ∷ []))))
    (subst (λ (z : List Declaration). Leads (selecting wanted (b.rules ++ record { selectors = b.selectors; declarations = z } ∷ []) [] []) (((u ++ 59 ∷ []) ++ written_declaration e) ++ x))
    (append_assoc b.declarations (record { name = n; values = vs } ∷ []) (e ∷ ds)) r)

-- ---- selectors

-- what is read of a selector, behind the scope
abbrev pub Scoped : Text → Text → Type 0
Scoped scope t = (s : Text) × (t ≡ scope ++ (codes " " ++ s)) × Readable s

one_selector : (rs : List Rule) (ss : List Text) (scope t u : Text) → IsScope scope → Scoped scope t → Leads (selecting wanted rs ss []) u → Leads (selecting within rs ss t) (u ++ t)
one_selector rs ss scope t u i x d =
    let w : Text = i.0 in
    let hash : Leads (selecting within rs ss scope) (u ++ scope) = subst (λ (z : Text). Leads (selecting within rs ss z) (u ++ z)) (sym i.1) (g.part wanted rs ss [] u w 35 d (ap g.is_raw sign_class) i.2) in
    let blanked : Leads (selecting behind rs ss scope) ((u ++ scope) ++ 32 ∷ []) = g.white (selecting within rs ss scope) (u ++ scope) 32 false hash blank in
    let r : Leads (selecting within rs ss ((scope ++ 32 ∷ []) ++ x.0)) (((u ++ scope) ++ 32 ∷ []) ++ x.0) = x.2 rs ss ((u ++ scope) ++ 32 ∷ []) scope blanked in
    let e : (scope ++ 32 ∷ []) ++ x.0 ≡ t = append_assoc scope (32 ∷ []) x.0 ∙ sym x.1 in
    let f : ((u ++ scope) ++ 32 ∷ []) ++ x.0 ≡ u ++ t = append_assoc (u ++ scope) (32 ∷ []) x.0 ∙ append_assoc u scope (32 ∷ x.0) ∙ ap (λ (z : Text). u ++ z) (sym x.1) in
    at (selecting within rs ss t) (((u ++ scope) ++ 32 ∷ []) ++ x.0) (u ++ t) f (subst (λ (z : Text). Leads (selecting within rs ss z) (((u ++ scope) ++ 32 ∷ []) ++ x.0)) e r)

-- selectors behind one, and the beginning of the block
block_begins : (rs : List Rule) (done : List Text) (t : Text) (ss : List Text) (scope u : Text) → IsScope scope → Each (Scoped scope) ss → Leads (selecting within rs done t) u
    → Leads (block false (record { rules = rs; selectors = done ++ t ∷ ss; declarations = [] })) (u ++ (flat_map (λ (s : Text). 44 ∷ s) ss ++ 123 ∷ []))
block_begins rs done t [] scope u i h d = g.opens within rs done t u 123 d refl open_class
block_begins rs done t (s ∷ ss) scope u i h d =
    let c = g.next within rs done t u 44 d refl comma_class in
    let e = one_selector rs (done ++ t ∷ []) scope s (u ++ 44 ∷ []) i h.0 c in
    let r = block_begins rs (done ++ t ∷ []) s ss scope ((u ++ 44 ∷ []) ++ s) i h.1 e in
    let x = flat_map (λ (s : Text). 44 ∷ s) ss ++ 123 ∷ [] in
    at _ (((u ++ 44 ∷ []) ++ s) ++ x) (u ++ ((44 ∷ s ++ flat_map (λ (s : Text). 44 ∷ s) ss) ++ 123 ∷ []))
    (append_assoc (u ++ 44 ∷ []) s x ∙ append_assoc u (44 ∷ []) (s ++ x) ∙ ap (λ (z : Text). u ++ 44 ∷ z) (sym (append_assoc s (flat_map (λ (s : Text). 44 ∷ s) ss) (123 ∷ []))))
    (subst (λ (z : List Text). Leads (block false (record { rules = rs; selectors = z; declarations = [] })) (((u ++ 44 ∷ []) ++ s) ++ x)) (append_assoc done (t ∷ []) (s ∷ ss)) r)

-- ---- rules

-- a rule with selectors behind the scope and declarations that are written as they are printed
pub record RuleWritten (scope : Text) (r : Rule) : Type 0 where
  pub some_selectors : has_some r.selectors ≡ true
  pub selectors_scoped : Each (Scoped scope) r.selectors
  pub declarations : (d : Declaration) × (ds : List Declaration) × (r.declarations ≡ d ∷ ds) × WrittenDeclaration d × Each WrittenDeclaration ds

one_rule : (rs : List Rule) (scope u : Text) (r : Rule) → IsScope scope → RuleWritten scope r → Leads (selecting wanted rs [] []) u → Leads (selecting wanted (rs ++ r ∷ []) [] []) (u ++ written_rule r)
one_rule rs scope u r i x l = by_selectors r.selectors r.declarations x.some_selectors x.selectors_scoped x.declarations
  where
    by_selectors : (ss : List Text) (es : List Declaration) → has_some ss ≡ true → Each (Scoped scope) ss → ((d : Declaration) × (ds : List Declaration) × (es ≡ d ∷ ds) × WrittenDeclaration d × Each WrittenDeclaration ds)
        → Leads (selecting wanted (rs ++ record { selectors = ss; declarations = es } ∷ []) [] []) (u ++ written_rule (record { selectors = ss; declarations = es }))
    by_selectors [] es e h y = absurd cc
    by_selectors (s ∷ ss) es e h y =
        let d : Declaration = y.0 in
        let ds : List Declaration = y.1 in
        let f = one_selector rs [] scope s u i h.0 l in
        let k = block_begins rs [] s ss scope (u ++ s) i h.1 f in
        let b : Body = record { rules = rs; selectors = s ∷ ss; declarations = [] } in
        let front = flat_map (λ (s : Text). 44 ∷ s) ss in
        let m = declared false b d ((u ++ s) ++ (front ++ 123 ∷ [])) y.3 k in
        let q = block_ends b d.name d.values ds (((u ++ s) ++ (front ++ 123 ∷ [])) ++ written_declaration d) y.4 m in
        let z = flat_map (λ d. 59 ∷ written_declaration d) ds in
        subst (λ (v : List Declaration). Leads (selecting wanted (rs ++ record { selectors = s ∷ ss; declarations = v } ∷ []) [] []) (u ++ written_rule (record { selectors = s ∷ ss; declarations = v }))) (sym y.2)
        (at (selecting wanted (rs ++ record { selectors = s ∷ ss; declarations = d ∷ ds } ∷ []) [] []) ((((u ++ s) ++ (front ++ 123 ∷ [])) ++ written_declaration d) ++ (z ++ 125 ∷ [])) (u ++ written_rule (record { selectors = s ∷ ss; declarations = d ∷ ds }))
        (append_assoc ((u ++ s) ++ (front ++ 123 ∷ [])) (written_declaration d) (z ++ 125 ∷ [])
        ∙ ap (λ (v : Text). ((u ++ s) ++ (front ++ 123 ∷ [])) ++ v) (sym (append_assoc (written_declaration d) z (125 ∷ [])))
        ∙ append_assoc (u ++ s) (front ++ 123 ∷ []) ((written_declaration d ++ z) ++ 125 ∷ [])
        ∙ append_assoc u s ((front ++ 123 ∷ []) ++ ((written_declaration d ++ z) ++ 125 ∷ []))
        ∙ ap (λ (v : Text). u ++ (s ++ v)) (append_assoc front (123 ∷ []) ((written_declaration d ++ z) ++ 125 ∷ []))
        ∙ ap (λ (v : Text). u ++ v) (sym (append_assoc s front (123 ∷ ((written_declaration d ++ z) ++ 125 ∷ []))))) q)

all_rules : (rs qs : List Rule) (scope u : Text) → IsScope scope → Each (RuleWritten scope) qs → Leads (selecting wanted rs [] []) u → Leads (selecting wanted (rs ++ qs) [] []) (u ++ written qs)
all_rules rs [] scope u i h d = subst (λ (z : Text). Leads (selecting wanted (rs ++ []) [] []) z) (sym (append-nil u)) (subst (λ (z : List Rule). Leads (selecting wanted z [] []) u) (sym (append-nil rs)) d)
all_rules rs (r ∷ qs) scope u i h d =
    at (selecting wanted (rs ++ r ∷ qs) [] []) ((u ++ written_rule r) ++ written qs) (u ++ (written_rule r ++ written qs)) (append_assoc u (written_rule r) (written qs))
    (subst (λ (z : List Rule). Leads (selecting wanted z [] []) ((u ++ written_rule r) ++ written qs)) (append_assoc rs (r ∷ []) qs) (all_rules (rs ++ r ∷ []) qs scope (u ++ written_rule r) i h.1 (one_rule rs scope u r i h.0 d)))

-- ---- what is kept

selector_known : (scope s : Text) → Readable s → Each (Scoped scope) (scoped scope s)
selector_known scope s h = by_test (keeps s)
  where
    by_test : (b : Bool) → Each (Scoped scope) (if b then (scope ++ (codes " " ++ s)) ∷ [] else [])
    by_test true = ((s, refl, h), tt)
    by_test false = tt

declaration_known : (a : Answers) (d : Declaration) → Quotable a → DeclarationUnescaped d → Each WrittenDeclaration (kept_declaration a d)
declaration_known a d q y = by_values (values_in rows a d.name d.values) refl
  where
    by_values : (o : Option (List Text)) → values_in rows a d.name d.values ≡ o → Each WrittenDeclaration (with_values d.name o)
    by_values None e = tt
    by_values (Some vs) e = (kept_written a d.name d.values vs q y e, tt)

filled_known : (scope : Text) (ss : List Text) (ds : List Declaration) → Each (Scoped scope) ss → Each WrittenDeclaration ds → Each (RuleWritten scope) (filled ss ds)
filled_known scope [] ds h k = tt
filled_known scope (s ∷ ss) [] h k = tt
filled_known scope (s ∷ ss) (d ∷ ds) h k = (record { some_selectors = refl; selectors_scoped = h; declarations = (d, ds, refl, k.0, k.1) }, tt)

-- what is known of a rule that was read
abbrev pub RuleRead : Rule → Type 0
RuleRead r = RuleReadable r × RuleUnescaped r

rule_known : (a : Answers) (scope : Text) → Quotable a → (r : Rule) → RuleRead r → Each (RuleWritten scope) (kept_rule a scope r)
rule_known a scope q r h =
    filled_known scope (flat_map (scoped scope) r.selectors) (flat_map (kept_declaration a) r.declarations) (each_flat_where Readable (Scoped scope) (scoped scope) (selector_known scope) r.selectors h.0)
    (each_flat_where DeclarationUnescaped WrittenDeclaration (kept_declaration a) (λ d y. declaration_known a d q y) r.declarations h.1)

pub cleaned_known : (a : Answers) (scope : Text) (rs : List Rule) (u : Text) → Quotable a → Spells rs u → Each (RuleWritten scope) (cleaned a scope rs)
cleaned_known a scope rs u q d = each_flat_where RuleRead (RuleWritten scope) (kept_rule a scope) (rule_known a scope q) rs (each_both RuleReadable RuleUnescaped rs (readable rs u d) (values_unescaped rs u d))

pub read_back : (a : Answers) (scope : Text) (rs : List Rule) (u : Text) → Quotable a → IsScope scope → Spells rs u → Spells (cleaned a scope rs) (written (cleaned a scope rs))
read_back a scope rs u q i d = all_rules [] (cleaned a scope rs) scope [] i (cleaned_known a scope rs u q d) g.begins
