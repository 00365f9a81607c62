-- What is written of what is kept is the UTF-8 of the units that spell it.
use Rattle.std.proofs.Common.{◌≡◌, inl, inr, ℕ, ◌<◌, Bool, true, false, List, [], ◌∷◌, ◌++◌, Ok, Option, None, Some, refl, sym, ap, subst, ◌∙◌, not, nat_eq, codes, arith, append-nil}
use Rattle.std.specs.Prelude.{if◌then◌else◌}
use Rattle.std.specs.List.{list_all, flat_map}
use Rattle.std.specs.Char.Escape.{encode_utf16}
use Rattle.std.specs.Str.{chars, is_utf8, all_scalars, encode_utf8_all, IsUtf8}
use Rattle.std.proofs.Math.Utf8.{scalar, encode}
use Rattle.std.proofs.str.Utf16.{one_unit}
use Rattle.std.proofs.lemmas.Str.{chars-encodes, encode_ascii, encodes-append, is_utf8-from_IsUtf8}
use Rattle.std.proofs.lemmas.Grind.{flat_map-append}
use Rattle.std.proofs.lemmas.Bool.Decides.{nat_tests}
use Rattle.caja_units.specs.Utf8.{units_of_chars, utf8_of}
use Rattle.caja_units.proofs.Decoded.{decoded-IsUtf8}
use Rattle.caja_units.proofs.Ascii.{utf8_of-decoded}
use Rattle.css_grammar.specs.Sheets.{Text, Declaration, Rule}
use Rattle.css_grammar.specs.Grammar.{Spells}
use Rattle.css_kept.specs.Selectors.{keeps}
use Rattle.css_kept.specs.Table.{Answers, no_urls, rows, link, values_in}
use Rattle.css_kept.specs.Kept.{scoped, with_values, kept_declaration, kept_rule, cleaned}
use Rattle.css_kept.specs.Printed.{between, printed_declaration, printed_rule, printed}
use Rattle.css_kept.specs.OfTable.{Each}
use Rattle.css_kept.specs.Links.{IsPlain, is_simple}
use Rattle.css_kept.specs.Back.{OfChars, IsScope, Quotable, written_declaration, written_rule, written}
use Rattle.css_kept.proofs.Classes.{and_left, and_right, and_both, is_ascii, all_ascii, all_both, all_are}
use Rattle.css_kept.proofs.Ascii.{word_ascii, KeptAscii, RuleAscii, kept_ascii}
use Rattle.css_kept.proofs.Links.{plain}
use Rattle.css_kept.proofs.BackValues.{kept_written, plain_is_word}
use Rattle.css_kept.proofs.BackSheets.{read_back}
use Rattle.css_kept.proofs.Lists.{each_flat_where, each_both, each_filled}
use Rattle.css_kept.proofs.Unescaped.{Unescaped, DeclarationUnescaped, RuleUnescaped, values_unescaped, link_unescaped}

-- the bytes are the UTF-8 of the characters whose units these are
abbrev pub Same : List ℕ → Text → Type 0
Same bs us = (cs : List ℕ) × (bs ≡ encode_utf8_all cs) × (us ≡ units_of_chars cs) × (all_scalars cs ≡ true)

scalars_append : (cs ds : List ℕ) → all_scalars cs ≡ true → all_scalars ds ≡ true → all_scalars (cs ++ ds) ≡ true
scalars_append [] ds e f = f
scalars_append (c ∷ cs) ds e f = and_both (scalar c) (all_scalars (cs ++ ds)) (and_left (scalar c) (all_scalars cs) e) (scalars_append cs ds (and_right (scalar c) (all_scalars cs) e) f)

both : (bs ds : List ℕ) (us vs : Text) → Same bs us → Same ds vs → Same (bs ++ ds) (us ++ vs)
both bs ds us vs h k = (
  h.0 ++ k.0,
  ap (λ (x : List ℕ). x ++ ds) h.1 ∙ ap (λ (x : List ℕ). encode_utf8_all h.0 ++ x) k.1 ∙ sym (encodes-append h.0 k.0),
  ap (λ (x : List ℕ). x ++ vs) h.2 ∙ ap (λ (x : List ℕ). units_of_chars h.0 ++ x) k.2 ∙ sym (flat_map-append encode_utf16 h.0 k.0),
  scalars_append h.0 k.0 h.3 k.3,
)

nothing : Same [] []
nothing = ([], refl, refl, refl)

-- the UTF-8 of the units of characters is that of the characters
utf8_chars : (cs : List ℕ) → all_scalars cs ≡ true → utf8_of (units_of_chars cs) ≡ encode_utf8_all cs
utf8_chars cs h =
    let good : IsUtf8 (encode_utf8_all cs) = (cs, (h, refl)) in
    utf8_of-decoded (encode_utf8_all cs) (units_of_chars cs) (decoded-IsUtf8 (encode_utf8_all cs) good ∙ ap (λ (s : List ℕ). Ok (units_of_chars s)) (chars-encodes cs h))

text : (us : Text) → OfChars us → Same (utf8_of us) us
text us h = (h.0, ap utf8_of h.1 ∙ utf8_chars h.0 h.2, h.1, h.2)

small : (c : ℕ) → is_ascii c ≡ true → (c < 128) × (scalar c ≡ true)
small c e = ((let f : c < 128 = grind (arith, nat_tests) in f), grind (arith, nat_tests))

byte : (c : ℕ) → is_ascii c ≡ true → Same (c ∷ []) (c ∷ [])
byte c e =
    let h = small c e in
    let lt = h.0 in
    (c ∷ [], sym (append-nil (encode c) ∙ encode_ascii c lt), sym (append-nil (encode_utf16 c) ∙ one_unit c (let f : c < 0x1_0000 = omega (arith, lt) in f)), and_both (scalar c) true h.1 refl)

ascii_units : (vs : Text) → all_ascii vs ≡ true → (vs ≡ units_of_chars vs) × (all_scalars vs ≡ true)
ascii_units [] e = (refl, refl)
ascii_units (c ∷ vs) e =
    let h = small c (and_left (is_ascii c) (all_ascii vs) e) in
    let lt = h.0 in
    let r = ascii_units vs (and_right (is_ascii c) (all_ascii vs) e) in (
      sym (ap (λ (x : List ℕ). x ++ units_of_chars vs) (one_unit c (let f : c < 0x1_0000 = omega (arith, lt) in f)) ∙ ap (λ (x : List ℕ). c ∷ x) (sym r.0)),
      and_both (scalar c) (all_scalars vs) h.1 r.1,
    )

ascii : (us : Text) → all_ascii us ≡ true → OfChars us
ascii us e = let s = ascii_units us e in (us, s.0, s.1)

chars_both : (us vs : Text) → OfChars us → OfChars vs → OfChars (us ++ vs)
chars_both us vs h k = (h.0 ++ k.0, ap (λ (x : List ℕ). x ++ vs) h.1 ∙ ap (λ (x : List ℕ). units_of_chars h.0 ++ x) k.1 ∙ sym (flat_map-append encode_utf16 h.0 k.0), scalars_append h.0 k.0 h.2 k.2)

flat : {X : Type 0} (Q : X → Type 0) (f g : X → List ℕ) → ((x : X) → Q x → Same (f x) (g x)) → (xs : List X) → Each Q xs → Same (flat_map f xs) (flat_map g xs)
flat Q f g h [] e = nothing
flat Q f g h (x ∷ xs) e = both (f x) (flat_map f xs) (g x) (flat_map g xs) (h x e.0) (flat Q f g h xs e.1)

behind : {X : Type 0} (Q : X → Type 0) (c : ℕ) (f g : X → List ℕ) → is_ascii c ≡ true → ((x : X) → Q x → Same (f x) (g x)) → (xs : List X) → Each Q xs → Same (between c f xs) (between c g xs)
behind Q c f g a h [] e = nothing
behind Q c f g a h (x ∷ xs) e =
    both (f x) (flat_map (λ y. c ∷ f y) xs) (g x) (flat_map (λ y. c ∷ g y) xs) (h x e.0)
    (flat Q (λ y. c ∷ f y) (λ y. c ∷ g y) (λ y q. both (c ∷ []) (f y) (c ∷ []) (g y) (byte c a) (h y q)) xs e.1)

abbrev pub DeclarationOfChars : Declaration → Type 0
DeclarationOfChars d = OfChars d.name × Each OfChars d.values

abbrev pub RuleOfChars : Rule → Type 0
RuleOfChars r = Each OfChars r.selectors × Each DeclarationOfChars r.declarations

declaration : (d : Declaration) → DeclarationOfChars d → Same (printed_declaration d) (written_declaration d)
declaration d h =
    both (utf8_of d.name) (58 ∷ between 32 utf8_of d.values) d.name (58 ∷ between 32 (λ (t : Text). t) d.values) (text d.name h.0)
    (both (58 ∷ []) (between 32 utf8_of d.values) (58 ∷ []) (between 32 (λ (t : Text). t) d.values) (byte 58 refl) (behind OfChars 32 utf8_of (λ (t : Text). t) refl text d.values h.1))

rule : (r : Rule) → RuleOfChars r → Same (printed_rule r) (written_rule r)
rule r h =
    let ds = between 59 printed_declaration r.declarations in
    let es = between 59 written_declaration r.declarations in
    both (between 44 utf8_of r.selectors) (123 ∷ (ds ++ 125 ∷ [])) (between 44 (λ (t : Text). t) r.selectors) (123 ∷ (es ++ 125 ∷ [])) (behind OfChars 44 utf8_of (λ (t : Text). t) refl text r.selectors h.0)
    (both (123 ∷ []) (ds ++ 125 ∷ []) (123 ∷ []) (es ++ 125 ∷ []) (byte 123 refl) (both ds (125 ∷ []) es (125 ∷ []) (behind DeclarationOfChars 59 printed_declaration written_declaration refl declaration r.declarations h.1) (byte 125 refl)))

-- ---- what is kept is of characters

scope_ascii : (scope : Text) → IsScope scope → all_ascii scope ≡ true
scope_ascii scope i = subst (λ (z : Text). all_ascii z ≡ true) (sym i.1) (word_ascii i.0 i.2)

selector_chars : (scope s : Text) → IsScope scope → KeptAscii s → Each OfChars (scoped scope s)
selector_chars scope s i h = by_test (keeps s) refl
  where
    by_test : (b : Bool) → keeps s ≡ b → Each OfChars (if b then (scope ++ (codes " " ++ s)) ∷ [] else [])
    by_test true e = (ascii (scope ++ (codes " " ++ s)) (all_both is_ascii scope (codes " " ++ s) (scope_ascii scope i) (h e)), tt)
    by_test false e = tt

simple_ascii : (v : Text) → list_all is_simple v ≡ true → all_ascii v ≡ true
simple_ascii v e = all_are is_simple is_ascii (λ c h. and_left (is_ascii c) (not (nat_eq c 40)) h) v e

-- a value that is kept of these
value_chars : (a : Answers) (vs : List Text) (w : Text) → Quotable a → Each Unescaped vs → IsPlain a vs w → OfChars w
value_chars a vs w q y (inl e) = ascii w (simple_ascii w e)
value_chars a vs w q y (inr x) =
    let l = link_unescaped x.0 (subst (Each Unescaped) x.2 y).0 in
    subst OfChars (sym x.4) (chars_both (codes "url(\"" ++ x.1) (codes "\")") (chars_both (codes "url(\"") x.1 (ascii (codes "url(\"") refl) (q (link x.0) x.1 l x.3).1) (ascii (codes "\")") refl))

values_chars : (a : Answers) (vs ws : List Text) → Quotable a → Each Unescaped vs → Each (IsPlain a vs) ws → Each OfChars ws
values_chars a vs [] q y h = tt
values_chars a vs (w ∷ ws) q y h = (value_chars a vs w q y h.0, values_chars a vs ws q y h.1)

declaration_chars : (a : Answers) (d : Declaration) → Quotable a → DeclarationUnescaped d → Each DeclarationOfChars (kept_declaration a d)
declaration_chars a d q y = by_values (values_in rows a d.name d.values) refl
  where
    by_values : (o : Option (List Text)) → values_in rows a d.name d.values ≡ o → Each DeclarationOfChars (with_values d.name o)
    by_values None e = tt
    by_values (Some vs) e = ((ascii d.name (word_ascii d.name (plain_is_word d.name (kept_written a d.name d.values vs q y e).plain)), values_chars a d.values vs q y (plain a d.name d.values vs e)), tt)

-- what is known of a rule that was read
abbrev pub RuleRead : Rule → Type 0
RuleRead r = RuleAscii r × RuleUnescaped r

rule_chars : (a : Answers) (scope : Text) → Quotable a → IsScope scope → (r : Rule) → RuleRead r → Each RuleOfChars (kept_rule a scope r)
rule_chars a scope q i r h =
    each_filled OfChars DeclarationOfChars (flat_map (scoped scope) r.selectors) (flat_map (kept_declaration a) r.declarations)
    (each_flat_where KeptAscii OfChars (scoped scope) (λ s. selector_chars scope s i) r.selectors h.0)
    (each_flat_where DeclarationUnescaped DeclarationOfChars (kept_declaration a) (λ d y. declaration_chars a d q y) r.declarations h.1)

rules_chars : (a : Answers) (scope : Text) (rs : List Rule) (u : Text) → Quotable a → IsScope scope → Spells rs u → Each RuleOfChars (cleaned a scope rs)
rules_chars a scope rs u q i d = each_flat_where RuleRead RuleOfChars (kept_rule a scope) (rule_chars a scope q i) rs (each_both RuleAscii RuleUnescaped rs (kept_ascii rs u d) (values_unescaped rs u d))

pub bytes_back : (a : Answers) (scope : Text) (rs : List Rule) (u : Text) → Quotable a → IsScope scope → Spells rs u
    → (is_utf8 (printed (cleaned a scope rs)) ≡ true) × Spells (cleaned a scope rs) (units_of_chars (chars (printed (cleaned a scope rs))))
bytes_back a scope rs u q i d =
    let c = cleaned a scope rs in
    let s = flat RuleOfChars printed_rule written_rule rule c (rules_chars a scope rs u q i d) in
    let e : chars (printed c) ≡ s.0 = ap chars s.1 ∙ chars-encodes s.0 s.3 in
    let f : written c ≡ units_of_chars (chars (printed c)) = s.2 ∙ ap units_of_chars (sym e) in
    (is_utf8-from_IsUtf8 (printed c) (s.0, (s.3, sym s.1)), subst (Spells c) f (read_back a scope rs u q i d))

pub no_urls_quotable : Quotable no_urls
no_urls_quotable t u x e = absurd cc
