-- The text of a URL that is answered begins with `http://` or `https://`; what begins with another scheme isn't answered.
use Rattle.std.proofs.Common.{◌≡◌, ℕ, Bool, true, false, ◌&&◌, ◌||◌, List, ◌++◌, drop, Option, Some, None, Result, Ok, Err, inl, inr, refl, sym, ap, subst, ◌∙◌, codes, ⊎_elim, ◌<◌, not, arith, length}
use Rattle.std.specs.Prelude.{◌⊎◌, IfOk, bytes_eq, if◌then◌else◌, decimal, slice_index}
use Rattle.std.specs.Net.Addr.{ipv4_octets}
use Rattle.std.specs.Net.Text.{dotted_text}
use Rattle.std.specs.List.{concat, list_all}
use Rattle.std.proofs.lemmas.Bool.{and_parts}
use Rattle.std.proofs.lemmas.Bool.Decides.{nat_tests}
use Rattle.std.proofs.lemmas.List.{length-append}
use Rattle.std.proofs.lemmas.Slice.Eq.{bytes_eq-Decides}
use Rattle.url.specs.declared.error.ParseError.{ParseError}
use Rattle.url.specs.declared.host.Host.{Host}
use Rattle.url.specs.declared.host.Host.TheVariants.{Domain, Ipv4, Ipv6}
use Rattle.url.specs.Input.{is_empty, when}
use Rattle.url.specs.Host.{host_text, is_empty_host}
use Rattle.url.specs.Parts.{Parts, has_host, has_credentials, has_authority, host_or_empty, pieces, serialize}
use Rattle.url.specs.Parser.{parse_url}
use Rattle.url.proofs.SetterLemmas.{authority_from_host}
use Rattle.caja_units.specs.Utf8.{utf8_of}
use Rattle.url_rule.specs.declared.ask.UriKind.{UriKind}
use Rattle.url_rule.specs.Table.{Row, allows}
use Rattle.url_rule.specs.Reading.{stays, may_stand, is_web, of_parsed, read}
use Rattle.url_rule.specs.Answers.{IsNamed, IsOfWeb, scheme_of}
use Rattle.url_rule.proofs.Scheme.{parsed_scheme, parsed_none}
use Rattle.url_rule.proofs.Places.{stays_none}
use Rattle.url_rule.proofs.Cases.{answered}

one_of_two : (b c : Bool) → (b || c) ≡ true → (b ≡ true) ⊎ (c ≡ true)
one_of_two true c e = inl refl
one_of_two false c e = inr e

schemes : (s : List ℕ) → is_web s ≡ true → (s ≡ codes "http") ⊎ (s ≡ codes "https")
schemes s e =
    ⊎_elim (λ h. inl ((bytes_eq-Decides s (codes "http")).0 h)) (λ h. inr ((bytes_eq-Decides s (codes "https")).0 h))
    (one_of_two (bytes_eq s (codes "http")) (bytes_eq s (codes "https")) e)

-- what stands behind the scheme and `://`
abbrev pub rest : Parts → List ℕ
rest u = concat (drop 2 (pieces u))

dotted : (a b c d : ℕ) → 0 < length (dotted_text a b c d)
dotted a b c d =
    let front = decimal a ++ codes "." ++ decimal b ++ codes "." ++ decimal c in
    let x = length-append (front ++ codes ".") (decimal d) in
    let y = length-append front (codes ".") in
    omega (arith, x, y)

-- a host that isn't empty has a text
host_some : (h : Host (List ℕ)) → is_empty_host h ≡ false → 0 < length (host_text h)
host_some (Domain d) e = grind (arith, nat_tests)
host_some (Ipv4 a) e = let o = ipv4_octets a in dotted (slice_index o 0) (slice_index o 1) (slice_index o 2) (slice_index o 3)
host_some (Ipv6 a) e = omega arith

rest_some : (u : Parts) → 0 < length (host_text (host_or_empty u)) → 0 < length (rest u)
rest_some u h =
    let user = u.username in
    let colon = when (not (is_empty u.password)) (codes ":") in
    let sign = when (has_credentials u) (codes "@") in
    let host = host_text (host_or_empty u) in
    let more = concat (drop 7 (pieces u)) in
    let a = length-append user (colon ++ (u.password ++ (sign ++ (host ++ more)))) in
    let b = length-append colon (u.password ++ (sign ++ (host ++ more))) in
    let c = length-append u.password (sign ++ (host ++ more)) in
    let d = length-append sign (host ++ more) in
    let e = length-append host more in
    omega (arith, a, b, c, d, e, h)

text_of : (u : Parts) → has_authority u ≡ true → serialize u ≡ u.scheme ++ (codes "://" ++ rest u)
text_of u e = ap (λ (b : Bool). u.scheme ++ ((if b then codes "://" else codes ":") ++ rest u)) e

web_text : (u : Parts) → has_authority u ≡ true → 0 < length (rest u) → (u.scheme ≡ codes "http") ⊎ (u.scheme ≡ codes "https") → IsOfWeb (serialize u)
web_text u a n (inl e) = (rest u, n, inl (text_of u a ∙ ap (λ (s : List ℕ). s ++ (codes "://" ++ rest u)) e))
web_text u a n (inr e) = (rest u, n, inr (text_of u a ∙ ap (λ (s : List ℕ). s ++ (codes "://" ++ rest u)) e))

has_some : (u : Parts) → has_host u ≡ true → is_empty_host (host_or_empty u) ≡ false
has_some u e = by_test (is_empty_host (host_or_empty u)) refl
  where
    by_test : (b : Bool) → is_empty_host (host_or_empty u) ≡ b → b ≡ false
    by_test true h = let both : not true ≡ true = sym (ap not h) ∙ e in absurd cc
    by_test false h = refl

named_web : (rows : List Row) (k : UriKind) (base : Option Parts) (us vs : List ℕ) → IsNamed rows k base us vs → IsOfWeb vs
named_web rows k base us vs n =
    let u = n.0 in
    let may = and_parts (is_web u.scheme) (has_host u && allows rows k u.scheme (host_text (host_or_empty u))) n.2 in
    let host = (and_parts (has_host u) (allows rows k u.scheme (host_text (host_or_empty u))) may.1).0 in
    subst IsOfWeb (sym n.3) (web_text u (authority_from_host u host) (rest_some u (host_some (host_or_empty u) (has_some u host))) (schemes u.scheme may.0))

pub of_the_web : (rows : List Row) (k : UriKind) (base : Option Parts) (us vs : List ℕ) → read rows k base us ≡ Some vs
    → ((stays k us ≡ true) × (vs ≡ us)) ⊎ (IsNamed rows k base us vs × IsOfWeb vs)
of_the_web rows k base us vs e =
    ⊎_elim (λ same. inl same) (λ named. inr (named.0, named_web rows k base us vs named.0)) (answered rows k base us vs e)

-- ---- what is dropped

not_web : (rows : List Row) (k : UriKind) (s : List ℕ) → is_web s ≡ false → (r : Result Parts ParseError) → IfOk r (λ u. u.scheme ≡ s) → of_parsed rows k r ≡ None
not_web rows k s w (Err x) h = refl
not_web rows k s w (Ok u) h =
    let other : is_web u.scheme ≡ false = ap is_web h ∙ w in
    ap (λ (b : Bool). if (b && (has_host u && allows rows k u.scheme (host_text (host_or_empty u)))) && list_all (may_stand k) (serialize u) then Some (serialize u) else None) other

not_read : (rows : List Row) (k : UriKind) (r : Result Parts ParseError) → IfOk r (λ u. ⊥) → of_parsed rows k r ≡ None
not_read rows k (Err x) h = refl
not_read rows k (Ok u) h = absurd h

moved : (rows : List Row) (k : UriKind) (base : Option Parts) (us : List ℕ) → stays k us ≡ false → of_parsed rows k (parse_url base (utf8_of us)) ≡ None → read rows k base us ≡ None
moved rows k base us s e = ap (λ (b : Bool). if b then Some us else of_parsed rows k (parse_url base (utf8_of us))) s ∙ e

pub dropped : (rows : List Row) (k : UriKind) (base : Option Parts) (us s : List ℕ) → scheme_of us ≡ Some s → is_web s ≡ false → read rows k base us ≡ None
dropped rows k base us s e w = by_test (stays k us) refl
  where
    by_test : (b : Bool) → stays k us ≡ b → read rows k base us ≡ None
    by_test true h = let none = stays_none k us h in absurd cc
    by_test false h = moved rows k base us h (not_web rows k s w (parse_url base (utf8_of us)) (parsed_scheme base (utf8_of us) s e))

pub baseless : (rows : List Row) (k : UriKind) (us : List ℕ) → stays k us ≡ false → scheme_of us ≡ None → read rows k None us ≡ None
baseless rows k us h e = moved rows k None us h (not_read rows k (parse_url None (utf8_of us)) (parsed_none (utf8_of us) e))
