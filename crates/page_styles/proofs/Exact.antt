-- What is written for a sheet, or refuses it, is what the grammar says of it.
use Rattle.std.proofs.Common.{◌≡◌, ℕ, ◌+◌, ◌-◌, Bool, true, false, List, [], ◌∷◌, ◌++◌, Ok, Err, refl, sym, ap, ◌∙◌, subst, arith}
use Rattle.std.specs.Prelude.{if◌then◌else◌}
use Rattle.std.specs.Str.{is_utf8}
use Rattle.std.specs.Str.Lossy.{utf8_valid_len}
use Rattle.std.proofs.lemmas.List.Sums.{sum_by-append}
use Rattle.css_grammar.specs.Sheets.{Text, Rule}
use Rattle.css_grammar.specs.Grammar.{Spells, Begins}
use Rattle.css_grammar.specs.Refusals.{Refusal, syntax, reason, unit_width, width, Refused, at_unit, at_end}
use Rattle.css_grammar.specs.Machine.{Answer, sheet, part, stopped, read}
use Rattle.css_grammar.proofs.Sound.{read_spelled}
use Rattle.css_grammar.proofs.Exact.{spelled_read}
use Rattle.css_grammar.proofs.Viable.{stops_exactly}
use Rattle.css_grammar.proofs.Refusals.{refused_part, apart, once}
use Rattle.css_kept.specs.Table.{Answers}
use Rattle.page_manifest.specs.Faults.{Found, chain}
use Rattle.page_manifest.specs.Page.{Style}
use Rattle.page_styles.specs.Sheets.{number_of, of_answer, text_of, sheet_of, written, style_of, Writes, IsRefused, no_utf8, no_sheet, IsStyle}

-- ---- the byte at which a text stops

front_width : (s u r : Text) → s ≡ u ++ r → width s - width r ≡ width u
front_width s u r is = let same : width s ≡ width u + width r = ap width is ∙ sum_by-append unit_width u r in omega (arith, same)

-- ---- what a text comes to

-- what is found for a text that stops is what refuses it
stops_at : (s r : Text) → read s ≡ stopped r → (x : Refusal) × (p : ℕ) × (of_answer s (stopped r) ≡ Err (number_of x, p)) × Refused s x p
stops_at s [] is = absurd (let h = stops_exactly s [] is in let no : [] ≡ h.1 ∷ h.2 = h.4 in cc)
stops_at s (c ∷ z) is =
    let h = stops_exactly s (c ∷ z) is in
    let same : c ≡ h.1 = let e : c ∷ z ≡ h.1 ∷ h.2 = h.4 in cc in
    let cut : s ≡ h.0 ++ c ∷ z = h.3 ∙ ap (λ (r : Text). h.0 ++ r) (sym h.4) in
    let refused : Refused s (reason h.1) (width h.0) = at_unit h.0 h.1 h.2 h.3 h.5 in
    (reason c, width h.0, ap (λ p. Err (number_of (reason c), p)) (front_width s h.0 (c ∷ z) cut), subst (λ d. Refused s (reason d) (width h.0)) (sym same) refused)

-- a text that is refused comes to what refuses it
to_refusal : (s : Text) (a : Answer) (x : Refusal) (p : ℕ) → read s ≡ a → Refused s x p → of_answer s a ≡ Err (number_of x, p)
to_refusal s (sheet rs) x p is r = absurd (apart s rs x p (read_spelled s rs is) r)
to_refusal s part x p is r =
    let h = refused_part s is in
    let same = once s syntax x (width s) p (at_end h.0 h.1) r in
    ap (λ y. Err (number_of y, width s)) same.0 ∙ ap (λ q. Err (number_of x, q)) same.1
to_refusal s (stopped z) x p is r =
    let h = stops_at s z is in
    let same = once s h.0 x h.1 p h.3 r in
    h.2 ∙ ap (λ y. Err (number_of y, h.1)) same.0 ∙ ap (λ q. Err (number_of x, q)) same.1

-- ---- of bytes

module _ (a : Answers) (s : Style) where
  abbrev by_test : Bool → Found (List ℕ)
  by_test b = chain (if b then of_answer (text_of s.css) (read (text_of s.css)) else Err (number_of syntax, utf8_valid_len s.css)) (λ rs. Ok (written a s rs))

  abbrev by_answer : Answer → Found (List ℕ)
  by_answer x = chain (of_answer (text_of s.css) x) (λ rs. Ok (written a s rs))

  pub to_written : (bytes : List ℕ) → Writes a s bytes → style_of a s ≡ Ok bytes
  to_written bytes w = ap by_test w.utf8 ∙ ap by_answer (spelled_read (text_of s.css) w.rules w.spelled) ∙ ap Ok (sym w.written)

  pub to_refused : (n p : ℕ) → IsRefused s.css n p → style_of a s ≡ Err (n, p)
  to_refused n p (no_utf8 utf8) = ap by_test utf8
  to_refused n p (no_sheet x q utf8 r) = ap by_test utf8 ∙ ap (λ y. chain y (λ rs. Ok (written a s rs))) (to_refusal (text_of s.css) (read (text_of s.css)) x q refl r)

  of_sheet : (x : Answer) (bytes : List ℕ) → is_utf8 s.css ≡ true → read (text_of s.css) ≡ x → by_answer x ≡ Ok bytes → Writes a s bytes
  of_sheet (sheet rs) bytes utf8 is e = record { utf8 = utf8; rules = rs; spelled = read_spelled (text_of s.css) rs is; written = let same : written a s rs ≡ bytes = cc in sym same }
  of_sheet part bytes utf8 is e = absurd cc
  of_sheet (stopped []) bytes utf8 is e = absurd cc
  of_sheet (stopped (c ∷ z)) bytes utf8 is e = absurd cc

  is_written : (b : Bool) (bytes : List ℕ) → is_utf8 s.css ≡ b → by_test b ≡ Ok bytes → Writes a s bytes
  is_written true bytes utf8 e = of_sheet (read (text_of s.css)) bytes utf8 refl e
  is_written false bytes utf8 e = absurd cc

  at_place : (n m p q : ℕ) → n ≡ m → p ≡ q → IsRefused s.css n p → IsRefused s.css m q
  at_place n m p q same there is = subst (λ x. IsRefused s.css x q) same (subst (λ x. IsRefused s.css n x) there is)

  told : (n m p q : ℕ) → ◌≡◌ {A = Found (List ℕ)} (Err (n, p)) (Err (m, q)) → IsRefused s.css n p → IsRefused s.css m q
  told n m p q e is =
      let both : ◌≡◌ {A = ℕ × ℕ} (n, p) (m, q) = cc in
      at_place n m p q (ap (λ (r : ℕ × ℕ). r.0) both) (ap (λ (r : ℕ × ℕ). r.1) both) is

  of_refused : (x : Answer) (n p : ℕ) → is_utf8 s.css ≡ true → read (text_of s.css) ≡ x → by_answer x ≡ Err (n, p) → IsRefused s.css n p
  of_refused (sheet rs) n p utf8 is e = absurd cc
  of_refused part n p utf8 is e = let h = refused_part (text_of s.css) is in told _ n _ p e (no_sheet syntax (width (text_of s.css)) utf8 (at_end h.0 h.1))
  of_refused (stopped z) n p utf8 is e =
      let h = stops_at (text_of s.css) z is in
      told (number_of h.0) n h.1 p (sym (ap (λ y. chain y (λ rs. Ok (written a s rs))) h.2) ∙ e) (no_sheet h.0 h.1 utf8 h.3)

  is_refused : (b : Bool) (n p : ℕ) → is_utf8 s.css ≡ b → by_test b ≡ Err (n, p) → IsRefused s.css n p
  is_refused true n p utf8 e = of_refused (read (text_of s.css)) n p utf8 refl e
  is_refused false n p utf8 e = told (number_of syntax) n (utf8_valid_len s.css) p e (no_utf8 utf8)

  pub is_style : IsStyle a s
  is_style = record {
    where_written = λ bytes. (λ e. is_written (is_utf8 s.css) bytes refl e, to_written bytes);
    where_refused = λ n p. (λ e. is_refused (is_utf8 s.css) n p refl e, to_refused n p);
  }
