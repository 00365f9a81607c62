-- What a text of HTML is cleaned to is what the grammar says of it.
use Rattle.std.proofs.Common.{◌≡◌, ℕ, Bool, true, false, List, Ok, Err, refl, sym, ap, ◌∙◌, subst}
use Rattle.std.specs.Prelude.{if◌then◌else◌}
use Rattle.std.specs.Str.{chars, is_utf8}
use Rattle.std.specs.Str.Lossy.{utf8_valid_len}
use Rattle.html_grammar.specs.Trees.{Tree, many}
use Rattle.html_grammar.specs.Reading.{Answer, trees, refused, read}
use Rattle.html_grammar.proofs.Sound.{spelled_is_read}
use Rattle.html_grammar.proofs.Exact.{refused_is_read, read_is_spelled, read_is_refused}
use Rattle.html_kept.specs.Table.{Answers}
use Rattle.html_kept.specs.Kept.{cleaned}
use Rattle.page_manifest.specs.Faults.{Found}
use Rattle.page_documents.specs.Html.{not_utf8, number_of, kept_of, clean_of, Cleans, IsRefused, no_utf8, no_html, IsHtml}

module _ (a : Answers) (bytes : List ℕ) where
  abbrev by_test : Bool → Found (Tree many)
  by_test b = if b then kept_of a (read (chars bytes)) else Err (not_utf8, utf8_valid_len bytes)

  -- what was cleaned, by the answer that was read
  of_trees : (x : Answer) (ts : Tree many) → is_utf8 bytes ≡ true → read (chars bytes) ≡ x → kept_of a x ≡ Ok ts → Cleans a bytes ts
  of_trees (trees us) ts utf8 is e = record { utf8 = utf8; source = us; spelled = read_is_spelled us (chars bytes) is; kept = let same : cleaned a us ≡ ts = cc in sym same }
  of_trees (refused x p) ts utf8 is e = absurd cc

  is_cleaned : (b : Bool) (ts : Tree many) → is_utf8 bytes ≡ b → by_test b ≡ Ok ts → Cleans a bytes ts
  is_cleaned true ts utf8 e = of_trees (read (chars bytes)) ts utf8 refl e
  is_cleaned false ts utf8 e = absurd cc

  pub to_cleaned : (ts : Tree many) → Cleans a bytes ts → clean_of a bytes ≡ Ok ts
  to_cleaned ts c = ap by_test c.utf8 ∙ ap (kept_of a) (spelled_is_read c.source (chars bytes) c.spelled) ∙ ap Ok (sym c.kept)

  at_place : (n m p q : ℕ) → n ≡ m → p ≡ q → IsRefused bytes n p → IsRefused bytes m q
  at_place n m p q same there is = subst (λ x. IsRefused bytes x q) same (subst (λ x. IsRefused bytes n x) there is)

  of_refused : (x : Answer) (n p : ℕ) → is_utf8 bytes ≡ true → read (chars bytes) ≡ x → kept_of a x ≡ Err (n, p) → IsRefused bytes n p
  of_refused (trees us) n p utf8 is e = absurd cc
  of_refused (refused x q) n p utf8 is e =
      let both : ◌≡◌ {A = ℕ × ℕ} (number_of x, q) (n, p) = cc in
      at_place (number_of x) n q p (ap (λ (r : ℕ × ℕ). r.0) both) (ap (λ (r : ℕ × ℕ). r.1) both) (no_html x q utf8 (read_is_refused x q (chars bytes) is))

  is_refused : (b : Bool) (n p : ℕ) → is_utf8 bytes ≡ b → by_test b ≡ Err (n, p) → IsRefused bytes n p
  is_refused true n p utf8 e = of_refused (read (chars bytes)) n p utf8 refl e
  is_refused false n p utf8 e =
      let both : ◌≡◌ {A = ℕ × ℕ} (not_utf8, utf8_valid_len bytes) (n, p) = cc in
      at_place not_utf8 n (utf8_valid_len bytes) p (ap (λ (r : ℕ × ℕ). r.0) both) (ap (λ (r : ℕ × ℕ). r.1) both) (no_utf8 utf8)

  pub to_refused : (n p : ℕ) → IsRefused bytes n p → clean_of a bytes ≡ Err (n, p)
  to_refused n p (no_utf8 utf8) = ap by_test utf8
  to_refused n p (no_html x q utf8 is) = ap by_test utf8 ∙ ap (kept_of a) (refused_is_read x q (chars bytes) is)

  pub is_html : IsHtml a bytes
  is_html = record {
    where_cleaned = λ ts. (λ e. is_cleaned (is_utf8 bytes) ts refl e, to_cleaned ts);
    where_refused = λ n p. (λ e. is_refused (is_utf8 bytes) n p refl e, to_refused n p);
  }
