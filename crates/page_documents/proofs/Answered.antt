-- What the program answers for a page.
use Rattle.std.proofs.Common.{◌≡◌, ℕ, true, List, map, Ok, Err, sym, ap, subst, ◌∙◌}
use Rattle.std.specs.Global.{Vec}
use Rattle.std.specs.Map.{keys_of}
use Rattle.std.specs.Str.{chars, is_utf8}
use Rattle.html_grammar.specs.Document.{Spells}
use Rattle.html_grammar.specs.Trees.{Tree, many}
use Rattle.html_kept.specs.Table as table
use Rattle.html_kept.specs.Kept.{cleaned}
use Rattle.html_tree.specs.declared.Html.{Html}
use Rattle.html_tree.specs.Views.{trees}
use Rattle.html_tree.specs.declared.HtmlError.{HtmlError}
use Rattle.html_tree.specs.declared.HtmlError.TheVariants as h
use Rattle.html_reader.specs.Answers.{RefusedSo, RefusedAt}
use Rattle.html_grammar.specs.Tags.{Refusal}
use Rattle.html_urls.specs.Answers.{for_documents}
use Rattle.css_urls.specs.Answers.{for_sheets}
use Rattle.url_rule.specs.Table.{Row}
use Rattle.doc_nodes.specs.Rows.{Doc}
use Rattle.doc_tree.specs.Cleaned.{from_clean}
use Rattle.page_manifest.specs.Faults.{Found}
use Rattle.page_manifest.specs.Page.{Page}
use Rattle.page_roots.specs.Roots.{Roots, roots_of, granted_roots}
use Rattle.page_binding.specs.Bound.{bind}
use Rattle.page_styles.specs.Sheets.{styles_of}
use Rattle.page_documents.specs.Html.{number_of, clean_of, not_utf8, IsRefused, no_utf8, no_html}
use Rattle.page_documents.specs.Documents.{page_urls, styles_outcome, no_css, no_id, document_outcome}
use Rattle.page_documents.specs.Answered.{Refuses, Answers, Has}
use Rattle.page_documents.specs.declared.DocumentError.{DocumentError}
use Rattle.page_documents.specs.declared.DocumentError.TheVariants as e
use Rattle.page_documents.proofs.Html.{to_cleaned, to_refused}
use Rattle.page_documents.proofs.Outcome.{to_document, to_unbound, to_unstyled, to_no_html}

pub cleans : (bytes : List ℕ) (list kept : List Html) (a : table.Answers) → (is_utf8 bytes ≡ true) × Spells (trees list) (chars bytes) → trees kept ≡ cleaned a (trees list) → clean_of a bytes ≡ Ok (trees kept)
cleans bytes list kept a read is = to_cleaned a bytes (trees kept) (record { utf8 = read.0; source = trees list; spelled = read.1; kept = is })

-- what the rule that is asked answers is what the page's table answers
pub of_page : (p : Page) (rows : List Row) (bytes : List ℕ) (x : Found (Tree many)) → rows ≡ p.rule → bytes ≡ p.html → clean_of (for_documents rows p.base) bytes ≡ x → clean_of (page_urls p) p.html ≡ x
of_page p rows bytes x same html is = ap (λ (b : List ℕ). clean_of (page_urls p) b) (sym html) ∙ ap (λ (rs : List Row). clean_of (for_documents rs p.base) bytes) (sym same) ∙ is

pub of_styles : (p : Page) (rows : List Row) (x : Found (List (List ℕ))) → rows ≡ p.rule → styles_of (for_sheets rows p.base) p.styles ≡ x → styles_outcome p ≡ x
of_styles p rows x same is = ap (λ (rs : List Row). styles_of (for_sheets rs p.base) p.styles) (sym same) ∙ is

pub ids_refused : (p : Page) (kept : List Html) (styles : List (List ℕ)) (n i : ℕ) → clean_of (page_urls p) p.html ≡ Ok (trees kept) → styles_outcome p ≡ Ok styles → bind p (trees kept) ≡ Err (n, i)
    → document_outcome p ≡ Err (no_id (n, i))
ids_refused p kept styles n i clean styled fault = to_unbound p (n, i) (record { trees = trees kept; clean = clean; styles = styles; styled = styled; fault = fault })

pub style_refused : (p : Page) (rows : List Row) (kept : List Html) (n i : ℕ) → rows ≡ p.rule → clean_of (page_urls p) p.html ≡ Ok (trees kept) → styles_of (for_sheets rows p.base) p.styles ≡ Err (n, i)
    → document_outcome p ≡ Err (no_css (n, i))
style_refused p rows kept n i same clean fault = to_unstyled p (n, i) (record { trees = trees kept; clean = clean; fault = of_styles p rows (Err (n, i)) same fault })

pub is_made : (p : Page) (kept : List Html) (styles : Vec (Vec ℕ)) (roots : Roots) (ids : List (List ℕ)) (document : Doc) → clean_of (page_urls p) p.html ≡ Ok (trees kept)
    → styles_outcome p ≡ Ok (map (λ s. s.items) styles.items) → bind p (trees kept) ≡ Ok (keys_of roots) → roots ≡ roots_of p
    → ids ≡ keys_of roots → document ≡ from_clean ids (trees kept) → Has p (record { roots = roots; document = document; styles = styles })
is_made p kept styles roots ids document clean styled bound are names made =
    let same : keys_of roots ≡ granted_roots p = ap (λ (rs : Roots). keys_of rs) are in
    record {
      trees = trees kept;
      outcome = to_document p (trees kept) (record { clean = clean; styles = map (λ s. s.items) styles.items; styled = styled; bound = bound ∙ ap Ok same });
      document = made ∙ ap (λ l. from_clean l (trees kept)) (names ∙ same);
      roots = are;
      styles = styled;
    }

pub html_refused : (p : Page) (error : DocumentError) → Refuses error p.html → Answers p (Err error)
html_refused p (e.Html number at) h = to_no_html p (number, at) (to_refused (page_urls p) p.html number at h)
html_refused p (e.Css number at) h = absurd h
html_refused p (e.Ids number at) h = absurd h
html_refused p e.Memory h = tt

-- ---- what refuses a text of HTML

abbrev So : HtmlError → HtmlError → Type 0
So e f = (bytes : List ℕ) → RefusedSo e bytes → RefusedSo f bytes

as_it_is : (e f : HtmlError) → e ≡ f → So e f
as_it_is e f is bytes h = subst (λ x. RefusedSo x bytes) is h

pub utf8_told : (e : HtmlError) (at : ℕ) → e ≡ h.NotUtf8 at → (bytes : List ℕ) → RefusedSo e bytes → IsRefused bytes not_utf8 at
utf8_told e at is bytes r = let s = as_it_is e (h.NotUtf8 at) is bytes r in subst (λ p. IsRefused bytes not_utf8 p) (sym s.1) (no_utf8 s.0)

pub html_told : (x : Refusal) (at : ℕ) (bytes : List ℕ) → RefusedAt x at bytes → IsRefused bytes (number_of x) at
html_told x at bytes r = no_html x at r.0 r.1
