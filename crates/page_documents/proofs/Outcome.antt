-- A page has the document that its HTML is cleaned to, where its ids are found in that.
use Rattle.std.proofs.Common.{◌≡◌, ℕ, List, Ok, Err, refl, sym, ap, ◌∙◌}
use Rattle.html_grammar.specs.Trees.{Tree, many}
use Rattle.page_manifest.specs.Faults.{Fault, Found}
use Rattle.page_manifest.specs.Page.{Page}
use Rattle.page_roots.specs.Roots.{granted_roots}
use Rattle.page_binding.specs.Bound.{bind}
use Rattle.page_binding.proofs.Bind.{bound_is}
use Rattle.page_documents.specs.Html.{clean_of}
use Rattle.page_documents.specs.Documents.{page_urls, styles_outcome, IsDocument, no_html, no_css, no_id, where_found, where_styled, where_clean, document_outcome, IsUnstyled, IsUnbound, IsOutcome}

module _ (p : Page) where
  -- ---- it has a document

  found_is : (ts us : Tree many) (x : Found (List (List ℕ))) → bind p ts ≡ x → where_found ts x ≡ Ok us → (ts ≡ us) × (bind p ts ≡ Ok (granted_roots p))
  found_is ts us (Ok ids) is e = (cc, is ∙ ap Ok ((bound_is p ts ids is).roots))
  found_is ts us (Err f) is e = absurd cc

  moved : (ts us : Tree many) (styles : List (List ℕ)) → ts ≡ us → clean_of (page_urls p) p.html ≡ Ok ts → styles_outcome p ≡ Ok styles → bind p ts ≡ Ok (granted_roots p) → IsDocument p us
  moved ts us styles same clean styled bound = record { clean = clean ∙ ap Ok same; styles = styles; styled = styled; bound = ap (bind p) (sym same) ∙ bound }

  styled_is : (ts us : Tree many) (y : Found (List (List ℕ))) → clean_of (page_urls p) p.html ≡ Ok ts → styles_outcome p ≡ y → where_styled p ts y ≡ Ok us → IsDocument p us
  styled_is ts us (Ok styles) is styled e = let f = found_is ts us (bind p ts) refl e in moved ts us styles f.0 is styled f.1
  styled_is ts us (Err f) is styled e = absurd cc

  clean_is : (x : Found (Tree many)) (us : Tree many) → clean_of (page_urls p) p.html ≡ x → where_clean p x ≡ Ok us → IsDocument p us
  clean_is (Ok ts) us is e = styled_is ts us (styles_outcome p) is refl e
  clean_is (Err f) us is e = absurd cc

  pub to_document : (ts : Tree many) → IsDocument p ts → document_outcome p ≡ Ok ts
  to_document ts d = ap (where_clean p) d.clean ∙ ap (where_styled p ts) d.styled ∙ ap (where_found ts) d.bound

  -- ---- its HTML is refused

  not_html : (ts : Tree many) (x : Found (List (List ℕ))) (f : Fault) → where_found ts x ≡ Err (no_html f) → ⊥
  not_html ts (Ok ids) f e = cc
  not_html ts (Err g) f e = cc

  styles_not_html : (ts : Tree many) (y : Found (List (List ℕ))) (f : Fault) → where_styled p ts y ≡ Err (no_html f) → ⊥
  styles_not_html ts (Ok styles) f e = not_html ts (bind p ts) f e
  styles_not_html ts (Err g) f e = cc

  html_is : (x : Found (Tree many)) (f : Fault) → clean_of (page_urls p) p.html ≡ x → where_clean p x ≡ Err (no_html f) → clean_of (page_urls p) p.html ≡ Err f
  html_is (Ok ts) f is e = absurd (styles_not_html ts (styles_outcome p) f e)
  html_is (Err g) f is e = let same : g ≡ f = cc in is ∙ ap Err same

  -- ---- a sheet is refused

  not_css : (ts : Tree many) (x : Found (List (List ℕ))) (f : Fault) → where_found ts x ≡ Err (no_css f) → ⊥
  not_css ts (Ok ids) f e = cc
  not_css ts (Err g) f e = cc

  css_found : (ts : Tree many) (y : Found (List (List ℕ))) (f : Fault) → where_styled p ts y ≡ Err (no_css f) → y ≡ Err f
  css_found ts (Ok styles) f e = absurd (not_css ts (bind p ts) f e)
  css_found ts (Err g) f e = let same : g ≡ f = cc in ap Err same

  css_is : (x : Found (Tree many)) (f : Fault) → clean_of (page_urls p) p.html ≡ x → where_clean p x ≡ Err (no_css f) → IsUnstyled p f
  css_is (Ok ts) f is e = record { trees = ts; clean = is; fault = css_found ts (styles_outcome p) f e }
  css_is (Err g) f is e = absurd cc

  pub to_unstyled : (f : Fault) → IsUnstyled p f → document_outcome p ≡ Err (no_css f)
  to_unstyled f u = ap (where_clean p) u.clean ∙ ap (where_styled p u.trees) u.fault

  -- ---- an id is refused

  id_found : (ts : Tree many) (x : Found (List (List ℕ))) (f : Fault) → where_found ts x ≡ Err (no_id f) → x ≡ Err f
  id_found ts (Ok ids) f e = absurd cc
  id_found ts (Err g) f e = let same : g ≡ f = cc in ap Err same

  styled_id : (ts : Tree many) (y : Found (List (List ℕ))) (f : Fault) → clean_of (page_urls p) p.html ≡ Ok ts → styles_outcome p ≡ y → where_styled p ts y ≡ Err (no_id f) → IsUnbound p f
  styled_id ts (Ok styles) f is styled e = record { trees = ts; clean = is; styles = styles; styled = styled; fault = id_found ts (bind p ts) f e }
  styled_id ts (Err g) f is styled e = absurd cc

  id_is : (x : Found (Tree many)) (f : Fault) → clean_of (page_urls p) p.html ≡ x → where_clean p x ≡ Err (no_id f) → IsUnbound p f
  id_is (Ok ts) f is e = styled_id ts (styles_outcome p) f is refl e
  id_is (Err g) f is e = absurd cc

  pub to_unbound : (f : Fault) → IsUnbound p f → document_outcome p ≡ Err (no_id f)
  to_unbound f u = ap (where_clean p) u.clean ∙ ap (where_styled p u.trees) u.styled ∙ ap (where_found u.trees) u.fault

  pub to_no_html : (f : Fault) → clean_of (page_urls p) p.html ≡ Err f → document_outcome p ≡ Err (no_html f)
  to_no_html f e = ap (where_clean p) e

  pub is_outcome : IsOutcome p
  is_outcome = record {
    where_document = λ ts. (λ e. clean_is (clean_of (page_urls p) p.html) ts refl e, to_document ts);
    where_no_html = λ f. (λ e. html_is (clean_of (page_urls p) p.html) f refl e, to_no_html f);
    where_no_css = λ f. (λ e. css_is (clean_of (page_urls p) p.html) f refl e, to_unstyled f);
    where_no_id = λ f. (λ e. id_is (clean_of (page_urls p) p.html) f refl e, to_unbound f);
  }
