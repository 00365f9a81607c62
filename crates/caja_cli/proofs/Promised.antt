-- What is promised of the manifest of a page, and of a module that is alone.
use Rattle.std.proofs.Common.{◌≡◌, ◌≤◌, ℕ, zero, suc, true, false, List, [], ◌∷◌, All, Option, None, Some, Ok, length, refl, sym, ap, subst, arith}
use Rattle.std.specs.Prelude.{slice_get, codes, IsTrue}
use Rattle.std.proofs.lemmas.List.Elements.{All-nil, All-cons}
use Rattle.page_cajole.proofs.Outcomes.{is_cajoled_page}
use Rattle.url_rule.specs.Table.{Row}
use Rattle.css_kept.specs.Table as css
use Rattle.page_styles.specs.Sheets.{IsStyle}
use Rattle.page_styles.proofs.Exact.{is_style}
use Rattle.page_manifest.specs.Page.{Granted, Style, Module, Page, cajita, as_it_stands}
use Rattle.page_manifest.specs.Read.{page_of}
use Rattle.page_manifest.specs.Valid.{IsGranted, IsModule, IsAsked, IsValid}
use Rattle.manifest_names.specs.Names.{is_name, is_grant_name}
use Rattle.page_manifest.proofs.Validity.{valid}
use Rattle.page_manifest.proofs.Languages.{modules_in_language}
use Rattle.page_manifest.proofs.Arguments.{few_arguments}
use Rattle.page_meaning.specs.Texts.{IsText}
use Rattle.page_meaning.specs.Meant.{IsPage, IsMeant}
use Rattle.page_meaning.proofs.Texts.{is_text}
use Rattle.page_meaning.proofs.Meant.{is_meant}
use Rattle.page_agreement.proofs.Isolated.{isolated}
use Rattle.caja_gen.specs.Generated.{generated}
use Rattle.caja_gen.proofs.Sound as sound
use Rattle.caja_cli.specs.Output.{lone_page}
use Rattle.html_grammar.specs.Trees.{none}
use Rattle.html_grammar.specs.Document.{nothing, Spells}
use Rattle.std.proofs.lemmas.Str.{chars-nil, is_utf8-from_IsUtf8, IsUtf8-nil}
use Rattle.page_documents.specs.Documents.{page_urls, sheet_urls, IsDocument}
use Rattle.page_documents.proofs.Html.{is_html, to_cleaned}
use Rattle.page_documents.proofs.Outcome.{is_outcome}
use Rattle.caja_cli.specs.Promised.{longest_manifest, IsDocumented, IsManifest, IsOfTexts, AreIsolated}

-- the page of a manifest of `page`
is_page : (rule : List Row) (input : List ℕ) (p : Page) → length input ≤ longest_manifest → page_of rule false input ≡ Ok p → IsPage p
is_page rule input p le e = record { valid = valid rule false input p e; cajoled = modules_in_language rule false input p e; few = few_arguments rule false input p (omega (arith, le)) e }

module _ (a : css.Answers) where
  all_styles : (ss : List Style) → All (IsStyle a) ss
  all_styles [] = All-nil (IsStyle a)
  all_styles (s ∷ ss) = All-cons (IsStyle a) s ss (is_style a s) (all_styles ss)

is_documented : (p : Page) → IsDocumented p
is_documented p = record { html = is_html (page_urls p) p.html; styles = all_styles (sheet_urls p) p.styles; outcome = is_outcome p }

pub is_manifest : (rule : List Row) (input : List ℕ) → IsManifest rule input
is_manifest rule input = record { valid = λ p le e. is_page rule input p le e; documented = λ p e. is_documented p; meant = λ p le e. is_meant p (is_page rule input p le e) }

pub are_isolated : (rule : List Row) (input : List ℕ) → AreIsolated rule input
are_isolated rule input p le e = isolated p (is_page rule input p le e)

all_texts : (ms : List Module) → All (λ m. IsText m.source) ms
all_texts [] = All-nil (λ m. IsText m.source)
all_texts (m ∷ ms) = All-cons (λ m. IsText m.source) m ms (is_text m.source) (all_texts ms)

pub is_of_texts : (rule : List Row) (input : List ℕ) → IsOfTexts rule input
is_of_texts rule input = record { valid = λ p e. valid rule true input p e; documented = λ p e. is_documented p; texts = λ p e. all_texts p.modules; accepted = λ p e. is_cajoled_page p }

-- the page of a module that is alone

abbrev found : Module → Option Module → Module
found other (Some m) = m
found other None = other

lone_module : (rule : List Row) (source : List ℕ) (i : ℕ) (m : Module) → slice_get (lone_page rule source).modules i ≡ Some m → IsModule 0 i m
lone_module rule source zero m is =
    let same : main ≡ m = ap (found main) is in
    subst (IsModule 0 0) {x = main} same (record { named = refl; few = omega arith; spelled = All-nil (λ s. IsTrue (is_grant_name s)); once = refl; granted = All-nil (λ (g : List ℕ × Granted). IsGranted 0 0 g.1) })
  where
    main : Module
    main = record { name = codes "main"; language = cajita; source = source; grants = [] }
lone_module rule source (suc i) m is = absurd cc

pub lone_is_valid : (rule : List Row) (source : List ℕ) → IsValid (lone_page rule source)
lone_is_valid rule source = record {
  few_styles = omega arith;
  few_cells = omega arith;
  few_modules = omega arith;
  few_events = omega arith;
  cells_named = All-nil (λ n. IsTrue (is_name n));
  cells_once = refl;
  modules_once = refl;
  modules = lone_module rule source;
  events = All-nil (IsAsked 1);
}

pub lone_is_meant : (rule : List Row) (source : List ℕ) → IsMeant (lone_page rule source)
lone_is_meant rule source = is_meant (lone_page rule source) (record { valid = lone_is_valid rule source; cajoled = All-cons (λ m. as_it_stands m.language ≡ false) _ [] refl (All-nil (λ m. as_it_stands m.language ≡ false)); few = tt })

-- it has an empty document
pub lone_document : (rule : List Row) (source : List ℕ) → IsDocument (lone_page rule source) none
lone_document rule source =
    let p = lone_page rule source in
    record { clean = to_cleaned (page_urls p) [] none (record { utf8 = is_utf8-from_IsUtf8 [] IsUtf8-nil; source = none; spelled = subst (Spells none) (sym chars-nil) (true, nothing 0 [] true []); kept = refl }); styles = []; styled = refl; bound = refl }

-- a page that is generated
pub generated_is_meant : (rule : List Row) (n : ℕ) → 1 ≤ n → n ≤ 2000 → IsMeant (generated rule n)
generated_is_meant rule n some few = is_meant (generated rule n) (record { valid = sound.is_valid rule n some few; cajoled = sound.none_stands rule n; few = sound.few_arguments rule n })
