-- What the program answers for a sheet.
use Rattle.std.proofs.Common.{◌≡◌, ◌⊎◌, inl, inr, ℕ, true, List, Ok, Err, sym, ap, subst, ◌∙◌}
use Rattle.std.specs.Str.{is_utf8}
use Rattle.css_grammar.specs.Sheets.{Text, Rule}
use Rattle.css_grammar.specs.Grammar.{Spells}
use Rattle.css_grammar.specs.Refusals.{Refusal, escape, at_rule, syntax}
use Rattle.css_kept.specs.Table as table
use Rattle.css_kept.specs.Kept.{cleaned}
use Rattle.css_kept.specs.Printed.{printed}
use Rattle.css_reader.specs.Answers.{RefusedSo, RefusedAt}
use Rattle.css_tree.specs.declared.CssError.{CssError}
use Rattle.css_tree.specs.declared.CssError.TheVariants as c
use Rattle.page_manifest.specs.Page.{Style}
use Rattle.page_styles.specs.Sheets.{number_of, text_of, scope_of, style_of, IsRefused, no_utf8, no_sheet}
use Rattle.page_styles.specs.Answered.{Refuses, Answers}
use Rattle.page_styles.specs.declared.StyleError.{StyleError}
use Rattle.page_styles.specs.declared.StyleError.TheVariants as e
use Rattle.page_styles.proofs.Exact.{to_written, to_refused}

-- ---- what refuses a text of CSS

told_at : (x : Refusal) (at : ℕ) (bytes : List ℕ) → RefusedAt x at bytes → IsRefused bytes (number_of x) at
told_at x at bytes r = no_sheet x at r.0 r.1

pub syntax_told : (x : CssError) (at : ℕ) → x ≡ c.Syntax at → (bytes : List ℕ) → RefusedSo x bytes → IsRefused bytes 1 at
syntax_told x at is bytes r = by_case (subst (λ y. RefusedSo y bytes) is r)
  where
    by_case : RefusedSo (c.Syntax at) bytes → IsRefused bytes 1 at
    by_case (inl h) = subst (λ p. IsRefused bytes 1 p) (sym h.1) (no_utf8 h.0)
    by_case (inr h) = told_at syntax at bytes h

pub escape_told : (x : CssError) (at : ℕ) → x ≡ c.Escape at → (bytes : List ℕ) → RefusedSo x bytes → IsRefused bytes 2 at
escape_told x at is bytes r = told_at escape at bytes (subst (λ y. RefusedSo y bytes) is r)

pub at_rule_told : (x : CssError) (at : ℕ) → x ≡ c.AtRule at → (bytes : List ℕ) → RefusedSo x bytes → IsRefused bytes 3 at
at_rule_told x at is bytes r = told_at at_rule at bytes (subst (λ y. RefusedSo y bytes) is r)

-- ---- what is answered

pub style_refused : (a : table.Answers) (s : Style) (error : StyleError) → Refuses error s.css → Answers (λ (l : List ℕ). l) (Err error) (style_of a s)
style_refused a s (e.Css n i) r = to_refused a s n i r
style_refused a s e.Memory r = tt

pub style_written : (a : table.Answers) (s : Style) (rs kept : List Rule) (scope : Text) (bytes : List ℕ) → (is_utf8 s.css ≡ true) × Spells rs (text_of s.css) → scope ≡ scope_of s → kept ≡ cleaned a scope rs
    → bytes ≡ printed kept → style_of a s ≡ Ok bytes
style_written a s rs kept scope bytes read is keeps prints =
    to_written a s bytes (record { utf8 = read.0; rules = rs; spelled = read.1; written = prints ∙ ap printed (keeps ∙ ap (λ (t : Text). cleaned a t rs) is) })
