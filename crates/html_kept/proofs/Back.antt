-- What is kept of a document is written so that it is read back.
use Rattle.std.proofs.Common.{◌≡◌, ℕ, true, List, [], ◌∷◌, ◌++◌, refl, sym, ap, subst, ◌∙◌}
use Rattle.std.specs.Str.{chars, is_utf8}
use Rattle.std.proofs.lemmas.Str.{chars-encodes, scalars-chars, is_utf8-from_IsUtf8, IsUtf8-from_is_utf8}
use Rattle.html_grammar.specs.Trees.{Tree, many, none, most}
use Rattle.html_grammar.specs.Document.{Reads, Spells}
use Rattle.html_kept.specs.Table.{Answers, no_urls}
use Rattle.html_kept.specs.Kept.{cleaned}
use Rattle.html_kept.specs.Printed.{printed}
use Rattle.html_kept.specs.Texts.{OfTexts}
use Rattle.html_kept.specs.OfTable.{OfTable}
use Rattle.html_kept.proofs.ReadTrees.{spelled_well}
use Rattle.html_kept.proofs.Cleaned.{kept_of_table, kept_well}
use Rattle.html_kept.proofs.BackTrees.{written_back}

append_nil : (xs : List ℕ) → xs ++ [] ≡ xs
append_nil [] = refl
append_nil (x ∷ xs) = ap (λ (ys : List ℕ). x ∷ ys) (append_nil xs)

pub cleaned_of_table : (a : Answers) (t : Tree many) → OfTable a many (cleaned a t)
cleaned_of_table a t = kept_of_table a many t none tt

pub read_back : (a : Answers) (t : Tree many) (bytes : List ℕ) → OfTexts a → is_utf8 bytes ≡ true → Spells t (chars bytes)
    → (is_utf8 (printed many (cleaned a t)) ≡ true) × Spells (cleaned a t) (chars (printed many (cleaned a t)))
read_back a t bytes g u h =
    let good = scalars-chars bytes (IsUtf8-from_is_utf8 bytes u) in
    let w = written_back a (cleaned a t) (cleaned_of_table a t) (kept_well a most many t none g (spelled_well t (chars bytes) good h) tt) in
    let r = w.reads true [] refl in
    let cs : chars (printed many (cleaned a t)) ≡ w.chars_of ++ [] = ap chars (sym w.same) ∙ chars-encodes w.chars_of w.scalar_values ∙ sym (append_nil w.chars_of) in
    (is_utf8-from_IsUtf8 (printed many (cleaned a t)) (w.chars_of, (w.scalar_values, w.same)), (r.0, subst (λ (s : List ℕ). Reads 0 [] (cleaned a t) true s r.0 []) (sym cs) r.1))

pub no_urls_of_texts : OfTexts no_urls
no_urls_of_texts = record { links = λ us vs h e. absurd cc; images = λ us vs h e. absurd cc }
