-- What is answered, case by case.
use Rattle.std.proofs.Common.{◌≡◌, ℕ, Bool, true, false, ◌&&◌, List, Option, Some, None, Result, Ok, Err, inl, inr, refl, sym, subst}
use Rattle.std.specs.Prelude.{◌⊎◌, if◌then◌else◌}
use Rattle.std.specs.List.{list_all}
use Rattle.std.proofs.lemmas.Bool.{and_parts}
use Rattle.url.specs.declared.error.ParseError.{ParseError}
use Rattle.url.specs.Parts.{Parts, serialize}
use Rattle.url.specs.Parser.{parse_url}
use Rattle.caja_units.specs.Utf8.{utf8_of}
use Rattle.url_rule.specs.declared.ask.UriKind.{UriKind}
use Rattle.url_rule.specs.Table.{Row}
use Rattle.url_rule.specs.Reading.{stays, may_stand, may_be_named, of_parsed, read}
use Rattle.url_rule.specs.Answers.{IsNamed}

-- the text stays as it is, or it names a URL that may be named and whose text may stand there
abbrev pub Answered : List Row → UriKind → Option Parts → List ℕ → List ℕ → Type 0
Answered rows k base us vs = ((stays k us ≡ true) × (vs ≡ us)) ⊎ (IsNamed rows k base us vs × (list_all (may_stand k) vs ≡ true))

module _ (rows : List Row) (k : UriKind) (base : Option Parts) (us vs : List ℕ) where
  of_test : (u : Parts) (b : Bool) → parse_url base (utf8_of us) ≡ Ok u → (may_be_named rows k u && list_all (may_stand k) (serialize u)) ≡ b
      → (if b then Some (serialize u) else None) ≡ Some vs → Answered rows k base us vs
  of_test u true p t e =
      let same : serialize u ≡ vs = cc in
      let both = and_parts (may_be_named rows k u) (list_all (may_stand k) (serialize u)) t in
      inr ((u, p, both.0, sym same), subst (λ ws. list_all (may_stand k) ws ≡ true) same both.1)
  of_test u false p t e = absurd cc

  of_result : (r : Result Parts ParseError) → parse_url base (utf8_of us) ≡ r → of_parsed rows k r ≡ Some vs → Answered rows k base us vs
  of_result (Ok u) p e = of_test u (may_be_named rows k u && list_all (may_stand k) (serialize u)) p refl e
  of_result (Err x) p e = absurd cc

  of_stays : (b : Bool) → stays k us ≡ b → (if b then Some us else of_parsed rows k (parse_url base (utf8_of us))) ≡ Some vs → Answered rows k base us vs
  of_stays true s e = inl (s, (let same : us ≡ vs = cc in sym same))
  of_stays false s e = of_result (parse_url base (utf8_of us)) refl e

  pub answered : read rows k base us ≡ Some vs → Answered rows k base us vs
  answered e = of_stays (stays k us) refl e
