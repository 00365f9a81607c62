-- What a table of URLs answers for links and images leads to the web.
use Rattle.std.proofs.Common.{◌≡◌, ℕ, Bool, true, false, List, [], ◌∷◌, Option, Some, None, sym, subst, inl, inr, ⊎_elim, codes}
use Rattle.std.specs.Prelude.{◌⊎◌, if◌then◌else◌}
use Rattle.url.specs.Parts.{Parts}
use Rattle.html_grammar.specs.Tags.{Attr}
use Rattle.html_grammar.specs.Trees.{Sort, one, many, Tree, text_node, element, none, more}
use Rattle.html_kept.specs.Table.{is_on, attr_value}
use Rattle.html_kept.specs.OfTable.{IsKeptAttr, AreKept, OfTable}
use Rattle.url_rule.specs.declared.ask.UriKind.TheVariants.{Link, Image}
use Rattle.url_rule.specs.Table.{Row}
use Rattle.url_rule.specs.Reading.{is_place, read}
use Rattle.url_rule.specs.Answers.{IsOfWeb}
use Rattle.url_rule.proofs.Web.{of_the_web}
use Rattle.html_urls.specs.Answers.{for_documents, IsKept}
use Rattle.url_answers.specs.OfWeb.{AttrOfWeb, AttrsOfWeb, OfWeb}

by_on : (b : Bool) (o : Option (List ℕ)) (vs : List ℕ) → (if b then o else None) ≡ Some vs → o ≡ Some vs
by_on true o vs e = e
by_on false o vs e = absurd cc

link_is : (rows : List Row) (base : Option Parts) (n us vs : List ℕ) → attr_value (for_documents rows base) n (codes "href") us ≡ Some vs → (is_place vs ≡ true) ⊎ IsOfWeb vs
link_is rows base n us vs e =
    ⊎_elim (λ p. inl (subst (λ (ws : List ℕ). is_place ws ≡ true) (sym p.1) p.0)) (λ p. inr p.1)
    (of_the_web rows Link base us vs (by_on (is_on (codes "a" ∷ []) n) (read rows Link base us) vs e))

no_place : {P : Type 0} → false ≡ true → P
no_place e = absurd cc

image_is : (rows : List Row) (base : Option Parts) (n us vs : List ℕ) → attr_value (for_documents rows base) n (codes "src") us ≡ Some vs → IsOfWeb vs
image_is rows base n us vs e =
    ⊎_elim (λ p. no_place p.0) (λ p. p.1) (of_the_web rows Image base us vs (by_on (is_on (codes "img" ∷ []) n) (read rows Image base us) vs e))

attr_of_web : (rows : List Row) (base : Option Parts) (n : List ℕ) (x : Attr) → IsKeptAttr (for_documents rows base) n x → AttrOfWeb x
attr_of_web rows base n x h =
    let a = for_documents rows base in
    record {
      link = λ e. link_is rows base n h.0 x.value (subst (λ (m : List ℕ). attr_value a n m h.0 ≡ Some x.value) e h.1);
      image = λ e. image_is rows base n h.0 x.value (subst (λ (m : List ℕ). attr_value a n m h.0 ≡ Some x.value) e h.1);
    }

attrs_of_web : (rows : List Row) (base : Option Parts) (n : List ℕ) (xs : List Attr) → AreKept (for_documents rows base) n xs → AttrsOfWeb xs
attrs_of_web rows base n [] h = tt
attrs_of_web rows base n (x ∷ xs) h = (attr_of_web rows base n x h.0, attrs_of_web rows base n xs h.1)

trees_of_web : (rows : List Row) (base : Option Parts) (s : Sort) (t : Tree s) → OfTable (for_documents rows base) s t → OfWeb s t
trees_of_web rows base _ (text_node us) h = tt
trees_of_web rows base _ (element n xs ts) h = (attrs_of_web rows base n xs h.1, trees_of_web rows base many ts h.2)
trees_of_web rows base _ none h = tt
trees_of_web rows base _ (more t ts) h = (trees_of_web rows base one t h.0, trees_of_web rows base many ts h.1)

pub kept_of_web : (ts : Tree many) → IsKept ts → OfWeb many ts
kept_of_web ts h = trees_of_web h.0 h.1 many ts h.2
