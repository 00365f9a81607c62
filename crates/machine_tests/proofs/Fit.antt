-- A root that is granted as `doc` may be imported beside all that every module may import.
use Rattle.std.proofs.Common.{◌≡◌, ℕ, List, [], ◌∷◌, refl, sym, subst}
use Rattle.std.specs.Prelude.{codes}
use Rattle.std.proofs.lemmas.List.Elements.{All-nil, All-cons}
use Rattle.page_runner.specs.declared.deeds.Grant.{Grant}
use Rattle.page_runner.specs.declared.deeds.Grant.TheVariants.{Root}
use Rattle.page_runner.specs.Deeds.{GrantFits, GrantsFit}

abbrev as_doc : List ℕ → List (List ℕ × Grant)
as_doc name = (name, Root 0) ∷ []

pub doc_fits : (name : List ℕ) (gs : List (List ℕ × Grant)) → name ≡ codes "doc" → gs ≡ (name, Root 0) ∷ [] → GrantsFit gs
doc_fits name gs is are =
    let fits = All-cons (λ (g : List ℕ × Grant). GrantFits g.1) (codes "doc", Root 0) [] tt (All-nil (λ (g : List ℕ × Grant). GrantFits g.1)) in
    subst GrantsFit (sym are) (subst (λ n. GrantsFit (as_doc n)) (sym is) (fits, (refl, tt)))
