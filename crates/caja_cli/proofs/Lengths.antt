-- Where a page is accepted, a text stands for each of its modules.
use Rattle.std.proofs.Common.{◌≡◌, List, map, Result, Ok, length, sym, ap, ◌∙◌}
use Rattle.std.proofs.lemmas.List.{length-map}
use Rattle.page_manifest.specs.Page.{Page}
use Rattle.page_cajole.specs.Pages.{Refusal, Runnable, module_outcome, page_outcome}
use Rattle.page_cajole.proofs.Outcomes.{is_cajoled_page}

abbrev runs : Runnable → Result Runnable Refusal
runs r = Ok r

pub as_many : {A : Type 0} (f : A → Runnable) (xs : List A) (p : Page) → page_outcome p ≡ Ok (map f xs) → length xs ≡ length p.modules
as_many f xs p e =
    let same : map module_outcome p.modules ≡ map runs (map f xs) = ((is_cajoled_page p).where_accepted (map f xs)).0 e in
    sym (length-map xs f) ∙ sym (length-map (map f xs) runs) ∙ ap (λ (l : List (Result Runnable Refusal)). length l) (sym same) ∙ length-map p.modules module_outcome
