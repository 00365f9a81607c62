-- Modules of a page, one after another.
use Rattle.std.proofs.Common.{◌≡◌, ℕ, ◌+◌, List, [], ◌∷◌, ◌++◌, map, Result, Ok, Err, refl, sym, ap, ◌∙◌, append_assoc}
use Rattle.std.proofs.lemmas.List.{map-append}
use Rattle.page_manifest.specs.View.{module_spec}
use Rattle.page_manifest.specs.declared.ModuleSpec.{ModuleSpec}
use Rattle.page_cajole.specs.Pages.{Refusal, Runnable, module_outcome, chain, numbered, each}
use Rattle.page_cajole.specs.PageAnswers.{runnable}
use Rattle.page_cajole.specs.declared.CajoledModule.{CajoledModule}

-- what runs for modules in front, and for those behind them
abbrev pub behind : List Runnable → Result (List Runnable) (ℕ × Refusal) → Result (List Runnable) (ℕ × Refusal)
behind rs x = chain x (λ qs. Ok (rs ++ qs))

turned : (rs : List Runnable) (r : Runnable) (x : Result (List Runnable) (ℕ × Refusal)) → behind rs (chain x (λ qs. Ok (r ∷ qs))) ≡ behind (rs ++ r ∷ []) x
turned rs r (Ok qs) = ap Ok (sym (append_assoc rs (r ∷ []) qs))
turned rs r (Err e) = refl

-- one more module runs
pub turn :
    (n : ℕ) (left : List ModuleSpec) (outs : List CajoledModule) (whole : Result (List Runnable) (ℕ × Refusal)) → behind (map runnable outs) (each n (map module_spec left)) ≡ whole
    → (x : ModuleSpec) (rest : List ModuleSpec) (o : CajoledModule) (after : List CajoledModule) → left ≡ x ∷ rest → numbered n (module_outcome (module_spec x)) ≡ Ok (runnable o) → after ≡ outs ++ o ∷ []
    → behind (map runnable after) (each (n + 1) (map module_spec rest)) ≡ whole
turn n left outs whole so_far x rest o after is found added =
    let later : Result (List Runnable) (ℕ × Refusal) = each (n + 1) (map module_spec rest) in
    ap (λ l. behind l later) (ap (map runnable) added ∙ map-append runnable outs (o ∷ []))
    ∙ sym (turned (map runnable outs) (runnable o) later)
    ∙ sym (ap (λ r. behind (map runnable outs) (chain r (λ q. chain later (λ qs. Ok (q ∷ qs))))) found)
    ∙ sym (ap (λ l. behind (map runnable outs) (each n (map module_spec l))) is)
    ∙ so_far
