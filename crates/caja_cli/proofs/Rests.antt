-- Texts of modules, and what is written for sheets, of which one of two lists has ended.
use Rattle.std.proofs.Common.{◌≡◌, ℕ, List, [], ◌∷◌, map, refl, ◌⊎◌, inl, inr}
use Rattle.std.specs.Global.{Vec}
use Rattle.page_manifest.specs.View.{module_spec, style}
use Rattle.page_manifest.specs.declared.Style.{Style}
use Rattle.page_manifest.specs.declared.ModuleSpec.{ModuleSpec}
use Rattle.page_cajole.specs.PageAnswers.{runnable}
use Rattle.page_cajole.specs.declared.CajoledModule.{CajoledModule}
use Rattle.caja_cli.specs.Output.{module_parts, style_parts}

pub none_left : (xs : List ModuleSpec) (ys : List CajoledModule) → (xs ≡ []) ⊎ (ys ≡ []) → module_parts (map module_spec xs) (map runnable ys) ≡ []
none_left [] ys e = refl
none_left (x ∷ xs) [] e = refl
none_left (x ∷ xs) (y ∷ ys) (inl e) = absurd cc
none_left (x ∷ xs) (y ∷ ys) (inr e) = absurd cc

pub no_style_left : (xs : List Style) (ys : List (Vec ℕ)) → (xs ≡ []) ⊎ (ys ≡ []) → style_parts (map style xs) (map (λ text. text.items) ys) ≡ []
no_style_left [] ys e = refl
no_style_left (x ∷ xs) [] e = refl
no_style_left (x ∷ xs) (y ∷ ys) (inl e) = absurd cc
no_style_left (x ∷ xs) (y ∷ ys) (inr e) = absurd cc
