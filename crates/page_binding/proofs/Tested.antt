-- What each of the tests behind the walk comes to.
use Rattle.std.proofs.Common.{◌≡◌, ℕ, List, Option, Some, None, Ok, Err, length, sym, ap, ◌∙◌}
use Rattle.std.specs.Map.{keys_of}
use Rattle.event_script.specs.Events.{Asked}
use Rattle.page_manifest.specs.Faults.{Found, chain, unknown_grant, overlap, unknown_target}
use Rattle.page_manifest.specs.Bound.{unless}
use Rattle.page_manifest.specs.Page.{Style}
use Rattle.page_roots.specs.Roots.{Roots}
use Rattle.page_binding.specs.Bound.{first_missing, first_bare, first_lost}
use Rattle.page_binding.specs.Table.{Table, is_held, overlap_from, takes_click, takes_input, last_tested, tested}

module _ (roots : Roots) (t : Table) (es : List Asked) where
  abbrev behind : Option ℕ → Option ℕ → Found (List (List ℕ))
  behind q r = chain (unless q (λ m. (overlap, m)) t) (λ _. unless r (λ k. (unknown_target, k)) (keys_of roots))

  abbrev pub Over : Option ℕ
  Over = overlap_from roots t (length roots) 0 roots

  abbrev pub Lost : Option ℕ
  Lost = first_lost (takes_click roots t) (takes_input roots t) 0 es

  pub tested_overlap : (m : ℕ) → Some m ≡ Over → last_tested roots t es ≡ Err (overlap, m)
  tested_overlap m k = ap (λ q. behind q Lost) (sym k)

  pub tested_lost : (m : ℕ) → None ≡ Over → Some m ≡ Lost → last_tested roots t es ≡ Err (unknown_target, m)
  tested_lost m k l = ap (λ q. behind q Lost) (sym k) ∙ ap (λ r. behind None r) (sym l)

  pub tested_last : None ≡ Over → None ≡ Lost → last_tested roots t es ≡ Ok (keys_of roots)
  tested_last k l = ap (λ q. behind q Lost) (sym k) ∙ ap (λ r. behind None r) (sym l)

  module _ (styles : List Style) where
    abbrev first : Option ℕ → Option ℕ → Found (List (List ℕ))
    first o q =
        chain (unless o (λ m. (unknown_grant, m)) t) (λ _.
        chain (unless q (λ i. (unknown_grant, i)) t) (λ _.
        last_tested roots t es))

    abbrev pub Missing : Option ℕ
    Missing = first_missing (is_held t) roots

    abbrev pub Bare : Option ℕ
    Bare = first_bare (is_held t) 0 styles

    pub tested_missing : (m : ℕ) → Some m ≡ Missing → tested roots t styles es ≡ Err (unknown_grant, m)
    tested_missing m h = ap (λ o. first o Bare) (sym h)

    pub tested_bare : (m : ℕ) → None ≡ Missing → Some m ≡ Bare → tested roots t styles es ≡ Err (unknown_grant, m)
    tested_bare m h k = ap (λ o. first o Bare) (sym h) ∙ ap (λ q. first None q) (sym k)

    pub tested_there : None ≡ Missing → None ≡ Bare → tested roots t styles es ≡ last_tested roots t es
    tested_there h k = ap (λ o. first o Bare) (sym h) ∙ ap (λ q. first None q) (sym k)
