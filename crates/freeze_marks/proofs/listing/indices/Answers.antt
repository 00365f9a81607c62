use Rattle.std.proofs.Common.{◌≡◌, ℕ, suc, ◌+◌, ◌-◌, ◌<◌, List, ◌∷◌, [], ◌++◌, ◌∙◌, sym, ap, refl, append_assoc, rules, arith}
use Rattle.caja_units.specs.Index.{number_units}
use Rattle.freeze_marks.specs.Listing.{indices_from}
use Rattle.freeze_marks.proofs.listing.indices.Goals as goal

one_less : (i n : ℕ) → i < n → indices_from i (n - i) ≡ number_units i ∷ indices_from (i + 1) (n - (i + 1))
one_less i n less =
    let e : n - i ≡ suc (n - (i + 1)) = omega (arith, less) in
    rw e refl

next : (keys more : List (List ℕ)) (key : List ℕ) (i n : ℕ) (all : List (List ℕ)) → i < n → keys ++ indices_from i (n - i) ≡ all → key ≡ number_units i → more ≡ keys ++ key ∷ [] → more ++ indices_from (i + 1) (n - (i + 1)) ≡ all
next keys more key i n all less so_far is pushed =
    rw (pushed, is) (append_assoc keys (number_units i ∷ []) (indices_from (i + 1) (n - (i + 1))) ∙ ap (λ l. keys ++ l) (sym (one_less i n less)) ∙ so_far)

pub loop-index-preserved : goal.loop-index-preserved
loop-index-preserved c =
    next c.loop-index.keys.items c.push.new.self.items c.in_ok-key.key c.loop-index.index c.args.count _ c.loop-index-test.true c.loop-index.invariant (search rules) (search rules)
