-- The loop over the keys of an object.
use Rattle.std.proofs.Common.{ℕ, true, false, refl}
use Rattle.std.specs.Prelude.{codes}
use Rattle.es3_tree.specs.Tree as t
use Rattle.es3_tree.specs.Placed as p
use Rattle.es3_tree.specs.Placed.{Placed}
use Rattle.es3_labels.specs.Around.{Around, in_loop}
use Rattle.es3_labels.specs.Misplaced.{misplaced}
use Rattle.cajita_names.specs.Scope.{Scope}
use Rattle.cajita_rules.specs.Faults.{faults_in}
use Rattle.valija_forms.specs.Forms.{over_keys, kept}
use Rattle.valija_accepted.proofs.Lists.{two}
use Rattle.valija_accepted.proofs.Scopes.{Home, Holds}
use Rattle.valija_accepted.proofs.Parts.{IsClean}
use Rattle.valija_accepted.proofs.Asking.{ask_clean, list1_clean, list2_clean, number_clean, kept_clean, keeps_clean, kept_step_clean}

-- a key by its place
pub at_key_clean : {r : Scope} {a : Around} {i j : ℕ} → Holds r i → Holds r j → IsClean r a t.expr (p.index (kept i) (kept j))
unfolding faults_in misplaced
at_key_clean {r} {a} {i} {j} h k =
    let x : IsClean r a t.expr (kept i) = kept_clean h in
    let y : IsClean r a t.expr (kept j) = kept_clean k in
    record { rules = two x.rules y.rules; jumps = two x.jumps y.jumps }

pub over_keys_clean : {r : Scope} {a : Around} {i j k : ℕ} {w e : Placed t.expr} {x : Placed t.stmt} → Home r → Holds r i → Holds r j → Holds r k
    → IsClean r (in_loop a) t.expr w → IsClean r a t.expr e → IsClean r (in_loop a) t.stmt x → IsClean r a t.stmt (over_keys i j k w e x)
unfolding faults_in misplaced
over_keys_clean {r} {a} {i} {j} {k} home h g l w e x =
    let object : IsClean r a t.expr _ = keeps_clean h e in
    let keys : IsClean r a t.expr _ = keeps_clean g (ask_clean (codes "ks") home refl (list1_clean (kept_clean h))) in
    let place : IsClean r a t.expr _ = keeps_clean l (number_clean 0) in
    let list : IsClean r a t.expr (kept j) = kept_clean g in
    let at : IsClean r a t.expr (kept k) = kept_clean l in
    let step : IsClean r a t.expr (p.step true false (kept k)) = kept_step_clean l in
    let has : IsClean r (in_loop a) t.expr _ = ask_clean (codes "h") home refl (list2_clean (at_key_clean g l) (kept_clean h)) in
    record {
      rules = two (two (two (two (two object.rules keys.rules) place.rules) (two at.rules (two list.rules refl))) step.rules) (two (two (two has.rules (two w.rules (two x.rules refl))) refl) refl);
      jumps = two (two (two (two (two object.jumps keys.jumps) place.jumps) (two at.jumps list.jumps)) step.jumps) (two (two (two has.jumps (two w.jumps (two x.jumps refl))) refl) refl);
    }
