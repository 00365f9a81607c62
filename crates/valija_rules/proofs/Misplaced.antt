-- Rule 4 by the first jump or label that is misplaced.
use Rattle.std.proofs.Common.{◌≡◌, List, [], ◌∷◌, map, Bool, true, false, cond, Option, Some, None, option_map, nat_lt, nat_eq, refl, sym, ap, ◌∙◌}
use Rattle.std.specs.Prelude.{◌||◌, ◌&&◌}
use Rattle.es3_tree.specs.Tree as t
use Rattle.es3_tree.specs.Placed as p
use Rattle.es3_tree.specs.Placed.{Placed}
use Rattle.es3_labels.specs.Around.{in_program}
use Rattle.es3_labels.specs.Misplaced as labels
use Rattle.es3_labels.specs.Misplaced.{Misplaced, misplaced, first_of}
use Rattle.cajita_rules.specs.Faults.{is_before, ordered}
use Rattle.valija_rules.specs.Faults.{bad_label}
use Rattle.cajita_rules.specs.Found.{first_in, earlier_of}
use Rattle.cajita_rules.proofs.Order.{first-more}

no_smaller : (a b : Bool) → (a || (b && false)) ≡ a
no_smaller true b = refl
no_smaller false true = refl
no_smaller false false = refl

by_place : (m n : Misplaced) → is_before (bad_label n) (bad_label m) ≡ nat_lt n.at m.at
by_place m n = no_smaller (nat_lt n.at m.at) (nat_eq n.at m.at)

choice : (b c : Bool) (m n : Misplaced) → b ≡ c → cond b (Some (bad_label n)) (Some (bad_label m)) ≡ option_map bad_label (cond c (Some n) (Some m))
choice b true m n e = ap (λ d. cond d (Some (bad_label n)) (Some (bad_label m))) e
choice b false m n e = ap (λ d. cond d (Some (bad_label n)) (Some (bad_label m))) e

same : (m : Misplaced) (o : Option Misplaced) → earlier_of (Some (bad_label m)) (option_map bad_label o) ≡ option_map bad_label (labels.earlier (Some m) o)
same m None = refl
same m (Some n) = choice (is_before (bad_label n) (bad_label m)) (nat_lt n.at m.at) m n (by_place m n)

first_label : (ms : List Misplaced) → first_in (map bad_label ms) ≡ option_map bad_label (labels.first ms)
first_label [] = refl
first_label (m ∷ ms) =
    first-more (bad_label m) (ordered (map bad_label ms))
    ∙ ap (earlier_of (Some (bad_label m))) (first_label ms)
    ∙ same m (labels.first ms)

of_script : (ss : Placed t.stmts) → first_of (p.script ss) ≡ labels.first (misplaced in_program t.stmts ss)
unfolding misplaced
of_script ss = refl

pub of_program : (ss : Placed t.stmts) → first_in (map bad_label (misplaced in_program t.stmts ss)) ≡ option_map bad_label (first_of (p.script ss))
of_program ss = first_label (misplaced in_program t.stmts ss) ∙ ap (option_map bad_label) (sym (of_script ss))
