-- Literals that are values by themselves.
use Rattle.std.proofs.Common.{ℕ, Bool, List, refl, arith}
use Rattle.std.specs.Prelude.{ℤ}
use Rattle.es3_tree.specs.Tree as t
use Rattle.cajita_tree.specs.Tree as c
use Rattle.cajita_simulation.proofs.Relation.{Here}
use Rattle.cajita_simulation.proofs.Laws.{ValueBody, give}

pub null_body : {H : Here} {d b : ℕ} → ValueBody H d b 0 c.null t.null
null_body = record { on = λ lt room r x. give (omega arith) (omega arith) x tt r }

pub truth_body : {H : Here} {d b : ℕ} (a : Bool) → ValueBody H d b 0 (c.bool a) (t.bool a)
truth_body a = record { on = λ lt room r x. give (omega arith) (omega arith) x refl r }

pub number_body : {H : Here} {d b : ℕ} (a : ℤ) → ValueBody H d b 0 (c.num a) (t.num a)
number_body a = record { on = λ lt room r x. give (omega arith) (omega arith) x refl r }

pub text_body : {H : Here} {d b : ℕ} (us : List ℕ) → ValueBody H d b 0 (c.text us) (t.text us)
text_body us = record { on = λ lt room r x. give (omega arith) (omega arith) x refl r }
