-- How two plans are matched, a step at a time.
use Rattle.std.proofs.Common.{ℕ, suc, ◌<◌, arith}
use Rattle.plans.specs.Plans.{Fault, Plan, ends, stops, enter, tick, told, bind, Run}
use Rattle.matching.specs.Sides.{Sides, Meets, alike, past, Match}
use Rattle.matching.proofs.Limits.{ran_count, ran_grows}

module _ {T E X I S T' E' X' I' S' : Type 0} where
  -- both end
  pub both_end : {A : Sides T E X I S T' E' X' I' S'} {d : ℕ} {e : E} {x : X} {z : S} {n : ℕ} {e' : E'} {x' : X'} {z' : S'} {n' : ℕ} → A.Affords n n' → A.Ends e x z n e' x' z' n' → Match A d (ends e x) z n (ends e' x') z' n'
  both_end {d = d} le p = record { many = d; meets = alike (omega arith) le p }

  -- both stop for good
  pub both_stop : {A : Sides T E X I S T' E' X' I' S'} {d : ℕ} {f : Fault} {x : X} {z : S} {n : ℕ} {f' : Fault} {x' : X'} {z' : S'} {n' : ℕ} → A.Affords n n' → A.Stops f x z f' x' z' → Match A d (stops f x) z n (stops f' x') z' n'
  both_stop {d = d} le p = record { many = d; meets = alike (omega arith) le p }

  -- no task is left for the left side
  pub both_cut : {A : Sides T E X I S T' E' X' I' S'} {t : T} {x : X} {k : E → X → Plan T E X I} {z : S} {n : ℕ} {t' : T'} {x' : X'} {k' : E' → X' → Plan T' E' X' I'} {z' : S'} {n' : ℕ} → A.Affords n n' → A.Outs z z' → Match A 0 (enter t x k) z n (enter t' x' k') z' n'
  both_cut le p = record { many = 0; meets = alike (omega arith) le p }

  -- the right side has taken more steps than are looked at
  pub right_past : {A : Sides T E X I S T' E' X' I' S'} {d : ℕ} {p : Plan T E X I} {z : S} {n : ℕ} {t' : T'} {x' : X'} {k' : E' → X' → Plan T' E' X' I'} {z' : S'} {n' : ℕ} → A.most < n' → A.Affords n n' → A.Begins z' z → Match A d p z n (enter t' x' k') z' n'
  right_past {A = A} {d = d} {p = p} {z = z} {n = n} {z' = z'} {n' = n'} lt le b =
      record { many = 0; meets = past lt (A.affords_more n _ n' (ran_count A.left d p z n) le) (A.begins_more z' z' z _ (A.grows'.same z') b (ran_grows A.left A.Longer A.grows d p z n)) }

  -- both enter a task
  pub both_enter : {A : Sides T E X I S T' E' X' I' S'} {d : ℕ} {t : T} {x : X} {k : E → X → Plan T E X I} {z : S} {n : ℕ} {t' : T'} {x' : X'} {k' : E' → X' → Plan T' E' X' I'} {z' : S'} {n' : ℕ} → Match A d (bind (A.left.plan t x z) k) (A.left.kept t x z) (suc n) (bind (A.right.plan t' x' z') k') (A.right.kept t' x' z') (suc n') → Match A (suc d) (enter t x k) z n (enter t' x' k') z' n'
  both_enter {A = A} {d = d} {t = t} {x = x} {k = k} {z = z} {n = n} {t' = t'} {x' = x'} {k' = k'} {z' = z'} {n' = n'} p =
      record { many = suc p.many; meets = one_more p.meets }
    where
      one_more : {d many : ℕ} {u : Run E X S} {q : Run E' X' S'} → Meets A d many u q → Meets A (suc d) (suc many) u q
      one_more (alike le steps same) = alike (omega arith) steps same
      one_more (past lt steps b) = past lt steps b

  -- the right side alone enters one
  pub right_enter : {A : Sides T E X I S T' E' X' I' S'} {d : ℕ} {p : Plan T E X I} {z : S} {n : ℕ} {t' : T'} {x' : X'} {k' : E' → X' → Plan T' E' X' I'} {z' : S'} {n' : ℕ} → Match A d p z n (bind (A.right.plan t' x' z') k') (A.right.kept t' x' z') (suc n') → Match A d p z n (enter t' x' k') z' n'
  right_enter {A = A} p = record { many = suc p.many; meets = one_more p.meets }
    where
      one_more : {d many : ℕ} {u : Run E X S} {q : Run E' X' S'} → Meets A d many u q → Meets A d (suc many) u q
      one_more (alike le steps same) = alike (omega arith) steps same
      one_more (past lt steps b) = past lt steps b

  -- the left side takes a step that enters nothing
  pub left_tick : {A : Sides T E X I S T' E' X' I' S'} {d : ℕ} {x : X} {p : Plan T E X I} {z : S} {n : ℕ} {q : Plan T' E' X' I'} {z' : S'} {n' : ℕ} → Match A d p z (suc n) q z' n' → Match A d (tick x p) z n q z' n'
  left_tick p = record { many = p.many; meets = p.meets }

  -- the right side does
  pub right_tick : {A : Sides T E X I S T' E' X' I' S'} {d : ℕ} {p : Plan T E X I} {z : S} {n : ℕ} {x : X'} {q : Plan T' E' X' I'} {z' : S'} {n' : ℕ} → Match A d p z n q z' (suc n') → Match A d p z n (tick x q) z' n'
  right_tick p = record { many = p.many; meets = p.meets }

  pub left_told : {A : Sides T E X I S T' E' X' I' S'} {d : ℕ} {i : I} {p : Plan T E X I} {z : S} {n : ℕ} {q : Plan T' E' X' I'} {z' : S'} {n' : ℕ} → Match A d p (A.left.note i z) n q z' n' → Match A d (told i p) z n q z' n'
  left_told p = record { many = p.many; meets = p.meets }

  pub right_told : {A : Sides T E X I S T' E' X' I' S'} {d : ℕ} {p : Plan T E X I} {z : S} {n : ℕ} {i : I'} {q : Plan T' E' X' I'} {z' : S'} {n' : ℕ} → Match A d p z n q (A.right.note i z') n' → Match A d p z n (told i q) z' n'
  right_told p = record { many = p.many; meets = p.meets }
