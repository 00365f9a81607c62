-- The brackets that are open, and that the shortest end opens at most one more.
use Rattle.std.proofs.Common.{◌≡◌, ℕ, ◌+◌, ◌-◌, max, Bool, true, false, cond, ◌||◌, List, [], ◌∷◌, ◌++◌, map, refl, arith, subst}
use Rattle.es3_tree.specs.Token.{Token}
use Rattle.es3_grammar.specs.Spots.{Spot}
use Rattle.es3_grammar.specs.Levels.{is_target}
use Rattle.es3_grammar.specs.Frames.{Field, Opened, an_array, a_call, a_new, a_program, a_block, a_function, a_clause, a_try, a_catch, a_finally, paren, subscript, items, field, new_of, prefix_step, prefix, join, test, either, statement, value, if_test, while_test, do_test, for_first, for_test, for_step, for_object, giving, throwing, with_head, switch_head, case_test, then_of, else_of, while_body, do_body, for_body, in_body, with_body, label_of, body, Stack, State, want, have, past, listed, member, key, func, params, param, param_end, start, begun, ended, closing, item, item_end, for_open, for_second, for_third, returned, jumped, clauses, tried, caught, catch_name, await}
use Rattle.es3_grammar.specs.Machine.{closer}
use Rattle.es3_grammar.specs.Ends.{spot, close_value, stepped, close_step, close_new, close, close_statement, close_func, close_start, close_key, tail}
use Rattle.es3_grammar.specs.Limit.{opens, shuts, most}
use Rattle.es3_grammar.specs.Sums.{sums, one_more, brackets, open_before, brackets_in, opens_first, peak, Ready, Steady}
use Rattle.es3_grammar.proofs.Least.{most_low, most_back}
use Rattle.es3_grammar.proofs.Sums.{stepped_sums}

-- ---- the most brackets of an end

-- where so many are open before these tokens, that is the most along them, or one more where the truth value says so
pub record Peaks (o : ℕ) (k : List Spot) (b : Bool) : Type 0 where
  pub is : most o k ≡ one_more b o

mark : {o : ℕ} {k : List Spot} {c : Spot} {b : Bool} → opens c.0 ≡ false → shuts c.0 ≡ false → Peaks o k b → Peaks o (c ∷ k) b
mark {o} {k} {c} {b} p s h = record { is = rw (p, s) (let i = h.is in omega (arith, most_low k o)) }

shut : {o : ℕ} {k : List Spot} {c : Spot} {b : Bool} → opens c.0 ≡ false → shuts c.0 ≡ true → Peaks o k b → Peaks (o + 1) (c ∷ k) false
shut {o} {k} {c} {b} p s h = record { is = rw (p, s) (low b h.is) }
  where
    low : (b : Bool) → most o k ≡ one_more b o → max (o + 1) (most ((o + 1) - 1) k) ≡ o + 1
    low true e = omega (arith, most_back k o)
    low false e = omega (arith, most_back k o)

open_one : {o : ℕ} {k : List Spot} {c : Spot} → opens c.0 ≡ true → Peaks (o + 1) k false → Peaks o (c ∷ k) true
open_one {o} {k} {c} p h = record { is = rw p (let i = h.is in omega arith) }

-- a pair of brackets with nothing in it
pair : {o : ℕ} {k : List Spot} {c d : Spot} {b : Bool} → opens c.0 ≡ true → opens d.0 ≡ false → shuts d.0 ≡ true → Peaks o k b → Peaks o (c ∷ d ∷ k) true
pair p q s h = open_one p (shut q s h)

pub closer_shuts : (o : Opened) → (opens (closer o) ≡ false) × (shuts (closer o) ≡ true)
closer_shuts an_array = (refl, refl)
closer_shuts (a_call x) = (refl, refl)
closer_shuts (a_new x) = (refl, refl)

new_peaks : (s b : Bool) (o : ℕ) (k : List Spot) → Peaks o k b → Peaks o (close_new s k) (s || b)
new_peaks true b o k h = pair refl refl refl h
new_peaks false b o k h = h

step_peaks : (s b : Bool) (o : ℕ) (k : List Spot) → Peaks o k b → Peaks o (close_step s k) b
step_peaks true b o k h = h
step_peaks false b o k h = mark refl refl (mark refl refl h)

value_peaks : (h b : Bool) (o : ℕ) (k : List Spot) → Peaks o k b → Peaks (one_more h o) (close_value h k) (cond h false b)
value_peaks true b o k p = mark refl refl (mark refl refl (shut refl refl (mark refl refl p)))
value_peaks false b o k p = mark refl refl p

func_peaks : (d b c : Bool) (o : ℕ) (k l : List Spot) → Peaks o k b → Peaks o l c → Peaks o (cond d k l) (cond d b c)
func_peaks true b c o k l p q = p
func_peaks false b c o k l p q = q

-- behind an expression, which is a target or not, and behind a statement
mutual
  pub close_peaks : (f : Stack) (b : Bool) → Peaks (brackets f) (close b f) (sums f).part_opens
  close_peaks [] b = record { is = refl }
  close_peaks (paren ∷ f) b = shut refl refl (close_peaks f b)
  close_peaks (subscript x ∷ f) b = shut refl refl (close_peaks f true)
  close_peaks (items o xs ∷ f) b = shut (closer_shuts o).0 (closer_shuts o).1 (close_peaks f false)
  close_peaks (field fs n ∷ f) b = shut refl refl (close_peaks f false)
  close_peaks (new_of ∷ f) b = subst (λ (z : Bool). Peaks (brackets f) (close_new (stepped f) (close false f)) (z || (sums f).part_opens)) (stepped_sums f) (new_peaks (stepped f) _ _ _ (close_peaks f false))
  close_peaks (prefix_step up ∷ f) b = step_peaks b _ _ _ (close_peaks f false)
  close_peaks (prefix op a ∷ f) b = close_peaks f false
  close_peaks (join j x ∷ f) b = close_peaks f false
  close_peaks (test x ∷ f) b = mark refl refl (mark refl refl (close_peaks f false))
  close_peaks (either x y ∷ f) b = close_peaks f false
  close_peaks (statement ∷ f) b = mark refl refl (behind_peaks f)
  close_peaks (value h n its ∷ f) b = value_peaks h _ _ _ (behind_peaks f)
  close_peaks (if_test ∷ f) b = shut refl refl (mark refl refl (behind_peaks f))
  close_peaks (while_test ∷ f) b = shut refl refl (mark refl refl (behind_peaks f))
  close_peaks (do_test s ∷ f) b = shut refl refl (mark refl refl (behind_peaks f))
  close_peaks (for_first ∷ f) b = mark refl refl (mark refl refl (shut refl refl (mark refl refl (behind_peaks f))))
  close_peaks (for_test r ∷ f) b = mark refl refl (shut refl refl (mark refl refl (behind_peaks f)))
  close_peaks (for_step r m ∷ f) b = shut refl refl (mark refl refl (behind_peaks f))
  close_peaks (for_object r ∷ f) b = shut refl refl (mark refl refl (behind_peaks f))
  close_peaks (giving a ∷ f) b = mark refl refl (behind_peaks f)
  close_peaks (throwing ∷ f) b = mark refl refl (behind_peaks f)
  close_peaks (with_head a ∷ f) b = shut refl refl (mark refl refl (behind_peaks f))
  close_peaks (switch_head ∷ f) b = shut refl refl (pair refl refl refl (behind_peaks f))
  close_peaks (case_test x cs ∷ f) b = mark refl refl (shut refl refl (behind_peaks f))
  close_peaks (body o ss ∷ f) b = record { is = refl }
  close_peaks (_ ∷ f) b = record { is = refl }

  pub behind_peaks : (f : Stack) → Peaks (brackets f) (close_statement f) (sums f).behind_opens
  behind_peaks [] = record { is = refl }
  behind_peaks (then_of x ∷ f) = behind_peaks f
  behind_peaks (else_of x s ∷ f) = behind_peaks f
  behind_peaks (while_body x ∷ f) = behind_peaks f
  behind_peaks (do_body ∷ f) = mark refl refl (open_one refl (mark refl refl (shut refl refl (mark refl refl (behind_peaks f)))))
  behind_peaks (for_body r m n ∷ f) = behind_peaks f
  behind_peaks (in_body r x ∷ f) = behind_peaks f
  behind_peaks (with_body x a ∷ f) = behind_peaks f
  behind_peaks (label_of n ∷ f) = behind_peaks f
  behind_peaks (body a_program ss ∷ f) = record { is = refl }
  behind_peaks (body a_block ss ∷ f) = shut refl refl (behind_peaks f)
  behind_peaks (body (a_function h ps) ss ∷ f) = shut refl refl (func_peaks h.declared _ _ _ _ _ (behind_peaks f) (close_peaks f false))
  behind_peaks (body (a_clause x cs m) ss ∷ f) = shut refl refl (behind_peaks f)
  behind_peaks (body a_try ss ∷ f) = shut refl refl (mark refl refl (pair refl refl refl (behind_peaks f)))
  behind_peaks (body (a_catch rs n) ss ∷ f) = shut refl refl (behind_peaks f)
  behind_peaks (body (a_finally rs h) ss ∷ f) = shut refl refl (behind_peaks f)
  behind_peaks (_ ∷ f) = record { is = refl }

start_peaks : (f : Stack) → Peaks (brackets f) (close_start f) (sums f).behind_opens
start_peaks (body o ss ∷ f) = behind_peaks (body o ss ∷ f)
start_peaks [] = mark refl refl (behind_peaks [])
start_peaks (g ∷ f) = mark refl refl (behind_peaks (g ∷ f))

key_peaks : (fs : List Field) (f : Stack) → Peaks (brackets f + 1) (close_key fs (close false f)) false
key_peaks [] f = shut refl refl (close_peaks f false)
key_peaks (x ∷ xs) f = mark refl refl (mark refl refl (mark refl refl (shut refl refl (close_peaks f false))))

func_ends : (d : Bool) (f : Stack) → Peaks (brackets f) (close_func d f) (cond d (sums f).behind_opens (sums f).part_opens)
func_ends d f = func_peaks d _ _ _ _ _ (behind_peaks f) (close_peaks f false)

await_peaks : (ds : List Token) (n : ℕ) (b : Bool) (k : List Spot) → Ready ds n b → Peaks n k b → Peaks (open_before ds n) (map spot ds ++ k) (opens_first ds b)
await_peaks [] n b k r h = h
await_peaks (d ∷ ds) n b k r h = go (opens d) refl (shuts d) refl (await_peaks ds n b k r.1 h)
  where
    go : (o : Bool) → opens d ≡ o → (s : Bool) → shuts d ≡ s → Peaks (open_before ds n) (map spot ds ++ k) (opens_first ds b)
        → Peaks (cond o (open_before ds n - 1) (cond s (open_before ds n + 1) (open_before ds n))) (spot d ∷ (map spot ds ++ k)) (cond o true (cond s false (opens_first ds b)))
    go true p s q g = (let i = r.0 p in let e : open_before ds n ≡ open_before ds n - 1 + 1 = omega (arith, i.1) in open_one p (subst (λ (x : ℕ). Peaks x (map spot ds ++ k) false) e (subst (λ (x : Bool). Peaks (open_before ds n) (map spot ds ++ k) x) i.0 g)))
    go false p true q g = shut p q g
    go false p false q g = mark p q g

pub state_peaks : (s : State) → Steady s → Peaks (brackets_in s) (tail s) (peak s)
state_peaks (want f) h = mark refl refl (close_peaks f true)
state_peaks (have x f) h = close_peaks f (is_target x)
state_peaks (past x f) h = close_peaks f (is_target x)
state_peaks (listed o xs f) h = shut (closer_shuts o).0 (closer_shuts o).1 (close_peaks f false)
state_peaks (member x f) h = mark refl refl (close_peaks f true)
state_peaks (key fs f) h = key_peaks fs f
state_peaks (func d a f) h = mark refl refl (pair refl refl refl (pair refl refl refl (func_ends d f)))
state_peaks (params k f) h = shut refl refl (pair refl refl refl (func_ends k.declared f))
state_peaks (param k ps f) h = mark refl refl (shut refl refl (pair refl refl refl (func_ends k.declared f)))
state_peaks (param_end k ps f) h = shut refl refl (pair refl refl refl (func_ends k.declared f))
state_peaks (start f) h = start_peaks f
state_peaks (begun n f) h = mark refl refl (behind_peaks f)
state_peaks (ended s f) h = behind_peaks f
state_peaks (closing s f) h = mark refl refl (behind_peaks f)
state_peaks (item g its f) h = mark refl refl (value_peaks g _ _ _ (behind_peaks f))
state_peaks (item_end g n its f) h = value_peaks g _ _ _ (behind_peaks f)
state_peaks (for_open f) h = mark refl refl (mark refl refl (shut refl refl (mark refl refl (behind_peaks f))))
state_peaks (for_second r f) h = mark refl refl (shut refl refl (mark refl refl (behind_peaks f)))
state_peaks (for_third r m f) h = shut refl refl (mark refl refl (behind_peaks f))
state_peaks (returned a f) h = mark refl refl (behind_peaks f)
state_peaks (jumped b a f) h = mark refl refl (behind_peaks f)
state_peaks (clauses x f) h = shut refl refl (behind_peaks f)
state_peaks (tried ss f) h = mark refl refl (pair refl refl refl (behind_peaks f))
state_peaks (caught ss n hs f) h = behind_peaks f
state_peaks (catch_name ss f) h = mark refl refl (shut refl refl (pair refl refl refl (behind_peaks f)))
state_peaks (await ds s) h = await_peaks ds _ _ _ h.0 (state_peaks s h.1)
