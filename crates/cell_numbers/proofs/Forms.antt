-- Where the world's answers are the same under maps, every run of every form is.
use Rattle.std.proofs.Common.{◌≡◌, ℕ, zero, suc, true, false, List, [], ◌∷◌, ◌++◌, Option, Some, None, refl, sym, ap, ◌∙◌, subst}
use Rattle.std.specs.Prelude.{map, option_map, nat_eq, if◌then◌else◌}
use Rattle.std.proofs.lemmas.List.{map-append}
use Rattle.plans.specs.Plans.{Plan, ends, stops, enter, tick, told, bind, over, stopped, out, run}
use Rattle.acts.specs.Acts.{Task, task, Act, done, halt, value, part, step, ask, keep, Reply, answer, fault, telling, stepping, calling, Forms, Places, nothing, put, held, pass, replied, plan_of, given_at, opening, task_plan, language}
use Rattle.cell_numbers.specs.Mapped.{Maps, mapped_task, MappedReply, MappedPlan, mapped_run, Fits}

-- what stands at places that are mapped
held_mapped : {V : Type 0} (f : V → V) (at to : Places V) → ((p : ℕ) → to p ≡ map f (at p)) → (ps : List ℕ) → held to ps ≡ map f (held at ps)
held_mapped f at to h [] = refl
held_mapped f at to h (p ∷ []) = h p
held_mapped f at to h (p ∷ q ∷ ps) = ap (λ l. l ++ held to (q ∷ ps)) (h p) ∙ ap (λ l. map f (at p) ++ l) (held_mapped f at to h (q ∷ ps)) ∙ sym (map-append f (at p) (held at (q ∷ ps)))

put_mapped : {V : Type 0} (f : V → V) (n : ℕ) (vs us : List V) (at to : Places V) → us ≡ map f vs → ((p : ℕ) → to p ≡ map f (at p)) → (p : ℕ) → put n us to p ≡ map f (put n vs at p)
put_mapped f n vs us at to e h p = elim (nat_eq p n) as (λ b. (if b then us else to p) ≡ map f (if b then vs else at p)) [ true ↦ e | false ↦ h p ]

-- plans

module _ {T V C X I : Type 0} (M : Maps V C X I) where
  -- a plan under the maps, and then another one
  pub bind_mapped : (p q : Plan (Task T V) C X I) (j k : C → X → Plan (Task T V) C X I) → MappedPlan M p q → ((c : C) (x : X) → MappedPlan M (j c x) (k (M.ending c) (M.store x))) → MappedPlan M (bind p j) (bind q k)
  bind_mapped (ends c x) (ends e y) j k h g = subst (λ e. MappedPlan M (j c x) (k e y)) (sym h.0) (subst (λ y. MappedPlan M (j c x) (k (M.ending c) y)) (sym h.1) (g c x))
  bind_mapped (stops f x) (stops e y) j k h g = h
  bind_mapped (told i p) (told e q) j k h g = (h.0, bind_mapped p q j k h.1 g)
  bind_mapped (tick x p) (tick y q) j k h g = (h.0, bind_mapped p q j k h.1 g)
  bind_mapped (enter t x next) (enter u y forth) j k h g = (h.0, h.1, λ c x'. bind_mapped (next c x') (forth (M.ending c) (M.store x')) j k (h.2 c x') g)
  bind_mapped p q j k h g = absurd h

  -- an answer under the maps, and what is done with it
  pub replied_mapped : {A : Type 0} (r q : Reply (Task T V) C A V X I) (go back : A → List V → X → Plan (Task T V) C X I) → MappedReply M r q → ((a : A) (vs : List V) (x : X) → MappedPlan M (go a vs x) (back a (map M.value vs) (M.store x))) → MappedPlan M (replied r go) (replied q back)
  replied_mapped (answer a vs x) (answer b us y) go back h g =
      subst (λ b. MappedPlan M (go a vs x) (back b us y)) (sym h.0) (subst (λ us. MappedPlan M (go a vs x) (back a us y)) (sym h.1) (subst (λ y. MappedPlan M (go a vs x) (back a (map M.value vs) y)) (sym h.2) (g a vs x)))
  replied_mapped (fault f x) (fault e y) go back h g = h
  replied_mapped (telling i r) (telling j q) go back h g = (h.0, replied_mapped r q go back h.1 g)
  replied_mapped (stepping x r) (stepping y q) go back h g = (h.0, replied_mapped r q go back h.1 g)
  replied_mapped (calling t x b) (calling u y c) go back h g = (h.0, h.1, λ e x'. replied_mapped (b e x') (c (M.ending e) (M.store x')) go back (h.2 e x') g)
  replied_mapped r q go back h g = absurd h

-- forms

module _ {T E O A V C X I : Type 0} (F : Forms T E O A V C X I) (M : Maps V C X I) (fit : Fits F M) where
  passed : (o u : Option V) (c e : C) (x : X) (go back : V → X → Plan (Task T V) C X I) → u ≡ option_map M.value o → e ≡ M.ending c → ((v : V) → MappedPlan M (go v x) (back (M.value v) (M.store x))) → MappedPlan M (pass o c x go) (pass u e (M.store x) back)
  passed o u c e x go back is are h = subst (λ u. MappedPlan M (pass o c x go) (pass u e (M.store x) back)) (sym is) (at o)
    where
      at : (o : Option V) → MappedPlan M (pass o c x go) (pass (option_map M.value o) e (M.store x) back)
      at None = (are, refl)
      at (Some v) = h v

  -- every act does the same with the values at its places mapped
  pub act_mapped : (a : Act T E O A) (m n : ℕ) (at to : Places V) (x : X) → ((p : ℕ) → to p ≡ map M.value (at p)) → MappedPlan M (plan_of F m n at a x) (plan_of F m n to a (M.store x))
  act_mapped (done e ps) m n at to x h = (ap (F.ending e) (held_mapped M.value at to h ps) ∙ fit.endings e (held at ps), refl)
  act_mapped (halt f) m n at to x h = (refl, refl)
  act_mapped (value t go) m n at to x h = (
    refl,
    refl,
    λ c x'. passed (F.value_in c) (F.value_in (M.ending c)) c (M.ending c) x' (λ v x2. plan_of F m (suc n) (put n (v ∷ []) at) (go n) x2) (λ v x2. plan_of F m (suc n) (put n (v ∷ []) to) (go n) x2) (fit.value_in c) refl
        (λ v. act_mapped (go n) m (suc n) (put n (v ∷ []) at) (put n (M.value v ∷ []) to) x' (put_mapped M.value n (v ∷ []) (M.value v ∷ []) at to refl h)),
  )
  act_mapped (part t ps go) m n at to x h = (
    ap (task t m) (held_mapped M.value at to h ps),
    refl,
    λ c x'. subst (λ s. MappedPlan M (plan_of F m (suc n) (put n (F.values c) at) (go (F.shape c) n) x') (plan_of F m (suc n) (put n (F.values (M.ending c)) to) (go s n) (M.store x'))) (sym (fit.shapes c))
        (act_mapped (go (F.shape c) n) m (suc n) (put n (F.values c) at) (put n (F.values (M.ending c)) to) x' (put_mapped M.value n (F.values c) (F.values (M.ending c)) at to (fit.values c) h)),
  )
  act_mapped (step a) m n at to x h = (refl, act_mapped a m n at to x h)
  act_mapped (ask o ps go) m n at to x h =
      subst (λ us. MappedPlan M (plan_of F m n at (ask o ps go) x) (replied (F.reply o m us (M.store x)) (λ a vs x'. plan_of F m (suc n) (put n vs to) (go a n) x'))) (sym (held_mapped M.value at to h ps))
      (replied_mapped M (F.reply o m (held at ps) x) (F.reply o m (map M.value (held at ps)) (M.store x)) (λ a vs x'. plan_of F m (suc n) (put n vs at) (go a n) x') (λ a vs x'. plan_of F m (suc n) (put n vs to) (go a n) x') (fit.replies o m (held at ps) x)
      (λ a vs x'. act_mapped (go a n) m (suc n) (put n vs at) (put n (map M.value vs) to) x' (put_mapped M.value n vs (map M.value vs) at to refl h)))
  act_mapped (keep ps go) m n at to x h = act_mapped (go 0) m 1 (put 0 (held at ps) nothing) (put 0 (held to ps) nothing) x (put_mapped M.value 0 (held at ps) (held to ps) nothing nothing (held_mapped M.value at to h ps) (λ p. refl))

  given_mapped : (vs us : List V) → us ≡ map M.value vs → (p : ℕ) → given_at us p ≡ map M.value (given_at vs p)
  given_mapped vs us e = put_mapped M.value 0 vs us nothing nothing e (λ p. refl)

  opening_mapped : (o : Option (T × (E → ℕ → Act T E O A))) (t : Task T V) (x : X) → MappedPlan M (opening F o t x) (opening F o (mapped_task M t) (M.store x))
  opening_mapped None t x = act_mapped (F.act t.form) t.by 1 (given_at t.given) (given_at (map M.value t.given)) x (given_mapped t.given (map M.value t.given) refl)
  opening_mapped (Some (u, go)) t x =
      bind_mapped M (plan_of F t.by 1 (given_at t.given) (F.act u) x) (plan_of F t.by 1 (given_at (map M.value t.given)) (F.act u) (M.store x)) (λ c x'. plan_of F t.by 1 (given_at (F.values c)) (go (F.shape c) 0) x') (λ c x'. plan_of F t.by 1 (given_at (F.values c)) (go (F.shape c) 0) x')
      (act_mapped (F.act u) t.by 1 (given_at t.given) (given_at (map M.value t.given)) x (given_mapped t.given (map M.value t.given) refl))
      (λ c x'. subst (λ s. MappedPlan M (plan_of F t.by 1 (given_at (F.values c)) (go (F.shape c) 0) x') (plan_of F t.by 1 (given_at (F.values (M.ending c))) (go s 0) (M.store x'))) (sym (fit.shapes c))
      (act_mapped (go (F.shape c) 0) t.by 1 (given_at (F.values c)) (given_at (F.values (M.ending c))) x' (given_mapped (F.values c) (F.values (M.ending c)) (fit.values c))))

  -- runs

  module _ {S : Type 0} (note : I → S → S) (kept : S → S) (noted : (i : I) (z : S) → note (M.item i) (kept z) ≡ kept (note i z)) where
    -- plans that are the same under the maps run so
    pub run_mapped : (n : ℕ) (p q : Plan (Task T V) C X I) (z : S) → MappedPlan M p q → run (language F note) n q (kept z) ≡ mapped_run M kept (run (language F note) n p z)
    run_mapped n (ends c x) (ends e y) z h = ap (λ e. over e y (kept z) n) h.0 ∙ ap (λ y. over (M.ending c) y (kept z) n) h.1
    run_mapped n (stops f x) (stops g y) z h = ap (λ g. stopped g y (kept z) n) h.0 ∙ ap (λ y. stopped f y (kept z) n) h.1
    run_mapped n (told i p) (told j q) z h = ap (λ j. run (language F note) n q (note j (kept z))) h.0 ∙ ap (λ y. run (language F note) n q y) (noted i z) ∙ run_mapped n p q (note i z) h.1
    run_mapped zero (tick x p) (tick y q) z h = ap (λ y. out y (kept z) 0) h.0
    run_mapped (suc n) (tick x p) (tick y q) z h = run_mapped n p q z h.1
    run_mapped zero (enter t x next) (enter u y forth) z h = ap (λ y. out y (kept z) 0) h.1
    run_mapped (suc n) (enter t x next) (enter u y forth) z h =
        ap (λ u. run (language F note) n (bind (task_plan F u y) forth) (kept z)) h.0 ∙ ap (λ y. run (language F note) n (bind (task_plan F (mapped_task M t) y) forth) (kept z)) h.1
        ∙ run_mapped n (bind (task_plan F t x) next) (bind (task_plan F (mapped_task M t) (M.store x)) forth) z (bind_mapped M (task_plan F t x) (task_plan F (mapped_task M t) (M.store x)) next forth (opening_mapped (F.turn t.form) t x) h.2)
    run_mapped n p q z h = absurd h
