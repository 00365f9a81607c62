-- What each answer of the world keeps, every run of every form keeps.
use Rattle.std.proofs.Common.{ℕ, zero, suc, ◌≤◌, List, [], ◌∷◌, ◌++◌, Option, Some, None, Bool, true, false, sym, subst, arith}
use Rattle.std.specs.Prelude.{nat_eq, if◌then◌else◌}
use Rattle.plans.specs.Plans.{Plan, ends, enter, bind, run}
use Rattle.acts.specs.Acts.{Task, task, Act, done, halt, value, part, step, ask, keep, Reply, answer, fault, telling, stepping, calling, Forms, Places, nothing, put, held, pass, on_value, replied, plan_of, given_at, opening, language}
use Rattle.acts.specs.Laws.{All, IfThere, IsMadeOf, Keeping, Replies, IsKept, Kept}

pub all_append : {V : Type 0} (P : V → Type 0) (xs ys : List V) → All P xs → All P ys → All P (xs ++ ys)
all_append P [] ys p q = q
all_append P (x ∷ xs) ys p q = (p.0, all_append P xs ys p.1 q)

pub all_map : {V : Type 0} (P Q : V → Type 0) → ((v : V) → P v → Q v) → (xs : List V) → All P xs → All Q xs
all_map P Q h [] p = tt
all_map P Q h (x ∷ xs) p = (h x p.0, all_map P Q h xs p.1)

pub all_held : {V : Type 0} (P : V → Type 0) (at : Places V) → ((p : ℕ) → All P (at p)) → (ps : List ℕ) → All P (held at ps)
all_held P at h [] = tt
all_held P at h (p ∷ []) = h p
all_held P at h (p ∷ q ∷ ps) = all_append P (at p) (held at (q ∷ ps)) (h p) (all_held P at h (q ∷ ps))

chosen : {V : Type 0} (P : V → Type 0) (b : Bool) (vs us : List V) → All P vs → All P us → All P (if b then vs else us)
chosen P true vs us p q = p
chosen P false vs us p q = q

pub all_put : {V : Type 0} (P : V → Type 0) (n : ℕ) (vs : List V) (at : Places V) → All P vs → ((p : ℕ) → All P (at p)) → (p : ℕ) → All P (put n vs at p)
all_put P n vs at h g p = chosen P (nat_eq p n) vs (at p) h (g p)

module _ {T E O A V C X I S : Type 0} (F : Forms T E O A V C X I) (note : I → S → S) (k : Keeping F note) (Asked : S → V → Type 0) where
  abbrev Good : ℕ → Plan (Task T V) C X I → S → Type 0
  Good n p z = Kept F note k Asked (run (language F note) n p z)

  -- what goes on after a plan of the module m keeps it, with d steps at most
  record Waits (d m : ℕ) (z : S) (next : C → X → Plan (Task T V) C X I) : Type 0 where
    pub on : (n : ℕ) → n ≤ d → (c : C) (x : X) (z' : S) → k.Later z z' → k.Holds x z' → All (k.Has z' m) (F.values c) → Good n (next c x) z'

  waits_less : {d e m : ℕ} {z z' : S} {next : C → X → Plan (Task T V) C X I} → e ≤ d → k.Later z z' → Waits d m z next → Waits e m z' next
  waits_less le l w = record { on = λ n ne c x z'' l' h a. w.on n (omega arith) c x z'' (k.more _ _ _ l l') h a }

  -- entering a task keeps it, with d steps at most
  record Tasks (d : ℕ) : Type 0 where
    pub on : (n : ℕ) → n ≤ d → (t : Task T V) (x : X) (z : S) (next : C → X → Plan (Task T V) C X I) → k.Runs t.by → k.Holds x z → All (k.Has z t.by) t.given → Waits d t.by z next → Good n (enter t x next) z

  module _ (Free : (V → Type 0) → Type 0) (made : IsMadeOf F Free) (free : (z : S) (m : ℕ) → Free (k.Has z m)) (law : IsKept F note k) where
    passed : (n : ℕ) (o : Option V) (c : C) (x : X) (z : S) (m : ℕ) (go : V → X → Plan (Task T V) C X I) (next : C → X → Plan (Task T V) C X I) → IfThere (k.Has z m) o → Good n (next c x) z → ((v : V) → k.Has z m v → Good n (bind (go v x) next) z) → Good n (bind (pass o c x go) next) z
    passed n None c x z m go next p other there = other
    passed n (Some v) c x z m go next p other there = there v p

    reply_good : {d : ℕ} → Tasks d → (r : Reply (Task T V) C A V X I) (n : ℕ) → n ≤ d → (Q : S → V → Type 0) (z : S) (go : A → List V → X → Plan (Task T V) C X I) (next : C → X → Plan (Task T V) C X I) → Replies F note k Q r z → ((j : ℕ) → j ≤ d → (a : A) (vs : List V) (x : X) (z' : S) → k.Later z z' → k.Holds x z' → All (Q z') vs → Good j (bind (go a vs x) next) z') → Good n (bind (replied r go) next) z
    reply_good ts (answer a vs x) n le m z go next p h = h n le a vs x z (k.same z) p.0 p.1
    reply_good ts (fault f x) n le m z go next p h = p
    reply_good ts (telling i r) n le m z go next p h = reply_good ts r n le m (note i z) go next p (λ j je a vs x z' l hx ha. h j je a vs x z' (k.more _ _ _ (k.noted i z) l) hx ha)
    reply_good ts (stepping x r) zero le m z go next p h = p.0
    reply_good ts (stepping x r) (suc n) le m z go next p h = reply_good ts r n (omega arith) m z go next p.1 h
    reply_good ts (calling t x back) n le m z go next p h =
        ts.on n le t x z (λ c x'. bind (replied (back c x') go) next) p.1 p.0 p.2
        (record { on = λ j je c x' z' l hx ha. reply_good ts (back c x') j je m z' go next (p.3 c x' z' l hx ha) (λ i ie a vs x2 z2 l2 h2 a2. h i ie a vs x2 z2 (k.more _ _ _ l l2) h2 a2) })

    act_good : {d : ℕ} → Tasks d → (a : Act T E O A) (n : ℕ) → n ≤ d → (m i : ℕ) (at : Places V) (x : X) (z : S) (next : C → X → Plan (Task T V) C X I) → k.Runs m → k.Holds x z → ((p : ℕ) → All (k.Has z m) (at p)) → Waits d m z next → Good n (bind (plan_of F m i at a x) next) z
    act_good ts (done e ps) n le m i at x z next runs h g w = w.on n le (F.ending e (held at ps)) x z (k.same z) h (made.ending_of (k.Has z m) (free z m) e (held at ps) (all_held (k.Has z m) at g ps))
    act_good ts (halt f) n le m i at x z next runs h g w = h
    act_good ts (value t go) n le m i at x z next runs h g w =
        ts.on n le (task t m []) x z (λ c x'. bind (on_value F.value_in (λ v x2. plan_of F m (suc i) (put i (v ∷ []) at) (go i) x2) c x') next) runs h tt
        (record { on = λ j je c x' z' l hx ha. passed j (F.value_in c) c x' z' m (λ v x2. plan_of F m (suc i) (put i (v ∷ []) at) (go i) x2) next (made.value_of (k.Has z' m) c ha) (w.on j je c x' z' l hx ha) (λ v hv. act_good ts (go i) j je m (suc i) (put i (v ∷ []) at) x' z' next runs hx (all_put (k.Has z' m) i (v ∷ []) at (hv, tt) (λ p. all_map (k.Has z m) (k.Has z' m) (λ u. k.still z z' m u l) (at p) (g p))) (waits_less (omega arith) l w)) })
    act_good ts (part t ps go) n le m i at x z next runs h g w =
        ts.on n le (task t m (held at ps)) x z (λ c x'. bind (plan_of F m (suc i) (put i (F.values c) at) (go (F.shape c) i) x') next) runs h (all_held (k.Has z m) at g ps)
        (record { on = λ j je c x' z' l hx ha. act_good ts (go (F.shape c) i) j je m (suc i) (put i (F.values c) at) x' z' next runs hx (all_put (k.Has z' m) i (F.values c) at ha (λ p. all_map (k.Has z m) (k.Has z' m) (λ u. k.still z z' m u l) (at p) (g p))) (waits_less (omega arith) l w) })
    act_good ts (step a) zero le m i at x z next runs h g w = h
    act_good ts (step a) (suc n) le m i at x z next runs h g w = act_good ts a n (omega arith) m i at x z next runs h g w
    act_good ts (ask o ps go) n le m i at x z next runs h g w =
        reply_good ts (F.reply o m (held at ps) x) n le (λ y v. k.Has y m v) z (λ a vs x'. plan_of F m (suc i) (put i vs at) (go a i) x') next (law o m (held at ps) x z runs h (all_held (k.Has z m) at g ps))
        (λ j je a vs x' z' l hx ha. act_good ts (go a i) j je m (suc i) (put i vs at) x' z' next runs hx (all_put (k.Has z' m) i vs at ha (λ p. all_map (k.Has z m) (k.Has z' m) (λ u. k.still z z' m u l) (at p) (g p))) (waits_less (omega arith) l w))
    act_good ts (keep ps go) n le m i at x z next runs h g w =
        act_good ts (go 0) n le m 1 (put 0 (held at ps) nothing) x z next runs h (all_put (k.Has z m) 0 (held at ps) nothing (all_held (k.Has z m) at g ps) (λ p. tt)) w

    opening_good : {d : ℕ} → Tasks d → (o : Option (T × (E → ℕ → Act T E O A))) (n : ℕ) → n ≤ d → (t : Task T V) (x : X) (z : S) (next : C → X → Plan (Task T V) C X I) → k.Runs t.by → k.Holds x z → All (k.Has z t.by) t.given → Waits d t.by z next → Good n (bind (opening F o t x) next) z
    opening_good ts None n le t x z next runs h a w = act_good ts (F.act t.form) n le t.by 1 (given_at t.given) x z next runs h (all_put (k.Has z t.by) 0 t.given nothing a (λ p. tt)) w
    opening_good ts (Some (u, go)) n le t x z next runs h a w =
        let p = plan_of F t.by 1 (given_at t.given) (F.act u) x in
        let j : C → X → Plan (Task T V) C X I = λ c x'. plan_of F t.by 1 (given_at (F.values c)) (go (F.shape c) 0) x' in
        subst (λ q. Good n q z) (sym (Rattle.plans.proofs.Laws.bind_assoc p j next))
        (act_good ts (F.act u) n le t.by 1 (given_at t.given) x z (λ c x'. bind (j c x') next) runs h (all_put (k.Has z t.by) 0 t.given nothing a (λ p. tt))
        (record { on = λ i ie c x' z' l hx ha. act_good ts (go (F.shape c) 0) i ie t.by 1 (given_at (F.values c)) x' z' next runs hx (all_put (k.Has z' t.by) 0 (F.values c) nothing ha (λ p. tt)) (waits_less (omega arith) l w) }))

    tasks : (d : ℕ) → Tasks d
    tasks zero = record { on = λ n le t x z next runs h a w. start n le t x z next h }
      where
        start : (n : ℕ) → n ≤ 0 → (t : Task T V) (x : X) (z : S) (next : C → X → Plan (Task T V) C X I) → k.Holds x z → Good n (enter t x next) z
        start zero le t x z next h = h
        start (suc n) le t x z next h = absurd (omega arith)
    tasks (suc d) = record { on = λ n le t x z next runs h a w. start (tasks d) n le t x z next runs h a w }
      where
        start : Tasks d → (n : ℕ) → n ≤ suc d → (t : Task T V) (x : X) (z : S) (next : C → X → Plan (Task T V) C X I) → k.Runs t.by → k.Holds x z → All (k.Has z t.by) t.given → Waits (suc d) t.by z next → Good n (enter t x next) z
        start ts zero le t x z next runs h a w = h
        start ts (suc n) le t x z next runs h a w = opening_good ts (F.turn t.form) n (omega arith) t x z next runs h a (waits_less (omega arith) (k.same z) w)

    -- a run of a task keeps what the answers keep
    pub run_kept : (n : ℕ) (t : Task T V) (x : X) (z : S) → k.Runs t.by → k.Holds x z → All (k.Has z t.by) t.given → ((z' : S) (v : V) → k.Has z' t.by v → Asked z' v) → Kept F note k Asked (run (language F note) n (enter t x ends) z)
    run_kept n t x z runs h a f = (tasks n).on n (omega arith) t x z ends runs h a (record { on = λ j je c x' z' l hx ha. (hx, all_map (k.Has z' t.by) (Asked z') (f z') (F.values c) ha) })

    -- the same of a turn that begins with an answer
    pub reply_kept : (n : ℕ) (r : Reply (Task T V) C A V X I) (Q : S → V → Type 0) (z : S) (fin : A → List V → C) → Replies F note k Q r z → ((z' : S) (a : A) (vs : List V) → All (Q z') vs → All (Asked z') (F.values (fin a vs))) → Kept F note k Asked (run (language F note) n (replied r (λ a vs x. ends (fin a vs) x)) z)
    reply_kept n r Q z fin h f =
        subst (λ p. Kept F note k Asked (run (language F note) n p z)) (Rattle.plans.proofs.Laws.bind_ends (replied r (λ a vs x. ends (fin a vs) x)))
        (reply_good (tasks n) r n (omega arith) Q z (λ a vs x. ends (fin a vs) x) ends h (λ j je a vs x z' l hx ha. (hx, f z' a vs ha)))
