-- Two runs of the same form in stores that are alike: what each answer of the world gives alike, every form gives alike.
use Rattle.std.proofs.Common.{◌≡◌, ℕ, zero, suc, ◌≤◌, List, [], ◌∷◌, Option, Some, None, refl, sym, subst, arith}
use Rattle.plans.specs.Plans.{Plan, ends, enter, bind, run}
use Rattle.acts.specs.Acts.{Task, task, Act, done, halt, value, part, step, ask, keep, Reply, answer, fault, telling, stepping, calling, Forms, Places, nothing, put, held, pass, on_value, replied, plan_of, given_at, opening, language}
use Rattle.acts.specs.Laws.{All, IfThere, IsMadeOf, Twins, SameReplies, AreTwins, SameRuns}
use Rattle.acts.proofs.Keeps.{all_held, all_put}

module _ {T E O A V C X I S : Type 0} (F : Forms T E O A V C X I) (note : I → S → S) (k : Twins F note) where
  abbrev Good : ℕ → Plan (Task T V) C X I → S → Plan (Task T V) C X I → S → Type 0
  Good n p z q w = SameRuns F note k (run (language F note) n p z) (run (language F note) n q w)

  record Waits (d : ℕ) (next forth : C → X → Plan (Task T V) C X I) : Type 0 where
    pub on : (n : ℕ) → n ≤ d → (c : C) (x : X) (z : S) (y : X) (w : S) → k.Alike x z y w → All k.Own (F.values c) → Good n (next c x) z (forth c y) w

  waits_less : {d e : ℕ} {next forth : C → X → Plan (Task T V) C X I} → e ≤ d → Waits d next forth → Waits e next forth
  waits_less le w = record { on = λ n ne c x z y v al a. w.on n (omega arith) c x z y v al a }

  record Tasks (d : ℕ) : Type 0 where
    pub on : (n : ℕ) → n ≤ d → (t : Task T V) (x : X) (z : S) (y : X) (w : S) (next forth : C → X → Plan (Task T V) C X I) → k.Runs t.by → k.Alike x z y w → All k.Own t.given → Waits d next forth → Good n (enter t x next) z (enter t y forth) w

  module _ (Free : (V → Type 0) → Type 0) (made : IsMadeOf F Free) (free : Free k.Own) (law : AreTwins F note k) where
    passed : (n : ℕ) (o : Option V) (c : C) (x : X) (z : S) (y : X) (w : S) (go back : V → X → Plan (Task T V) C X I) (next forth : C → X → Plan (Task T V) C X I) → IfThere k.Own o → Good n (next c x) z (forth c y) w → ((v : V) → k.Own v → Good n (bind (go v x) next) z (bind (back v y) forth) w) → Good n (bind (pass o c x go) next) z (bind (pass o c y back) forth) w
    passed n None c x z y w go back next forth p other there = other
    passed n (Some v) c x z y w go back next forth p other there = there v p

    record Onward (d : ℕ) (go back : A → List V → X → Plan (Task T V) C X I) (next forth : C → X → Plan (Task T V) C X I) : Type 0 where
      pub on : (j : ℕ) → j ≤ d → (a : A) (vs : List V) (x : X) (z : S) (y : X) (w : S) → k.Alike x z y w → All k.Own vs → Good j (bind (go a vs x) next) z (bind (back a vs y) forth) w

    answered : {d : ℕ} {go back : A → List V → X → Plan (Task T V) C X I} {next forth : C → X → Plan (Task T V) C X I} → Onward d go back next forth → (n : ℕ) → n ≤ d → (a b : A) (vs us : List V) (x : X) (z : S) (y : X) (w : S) → a ≡ b → vs ≡ us → All k.Own vs → k.Alike x z y w → Good n (bind (go a vs x) next) z (bind (back b us y) forth) w
    answered {go = go} {back = back} {next = next} {forth = forth} h n le a b vs us x z y w ab vu own al =
        subst (λ b. Good n (bind (go a vs x) next) z (bind (back b us y) forth) w) ab
        (subst (λ us. Good n (bind (go a vs x) next) z (bind (back a us y) forth) w) vu (h.on n le a vs x z y w al own))

    reply_good : {d : ℕ} → Tasks d → (r q : Reply (Task T V) C A V X I) (n : ℕ) → n ≤ d → (z w : S) (go back : A → List V → X → Plan (Task T V) C X I) (next forth : C → X → Plan (Task T V) C X I) → SameReplies F note k r z q w → Onward d go back next forth → Good n (bind (replied r go) next) z (bind (replied q back) forth) w
    reply_good ts (answer a vs x) (answer b us y) n le z w go back next forth p h = answered h n le a b vs us x z y w p.0 p.1 p.2 p.3
    reply_good ts (fault f x) (fault g y) n le z w go back next forth p h = p
    reply_good ts (telling i r) (telling j q) n le z w go back next forth p h = reply_good ts r q n le (note i z) (note j w) go back next forth p h
    reply_good ts (stepping x r) (stepping y q) zero le z w go back next forth p h = p.0
    reply_good ts (stepping x r) (stepping y q) (suc n) le z w go back next forth p h = reply_good ts r q n (omega arith) z w go back next forth p.1 h
    reply_good ts (calling t x b) (calling u y c) n le z w go back next forth p h =
        subst (λ u. Good n (enter t x (λ e x'. bind (replied (b e x') go) next)) z (enter u y (λ e x'. bind (replied (c e x') back) forth)) w) p.0
        (ts.on n le t x z y w (λ e x'. bind (replied (b e x') go) next) (λ e x'. bind (replied (c e x') back) forth) p.2 p.1 p.3
        (record { on = λ j je e x' z' y' w' al a. reply_good ts (b e x') (c e y') j je z' w' go back next forth (p.4 e x' z' y' w' al a) h }))
    reply_good ts _ _ n le z w go back next forth p h = absurd p

    act_good : {d : ℕ} → Tasks d → (a : Act T E O A) (n : ℕ) → n ≤ d → (m i : ℕ) (at : Places V) (x : X) (z : S) (y : X) (w : S) (next forth : C → X → Plan (Task T V) C X I) → k.Runs m → k.Alike x z y w → ((p : ℕ) → All k.Own (at p)) → Waits d next forth → Good n (bind (plan_of F m i at a x) next) z (bind (plan_of F m i at a y) forth) w
    act_good ts (done e ps) n le m i at x z y w next forth runs al g wait = wait.on n le (F.ending e (held at ps)) x z y w al (made.ending_of k.Own free e (held at ps) (all_held k.Own at g ps))
    act_good ts (halt f) n le m i at x z y w next forth runs al g wait = (refl, al)
    act_good ts (value t go) n le m i at x z y w next forth runs al g wait =
        ts.on n le (task t m []) x z y w (λ c x'. bind (on_value F.value_in (λ v x2. plan_of F m (suc i) (put i (v ∷ []) at) (go i) x2) c x') next) (λ c x'. bind (on_value F.value_in (λ v x2. plan_of F m (suc i) (put i (v ∷ []) at) (go i) x2) c x') forth) runs al tt
        (record { on = λ j je c x' z' y' w' al' a. passed j (F.value_in c) c x' z' y' w' (λ v x2. plan_of F m (suc i) (put i (v ∷ []) at) (go i) x2) (λ v x2. plan_of F m (suc i) (put i (v ∷ []) at) (go i) x2) next forth (made.value_of k.Own c a) (wait.on j je c x' z' y' w' al' a) (λ v hv. act_good ts (go i) j je m (suc i) (put i (v ∷ []) at) x' z' y' w' next forth runs al' (all_put k.Own i (v ∷ []) at (hv, tt) g) (waits_less (omega arith) wait)) })
    act_good ts (part t ps go) n le m i at x z y w next forth runs al g wait =
        ts.on n le (task t m (held at ps)) x z y w (λ c x'. bind (plan_of F m (suc i) (put i (F.values c) at) (go (F.shape c) i) x') next) (λ c x'. bind (plan_of F m (suc i) (put i (F.values c) at) (go (F.shape c) i) x') forth) runs al (all_held k.Own at g ps)
        (record { on = λ j je c x' z' y' w' al' a. act_good ts (go (F.shape c) i) j je m (suc i) (put i (F.values c) at) x' z' y' w' next forth runs al' (all_put k.Own i (F.values c) at a g) (waits_less (omega arith) wait) })
    act_good ts (step a) zero le m i at x z y w next forth runs al g wait = al
    act_good ts (step a) (suc n) le m i at x z y w next forth runs al g wait = act_good ts a n (omega arith) m i at x z y w next forth runs al g wait
    act_good ts (ask o ps go) n le m i at x z y w next forth runs al g wait =
        reply_good ts (F.reply o m (held at ps) x) (F.reply o m (held at ps) y) n le z w (λ a vs x'. plan_of F m (suc i) (put i vs at) (go a i) x') (λ a vs x'. plan_of F m (suc i) (put i vs at) (go a i) x') next forth (law o m (held at ps) x z y w runs (all_held k.Own at g ps) al)
        (record { on = λ j je a vs x' z' y' w' al' h. act_good ts (go a i) j je m (suc i) (put i vs at) x' z' y' w' next forth runs al' (all_put k.Own i vs at h g) (waits_less (omega arith) wait) })
    act_good ts (keep ps go) n le m i at x z y w next forth runs al g wait =
        act_good ts (go 0) n le m 1 (put 0 (held at ps) nothing) x z y w next forth runs al (all_put k.Own 0 (held at ps) nothing (all_held k.Own at g ps) (λ p. tt)) wait

    opening_good : {d : ℕ} → Tasks d → (o : Option (T × (E → ℕ → Act T E O A))) (n : ℕ) → n ≤ d → (t : Task T V) (x : X) (z : S) (y : X) (w : S) (next forth : C → X → Plan (Task T V) C X I) → k.Runs t.by → k.Alike x z y w → All k.Own t.given → Waits d next forth → Good n (bind (opening F o t x) next) z (bind (opening F o t y) forth) w
    opening_good ts None n le t x z y w next forth runs al a wait = act_good ts (F.act t.form) n le t.by 1 (given_at t.given) x z y w next forth runs al (all_put k.Own 0 t.given nothing a (λ p. tt)) wait
    opening_good ts (Some (u, go)) n le t x z y w next forth runs al a wait =
        let p : X → Plan (Task T V) C X I = λ x. plan_of F t.by 1 (given_at t.given) (F.act u) x in
        let j : C → X → Plan (Task T V) C X I = λ c x'. plan_of F t.by 1 (given_at (F.values c)) (go (F.shape c) 0) x' in
        subst (λ q. Good n q z (bind (bind (p y) j) forth) w) (sym (Rattle.plans.proofs.Laws.bind_assoc (p x) j next))
        (subst (λ q. Good n (bind (p x) (λ c x'. bind (j c x') next)) z q w) (sym (Rattle.plans.proofs.Laws.bind_assoc (p y) j forth))
        (act_good ts (F.act u) n le t.by 1 (given_at t.given) x z y w (λ c x'. bind (j c x') next) (λ c x'. bind (j c x') forth) runs al (all_put k.Own 0 t.given nothing a (λ p. tt))
        (record { on = λ i ie c x' z' y' w' al' h. act_good ts (go (F.shape c) 0) i ie t.by 1 (given_at (F.values c)) x' z' y' w' next forth runs al' (all_put k.Own 0 (F.values c) nothing h (λ p. tt)) (waits_less (omega arith) wait) })))

    tasks : (d : ℕ) → Tasks d
    tasks zero = record { on = λ n le t x z y w next forth runs al a wait. start n le t x z y w next forth al }
      where
        start : (n : ℕ) → n ≤ 0 → (t : Task T V) (x : X) (z : S) (y : X) (w : S) (next forth : C → X → Plan (Task T V) C X I) → k.Alike x z y w → Good n (enter t x next) z (enter t y forth) w
        start zero le t x z y w next forth al = al
        start (suc n) le t x z y w next forth al = absurd (omega arith)
    tasks (suc d) = record { on = λ n le t x z y w next forth runs al a wait. start (tasks d) n le t x z y w next forth runs al a wait }
      where
        start : Tasks d → (n : ℕ) → n ≤ suc d → (t : Task T V) (x : X) (z : S) (y : X) (w : S) (next forth : C → X → Plan (Task T V) C X I) → k.Runs t.by → k.Alike x z y w → All k.Own t.given → Waits (suc d) next forth → Good n (enter t x next) z (enter t y forth) w
        start ts zero le t x z y w next forth runs al a wait = al
        start ts (suc n) le t x z y w next forth runs al a wait = opening_good ts (F.turn t.form) n (omega arith) t x z y w next forth runs al a (waits_less (omega arith) wait)

    -- two runs of one task in stores that are alike
    pub run_same : (n : ℕ) (t : Task T V) (x : X) (z : S) (y : X) (w : S) → k.Runs t.by → k.Alike x z y w → All k.Own t.given → SameRuns F note k (run (language F note) n (enter t x ends) z) (run (language F note) n (enter t y ends) w)
    run_same n t x z y w runs al a = (tasks n).on n (omega arith) t x z y w ends ends runs al a (record { on = λ j je c x' z' y' w' al' h. (refl, refl, h, al') })

    -- the same of a turn that begins with an answer
    pub reply_same : (n : ℕ) (r q : Reply (Task T V) C A V X I) (z w : S) (fin : A → List V → C) → SameReplies F note k r z q w → ((a : A) (vs : List V) → All k.Own vs → All k.Own (F.values (fin a vs))) → SameRuns F note k (run (language F note) n (replied r (λ a vs x. ends (fin a vs) x)) z) (run (language F note) n (replied q (λ a vs x. ends (fin a vs) x)) w)
    reply_same n r q z w fin h f =
        subst (λ p. SameRuns F note k (run (language F note) n p z) (run (language F note) n (replied q (λ a vs x. ends (fin a vs) x)) w)) (Rattle.plans.proofs.Laws.bind_ends (replied r (λ a vs x. ends (fin a vs) x)))
        (subst (λ p. SameRuns F note k (run (language F note) n (bind (replied r (λ a vs x. ends (fin a vs) x)) ends) z) (run (language F note) n p w)) (Rattle.plans.proofs.Laws.bind_ends (replied q (λ a vs x. ends (fin a vs) x)))
        (reply_good (tasks n) r q n (omega arith) z w (λ a vs x. ends (fin a vs) x) (λ a vs x. ends (fin a vs) x) ends ends h
        (record { on = λ j je a vs x z' y' w' al ha. (refl, refl, f a vs ha, al) })))
