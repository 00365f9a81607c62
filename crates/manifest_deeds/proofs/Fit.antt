-- The deeds of a valid page are such as a page that runs may have.
use Rattle.std.proofs.Common.{◌≡◌, ◌<◌, ◌≤◌, ℕ, ◌+◌, suc, Bool, true, false, List, [], ◌∷◌, ◌++◌, length, map, Option, None, Some, cond, refl, sym, ap, subst, ◌∙◌, append_assoc, arith}
use Rattle.std.specs.Prelude.{All, IsTrue, not, slice_get, codes}
use Rattle.std.specs.List.{list_any}
use Rattle.std.proofs.lemmas.Bool.{and_parts, not-true, or_parts, or_from}
use Rattle.std.proofs.lemmas.List.Elements.{All-nil, All-cons, All-head, All-tail, All-weaker, All-append}
use Rattle.std.proofs.lemmas.List.Folds.{list_any-append}
use Rattle.caja_units.specs.Units.{same_units}
use Rattle.es3_tree.specs.Tree as t
use Rattle.es3_tokens.specs.Tokens.{is_one_of}
use Rattle.cajita_names.specs.Rules as rules
use Rattle.page_deeds.specs.Deeds.{Grant, a_cell, a_result, a_plain, a_root, Grants, Deed, to_load, to_call, to_tick, to_click, to_input}
use Rattle.event_script.specs.Events.{Asked, a_call, a_click, an_input, a_tick, deed_of as deed_asked}
use Rattle.manifest_names.specs.Names.{is_grant_name, taken_names}
use Rattle.page_manifest.specs.Page.{Granted, the_cell, the_result, the_plain, the_root, Grants as Manifested, Module, Page}
use Rattle.page_manifest.specs.Bound.{repeated}
use Rattle.page_manifest.specs.Valid.{IsGranted, AreOnce, IsModule, IsAsked, IsValid}
use Rattle.page_manifest.specs.Deeds.{given, all_given, deeds, loads, events}
use Rattle.page_runner.specs.Deeds.{grant_of, grants_of, deed_of, deeds_of, fixed_names, AreApart, GrantFits, GrantsFit, DeedFits}
use Rattle.page_runner.specs.declared.deeds.Grant.{Grant as Given}
use Rattle.page_runner.specs.declared.deeds.Grant.TheVariants.{Cell, Module as Result, Value, Root}
use Rattle.page_runner.specs.declared.deeds.Deed.{Deed as Done}
use Rattle.page_runner.specs.declared.deeds.Deed.TheVariants.{Load, Call, Tick, Click, Input}

-- ---- names that stand once, and are none of the fixed ones

-- a name is none of these
abbrev IsNoneOf : List (List ℕ) → List ℕ → Type 0
IsNoneOf table s = is_one_of s table ≡ false

-- a test that found nothing
none_found : (b : Bool) (i : ℕ) (o : Option ℕ) → cond b (Some i) o ≡ None → (b ≡ false) × (o ≡ None)
none_found true i o e = absurd cc
none_found false i o e = (refl, e)

apart : (before names : List (List ℕ)) (i : ℕ) → repeated before i names ≡ None → All (IsNoneOf fixed_names) names → AreApart (fixed_names ++ before) names
apart before [] i e free = tt
apart before (n ∷ names) i e free =
    let found = none_found (is_one_of n before) i (repeated (before ++ n ∷ []) (i + 1) names) e in
    let here : list_any (same_units n) (fixed_names ++ before) ≡ false =
    list_any-append (same_units n) fixed_names before ∙ or_from (is_one_of n fixed_names) (is_one_of n before) (All-head (IsNoneOf fixed_names) n names free) found.0 in
    let rest : AreApart (fixed_names ++ (before ++ n ∷ [])) names = apart (before ++ n ∷ []) names (i + 1) found.1 (All-tail (IsNoneOf fixed_names) n names free) in
    (here, subst (λ l. AreApart l names) (sym (append_assoc fixed_names before (n ∷ []))) rest)

not_fixed : (s : List ℕ) → IsTrue (is_grant_name s) → IsNoneOf fixed_names s
not_fixed s h =
    let taken : is_one_of s taken_names ≡ false = not-true (is_one_of s taken_names) (and_parts _ (not (is_one_of s taken_names)) h).1 in
    (or_parts (is_one_of s rules.fixed_names) (is_one_of s others) (sym (list_any-append (same_units s) rules.fixed_names others) ∙ taken)).0
  where
    others : List (List ℕ)
    others = codes "eval" ∷ codes "arguments" ∷ []

names_apart : (names : List (List ℕ)) → AreOnce names → All (λ s. IsTrue (is_grant_name s)) names → AreApart fixed_names names
names_apart names once spelled = apart [] names 0 once (All-weaker (λ s. IsTrue (is_grant_name s)) (IsNoneOf fixed_names) not_fixed names spelled)

-- ---- deeds as plain data

abbrev GrantIsFit : Grant → Type 0
GrantIsFit (a_cell c) = c < 64
GrantIsFit (a_result m) = Unit {0}
GrantIsFit (a_plain v) = Unit {0}
GrantIsFit (a_root r) = Unit {0}

abbrev AreFit : Grants → Type 0
AreFit gs = All (λ g. GrantIsFit g.1) gs × AreApart fixed_names (map (λ g. g.0) gs)

-- among so many modules
abbrev IsFit : {P : Type 0} → ℕ → Deed P → Type 0
IsFit modules (to_load m p gs) = (m < modules) × AreFit gs
IsFit modules (to_call k m key args) = m < modules
IsFit modules (to_tick k m) = m < modules
IsFit modules (to_click k id r n) = Unit {0}
IsFit modules (to_input k id r n us) = Unit {0}

granted_is_fit : (root_of : List ℕ → ℕ) (cells i : ℕ) → cells ≤ 64 → (g : Granted) → IsGranted cells i g → GrantIsFit (given root_of g)
granted_is_fit root_of cells i few (the_cell c) h = omega arith
granted_is_fit root_of cells i few (the_result m) h = tt
granted_is_fit root_of cells i few (the_plain v) h = tt
granted_is_fit root_of cells i few (the_root id) h = tt

given_names : (root_of : List ℕ → ℕ) (gs : Manifested) → map (λ g. g.0) (all_given root_of gs) ≡ map (λ g. g.0) gs
given_names root_of [] = refl
given_names root_of (g ∷ gs) = ap (λ l. g.0 ∷ l) (given_names root_of gs)

all_granted : (root_of : List ℕ → ℕ) (cells i : ℕ) → cells ≤ 64 → (gs : Manifested) → All (λ g. IsGranted cells i g.1) gs → All (λ g. GrantIsFit g.1) (all_given root_of gs)
all_granted root_of cells i few [] h = All-nil (λ g. GrantIsFit g.1)
all_granted root_of cells i few (g ∷ gs) h =
    All-cons (λ g. GrantIsFit g.1) (g.0, given root_of g.1) (all_given root_of gs) (granted_is_fit root_of cells i few g.1 (All-head (λ g. IsGranted cells i g.1) g gs h)) (all_granted root_of cells i few gs (All-tail (λ g. IsGranted cells i g.1) g gs h))

grants_are_fit : (root_of : List ℕ → ℕ) (cells i : ℕ) → cells ≤ 64 → (m : Module) → IsModule cells i m → AreFit (all_given root_of m.grants)
grants_are_fit root_of cells i few m h =
    (all_granted root_of cells i few m.grants h.granted, subst (AreApart fixed_names) (sym (given_names root_of m.grants)) (names_apart (map (λ g. g.0) m.grants) h.once h.spelled))

loads_are_fit : {P : Type 0} (root_of : List ℕ → ℕ) (cells modules i : ℕ) → cells ≤ 64 → (ms : List Module) (ps : List P) → i + length ms ≤ modules → ((k : ℕ) (m : Module) → slice_get ms k ≡ Some m → IsModule cells (i + k) m) → All (IsFit modules) (loads root_of i ms ps)
loads_are_fit root_of cells modules i few [] ps fit each = All-nil (IsFit modules)
loads_are_fit root_of cells modules i few (m ∷ ms) [] fit each = All-nil (IsFit modules)
loads_are_fit root_of cells modules i few (m ∷ ms) (p ∷ ps) fit each =
    let here : i + 0 ≡ i = omega arith in
    let first : IsModule cells i m = subst (λ n. IsModule cells n m) here (each 0 m refl) in
    let rest = loads_are_fit root_of cells modules (i + 1) few ms ps (omega arith) (λ k q there. let same : i + suc k ≡ i + 1 + k = omega arith in subst (λ n. IsModule cells n q) same (each (suc k) q there)) in
    All-cons (IsFit modules) (to_load i p (all_given root_of m.grants)) (loads root_of (i + 1) ms ps) (omega arith, grants_are_fit root_of cells i few m first) rest

asked_is_fit : (P : Type 0) (node_of : List ℕ → ℕ × ℕ) (modules k : ℕ) (e : Asked) → IsAsked modules e → IsFit {P = P} modules (deed_asked node_of k e)
asked_is_fit P node_of modules k (a_call m key args) h = h
asked_is_fit P node_of modules k (a_click id) h = tt
asked_is_fit P node_of modules k (an_input id us) h = tt
asked_is_fit P node_of modules k (a_tick m) h = h

events_are_fit : {P : Type 0} (node_of : List ℕ → ℕ × ℕ) (modules k : ℕ) (es : List Asked) → All (IsAsked modules) es → All (IsFit {P = P} modules) (events node_of k es)
events_are_fit node_of modules k [] h = All-nil (IsFit modules)
events_are_fit {P} node_of modules k (e ∷ es) h =
    All-cons (IsFit modules) (deed_asked node_of k e) (events node_of (k + 1) es) (asked_is_fit P node_of modules k e (All-head (IsAsked modules) e es h)) (events_are_fit node_of modules (k + 1) es (All-tail (IsAsked modules) e es h))

deeds_are_fit : {P : Type 0} (root_of : List ℕ → ℕ) (node_of : List ℕ → ℕ × ℕ) (p : Page) (ps : List P) → IsValid p → All (IsFit (length p.modules)) (deeds root_of node_of p ps)
deeds_are_fit root_of node_of p ps v =
    let each : (k : ℕ) (m : Module) → slice_get p.modules k ≡ Some m → IsModule (length p.cells) (0 + k) m = λ k m there. let same : k ≡ 0 + k = omega arith in subst (λ n. IsModule (length p.cells) n m) same (v.modules k m there) in
    All-append (IsFit (length p.modules)) (loads root_of 0 p.modules ps) (events node_of 0 p.events) (loads_are_fit root_of (length p.cells) (length p.modules) 0 v.few_cells p.modules ps (omega arith) each) (events_are_fit node_of (length p.modules) 0 p.events v.events)

-- ---- and so the deeds that these are

unmapped : {X Y : Type 0} (Q : Y → Type 0) (f : X → Y) (xs : List X) → All Q (map f xs) → All (λ x. Q (f x)) xs
unmapped Q f [] h = All-nil (λ x. Q (f x))
unmapped Q f (x ∷ xs) h = All-cons (λ x. Q (f x)) x xs (All-head Q (f x) (map f xs) h) (unmapped Q f xs (All-tail Q (f x) (map f xs) h))

given_fits : (g : Given) → GrantIsFit (grant_of g) → GrantFits g
given_fits (Cell c) h = h
given_fits (Result m) h = tt
given_fits (Value v) h = tt
given_fits (Root r) h = tt

same_names : (gs : List (List ℕ × Given)) → map (λ g. g.0) (grants_of gs) ≡ map (λ g. g.0) gs
same_names [] = refl
same_names (g ∷ gs) = ap (λ l. g.0 ∷ l) (same_names gs)

grants_fit : (gs : List (List ℕ × Given)) → AreFit (grants_of gs) → GrantsFit gs
grants_fit gs h =
    (All-weaker (λ g. GrantIsFit (grant_of g.1)) (λ g. GrantFits g.1) (λ g. given_fits g.1) gs (unmapped (λ g. GrantIsFit g.1) (λ g. (g.0, grant_of g.1)) gs h.0), subst (AreApart fixed_names) (same_names gs) h.1)

deed_fits : (modules : ℕ) (d : Done) → IsFit modules (deed_of d) → DeedFits modules d
deed_fits modules (Load m p gs) h = (h.0, grants_fit gs.items h.1)
deed_fits modules (Call k m key args) h = h
deed_fits modules (Tick k m) h = h
deed_fits modules (Click k id r n) h = tt
deed_fits modules (Input k id r n us) h = tt

pub all_fit : (root_of : List ℕ → ℕ) (node_of : List ℕ → ℕ × ℕ) (p : Page) (ps : List (t.Tree t.program)) (ds : List Done) → IsValid p → deeds_of ds ≡ deeds root_of node_of p ps → All (DeedFits (length p.modules)) ds
all_fit root_of node_of p ps ds v e =
    let plain : All (IsFit (length p.modules)) (deeds_of ds) = subst (All (IsFit (length p.modules))) (sym e) (deeds_are_fit root_of node_of p ps v) in
    All-weaker (λ d. IsFit (length p.modules) (deed_of d)) (DeedFits (length p.modules)) (deed_fits (length p.modules)) ds (unmapped (IsFit (length p.modules)) deed_of ds plain)
