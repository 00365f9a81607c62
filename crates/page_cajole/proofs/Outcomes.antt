-- A page is what its modules are.
use Rattle.std.proofs.Common.{◌≡◌, ◌<◌, ℕ, ◌+◌, zero, suc, List, [], ◌∷◌, map, Result, Ok, Err, Some, None, refl, sym, ap, subst, ◌∙◌, arith}
use Rattle.std.specs.Prelude.{IsOk, slice_get}
use Rattle.page_manifest.specs.Page.{Module, Page}
use Rattle.page_cajole.specs.Pages.{Refusal, Runnable, source_outcome, granted_names, module_outcome, chain, numbered, each, IsFirstRefused, IsCajoledPage}
use Rattle.page_cajole.proofs.Jumps.{page_has_targets}

abbrev Runnables : Type 0
Runnables = Result (List Runnable) (ℕ × Refusal)

-- what runs for a module, and what for those behind it
abbrev in_front : ℕ → Result Runnable Refusal → Runnables → Runnables
in_front i o later = chain (numbered i o) (λ r. chain later (λ rs. Ok (r ∷ rs)))

-- ---- where each module runs

accepted_step :
    (i : ℕ) (o : Result Runnable Refusal) (ms : List Module) (later : Runnables) (rs : List Runnable) → ((qs : List Runnable) → later ≡ Ok qs → map module_outcome ms ≡ map Ok qs) → in_front i o later ≡ Ok rs
    → o ∷ map module_outcome ms ≡ map Ok rs
accepted_step i (Err r) ms later rs h e = absurd cc
accepted_step i (Ok r) ms (Err q) rs h e = absurd cc
accepted_step i (Ok r) ms (Ok qs) rs h e = let same : r ∷ qs ≡ rs = cc in ap (λ l. Ok r ∷ l) (h qs refl) ∙ ap (map Ok) same

accepted_so : (i : ℕ) (ms : List Module) (rs : List Runnable) → each i ms ≡ Ok rs → map module_outcome ms ≡ map Ok rs
accepted_so i [] rs e = let same : [] ≡ rs = cc in ap (map Ok) same
accepted_so i (m ∷ ms) rs e = accepted_step i (module_outcome m) ms (each (i + 1) ms) rs (accepted_so (i + 1) ms) e

accepted_where : (i : ℕ) (ms : List Module) (rs : List Runnable) → map module_outcome ms ≡ map Ok rs → each i ms ≡ Ok rs
accepted_where i [] [] e = refl
accepted_where i [] (r ∷ rs) e = absurd cc
accepted_where i (m ∷ ms) [] e = absurd cc
accepted_where i (m ∷ ms) (r ∷ rs) e =
    let first : module_outcome m ≡ Ok r = cc in
    let rest : map module_outcome ms ≡ map Ok rs = cc in
    ap (λ o. in_front i o (each (i + 1) ms)) first ∙ ap (λ x. in_front i (Ok r) x) (accepted_where (i + 1) ms rs rest)

-- ---- where one is refused

before_more :
    (m : Module) (ms : List Module) (j : ℕ) → IsOk (module_outcome m) → ((k : ℕ) (q : Module) → k < j → slice_get ms k ≡ Some q → IsOk (module_outcome q))
    → (k : ℕ) (q : Module) → k < suc j → slice_get (m ∷ ms) k ≡ Some q → IsOk (module_outcome q)
before_more m ms j first before zero q h is = let same : m ≡ q = cc in subst (λ x. IsOk (module_outcome x)) same first
before_more m ms j first before (suc k) q h is = before k q (omega arith) is

-- from module i on, the refused one is module k
abbrev StandsFrom : ℕ → List Module → ℕ → Refusal → Type 0
StandsFrom i ms k r = (j : ℕ) × (k ≡ i + j) × IsFirstRefused ms j r

refused_here : (i : ℕ) (m : Module) (ms : List Module) (q : Refusal) (k : ℕ) (r : Refusal) → module_outcome m ≡ Err q → i ≡ k → q ≡ r → StandsFrom i (m ∷ ms) k r
refused_here i m ms q k r is here same =
    (0, omega arith, record { its_module = m; there = refl; refused = is ∙ ap Err same; before = λ j n h e. absurd (omega arith) })

refused_behind : (i : ℕ) (m : Module) (ms : List Module) (a : Runnable) (k : ℕ) (r : Refusal) → module_outcome m ≡ Ok a → StandsFrom (i + 1) ms k r → StandsFrom i (m ∷ ms) k r
refused_behind i m ms a k r is (j, at, first) = (
  suc j,
  omega arith,
  record {
    its_module = first.its_module;
    there = first.there;
    refused = first.refused;
    before = before_more m ms j (subst IsOk (sym is) refl) first.before;
  },
)

-- a refusal is one of one module alone
abbrev refusing : ℕ × Refusal → Runnables
refusing a = Err a

refusal_is : (a b : ℕ × Refusal) → refusing a ≡ refusing b → a ≡ b
refusal_is a b e = cc

refused_step :
    (i : ℕ) (m : Module) (ms : List Module) (o : Result Runnable Refusal) (later : Runnables) (k : ℕ) (r : Refusal) → module_outcome m ≡ o → (later ≡ Err (k, r) → StandsFrom (i + 1) ms k r) → in_front i o later ≡ Err (k, r)
    → StandsFrom i (m ∷ ms) k r
refused_step i m ms (Err q) later k r is h e = let both : (i, q) ≡ (k, r) = refusal_is (i, q) (k, r) e in refused_here i m ms q k r is (ap (λ (x : ℕ × Refusal). x.0) both) (ap (λ (x : ℕ × Refusal). x.1) both)
refused_step i m ms (Ok a) (Ok qs) k r is h e = absurd cc
refused_step i m ms (Ok a) (Err f) k r is h e = refused_behind i m ms a k r is (h (cc))

refused_so : (i : ℕ) (ms : List Module) (k : ℕ) (r : Refusal) → each i ms ≡ Err (k, r) → StandsFrom i ms k r
refused_so i [] k r e = absurd cc
refused_so i (m ∷ ms) k r e = refused_step i m ms (module_outcome m) (each (i + 1) ms) k r refl (refused_so (i + 1) ms k r) e

value_of : (o : Result Runnable Refusal) → IsOk o → (a : Runnable) × (o ≡ Ok a)
value_of (Ok a) h = (a, refl)
value_of (Err r) h = absurd cc

refused_where : (i : ℕ) (ms : List Module) (j : ℕ) (r : Refusal) → IsFirstRefused ms j r → each i ms ≡ Err (i + j, r)
refused_where i [] j r h = let none : None ≡ Some h.its_module = h.there in absurd cc
refused_where i (m ∷ ms) zero r h =
    let same : Some m ≡ Some h.its_module = h.there in
    let its : m ≡ h.its_module = cc in
    let here : i ≡ i + 0 = omega arith in
    ap (λ o. in_front i o (each (i + 1) ms)) (ap module_outcome its ∙ h.refused) ∙ ap (λ n. Err (n, r)) here
refused_where i (m ∷ ms) (suc j) r h =
    let first = value_of (module_outcome m) (h.before 0 m (omega arith) refl) in
    let there : i + 1 + j ≡ i + suc j = omega arith in
    let rest : IsFirstRefused ms j r = record { its_module = h.its_module; there = h.there; refused = h.refused; before = λ k q b is. h.before (suc k) q (omega arith) is } in
    ap (λ o. in_front i o (each (i + 1) ms)) first.1 ∙ ap (in_front i (Ok first.0)) (refused_where (i + 1) ms j r rest) ∙ ap (λ n. Err (n, r)) there

at_its_place : (ms : List Module) (i : ℕ) (r : Refusal) → StandsFrom 0 ms i r → IsFirstRefused ms i r
at_its_place ms i r (j, at, first) = let same : j ≡ i = omega arith in subst (λ n. IsFirstRefused ms n r) same first

from_the_first : (ms : List Module) (i : ℕ) (r : Refusal) → IsFirstRefused ms i r → each 0 ms ≡ Err (i, r)
from_the_first ms i r h = let same : 0 + i ≡ i = omega arith in refused_where 0 ms i r h ∙ ap (λ n. Err (n, r)) same

alone : (m n : Module) → m.language ≡ n.language → m.source ≡ n.source → granted_names m ≡ granted_names n → module_outcome m ≡ module_outcome n
alone m n language source granted =
    ap (λ l. source_outcome l (granted_names m) m.source) language
    ∙ ap (λ g. source_outcome n.language g m.source) granted
    ∙ ap (source_outcome n.language (granted_names n)) source

pub is_cajoled_page : (p : Page) → IsCajoledPage p
is_cajoled_page p = record {
  where_accepted = λ rs. (accepted_so 0 p.modules rs, accepted_where 0 p.modules rs);
  where_refused = λ i r. (λ e. at_its_place p.modules i r (refused_so 0 p.modules i r e), from_the_first p.modules i r);
  alone = alone;
  jumps = λ rs e. page_has_targets p.modules rs (accepted_so 0 p.modules rs e);
}
