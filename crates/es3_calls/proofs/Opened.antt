-- What a call of the code of a text does, by its parts.
use Rattle.std.proofs.Common.{◌≡◌, ℕ, ◌+◌, Bool, true, false, List, ◌∷◌, Option, Some, None, length, cond, sym, ap, ◌∙◌}
use Rattle.std.specs.Prelude.{nat_lt}
use Rattle.plans.specs.Plans.{stops, depth_fault}
use Rattle.es3_tree.specs.Tree as t
use Rattle.es3_objects.specs.declared.value.Value.{Value}
use Rattle.es3_language.specs.Store.{Code, Names, Owner, Scope, Store, with_scope}
use Rattle.es3_language.specs.Tasks.{Completion, Env, Plan}
use Rattle.es3_language.specs.Lists.{list}
use Rattle.es3_language.specs.Expressions.{with_functions, entered, open_code}
use Rattle.es3_calls.specs.Calls.{first_scope}

abbrev scope_of : Owner → Names → Scope
scope_of w names = record { owner = w; names = names }

-- the store when control enters a function
pub entered_alike : (s : Store) (c : Code) (f : Value) (vs : List Value) (by : ℕ) (w : Owner) (names : Names) (outer : List ℕ) (fs : List (t.Tree t.func)) → record { owner = w; names = names } ≡ first_scope c f vs → outer ≡ c.chain → fs ≡ c.functions → with_functions fs (length s.scopes) (length s.scopes ∷ outer) by (with_scope w names s) ≡ entered c f vs by s
entered_alike s c f vs by w names outer fs first around declared =
    let n = length s.scopes in
    let made = λ (gs : List (t.Tree t.func)) (o : List ℕ) (z : Scope). with_functions gs n (n ∷ o) by (with_scope z.owner z.names s) in
    ap (made fs outer) first ∙ ap (λ o. made fs o (first_scope c f vs)) around ∙ ap (λ gs. made gs c.chain (first_scope c f vs)) declared

abbrev place : List ℕ → ℕ → ℕ → ℕ → Env
place chain calls by this = record { chain = chain; calls = calls; by = by; this = this }

-- a call that is opened
pub code_opened : (o : Option Code) (c : Code) (by : ℕ) (f : Value) (this : ℕ) (vs : List Value) (calls : ℕ) (s s' : Store) (k : Bool) (xs : t.Tree t.stmts) (chain : List ℕ) (go go' : Completion → Store → Plan) → o ≡ Some c → nat_lt calls 1000 ≡ true → k ≡ true → xs ≡ c.body → chain ≡ length s.scopes ∷ c.chain → s' ≡ entered c f vs by s → go ≡ go' → list k xs None (record { chain = chain; calls = calls + 1; by = by; this = this }) s' go ≡ open_code o by f this vs calls s go'
code_opened o c by f this vs calls s s' k xs chain go go' is few kept body around store end =
    let env = place (length s.scopes ∷ c.chain) (calls + 1) by this in
    let opened = list true c.body None env (entered c f vs by s) go' in
    ap (λ b. list b xs None (place chain (calls + 1) by this) s' go) kept
    ∙ ap (λ b. list true b None (place chain (calls + 1) by this) s' go) body
    ∙ ap (λ b. list true c.body None (place b (calls + 1) by this) s' go) around
    ∙ ap (λ b. list true c.body None env b go) store
    ∙ ap (λ b. list true c.body None env (entered c f vs by s) b) end
    ∙ sym (ap (λ b. open_code b by f this vs calls s go') is ∙ ap (λ b. cond b opened (stops depth_fault s)) few)

-- a call too many
pub code_deep : (o : Option Code) (c : Code) (by : ℕ) (f : Value) (this : ℕ) (vs : List Value) (calls : ℕ) (s : Store) (go : Completion → Store → Plan) → o ≡ Some c → nat_lt calls 1000 ≡ false → stops depth_fault s ≡ open_code o by f this vs calls s go
code_deep o c by f this vs calls s go is many =
    let opened = list true c.body None (place (length s.scopes ∷ c.chain) (calls + 1) by this) (entered c f vs by s) go in
    sym (ap (λ b. open_code b by f this vs calls s go) is ∙ ap (λ b. cond b opened (stops depth_fault s)) many)
