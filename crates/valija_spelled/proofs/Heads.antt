-- What stands at the head of a lowered body: a `var` of temporaries and of the names that heads with `in` declare.
use Rattle.std.proofs.Common.{ℕ, zero, suc, ◌+◌, ◌*◌, ◌≤◌, Bool, true, false, List, [], ◌∷◌, ◌++◌, cond, length, arith, length-append}
use Rattle.es3_tree.specs.Tree as t
use Rattle.es3_tree.specs.Placed.{Placed}
use Rattle.es3_tree.specs.Token.{name}
use Rattle.es3_tokens.specs.Back.{IsToken}
use Rattle.es3_grammar.specs.Grammar.{free}
use Rattle.cajita_names.specs.Rules.{is_among}
use Rattle.cajita_names.specs.Declarations.{Role, Declaration, declarations}
use Rattle.cajita_names.specs.Once.{once_after, names_of, is_loop_variable}
use Rattle.valija_forms.specs.Forms.{items, temporaries_from, declaring}
use Rattle.valija_parts.specs.Lower.{loop_names}
use Rattle.valija_spelled.proofs.Pieces.{Spelt, fewer}
use Rattle.valija_spelled.proofs.Asks.{temporary_token}
use Rattle.valija_spelled.proofs.Lines.{no_value, one_item, more_items, a_var, more_stmts}

-- ---- names, and words that are declared

abbrev pub AreNames : List (List ℕ) → Type 0
AreNames [] = Unit {0}
AreNames (x ∷ xs) = IsToken (name x) × AreNames xs

both_names : (xs ys : List (List ℕ)) → AreNames xs → AreNames ys → AreNames (xs ++ ys)
both_names [] ys q r = r
both_names (x ∷ xs) ys q r = (q.0, both_names xs ys q.1 r)

once_names : (xs seen : List (List ℕ)) → AreNames seen → AreNames xs → AreNames (once_after seen xs)
once_names [] seen q r = q
once_names (x ∷ xs) seen q r = once_names xs _ (more (is_among seen x)) r.1
  where
    more : (b : Bool) → AreNames (cond b seen (seen ++ x ∷ []))
    more true = q
    more false = both_names seen (x ∷ []) q (r.0, tt)

once_few : (xs seen : List (List ℕ)) → length (once_after seen xs) ≤ length seen + length xs
once_few [] seen = omega arith
once_few (x ∷ xs) seen = let h = once_few xs (cond (is_among seen x) seen (seen ++ x ∷ [])) in omega (arith, h, more (is_among seen x))
  where
    more : (b : Bool) → length (cond b seen (seen ++ x ∷ [])) ≤ length seen + 1
    more true = omega arith
    more false = simp length-append (omega arith)

abbrev pub AreDeclared : List Declaration → Type 0
AreDeclared [] = Unit {0}
AreDeclared (d ∷ ds) = IsToken (name d.word.text) × AreDeclared ds

pub both_declared : (ds es : List Declaration) → AreDeclared ds → AreDeclared es → AreDeclared (ds ++ es)
both_declared [] es q r = r
both_declared (d ∷ ds) es q r = (q.0, both_declared ds es q.1 r)

declared_names : (has : Role → Bool) (ds : List Declaration) → AreDeclared ds → AreNames (names_of has ds)
declared_names has [] q = tt
declared_names has (d ∷ ds) q = by_role (has d.role) (declared_names has ds q.1)
  where
    by_role : (b : Bool) → AreNames (names_of has ds) → AreNames (cond b (d.word.text ∷ names_of has ds) (names_of has ds))
    by_role true r = (q.0, r)
    by_role false r = r

declared_few : (has : Role → Bool) (ds : List Declaration) → length (names_of has ds) ≤ length ds
declared_few has [] = omega arith
declared_few has (d ∷ ds) = by_role (has d.role) (declared_few has ds)
  where
    by_role : (b : Bool) → length (names_of has ds) ≤ length ds → length (cond b (d.word.text ∷ names_of has ds) (names_of has ds)) ≤ suc (length ds)
    by_role true h = omega (arith, h)
    by_role false h = omega (arith, h)

loops_are : (body : Placed t.stmts) → AreDeclared (declarations t.stmts body) → AreNames (loop_names body)
loops_are body q = once_names (names_of is_loop_variable (declarations t.stmts body)) [] tt (declared_names is_loop_variable (declarations t.stmts body) q)

loops_few : (body : Placed t.stmts) → length (loop_names body) ≤ length (declarations t.stmts body)
loops_few body =
    let h = once_few (names_of is_loop_variable (declarations t.stmts body)) [] in
    let g = declared_few is_loop_variable (declarations t.stmts body) in
    omega (arith, h, g)

-- ---- temporaries

temporaries_are : (k n : ℕ) → AreNames (temporaries_from k n)
temporaries_are k zero = tt
temporaries_are k (suc n) = (temporary_token k, temporaries_are (suc k) n)

temporaries_few : (k n : ℕ) → length (temporaries_from k n) ≤ n
temporaries_few k zero = omega arith
temporaries_few k (suc n) = let h = temporaries_few (suc k) n in omega (arith, h)

-- ---- `var`

names_spelt : (x : List ℕ) (xs : List (List ℕ)) → IsToken (name x) → AreNames xs → Spelt t.items free 0 (items (x ∷ xs)) (2 * length xs + 1)
names_spelt x [] i h = one_item x i (no_value free)
names_spelt x (y ∷ ys) i h = fewer (more_items x i (no_value free) (names_spelt y ys h.0 h.1)) (omega arith)

headed : {ss : Placed t.stmts} {m : ℕ} (xs : List (List ℕ)) → AreNames xs → Spelt t.stmts free 1 ss m → Spelt t.stmts free 1 (declaring xs ss) (m + 2 * length xs + 2)
headed [] h q = fewer q (omega arith)
headed (x ∷ xs) h q = fewer (more_stmts (a_var (names_spelt x xs h.0 h.1)) q) (omega arith)

pub with_head : {ss : Placed t.stmts} {m : ℕ} (body : Placed t.stmts) (n : ℕ) → AreDeclared (declarations t.stmts body) → Spelt t.stmts free 1 ss m
    → Spelt t.stmts free 1 (declaring (temporaries_from 0 n ++ loop_names body) ss) (m + 2 * n + 2 * length (declarations t.stmts body) + 2)
with_head {m = m} body n d q =
    fewer (headed (temporaries_from 0 n ++ loop_names body) (both_names (temporaries_from 0 n) (loop_names body) (temporaries_are 0 n) (loops_are body d)) q) few
  where
    few : m + 2 * length (temporaries_from 0 n ++ loop_names body) + 2 ≤ m + 2 * n + 2 * length (declarations t.stmts body) + 2
    few = let h = temporaries_few 0 n in let g = loops_few body in simp length-append (omega (arith, h, g))
