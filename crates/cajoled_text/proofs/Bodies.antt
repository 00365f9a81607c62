-- Functions, bodies and programs that tokens spell, from their parts (ES3 13, 14).
use Rattle.std.proofs.Common.{◌≡◌, ℕ, zero, suc, ◌+◌, ◌<◌, Bool, true, false, List, [], ◌∷◌, ◌++◌, map, Option, Some, refl, ap, arith, lit<}
use Rattle.std.proofs.lemmas.Bool.{cond_both}
use Rattle.std.proofs.lemmas.List.Elements.{All-map}
use Rattle.std.specs.Prelude.{codes}
use Rattle.std.specs.List.{list_any}
use Rattle.caja_units.specs.Units.{same_units}
use Rattle.es3_tree.specs.Tree as t
use Rattle.es3_tree.specs.Token.{Token}
use Rattle.es3_tokens.specs.Back.{IsToken}
use Rattle.es3_grammar.specs.Spots.{Spot, function_word, open_brace, close_brace, open_paren, close_paren}
use Rattle.es3_printed.specs.Back.{IsSpelled}
use Rattle.es3_printed.specs.Tokens.{named, listed}
use Rattle.es3_printed.proofs.Shown.{kinds}
use Rattle.es3_printed.proofs.ShownParts.{shown_declaration, shown_func, shown_script}
use Rattle.rewrite_parts.specs.Parts.{arguments_copy, temp_name, joined, others, name_items, temp_items, args_items, var_stmts}
use Rattle.cajoled_text.specs.Clean.{AreNames, IsMaybeName}
use Rattle.cajoled_text.proofs.Forms.{Are, nothing, then, before, within, last, Written, named as a_name, no_more, more}
use Rattle.cajoled_text.proofs.Calls.{called}
use Rattle.cajoled_text.proofs.Statements.{maybe_named, Listed, no_value, value, item, variables, Statements, one_before}
use Rattle.cajoled_text.proofs.Temporaries.{temp_token}

-- ---- what stands at the head of a body

pub other_names : (vars names : List (List ℕ)) → AreNames vars → AreNames (others vars names)
other_names [] names h = tt
other_names (x ∷ vars) names h =
    cond_both (list_any (same_units x) names) (others vars names) (x ∷ others vars names) AreNames (λ _. other_names vars names h.1) (λ _. (h.0, other_names vars names h.1))

pub names_listed : (xs : List (List ℕ)) → AreNames xs → Listed (name_items xs t.no_items)
names_listed [] h = tt
names_listed (x ∷ xs) h = item x t.no_expr (name_items xs t.no_items) h.0 no_value (names_listed xs h.1)

pub temps_listed : (k n : ℕ) (is : t.Tree t.items) → k + n < 18446744073709551616 → Listed is → Listed (temp_items k n is)
temps_listed k zero is few h = h
temps_listed k (suc n) is few h = item (temp_name k) t.no_expr (temp_items (suc k) n is) (temp_token k (omega arith)) no_value (temps_listed (suc k) n is (omega arith) h)

-- `a___=___.args(arguments)`
pub args_listed : (b : Bool) (is : t.Tree t.items) → Listed is → Listed (args_items b is)
args_listed false is h = h
args_listed true is h = item arguments_copy _ is (refl, refl) (value _ (called (codes "args") _ (refl, refl) (more _ _ (a_name (codes "arguments") (refl, refl)) no_more))) h

-- ---- bodies: whole, and before what stands behind them

pub record Body (ss : t.Tree t.stmts) : Type 0 where
  pub whole : Written t.stmts 1 ss
  pub with_rest : (rest : t.Tree t.stmts) → Written t.stmts 1 rest → Written t.stmts 1 (joined ss rest)

pub body_of : (ss : t.Tree t.stmts) → Statements ss → Body ss
body_of ss p = record { whole = record { tokens = p.tokens; are = p.are; shown = p.shown 1 }; with_rest = p.with_rest }

pub line : (s : t.Tree t.stmt) (ss : t.Tree t.stmts) → Written t.stmt 0 s → Body ss → Body (t.more_stmts s ss)
line s ss p q = record { whole = one_before s ss p q.whole; with_rest = λ rest r. one_before s (joined ss rest) p (q.with_rest rest r) }

-- 13: a function that is declared
declared : (x : List ℕ) (ps : List (List ℕ)) (body ss : t.Tree t.stmts) → Written t.func 0 (t.fun (Some x) ps body) → Written t.stmts 1 ss
    → Written t.stmts 1 (t.more_stmts (t.declare (t.fun (Some x) ps body)) ss)
declared x ps body ss p q = record {
  tokens = function_word ∷ (p.tokens ++ q.tokens);
  are = within (lit< tt) q.are p.are;
  shown = shown_declaration x ps body ss p.tokens q.tokens p.shown q.shown;
}

pub declaration : (x : List ℕ) (ps : List (List ℕ)) (body ss : t.Tree t.stmts) → Written t.func 0 (t.fun (Some x) ps body) → Body ss
    → Body (t.more_stmts (t.declare (t.fun (Some x) ps body)) ss)
declaration x ps body ss p q = record { whole = declared x ps body ss p q.whole; with_rest = λ rest r. declared x ps body (joined ss rest) p (q.with_rest rest r) }

-- no `var` stands where there is no variable
pub with_variables : (is : t.Tree t.items) (ss : t.Tree t.stmts) → Listed is → Written t.stmts 1 ss → Written t.stmts 1 (var_stmts is ss)
with_variables t.no_items ss h q = q
with_variables (t.more_items x m is) ss h q = one_before (t.var (t.more_items x m is)) ss (variables (t.more_items x m is) h) q

-- ---- 13: functions

pub are_listed : (ps : List (List ℕ)) → AreNames ps → Are (listed ps)
are_listed [] h = nothing
are_listed (x ∷ []) h = last h.0
are_listed (x ∷ y ∷ ys) h = then h.0 (then (lit< tt) (are_listed (y ∷ ys) h.1))

pub func : (x : Option (List ℕ)) (ps : List (List ℕ)) (ss : t.Tree t.stmts) → IsMaybeName x → AreNames ps → Written t.stmts 1 ss → Written t.func 0 (t.fun x ps ss)
func x ps ss i h p = record {
  tokens = named x ++ open_paren ∷ (listed ps ++ close_paren ∷ open_brace ∷ (p.tokens ++ close_brace ∷ []));
  are = before (maybe_named x i) (within (lit< tt) (then (lit< tt) (within (lit< tt) (last (lit< tt)) p.are)) (are_listed ps h));
  shown = shown_func x ps ss p.tokens p.shown;
}

-- ---- a program, whose tokens may stand anywhere

anywhere : (ts : List Token) → List Spot
anywhere ts = map (λ c. (c, 0)) ts

same_kinds : (ts : List Token) → kinds (anywhere ts) ≡ ts
unfolding anywhere
same_kinds [] = refl
same_kinds (c ∷ ts) = ap (λ z. c ∷ z) (same_kinds ts)

pub spelled : (ss : t.Tree t.stmts) → Written t.stmts 1 ss → IsSpelled (t.script ss)
unfolding anywhere
spelled ss p =
    let f = shown_script ss p.tokens p.shown (anywhere p.tokens) (same_kinds p.tokens) in
    record { tree = f.tree; by = anywhere p.tokens; same = f.same; spelled = f.spelled; tokens = All-map (λ c. IsToken c.0) (λ c. (c, 0)) p.tokens p.are.all }
