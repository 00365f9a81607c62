-- What is to be shown of each part of a program, and what a part declares around it.
use Rattle.std.proofs.Common.{◌≡◌, ℕ, ◌≤◌, Bool, true, false, List, [], ◌++◌, map, cond, refl, ◌∙◌}
use Rattle.std.proofs.lemmas.List.Folds.{list_any-append}
use Rattle.caja_units.specs.Units.{same_units}
use Rattle.es3_tree.specs.Tree as t
use Rattle.es3_tree.specs.Placed.{Placed, Word}
use Rattle.es3_labels.specs.Around.{Around}
use Rattle.cajita_names.specs.Declarations as role
use Rattle.cajita_names.specs.Declarations.{Declaration, declared_as, declarations, body_declarations}
use Rattle.cajita_names.specs.Scope.{Scope, Binding, changing, in_catch, bound, declares}
use Rattle.cajita_rules.specs.Faults.{Fault}
use Rattle.valija_rules.specs.Faults as valija
use Rattle.valija_parts.specs.Lower.{lowered, written, functions_before, within}
use Rattle.valija_accepted.proofs.Lists.{left_there, right_there, no_front}
use Rattle.valija_accepted.proofs.Formed.{as_body}
use Rattle.valija_accepted.proofs.Scopes.{Fits, is_placed, placed_in}
use Rattle.valija_accepted.proofs.Parts.{GoodPart, IsClean, Kept}
use Rattle.valija_accepted.proofs.Bodies.{GoodBody}
use Rattle.valija_accepted.proofs.Names.{read_name_clean, type_of_name_clean, write_name_clean, op_of_name_clean, stepped_name_clean, receiver_clean, target_of}
use Rattle.valija_accepted.proofs.Names as names

-- ---- what a part declares is declared around it

pub record Within (s : Scope) (ds : List Declaration) : Type 0 where
  pub placed : (k : List ℕ) → declares ds k ≡ true → is_placed (bound s k) ≡ true

pub front_in : {s : Scope} {ds : List Declaration} (es : List Declaration) → Within s (ds ++ es) → Within s ds
front_in {ds = ds} es w = record { placed = λ k e. w.placed k (list_any-append (λ (d : Declaration). same_units k d.word.text) ds es ∙ left_there (declares ds k) (declares es k) e) }

pub back_in : {s : Scope} (ds : List Declaration) {es : List Declaration} → Within s (ds ++ es) → Within s es
back_in ds {es = es} w = record { placed = λ k e. w.placed k (list_any-append (λ (d : Declaration). same_units k d.word.text) ds es ∙ right_there (declares ds k) (declares es k) e) }

pub in_the_catch : {s : Scope} {ds : List Declaration} (y : List ℕ) → Within s ds → Within (in_catch y s) ds
in_the_catch {s = s} y w = record { placed = λ k e. by (same_units k y) (bound s k) (w.placed k e) }
  where
    by : (b : Bool) (d : Binding) → is_placed d ≡ true → is_placed (cond b changing d) ≡ true
    by true d e = refl
    by false d e = e

pub in_the_body : (s : Scope) (ps : List Word) (body : Placed t.stmts) → Within (within s ps body) (declarations t.stmts body)
in_the_body s ps body = record { placed = λ k e. placed_in (body_declarations ps body) k (bound s k) (list_any-append (λ (d : Declaration). same_units k d.word.text) (map (declared_as role.parameter) ps) (declarations t.stmts body) ∙ right_there (declares (map (declared_as role.parameter) ps) k) (declares (declarations t.stmts body) k) e) }

-- a target that is a name
pub name_target : (s : Scope) (x : Word) (fs : List Fault) → (valija.used s x ++ valija.written s x) ++ fs ≡ [] → names.Target s x
name_target s x fs e = target_of s x (no_front (valija.used s x ++ valija.written s x) fs e)

pub as_list : (s : Scope) (a : Around) (ss : Placed t.stmts) → GoodPart s a t.stmts ss → GoodBody s a ss
as_list s a ss h = record { formed = as_body ss h.formed; rules = h.rules; jumps = h.jumps }

-- ---- what is to be shown of each part, wherever it stands

pub record Expr (k : t.Sort) (x : Placed k) : Type 0 where
  pub kept : (s r : Scope) (total : ℕ) → Fits s r total → (a b : Around) → GoodPart s a k x → Kept r b total 0 k (lowered s k x)

pub record Stmt (k : t.Sort) (x : Placed k) : Type 0 where
  pub kept : (s r : Scope) (total : ℕ) → Fits s r total → (a : Around) → GoodPart s a k x → Within s (declarations k x) → Kept r a total 0 k (lowered s k x)

-- statements, and the functions that they declare as a body
pub record Lines (ss : Placed t.stmts) : Type 0 where
  pub kept : (s r : Scope) (total : ℕ) → Fits s r total → (a : Around) → GoodBody s a ss → Within s (declarations t.stmts ss) → Kept r a total 0 t.stmts (lowered s t.stmts ss)
  pub functions : (s r : Scope) (total : ℕ) → Fits s r total → (a : Around) → GoodBody s a ss → IsClean r a t.stmts (functions_before s ss)

-- the target of a head with `in`, to which a value is written at each turn
pub record Target (i : Placed t.loop_target) : Type 0 where
  pub kept : (s r : Scope) (total low : ℕ) (v : Placed t.expr) → Fits s r total → (a b : Around) → GoodPart s a t.loop_target i → Within s (declarations t.loop_target i) → (low ≤ total → IsClean r b t.expr v)
      → Kept r b total low t.expr (written s i v)
