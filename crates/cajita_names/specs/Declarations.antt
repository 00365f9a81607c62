-- The names that a body declares itself (ES3 10.1.3, 12.2, 12.6, 13), in source order: those of functions within it are none of them.
use Rattle.std.specs.Prelude.{List, [], ◌∷◌, ◌++◌, map, Some}
use Rattle.es3_tree.specs.Tree as t
use Rattle.es3_tree.specs.Placed as p
use Rattle.es3_tree.specs.Placed.{Placed, Word}

-- a parameter, by `var`, by the head of a `for` .. `in` alone, or as a function
pub data Role : Type 0 where
  parameter variable loop_variable function : Role

pub record Declaration : Type 0 where
  pub word : Word
  pub role : Role

abbrev pub declared_as : Role → Word → Declaration
declared_as r x = record { word = x; role = r }

-- those of statements and of their parts; an expression declares nothing
unfoldable pub declarations : (s : t.Sort) → Placed s → List Declaration
declarations _ (p.block ss) = declarations _ ss
declarations _ (p.var is) = declarations _ is
declarations _ (p.branch x s m) = declarations _ s ++ declarations _ m
declarations _ (p.while_loop x s) = declarations _ s
declarations _ (p.do_loop s x) = declarations _ s
declarations _ (p.for_loop i x y s) = declarations _ i ++ declarations _ s
declarations _ (p.for_in i x s) = declarations _ i ++ declarations _ s
declarations _ (p.with_object x s at) = declarations _ s
declarations _ (p.switch x cs) = declarations _ cs
declarations _ (p.label l s) = declarations _ s
declarations _ (p.try ss h m) = (declarations _ ss ++ declarations _ h) ++ declarations _ m
declarations _ (p.declare f) = declarations _ f
declarations _ p.no_stmts = []
declarations _ (p.more_stmts s ss) = declarations _ s ++ declarations _ ss
declarations _ p.no_items = []
declarations _ (p.more_items x m is) = declared_as variable x ∷ declarations _ is
declarations _ (p.some_stmt s) = declarations _ s
declarations _ (p.some_block ss) = declarations _ ss
declarations _ (p.first_var is) = declarations _ is
declarations _ (p.loop_var x) = declared_as loop_variable x ∷ []
declarations _ p.no_cases = []
declarations _ (p.more_cases m ss cs) = declarations _ ss ++ declarations _ cs
declarations _ (p.some_handler x ss) = declarations _ ss
declarations _ (p.fun (Some x) ps body at) = declared_as function x ∷ []
declarations _ _ = []

-- those of a function's body, its parameters before
abbrev pub body_declarations : List Word → Placed t.stmts → List Declaration
body_declarations ps body = map (declared_as parameter) ps ++ declarations t.stmts body
