-- A resolved expression as a part of a larger one: as what is called, what is written to, what is deleted.
use Rattle.std.specs.Prelude.{Option, Some, None}
use Rattle.cajita_tree.specs.Tree as c

-- a call of a member is a call of a method (ES3 11.2.3)
abbrev pub called : c.Tree c.expr → c.Tree c.exprs → c.Tree c.expr
called (c.read e k) es = c.method e k es
called e es = c.call e es

-- what is written to is a variable or a member (ES3 8.7.2)
abbrev pub target_of : c.Tree c.expr → Option (c.Tree c.target)
target_of (c.name x) = Some (c.variable x)
target_of (c.read e k) = Some (c.member e k)
target_of e = None

-- what is deleted is a member (ES3 11.4.1)
abbrev pub deleted : c.Tree c.expr → Option (c.Tree c.expr)
deleted (c.read e k) = Some (c.delete e k)
deleted e = None
