-- The jumps in an expression are those of functions in it, so what stands around it has no say.
use Rattle.std.proofs.Common.{◌≡◌, Bool, refl, ap, ◌∙◌}
use Rattle.std.specs.Prelude.{◌&&◌}
use Rattle.es3_labels.specs.Around.{Around}
use Rattle.cajita_tree.specs.Tree as c
use Rattle.cajoled_jumps.specs.Targets.{resolved_targeted}

two : {x y b d : Bool} → x ≡ b → y ≡ d → (x && y) ≡ (b && d)
two {y = y} {b = b} h i = ap (λ e. e && y) h ∙ ap (λ e. b && e) i

three : {x y z b d e : Bool} → x ≡ b → y ≡ d → z ≡ e → ((x && y) && z) ≡ ((b && d) && e)
three h i j = two (two h i) j

mutual
  unfolding resolved_targeted

  pub same_expr : (a b : Around) (x : c.Tree c.expr) → resolved_targeted a c.expr x ≡ resolved_targeted b c.expr x
  same_expr a b c.null = refl
  same_expr a b (c.bool v) = refl
  same_expr a b (c.num n) = refl
  same_expr a b (c.text u) = refl
  same_expr a b (c.name x) = refl
  same_expr a b c.args = refl
  same_expr a b (c.array es) = same_exprs a b es
  same_expr a b (c.record_of fs) = same_fields a b fs
  same_expr a b (c.function (c.fun name params args body)) = refl
  same_expr a b (c.read e k) = two (same_expr a b e) (same_key a b k)
  same_expr a b (c.call e es) = two (same_expr a b e) (same_exprs a b es)
  same_expr a b (c.method e k es) = three (same_expr a b e) (same_key a b k) (same_exprs a b es)
  same_expr a b (c.new e es) = two (same_expr a b e) (same_exprs a b es)
  same_expr a b (c.delete e k) = two (same_expr a b e) (same_key a b k)
  same_expr a b (c.step up before x) = same_target a b x
  same_expr a b (c.assign op x e) = two (same_target a b x) (same_expr a b e)
  same_expr a b (c.unary op e) = same_expr a b e
  same_expr a b (c.binary op x y) = two (same_expr a b x) (same_expr a b y)
  same_expr a b (c.and x y) = two (same_expr a b x) (same_expr a b y)
  same_expr a b (c.or x y) = two (same_expr a b x) (same_expr a b y)
  same_expr a b (c.choice x y z) = three (same_expr a b x) (same_expr a b y) (same_expr a b z)
  same_expr a b (c.comma x y) = two (same_expr a b x) (same_expr a b y)

  same_exprs : (a b : Around) (x : c.Tree c.exprs) → resolved_targeted a c.exprs x ≡ resolved_targeted b c.exprs x
  same_exprs a b c.no_exprs = refl
  same_exprs a b (c.more_exprs e es) = two (same_expr a b e) (same_exprs a b es)

  same_fields : (a b : Around) (x : c.Tree c.fields) → resolved_targeted a c.fields x ≡ resolved_targeted b c.fields x
  same_fields a b c.no_fields = refl
  same_fields a b (c.more_fields k e fs) = two (same_expr a b e) (same_fields a b fs)

  pub same_key : (a b : Around) (x : c.Tree c.key) → resolved_targeted a c.key x ≡ resolved_targeted b c.key x
  same_key a b (c.fixed k) = refl
  same_key a b (c.computed e) = same_expr a b e

  same_target : (a b : Around) (x : c.Tree c.target) → resolved_targeted a c.target x ≡ resolved_targeted b c.target x
  same_target a b (c.variable x) = refl
  same_target a b (c.member e k) = two (same_expr a b e) (same_key a b k)
