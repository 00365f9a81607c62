-- What is done with what is read, where the place and the reference are kept once more.
use Rattle.std.proofs.Common.{◌≡◌, Bool, ap, ◌∙◌, Global}
use Rattle.std.specs.declared.rc.Rc.{Rc}
use Rattle.es3_tree.specs.declared.BinOp.{BinOp}
use Rattle.es3_language.specs.Store.{Store}
use Rattle.es3_language.specs.Tasks.{with_value}
use Rattle.es3_language.specs.Expressions.{with_read, compound_value, compound_to, step_value, step_plan}
use Rattle.es3_convert.specs.Numbers.{number_of}
use Rattle.es3_moves.specs.Code.{plain_expr}
use Rattle.es3_moves.specs.Where.{plain_env, plain_ref}
use Rattle.es3_moves.specs.Moves.{then_plan}
use Rattle.es3_moves.specs.declared.code.ExprCode.{ExprCode}
use Rattle.es3_moves.specs.declared.frame.Env.{Env}
use Rattle.es3_moves.specs.declared.frame.Ref.{Ref}
use Rattle.es3_moves.specs.declared.frame.Then.TheVariants as then

pub compound_read : (op : BinOp) (x : Rc ExprCode Global) (env copy : Env) (r r' : Ref) (s : Store) → plain_env copy ≡ plain_env env → plain_ref r' ≡ plain_ref r → with_read (plain_ref r) (plain_env env) s (then_plan (then.Compound op x copy r')) ≡ compound_to op (plain_expr x.value) (plain_env env) (plain_ref r) s
compound_read op x env copy r r' s place same =
    ap (λ k. with_read (plain_ref r) (plain_env env) s (λ v z. with_value (plain_expr x.value) k z (compound_value op (plain_ref r') v k))) place
    ∙ ap (λ k. with_read (plain_ref r) (plain_env env) s (λ v z. with_value (plain_expr x.value) (plain_env env) z (compound_value op k v (plain_env env)))) same

pub step_read : (up before : Bool) (env copy : Env) (r r' : Ref) (s : Store) → plain_env copy ≡ plain_env env → plain_ref r' ≡ plain_ref r → with_read (plain_ref r) (plain_env env) s (then_plan (then.Step up before r' copy)) ≡ step_plan up before (plain_env env) (plain_ref r) s
step_read up before env copy r r' s place same =
    ap (λ k. with_read (plain_ref r) (plain_env env) s (λ v z. step_value up before (plain_ref r') k (number_of z.heap v) z)) place
    ∙ ap (λ k. with_read (plain_ref r) (plain_env env) s (λ v z. step_value up before k (plain_env env) (number_of z.heap v) z)) same
