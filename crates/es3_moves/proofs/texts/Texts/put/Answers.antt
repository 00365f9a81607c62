use Rattle.std.proofs.Common.{arith, refl}
use Rattle.std.proofs.lemmas.Result.{on_ok_weaker}
use Rattle.es3_language.specs.Store.{with_name}
use Rattle.es3_moves.proofs.Scopes.{put-renamed}
use Rattle.es3_moves.proofs.texts.Texts.put.Goals as goal

pub returns-clause-scopes : goal.returns-clause-scopes
returns-clause-scopes c =
    on_ok_weaker c.put.result (λ is. put-renamed c.args.self.now.scopes.items c.args.c c.index_mut-scope.result.now (record { owner = c.index_mut-scope.result.now.owner; names = c.put.new.self }) (with_name c.args.name.now.value c.args.value) (omega arith) c.index_mut-scope.ensures.value refl is) c.put.ensures
