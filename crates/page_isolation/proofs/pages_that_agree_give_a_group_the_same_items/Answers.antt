use Rattle.page_isolation.proofs.Isolates.{pages_isolate, pages_keep_apart}
use Rattle.page_isolation.proofs.pages_that_agree_give_a_group_the_same_items.Goals as goal

pub returns-clause-items : goal.returns-clause-items
returns-clause-items c = pages_isolate

pub returns-clause-worlds : goal.returns-clause-worlds
returns-clause-worlds c = pages_keep_apart
