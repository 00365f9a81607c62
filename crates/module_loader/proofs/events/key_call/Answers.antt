use Rattle.module_loader.proofs.KeyCalls.{reply_for, heap_for}
use Rattle.module_loader.proofs.events.key_call.Goals as goal

pub returns-clause-reply : goal.returns-clause-reply
returns-clause-reply c = reply_for c.look_up.result c.args.by c.args.on.now c.args.key.now c.args.args.items c.args.h.now c.look_up.ensures.reply

pub returns-clause-store : goal.returns-clause-store
returns-clause-store c = heap_for c.look_up.result c.look_up.new.h c.args.by c.args.on.now c.args.key.now c.args.args.items c.args.h.now c.look_up.ensures.store
