use Rattle.std.proofs.Common.{◌-◌, length, ap, arith}
use Rattle.book_log.proofs.KeyIndexes.{key_popped}
use Rattle.book_log.proofs.key_log.KeyLog.undo.Goals as goal

pub invariant_of-self : goal.invariant_of-self
invariant_of-self c =
    let old = c.self.inside in
    key_popped old.keys.items old.last old.before.items (c.len-last.result - 1) c.index-key.result.now c.index.result.now c.go_back.new.self c.truncate-2.new.self.items c.truncate.new.self.items c.self.invariant (omega (arith, c.len-last.ensures, c.requires, ap length c.self.view_is)) c.index-key.ensures c.index.ensures c.go_back.ensures c.truncate-2.ensures.items c.truncate.ensures.items
