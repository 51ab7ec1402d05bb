use Rattle.std.proofs.Common.{◌<◌, None, length, ap, ◌∙◌, arith}
use Rattle.std.proofs.lemmas.List.{get_or_default}
use Rattle.book_log.proofs.key_log.KeyLog.before.Goals as goal

pub returns : goal.returns
returns c d =
    let old = c.self.inside in
    let lt : c.args.place < length old.keys.items = omega (arith, c.requires, ap length c.self.view_is) in
    rw (← c.self.view_is) (c.index.ensures ∙ get_or_default old.before.items c.args.place c.index.result.now None (omega (arith, lt, c.self.invariant.count)) ∙ c.self.invariant.befores c.args.place d lt)
