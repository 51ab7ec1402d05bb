use Rattle.std.proofs.Common.{ap, ◌∙◌}
use Rattle.std.specs.Option.{option_copied}
use Rattle.book_catalogue.specs.Members.{has_if}
use Rattle.book_catalogue.proofs.Listed.{relisted_new, relisted_anew}
use Rattle.book_catalogue.proofs.members.relist.Goals as goal

pub returns-in-None-clause-rows : goal.returns-in-None-clause-rows
returns-in-None-clause-rows c =
    relisted_new c.args.quota c.args.new.now c.args.index.now.rows c.add_all.new.self.rows c.ranges.quota.fits (λ id. c.requires.old id ∙ ap (λ o. has_if id (option_copied o)) c.in-None.is) (rw c.as_slice.ensures at c.add_all.ensures.rows)

pub returns-then-not-same-clause-rows : goal.returns-then-not-same-clause-rows
returns-then-not-same-clause-rows c =
    relisted_anew c.args.quota c.args.new.now c.args.index.now.rows _ c.add_all-then-not-same.new.self.rows c.ranges.quota.fits c.remove_all.ensures.rows (rw c.as_slice-then-not-same.ensures at c.add_all-then-not-same.ensures.rows)
