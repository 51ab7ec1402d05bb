use Rattle.std.proofs.Common.{sym, subst, ap, ◌∙◌}
use Rattle.model_invariant.specs.Sound.{IsSound}
use Rattle.model_damage.specs.declared.rule.Rule.TheVariants.{Counters}
use Rattle.model_damage.specs.Rules.{File}
use Rattle.model_damage.specs.Told.{file_of}
use Rattle.model_damage.proofs.Sounds.{sound_of}
use Rattle.file_open.proofs.Least.{why}
use Rattle.file_open.proofs.Refused.{stand_as}
use Rattle.file_open.proofs.book.open_rows.Goals as goal

pub returns-in-Ok-book_of-clause-names : goal.returns-in-Ok-book_of-clause-names
returns-in-Ok-book_of-clause-names g c =
    let is = c.in-Ok.ensures.told in
    (c.in-Ok-book_of.ensures.names.0 ∙ ap (λ (f : File). f.organizer) is, c.in-Ok-book_of.ensures.names.1 ∙ ap (λ (f : File). f.event) is)

pub returns-in-Ok-book_of-clause-sound : goal.returns-in-Ok-book_of-clause-sound
returns-in-Ok-book_of-clause-sound g c = subst IsSound (sym c.in-Ok-book_of.ensures.state) (sound_of (file_of c.in-Ok.rows) c.in-Ok-book_of.ensures.kept)

pub returns-in-Ok-book_of-clause-held : goal.returns-in-Ok-book_of-clause-held
returns-in-Ok-book_of-clause-held g c = λ t of. (
  stand_as t c.args.file (file_of c.in-Ok.rows) _ c.in-Ok.ensures.told c.in-Ok-book_of.ensures.state of c.in-Ok.ensures.order c.in-Ok.ensures.whole (c.in-Ok.ensures.paired.0 c.in-Ok-book_of.ensures.paired) (c.in-Ok-book_of.ensures.kept Counters),
  c.in-Some.ensures.next t of.tables,
  c.in-Some.ensures.least t of.tables,
)

pub returns-in-Err-book_of-clause-refused : goal.returns-in-Err-book_of-clause-refused
returns-in-Err-book_of-clause-refused g c = why c.args.file (file_of c.in-Ok.rows) c.in-Ok.paired c.in-Err-book_of.error c.in-Ok.ensures.told c.in-Ok.ensures.order c.in-Ok.ensures.numbered c.in-Ok.ensures.whole c.in-Ok.ensures.paired c.in-Err-book_of.ensures.refused
