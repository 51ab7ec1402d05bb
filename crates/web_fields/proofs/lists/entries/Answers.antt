use Rattle.web_fields.proofs.Kept.{all_kept}
use Rattle.web_fields.proofs.lists.entries.Goals as goal

pub returns : goal.returns
returns g c = rw (all_kept (g.R.Reading.reading c.args.reading.now) c.args.list.now) at c.first_entries.ensures
