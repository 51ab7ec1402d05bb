use Rattle.std.proofs.Common.{◌≡◌, ◌≤◌, drop, length}
use Rattle.serde_json.specs.View.{items_view}
use Rattle.web_fields.specs.Lists.{all_of, at_most, with_front}
use Rattle.web_fields.proofs.lists.first_entries.Given as goal

abbrev pub invariant-loop-entry : goal.invariant-loop-entry
invariant-loop-entry g l = record {
  few : length l.found.items ≤ l.most;
  rest :
      at_most l.most (with_front l.found.items (all_of (g.R.Reading.reading l.reading) (items_view (drop l.entry-index l.list))))
      ≡ at_most l.most (all_of (g.R.Reading.reading l.reading) (items_view l.list));
}
