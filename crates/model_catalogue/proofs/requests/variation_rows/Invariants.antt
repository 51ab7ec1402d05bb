use Rattle.std.proofs.Common.{◌≡◌, ◌+◌, ◌++◌, drop}
use Rattle.model_catalogue.specs.ItemAdded.{variation_rows}
use Rattle.model_catalogue.proofs.requests.variation_rows.Given as goal

abbrev pub invariant-loop-new : goal.invariant-loop-new
invariant-loop-new l = (l.rows.items ++ variation_rows (drop l.new-index l.variations) l.item l.id ≡ variation_rows l.variations l.item l.first) × (l.id ≡ l.first + l.new-index)
