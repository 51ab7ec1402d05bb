use Rattle.std.proofs.Common.{◌≡◌, map, take, ◌∷◌}
use Rattle.model_rows.specs.declared.changes.Change.TheVariants.{PutItem, PutVariation}
use Rattle.office_other.proofs.catalogue.puts_of.Given as goal

abbrev pub invariant-loop-variation : goal.invariant-loop-variation
invariant-loop-variation l = l.list.items ≡ PutItem l.rows.item ∷ map PutVariation (take l.variation-index l.rows.variations)
