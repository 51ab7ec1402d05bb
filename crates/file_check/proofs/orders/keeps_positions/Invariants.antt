use Rattle.std.proofs.Common.{◌↔◌, drop}
use Rattle.model_invariant.specs.Positions.{AllHavePositions}
use Rattle.file_check.proofs.orders.keeps_positions.Given as goal

abbrev pub invariant-loop-order : goal.invariant-loop-order
invariant-loop-order g l = let lists = (g.B.Book.state l.book).lists in AllHavePositions (drop l.order-index l.orders) lists.positions ↔ AllHavePositions l.orders lists.positions
