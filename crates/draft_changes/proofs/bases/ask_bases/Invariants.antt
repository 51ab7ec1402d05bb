use Rattle.draft_changes.specs.Used.{AreBases}
use Rattle.draft_changes.proofs.bases.ask_bases.Given as goal

-- what is known stays so
abbrev pub invariant-loop-i : goal.invariant-loop-i
invariant-loop-i g l = AreBases (g.B.Book.state l.book).lists l.at l.bases.items
