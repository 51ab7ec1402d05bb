use Rattle.std.proofs.Common.{◌≡◌, ◌⊎◌, ◌++◌, ◌≤◌, List, ℕ, [], length, take}
use Rattle.base_devices.specs.Reported.{Gives}
use Rattle.app_files.specs.Heads.{HasNoMark}
use Rattle.app_files.proofs.heads.finds_mark.Given as goal

abbrev pub invariant-loop : goal.invariant-loop
invariant-loop g l = record {
  most : l.kept ≤ 12;
  came : (before : List ℕ) × Gives (g.R.Read.remaining l.fn.reader) (before ++ take l.kept l.piece) (g.R.Read.remaining l.reader)
      × HasNoMark (before ++ take l.kept l.piece)
      × ((before ≡ []) ⊎ (12 ≤ length (take l.kept l.piece)));
}
