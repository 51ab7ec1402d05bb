use Rattle.std.proofs.Common.{◌≡◌, take}
use Rattle.std.specs.Prelude.{flat_map}
use Rattle.draft_changes.specs.Handed.{quota_shift}
use Rattle.draft_changes.proofs.finish.quota_shifts.Given as goal

abbrev pub invariant-loop-place : goal.invariant-loop-place
invariant-loop-place l = l.rows.items ≡ flat_map (quota_shift l.quotas l.counts) (take l.place-index l.places)
