use Rattle.std.proofs.Common.{◌≡◌, ◌++◌, map, take}
use Rattle.draft_changes.proofs.finish.add_keys.Given as goal

-- the keys of the additions that were reached are added
abbrev pub invariant-loop-i : goal.invariant-loop-i
invariant-loop-i g l = l.keys.items ≡ l.fn.keys.items ++ map (λ c. c.id) (take l.i l.tally)
