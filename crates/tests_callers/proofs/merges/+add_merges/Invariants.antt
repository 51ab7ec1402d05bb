use Rattle.std.proofs.Common.{◌+◌, length}
use Rattle.tests_callers.proofs.merges.+add_merges.Given as goal

abbrev pub decreases-add_merges : goal.decreases-add_merges
decreases-add_merges l = length l.one.now + length l.other.now
