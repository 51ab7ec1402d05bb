use Rattle.std.proofs.Common.{◌≡◌, ◌<◌, drop}
use Rattle.book_indexes.specs.Digests.{digest_from}
use Rattle.book_indexes.proofs.digests.digest.Given as goal

abbrev pub invariant-loop-b : goal.invariant-loop-b
invariant-loop-b l = record {
  rest : digest_from l.h (drop l.b-index l.bytes) ≡ digest_from 0 l.bytes;
  small : l.h < 36028797018963968;
}
