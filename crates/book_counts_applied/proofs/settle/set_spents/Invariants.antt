use Rattle.std.proofs.Common.{◌≡◌, ℕ, length, map, take}
use Rattle.book_counts_applied.specs.Settled.{put_each}
use Rattle.book_counts_applied.proofs.settle.set_spents.Given as goal

-- the counts so far are put
abbrev pub invariant-loop-i : goal.invariant-loop-i
invariant-loop-i l = record {
  kept : (f : ℕ → ℕ) → l.fn.spents.items ≡ map (λ q. f q.id) l.rows → l.spents.items ≡ map (λ q. put_each (λ c. c.voucher) (λ c. c.spent) (take l.i l.counts) f q.id) l.rows;
  same : length l.spents.items ≡ length l.fn.spents.items;
}
