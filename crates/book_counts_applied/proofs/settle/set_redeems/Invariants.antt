use Rattle.std.proofs.Common.{◌≡◌, ℕ, length, map, take}
use Rattle.book_counts_applied.specs.Settled.{put_each}
use Rattle.book_counts_applied.proofs.settle.set_redeems.Given as goal

-- the counts so far are put
abbrev pub invariant-loop-i : goal.invariant-loop-i
invariant-loop-i l = record {
  kept : (f : ℕ → ℕ) → l.fn.redeems.items ≡ map (λ q. f q.id) l.rows → l.redeems.items ≡ map (λ q. put_each (λ c. c.voucher) (λ c. c.redeemed) (take l.i l.counts) f q.id) l.rows;
  same : length l.redeems.items ≡ length l.fn.redeems.items;
}
