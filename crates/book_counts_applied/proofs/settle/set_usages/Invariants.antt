use Rattle.std.proofs.Common.{◌≡◌, ℕ, length, map, take}
use Rattle.model_rows.specs.declared.rows.Usage.{Usage}
use Rattle.book_counts_applied.specs.Settled.{put_each}
use Rattle.book_counts_applied.proofs.settle.set_usages.Given as goal

-- the counts so far are put
abbrev pub invariant-loop-i : goal.invariant-loop-i
invariant-loop-i l = record {
  kept : (f : ℕ → Usage) → l.fn.usages.items ≡ map (λ q. f q.id) l.quotas → l.usages.items ≡ map (λ q. put_each (λ c. c.quota) (λ c. c.usage) (take l.i l.counts) f q.id) l.quotas;
  same : length l.usages.items ≡ length l.fn.usages.items;
}
