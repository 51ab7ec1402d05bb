use Rattle.std.proofs.Common.{◌≡◌, arith, rules}
use Rattle.sqlite.specs.Held.{state}
use Rattle.sqlite.specs.State.{HasCleanDisk}
use Rattle.model_rows.specs.declared.count_rows.VoucherCount.{VoucherCount}
use Rattle.file_rows.specs.Changes.{Changes, ChangesFit}
use Rattle.file_meaning.specs.Free.{IsFree}
use Rattle.file_meaning.specs.Made.{put_exit, put_uses, each}
use Rattle.file_tables.specs.Steps.{next_each}
use Rattle.file_tables.proofs.CountLemmas.{each_of, all_counted}
use Rattle.file_tables.proofs.Steps.{inside_fit, on_ok}
use Rattle.file_tables.proofs.writes.counts.write_counts.Goals as goal

pub returns : goal.returns
returns g c = record {
  inside = search rules;
  written = λ clean at.
      let s0 = state g.S.Store c.args.tx.now.conn.now in
      let s1 = state g.S.Store c.write_each.new.tx.conn.now in
      let s2 = state g.S.Store c.write_each-2.new.tx.conn.now in
      let s3 = state g.S.Store c.write_exits.new.tx.conn.now in
      let counts = c.args.counts.now in
      let from = c.args.from in
      let free = c.in_ok-free.free in
      let clean2 : HasCleanDisk s2 = omega (arith, c.write_exits.ensures.inside.crash.clean) in
      let clean1 : HasCleanDisk s1 = omega (arith, c.write_each-2.ensures.inside.crash.clean) in
      let a : (free ≡ next_each (λ (x : VoucherCount) n. n) counts.vouchers from) × ChangesFit (IsFree from) (each_of put_uses counts.vouchers from) s0 s1 = rw c.vouchers.ensures at (c.in_ok-free.ensures.written clean1 at) in
      let b = rw c.quotas.ensures at (c.in_ok-write_each.ensures.written clean2 (inside_fit _ _ s0 s1 a.1)) in
      let e = rw c.exits.ensures at (c.write_exits.ensures.written clean (inside_fit _ _ s1 s2 b.1)) in
      on_ok c.write_exits.result (Changes (each put_exit counts.exits) s2 s3) (ChangesFit (IsFree from) _ s0 s3) e (λ h. all_counted counts from free s0 s1 s2 s3 a.0 a.1 b.1 h);
}
