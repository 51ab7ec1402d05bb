use Rattle.std.proofs.Common.{◌≡◌, ◌∙◌, ◌+◌, length, arith, ap, rules}
use Rattle.sqlite.specs.Held.{state}
use Rattle.sqlite.specs.State.{HasCleanDisk}
use Rattle.file_rows.specs.Changes.{ChangesFit}
use Rattle.file_meaning.specs.Free.{IsFree}
use Rattle.file_meaning.specs.Made.{put_items, put_variations, put_quota}
use Rattle.file_tables.proofs.MemberLemmas.{ItemsApart, VariationsApart, quota_put}
use Rattle.file_tables.proofs.Steps.{inside_after, inside_fit, if_ok}
use Rattle.file_tables.proofs.writes.members.write_quota.Goals as goal

pub returns : goal.returns
returns g c = record {
  inside = search rules;
  written = λ clean at.
      let s0 = state g.S.Store c.args.tx.now.conn.now in
      let s1 = state g.S.Store c.put.new.tx.conn.now in
      let r = state g.S.Store c.write_release.new.tx.conn.now in
      let s2 = state g.S.Store c.write_members.new.tx.conn.now in
      let s3 = state g.S.Store c.write_members-2.new.tx.conn.now in
      let w = c.args.row.now in
      let from = c.args.from in
      let mid = c.in_ok-mid.mid in
      let clean2 : HasCleanDisk s2 = omega (arith, c.write_members-2.ensures.inside.crash.clean) in
      let cleanr : HasCleanDisk r = omega (arith, c.write_members.ensures.inside.crash.clean) in
      let clean1 : HasCleanDisk s1 = omega (arith, c.write_release.ensures.inside.crash.clean) in
      let a = c.in_ok-put.ensures.written clean1 at in
      let e = c.in_ok-write_release.ensures.written cleanr (inside_after _ s0 s1 a) in
      let b : (mid ≡ from + length w.items) × ChangesFit ItemsApart (put_items w.id from w.items) r s2 = rw c.as_slice.ensures at (c.in_ok-mid.ensures.written clean2 (inside_after _ s1 r e)) in
      let d = rw c.as_slice-2.ensures at (c.write_members-2.ensures.written clean (inside_fit _ _ r s2 b.1)) in
      if_ok c.write_members-2.result (λ free. (free ≡ mid + length w.variations) × ChangesFit VariationsApart (put_variations w.id mid w.variations) s2 s3)
      (λ free. (free ≡ from + length w.items + length w.variations) × ChangesFit (IsFree from) (put_quota w from) s0 s3) d
      (λ free h. (h.0 ∙ ap (λ n. n + length w.variations) b.0, quota_put w from mid s0 s1 r s2 s3 b.0 a e b.1 h.1));
}
