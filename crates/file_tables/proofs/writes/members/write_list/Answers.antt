use Rattle.std.proofs.Common.{◌≡◌, ◌+◌, length, arith, rules}
use Rattle.sqlite.specs.Held.{state}
use Rattle.sqlite.specs.State.{HasCleanDisk}
use Rattle.file_rows.specs.Changes.{Changes, ChangesFit}
use Rattle.file_meaning.specs.Free.{IsFree}
use Rattle.file_meaning.specs.Made.{put_list}
use Rattle.file_tables.proofs.MemberLemmas.{limits_of, list_put}
use Rattle.file_tables.proofs.Steps.{inside_after, inside_fit, if_ok}
use Rattle.file_tables.proofs.writes.members.write_list.Goals as goal

pub returns : goal.returns
returns g c = record {
  inside = search rules;
  written = λ clean at.
      let s0 = state g.S.Store c.args.tx.now.conn.now in
      let s1 = state g.S.Store c.put.new.tx.conn.now in
      let s2 = state g.S.Store c.remove_members.new.tx.conn.now in
      let s3 = state g.S.Store c.add_members.new.tx.conn.now in
      let w = c.args.row.now in
      let from = c.args.from in
      let clean2 : HasCleanDisk s2 = omega (arith, c.add_members.ensures.inside.crash.clean) in
      let clean1 : HasCleanDisk s1 = omega (arith, c.remove_members.ensures.inside.crash.clean) in
      let a = c.in_ok-put.ensures.written clean1 at in
      let b = c.in_ok-remove_members.ensures.written clean2 (inside_after _ s0 s1 a) in
      let f = rw c.as_slice.ensures at (c.add_members.ensures.written clean (inside_fit _ _ s1 s2 b)) in
      if_ok c.add_members.result (λ free. (free ≡ from + length w.limit_products) × Changes (limits_of w.id from w.limit_products) s2 s3)
      (λ free. (free ≡ from + length w.limit_products) × ChangesFit (IsFree from) (put_list w from) s0 s3) f
      (λ free h. (h.0, list_put w from s0 s1 s2 s3 a b h.1));
}
