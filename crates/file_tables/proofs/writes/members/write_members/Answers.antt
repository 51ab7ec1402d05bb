use Rattle.std.proofs.Common.{◌≡◌, ◌+◌, length, arith, true, false, sym, ◌∙◌, rules}
use Rattle.sqlite.specs.Held.{state}
use Rattle.sqlite.specs.State.{HasCleanDisk}
use Rattle.file_rows.specs.Tables.{Tables, Holds}
use Rattle.file_tables.proofs.MemberLemmas.{just, links_stay, links_anew}
use Rattle.file_tables.proofs.Steps.{inside_after, inside_fit, if_ok}
use Rattle.file_tables.proofs.writes.members.write_members.Goals as goal

pub returns-then-stand : goal.returns-then-stand
returns-then-stand g c = record {
  inside = c.members_stand.ensures.inside;
  written = λ clean at.
      let s0 = state g.S.Store c.args.tx.now.conn.now in
      let s1 = state g.S.Store c.members_stand.new.tx.conn.now in
      let ids = c.args.members.now in
      let m = g.T.Member in
      let l = g.met.T.Member in
      let are : (t : Tables) → Holds s0.now.trees t → true ≡ just m.row_of g.T.Numbered.number_of m.owner_of m.member_of m.rows m.with_rows g.T.Stored.with_row l.are_there l.are_same l.are_last g.met.T.RemoveByOwner.adds c.args.owner ids t =
      λ t held. sym c.if-stand.true ∙ c.in_ok-stand.ensures.told clean at t held in
      let same = c.in_ok-stand.ensures.still clean at in
      if_ok c.number_behind.result (λ free. free ≡ c.args.from + length ids) _ c.number_behind.ensures
      (λ free is. (is, links_stay m.row_of g.T.Numbered.number_of m.owner_of m.member_of m.rows m.with_rows g.T.Stored.with_row l.are_there l.are_same l.are_last g.met.T.RemoveByOwner.adds c.args.owner c.args.from ids s0 s1 are same));
}

pub returns : goal.returns
returns g c = record {
  inside = search rules;
  written = λ clean at.
      let s0 = state g.S.Store c.args.tx.now.conn.now in
      let s1 = state g.S.Store c.members_stand.new.tx.conn.now in
      let s2 = state g.S.Store c.remove_members.new.tx.conn.now in
      let s3 = state g.S.Store c.add_members.new.tx.conn.now in
      let ids = c.args.members.now in
      let m = g.T.Member in
      let l = g.met.T.Member in
      let clean2 : HasCleanDisk s2 = omega (arith, c.add_members.ensures.inside.crash.clean) in
      let clean1 : HasCleanDisk s1 = omega (arith, c.remove_members.ensures.inside.crash.clean) in
      let other : (t : Tables) → Holds s0.now.trees t → false ≡ just m.row_of g.T.Numbered.number_of m.owner_of m.member_of m.rows m.with_rows g.T.Stored.with_row l.are_there l.are_same l.are_last g.met.T.RemoveByOwner.adds c.args.owner ids t =
      λ t held. sym c.if-stand.false ∙ c.in_ok-stand.ensures.told clean1 at t held in
      let a = c.in_ok-stand.ensures.still clean1 at in
      let b = c.in_ok-remove_members.ensures.written clean2 (inside_after _ s0 s1 a) in
      if_ok c.add_members.result _ _ (c.add_members.ensures.written clean (inside_fit _ _ s1 s2 b))
      (λ free h. (h.0, links_anew m.row_of g.T.Numbered.number_of m.owner_of m.member_of m.rows m.with_rows g.T.Stored.with_row l.are_there l.are_same l.are_last g.met.T.RemoveByOwner.adds c.args.owner c.args.from ids s0 s1 s2 s3 other a b h.1));
}
