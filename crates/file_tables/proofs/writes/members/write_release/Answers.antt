use Rattle.sqlite.specs.Held.{state}
use Rattle.file_rows.specs.Changes.{Changes, with_release, without_release}
use Rattle.file_meaning.specs.Made.{put_release}
use Rattle.file_tables.proofs.MemberLemmas.{release_put, release_gone}
use Rattle.file_tables.proofs.Steps.{on_ok}
use Rattle.file_tables.proofs.writes.members.write_release.Goals as goal

pub returns-then-row : goal.returns-then-row
returns-then-row g c = record {
  inside = c.put.ensures.inside;
  written = λ clean at.
      let s0 = state g.S.Store c.args.tx.now.conn.now in
      let s1 = state g.S.Store c.put.new.tx.conn.now in
      let w = c.args.row.now in
      on_ok c.put.result (Changes (λ t. with_release (record { quota = w.id }) (without_release w.id t)) s0 s1) (Changes (put_release w) s0 s1) (c.put.ensures.written clean at) (λ h. release_put w s0 s1 c.if-row.true h);
}

pub returns-else-row : goal.returns-else-row
returns-else-row g c = record {
  inside = c.remove.ensures.inside;
  written = λ clean at.
      let s0 = state g.S.Store c.args.tx.now.conn.now in
      let s1 = state g.S.Store c.remove.new.tx.conn.now in
      let w = c.args.row.now in
      on_ok c.remove.result (Changes (without_release w.id) s0 s1) (Changes (put_release w) s0 s1) (c.remove.ensures.written clean at) (λ h. release_gone w s0 s1 c.if-row.false h);
}
