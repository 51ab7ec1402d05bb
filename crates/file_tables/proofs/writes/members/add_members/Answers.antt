use Rattle.std.proofs.Common.{◌≡◌, ℕ, ◌∙◌, ◌+◌, ◌∷◌, drop, arith, sym, ap, get_or, add-one, drop-cons}
use Rattle.sqlite.specs.Held.{state}
use Rattle.sqlite.specs.State.{HasCleanDisk}
use Rattle.file_schema.proofs.Inside.{stays_then}
use Rattle.file_rows.specs.Tables.{Tables}
use Rattle.file_tables.specs.Steps.{made_each, next_each}
use Rattle.file_tables.proofs.MemberLemmas.{next_members}
use Rattle.file_tables.proofs.Steps.{inside_reached, any_tables, fits_all, changes_any, drop_all, next_on, one_more, all_done}
use Rattle.file_tables.proofs.writes.members.add_members.Goals as goal

pub members-preserved : goal.members-preserved
members-preserved g c =
    let old = state g.S.Store c.args.tx.now.conn.now in
    let mid = state g.S.Store c.members.tx.conn.now in
    let new = state g.S.Store c.add_member.new.tx.conn.now in
    let all = c.args.members.now in
    let i = c.members.member-index in
    let inv = c.members.invariant in
    let step = c.in_ok-free.ensures in (
      stays_then g.S.Store c.args.tx.now.conn c.members.tx.conn c.add_member.new.tx.conn inv.0 step.inside,
      λ clean at.
          let early : HasCleanDisk mid = omega (arith, step.inside.crash.clean) in
          let reached = inv.1 early at in
          let written = step.written clean (inside_reached _ _ _ _ old mid reached.1) in
          let made : ℕ → ℕ → Tables → Tables = λ id n. g.T.Stored.with_row (g.T.Member.row_of n c.args.owner id) in
          let next : ℕ → ℕ → ℕ = λ _ n. n + 1 in
          let x = get_or all i 0 in
          let is : drop i all ≡ x ∷ drop (i + 1) all = rw add-one (drop-cons all i 0 c.members-test.true) in (
            next_on made next x (drop i all) (drop (i + 1) all) all c.args.from c.in_ok-free.free c.members.free is reached.0 written.0,
            one_more made next any_tables (λ x n t _. tt) x (drop i all) (drop (i + 1) all) all c.args.from c.members.free c.in_ok-free.free is written.0 old mid new reached.1 (fits_all (any_tables c.members.free) (made x c.members.free) mid new written.1),
          ),
    )

pub returns : goal.returns
returns g c = record {
  inside = c.members.invariant.0;
  written = λ clean at.
      let old = state g.S.Store c.args.tx.now.conn.now in
      let new = state g.S.Store c.members.tx.conn.now in
      let all = c.args.members.now in
      let i = c.members.member-index in
      let reached = c.members.invariant.1 clean at in
      let none = drop_all all i c.members-test.false in
      let made : ℕ → ℕ → Tables → Tables = λ id n. g.T.Stored.with_row (g.T.Member.row_of n c.args.owner id) in
      let next : ℕ → ℕ → ℕ = λ _ n. n + 1 in (
        sym (ap (λ l. next_each next l c.members.free) none) ∙ reached.0 ∙ next_members c.args.from all,
        changes_any c.args.from (made_each made next all c.args.from) old new (all_done made next any_tables (drop i all) all c.args.from c.members.free none old new reached.1),
      );
}
