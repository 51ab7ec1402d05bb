use Rattle.sqlite.specs.Held.{state}
use Rattle.file_rows.specs.Changes.{Changes, with_budget, without_budget}
use Rattle.file_meaning.specs.Made.{put_budget}
use Rattle.file_tables.proofs.RowLemmas.{budget_put, budget_gone}
use Rattle.file_tables.proofs.Steps.{on_ok}
use Rattle.file_tables.proofs.writes.rows.write_budget.Goals as goal

pub returns-in-Some : goal.returns-in-Some
returns-in-Some g c = record {
  inside = c.put.ensures.inside;
  written = λ clean at.
      let s0 = state g.S.Store c.args.tx.now.conn.now in
      let s1 = state g.S.Store c.put.new.tx.conn.now in
      let w = c.args.row.now in
      on_ok c.put.result (Changes (λ t. with_budget (record { voucher_id = w.id; budget = c.in-Some.budget }) (without_budget w.id t)) s0 s1) (Changes (put_budget w) s0 s1) (c.put.ensures.written clean at) (λ h. budget_put w c.in-Some.budget s0 s1 c.in-Some.is h);
}

pub returns-in-None : goal.returns-in-None
returns-in-None g c = record {
  inside = c.remove.ensures.inside;
  written = λ clean at.
      let s0 = state g.S.Store c.args.tx.now.conn.now in
      let s1 = state g.S.Store c.remove.new.tx.conn.now in
      let w = c.args.row.now in
      on_ok c.remove.result (Changes (without_budget w.id) s0 s1) (Changes (put_budget w) s0 s1) (c.remove.ensures.written clean at) (λ h. budget_gone w s0 s1 c.in-None.is h);
}
