use Rattle.std.proofs.Common.{◌≡◌, length, map, take, Ok, subst, rules, arith}
use Rattle.sqlite_value.specs.declared.value.ValueRef.TheVariants.{Null}
use Rattle.sqlite.specs.Held.{state}
use Rattle.file_writes.proofs.BoundLemmas.{one_more, runs_bound}
use Rattle.file_writes.proofs.bound.run_bound.Goals as goal

pub columns-preserved : goal.columns-preserved
columns-preserved g c =
    (search rules, one_more c.columns.params c.args.columns.now c.columns.at c.in-Ok.value (Ok Null) c.columns.invariant.1 (omega arith) c.columns-test.true c.in-Ok.is)

pub returns-clause-ran : goal.returns-clause-ran
returns-clause-ran g c clean inside =
    let all : c.columns.at ≡ length c.args.columns.now = omega arith in
    let done = subst (λ n. map Ok (take n c.columns.params) ≡ take n c.args.columns.now) all c.columns.invariant.1 in
    runs_bound c.run.result c.args.sql.now (state g.S.Store c.args.tx.now.conn.now) (state g.S.Store c.run.new.tx.conn.now) c.columns.params c.args.columns.now done (c.run.ensures.ran clean inside)
