use Rattle.sqlite.specs.Held.{state}
use Rattle.file_reads.proofs.Queries.{query_reads}
use Rattle.app_export.proofs.Asked.{joined_text, only_asks}
use Rattle.app_export.proofs.Fitting.{refused_so, stopped_so}
use Rattle.app_export.proofs.Streamed.{handed, broken, some_of}
use Rattle.app_export.proofs.positions.stream_positions.Goals as goal

pub each_row-requires-clause-reads : goal.each_row-requires-clause-reads
each_row-requires-clause-reads g c = query_reads joined_text only_asks

pub returns-in-Ok-taken-clause-all : goal.returns-in-Ok-taken-clause-all
returns-in-Ok-taken-clause-all g c =
    handed (λ w. w.sink) g.K.Sink.takes g.K.Sink.refuses (state g.S.Store c.args.conn.now) (state g.S.Store c.each_row.new.conn) c.args.walk.now c.each_row.new.taker (rw c.in-Ok-taken.is at c.in-Ok.ensures.whole)

pub returns-in-Err-clause-some : goal.returns-in-Err-clause-some
returns-in-Err-clause-some g c =
    broken (λ w. w.sink) g.K.Sink.takes g.K.Sink.refuses (state g.S.Store c.args.conn.now) (state g.S.Store c.each_row.new.conn) c.args.walk.now c.each_row.new.taker c.in-Err.ensures.broken

pub returns-in-Err-taken-clause-some : goal.returns-in-Err-taken-clause-some
returns-in-Err-taken-clause-some g c =
    some_of (λ w. w.sink) g.K.Sink.takes g.K.Sink.refuses (state g.S.Store c.args.conn.now) (state g.S.Store c.each_row.new.conn) c.args.walk.now c.each_row.new.taker c.in-Err-taken.fault (rw c.in-Err-taken.is at c.in-Ok.ensures.stopped)

pub returns-in-Err-clause-cause : goal.returns-in-Err-clause-cause
returns-in-Err-clause-cause g c = refused_so (state g.S.Store c.args.conn.now) (state g.S.Store c.each_row.new.conn) c.in-Err.error c.in-Err.ensures.refused

pub returns-in-Err-taken-clause-cause : goal.returns-in-Err-taken-clause-cause
returns-in-Err-taken-clause-cause g c =
    stopped_so (λ w. w.sink) _ g.K.Sink.refuses (state g.S.Store c.args.conn.now) (state g.S.Store c.each_row.new.conn) c.args.walk.now c.each_row.new.taker c.in-Err-taken.fault (rw c.in-Err-taken.is at c.in-Ok.ensures.stopped)
