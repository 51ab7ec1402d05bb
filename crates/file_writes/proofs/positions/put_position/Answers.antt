use Rattle.std.proofs.Common.{Ok, sym, arith, rules}
use Rattle.sqlite.specs.Held.{state}
use Rattle.sqlite.specs.State.{HasCleanDisk, Executes}
use Rattle.file_rows.specs.Rows.{position_row}
use Rattle.file_rows.specs.Changes.{head_of_position, with_position, without_position}
use Rattle.file_writes.proofs.Rows.{then_changes, inside_after}
use Rattle.file_writes.proofs.PositionsLemmas.{put_update_text, missed, put_one, none_stands, one_stands}
use Rattle.file_writes.proofs.positions.put_position.Goals as goal

pub returns-in_ok-insert-in-0-clause-written : goal.returns-in_ok-insert-in-0-clause-written
returns-in_ok-insert-in-0-clause-written g c clean at =
    let old = state g.S.Store c.args.tx.now.conn.now in
    let mid = state g.S.Store c.run.new.tx.conn.now in
    let new = state g.S.Store c.insert.new.tx.conn.now in
    let row = c.args.row.now in
    let count = c.in_ok-count.count in
    let early : HasCleanDisk mid = omega (arith, c.insert.ensures.inside.crash.clean) in
    let ran : Executes put_update_text (position_row (head_of_position row)) old mid (Ok count) = c.in_ok-count.ensures.ran early at.inside in
    let gone = missed old mid at c.run.ensures.inside.crash.limit row count ran (search rules) in
    then_changes (without_position row.id) (with_position row) old mid new gone (c.in_ok-insert-in-0.ensures.written clean (inside_after (without_position row.id) old mid gone))

pub returns-in_ok-insert-in-0-clause-told : goal.returns-in_ok-insert-in-0-clause-told
returns-in_ok-insert-in-0-clause-told g c clean at =
    let old = state g.S.Store c.args.tx.now.conn.now in
    let mid = state g.S.Store c.run.new.tx.conn.now in
    let row = c.args.row.now in
    let count = c.in_ok-count.count in
    let early : HasCleanDisk mid = omega (arith, c.insert.ensures.inside.crash.clean) in
    let ran : Executes put_update_text (position_row (head_of_position row)) old mid (Ok count) = c.in_ok-count.ensures.ran early at.inside in
    λ t held. sym (none_stands old mid at c.run.ensures.inside.crash.limit row count ran (search rules) t held)

pub returns-in-1-clause-written : goal.returns-in-1-clause-written
returns-in-1-clause-written g c clean at =
    let old = state g.S.Store c.args.tx.now.conn.now in
    let new = state g.S.Store c.run.new.tx.conn.now in
    let row = c.args.row.now in
    let count = c.in_ok-count.count in
    let ran : Executes put_update_text (position_row (head_of_position row)) old new (Ok count) = c.in_ok-count.ensures.ran clean at.inside in
    put_one old new at c.run.ensures.inside.crash.limit row count ran (search rules)

pub returns-in-1-clause-told : goal.returns-in-1-clause-told
returns-in-1-clause-told g c clean at =
    let old = state g.S.Store c.args.tx.now.conn.now in
    let new = state g.S.Store c.run.new.tx.conn.now in
    let row = c.args.row.now in
    let count = c.in_ok-count.count in
    let ran : Executes put_update_text (position_row (head_of_position row)) old new (Ok count) = c.in_ok-count.ensures.ran clean at.inside in
    λ t held. sym (one_stands old new at c.run.ensures.inside.crash.limit row count ran (search rules) t held)
