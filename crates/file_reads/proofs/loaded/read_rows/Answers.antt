use Rattle.std.proofs.Common.{◌≡◌, ◌<◌, length, slice_index_or, rules}
use Rattle.file_rows.proofs.UnreadLemmas.{unread}
use Rattle.file_reads.proofs.loaded.read_rows.Goals as goal

pub returns-in-Err-clause-refused : goal.returns-in-Err-clause-refused
returns-in-Err-clause-refused g c =
    let within : c.rows.row-index < length c.args.rows.now = search rules in
    let here : slice_index_or c.args.rows.now c.rows.row-index c.row-item.result ≡ c.row-item.result = search rules in
    unread _ _ (λ bad. (c.row-item.result, (c.rows.row-index, within, here), bad)) c.in-Err.error c.in-Err.ensures.refused
