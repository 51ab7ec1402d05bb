use Rattle.std.proofs.Common.{◌≡◌, ◌++◌, drop}
use Rattle.std.specs.List.{filter_map}
use Rattle.file_check.specs.Keys.{nonce_key}
use Rattle.file_check.proofs.keys.nonce_keys.Given as goal

abbrev pub invariant-loop-row : goal.invariant-loop-row
invariant-loop-row l = l.keys.items ++ filter_map nonce_key (drop l.row-index l.rows) ≡ filter_map nonce_key l.rows
