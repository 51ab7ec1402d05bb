use Rattle.std.proofs.Common.{◌≡◌, drop, map}
use Rattle.csv.specs.Records.{fields_of}
use Rattle.app_csv.specs.VoucherFile.{behind, lines_read}
use Rattle.app_csv.proofs.voucher_file.lines_read.Given as goal

-- the vouchers so far, and those of the lines that are left
abbrev pub invariant-loop-line : goal.invariant-loop-line
invariant-loop-line l = (behind l.vouchers.items (lines_read l.earlier (map fields_of (drop l.line-index l.lines))) ≡ lines_read 0 (map fields_of l.lines))
