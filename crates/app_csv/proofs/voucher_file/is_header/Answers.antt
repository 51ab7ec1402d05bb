use Rattle.std.proofs.Common.{refl}
use Rattle.app_csv.proofs.voucher_file.is_header.Goals as goal

pub returns : goal.returns
returns c = rw (c.len.ensures, c.names_four.ensures, c.names_four-2.ensures, c.names_four-3.ensures) refl
