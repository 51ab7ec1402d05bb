use Rattle.std.proofs.Common.{◌∙◌, sym, arith}
use Rattle.file_scan.proofs.ReadLemmas.{if_ok}
use Rattle.file_open.proofs.Supplied.{spents_lacking}
use Rattle.file_open.proofs.supply.lacking_spents.Goals as goal

pub returns-then-own-lt3 : goal.returns-then-own-lt3
returns-then-own-lt3 c = if_ok c.none_spent.result _ _ c.none_spent.ensures (λ spents is. is ∙ sym (spents_lacking c.args.own (omega (arith, c.if-own-lt3.true)) c.args.vouchers.now))
