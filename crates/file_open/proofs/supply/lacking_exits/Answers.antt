use Rattle.std.proofs.Common.{◌∙◌, sym, arith}
use Rattle.file_scan.proofs.ReadLemmas.{if_ok}
use Rattle.file_open.proofs.Supplied.{exits_lacking}
use Rattle.file_open.proofs.supply.lacking_exits.Goals as goal

pub returns-then-own-lt2 : goal.returns-then-own-lt2
returns-then-own-lt2 c = if_ok c.none_out.result _ _ c.none_out.ensures (λ exits is. is ∙ sym (exits_lacking c.args.own (omega (arith, c.if-own-lt2.true)) c.args.counts.now))
