use Rattle.decide_waiting.proofs.SentTexts.{tag_text}
use Rattle.decide_waiting.proofs.sending.new_voucher.Goals as goal

pub copy_of-requires : goal.copy_of-requires
copy_of-requires g c = tag_text
