use Rattle.std.proofs.Common.{refl}
use Rattle.file_meaning.proofs.Carried.{carried}
use Rattle.file_meaning.proofs.laws.a_commit_carries.Goals as goal

pub returns : goal.returns
returns c = λ old shop changes counts from answer t state answers number rising first right stand free. carried old shop changes counts from shop.moment answer refl number rising first t state answers right stand free
