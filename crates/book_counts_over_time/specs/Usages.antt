-- What is kept of each quota and voucher: usages, and how often vouchers are redeemed.
use Rattle.std.specs.Prelude.{◌≡◌, ℕ, List, map}
use Rattle.model_rows.specs.declared.rows.Usage.{Usage}
use Rattle.model_rows.specs.Lists.{Lists}
use Rattle.model_rows.specs.Usage.{redeemed, usage_of}

-- the usages are those of the lists' quotas at a moment
abbrev pub AreUsages : Lists → ℕ → List Usage → Type 0
AreUsages lists at usages = usages ≡ map (usage_of lists at) lists.catalogue.quotas

-- the numbers are how often the lists' vouchers are redeemed
abbrev pub AreRedeemed : Lists → List ℕ → Type 0
AreRedeemed lists redeems = redeems ≡ map (λ v. redeemed v.id lists) lists.vouchers
