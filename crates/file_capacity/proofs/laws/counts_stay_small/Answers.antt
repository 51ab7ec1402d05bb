use Rattle.file_capacity.proofs.BoundLemmas.{quota_bounded, voucher_bounded, spent_bounded}
use Rattle.file_capacity.proofs.laws.counts_stay_small.Goals as goal

pub returns-clause-quotas : goal.returns-clause-quotas
returns-clause-quotas c = quota_bounded

pub returns-clause-vouchers : goal.returns-clause-vouchers
returns-clause-vouchers c = voucher_bounded

pub returns-clause-spents : goal.returns-clause-spents
returns-clause-spents c = spent_bounded
