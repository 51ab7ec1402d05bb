-- Changes that shift nothing: of what is for sale, or none at all.
use Rattle.std.proofs.Common.{◌≡◌, ℕ, [], refl}
use Rattle.model_catalogue.specs.CatalogueLists.{CatalogueLists}
use Rattle.model_rows.specs.Lists.{Lists}
use Rattle.model_rows.specs.Usage.{usage_of, blocked_by}
use Rattle.book_tally.specs.declared.deltas.CountDeltas.{CountDeltas}
use Rattle.book_tally.specs.CountDeltas.{AreCountDeltas}

-- no shifts are right where nothing but what is for sale changed
pub unshifted : (lists : Lists) (catalogue : CatalogueLists) (at : ℕ) (deltas : CountDeltas) → deltas.quotas.items ≡ [] → deltas.vouchers.items ≡ [] → AreCountDeltas lists (record lists { catalogue = catalogue }) at deltas
unfolding usage_of blocked_by
unshifted lists catalogue at deltas none gone = record {
  quotas = λ q stood. rw none refl;
  vouchers = λ v. rw gone refl;
  spent = λ v. rw gone refl;
  stands = λ v. rw gone refl;
  quota_order = rw none tt;
  voucher_order = rw gone tt;
}

-- nor do they tell anything where nothing changed
pub unchanged : (lists : Lists) (at : ℕ) (deltas : CountDeltas) → deltas.quotas.items ≡ [] → deltas.vouchers.items ≡ [] → AreCountDeltas lists lists at deltas
unchanged lists at deltas none gone = unshifted lists lists.catalogue at deltas none gone
