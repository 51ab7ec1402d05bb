-- Values that were read are what their types promise.
use Rattle.std.proofs.Common.{◌≡◌, ℕ, slice_index_or, List, Option, Some, None, IfSome}
use Rattle.std.specs.List.{All}
use Rattle.std.specs.Str.{IsUtf8}
use Rattle.file_schema.specs.Tables.{this_version}
use Rattle.file_rows.specs.declared.rows.QuotaRow.{QuotaRow}
use Rattle.file_rows.specs.declared.rows.VoucherRow.{VoucherRow}
use Rattle.file_rows.specs.declared.rows.ListRow.{ListRow}
use Rattle.file_rows.specs.Fit.{IsStored, IsFitItem, IsFitVariation, IsFitQuota, IsFitVoucher, IsFitCart, IsFitOrder, IsFitPosition, IsFitWaiting, IsFitList, IsFitCheckin}
use Rattle.file_rows.specs.Tables.{Tables}
use Rattle.file_meaning.specs.Typed.{IsTypedItem, IsTypedVariation, IsTypedVoucher, IsTypedCart, IsTypedOrder, IsTypedPosition, IsTypedWaiting, IsTypedCheckin, AreTyped, AreBelowNext, IsTypedShop}
use Rattle.file_scan.specs.declared.file.FileTables.{FileTables}
use Rattle.file_scan.specs.Fits.{IsFitFile}
use Rattle.file_scan.specs.Lawful.{AreFitAt}
use Rattle.file_scan.specs.Read.{tables_of}
use Rattle.file_scan.proofs.FitLemmas.{fit_read}

-- what follows of each
each : {T : Type 0} (P Q : T → Type 0) → ((x : T) → P x → Q x) → (xs : List T) → All P xs → All Q xs
each P Q f xs h k d lt = f (slice_index_or xs k d) (h k d lt)

some_utf8 : (o : Option (List ℕ)) → IfSome o IsStored → IfSome o IsUtf8
some_utf8 None h = tt
some_utf8 (Some t) h = h.utf8

pub fit_typed : {own : ℕ} (t : Tables) → AreFitAt own t → AreTyped t
fit_typed t fit = record {
  items = each IsFitItem IsTypedItem (λ w h. h.name.utf8) t.items fit.items;
  variations = each IsFitVariation IsTypedVariation (λ w h. h.name.utf8) t.variations fit.variations;
  quotas = each IsFitQuota (λ (w : QuotaRow). IsUtf8 w.name) (λ w h. h.name.utf8) t.quotas fit.quotas;
  vouchers = each IsFitVoucher (λ (w : VoucherRow). IsTypedVoucher w.voucher) (λ w h. (h.code.utf8, h.tag.utf8, h.comment.utf8)) t.vouchers fit.vouchers;
  carts = each IsFitCart IsTypedCart (λ w h. h.cart_id.utf8) t.carts fit.carts;
  orders = each IsFitOrder IsTypedOrder (λ w h. some_utf8 w.email h.email) t.orders fit.orders;
  positions = each IsFitPosition IsTypedPosition (λ w h. (h.positionid, h.secret.utf8)) t.positions fit.positions;
  waiting = each IsFitWaiting IsTypedWaiting (λ w h. h.email.utf8) t.waiting fit.waiting;
  checkin_lists = each IsFitList (λ (w : ListRow). IsUtf8 w.name) (λ w h. h.name.utf8) t.checkin_lists fit.checkin_lists;
  checkins = each IsFitCheckin IsTypedCheckin (λ w h. some_utf8 w.nonce h.nonce) t.checkins fit.checkins;
  tokens = fit.tokens;
  kept = fit.kept;
}

pub typed_read : (file : FileTables) → file.shop.version ≡ this_version → IsFitFile file → AreBelowNext file.shop file.tables.others.tokens.items → IsTypedShop file.shop (tables_of file)
typed_read file first fit numbered = record {
  first = first;
  organizer = fit.shop.organizer;
  event = fit.shop.event;
  token = fit.ids.token;
  numbered = numbered;
  rows = fit_typed (tables_of file) (fit_read file first fit);
}
