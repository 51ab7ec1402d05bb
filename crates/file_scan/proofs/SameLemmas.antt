-- What was read, beside what tables hold that the same trees show.
use Rattle.std.proofs.lemmas.List.Sorted.{IsPermutation-sym}
use Rattle.sqlite_trees.specs.Tree.{Trees}
use Rattle.sqlite.proofs.Callers.{one_permutation}
use Rattle.file_rows.specs.Rows.{shop_row, item_row, variation_row, quota_row, quota_item_row, quota_variation_row, voucher_row, cart_row, order_row, position_row, waiting_row, list_row, list_item_row, checkin_row, count_row, token_row, kept_row, release_row, exit_row, budget_row, spent_row, discount_row}
use Rattle.file_rows.specs.Tables.{Tables, Holds}
use Rattle.file_reads.proofs.Back.{alike, shop_in, shop_back, item_in, item_back, variation_in, variation_back, quota_in, quota_back, quota_item_in, quota_item_back, quota_variation_in, quota_variation_back, voucher_in, voucher_back, cart_in, cart_back, order_in, order_back, position_in, position_back, waiting_in, waiting_back}
use Rattle.file_reads.proofs.Back.{list_in, list_back, list_item_in, list_item_back, checkin_in, checkin_back, count_in, count_back, token_in, token_back, kept_in, kept_back, release_in, release_back, exit_in, exit_back, budget_in, budget_back, spent_in, spent_back, discount_in, discount_back}
use Rattle.file_scan.specs.declared.file.FileTables.{FileTables}
use Rattle.file_scan.specs.Read.{IsFileOf, tables_of}

-- what was read is what tables hold, in some order
pub file_of : (db : Trees) (t : Tables) (file : FileTables) → Holds db t → Holds db (tables_of file) → IsFileOf t file
file_of db t file h k =
    let u = tables_of file in
    record {
      shop = one_permutation file.shop t.shop (IsPermutation-sym _ _ (alike shop_row shop_in shop_back t.shop u.shop _ h.0 k.0));
      tables = record {
        catalogue = record {
          items = alike item_row item_in item_back t.items u.items _ h.1.0 k.1.0;
          variations = alike variation_row variation_in variation_back t.variations u.variations _ h.1.1.0 k.1.1.0;
          quotas = alike quota_row quota_in quota_back t.quotas u.quotas _ h.1.1.1.0 k.1.1.1.0;
          quota_items = alike quota_item_row quota_item_in quota_item_back t.quota_items u.quota_items _ h.1.1.1.1.0 k.1.1.1.1.0;
          quota_variations = alike quota_variation_row quota_variation_in quota_variation_back t.quota_variations u.quota_variations _ h.1.1.1.1.1.0 k.1.1.1.1.1.0;
          releases = alike release_row release_in release_back t.releases u.releases _ h.1.1.1.1.1.1.1.1.1.1.1.1.1.1.1.1.1.0 k.1.1.1.1.1.1.1.1.1.1.1.1.1.1.1.1.1.0;
        };
        sales = record {
          vouchers = alike voucher_row voucher_in voucher_back t.vouchers u.vouchers _ h.1.1.1.1.1.1.0 k.1.1.1.1.1.1.0;
          carts = alike cart_row cart_in cart_back t.carts u.carts _ h.1.1.1.1.1.1.1.0 k.1.1.1.1.1.1.1.0;
          orders = alike order_row order_in order_back t.orders u.orders _ h.1.1.1.1.1.1.1.1.0 k.1.1.1.1.1.1.1.1.0;
          positions = alike position_row position_in position_back t.positions u.positions _ h.1.1.1.1.1.1.1.1.1.0 k.1.1.1.1.1.1.1.1.1.0;
          waiting = alike waiting_row waiting_in waiting_back t.waiting u.waiting _ h.1.1.1.1.1.1.1.1.1.1.0 k.1.1.1.1.1.1.1.1.1.1.0;
          budgets = alike budget_row budget_in budget_back t.budgets u.budgets _ h.1.1.1.1.1.1.1.1.1.1.1.1.1.1.1.1.1.1.1.0 k.1.1.1.1.1.1.1.1.1.1.1.1.1.1.1.1.1.1.1.0;
          discounts = alike discount_row discount_in discount_back t.discounts u.discounts _ h.1.1.1.1.1.1.1.1.1.1.1.1.1.1.1.1.1.1.1.1.1.0 k.1.1.1.1.1.1.1.1.1.1.1.1.1.1.1.1.1.1.1.1.1.0;
        };
        doors = record {
          checkin_lists = alike list_row list_in list_back t.checkin_lists u.checkin_lists _ h.1.1.1.1.1.1.1.1.1.1.1.0 k.1.1.1.1.1.1.1.1.1.1.1.0;
          list_items = alike list_item_row list_item_in list_item_back t.list_items u.list_items _ h.1.1.1.1.1.1.1.1.1.1.1.1.0 k.1.1.1.1.1.1.1.1.1.1.1.1.0;
          checkins = alike checkin_row checkin_in checkin_back t.checkins u.checkins _ h.1.1.1.1.1.1.1.1.1.1.1.1.1.0 k.1.1.1.1.1.1.1.1.1.1.1.1.1.0;
        };
        others = record {
          counts = alike count_row count_in count_back t.counts u.counts _ h.1.1.1.1.1.1.1.1.1.1.1.1.1.1.0 k.1.1.1.1.1.1.1.1.1.1.1.1.1.1.0;
          tokens = alike token_row token_in token_back t.tokens u.tokens _ h.1.1.1.1.1.1.1.1.1.1.1.1.1.1.1.0 k.1.1.1.1.1.1.1.1.1.1.1.1.1.1.1.0;
          kept = alike kept_row kept_in kept_back t.kept u.kept _ h.1.1.1.1.1.1.1.1.1.1.1.1.1.1.1.1.0 k.1.1.1.1.1.1.1.1.1.1.1.1.1.1.1.1.0;
          exits = alike exit_row exit_in exit_back t.exits u.exits _ h.1.1.1.1.1.1.1.1.1.1.1.1.1.1.1.1.1.1.0 k.1.1.1.1.1.1.1.1.1.1.1.1.1.1.1.1.1.1.0;
          spents = alike spent_row spent_in spent_back t.spents u.spents _ h.1.1.1.1.1.1.1.1.1.1.1.1.1.1.1.1.1.1.1.1.0 k.1.1.1.1.1.1.1.1.1.1.1.1.1.1.1.1.1.1.1.1.0;
        };
      };
    }
