-- No table has more rows than it may.
use Rattle.std.specs.Prelude.{◌≤◌, length}
use Rattle.base_values.specs.Codes.{last_order}
use Rattle.model_catalogue.specs.Limits.{most_rows}
use Rattle.model_rows.specs.Lists.{Lists}
use Rattle.model_invariant.specs.Ids.{EachTable}

-- 1,000,000 rows, and as many orders as there are codes for them
abbrev pub AllFew : Lists → Type 0
AllFew lists =
    EachTable
    (length lists.catalogue.items ≤ most_rows)
    (length lists.catalogue.variations ≤ most_rows)
    (length lists.catalogue.quotas ≤ most_rows)
    (length lists.vouchers ≤ most_rows)
    (length lists.carts ≤ most_rows)
    (length lists.orders ≤ last_order)
    (length lists.positions ≤ most_rows)
    (length lists.waiting ≤ most_rows)
    (length lists.checkin_lists ≤ most_rows)
    (length lists.checkins ≤ most_rows)
