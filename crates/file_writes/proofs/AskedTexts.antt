-- Each text of each table asks for its command.
use Rattle.std.proofs.Common.{refl}
use Rattle.sqlite_tied.specs.Compute.{everything}
use Rattle.sqlite.specs.Listing.{understood}
use Rattle.file_schema.specs.Descriptions.{order_positions, quota_items}
use Rattle.file_writes.specs.Asked.{IsAsked}

pub order_positions_asked : IsAsked order_positions 9
unfolding understood everything
order_positions_asked = record { plain = record { placed = refl; uncounted = refl; unstamped = refl; restricts = refl }; inserts = (refl, (refl, refl)); updates = (refl, (refl, refl)); removes = (refl, (refl, refl)) }

pub quota_items_asked : IsAsked quota_items 4
unfolding understood everything
quota_items_asked = record { plain = record { placed = refl; uncounted = refl; unstamped = refl; restricts = refl }; inserts = (refl, (refl, refl)); updates = (refl, (refl, refl)); removes = (refl, (refl, refl)) }
