-- Entries of the waiting list, and what periodic work did, as JSON, each with its members in byte order.
use Rattle.std.specs.Prelude.{codes}
use Rattle.serde_json.specs.Data.{Data, string, object, member, no_members}
use Rattle.model_rows.specs.declared.rows.Waiting.{Waiting}
use Rattle.model_commands.specs.declared.waiting.PeriodicCounts.{PeriodicCounts}
use Rattle.web_json.specs.Values.{count, count_or_null, integer, moment}

-- an entry, with the ids of the item and of the variation that it waits for, and of the voucher that it was sent
abbrev pub waiting_body : Waiting → Data
waiting_body entry = object (
    member (codes "created") (moment entry.created)
    (member (codes "email") (string entry.email)
    (member (codes "id") (count entry.id)
    (member (codes "item") (count entry.product.item)
    (member (codes "priority") (integer entry.priority)
    (member (codes "variation") (count_or_null entry.product.variation)
    (member (codes "voucher") (count_or_null entry.voucher)
    no_members)))))))

-- how many cart positions were deleted, how many orders expired, and how many entries were sent a voucher
abbrev pub periodic_body : PeriodicCounts → Data
periodic_body counts = object (
    member (codes "deleted") (count counts.deleted)
    (member (codes "expired") (count counts.expired)
    (member (codes "sent") (count counts.sent)
    no_members)))
