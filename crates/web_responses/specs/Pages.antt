-- A page of a list, and the paths of the pages beside it.
use Rattle.std.specs.Prelude.{ℕ, ◌+◌, ◌-◌, ◌*◌, List, ◌++◌, map, nat_lt, if◌then◌else◌, codes}
use Rattle.std.specs.Fmt.{decimal}
use Rattle.serde_json.specs.Data.{Data, string, null, object, Members, member, no_members}
use Rattle.model_commands.specs.declared.requests.Resource.{Resource}
use Rattle.model_commands.specs.declared.requests.Resource.TheVariants.{Items, Quotas, Vouchers, Carts, Orders, WaitingEntries, CheckinLists, Tickets}
use Rattle.model_commands.specs.declared.replies.Page.{Page}
use Rattle.web_json.specs.Values.{count, list}
use Rattle.web_json.specs.Rows.{shown_body}

-- the part of a list's path that is its own; the positions of a check-in list stand under its number
abbrev pub resource_path : Resource → List ℕ
resource_path Items = codes "/items/"
resource_path Quotas = codes "/quotas/"
resource_path Vouchers = codes "/vouchers/"
resource_path Carts = codes "/cartpositions/"
resource_path Orders = codes "/orders/"
resource_path WaitingEntries = codes "/waitinglistentries/"
resource_path CheckinLists = codes "/checkinlists/"
resource_path (Tickets door) = codes "/checkinlists/" ++ decimal door ++ codes "/positions/"

-- the path of a page: that of the list, and its number
unfoldable pub page_path : List ℕ → List ℕ → Resource → ℕ → List ℕ
page_path organizer event resource number =
    codes "/api/v1/organizers/" ++ organizer ++ codes "/events/" ++ event ++ resource_path resource ++ codes "?page=" ++ decimal number

-- the next page, if rows are left for it
abbrev pub next_path : List ℕ → List ℕ → Page → Data
next_path organizer event page = if nat_lt (page.number * 50) page.count then string (page_path organizer event page.resource (page.number + 1)) else null

-- the page before it, if there is one
abbrev pub previous_path : List ℕ → List ℕ → Page → Data
previous_path organizer event page = if nat_lt 1 page.number then string (page_path organizer event page.resource (page.number - 1)) else null

-- how many rows the list has, and the pages beside this one, before the rest
abbrev pub page_members : List ℕ → List ℕ → Page → Members → Members
page_members organizer event page rest =
    member (codes "count") (count page.count)
    (member (codes "next") (next_path organizer event page)
    (member (codes "previous") (previous_path organizer event page)
    rest))

-- `{"count":N,"next":P,"previous":P,"results":[..]}`, with the rows of this page alone
abbrev pub page_body : List ℕ → List ℕ → Page → Data
page_body organizer event page = object (page_members organizer event page (member (codes "results") (list (map shown_body page.rows)) no_members))
