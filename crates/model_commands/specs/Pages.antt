-- Pages of lists.
use Rattle.std.specs.Prelude.{ℕ, ◌+◌, ◌-◌, ◌*◌, ◌/◌, max, Bool, ◌&&◌, nat_le, List, take, drop, map, length, if◌then◌else◌}
use Rattle.model_commands.specs.declared.requests.Resource.{Resource}
use Rattle.model_commands.specs.declared.requests.Kind.TheVariants as kinds
use Rattle.model_commands.specs.declared.replies.Refusal.TheVariants.{NoPage}
use Rattle.model_commands.specs.declared.replies.Reply.{Reply}
use Rattle.model_commands.specs.declared.replies.Reply.TheVariants.{Listed, Refused}
use Rattle.model_commands.specs.declared.replies.Shown.{Shown}

-- an empty list has one page, and any other as many as its rows fill, 50 each
abbrev pub page_count : ℕ → ℕ
page_count count = max 1 ((count + 49) / 50)

-- pages count from 1
abbrev pub is_page : ℕ → ℕ → Bool
is_page number count = nat_le 1 number && nat_le number (page_count count)

-- the rows on the page of this number: 50 of them, or what is left of them on the last page
abbrev pub page_rows : {T : Type 0} → ℕ → List T → List T
page_rows number rows = take 50 (drop ((number - 1) * 50) rows)

-- the page of that number, with each row as it is shown
abbrev pub page_listed : {T : Type 0} → Resource → (T → Shown) → ℕ → List T → Reply
page_listed resource show number rows =
    if is_page number (length rows) then Listed (record { resource = resource; number = number; count = length rows; rows = map show (page_rows number rows) })
    else Refused kinds.List NoPage
