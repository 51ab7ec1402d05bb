-- The house of `feed`, before its first token and with it.
use Rattle.std.proofs.Common.{◌≡◌, ◌+◌, ◌∙◌, ap, ℕ, List, [], None, codes, sym, subst}
use Rattle.sqlite.specs.State.{State as Connected}
use Rattle.model_answers.specs.House.{House}
use Rattle.file_rows.specs.declared.rows.ShopRow.{ShopRow}
use Rattle.file_tables.specs.Made.{first_shop}
use Rattle.file_tables.specs.Shops.{IsOfHouse, KnowsWhileOpen, LeavesHouse, house_of_rows}
use Rattle.file_tables.specs.Tokens.{also_known, house_with, IsNumbered, token_raised}
use Rattle.app_run.specs.Opened.{bare_house, feed_digest, feed_house}

pub made_bare : (organizer event : List ℕ) (head : ShopRow) (next : ℕ) (c : Connected) → organizer ≡ codes "house" → event ≡ codes "hall"
    → IsOfHouse head next c (house_of_rows (first_shop organizer event) []) → IsOfHouse head next c bare_house
made_bare organizer event head next c a b =
    let same : house_of_rows (first_shop organizer event) [] ≡ bare_house = λ i. record { organizer = a i; event = b i; tokens = λ digest. None; next_token = 1 } in
    subst (IsOfHouse head next c) same

-- its first token has the number that was next
pub knows_feed : (head later : ShopRow) (next_row number : ℕ) (c : Connected) (digest : List ℕ) → digest ≡ feed_digest → head.next_token ≡ 1 → later ≡ token_raised head → IsNumbered None head.next_token number
    → KnowsWhileOpen later next_row c (house_with digest number later.next_token bare_house) → LeavesHouse c (house_with digest number later.next_token bare_house) → IsOfHouse later next_row c feed_house
knows_feed head later next_row number c digest is first goes_on numbered knows left =
    let one : number ≡ 1 = numbered.0 ∙ first in
    let two : later.next_token ≡ 2 = ap (λ (h : ShopRow). h.next_token) goes_on ∙ ap (λ (n : ℕ). n + 1) first in
    let same : house_with digest number later.next_token bare_house ≡ feed_house =
    λ i. record { organizer = codes "house"; event = codes "hall"; tokens = also_known (is i) (one i) (λ other. None); next_token = two i } in
    subst (IsOfHouse later next_row c) same (record { now = knows; left = left })
