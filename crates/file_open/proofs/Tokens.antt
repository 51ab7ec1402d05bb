-- The house that is known of a file that is opened, and a token that is in or out.
use Rattle.std.proofs.Common.{◌≡◌, ◌+◌, ℕ, List, [], ◌∷◌, ap, sym, subst, ◌∙◌}
use Rattle.sqlite_trees.specs.Tree.{Trees}
use Rattle.sqlite.specs.State.{State as Connected}
use Rattle.file_schema.specs.Tables.{schema}
use Rattle.model_rows.specs.Lists.{State}
use Rattle.model_answers.specs.House.{House}
use Rattle.file_rows.specs.declared.rows.ShopRow.{ShopRow}
use Rattle.file_rows.specs.Tables.{Holds}
use Rattle.file_schema.specs.Whole.{MayBeWritten}
use Rattle.file_tables.specs.Begun.{HasToken, token_added}
use Rattle.file_tables.specs.Shops.{IsOfHouse, Knows, Tells, house_of_rows}
use Rattle.file_tables.specs.Tokens.{house_with, token_raised, next_one}
use Rattle.file_tables.proofs.Added.{added_tells}
use Rattle.file_tables.proofs.Told.{shop_again}
use Rattle.file_open.specs.Opened.{IsOpened}

-- tables that are opened of trees which tell a house know it, and have its names
pub known_as : (db : Trees) (row head : ShopRow) (next : ℕ) (z : State) (c : Connected) (house : House) → Tells db row house → IsOpened db head next z c
    → IsOfHouse head next c house × (head.organizer ≡ house.organizer) × (head.event ≡ house.event)
known_as db row head next z c house tells o =
    let u = tells.tables in
    let mine = shop_again db o.tables u o.held tells.held head o.stand.shop_is in
    let both : row ∷ [] ≡ head ∷ [] = sym tells.shop_is ∙ mine in
    let same : row ≡ head = cc in
    let is : house ≡ house_of_rows head u.tokens = tells.told ∙ ap (λ (h : ShopRow). house_of_rows h u.tokens) same in
    (subst (IsOfHouse head next c) (sym is) (o.knows u tells.held), ap (λ (h : House). h.organizer) (sym is), ap (λ (h : House). h.event) (sym is))

pub token_out : (head : ShopRow) (next : ℕ) (old : Connected) (db : Trees) (house : House) → db ≡ old.now.trees → Knows head next old.now house → Tells db head house
token_out head next old db house is knows = subst (λ d. Tells d head house) (sym is) knows.tells

pub token_in : (head : ShopRow) (digest : List ℕ) (next : ℕ) (old : Connected) (db : Trees) (house : House) → MayBeWritten schema (λ (_ : Unit {0}). HasToken (token_raised head) (next_one head digest)) old db → Knows head next old.now house
    → Tells db (token_raised head) (house_with digest head.next_token (head.next_token + 1) house)
token_in head digest next old db house may knows =
    let t = knows.tells.tables in
    added_tells head digest next old old db house t knows.tells.shop_is knows.tells.told
    (subst (λ d. Holds d (token_added (token_raised head) (next_one head digest) t)) (sym may.is) ((may.turned knows.known).holds t knows.tells.held))
