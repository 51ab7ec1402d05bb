-- A shop's file that begins.
use Rattle.std.proofs.Common.{◌≡◌, ℕ, List, [], true, refl, ap, ◌∙◌, arith, Result, Ok, Err, OnOk, IfOk}
use Rattle.std.proofs.lemmas.List.Sorted.{IsPermutation-refl}
use Rattle.sqlite.specs.Effect.{IsDatabase}
use Rattle.sqlite.specs.State.{State as Connected, HasCleanDisk, Survives}
use Rattle.file_schema.specs.Tables.{schema}
use Rattle.model_rows.specs.Lists.{State, empty, first_ids}
use Rattle.model_answers.specs.declared.kept.Kept.{Kept}
use Rattle.file_rows.specs.declared.rows.ShopRow.{ShopRow}
use Rattle.file_rows.specs.declared.rows.Token.{Token}
use Rattle.file_rows.specs.Changes.{IsInside, Changes, with_shop, without_shop, with_token}
use Rattle.file_rows.specs.Tables.{Tables}
pub use Rattle.file_writes.proofs.Rows.{inside_after}
use Rattle.file_meaning.specs.Free.{IsFree}
use Rattle.file_meaning.specs.Stands.{Stand}
use Rattle.file_tables.specs.Begun.{first_tables, token_added, HasToken}

pub inside_known : (s : Connected) → s.in_transaction ≡ true → s.now.schema ≡ schema → IsInside s
inside_known s inside known = record { known = known; inside = inside }

pub before : (old new : Connected) → Survives old new (λ _. ⊥) → HasCleanDisk new → HasCleanDisk old
before old new s clean = omega (arith, s.clean)

-- the shop's row is put, and then a token
pub has_token : {T E : Type 0} (r : Result T E) (shop : ShopRow) (token : Token) (old mid new : Connected) → IsDatabase old.now → Changes (λ t. with_shop shop (without_shop 1 t)) old mid → OnOk r (Changes (with_token token) mid new)
    → IfOk r (λ _. (new.in_transaction ≡ true) × HasToken shop token old.now new.now × IsDatabase new.now)
has_token (Ok x) shop token old mid new listed a b = (b.inside, record { known = b.known; holds = λ t held. b.holds (with_shop shop (without_shop 1 t)) (a.holds t held) }, b.listed (a.listed listed))
has_token (Err e) shop token old mid new listed a b = tt

-- ---- laws

pub begins_empty : (shop : ShopRow) → shop.moment ≡ 0 → shop.next ≡ first_ids → Stand shop (first_tables shop) empty []
begins_empty shop moment next = record {
  shop_is = refl;
  moment = moment;
  next = next;
  rows = record {
    items = IsPermutation-refl [];
    variations = IsPermutation-refl [];
    quotas = IsPermutation-refl [];
    quota_items = IsPermutation-refl [];
    quota_variations = IsPermutation-refl [];
    quota_release = IsPermutation-refl [];
    vouchers = IsPermutation-refl [];
    voucher_budget = IsPermutation-refl [];
    carts = IsPermutation-refl [];
    orders = IsPermutation-refl [];
    positions = IsPermutation-refl [];
    position_discount = IsPermutation-refl [];
    waiting = IsPermutation-refl [];
    checkin_lists = IsPermutation-refl [];
    list_items = IsPermutation-refl [];
    checkins = IsPermutation-refl [];
  };
  ordered = record {
    ids = record { items = tt; variations = tt; quotas = tt; vouchers = tt; carts = tt; orders = tt; positions = tt; waiting = tt; checkin_lists = tt; checkins = tt };
    members = tt;
    limits = tt;
  };
  used = IsPermutation-refl [];
  exits = IsPermutation-refl [];
  redeemed = IsPermutation-refl [];
  spents = IsPermutation-refl [];
  kept = IsPermutation-refl [];
}

pub begins_free : (shop : ShopRow) (number : ℕ) → IsFree number (first_tables shop)
begins_free shop number = record { quota_items = record { apart = tt; below = tt }; quota_variations = record { apart = tt; below = tt }; list_items = record { apart = tt; below = tt }; kept = record { apart = tt; below = tt } }

pub token_stands : (old shop : ShopRow) (token : Token) (t : Tables) (state : State) (answers : List Kept) → shop.moment ≡ old.moment → shop.next ≡ old.next → Stand old t state answers → Stand shop (token_added shop token t) state answers
token_stands old shop token t state answers moment next h = record {
  shop_is = ap (λ (l : List ShopRow). (with_shop shop (without_shop 1 (record t { shop = l }))).shop) h.shop_is;
  moment = moment ∙ h.moment;
  next = next ∙ h.next;
  rows = h.rows;
  ordered = h.ordered;
  used = h.used;
  exits = h.exits;
  redeemed = h.redeemed;
  spents = h.spents;
  kept = h.kept;
}

pub token_free : (shop : ShopRow) (token : Token) (t : Tables) (number : ℕ) → IsFree number t → IsFree number (token_added shop token t)
token_free shop token t number h = record { quota_items = h.quota_items; quota_variations = h.quota_variations; list_items = h.list_items; kept = h.kept }
