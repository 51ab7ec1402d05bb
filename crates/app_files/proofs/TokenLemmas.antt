-- A token that tables got.
use Rattle.std.proofs.Common.{◌≡◌, ◌∙◌, ◌⊎◌, inl, inr, ℕ, List, Option, Some, None, Result, Ok, Err, IfOk, IfErr, OnErr, OnOk, IsTrue, Bool, true, false, ap, map, refl, sym, subst}
use Rattle.std.proofs.lemmas.Bool.{false≢true}
use Rattle.sqlite.specs.Effect.{Database}
use Rattle.sqlite_trees.specs.Tree.{Trees}
use Rattle.sqlite_trees.specs.declared.store.Store.{Ghosts}
use Rattle.sqlite.specs.declared.connection.Connection.{Connection}
use Rattle.sqlite.specs.State.{State as Connected, HasCleanDisk, Survives}
use Rattle.model_rows.specs.Lists.{State}
use Rattle.model_answers.specs.declared.kept.Kept.{Kept}
use Rattle.model_answers.specs.House.{House}
use Rattle.file_rows.specs.declared.rows.ShopRow.{ShopRow}
use Rattle.file_rows.specs.Tables.{Holds}
use Rattle.web_cli.specs.declared.fault.RunFault.{RunFault}
use Rattle.web_cli.specs.declared.fault.RunFault.TheVariants as faults
use Rattle.file_tables.specs.Begun.{HasToken, token_added}
use Rattle.file_tables.specs.Tokens.{HasNoRoom, IsNumbered, head_after, house_with, next_one, token_raised}
use Rattle.file_tables.specs.declared.error.TokenError.{TokenError}
use Rattle.file_tables.specs.declared.error.TokenError.TheVariants as tokens
use Rattle.file_scan.specs.Rests.{IsAt, IsOpenAt, Rests}
use Rattle.file_open.specs.Opened.{IsOpened}
use Rattle.file_schema.specs.Tables.{schema}
use Rattle.file_schema.specs.Whole.{IsOver, IsStill, MayBeWritten}
use Rattle.file_tables.specs.Held.{number_of}
use Rattle.file_tables.specs.Shops.{HoldsWhileOpen, IsOfHouse, KnowsWhileOpen, LeavesHouse, house_of_rows}
use Rattle.app_files.specs.Faults.{fault_of_token, told_of_token}
use Rattle.app_files.specs.Filed.{AddsTokenIn, GetsToken, HasNextToken, IsFullFor, IsOfStore, IsToldFor, KnowsToken}
use Rattle.app_files.specs.Served.{StaysUnopened}

-- what holds of a number that was given holds of one that is told
pub told_number : (added : Result ℕ TokenError) (told : Result ℕ RunFault) (P : ℕ → Type 0) → told ≡ told_of_token added → IfOk added P → IfOk told P
told_number (Ok number) told P is h = subst (λ r. IfOk r P) (sym is) h
told_number (Err error) told P is h = subst (λ r. IfOk r P) (sym is) tt

-- and what holds where none was given
pub told_none : (added : Result ℕ TokenError) (told : Result ℕ RunFault) (P : Type 0) → told ≡ told_of_token added → OnErr added P → OnErr told P
told_none (Ok number) told P is h = subst (λ r. OnErr r P) (sym is) h
told_none (Err error) told P is h = subst (λ r. OnErr r P) (sym is) h

-- 16 is told of no other refusal than that there are too many tokens
abbrev is_full : RunFault → Bool
is_full faults.Full = true
is_full _ = false

abbrev is_full_in : Result ℕ RunFault → Bool
is_full_in (Ok number) = false
is_full_in (Err fault) = is_full fault

pub told_full : (added : Result ℕ TokenError) → told_of_token added ≡ Err faults.Full → added ≡ Err tokens.Full
told_full (Ok number) is = absurd (false≢true (ap is_full_in is))
told_full (Err tokens.Full) is = refl
told_full (Err tokens.Memory) is = absurd (false≢true (ap is_full_in is))
told_full (Err tokens.Store) is = absurd (false≢true (ap is_full_in is))

-- a token is refused for want of room, or of the store alone
for_token : (error : TokenError) → (fault_of_token error ≡ faults.Full) ⊎ IsOfStore (fault_of_token error)
for_token tokens.Full = inl refl
for_token tokens.Memory = inr (inl refl)
for_token tokens.Store = inr (inr refl)

pub told_for : (added : Result ℕ TokenError) (told : Result ℕ RunFault) → told ≡ told_of_token added → IfErr told (λ fault. (fault ≡ faults.Full) ⊎ IsOfStore fault)
told_for (Ok number) told is = subst (λ r. IfErr r (λ fault. (fault ≡ faults.Full) ⊎ IsOfStore fault)) (sym is) tt
told_for (Err error) told is = subst (λ r. IfErr r (λ fault. (fault ≡ faults.Full) ⊎ IsOfStore fault)) (sym is) (for_token error)

-- so the fault has its cause, where that of want of room is known
pub cause_of : (outcome : Result ℕ RunFault) (clean : Type 0) (db : Database → Type 0) (digest : List ℕ) → IfErr outcome (λ fault. (fault ≡ faults.Full) ⊎ IsOfStore fault)
    → (outcome ≡ Err faults.Full → clean → (it : Database) → db it → it.schema ≡ schema → IsFullFor it.trees digest) → IfErr outcome (λ fault. clean → (it : Database) → db it → IsToldFor it digest fault)
cause_of (Ok number) clean db digest h full = tt
cause_of (Err fault) clean db digest (inl is) full = λ cleared it at. inr (inl (is, full (ap (λ (f : RunFault). Err f) is) cleared it at))
cause_of (Err fault) clean db digest (inr of) full = λ cleared it at. inr (inr of)

-- what is open after it was only read was open before
pub open_at : (old mid : Connected) → Rests old mid → HasCleanDisk mid → IsTrue mid.is_open → (db : Database) → IsAt db old → IsOpenAt db old
open_at old mid rests clean is_open db at = record { is_open = (rests clean is_open).was_open; now = at.now; committed = at.committed }

-- of a file that was opened, and whose tables had no room for the token
pub full_by : (db : Trees) (head : ShopRow) (next : ℕ) (office : State) (digest : List ℕ) (mid : Connected) → IsOpened db head next office mid
    → ((house : House) → KnowsWhileOpen head next mid house → HasNoRoom (house.tokens digest) head.next_token) → IsFullFor db digest
full_by db head next office digest mid o full =
    record { tables = o.tables; held = o.held; head = head; office = office; stand = o.stand; full = full (house_of_rows head o.tables.tokens) (o.knows o.tables o.held).now }

-- a file that was opened, and whose tables took no token, shows what it showed
pub stays_at : (told : Result ℕ RunFault) (db : Database) (old mid new : Connected) → Rests old mid → HasCleanDisk mid → IsTrue new.is_open → IsAt db old → db.schema ≡ schema
    → (IsOver schema mid → OnErr told (IsStill mid new)) → OnErr told (IsAt db new)
stays_at (Ok number) db old mid new rests clean is_open at known still = tt
stays_at (Err fault) db old mid new rests clean is_open at known still =
    let over : IsOver schema mid = λ was_open. ap (λ (d : Database). d.schema) ((rests clean was_open).stays db at).now ∙ known in
    let same = (still over).same is_open in
    let between = (rests clean same.was_open).stays db at in
    record { now = same.now ∙ between.now; committed = same.committed ∙ between.committed }

-- what adding a token promises, as one record
pub got : (added : Result ℕ TokenError) (head later : ShopRow) (next after : ℕ) (digest : List ℕ) (old new : Connected) → (HasCleanDisk new → HasCleanDisk old)
    → (HasCleanDisk new → OnOk added (IsTrue old.is_open)) → after ≡ next
    → (HasCleanDisk new → (house : House) → KnowsWhileOpen head next old house → IfOk added (IsNumbered (house.tokens digest) head.next_token))
    → (HasCleanDisk new → (house : House) → KnowsWhileOpen head next old house → OnOk added (later ≡ head_after (house.tokens digest) head))
    → (HasCleanDisk new → (house : House) → KnowsWhileOpen head next old house → IfOk added (λ number. KnowsWhileOpen later after new (house_with digest number later.next_token house)))
    → (HasCleanDisk new → (house : House) → KnowsWhileOpen head next old house → LeavesHouse old house → IfOk added (λ number. LeavesHouse new (house_with digest number later.next_token house)))
    → (HasCleanDisk new → (s : State) (ks : List Kept) → HoldsWhileOpen head next old s ks → HoldsWhileOpen later after new s ks)
    → IfOk added (λ number. HasCleanDisk new → GetsToken head next digest number old new)
got (Ok number) head later next after digest old new cleans opened stays numbered goes_on knows leaves holds = λ clean. record {
  clean = cleans clean;
  was_open = opened clean;
  numbered = λ house known. numbered clean house known;
  knows = λ house of.
      subst (λ (h : ShopRow). IsOfHouse h next new (house_with digest number h.next_token house)) (goes_on clean house of.now) (record {
        now = subst (λ (n : ℕ). KnowsWhileOpen later n new (house_with digest number later.next_token house)) stays (knows clean house of.now);
        left = leaves clean house of.now of.left;
      });
  holds = λ house known s ks held.
      subst (λ (h : ShopRow). HoldsWhileOpen h next new s ks) (goes_on clean house known) (subst (λ (n : ℕ). HoldsWhileOpen later n new s ks) stays (holds clean s ks held));
}
got (Err error) head later next after digest old new cleans opened stays numbered goes_on knows leaves holds = tt

-- tables that were opened of a file, and then got a token
pub known_by : (db : Trees) (head : ShopRow) (next : ℕ) (office : State) (digest : List ℕ) (number : ℕ) (old new : Connected) → IsOpened db head next office old
    → GetsToken head next digest number old new → KnowsToken db digest number new
known_by db head next office digest number old new o gets =
    let house = house_of_rows head o.tables.tokens in
    let of = o.knows o.tables o.held in
    record {
      tables = o.tables;
      held = o.held;
      head = head;
      next = next;
      office = office;
      stand = o.stand;
      numbered = gets.numbered house of.now;
      holds = gets.holds house of.now office (map (λ r. r.kept) o.tables.kept) o.holds;
      knows = gets.knows house of;
    }

-- a digest has a number, or none
none_or_some : (found : Option ℕ) → (found ≡ None) ⊎ ((number : ℕ) × (found ≡ Some number))
none_or_some None = inl refl
none_or_some (Some number) = inr (number, refl)

-- what a crash leaves of a file that was opened, and whose tables may have got a token
pub left_by : (db : Database) (head : ShopRow) (next : ℕ) (office : State) (digest : List ℕ) (old mid new : Connected) → Rests old mid → Survives old mid (λ _. ⊥)
    → Survives mid new (MayBeWritten schema (λ (_ : Unit {0}). HasToken (token_raised head) (next_one head digest)) mid) → HasCleanDisk mid → HasCleanDisk new → IsAt db old → db.schema ≡ schema
    → (IsTrue mid.is_open → IsOpened db.trees head next office mid)
    → ((house : House) → KnowsWhileOpen head next mid house → (number : ℕ) → house.tokens digest ≡ Some number → Survives mid new (λ _. ⊥))
    → (trees : Trees) → new.may_leave trees → old.may_leave trees ⊎ HasNextToken db.trees digest trees
left_by db head next office digest old mid new rests first second cleared clean at known opens where_known trees may = elim (second.crash clean trees may) [
  | inl before ↦ elim (first.crash cleared trees before) [ inl was ↦ inl was | inr none ↦ absurd none ]
  | inr written ↦
      let shown : mid.now ≡ db = ((rests cleared written.was_open).stays db at).now in
      let o = opens written.was_open in
      let turned = written.turned (ap (λ (d : Database). d.schema) shown ∙ known) in
      let tokens = number_of o.tables.tokens in
      elim (none_or_some (tokens digest)) [
        | inl is_new ↦ inr (record {
          tables = o.tables;
          held = o.held;
          head = head;
          office = office;
          stand = o.stand;
          is_new = is_new;
          holds = subst (λ (t : Trees). Holds t (token_added (token_raised head) (next_one head digest) o.tables)) (sym written.is)
              (turned.holds o.tables (subst (λ (d : Database). Holds d.trees o.tables) (sym shown) o.held));
        })
        | inr has ↦ elim ((where_known (house_of_rows head o.tables.tokens) (o.knows o.tables o.held).now has.0 has.1).crash clean trees may) [
          | inl before ↦ elim (first.crash cleared trees before) [ inl was ↦ inl was | inr none ↦ absurd none ]
          | inr none ↦ absurd none
        ]
      ]
]

-- a file that isn't opened gets no token
pub no_token : {S : Type 0} (g : Ghosts S) (digest : List ℕ) (old : Connected) (left : Connection S) (outcome : Result ℕ RunFault) → StaysUnopened g old left outcome → AddsTokenIn g digest old left outcome
no_token g digest old left outcome stays = subst (λ (o : Result ℕ RunFault). AddsTokenIn g digest old left o) (sym stays.told) (record {
  added = tt;
  cause = λ clean db at. inl (stays.error, refl, stays.cause clean db at);
  none = λ clean is_open db at known. (stays.rests clean is_open).stays db at;
  crash = λ clean db at known trees may. elim (stays.crash.crash clean trees may) [ inl was ↦ inl was | inr none ↦ absurd none ];
})
