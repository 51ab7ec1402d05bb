-- A token that is added, and what it leaves as it was.
use Rattle.std.proofs.Common.{◌≡◌, ◌⊎◌, ◌+◌, ◌<◌, ◌≤◌, nat_lt, ℕ, true, false, cond, bytes_eq, List, [], ◌∷◌, find, Option, Some, None, option_map, IsTrue, inl, inr, Result, Ok, Err, IfOk, OnOk, OnErr, refl, sym, ap, subst, ◌∙◌, arith}
use Rattle.std.proofs.lemmas.Bool.Decides.{nat_tests}
use Rattle.std.proofs.lemmas.Slice.Eq.{bytes_eq-Decides}
use Rattle.sqlite_trees.specs.Tree.{Trees}
use Rattle.sqlite.specs.Effect.{Database}
use Rattle.sqlite.specs.State.{State as Connected, HasCleanDisk, Survives}
use Rattle.file_schema.specs.Tables.{schema}
use Rattle.model_rows.specs.Lists.{State}
use Rattle.model_answers.specs.declared.kept.Kept.{Kept}
use Rattle.model_answers.specs.House.{House}
use Rattle.model_answers.specs.ShopView.{ShopView, IsSame}
use Rattle.file_rows.specs.declared.rows.ShopRow.{ShopRow}
use Rattle.file_rows.specs.declared.rows.Token.{Token}
use Rattle.file_rows.specs.Fit.{IsDigest}
use Rattle.file_rows.specs.Changes.{with_shop, without_shop}
use Rattle.file_rows.specs.Tables.{Tables, Holds}
use Rattle.file_reads.specs.Lookups.{has_digest}
use Rattle.file_schema.specs.Whole.{IsOver, IsStill, IsWritten, MayBeWritten}
use Rattle.file_tables.specs.Begun.{HasToken, token_added}
use Rattle.file_tables.proofs.Begins.{token_stands, token_free}
use Rattle.file_meaning.proofs.Typed.{token_typed}
use Rattle.file_tables.specs.Held.{number_of}
use Rattle.file_tables.specs.Shops.{HoldsWhileOpen, Tells, Knows, KnowsWhileOpen, LeavesHouse, HoldNoOther, Leaves, house_of_rows}
use Rattle.file_tables.proofs.ShopLemmas.{declared, still_holds, still_knows, house_still, leaves_still}
use Rattle.file_tables.specs.Tokens.{most_tokens, also_known, house_with, IsNumbered, HasNoRoom, token_raised, next_one, head_after, tables_after}

-- ---- nothing changed

pub still_over : (old new : Connected) → IsStill old new → IsOver schema old → IsOver schema new
still_over old new still over is_open =
    let was = still.same is_open in
    ap (λ (d : Database). d.schema) was.now ∙ over was.was_open

pub still_shows : (old new : Connected) → IsStill old new → IsTrue new.is_open → (t : Tables) → Holds old.now.trees t → Holds new.now.trees t
still_shows old new still is_open t held = subst (λ (d : Database). Holds d.trees t) (sym (still.same is_open).now) held

-- ---- a digest that has a number

told_again : (digest : List ℕ) (number : ℕ) (tokens : List ℕ → Option ℕ) (known : Some number ≡ tokens digest) (other : List ℕ) → also_known digest number tokens other ≡ tokens other
told_again digest number tokens known other = elim (bytes_eq digest other) as (λ b. bytes_eq digest other ≡ b → cond b (Some number) (tokens other) ≡ tokens other) [
  | true ↦ λ e. known ∙ ap tokens ((bytes_eq-Decides digest other).0 e)
  | false ↦ λ e. refl
] refl

same_with : (house : House) (digest : List ℕ) (number next : ℕ) → Some number ≡ house.tokens digest → house.next_token ≡ next → house ≡ house_with digest number next house
same_with house digest number next known is =
    let all = λ (other : List ℕ). sym (told_again digest number house.tokens known other) in
    λ i. record { organizer = house.organizer; event = house.event; tokens = λ other. all other i; next_token = is i }

next_is : (head : ShopRow) (next : ℕ) (db : Database) (house : House) → Knows head next db house → house.next_token ≡ head.next_token
next_is head next db house k = ap (λ (h : House). h.next_token) k.tells.told

pub found_knows : (head : ShopRow) (next : ℕ) (c : Connected) (digest : List ℕ) (number : ℕ) (house : House) → Some number ≡ house.tokens digest → KnowsWhileOpen head next c house
    → KnowsWhileOpen head next c (house_with digest number head.next_token house)
found_knows head next c digest number house known knows is_open =
    let it = knows is_open in
    subst (λ (h : House). Knows head next c.now h) (same_with house digest number head.next_token known (next_is head next c.now house it)) it

pub found_leaves : (head : ShopRow) (next : ℕ) (old new : Connected) (digest : List ℕ) (number : ℕ) (house : House) → Some number ≡ house.tokens digest → Knows head next old.now house → HasCleanDisk new
    → Survives old new (λ _. ⊥) → LeavesHouse old house → LeavesHouse new (house_with digest number head.next_token house)
found_leaves head next old new digest number house known it clean h left =
    subst (LeavesHouse new) (same_with house digest number head.next_token known (next_is head next old.now house it)) (house_still old new house clean h left)

-- ---- a token more

module _ (head : ShopRow) (digest : List ℕ) (next : ℕ) (old new : Connected) where
  abbrev token : Token
  token = next_one head digest

  abbrev adds : Database → Database → Type 0
  adds = HasToken (token_raised head) token

  pub added_holds : head.next_token ≤ most_tokens → IsDigest digest → IsWritten adds old new → (s : State) (ks : List Kept) → HoldsWhileOpen head next old s ks → HoldsWhileOpen (token_raised head) next new s ks
  added_holds room is w s ks holds is_open =
      let it = holds w.was_open in
      record {
        known = w.turned.known;
        outside = w.outside;
        settled = w.settled;
        tables = token_added (token_raised head) token it.tables;
        held = w.turned.holds it.tables it.held;
        stand = token_stands head (token_raised head) token it.tables s ks refl refl it.stand;
        typed = token_typed head digest it.tables (omega (arith, room)) is it.typed;
        free = token_free (token_raised head) token it.tables next it.free;
      }

  pub number_too : (tokens : List ℕ → Option ℕ) (all : List Token) → ((other : List ℕ) → tokens other ≡ number_of all other) → (other : List ℕ) → also_known digest head.next_token tokens other ≡ number_of (token ∷ all) other
  number_too tokens all told other = elim (bytes_eq digest other) as (λ b. cond b (Some head.next_token) (tokens other) ≡ option_map (λ (t : Token). t.id) (cond b (Some token) (find (has_digest other) all))) [ true ↦ refl | false ↦ told other ]

  abbrev with_next : House → House
  with_next house = house_with digest head.next_token (head.next_token + 1) house

  same_added : (house : House) (all : List Token) → house ≡ house_of_rows head all → with_next house ≡ house_of_rows (token_raised head) (token ∷ all)
  same_added house all told =
      let too = number_too house.tokens all (λ other. ap (λ (h : House). h.tokens other) told) in
      λ i. record { organizer = (told i).organizer; event = (told i).event; tokens = λ other. too other i; next_token = head.next_token + 1 }

  pub added_tells : (db : Trees) (house : House) (t : Tables) → t.shop ≡ head ∷ [] → house ≡ house_of_rows head t.tokens → Holds db (token_added (token_raised head) token t) → Tells db (token_raised head) (with_next house)
  added_tells db house t row told held = record {
    tables = token_added (token_raised head) token t;
    held = held;
    shop_is = ap (λ (l : List ShopRow). (with_shop (token_raised head) (without_shop 1 (record t { shop = l }))).shop) row;
    told = same_added house t.tokens told;
  }

  pub added_knows : IsWritten adds old new → (house : House) → KnowsWhileOpen head next old house → KnowsWhileOpen (token_raised head) next new (with_next house)
  unfolding added_tells
  added_knows w house knows is_open =
      let it = knows w.was_open in
      let t = it.tells.tables in
      record {
        known = w.turned.known;
        tells = added_tells new.now.trees house t it.tells.shop_is it.tells.told (w.turned.holds t it.tells.held);
        free = token_free (token_raised head) token t next it.free;
      }

  -- of an open connection a crash leaves the last commit
  pub added_leaves : ((db : Trees) → IsTrue new.is_open → new.may_leave db → db ≡ new.committed.trees) → IsWritten adds old new → (house : House) → KnowsWhileOpen head next old house → LeavesHouse new (with_next house)
  added_leaves law w house knows trees may =
      let same : trees ≡ new.now.trees = law trees w.is_open may ∙ sym (ap (λ (d : Database). d.trees) w.settled) in
      (declared new.now trees w.listed w.turned.known same, (token_raised head, subst (λ (db : Trees). Tells db (token_raised head) (with_next house)) (sym same) (added_knows w house knows w.is_open).tells))

  left_so : head.next_token ≤ most_tokens → IsDigest digest → (db : Trees) → MayBeWritten schema (λ (_ : Unit {0}). adds) old db → (left : ShopView) → HoldNoOther db left → (s : State) (ks : List Kept) → HoldsWhileOpen head next old s ks → IsSame left (record { state = s; kept = ks })
  left_so room is db may left only s ks holds =
      let it = holds may.was_open in
      let here : Holds db (token_added (token_raised head) token it.tables) = subst (λ d. Holds d (token_added (token_raised head) token it.tables)) (sym may.is) ((may.turned it.known).holds it.tables it.held) in
      only (token_raised head) (token_added (token_raised head) token it.tables) (record { state = s; kept = ks }) here (token_stands head (token_raised head) token it.tables s ks refl refl it.stand) (token_typed head digest it.tables (omega (arith, room)) is it.typed)

  pub leaves_or : head.next_token ≤ most_tokens → IsDigest digest → Survives old new (MayBeWritten schema (λ (_ : Unit {0}). adds) old) → (left : ShopView) → Leaves new left → Leaves old left ⊎ ((s : State) (ks : List Kept) → HoldsWhileOpen head next old s ks → IsSame left (record { state = s; kept = ks }))
  leaves_or room is h left l =
      let clean : HasCleanDisk old = let more = l.clean in omega (arith, h.clean) in
      elim (h.crash l.clean l.trees l.may) [
        | inl may ↦ inl (record { clean = clean; trees = l.trees; may = may; only = l.only })
        | inr may ↦ inr (left_so room is l.trees may left l.only)
      ]

-- ---- by the number that the digest has already

pub same_number : (number next : ℕ) (o : Option ℕ) → Some number ≡ o → IsNumbered o next number
same_number number next (Some known) e = cc
same_number number next None e = absurd cc

pub same_head : (number : ℕ) (head : ShopRow) (o : Option ℕ) → Some number ≡ o → head ≡ head_after o head
same_head number head (Some known) e = refl
same_head number head None e = absurd cc

pub same_tables : (number : ℕ) (head : ShopRow) (digest : List ℕ) (db : Trees) (t : Tables) (o : Option ℕ) → Some number ≡ o → Holds db t → Holds db (tables_after o head digest t)
same_tables number head digest db t (Some known) e held = held
same_tables number head digest db t None e held = absurd cc

pub next_number : {E : Type 0} (r : Result ℕ E) (next : ℕ) (o : Option ℕ) → None ≡ o → IfOk r (λ number. (number ≡ next) × (next ≤ most_tokens)) → IfOk r (IsNumbered o next)
next_number r next None e h = h
next_number r next (Some known) e h = absurd cc

pub no_room : (next : ℕ) (o : Option ℕ) → None ≡ o → most_tokens < next → HasNoRoom o next
no_room next None e h = h
no_room next (Some known) e h = absurd cc

pub next_head : {T E : Type 0} (r : Result T E) (head now : ShopRow) (o : Option ℕ) → None ≡ o → OnOk r (now ≡ token_raised head) → OnOk r (now ≡ head_after o head)
next_head r head now None e h = h
next_head r head now (Some known) e h = absurd cc

-- ---- after a look-up that found no number

module _ {E : Type 0} (r : Result ℕ E) (head : ShopRow) (digest : List ℕ) (next : ℕ) (old mid new : Connected) where
  pub then_tables : (o : Option ℕ) → None ≡ o → IsStill old mid → OnOk r (IsWritten (HasToken (token_raised head) (next_one head digest)) mid new)
      → OnOk r ((t : Tables) → Holds old.now.trees t → Holds new.now.trees (tables_after o head digest t))
  then_tables None e still = elim r as (λ x. OnOk x (IsWritten (HasToken (token_raised head) (next_one head digest)) mid new) → OnOk x ((t : Tables) → Holds old.now.trees t → Holds new.now.trees (token_added (token_raised head) (next_one head digest) t))) [
    | Ok number ↦ λ w t held. w.turned.holds t (still_shows old mid still w.was_open t held)
    | Err error ↦ λ w. tt
  ]
  then_tables (Some known) e still = absurd cc

  abbrev IsNext : Result ℕ E → Type 0
  IsNext x = IfOk x (λ number. (number ≡ head.next_token) × (head.next_token ≤ most_tokens))

  abbrev Writes : Result ℕ E → Type 0
  Writes x = OnOk x (IsWritten (HasToken (token_raised head) (next_one head digest)) mid new)

  pub then_knows : (now : ShopRow) (n : ℕ) → n ≡ next → (house : House) → IsStill old mid → KnowsWhileOpen head next old house → IsNext r → OnOk r (now ≡ token_raised head) → Writes r
      → IfOk r (λ number. KnowsWhileOpen now n new (house_with digest number now.next_token house))
  then_knows now n row house still knows = elim r as (λ x. IsNext x → OnOk x (now ≡ token_raised head) → Writes x → IfOk x (λ number. KnowsWhileOpen now n new (house_with digest number now.next_token house))) [
    | Ok number ↦ λ is now_is w. rw (is.0, row, now_is) (added_knows head digest next mid new w house (still_knows head next old mid house still knows))
    | Err error ↦ λ is now_is w. tt
  ]

  pub then_leaves_house : ((db : Trees) → IsTrue new.is_open → new.may_leave db → db ≡ new.committed.trees) → (now : ShopRow) (house : House) → IsStill old mid → KnowsWhileOpen head next old house
      → IsNext r → OnOk r (now ≡ token_raised head) → Writes r → IfOk r (λ number. LeavesHouse new (house_with digest number now.next_token house))
  then_leaves_house law now house still knows = elim r as (λ x. IsNext x → OnOk x (now ≡ token_raised head) → Writes x → IfOk x (λ number. LeavesHouse new (house_with digest number now.next_token house))) [
    | Ok number ↦ λ is now_is w. rw (is.0, now_is) (added_leaves head digest next mid new law w house (still_knows head next old mid house still knows))
    | Err error ↦ λ is now_is w. tt
  ]

  pub then_holds : (now : ShopRow) (n : ℕ) → n ≡ next → (s : State) (ks : List Kept) → IsStill old mid → HoldsWhileOpen head next old s ks → IsDigest digest → IfOk r (λ number. (number ≡ head.next_token) × (head.next_token ≤ most_tokens)) → OnOk r (now ≡ token_raised head) → OnErr r (now ≡ head)
      → OnOk r (IsWritten (HasToken (token_raised head) (next_one head digest)) mid new) → OnErr r (IsStill mid new) → HoldsWhileOpen now n new s ks
  then_holds now n row s ks still holds digest_is = elim r as (λ x. IfOk x (λ number. (number ≡ head.next_token) × (head.next_token ≤ most_tokens)) → OnOk x (now ≡ token_raised head) → OnErr x (now ≡ head) → OnOk x (IsWritten (HasToken (token_raised head) (next_one head digest)) mid new) → OnErr x (IsStill mid new) → HoldsWhileOpen now n new s ks) [
    | Ok number ↦ λ known is _ w _. rw (is, row) (added_holds head digest next mid new known.1 digest_is w s ks (still_holds head next old mid s ks still holds))
    | Err error ↦ λ _ _ is _ late. rw (is, row) (still_holds head next mid new s ks late (still_holds head next old mid s ks still holds))
  ]

  pub then_settled : ((db : Trees) → IsTrue new.is_open → new.may_leave db → db ≡ new.committed.trees) → OnOk r (IsWritten (HasToken (token_raised head) (next_one head digest)) mid new)
      → OnOk r ((db : Trees) → new.may_leave db → db ≡ new.now.trees)
  then_settled law = elim r as (λ x. OnOk x (IsWritten (HasToken (token_raised head) (next_one head digest)) mid new) → OnOk x ((db : Trees) → new.may_leave db → db ≡ new.now.trees)) [
    | Ok number ↦ λ w db may. law db w.is_open may ∙ sym (ap (λ (d : Database). d.trees) w.settled)
    | Err error ↦ λ w. tt
  ]

  pub then_leaves : IsDigest digest → (most_tokens < head.next_token → Survives mid new (λ _. ⊥)) → Survives old mid (λ _. ⊥) → (HasCleanDisk mid → IsStill old mid) → Survives mid new (MayBeWritten schema (λ (_ : Unit {0}). HasToken (token_raised head) (next_one head digest)) mid) → (left : ShopView) → Leaves new left
      → Leaves old left ⊎ ((s : State) (ks : List Kept) → HoldsWhileOpen head next old s ks → IsSame left (record { state = s; kept = ks }))
  then_leaves digest_is full one still two left l =
      let clean : HasCleanDisk mid = let more = l.clean in omega (arith, two.clean) in
      elim (nat_lt most_tokens head.next_token) as (λ b. nat_lt most_tokens head.next_token ≡ b → Leaves old left ⊎ ((s : State) (ks : List Kept) → HoldsWhileOpen head next old s ks → IsSame left (record { state = s; kept = ks }))) [
        | true ↦ λ e. inl (leaves_still old mid one left (leaves_still mid new (full (grind (arith, nat_tests))) left l))
        | false ↦ λ e.
            let room : head.next_token ≤ most_tokens = grind (arith, nat_tests) in
            elim (leaves_or head digest next mid new room digest_is two left l) [
              | inl it ↦ inl (leaves_still old mid one left it)
              | inr so ↦ inr (λ s ks holds. so s ks (still_holds head next old mid s ks (still clean) holds))
            ]
      ] refl
