-- Uses of vouchers that come and go.
use Rattle.std.proofs.Common.{◌≡◌, ℕ, zero, suc, ◌+◌, ◌-◌, ◌<◌, ◌≤◌, Bool, true, false, eqb, List, [], ◌∷◌, ◌++◌, length, get_or, set, take, map, Option, Some, refl, sym, ap, ◌∙◌, add-one, sum_by, arith}
use Rattle.std.specs.Prelude.{if◌then◌else◌}
use Rattle.std.specs.List.{AllByRecursion}
use Rattle.std.proofs.lemmas.Bool.Decides.{nat_tests}
use Rattle.std.proofs.lemmas.List.Sums.{sum_by-cons}
use Rattle.std.proofs.lemmas.Grind.{common_steps}
use Rattle.base_tables.specs.Tables.{AreInOrder, IsPlace, IsGap}
use Rattle.base_tables.proofs.Places.{row_at_gap}
use Rattle.base_tables.proofs.OneId.{map_none, map_one}
use Rattle.model_catalogue.specs.declared.rows.Quota.{Quota}
use Rattle.model_rows.specs.declared.rows.Voucher.{Voucher}
use Rattle.model_rows.specs.declared.rows.Usage.{Usage}
use Rattle.model_rows.specs.Conditions.{names}
use Rattle.model_rows.specs.Lists.{Lists}
use Rattle.model_rows.specs.Kept.{IsKept}
use Rattle.book_counts_over_time.specs.Redemptions.{count_after_turn, turn, turn_each}
use Rattle.book_indexes.proofs.EntryLemmas.{kept_at}

turn_other : (up : Bool) (id : ℕ) (spent : ℕ → ℕ) (x : ℕ) → eqb x id ≡ false → turn up (Some id) spent x ≡ spent x
turn_other up id spent x e = by_test (eqb id x) (flip e)
  where
    flip : eqb x id ≡ false → eqb id x ≡ false
    flip e = grind (arith, nat_tests, e)

    by_test : (b : Bool) → b ≡ false → (if b then count_after_turn up (spent x) else spent x) ≡ spent x
    by_test true t = absurd (cc)
    by_test false t = refl

turn_own : (up : Bool) (id : ℕ) (spent : ℕ → ℕ) (x : ℕ) → x ≡ id → turn up (Some id) spent x ≡ count_after_turn up (spent x)
turn_own up id spent x e = by_test (eqb id x) (own e)
  where
    own : x ≡ id → eqb id x ≡ true
    own e = grind (arith, nat_tests, e)

    by_test : (b : Bool) → b ≡ true → (if b then count_after_turn up (spent x) else spent x) ≡ count_after_turn up (spent x)
    by_test true t = refl
    by_test false t = absurd (cc)

-- the uses that are kept beside the vouchers, where one of them turns
module _ (up : Bool) (id : ℕ) (spent : ℕ → ℕ) where
  -- a voucher that stands
  pub spent_place : (vouchers : List Voucher) (i was new : ℕ) (rs spents : List ℕ) → AreInOrder (λ r. r.id) vouchers → IsPlace (λ r. r.id) vouchers id i → was ≡ get_or rs i was → new ≡ count_after_turn up was → spents ≡ set rs i new → rs ≡ map (λ v. spent v.id) vouchers → spents ≡ map (λ v. turn up (Some id) spent v.id) vouchers
  spent_place [] i was new rs spents order place was_is new_is spents_is is = absurd (omega (arith, place.in_range))
  spent_place (v ∷ vs) i was new rs spents order place was_is new_is spents_is is =
      let had : was ≡ spent id = was_is ∙ kept_at (λ r. r.id) spent (v ∷ vs) rs id i was is place in
      let own : (get_or (v ∷ vs) i v).id ≡ id = place.has_id v in
      let has : new ≡ turn up (Some id) spent (get_or (v ∷ vs) i v).id = new_is ∙ ap (count_after_turn up) (had ∙ ap spent (sym own)) ∙ sym (turn_own up id spent (get_or (v ∷ vs) i v).id own) in
      spents_is ∙ rw is (ap (λ n. set (map (λ r. spent r.id) (v ∷ vs)) i n) has ∙ map_one (λ r. r.id) (λ r. spent r.id) (λ r. turn up (Some id) spent r.id) id (λ r e. turn_other up id spent r.id e) 0 (v ∷ vs) i v order place)

  -- one that doesn't
  pub spent_gap : (vouchers : List Voucher) (i : ℕ) (rs : List ℕ) → IsGap (λ r. r.id) vouchers id i → rs ≡ map (λ v. spent v.id) vouchers → rs ≡ map (λ v. turn up (Some id) spent v.id) vouchers
  spent_gap vouchers i rs gap is = is ∙ sym (map_none (λ r. r.id) (λ r. spent r.id) (λ r. turn up (Some id) spent r.id) id (λ r e. turn_other up id spent r.id e) vouchers (row_at_gap (λ r. r.id) vouchers id i gap))

module _ (lists : Lists) (at : ℕ) (kept : IsKept 4294967296 lists) (small : AllByRecursion (λ v. v.max_usages ≤ 4294967295) lists.vouchers) (up : Bool) (id : ℕ) (spent : ℕ → ℕ) (base : Quota → Usage) where
  abbrev now : ℕ → ℕ
  now = turn up (Some id) spent

pub turn_each-push : (up : Bool) (names : List (Option ℕ)) (name : Option ℕ) (spent : ℕ → ℕ) → turn_each up (names ++ name ∷ []) spent ≡ turn up name (turn_each up names spent)
turn_each-push up [] name spent = refl
turn_each-push up (n ∷ ns) name spent = turn_each-push up ns name (turn up n spent)

-- one use more, or less
abbrev pub one_use : ℕ → Option ℕ → ℕ
one_use x name = if names x name then 1 else 0

pub up_one : (name : Option ℕ) (spent : ℕ → ℕ) (x n : ℕ) → spent x + one_use x name + n ≤ 18446744073709551615 → turn true name spent x ≡ spent x + one_use x name
up_one name spent x n le = by_test (names x name) le
  where
    by_test : (b : Bool) → spent x + (if b then 1 else 0) + n ≤ 18446744073709551615 → (if b then count_after_turn true (spent x) else spent x) ≡ spent x + (if b then 1 else 0)
    by_test true le = omega (arith, le)
    by_test false le = omega arith

pub down_one : (name : Option ℕ) (spent : ℕ → ℕ) (x : ℕ) → turn false name spent x ≡ spent x - one_use x name
down_one name spent x = by_test (names x name)
  where
    by_test : (b : Bool) → (if b then count_after_turn false (spent x) else spent x) ≡ spent x - (if b then 1 else 0)
    by_test true = refl
    by_test false = omega arith

pub down_each : (ns : List (Option ℕ)) (spent : ℕ → ℕ) (x : ℕ) → turn_each false ns spent x ≡ spent x - sum_by (one_use x) ns
down_each [] spent x = omega arith
down_each (n ∷ ns) spent x = omega (arith, down_one n spent x, down_each ns (turn false n spent) x, sum_by-cons (one_use x) n ns)

map_more : {Y : Type 0} (f : ℕ → Y) (xs : List ℕ) (i d : ℕ) → i < length xs → map f (take i xs) ++ f (get_or xs i d) ∷ [] ≡ map f (take (i + 1) xs)
map_more f [] i d lt = absurd (omega arith)
map_more f (x ∷ xs) zero d lt = refl
map_more f (x ∷ xs) (suc i) d lt = rw add-one (ap (λ l. f x ∷ l) (rw add-one at (map_more f xs i d (omega arith))))

pub pushed : (up : Bool) (spent : ℕ → ℕ) (name : Option ℕ) (f : ℕ → Option ℕ) (es : List ℕ) (i d : ℕ) → i < length es → name ≡ f (get_or es i d) → turn up name (turn_each up (map f (take i es)) spent) ≡ turn_each up (map f (take (i + 1) es)) spent
pushed up spent name f es i d lt is = ap (λ (n : Option ℕ). turn up n (turn_each up (map f (take i es)) spent)) is ∙ sym (turn_each-push up (map f (take i es)) (f (get_or es i d)) spent) ∙ ap (λ (ns : List (Option ℕ)). turn_each up ns spent) (map_more f es i d lt)

pub all_taken : (up : Bool) (spent : ℕ → ℕ) (f : ℕ → Option ℕ) (es : List ℕ) (i : ℕ) → length es ≤ i → turn_each up (map f (take i es)) spent ≡ turn_each up (map f es) spent
all_taken up spent f es i le = ap (λ (l : List ℕ). turn_each up (map f l) spent) (whole es i le)
  where
    whole : (es : List ℕ) (i : ℕ) → length es ≤ i → take i es ≡ es
    whole es i le = grind (arith, common_steps)
