-- Noting check-ins one after another finds who entered and who is inside.
use Rattle.std.proofs.Common.{◌≡◌, ◌≢◌, ℕ, ◌+◌, Bool, true, false, cond, List, [], ◌∷◌, length, get_or, set, map, count_by, Some, None, refl, sym, ap, ◌∙◌, arith}
use Rattle.std.specs.Prelude.{◌&&◌, ◌||◌, if◌then◌else◌}
use Rattle.std.proofs.lemmas.Bool.Decides.{nat_tests}
use Rattle.std.proofs.lemmas.List.{length-map}
use Rattle.std.proofs.lemmas.List.Sums.{sum_by-cons}
use Rattle.base_tables.specs.Tables.{row_at, AreInOrder, IsPlace}
use Rattle.base_tables.proofs.Places.{filter_in_order}
use Rattle.base_tables.proofs.Mapped.{map_two, map_set, map_absent, mapped_in_order}
use Rattle.model_rows.specs.declared.rows.OrderPos.{OrderPos}
use Rattle.model_rows.specs.declared.rows.CheckinList.{CheckinList}
use Rattle.model_rows.specs.declared.rows.Checkin.{Checkin}
use Rattle.model_rows.specs.Lists.{Lists}
use Rattle.model_rows.specs.Passages.{is_entry, passage, later, last_after}
use Rattle.model_commands.specs.declared.doors.DoorStatus.{DoorStatus}
use Rattle.decide_door.specs.declared.stays.Stay.{Stay}
use Rattle.decide_door.specs.Last.{is_of, checkins_of, has_entry}
use Rattle.decide_door.specs.Stays.{no_stay, checkin_noted, noted_all, stays_inside, counts_of}
use Rattle.decide_door.specs.Belongs.{belongs, belonging}
use Rattle.decide_door.specs.Status.{has_entered, is_inside, status_of}

module _ (list : ℕ) (checkin : Checkin) where
  abbrev noted_by : Stay → Bool → Stay
  noted_by s b = if b then record { position = s.position; entered = s.entered || is_entry checkin.kind; last = Some (later s.last (passage checkin)) } else s

  pub noted_position : (s : Stay) → (checkin_noted list checkin s).position ≡ s.position
  unfolding checkin_noted
  noted_position s = by_test (is_of list s.position checkin)
    where
      by_test : (b : Bool) → (noted_by s b).position ≡ s.position
      by_test true = refl
      by_test false = refl

  pub noted_apart : (s : Stay) → s.position ≢ checkin.position → checkin_noted list checkin s ≡ s
  unfolding checkin_noted
  noted_apart s apart = by_test (is_of list s.position checkin) refl
    where
      by_test : (b : Bool) → is_of list s.position checkin ≡ b → noted_by s b ≡ s
      by_test true e = absurd (apart (grind (arith, nat_tests, e)))
      by_test false e = refl

  -- what a check-in changes at its place
  pub noted_here : (rows : List Stay) (i : ℕ) (d : Stay) → AreInOrder (λ s. s.position) rows → IsPlace (λ s. s.position) rows checkin.position i → set rows i (checkin_noted list checkin (get_or rows i d)) ≡ map (checkin_noted list checkin) rows
  noted_here rows i d h p = map_set (λ (s : Stay). s.position) (checkin_noted list checkin) checkin.position noted_apart 0 rows i d h p

  pub noted_nowhere : (rows : List Stay) → row_at (λ s. s.position) checkin.position rows ≡ None → map (checkin_noted list checkin) rows ≡ rows
  noted_nowhere rows e = map_absent (λ (s : Stay). s.position) (checkin_noted list checkin) checkin.position noted_apart rows e

  pub noted_in_order : (rows : List Stay) → AreInOrder (λ s. s.position) rows → AreInOrder (λ s. s.position) (map (checkin_noted list checkin) rows)
  noted_in_order rows h = mapped_in_order (λ (s : Stay). s.position) (λ (s : Stay). s.position) (checkin_noted list checkin) noted_position 0 rows h

-- what is known of a position after all check-ins
or_more : (a b c : Bool) → ((a || b) || c) ≡ (a || (b || c))
or_more true b c = refl
or_more false b c = refl

abbrev stay_after : ℕ → List Checkin → Stay → Stay
stay_after list cs s = record { position = s.position; entered = s.entered || has_entry list s.position cs; last = last_after s.last (checkins_of list s.position cs) }

or_none : (a : Bool) → (a || false) ≡ a
or_none true = refl
or_none false = refl

module _ (list : ℕ) (c : Checkin) (cs : List Checkin) (more : (t : Stay) → noted_all list cs t ≡ stay_after list cs t) (s : Stay) where
  abbrev with_it : Stay
  with_it = record { position = s.position; entered = s.entered || is_entry c.kind; last = Some (later s.last (passage c)) }

  abbrev after_by : Bool → Stay
  after_by b = record { position = s.position; entered = s.entered || ((b && is_entry c.kind) || has_entry list s.position cs); last = last_after s.last (cond b (c ∷ checkins_of list s.position cs) (checkins_of list s.position cs)) }

  after_one : (b : Bool) → noted_all list cs (if b then with_it else s) ≡ after_by b
  after_one true = more with_it ∙ ap (λ (e : Bool). let stay : Stay = record { position = s.position; entered = e; last = last_after (Some (later s.last (passage c))) (checkins_of list s.position cs) } in stay) (or_more s.entered (is_entry c.kind) (has_entry list s.position cs))
  after_one false = more s

noted_all_is : (list : ℕ) (cs : List Checkin) (s : Stay) → noted_all list cs s ≡ stay_after list cs s
unfolding checkin_noted
noted_all_is list [] s = ap (λ (b : Bool). let stay : Stay = record { position = s.position; entered = b; last = s.last } in stay) (sym (or_none s.entered))
noted_all_is list (c ∷ cs) s = after_one list c cs (noted_all_is list cs) s (is_of list s.position c)

-- counting what was noted counts the positions
count_alike : {A B : Type 0} (p : A → Bool) (q : B → Bool) (f : B → A) → ((x : B) → p (f x) ≡ q x) → (xs : List B) → count_by p (map f xs) ≡ count_by q xs
count_alike p q f same [] = refl
count_alike p q f same (x ∷ xs) = sum_by-cons (λ y. cond (p y) 1 0) (f x) (map f xs) ∙ ap (λ b. cond b 1 0 + count_by p (map f xs)) (same x) ∙ ap (λ n. cond (q x) 1 0 + n) (count_alike p q f same xs) ∙ sym (sum_by-cons (λ y. cond (q y) 1 0) x xs)

module _ (list : ℕ) (checkins : List Checkin) (positions : List OrderPos) where
  abbrev stays : List Stay
  stays = map (noted_all list checkins) (map no_stay positions)

  entered_is : count_by (λ s. s.entered) stays ≡ count_by (has_entered list checkins) positions
  entered_is = ap (count_by (λ s. s.entered)) (map_two no_stay (noted_all list checkins) positions) ∙ count_alike (λ (s : Stay). s.entered) (has_entered list checkins) (λ p. noted_all list checkins (no_stay p)) (λ p. ap (λ (s : Stay). s.entered) (noted_all_is list checkins (no_stay p))) positions

  inside_is : count_by stays_inside stays ≡ count_by (is_inside list checkins) positions
  inside_is = ap (count_by stays_inside) (map_two no_stay (noted_all list checkins) positions) ∙ count_alike stays_inside (is_inside list checkins) (λ p. noted_all list checkins (no_stay p)) (λ p. ap stays_inside (noted_all_is list checkins (no_stay p))) positions

  length_is : length stays ≡ length positions
  length_is = length-map (map no_stay positions) (noted_all list checkins) ∙ length-map positions no_stay

  abbrev status_with : ℕ → ℕ → ℕ → DoorStatus
  status_with positions entered inside = record { positions = positions; entered = entered; inside = inside }

  counts_are : counts_of stays ≡ status_with (length positions) (count_by (has_entered list checkins) positions) (count_by (is_inside list checkins) positions)
  counts_are =
      ap (λ n. status_with n (count_by (λ s. s.entered) stays) (count_by stays_inside stays)) length_is
      ∙ ap (λ n. status_with (length positions) n (count_by stays_inside stays)) entered_is
      ∙ ap (λ n. status_with (length positions) (count_by (has_entered list checkins) positions) n) inside_is

pub status_is : (list : CheckinList) (lists : Lists) → counts_of (map (noted_all list.id lists.checkins) (map no_stay (belonging list lists))) ≡ status_of list lists
unfolding status_of
status_is list lists = counts_are list.id lists.checkins (belonging list lists)

-- before any check-in the positions of a list are in order
pub no_stays_in_order : (list : CheckinList) (lists : Lists) → AreInOrder (λ r. r.id) lists.positions → AreInOrder (λ s. s.position) (map no_stay (belonging list lists))
no_stays_in_order list lists h = mapped_in_order (λ (r : OrderPos). r.id) (λ (s : Stay). s.position) no_stay (λ r. refl) 0 (belonging list lists) (filter_in_order (λ (r : OrderPos). r.id) (belongs list lists) 0 lists.positions h)
