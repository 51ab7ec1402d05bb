-- A test of a position's check-ins by a list, over these alone and over all that are stored.
use Rattle.std.proofs.Common.{◌≡◌, ℕ, Bool, true, false, not, ◌&&◌, cond, List, [], ◌∷◌, refl, sym, ap, ◌∙◌}
use Rattle.std.specs.Prelude.{◌||◌, ◌==◌, filter, Option, None, Some, Ok, Err, if◌then◌else◌}
use Rattle.std.specs.List.{list_any}
use Rattle.model_rows.specs.declared.rows.Checkin.{Checkin}
use Rattle.model_rows.specs.declared.rows.CheckinList.{CheckinList}
use Rattle.model_rows.specs.declared.rows.OrderPos.{OrderPos}
use Rattle.model_rows.specs.Lists.{Lists, checkins_by}
use Rattle.model_invariant.specs.Checkins.{same_nonce}
use Rattle.model_commands.specs.declared.doors.Scan.{Scan}
use Rattle.model_rows.specs.Passages.{is_entry, is_exit, last_after, is_exit_if}
use Rattle.decide_door.specs.Last.{is_of, checkins_of, has_entry, last_of}
use Rattle.model_commands.specs.declared.doors.DoorRefusal.TheVariants.{AlreadyRedeemed}
use Rattle.decide_door.specs.declared.verdict.Admission.TheVariants.{Again, New}
use Rattle.decide_door.specs.Valid.{IsValid}
use Rattle.decide_door.specs.Verdict.{is_stored, may_pass, verdict}

-- where only such pass as are kept
any_kept : {A : Type 0} (kept passes : A → Bool) → ((x : A) → (kept x && passes x) ≡ passes x) → (xs : List A) → list_any passes (filter kept xs) ≡ list_any passes xs
any_kept kept passes only [] = refl
any_kept kept passes only (x ∷ xs) = by_kept (kept x) (only x) (any_kept kept passes only xs)
  where
    by_kept : (b : Bool) → (b && passes x) ≡ passes x → list_any passes (filter kept xs) ≡ list_any passes xs → list_any passes (cond b (x ∷ filter kept xs) (filter kept xs)) ≡ (passes x || list_any passes xs)
    by_kept true e rest = ap (λ b. passes x || b) rest
    by_kept false e rest = rest ∙ ap (λ b. b || list_any passes xs) e

kept_twice : {A : Type 0} (kept : A → Bool) (xs : List A) → filter kept (filter kept xs) ≡ filter kept xs
kept_twice kept [] = refl
kept_twice kept (x ∷ xs) = by_kept (kept x) refl (kept_twice kept xs)
  where
    by_kept : (b : Bool) → kept x ≡ b → filter kept (filter kept xs) ≡ filter kept xs → filter kept (cond b (x ∷ filter kept xs) (filter kept xs)) ≡ cond b (x ∷ filter kept xs) (filter kept xs)
    by_kept true e rest = ap (λ b. cond b (x ∷ filter kept (filter kept xs)) (filter kept (filter kept xs))) e ∙ ap (λ l. x ∷ l) rest
    by_kept false e rest = rest

and_again : (a b c : Bool) → ((a && b) && (a && (b && c))) ≡ (a && (b && c))
and_again true true c = refl
and_again true false c = refl
and_again false b c = refl

and_same : (a b : Bool) → (a && (a && b)) ≡ (a && b)
and_same true b = refl
and_same false b = refl

module _ (position : ℕ) (checkins : List Checkin) where
  pub stored_among : (list : ℕ) (nonce : Option (List ℕ)) → is_stored list position nonce (checkins_of list position checkins) ≡ is_stored list position nonce checkins
  stored_among list nonce = any_kept (is_of list position) (λ c. c.list == list && (c.position == position && same_nonce c.nonce nonce)) (λ c. and_again (c.list == list) (c.position == position) (same_nonce c.nonce nonce)) checkins

  entry_among : (list : ℕ) → has_entry list position (checkins_of list position checkins) ≡ has_entry list position checkins
  entry_among list = any_kept (is_of list position) (λ c. is_of list position c && is_entry c.kind) (λ c. and_same (is_of list position c) (is_entry c.kind)) checkins

  last_among : (list : ℕ) → last_of list position (checkins_of list position checkins) ≡ last_of list position checkins
  last_among list = ap (last_after None) (kept_twice (is_of list position) checkins)

  pub passes_among : (list : CheckinList) (scan : Scan) → may_pass list position scan (checkins_of list.id position checkins) ≡ may_pass list position scan checkins
  passes_among list scan = λ i. is_exit scan.kind || (scan.force || (list.allow_multiple_entries || (not (entry_among list.id i) || (list.allow_entry_after_exit && is_exit_if (last_among list.id i)))))

-- the verdict by a position's own check-ins by the list
pub verdict_by : (list : CheckinList) (position : OrderPos) (scan : Scan) (lists : Lists) (own : List Checkin) (stored passes : Bool) → own ≡ checkins_by list.id position.id lists
    → IsValid list position scan lists → is_stored list.id position.id scan.nonce own ≡ stored → may_pass list position.id scan own ≡ passes
    → verdict (Some list) (Some position) scan lists ≡ (if stored then Ok (Again position) else if passes then Ok (New position) else Err AlreadyRedeemed)
unfolding verdict
verdict_by list position scan lists own stored passes is valid e f =
    let all_stored : is_stored list.id position.id scan.nonce lists.checkins ≡ stored = sym (stored_among position.id lists.checkins list.id scan.nonce) ∙ ap (is_stored list.id position.id scan.nonce) (sym is) ∙ e in
    let all_pass : may_pass list position.id scan lists.checkins ≡ passes = sym (passes_among position.id lists.checkins list scan) ∙ ap (may_pass list position.id scan) (sym is) ∙ f in
    rw (valid.in_force, valid.listed, valid.paid, all_stored, all_pass) refl
