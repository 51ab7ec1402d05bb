-- How far what a draft counts reaches: with one more change, and gone back to an earlier one.
use Rattle.std.proofs.Common.{◌≡◌, ℕ, zero, suc, ◌+◌, ◌<◌, ◌≤◌, List, [], ◌∷◌, ◌++◌, length, take, get_or, ◌⊎◌, inl, inr, refl, sym, ap, ◌∙◌, subst, arith, length-append}
use Rattle.std.proofs.Math.Seq.{take-length}
use Rattle.std.proofs.lemmas.Bool.{cases_lt}
use Rattle.std.proofs.lemmas.List.{take-append-le, take-take, take_all, length-take-le, get_or_past}
use Rattle.model_rows.specs.declared.changes.Change.{Change}
use Rattle.model_rows.specs.Change.{after_change}
use Rattle.model_rows.specs.Headroom.{AllHaveHeadroom}
use Rattle.model_rows.specs.Kept.{IsKept}
use Rattle.model_rows.specs.Lists.{Lists, State}
use Rattle.draft_counts.specs.Logs.{Log, rows_of}
use Rattle.draft_counts.proofs.Logs.{after_all-push}
use Rattle.model_rows.specs.declared.rows.Usage.{Usage}
use Rattle.book_tally.specs.declared.amount.Uses.{Uses}
use Rattle.book_tally.specs.declared.tally.Count.{Count}
use Rattle.book_tally.specs.Counts.{GoesOn}
use Rattle.book_tally.proofs.Newest.{on_longer, on_front}
use Rattle.draft_counts.specs.declared.tallies.JournalMark.{JournalMark}
use Rattle.draft_counts.specs.declared.tallies.RowCounts.{RowCounts}
use Rattle.draft_counts.specs.Tallied.{Tallied, reach_now, reach_at, tallied_at, IsNext}
use Rattle.draft_changes.specs.declared.bases.Base.{Base}
use Rattle.draft_changes.specs.Used.{AreBases}
use Rattle.draft_changes.specs.CanCome.{CanCome}
use Rattle.draft_changes.specs.DraftState.{log_at, IsTallied, IsBelow, IsDraft}
use Rattle.draft_changes.proofs.CanCome.{headroom_after, can_sell}
use Rattle.draft_changes.specs.Handed.{vouchers_by, AreNoted}
use Rattle.draft_changes.proofs.HandedLemmas.{noted_more, noted_front}
use Rattle.draft_changes.proofs.Still.{counted_more, kept_more}

-- ---- lists
before_last : {T : Type 0} (xs : List T) (x d : T) (n : ℕ) → n ≤ length xs → get_or (xs ++ x ∷ []) n d ≡ get_or xs n x
before_last [] x d zero le = refl
before_last [] x d (suc n) le = absurd (omega (arith, le))
before_last (y ∷ ys) x d zero le = refl
before_last (y ∷ ys) x d (suc n) le = before_last ys x d n (omega (arith, le))

of_front : {T : Type 0} (xs : List T) (n count : ℕ) (d : T) → count ≤ n → n ≤ length xs → get_or (take n xs) count (get_or xs n d) ≡ get_or xs count d
of_front xs zero zero d le within = refl
of_front xs zero (suc count) d le within = absurd (omega (arith, le))
of_front [] (suc n) count d le within = absurd (omega (arith, within))
of_front (x ∷ xs) (suc n) zero d le within = refl
of_front (x ∷ xs) (suc n) (suc count) d le within = of_front xs n count d (omega (arith, le)) (omega (arith, within))

-- ---- what is counted, by its parts
abbrev parts : List (Count Usage) → List (Count Uses) → RowCounts → List JournalMark → Tallied
parts counts uses here reached = record { counts = counts; uses = uses; here = here; reached = reached }

same_parts : (counts counts' : List (Count Usage)) (uses uses' : List (Count Uses)) (here here' : RowCounts) (reached reached' : List JournalMark) → counts ≡ counts' → uses ≡ uses' → here ≡ here' → reached ≡ reached' → parts counts uses here reached ≡ parts counts' uses' here' reached'
same_parts counts counts' uses uses' here here' reached reached' a b c d =
    ap (λ (l : List (Count Usage)). parts l uses here reached) a ∙ ap (λ (l : List (Count Uses)). parts counts' l here reached) b ∙ ap (λ (s : RowCounts). parts counts' uses' s reached) c ∙ ap (λ (l : List JournalMark). parts counts' uses' here' l) d

pub log_whole : (log : Log) → log_at (length log.changes) log ≡ log
log_whole log = ap (λ (l : List Change). record log { changes = l }) (take-length log.changes)

-- after all changes it is what is counted now
pub tallied_whole : (n : ℕ) (t : Tallied) → n ≡ length t.reached → tallied_at n t ≡ t
tallied_whole n t each =
    let here : reach_at n t ≡ reach_now t = get_or_past t.reached n (reach_now t) (omega (arith, each)) in
    same_parts (take (reach_at n t).counts t.counts) t.counts (take (reach_at n t).uses t.uses) t.uses (reach_at n t).here t.here (take n t.reached) t.reached
    (ap (λ (r : JournalMark). take r.counts t.counts) here ∙ take-length t.counts)
    (ap (λ (r : JournalMark). take r.uses t.uses) here ∙ take-length t.uses)
    (ap (λ (r : JournalMark). r.here) here)
    (take_all n t.reached (omega (arith, each)))

-- with one more change the earlier ones are counted as before
module _ (old new : Tallied) (counts : GoesOn old.counts new.counts) (uses : GoesOn old.uses new.uses) (reached : new.reached ≡ old.reached ++ reach_now old ∷ []) where
  pub reach_before : (count : ℕ) → count ≤ length old.reached → reach_at count new ≡ reach_at count old
  reach_before count le = ap (λ (l : List JournalMark). get_or l count (reach_now new)) reached ∙ before_last old.reached (reach_now old) (reach_now new) count le

  pub tallied_before : (count : ℕ) → count ≤ length old.reached → (reach_at count old).counts ≤ length old.counts → (reach_at count old).uses ≤ length old.uses → tallied_at count new ≡ tallied_at count old
  tallied_before count le within within_uses =
      let here = reach_before count le in
      let r = reach_at count old in
      same_parts (take (reach_at count new).counts new.counts) (take r.counts old.counts) (take (reach_at count new).uses new.uses) (take r.uses old.uses) (reach_at count new).here r.here (take count new.reached) (take count old.reached)
      (ap (λ (q : JournalMark). take q.counts new.counts) here ∙ on_front old.counts new.counts r.counts within counts)
      (ap (λ (q : JournalMark). take q.uses new.uses) here ∙ on_front old.uses new.uses r.uses within_uses uses)
      (ap (λ (q : JournalMark). q.here) here)
      (ap (λ (l : List JournalMark). take count l) reached ∙ take-append-le count old.reached (reach_now old ∷ []) le)

-- what is counted stays right with one more change
pub tallied_more : (at : ℕ) (log : Log) (change : Change) (old new : Tallied) → {limit : ℕ} → IsKept limit (rows_of log) → CanCome at log change → IsTallied at log old → IsNext at change (rows_of log) log.base.catalogue.quotas old new → IsTallied at (record log { changes = log.changes ++ change ∷ [] }) new
tallied_more at log change old new {limit} kept can is next =
    let pushed : Log = record log { changes = log.changes ++ change ∷ [] } in
    let rows : rows_of pushed ≡ after_change change (rows_of log) = after_all-push log.changes change log.base in
    record {
      counted = counted_more at log change old.counts new.counts limit kept can is.counted next.counts;
      carts = next.carts ∙ sym (ap (λ (lists : Lists). length lists.carts) rows);
      vouchers = next.vouchers ∙ sym (ap (λ (lists : Lists). length lists.vouchers) rows);
      headroom = subst (λ (lists : Lists). AllHaveHeadroom at lists) (sym rows) (headroom_after at log change can);
      kept = kept_more at log change old.uses new.uses limit kept (can_sell at log change can) is.kept next.uses;
      each = omega (arith, ap (λ (l : List JournalMark). length l) next.reached, length-append old.reached (reach_now old ∷ []), length-append log.changes (change ∷ []), is.each);
    }

-- ---- a draft
module _ (book : State) (log : Log) (at : ℕ) (t : Tallied) (bases : List Base) (noted : List ℕ) (is : IsDraft book log at t bases noted) where
  -- after so many changes, or after all of them
  pub tallied_upto : (count : ℕ) → count ≤ length log.changes → IsTallied at (log_at count log) (tallied_at count t)
  tallied_upto count le = elim (cases_lt count (length log.changes)) [
    | inl below ↦ is.before count below
    | inr above ↦
        let same : length log.changes ≡ count = omega (arith, above, le) in
        let whole = tallied_whole (length log.changes) t (sym is.now.each) in
        subst (λ (n : ℕ). IsTallied at (log_at n log) (tallied_at n t)) same (subst (λ (l : Log). IsTallied at l (tallied_at (length log.changes) t)) (sym (log_whole log)) (subst (λ (u : Tallied). IsTallied at log u) (sym whole) is.now))
  ]

  reach_last : reach_at (length log.changes) t ≡ reach_now t
  reach_last = get_or_past t.reached (length log.changes) (reach_now t) (omega (arith, is.now.each))

  pub reach_within : (count : ℕ) → count ≤ length log.changes → (reach_at count t).counts ≤ length t.counts
  reach_within count le = omega (arith, (is.rising count (length log.changes) le (omega arith)).counts, ap (λ (r : JournalMark). r.counts) reach_last)

  pub uses_within : (count : ℕ) → count ≤ length log.changes → (reach_at count t).uses ≤ length t.uses
  uses_within count le = omega (arith, (is.rising count (length log.changes) le (omega arith)).uses, ap (λ (r : JournalMark). r.uses) reach_last)

  -- with one more change
  pub draft_more : (change : Change) (new : Tallied) (asked : List Base) (more : List ℕ) → more ≡ noted ++ vouchers_by change → IsTallied at (record log { changes = log.changes ++ change ∷ [] }) new
      → GoesOn t.counts new.counts → GoesOn t.uses new.uses → new.reached ≡ t.reached ++ reach_now t ∷ [] → AreBases book.lists at asked
      → IsDraft book (record log { changes = log.changes ++ change ∷ [] }) at new asked more
  draft_more change new asked more more_is now counts uses reached known = record {
    each_noted = noted_more log.changes noted change more more_is is.each_noted;
    base = is.base;
    past = is.past;
    asked = known;
    now = now;
    before = λ count lt. earlier count (omega (arith, lt, one_more));
    rising = λ count more le within. by_more count more le within (cases_lt (length log.changes) more);
  }
    where
      one_more : length (log.changes ++ change ∷ []) ≡ length log.changes + 1
      one_more = omega (arith, length-append log.changes (change ∷ []))

      earlier : (count : ℕ) → count ≤ length log.changes → IsTallied at (log_at count (record log { changes = log.changes ++ change ∷ [] })) (tallied_at count new)
      earlier count le =
          let same = tallied_before t new counts uses reached count (omega (arith, le, is.now.each)) (reach_within count le) (uses_within count le) in
          subst (λ (u : Tallied). IsTallied at (log_at count (record log { changes = log.changes ++ change ∷ [] })) u) (sym same)
          (subst (λ (l : List Change). IsTallied at (record log { changes = l }) (tallied_at count t)) (sym (take-append-le count log.changes (change ∷ []) le)) (tallied_upto count le))

      same_reach : (count : ℕ) → count ≤ length log.changes → reach_at count new ≡ reach_at count t
      same_reach count le = reach_before t new counts uses reached count (omega (arith, le, is.now.each))

      by_more : (count more : ℕ) → count ≤ more → more ≤ length (log.changes ++ change ∷ []) → (length log.changes < more) ⊎ (more ≤ length log.changes) → IsBelow (reach_at count new) (reach_at more new)
      by_more count more le within (inr few) =
          subst (λ (r : JournalMark). IsBelow r (reach_at more new)) (sym (same_reach count (omega (arith, le, few))))
          (subst (λ (r : JournalMark). IsBelow (reach_at count t) r) (sym (same_reach more few)) (is.rising count more le few))
      by_more count more le within (inl all) =
          let last : reach_at more new ≡ reach_now new = get_or_past new.reached more (reach_now new) (omega (arith, all, now.each, one_more)) in
          by_count (cases_lt (length log.changes) count) last
        where
          by_count : (length log.changes < count) ⊎ (count ≤ length log.changes) → reach_at more new ≡ reach_now new → IsBelow (reach_at count new) (reach_at more new)
          by_count (inl late) last =
              let same : more ≡ count = omega (arith, le, late, within, one_more) in
              subst (λ (n : ℕ). IsBelow (reach_at n new) (reach_at more new)) same (record { counts = omega arith; uses = omega arith })
          by_count (inr few) last =
              subst (λ (r : JournalMark). IsBelow r (reach_at more new)) (sym (same_reach count few))
              (subst (λ (r : JournalMark). IsBelow (reach_at count t) r) (sym last)
              (record {
                counts = omega (arith, reach_within count few, on_longer t.counts new.counts counts);
                uses = omega (arith, uses_within count few, on_longer t.uses new.uses uses);
              }))

  -- gone back
  -- with more that is noted
  pub draft_noted : (more : List ℕ) → AreNoted log.changes more → IsDraft book log at t bases more
  draft_noted more are = record { base = is.base; past = is.past; asked = is.asked; now = is.now; before = is.before; each_noted = are; rising = is.rising }

  pub draft_back : (n : ℕ) → n ≤ length log.changes → IsDraft book (log_at n log) at (tallied_at n t) bases noted
  draft_back n within = record {
    each_noted = noted_front log.changes noted n is.each_noted;
    base = is.base;
    past = is.past;
    asked = is.asked;
    now = tallied_upto n within;
    before = λ count lt. earlier count (omega (arith, lt, taken));
    rising = λ count more le few. below count more le (omega (arith, few, taken));
  }
    where
      taken : length (take n log.changes) ≡ n
      taken = length-take-le n log.changes within

      now_is : reach_now (tallied_at n t) ≡ reach_at n t
      now_is =
          let r = reach_at n t in
          ap {B = JournalMark} (λ (m : ℕ). record { counts = m; uses = length (take r.uses t.uses); here = r.here }) (length-take-le r.counts t.counts (reach_within n within))
          ∙ ap {B = JournalMark} (λ (m : ℕ). record { counts = r.counts; uses = m; here = r.here }) (length-take-le r.uses t.uses (uses_within n within))

      same_reach : (count : ℕ) → count ≤ n → reach_at count (tallied_at n t) ≡ reach_at count t
      same_reach count le = ap (λ (d : JournalMark). get_or (take n t.reached) count d) now_is ∙ of_front t.reached n count (reach_now t) le (omega (arith, within, is.now.each))

      same : (count : ℕ) → count ≤ n → tallied_at count (tallied_at n t) ≡ tallied_at count t
      same count le =
          let here = same_reach count le in
          let r = reach_at count t in
          let last = reach_at n t in
          let front = tallied_at n t in
          same_parts (take (reach_at count front).counts (take last.counts t.counts)) (take r.counts t.counts) (take (reach_at count front).uses (take last.uses t.uses)) (take r.uses t.uses) (reach_at count front).here r.here (take count (take n t.reached)) (take count t.reached)
          (ap (λ (q : JournalMark). take q.counts (take last.counts t.counts)) here ∙ take-take r.counts last.counts t.counts (is.rising count n le within).counts)
          (ap (λ (q : JournalMark). take q.uses (take last.uses t.uses)) here ∙ take-take r.uses last.uses t.uses (is.rising count n le within).uses)
          (ap (λ (q : JournalMark). q.here) here)
          (take-take count n t.reached le)

      earlier : (count : ℕ) → count ≤ n → IsTallied at (log_at count (log_at n log)) (tallied_at count (tallied_at n t))
      earlier count le =
          subst (λ (u : Tallied). IsTallied at (log_at count (log_at n log)) u) (sym (same count le))
          (subst (λ (l : List Change). IsTallied at (record log { changes = l }) (tallied_at count t)) (sym (take-take count n log.changes le)) (tallied_upto count (omega (arith, le, within))))

      below : (count more : ℕ) → count ≤ more → more ≤ n → IsBelow (reach_at count (tallied_at n t)) (reach_at more (tallied_at n t))
      below count more le few =
          subst (λ (r : JournalMark). IsBelow r (reach_at more (tallied_at n t))) (sym (same_reach count (omega (arith, le, few))))
          (subst (λ (r : JournalMark). IsBelow (reach_at count t) r) (sym (same_reach more few)) (is.rising count more le (omega (arith, few, within))))
