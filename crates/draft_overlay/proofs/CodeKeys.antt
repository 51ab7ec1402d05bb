-- Going back in a log from one voucher of a code to the one before.
use Rattle.std.proofs.Common.{◌≡◌, ◌≢◌, ℕ, zero, suc, ◌+◌, ◌*◌, ◌%◌, ◌<◌, ◌≤◌, ◌⊎◌, inl, inr, Bool, true, false, ◌&&◌, eqb, leb, List, [], ◌∷◌, ◌++◌, length, take, get_or, Option, None, Some, refl, sym, ap, ◌∙◌, subst, arith}
use Rattle.std.proofs.lemmas.Option.{none-some}
use Rattle.std.proofs.lemmas.List.{get_or-take, length-take-le}
use Rattle.std.proofs.lemmas.Bool.Decides.{nat_tests, leb_tells, eqb_tells}
use Rattle.base_values.specs.Texts.{same_text}
use Rattle.model_rows.specs.declared.rows.Voucher.{Voucher}
use Rattle.model_rows.specs.declared.changes.Change.{Change}
use Rattle.model_rows.specs.declared.changes.Change.TheVariants.{PutItem, PutVariation, PutQuota, PutVoucher, PutCart, PutOrder, PutPosition, PutWaiting, DropVoucher, DropCart, DropWaiting, PutCheckinList, PutCheckin}
use Rattle.draft_overlay.specs.Logs.{Log}
pub use Rattle.book_log.proofs.Indexes.{when_ok}
use Rattle.book_log.specs.Places.{further, touches, last_place}
use Rattle.book_log.specs.Puts.{voucher_put}
use Rattle.draft_overlay.specs.Coded.{passes_if, IsLeast, lesser, IsBelow, HasCode, IsPutBelow, put_if}
use Rattle.book_log.specs.Keys.{digest_from, digest, code_key, code_keys}
use Rattle.book_log.proofs.LastPlaces.{last_within, last_passes, some_is}
use Rattle.book_log.proofs.EarlierPlaces.{height}
use Rattle.book_log.proofs.RowSteps.{voucher_touched}
use Rattle.draft_overlay.proofs.Coded.{IsPutAt, lesser_least, least_as, put_is}

-- a place that is at the front or behind it
abbrev pub IsFrom : ℕ → Option ℕ → Type 0
IsFrom front None = ⊥
IsFrom front (Some place) = front ≤ place

-- the last change that touches it is there
abbrev pub IsPutFrom : ℕ → List ℕ → Log → ℕ → Type 0
IsPutFrom front code log id = HasCode code log id × IsFrom front (last_place (touches 3 id) log.changes)

-- behind the last place that passes, none does
module _ {T : Type 0} (passes : T → Bool) where
  pub none_passes : (l : List T) (i : ℕ) (d : T) → last_place passes l ≡ None → i < length l → passes (get_or l i d) ≡ true → ⊥
  none_passes [] i d e lt is = absurd (omega (arith, lt))
  none_passes (x ∷ l) i d e lt is = by_later (λ n. none_passes l n d) (last_place passes l) refl (passes x) refl e
    where
      by_place : (n : ℕ) → n < suc (length l) → passes (get_or (x ∷ l) n d) ≡ true → ((m : ℕ) → last_place passes l ≡ None → m < length l → passes (get_or l m d) ≡ true → ⊥) → last_place passes l ≡ None → passes x ≡ false → ⊥
      by_place zero lt is more none here = cc (sym here ∙ is)
      by_place (suc n) lt is more none here = more n none (omega (arith, lt)) is

      by_later : ((m : ℕ) → last_place passes l ≡ None → m < length l → passes (get_or l m d) ≡ true → ⊥) → (o : Option ℕ) → last_place passes l ≡ o → (b : Bool) → passes x ≡ b → further b o ≡ None → ⊥
      by_later more (Some j) later b here e = none-some (suc j) (sym e)
      by_later more None later true here e = none-some 0 (sym e)
      by_later more None later false here e = by_place i lt is more later here

  pub last_is_last : (l : List T) (i j : ℕ) (d : T) → last_place passes l ≡ Some i → i < j → j < length l → passes (get_or l j d) ≡ true → ⊥
  last_is_last [] i j d e more lt is = absurd (omega (arith, lt))
  last_is_last (x ∷ l) i zero d e more lt is = absurd (omega (arith, more))
  last_is_last (x ∷ l) i (suc j) d e more lt is = by_later (λ k later before. last_is_last l k j d later before (omega (arith, lt)) is) (last_place passes l) refl (passes x) e
    where
      by_later : ((k : ℕ) → last_place passes l ≡ Some k → k < j → ⊥) → (o : Option ℕ) → last_place passes l ≡ o → (b : Bool) → further b o ≡ Some i → ⊥
      by_later rest (Some k) later b e =
          let same : suc k ≡ i = some_is (suc k) i e in
          rest k later (omega (arith, more, same))
      by_later rest None later true e = none_passes l j d later (omega (arith, lt)) is
      by_later rest None later false e = absurd (none-some i e)

-- texts that are the same have the same digest
pub same_digest : (h : ℕ) (a b : List ℕ) → same_text a b ≡ true → digest_from h a ≡ digest_from h b
unfolding digest_from
same_digest h [] [] e = refl
same_digest h [] (y ∷ ys) e = absurd (cc)
same_digest h (x ∷ xs) [] e = absurd (cc)
same_digest h (x ∷ xs) (y ∷ ys) e = by_first (eqb_tells x y) e (λ more. same_digest ((h * 257 + x) % 4093) xs ys more)
  where
    by_first : ((eqb x y ≡ true) × (x ≡ y)) ⊎ ((eqb x y ≡ false) × (x ≢ y)) → (eqb x y && same_text xs ys) ≡ true → (same_text xs ys ≡ true → digest_from ((h * 257 + x) % 4093) xs ≡ digest_from ((h * 257 + x) % 4093) ys) → digest_from ((h * 257 + x) % 4093) xs ≡ digest_from ((h * 257 + y) % 4093) ys
    by_first (inl t) e more = more (ap (λ c. c && same_text xs ys) (sym t.0) ∙ e) ∙ ap (λ z. digest_from ((h * 257 + z) % 4093) ys) t.1
    by_first (inr t) e more = absurd (cc (sym (ap (λ c. c && same_text xs ys) t.0) ∙ e))

pub key_at : (changes : List Change) (i : ℕ) (d : Change) (k : ℕ) → i < length changes → get_or (code_keys changes) i k ≡ code_key (get_or changes i d)
key_at [] i d k lt = absurd (omega (arith, lt))
key_at (c ∷ changes) zero d k lt = refl
key_at (c ∷ changes) (suc i) d k lt = key_at changes i d k (omega (arith, lt))

pub as_many : (changes : List Change) → length (code_keys changes) ≡ length changes
as_many [] = refl
as_many (c ∷ changes) = ap suc (as_many changes)

pub keys_front : (count : ℕ) (changes : List Change) → take count (code_keys changes) ≡ code_keys (take count changes)
keys_front zero changes = refl
keys_front (suc count) [] = refl
keys_front (suc count) (c ∷ changes) = ap (λ (l : List ℕ). code_key c ∷ l) (keys_front count changes)

pub keys_push : (changes : List Change) (change : Change) → code_keys (changes ++ change ∷ []) ≡ code_keys changes ++ code_key change ∷ []
keys_push [] change = refl
keys_push (c ∷ changes) change = ap (λ (l : List ℕ). code_key c ∷ l) (keys_push changes change)

module _ (code : List ℕ) (log : Log) where
  abbrev has : ℕ → Bool
  has k = eqb k (digest code)

  abbrev keys : List ℕ
  keys = code_keys log.changes

  -- the last change of a voucher that has the code has its key
  coded : (id place k : ℕ) → HasCode code log id → last_place (touches 3 id) log.changes ≡ Some place → has (get_or keys place k) ≡ true
  coded id place k is last =
      let d : Change = DropWaiting 0 in
      let lt = last_within (touches 3 id) log.changes place last in
      ap has (key_at log.changes place d k lt) ∙ by_change (get_or log.changes place d) (sym (ap (passes_if (λ (v : Voucher). same_text v.code code)) (voucher_touched id log.changes log.base d place last)) ∙ is)
    where
      own : (n : ℕ) → eqb n n ≡ true
      own n = grind (arith, nat_tests)

      by_change : (change : Change) → passes_if (λ (v : Voucher). same_text v.code code) (voucher_put change) ≡ true → has (code_key change) ≡ true
      by_change (PutVoucher row) e = ap (λ n. eqb n (digest code)) (same_digest 0 row.code code e) ∙ own (digest code)
      by_change (PutItem row) e = absurd (cc)
      by_change (PutVariation row) e = absurd (cc)
      by_change (PutQuota row) e = absurd (cc)
      by_change (PutCart row) e = absurd (cc)
      by_change (PutOrder row) e = absurd (cc)
      by_change (PutPosition row) e = absurd (cc)
      by_change (PutWaiting row) e = absurd (cc)
      by_change (PutCheckinList row) e = absurd (cc)
      by_change (PutCheckin row) e = absurd (cc)
      by_change (DropVoucher id) e = absurd (cc)
      by_change (DropCart id) e = absurd (cc)
      by_change (DropWaiting id) e = absurd (cc)

  -- so far the walk back has seen all from this place on
  pub record IsWalked (found least : Option ℕ) : Type 0 where
    pub front : ℕ
    pub within : front ≤ length log.changes
    pub is : found ≡ last_place has (take front keys)
    pub least_is : IsLeast (IsPutFrom front code log) least

  all_keys : take (length log.changes) keys ≡ keys
  all_keys = keys_front (length log.changes) log.changes ∙ ap code_keys (whole log.changes)
    where
      whole : (l : List Change) → take (length l) l ≡ l
      whole [] = refl
      whole (c ∷ l) = ap (λ (r : List Change). c ∷ r) (whole l)

  pub walk_starts : (found : Option ℕ) → found ≡ last_place has keys → IsWalked found None
  walk_starts found is = record {
    front = length log.changes;
    within = omega arith;
    is = is ∙ ap (last_place has) (sym all_keys);
    least_is = λ id from. by_place id (last_place (touches 3 id) log.changes) refl from.1;
  }
    where
      by_place : (id : ℕ) (o : Option ℕ) → last_place (touches 3 id) log.changes ≡ o → IsFrom (length log.changes) o → ⊥
      by_place id None e from = from
      by_place id (Some p) e from = absurd (omega (arith, from, last_within (touches 3 id) log.changes p e))

  module _ (place : ℕ) (least : Option ℕ) (walked : IsWalked (Some place) least) where
    front_is : length (take walked.front keys) ≡ walked.front
    front_is = length-take-le walked.front keys (omega (arith, walked.within, as_many log.changes))

    pub walk_lt : place < walked.front
    walk_lt = omega (arith, last_within has (take walked.front keys) place (sym walked.is), front_is)

    pub walk_within : place < length log.changes
    walk_within = omega (arith, walk_lt, walked.within)

    pub walk_key : (k : ℕ) → get_or keys place k ≡ digest code
    walk_key k =
        let passes : has (get_or keys place k) ≡ true = ap has (sym (get_or-take walked.front keys place k walk_lt)) ∙ last_passes has (take walked.front keys) place k (sym walked.is) in
        grind (arith, nat_tests, passes)

    -- one place further back
    pub walk_goes_on : (d : Change) (k : ℕ) (next found : Option ℕ) → next ≡ last_place (λ x. eqb x (get_or keys place k)) (take place keys) → found ≡ put_if code place log (get_or log.changes place d) → IsWalked next (lesser least found)
    walk_goes_on d k next found next_is found_is = record {
      front = place;
      within = omega (arith, walk_within);
      is = next_is ∙ ap (λ n. last_place (λ x. eqb x n) (take place keys)) (walk_key k);
      least_is = lesser_least (IsPutFrom walked.front code log) (IsPutAt place code log) (IsPutFrom place code log) later here split least found walked.least_is (subst (λ o. IsLeast (IsPutAt place code log) o) (sym found_is) (put_is code log place d));
    }
      where
        later : (id : ℕ) → IsPutFrom walked.front code log id → IsPutFrom place code log id
        later id from = (from.0, weaker (last_place (touches 3 id) log.changes) from.1)
          where
            weaker : (o : Option ℕ) → IsFrom walked.front o → IsFrom place o
            weaker None f = f
            weaker (Some p) f = omega (arith, f, walk_lt)

        here : (id : ℕ) → IsPutAt place code log id → IsPutFrom place code log id
        here id at = (at.0, subst (λ o. IsFrom place o) (sym at.1) (omega arith))

        split : (id : ℕ) → IsPutFrom place code log id → IsPutFrom walked.front code log id ⊎ IsPutAt place code log id
        split id from = by_place (last_place (touches 3 id) log.changes) refl from.1
          where
            by_place : (o : Option ℕ) → last_place (touches 3 id) log.changes ≡ o → IsFrom place o → IsPutFrom walked.front code log id ⊎ IsPutAt place code log id
            by_place None e f = absurd f
            by_place (Some p) e f = by_order (eqb_tells p place) (leb_tells walked.front p)
              where
                by_order : ((eqb p place ≡ true) × (p ≡ place)) ⊎ ((eqb p place ≡ false) × (p ≢ place)) → ((leb walked.front p ≡ true) × (walked.front ≤ p)) ⊎ ((leb walked.front p ≡ false) × (p < walked.front)) → IsPutFrom walked.front code log id ⊎ IsPutAt place code log id
                by_order (inl t) s = inr (from.0, e ∙ ap (λ n. Some n) t.1)
                by_order (inr t) (inl s) = inl (from.0, subst (λ o. IsFrom walked.front o) (sym e) s.1)
                by_order (inr t) (inr s) =
                    let passes : has (get_or (take walked.front keys) p 0) ≡ true = ap has (get_or-take walked.front keys p 0 s.1) ∙ coded id p 0 from.0 e in
                    absurd (last_is_last has (take walked.front keys) place p 0 (sym walked.is) (omega (arith, f, t.1)) (omega (arith, s.1, front_is)) passes)

    pub walk_lowers : (k : ℕ) (next : Option ℕ) → next ≡ last_place (λ x. eqb x (get_or keys place k)) (take place keys) → height next < suc place
    walk_lowers k None is = omega arith
    walk_lowers k (Some p) is =
        let short = length-take-le place keys (omega (arith, walk_within, as_many log.changes)) in
        omega (arith, last_within (λ x. eqb x (get_or keys place k)) (take place keys) p (sym is), short)

  -- at the end it has seen all
  pub walk_ends : (least : Option ℕ) → IsWalked None least → IsLeast (IsPutBelow (length log.changes) code log) least
  walk_ends least walked = least_as (IsPutFrom walked.front code log) (IsPutBelow (length log.changes) code log) there back least walked.least_is
    where
      there : (id : ℕ) → IsPutFrom walked.front code log id → IsPutBelow (length log.changes) code log id
      there id from = (from.0, by_place (last_place (touches 3 id) log.changes) refl from.1)
        where
          by_place : (o : Option ℕ) → last_place (touches 3 id) log.changes ≡ o → IsFrom walked.front o → IsBelow (length log.changes) o
          by_place None e f = f
          by_place (Some p) e f = last_within (touches 3 id) log.changes p e

      back : (id : ℕ) → IsPutBelow (length log.changes) code log id → IsPutFrom walked.front code log id
      back id below = (below.0, by_place (last_place (touches 3 id) log.changes) refl below.1)
        where
          by_place : (o : Option ℕ) → last_place (touches 3 id) log.changes ≡ o → IsBelow (length log.changes) o → IsFrom walked.front o
          by_place None e f = f
          by_place (Some p) e f = by_order (leb_tells walked.front p)
            where
              by_order : ((leb walked.front p ≡ true) × (walked.front ≤ p)) ⊎ ((leb walked.front p ≡ false) × (p < walked.front)) → walked.front ≤ p
              by_order (inl s) = s.1
              by_order (inr s) =
                  let passes : has (get_or (take walked.front keys) p 0) ≡ true = ap has (get_or-take walked.front keys p 0 s.1) ∙ coded id p 0 below.0 e in
                  absurd (none_passes has (take walked.front keys) p 0 (sym walked.is) (omega (arith, s.1, length-take-le walked.front keys (omega (arith, walked.within, as_many log.changes)))) passes)
