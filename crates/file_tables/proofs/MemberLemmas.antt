-- A quota with its members, and a check-in list with its items.
use Rattle.std.proofs.Common.{◌≡◌, ℕ, ◌+◌, ◌==◌, ◌&&◌, Bool, true, false, cond, not, List, [], ◌∷◌, ◌++◌, length, map, filter, bytes_eq, refl, sym, ap, subst, ◌∙◌, suc, arith}
use Rattle.std.specs.List.Sorted.{IsPermutation}
use Rattle.std.proofs.lemmas.List.Sorted.{length_permutation, list_any-IsPermutation}
use Rattle.sqlite.specs.State.{State}
use Rattle.base_tables.specs.Rising.{rising}
use Rattle.base_tables.proofs.RisingLemmas.{has-rising, rising_in_order}
use Rattle.base_index.proofs.Sorted.{same_ids}
use Rattle.model_catalogue.specs.declared.rows.Quota.{Quota}
use Rattle.model_rows.specs.declared.rows.CheckinList.{CheckinList}
use Rattle.file_rows.specs.Tables.{Tables, Holds}
use Rattle.file_rows.specs.Changes.{Changes, ChangesFit, with_quota, without_quota, with_list, without_list, with_list_item, with_release, without_release}
use Rattle.file_writes.specs.Removed.{AreApart, of_others}
use Rattle.file_meaning.specs.Free.{IsFree}
use Rattle.file_meaning.specs.Links.{are_just}
use Rattle.file_meaning.specs.Made.{links_numbered, put_links, with_limits, without_limits, put_items, put_variations, put_release, put_quota, put_list}
use Rattle.file_tables.specs.Steps.{made_each, next_each}
use Rattle.file_tables.proofs.RowLemmas.{apart}
use Rattle.file_tables.proofs.Steps.{changes_as}

-- each member takes one number
pub next_members : {T : Type 0} (from : ℕ) (xs : List T) → next_each (λ (_ : T) n. n + 1) xs from ≡ from + length xs
next_members from [] = omega arith
next_members from (x ∷ xs) = next_members (from + 1) xs ∙ (let e : from + 1 + length xs ≡ from + suc (length xs) = omega arith in e)

-- ---- members that stand

-- ids in rising order are the same in whatever order they were found
rising_alike : (xs ys : List ℕ) → IsPermutation xs ys → rising xs ≡ rising ys
rising_alike xs ys same =
    same_ids (rising xs) (rising ys) (rising_in_order xs) (rising_in_order ys) (λ k. has-rising k xs ∙ list_any-IsPermutation (λ x. x == k) xs ys same ∙ sym (has-rising k ys))

-- and so is whether they are just these
pub just_alike : (ids xs ys : List ℕ) → IsPermutation xs ys → are_just ids xs ≡ are_just ids ys
just_alike ids xs ys same = ap (λ n. (n == length ids) && bytes_eq (rising xs) ids) (sym (length_permutation xs ys same)) ∙ ap (λ l. (length ys == length ids) && bytes_eq l ids) (rising_alike xs ys same)

module _ {A : Type 0} (row_of : ℕ → ℕ → ℕ → A) (number owner member : A → ℕ) (rows : Tables → List A) (put : List A → Tables → Tables) (with_row : A → Tables → Tables) (are_there : (xs : List A) (t : Tables) → rows (put xs t) ≡ xs)
    (are_same : (t : Tables) → put (rows t) t ≡ t) (are_last : (xs ys : List A) (t : Tables) → put xs (put ys t) ≡ put xs t) (adds : (w : A) (t : Tables) → with_row w t ≡ put (w ∷ rows t) t) where
  abbrev pub added : ℕ → ℕ → List ℕ → Tables → Tables
  added id from ids t = made_each (λ m n. with_row (row_of n id m)) (λ _ n. n + 1) ids from t

  abbrev pub Apart : Tables → Type 0
  Apart t = AreApart number (rows t)

  abbrev row : ℕ → ℕ → ℕ → A
  row id n m = row_of n id m

  -- the tables with the links of an owner
  abbrev pub linked : ℕ → ℕ → List ℕ → Tables → Tables
  linked id from ids t = put (put_links owner member (row id) id from ids (rows t)) t

  -- rows that are numbered one after another
  pub one_by_one : (id from : ℕ) (ids : List ℕ) (t : Tables) → added id from ids t ≡ put (links_numbered (row id) from ids (rows t)) t
  one_by_one id from [] t = sym (are_same t)
  one_by_one id from (m ∷ ids) t =
      let more = row_of from id m ∷ rows t in
      ap (added id (from + 1) ids) (adds (row_of from id m) t) ∙ one_by_one id (from + 1) ids (put more t) ∙ ap (λ xs. put (links_numbered (row id) (from + 1) ids xs) (put more t)) (are_there more t) ∙ are_last _ more t

  abbrev so : ℕ → ℕ → List ℕ → Tables → Bool → Tables
  so id from ids t just = put (cond just (rows t) (links_numbered (row id) from ids (of_others owner id (rows t)))) t

  -- whether the members that stand are just these
  abbrev pub just : ℕ → List ℕ → Tables → Bool
  just id ids t = are_just ids (map member (filter (λ r. owner r == id) (rows t)))

  pub links_stay : (id from : ℕ) (ids : List ℕ) (s0 s1 : State) → ((t : Tables) → Holds s0.now.trees t → true ≡ just id ids t) → Changes (λ t. t) s0 s1 → ChangesFit Apart (linked id from ids) s0 s1
  links_stay id from ids s0 s1 are a = record {
    known = a.known;
    inside = a.inside;
    committed = a.committed;
    listed = a.listed;
    holds = λ t fits held. subst (λ b. Holds s1.now.trees (so id from ids t b)) (are t held) (subst (Holds s1.now.trees) (sym (are_same t)) (a.holds t held));
  }

  pub links_anew : (id from : ℕ) (ids : List ℕ) (s0 s1 s2 s3 : State) → ((t : Tables) → Holds s0.now.trees t → false ≡ just id ids t) → Changes (λ t. t) s0 s1 → ChangesFit Apart (λ t. put (of_others owner id (rows t)) t) s1 s2
      → Changes (added id from ids) s2 s3 → ChangesFit Apart (linked id from ids) s0 s3
  links_anew id from ids s0 s1 s2 s3 other a b c = record {
    known = c.known;
    inside = c.inside;
    committed = c.committed ∙ b.committed ∙ a.committed;
    listed = λ d. c.listed (b.listed (a.listed d));
    holds = λ t fits held.
        let left = of_others owner id (rows t) in
        let h2 : Holds s2.now.trees (put left t) = b.holds t fits (a.holds t held) in
        let is : added id from ids (put left t) ≡ put (links_numbered (row id) from ids left) t =
        one_by_one id from ids (put left t) ∙ ap (λ xs. put (links_numbered (row id) from ids xs) (put left t)) (are_there left t) ∙ are_last _ left t in
        subst (λ b. Holds s3.now.trees (so id from ids t b)) (other t held) (subst (Holds s3.now.trees) is (c.holds (put left t) h2));
  }

-- ---- the whole row

abbrev pub ItemsApart : Tables → Type 0
ItemsApart t = AreApart (λ r. r.rowid) t.quota_items

abbrev pub VariationsApart : Tables → Type 0
VariationsApart t = AreApart (λ r. r.rowid) t.quota_variations

abbrev pub limits_of : ℕ → ℕ → List ℕ → Tables → Tables
limits_of list from ids t = made_each (λ id n. with_list_item (record { rowid = n; list = list; item = id })) (λ _ n. n + 1) ids from t

same_limits : (list from : ℕ) (ids : List ℕ) (t : Tables) → limits_of list from ids t ≡ with_limits list from ids t
same_limits = one_by_one (λ n owner id. record { rowid = n; list = owner; item = id }) (λ r. r.rowid) (λ r. r.list) (λ r. r.item) (λ t. t.list_items) (λ xs t. record t { list_items = xs }) with_list_item (λ xs t. refl) (λ t. refl) (λ xs ys t. refl) (λ w t. refl)

-- ---- whether a quota releases places

abbrev release_so : Quota → Bool → Tables → Tables
release_so w b t = record t { releases = map (λ id. record { quota = id }) (cond b (w.id ∷ []) []) ++ filter (λ r. not (r.quota == w.id)) t.releases }

pub release_put : (w : Quota) (old new : State) → w.release_after_exit ≡ true → Changes (λ t. with_release (record { quota = w.id }) (without_release w.id t)) old new → Changes (put_release w) old new
release_put w old new is h = changes_as (release_so w true) (put_release w) old new (λ t. ap (λ b. release_so w b t) (sym is)) h

pub release_gone : (w : Quota) (old new : State) → w.release_after_exit ≡ false → Changes (without_release w.id) old new → Changes (put_release w) old new
release_gone w old new is h = changes_as (release_so w false) (put_release w) old new (λ t. ap (λ b. release_so w b t) (sym is)) h

pub quota_put : (w : Quota) (from mid : ℕ) (s0 s1 r s2 s3 : State) → mid ≡ from + length w.items → Changes (λ t. with_quota w (without_quota w.id t)) s0 s1 → Changes (put_release w) s1 r
    → ChangesFit ItemsApart (put_items w.id from w.items) r s2 → ChangesFit VariationsApart (put_variations w.id mid w.variations) s2 s3 → ChangesFit (IsFree from) (put_quota w from) s0 s3
quota_put w from mid s0 s1 r s2 s3 is a d b c = record {
  known = c.known;
  inside = c.inside;
  committed = c.committed ∙ b.committed ∙ d.committed ∙ a.committed;
  listed = λ l. c.listed (b.listed (d.listed (a.listed l)));
  holds = λ t free held.
      let t0 = with_quota w (without_quota w.id t) in
      let t1 = put_release w t0 in
      let t2 = put_items w.id from w.items t1 in
      let h2 : Holds s2.now.trees t2 = b.holds t1 (apart (λ r. r.rowid) t.quota_items free.quota_items.apart) (d.holds t0 (a.holds t held)) in
      let h3 : Holds s3.now.trees (put_variations w.id mid w.variations t2) = c.holds t2 (apart (λ r. r.rowid) t.quota_variations free.quota_variations.apart) h2 in
      subst (λ n. Holds s3.now.trees (put_variations w.id n w.variations t2)) is h3;
}

pub list_put : (w : CheckinList) (from : ℕ) (s0 s1 s2 s3 : State) → Changes (λ t. with_list w (without_list w.id t)) s0 s1 → ChangesFit (λ t. AreApart (λ r. r.rowid) t.list_items) (without_limits w.id) s1 s2
    → Changes (limits_of w.id from w.limit_products) s2 s3 → ChangesFit (IsFree from) (put_list w from) s0 s3
list_put w from s0 s1 s2 s3 a b c = record {
  known = c.known;
  inside = c.inside;
  committed = c.committed ∙ b.committed ∙ a.committed;
  listed = λ d. c.listed (b.listed (a.listed d));
  holds = λ t free held.
      let t1 = with_list w (without_list w.id t) in
      let t2 = without_limits w.id t1 in
      let h2 : Holds s2.now.trees t2 = b.holds t1 (apart (λ r. r.rowid) t.list_items free.list_items.apart) (a.holds t held) in
      subst (Holds s3.now.trees) (same_limits w.id from w.limit_products t2) (c.holds t2 h2);
}
