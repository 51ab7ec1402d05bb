-- Counting the quotas that a change can touch counts them all.
use Rattle.std.proofs.Common.{◌≡◌, ◌≢◌, OnOk, OnErr, Result, Ok, Err, ℕ, zero, suc, ◌+◌, ◌<◌, ◌⊎◌, inl, inr, Bool, true, false, eqb, List, [], ◌∷◌, ◌++◌, length, take, get_or, count_by, Option, Some, None, refl, sym, ap, ◌∙◌, arith}
use Rattle.std.specs.Prelude.{◌||◌, if◌then◌else◌, map, filter}
use Rattle.std.specs.List.{AllByRecursion}
use Rattle.std.specs.Result.{is_err}
use Rattle.std.proofs.lemmas.Bool.Decides.{nat_tests, eqb_tells}
use Rattle.std.proofs.lemmas.List.{take_more}
use Rattle.base_tables.specs.Tables.{has, row_at, InOrderFrom, AreInOrder, IsPlace, IsGap}
use Rattle.base_tables.specs.Rising.{rising}
use Rattle.base_tables.proofs.Appended.{has-append, neither}
use Rattle.base_tables.proofs.Edits.{row_at_above}
use Rattle.base_tables.proofs.Places.{at_least, row_at_gap}
use Rattle.base_tables.proofs.RisingLemmas.{has-rising}
use Rattle.model_catalogue.specs.declared.rows.Quota.{Quota}
use Rattle.model_catalogue.specs.declared.rows.Product.{Product}
use Rattle.model_catalogue.specs.CatalogueLists.{CatalogueLists, quota_at}
use Rattle.model_catalogue.specs.Kept.{quotas_of}
use Rattle.model_catalogue.specs.Member.{is_in}
use Rattle.model_rows.proofs.Found.{each_found}
use Rattle.model_rows.specs.declared.rows.Usage.{Usage}
use Rattle.book_tally.specs.declared.tally.Count.{Count}
use Rattle.book_tally.specs.Amounts.{nothing, plus}
use Rattle.book_tally.specs.Counts.{came, went, GoesOn}
use Rattle.book_tally.proofs.AmountLemmas.{same_usage, alone, plus_both}
use Rattle.book_tally.proofs.Newest.{on_same, on_both}
use Rattle.draft_counts.specs.Counts.{value_at, IsMore}
use Rattle.draft_counts.specs.Touched.{IsOther, NoOther, NoneElse, Keeps, among, at_id}
use Rattle.draft_counts.proofs.Values.{count_push}

-- ---- ids behind others

pub absent_more : (old more new : List ℕ) → new ≡ old ++ more → (id : ℕ) → has id new ≡ false → has id more ≡ false
absent_more old more new is id h = (neither (has id old) (has id more) (sym (ap (has id) is ∙ has-append id old more) ∙ h)).1

pub keeps_both : (a b c : List ℕ) → Keeps a b → Keeps b c → Keeps a c
keeps_both a b c x y id h = x id (y id h)

other_before : (old new : List ℕ) (lists : CatalogueLists) (quota : Quota) → Keeps old new → IsOther new lists quota → IsOther old lists quota
other_before old new lists quota keeps other = record { stands = other.stands; absent = keeps quota.id other.absent }

pub no_other_more : (old new : List ℕ) (lists : CatalogueLists) (test : Quota → Bool) → Keeps old new → NoOther old lists test → NoOther new lists test
no_other_more old new lists test keeps none quota other = none quota (other_before old new lists quota keeps other)

pub none_else_more : {A : Type 0} (none : A) (old new : List ℕ) (lists : CatalogueLists) (count : Quota → A) → Keeps old new → NoneElse none old lists count → NoneElse none new lists count
none_else_more none old new lists count keeps is quota other = is quota (other_before old new lists quota keeps other)

-- ---- the quotas of a product
listed_at : (test : Quota → Bool) (id : ℕ) (q : Quota) (quotas : List Quota) → row_at (λ r. r.id) id quotas ≡ Some q → has id (map (λ (r : Quota). r.id) (filter test quotas)) ≡ false → q.id ≡ id → test q ≡ false
listed_at test id q [] found absent own = absurd (cc found)
listed_at test id q (r ∷ rs) found absent own = by_tests (test r) refl (eqb_tells r.id id) found absent (listed_at test id q rs)
  where
    some : (a b : Quota) → Some a ≡ Some b → a ≡ b
    some a b e = cc e

    by_tests : (b : Bool) → test r ≡ b → ((eqb r.id id ≡ true) × (r.id ≡ id)) ⊎ ((eqb r.id id ≡ false) × (r.id ≢ id))
        → (let o : Option Quota = if eqb r.id id then Some r else row_at (λ r. r.id) id rs in o ≡ Some q) → has id (map (λ (r : Quota). r.id) (if b then r ∷ filter test rs else filter test rs)) ≡ false
        → (row_at (λ r. r.id) id rs ≡ Some q → has id (map (λ (r : Quota). r.id) (filter test rs)) ≡ false → q.id ≡ id → test q ≡ false) → test q ≡ false
    by_tests true is (inl e) found absent more = absurd (cc (sym (ap (λ x. x || has id (map (λ (r : Quota). r.id) (filter test rs))) e.0) ∙ absent))
    by_tests true is (inr e) found absent more = more (rw e.0 at found) (rw e.0 at absent) own
    by_tests false is (inl e) found absent more = ap test (sym (some r q (rw e.0 at found))) ∙ is
    by_tests false is (inr e) found absent more = more (rw e.0 at found) absent own

-- no other quota has the product
pub no_other_of : (ids : List ℕ) (lists : CatalogueLists) (product : Product) → ((id : ℕ) → has id ids ≡ false → has id (quotas_of product lists) ≡ false) → NoOther ids lists (λ q. is_in q product)
no_other_of ids lists product all quota other = listed_at (λ q. is_in q product) quota.id quota lists.quotas other.stands (all quota.id other.absent) refl

-- ---- places
module _ {T : Type 0} (key : T → ℕ) (f : T → Usage) (id : ℕ) where
  pub value_absent : (rows : List T) (place : ℕ) → row_at key id rows ≡ None → value_at nothing (λ r. if eqb (key r) id then f r else nothing) rows place ≡ nothing
  value_absent [] place none = refl
  value_absent (r ∷ rs) place none = by_id (eqb (key r) id) refl none place (value_absent rs)
    where
      by_id : (b : Bool) → eqb (key r) id ≡ b → (let o : Option T = if b then Some r else row_at key id rs in o ≡ None) → (place : ℕ) → ((place : ℕ) → row_at key id rs ≡ None → value_at nothing (λ r. if eqb (key r) id then f r else nothing) rs place ≡ nothing) → value_at nothing (λ r. if eqb (key r) id then f r else nothing) (r ∷ rs) place ≡ nothing
      by_id true is none place more = absurd (cc none)
      by_id false is none zero more = rw is refl
      by_id false is none (suc place) more = more place none

  pub value_placed : (n : ℕ) (rows : List T) (at place : ℕ) (d : T) → InOrderFrom key n rows → IsPlace key rows id at → value_at nothing (λ r. if eqb (key r) id then f r else nothing) rows place ≡ (if eqb at place then f (get_or rows at d) else nothing)
  value_placed n [] at place d h p = absurd (omega (arith, p.in_range))
  value_placed n (r ∷ rs) zero zero d h p = let own : eqb (key r) id ≡ true = grind (arith, nat_tests, p.has_id r) in rw own refl
  value_placed n (r ∷ rs) zero (suc place) d h p =
      let other : eqb 0 (suc place) ≡ false = grind (arith, nat_tests) in
      rw other (value_absent rs place (row_at_above key (key r + 1) id rs (omega (arith, p.has_id r)) h.1))
  value_placed n (r ∷ rs) (suc at) zero d h p =
      let other : eqb (suc at) 0 ≡ false = grind (arith, nat_tests) in
      let below : eqb (key r) id ≡ false = grind (arith, nat_tests, p.has_id d, at_least key (key r + 1) rs h.1 at d (omega (arith, p.in_range))) in
      rw (other, below) refl
  value_placed n (r ∷ rs) (suc at) (suc place) d h p =
      let same : eqb (suc at) (suc place) ≡ eqb at place = grind (arith, nat_tests) in
      rw same (value_placed (key r + 1) rs at place d h.1 (record { in_range = omega (arith, p.in_range); has_id = p.has_id }))

-- the quota at the place of an id is counted
pub more_placed : (f g : Quota → Usage) (quotas : List Quota) (id at : ℕ) (q : Quota) → AreInOrder (λ (r : Quota). r.id) quotas → IsPlace (λ (r : Quota). r.id) quotas id at → q ≡ get_or quotas at q
    → (x y : Usage) → x ≡ f q → y ≡ g q → (old new : List (Count Usage)) → ((key : ℕ) → came nothing key new ≡ plus (came nothing key old) (if eqb at key then x else nothing)) → ((key : ℕ) → went nothing key new ≡ plus (went nothing key old) (if eqb at key then y else nothing))
    → GoesOn old new → IsMore (at_id id f) (at_id id g) quotas old new
more_placed f g quotas id at q order placed is x y come gone old new comes goes on = record {
  comes = λ place. comes place ∙ ap (plus (came nothing place old)) (ap (λ n. if eqb at place then n else nothing) (come ∙ ap f is) ∙ sym (value_placed (λ (r : Quota). r.id) f id 0 quotas at place q order placed));
  goes = λ place. goes place ∙ ap (plus (went nothing place old)) (ap (λ n. if eqb at place then n else nothing) (gone ∙ ap g is) ∙ sym (value_placed (λ (r : Quota). r.id) g id 0 quotas at place q order placed));
  on = on;
}

-- nothing comes to what came
no_more : (u v : Usage) → v ≡ nothing → u ≡ plus u v
no_more u v none = sym (ap (plus u) none ∙ alone u)

-- an id of no quota brings nothing
pub more_absent : (f g : Quota → Usage) (quotas : List Quota) (id at : ℕ) (counts : List (Count Usage)) → IsGap (λ (r : Quota). r.id) quotas id at → IsMore (at_id id f) (at_id id g) quotas counts counts
more_absent f g quotas id at counts gap =
    let none = row_at_gap (λ (r : Quota). r.id) quotas id at gap in
    record {
      comes = λ place. no_more (came nothing place counts) _ (value_absent (λ (r : Quota). r.id) f id quotas place none);
      goes = λ place. no_more (went nothing place counts) _ (value_absent (λ (r : Quota). r.id) g id quotas place none);
      on = on_same counts;
    }

-- ---- one id after another

values_same_each : {T : Type 0} (P : T → Type 0) (f g : T → Usage) (rows : List T) (place : ℕ) → ((r : T) → P r → f r ≡ g r) → AllByRecursion P rows → value_at nothing f rows place ≡ value_at nothing g rows place
values_same_each P f g [] place each all = refl
values_same_each P f g (r ∷ rs) zero each all = each r all.0
values_same_each P f g (r ∷ rs) (suc place) each all = values_same_each P f g rs place each all.1

-- an id isn't among those before it
absent_before : (n : ℕ) (ids : List ℕ) (i d : ℕ) → InOrderFrom (λ n. n) n ids → i < length ids → has (get_or ids i d) (take i ids) ≡ false
absent_before n [] i d h lt = absurd (omega arith)
absent_before n (x ∷ xs) zero d h lt = refl
absent_before n (x ∷ xs) (suc i) d h lt = grind (arith, nat_tests, at_least (λ n. n) (x + 1) xs h.1 i d (omega arith), absent_before (x + 1) xs i d h.1 (omega arith))

none_before : (u : Usage) → plus nothing u ≡ u
none_before u = same_usage (plus nothing u) u (omega arith) (omega arith) (omega arith) (omega arith) (omega arith) (omega arith)

-- one more id is among those that were reached
among_more : (ids : List ℕ) (i d : ℕ) (f : Quota → Usage) → AreInOrder (λ n. n) ids → i < length ids → (q : Quota) → among (take (i + 1) ids) f q ≡ plus (among (take i ids) f q) (at_id (get_or ids i d) f q)
among_more ids i d f order lt q =
    ap (λ b. if b then f q else nothing) (ap (has q.id) (take_more ids i d lt) ∙ has-append q.id (take i ids) (get_or ids i d ∷ []))
    ∙ by_ids (get_or ids i d) (absent_before 0 ids i d order lt) (eqb_tells q.id (get_or ids i d)) (has q.id (take i ids)) refl
  where
    by_ids : (id : ℕ) → has id (take i ids) ≡ false → ((eqb q.id id ≡ true) × (q.id ≡ id)) ⊎ ((eqb q.id id ≡ false) × (q.id ≢ id)) → (b : Bool) → has q.id (take i ids) ≡ b → (if b || (eqb id q.id || false) then f q else nothing) ≡ plus (if b then f q else nothing) (if eqb q.id id then f q else nothing)
    by_ids id before (inl e) true has_it = absurd (cc (sym has_it ∙ ap (λ x. has x (take i ids)) e.1 ∙ before))
    by_ids id before (inl e) false has_it = let own : eqb id q.id ≡ true = grind (arith, nat_tests, e.1) in rw (own, e.0) (sym (none_before (f q)))
    by_ids id before (inr e) true has_it = rw e.0 (sym (alone (f q)))
    by_ids id before (inr e) false has_it = let other : eqb id q.id ≡ false = grind (arith, nat_tests, e.1) in rw (other, e.0) (sym (alone nothing))

pub more_id : (f g : Quota → Usage) (quotas : List Quota) (ids : List ℕ) (i d : ℕ) → AreInOrder (λ n. n) ids → i < length ids → (old mid new : List (Count Usage)) → IsMore (among (take i ids) f) (among (take i ids) g) quotas old mid → IsMore (at_id (get_or ids i d) f) (at_id (get_or ids i d) g) quotas mid new → IsMore (among (take (i + 1) ids) f) (among (take (i + 1) ids) g) quotas old new
more_id f g quotas ids i d order lt old mid new before step = record {
  comes = λ place. one_more (came nothing place old) _ _ _ _ (step.comes place) (before.comes place) (add f quotas place);
  goes = λ place. one_more (went nothing place old) _ _ _ _ (step.goes place) (before.goes place) (add g quotas place);
  on = on_both old mid new before.on step.on;
}
  where
    one_more : (u more one all mid : Usage) {new : Usage} → new ≡ plus mid one → mid ≡ plus u more → all ≡ plus more one → new ≡ plus u all
    one_more u more one all mid step before both = step ∙ ap (λ x. plus x one) before ∙ plus_both u more one ∙ ap (plus u) (sym both)

    add : (h : Quota → Usage) (rows : List Quota) (place : ℕ) → value_at nothing (among (take (i + 1) ids) h) rows place ≡ plus (value_at nothing (among (take i ids) h) rows place) (value_at nothing (at_id (get_or ids i d) h) rows place)
    add h [] place = sym (alone nothing)
    add h (r ∷ rs) zero = among_more ids i d h order lt r
    add h (r ∷ rs) (suc place) = add h rs place

-- nothing was reached
pub more_start : (f g : Quota → Usage) (quotas : List Quota) (counts : List (Count Usage)) → IsMore (among [] f) (among [] g) quotas counts counts
more_start f g quotas counts = record { comes = λ place. no_more (came nothing place counts) _ (none f quotas place); goes = λ place. no_more (went nothing place counts) _ (none g quotas place); on = on_same counts }
  where
    none : (h : Quota → Usage) (rows : List Quota) (place : ℕ) → value_at nothing (among [] h) rows place ≡ nothing
    none h [] place = refl
    none h (r ∷ rs) zero = refl
    none h (r ∷ rs) (suc place) = none h rs place

-- no other quota has any of it
pub more_all : (f g : Quota → Usage) (lists : CatalogueLists) (given ids : List ℕ) (old new : List (Count Usage)) → AreInOrder (λ (r : Quota). r.id) lists.quotas → ids ≡ rising given → NoneElse nothing given lists f → NoneElse nothing given lists g → IsMore (among ids f) (among ids g) lists.quotas old new → IsMore f g lists.quotas old new
more_all f g lists given ids old new order is no_f no_g more = record {
  comes = λ place. more.comes place ∙ ap (plus (came nothing place old)) (all f no_f place);
  goes = λ place. more.goes place ∙ ap (plus (went nothing place old)) (all g no_g place);
  on = more.on;
}
  where
    each : (h : Quota → Usage) → NoneElse nothing given lists h → (q : Quota) → quota_at q.id lists ≡ Some q → among ids h q ≡ h q
    each h none q stands = ap (λ b. if b then h q else nothing) (ap (has q.id) is ∙ has-rising q.id given) ∙ by_id (has q.id given) refl
      where
        by_id : (b : Bool) → has q.id given ≡ b → (if b then h q else nothing) ≡ h q
        by_id true is = refl
        by_id false is = sym (none q (record { stands = stands; absent = is }))

    all : (h : Quota → Usage) → NoneElse nothing given lists h → (place : ℕ) → value_at nothing (among ids h) lists.quotas place ≡ value_at nothing h lists.quotas place
    all h none place = values_same_each (λ (q : Quota). quota_at q.id lists ≡ Some q) (among ids h) h lists.quotas place (each h none) (each_found (λ (r : Quota). r.id) 0 lists.quotas order)

-- ---- places of many
pub no_more_pass : {S : Type 0} (test : Quota → S → Bool) (spots : List S) (i : ℕ) (d : S) (old new : List ℕ) (lists : CatalogueLists) → i < length spots → d ≡ get_or spots i d → Keeps old new → NoneElse 0 old lists (λ q. count_by (test q) (take i spots)) → NoOther new lists (λ q. test q d) → NoneElse 0 new lists (λ q. count_by (test q) (take (i + 1) spots))
no_more_pass test spots i d old new lists lt is keeps before here q other =
    ap (count_by (test q)) (take_more spots i d lt) ∙ count_push (test q) (take i spots) (get_or spots i d)
    ∙ omega (arith, before q (other_before old new lists q keeps other), ap {B = ℕ} (λ b. if b then 1 else 0) (ap (test q) (sym is) ∙ here q other))

-- ---- one place, and one voucher

pub on_ok_three : {A E : Type 0} {P Q R S : Type 0} (r : Result A E) → (P → Q → R → S) → OnOk r P → OnOk r Q → OnOk r R → OnOk r S
on_ok_three (Ok x) f p q r = f p q r
on_ok_three (Err e) f p q r = tt

-- a call that was refused left what it promises there
pub when_err : {E : Type 0} (P : Type 0) (r : Result (Unit {0}) E) → is_err r ≡ true → OnErr r P → P
when_err P (Ok x) e h = absurd (cc e)
when_err P (Err x) e h = h
