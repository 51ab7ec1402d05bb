-- The queue of those who wait: each stands, has no voucher, and is there once.
use Rattle.std.proofs.Common.{◌≡◌, ℕ, ◌+◌, ◌≤◌, Bool, true, false, cond, eqb, List, [], ◌∷◌, Some, refl, arith}
use Rattle.std.specs.Prelude.{filter, if◌then◌else◌}
use Rattle.std.specs.List.{AllByRecursion}
use Rattle.std.proofs.lemmas.Bool.Decides.{nat_tests}
use Rattle.base_tables.specs.Tables.{InOrderFrom, AreInOrder}
use Rattle.model_rows.specs.declared.rows.Waiting.{Waiting}
use Rattle.model_rows.specs.Lists.{Lists, waiting_at}
use Rattle.model_rows.specs.Usage.{has_none}
use Rattle.model_rows.proofs.EachRow.{all_weaker}
use Rattle.model_rows.proofs.Found.{each_found}
use Rattle.decide_waiting.specs.Serving.{goes_before, in_place, in_turn, queue}

-- no two have one id
abbrev pub AreApart : List Waiting → Type 0
AreApart [] = Unit {0}
AreApart (e ∷ es) = AllByRecursion (λ x. eqb e.id x.id ≡ false) es × AreApart es

-- it stands, and has no voucher
abbrev pub Waits : Lists → Waiting → Type 0
Waits lists e = (waiting_at e.id lists ≡ Some e) × (has_none e.voucher ≡ true)

-- a row of the rest is what is asked, and passes
module _ (P : Waiting → Type 0) where
  pub all_in_place : (e : Waiting) (es : List Waiting) → P e → AllByRecursion P es → AllByRecursion P (in_place e es)
  all_in_place e [] p h = (p, tt)
  all_in_place e (x ∷ es) p h = by_turn (goes_before e x) (all_in_place e es p h.1)
    where
      by_turn : (b : Bool) → AllByRecursion P (in_place e es) → AllByRecursion P (if b then e ∷ x ∷ es else x ∷ in_place e es)
      by_turn true more = (p, h)
      by_turn false more = (h.0, more)

  pub all_in_turn : (es : List Waiting) → AllByRecursion P es → AllByRecursion P (in_turn es)
  all_in_turn [] h = tt
  all_in_turn (e ∷ es) h = all_in_place e (in_turn es) h.0 (all_in_turn es h.1)

all_filtered : (test : Waiting → Bool) (P : Waiting → Type 0) (es : List Waiting) → AllByRecursion P es → AllByRecursion (λ e. P e × (test e ≡ true)) (filter test es)
all_filtered test P [] h = tt
all_filtered test P (e ∷ es) h = by_test (test e) refl (all_filtered test P es h.1)
  where
    by_test : (b : Bool) → test e ≡ b → AllByRecursion (λ x. P x × (test x ≡ true)) (filter test es) → AllByRecursion (λ x. P x × (test x ≡ true)) (cond b (e ∷ filter test es) (filter test es))
    by_test true is more = ((h.0, is), more)
    by_test false is more = more

flip : (a b : ℕ) → eqb a b ≡ false → eqb b a ≡ false
flip a b e = grind (arith, nat_tests, e)

apart_in_place : (e : Waiting) (es : List Waiting) → AllByRecursion (λ x. eqb e.id x.id ≡ false) es → AreApart es → AreApart (in_place e es)
apart_in_place e [] p h = (tt, tt)
apart_in_place e (x ∷ es) p h = by_turn (goes_before e x) (apart_in_place e es p.1 h.1)
  where
    by_turn : (b : Bool) → AreApart (in_place e es) → AreApart (if b then e ∷ x ∷ es else x ∷ in_place e es)
    by_turn true more = (p, h)
    by_turn false more = (all_in_place (λ y. eqb x.id y.id ≡ false) e es (flip e.id x.id p.0) h.0, more)

apart_in_turn : (es : List Waiting) → AreApart es → AreApart (in_turn es)
apart_in_turn [] h = tt
apart_in_turn (e ∷ es) h = apart_in_place e (in_turn es) (all_in_turn (λ x. eqb e.id x.id ≡ false) es h.0) (apart_in_turn es h.1)

above : (n : ℕ) (es : List Waiting) → InOrderFrom (λ r. r.id) n es → AllByRecursion (λ x. n ≤ x.id) es
above n [] h = tt
above n (e ∷ es) h = (h.0, all_weaker (λ x. e.id + 1 ≤ x.id) (λ x. n ≤ x.id) (λ x le. omega (arith, le, h.0)) es (above (e.id + 1) es h.1))

pub filtered_weaker : (test : Waiting → Bool) (P : Waiting → Type 0) (es : List Waiting) → AllByRecursion P es → AllByRecursion P (filter test es)
filtered_weaker test P es h = all_weaker (λ e. P e × (test e ≡ true)) P (λ e both. both.0) (filter test es) (all_filtered test P es h)

apart_filtered : (test : Waiting → Bool) (n : ℕ) (es : List Waiting) → InOrderFrom (λ r. r.id) n es → AreApart (filter test es)
apart_filtered test n [] h = tt
apart_filtered test n (e ∷ es) h = by_test (test e) (apart_filtered test (e.id + 1) es h.1)
  where
    others : AllByRecursion (λ x. eqb e.id x.id ≡ false) es
    others = all_weaker (λ x. e.id + 1 ≤ x.id) (λ x. eqb e.id x.id ≡ false) (λ x le. grind (arith, nat_tests, le)) es (above (e.id + 1) es h.1)

    by_test : (b : Bool) → AreApart (filter test es) → AreApart (cond b (e ∷ filter test es) (filter test es))
    by_test true more = (filtered_weaker test (λ x. eqb e.id x.id ≡ false) es others, more)
    by_test false more = more

module _ (lists : Lists) (order : AreInOrder (λ r. r.id) lists.waiting) where
  pub queue_apart : AreApart (queue lists)
  unfolding queue
  queue_apart = apart_in_turn (filter (λ e. has_none e.voucher) lists.waiting) (apart_filtered (λ e. has_none e.voucher) 0 lists.waiting order)

  pub queue_waits : AllByRecursion (Waits lists) (queue lists)
  unfolding queue
  queue_waits = all_in_turn (Waits lists) (filter (λ e. has_none e.voucher) lists.waiting) (all_filtered (λ e. has_none e.voucher) (λ e. waiting_at e.id lists ≡ Some e) lists.waiting (each_found (λ r. r.id) 0 lists.waiting order))
