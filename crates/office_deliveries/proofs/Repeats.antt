-- When an arrival is a repeat, and of what.
use Rattle.std.proofs.Common.{◌≡◌, ℕ, ◌≤◌, ◌<◌, ◌+◌, Bool, true, ◌||◌, ◌&&◌, List, [], ◌∷◌, filter, is_some, refl, sym, ap, ◌∙◌, subst, arith, bytes_eq, ◌==◌}
use Rattle.std.proofs.lemmas.Bool.{and_parts, and_from, ltb-true, lt-ltb}
use Rattle.std.proofs.lemmas.Slice.Eq.{bytes_eq-Decides}
use Rattle.std.specs.List.{list_any}
use Rattle.base_values.specs.declared.answer.Response.{Response}
use Rattle.model_rows.specs.Lists.{State}
use Rattle.model_commands.specs.declared.replies.Reply.{Reply}
use Rattle.office_deliveries.specs.declared.arrival.Arrival.{Arrival}
use Rattle.model_answers.specs.declared.kept.Kept.{Kept}
use Rattle.office_deliveries.specs.Deliveries.{repeats, Opening, First, now, is_repeat, held_for, write_executed, answers, ever_kept}
use Rattle.model_answers.specs.KeptAnswers.{has_key, lasts}
use Rattle.model_answers.proofs.Lists.{find-filter, some-find, any-append, any-filter}

pub record Repeats (a : Arrival) (now token : ℕ) (key : List ℕ) (since : ℕ) : Type 0 where
  pub keyed : has_key a.key ≡ true
  pub token_is : (token == a.token) ≡ true
  pub key_is : bytes_eq key a.key ≡ true
  pub lasting : lasts now since ≡ true

pub repeats-parts : (a : Arrival) (now token : ℕ) (key : List ℕ) (since : ℕ) → repeats a now token key since ≡ true → Repeats a now token key since
repeats-parts a n token key since e =
    let x = and_parts (has_key a.key && (token == a.token) && bytes_eq key a.key) (lasts n since) e in
    let y = and_parts (has_key a.key && (token == a.token)) (bytes_eq key a.key) x.0 in
    let z = and_parts (has_key a.key) (token == a.token) y.0 in
    record { keyed = z.0; token_is = z.1; key_is = y.1; lasting = x.1 }

pub repeats-from : (a : Arrival) (now token : ℕ) (key : List ℕ) (since : ℕ) → Repeats a now token key since → repeats a now token key since ≡ true
repeats-from a n token key since r =
    and_from (has_key a.key && (token == a.token) && bytes_eq key a.key) (lasts n since)
    (and_from (has_key a.key && (token == a.token)) (bytes_eq key a.key) (and_from (has_key a.key) (token == a.token) r.keyed r.token_is) r.key_is) r.lasting

pub same_bytes : (a b : List ℕ) → bytes_eq a b ≡ true → a ≡ b
same_bytes a b e = (bytes_eq-Decides a b).0 e

-- what repeats an arrival's key is a key
pub repeats-keyed : (a : Arrival) (now token : ℕ) (key : List ℕ) (since : ℕ) → repeats a now token key since ≡ true → has_key key ≡ true
repeats-keyed a now token key since e =
    let r = repeats-parts a now token key since e in
    subst (λ (k : List ℕ). has_key k ≡ true) (sym (same_bytes key a.key r.key_is)) r.keyed

-- what isn't past later isn't past now
pub lasts-earlier : (early late since : ℕ) → early ≤ late → lasts late since ≡ true → lasts early since ≡ true
lasts-earlier early late since before e = let below : late < since + 86400 = ltb-true late (since + 86400) e in lt-ltb early (since + 86400) (omega arith)

pub repeats-lasts : (a : Arrival) (early now token : ℕ) (key : List ℕ) (since : ℕ) → early ≤ now → repeats a now token key since ≡ true → lasts early since ≡ true
repeats-lasts a early now token key since before e = lasts-earlier early now since before (repeats-parts a now token key since e).lasting

-- among the answers that are kept at a moment, the one that an arrival finds later is the one that it finds among all
pub held-kept : (a : Arrival) (early now : ℕ) (ks : List Kept) → early ≤ now → held_for a now (filter (λ k. lasts early k.at) ks) ≡ held_for a now ks
held-kept a early now ks before = find-filter (λ (k : Kept). repeats a now k.token k.key k.at) (λ (k : Kept). lasts early k.at) (λ k e. repeats-lasts a early now k.token k.key k.at before e) ks

module _ (words : Reply → Response) where
  any-answers : (a : Arrival) (n : ℕ) (state : State) (fs : List First)
      → list_any (λ k. repeats a n k.token k.key k.at) (answers words state fs) ≡ list_any (λ f. repeats a n f.arrival.token f.arrival.key f.at) fs
  any-answers a n state [] = refl
  any-answers a n state (f ∷ fs) = ap (λ (b : Bool). repeats a n f.arrival.token f.arrival.key f.at || b) (any-answers a n (write_executed words f state).0 fs)

  any-kept : (a : Arrival) (n : ℕ) (state : State) (fs : List First)
      → list_any (λ k. repeats a n k.token k.key k.at) (filter (λ k. has_key k.key) (answers words state fs)) ≡ list_any (λ f. repeats a n f.arrival.token f.arrival.key f.at) fs
  any-kept a n state fs =
      any-filter (λ (k : Kept). repeats a n k.token k.key k.at) (λ (k : Kept). has_key k.key) (λ k e. repeats-keyed a n k.token k.key k.at e) (answers words state fs)
      ∙ any-answers a n state fs

  -- an arrival is a repeat where an answer is held for it
  pub repeat-is : (p : Opening) (fs : List First) (a : Arrival) → is_repeat p fs a ≡ is_some (held_for a (now p fs a) (ever_kept words p fs))
  repeat-is p fs a =
      let n = now p fs a in
      let found = some-find (λ (k : Kept). repeats a n k.token k.key k.at) (ever_kept words p fs) in
      let split = any-append (λ (k : Kept). repeats a n k.token k.key k.at) p.kept (filter (λ k. has_key k.key) (answers words p.state fs)) in
      let same = ap (λ (b : Bool). list_any (λ (k : Kept). repeats a n k.token k.key k.at) p.kept || b) (any-kept a n p.state fs) in
      sym (found ∙ (split ∙ same))
