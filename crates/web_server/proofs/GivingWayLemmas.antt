-- Who has to leave, of one slot more.
use Rattle.std.proofs.Common.{◌≡◌, ◌+◌, ◌<◌, ◌≤◌, ◌⊎◌, inl, inr, ℕ, List, length, slice_get, slice_index_or, Option, Some, None, refl, sym, ap, ◌∙◌, subst, arith}
use Rattle.std.proofs.lemmas.Bool.{cases_eq, cases_lt}
use Rattle.std.proofs.lemmas.List.{get_or_past, get_or-set_same, get_or-set_other, set-get_or, set_past}
use native.Mathlib.Numerals.{unary_clauses}
use Rattle.web_connections.specs.Connections.{Caller, Callers, at_slot, callers, slot_needs, with_slot}
use Rattle.web_server.specs.declared.timeouts.Timer.{Timer}
use Rattle.web_server.specs.GivingWay.{load_at, load_to}
use Rattle.web_server.specs.Timeouts.{stays}

-- ---- who goes first

-- of the first so many slots, and how readily
abbrev pub IsFirst : (ℕ → Option ℕ) → ℕ → Option ℕ → ℕ → Type 0
IsFirst ready n None most = (slot : ℕ) → slot < n → ready slot ≡ None
IsFirst ready n (Some first) most = (ready first ≡ Some most) × ((slot r : ℕ) → slot < n → ready slot ≡ Some r → r ≤ most)

pub load_none : (timer : List Timer) (now : Callers) → load_to timer now 0 ≡ record { between = 0; within = 0; unsent = 0 }
unfolding load_to
load_none timer now = refl

pub load_next : (timer : List Timer) (now : Callers) (n : ℕ)
    → load_to timer now (n + 1) ≡ load_at (slice_get timer n) (slot_needs (at_slot n now)) (load_to timer now n)
unfolding load_to
load_next timer now n = simp unary_clauses refl

-- ---- whose time is up

-- what a look at the first so many slots leaves
pub record EndedTo (timer : List Timer) (now n : ℕ) (old new : Callers) : Type 0 where
  pub came : new.came ≡ old.came
  pub below : (slot : ℕ) → slot < n → at_slot slot new ≡ stays (slice_get timer slot) now (at_slot slot old)
  pub above : (slot : ℕ) → n ≤ slot → at_slot slot new ≡ at_slot slot old

nobody_stays : (timer : Option Timer) (now : ℕ) → stays timer now None ≡ None
nobody_stays None now = refl
nobody_stays (Some s) now = refl

-- who is at a slot that was given to somebody; beyond the last slot nobody is
at_given : (n : ℕ) (mid : Callers) (whoever : Option Caller) → (at_slot n mid ≡ None → whoever ≡ None) → at_slot n (with_slot n whoever mid) ≡ whoever
at_given n mid whoever nobody = on (cases_lt n (length mid.slots)) where
  on : (n < length mid.slots) ⊎ (length mid.slots ≤ n) → at_slot n (with_slot n whoever mid) ≡ whoever
  on (inl lt) = get_or-set_same mid.slots n whoever None lt
  on (inr past) =
      let none : at_slot n mid ≡ None = get_or_past mid.slots n None past in
      ap (λ (slots : List (Option Caller)). slice_index_or slots n None) (set_past mid.slots n whoever past) ∙ none ∙ sym (nobody none)

at_other : (n slot : ℕ) (mid : Callers) (whoever : Option Caller) → (slot ≡ n → ⊥) → at_slot slot (with_slot n whoever mid) ≡ at_slot slot mid
at_other n slot mid whoever apart = get_or-set_other mid.slots n slot whoever None apart

-- whoever stays where it is
pub with_same : (n : ℕ) (c : Callers) → with_slot n (at_slot n c) c ≡ c
with_same n c = ap (λ (slots : List (Option Caller)). callers c.came slots) (set-get_or c.slots n None)

stays_none : (timer : Option Timer) (now : ℕ) (whoever : Option Caller) → whoever ≡ None → stays timer now whoever ≡ None
stays_none timer now whoever is = ap (stays timer now) is ∙ nobody_stays timer now

pub ended_none : (timer : List Timer) (now : ℕ) (old : Callers) → EndedTo timer now 0 old old
ended_none timer now old = record {
  came = refl;
  below = λ slot lt. absurd (omega (arith, lt));
  above = λ slot le. refl;
}

-- a look at one more slot
pub ended_more : (timer amid : List Timer) (now n : ℕ) (old mid new : Callers) → EndedTo timer now n old mid → amid ≡ timer
    → new ≡ with_slot n (stays (slice_get amid n) now (at_slot n mid)) mid → EndedTo timer now (n + 1) old new
ended_more timer amid now n old mid new x same is = record {
  came = ap (λ (c : Callers). c.came) is ∙ x.came;
  below = λ slot lt. below slot lt (cases_eq slot n);
  above = λ slot le. at slot ∙ at_other n slot mid w (λ same. omega (arith, le, same)) ∙ x.above slot (omega (arith, le));
} where
  w : Option Caller
  w = stays (slice_get timer n) now (at_slot n mid)

  at : (slot : ℕ) → at_slot slot new ≡ at_slot slot (with_slot n w mid)
  at slot = ap (at_slot slot) (is ∙ ap (λ (s : List Timer). with_slot n (stays (slice_get s n) now (at_slot n mid)) mid) same)

  below : (slot : ℕ) → slot < n + 1 → (slot ≡ n) ⊎ (slot ≡ n → ⊥) → at_slot slot new ≡ stays (slice_get timer slot) now (at_slot slot old)
  below slot lt (inl same) =
      let here : at_slot n new ≡ stays (slice_get timer n) now (at_slot n old) =
      at n ∙ at_given n mid w (stays_none (slice_get timer n) now (at_slot n mid)) ∙ ap (stays (slice_get timer n) now) (x.above n (omega arith)) in
      subst (λ (k : ℕ). at_slot k new ≡ stays (slice_get timer k) now (at_slot k old)) (sym same) here
  below slot lt (inr apart) = at slot ∙ at_other n slot mid w apart ∙ x.below slot (omega (arith, lt, apart))
