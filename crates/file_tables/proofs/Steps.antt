-- Changes of the tables one after another, in lines and in loops.
use Rattle.std.proofs.Common.{◌≡◌, ℕ, ◌+◌, ◌<◌, ◌≤◌, List, [], ◌∷◌, drop, length, get_or, suc, add-one, drop-cons, true, refl, sym, ap, subst, ◌∙◌}
use Rattle.std.proofs.Math.ListN.{drop_of_length-le}
use Rattle.sqlite.specs.Effect.{IsDatabase}
use Rattle.sqlite.specs.State.{State}
use Rattle.file_schema.specs.Tables.{schema}
use Rattle.file_rows.specs.Tables.{Tables, Holds}
use Rattle.file_rows.specs.Changes.{IsInside, Changes, ChangesFit}
pub use Rattle.file_reads.proofs.Loads.{if_ok}
pub use Rattle.file_writes.proofs.Rows.{inside_after, on_ok}
use Rattle.file_tables.specs.Steps.{made_each, next_each}

-- ---- lines

pub fits_all : (Fits : Tables → Type 0) (change : Tables → Tables) (old new : State) → Changes change old new → ChangesFit Fits change old new
fits_all Fits change old new h = record { known = h.known; inside = h.inside; committed = h.committed; listed = h.listed; holds = λ t fits held. h.holds t held }

pub then_fits : (Fits Mid : Tables → Type 0) (first second : Tables → Tables) (old mid new : State) → ((t : Tables) → Fits t → Mid (first t)) → ChangesFit Fits first old mid → ChangesFit Mid second mid new → ChangesFit Fits (λ t. second (first t)) old new
then_fits Fits Mid first second old mid new fit a b = record {
  known = b.known;
  inside = b.inside;
  committed = b.committed ∙ a.committed;
  listed = λ d. b.listed (a.listed d);
  holds = λ t fits held. b.holds (first t) (fit t fits) (a.holds t fits held);
}

pub fits_as : (Fits : Tables → Type 0) (change same : Tables → Tables) (old new : State) → ((t : Tables) → change t ≡ same t) → ChangesFit Fits change old new → ChangesFit Fits same old new
fits_as Fits change same old new is h = record {
  known = h.known;
  inside = h.inside;
  committed = h.committed;
  listed = h.listed;
  holds = λ t fits held. subst (Holds new.now.trees) (is t) (h.holds t fits held);
}

-- the same change, said otherwise
pub changes_as : (change same : Tables → Tables) (old new : State) → ((t : Tables) → change t ≡ same t) → Changes change old new → Changes same old new
changes_as change same old new is h = record { known = h.known; inside = h.inside; committed = h.committed; listed = h.listed; holds = λ t held. subst (Holds new.now.trees) (is t) (h.holds t held) }

pub inside_fit : (Fits : Tables → Type 0) (change : Tables → Tables) (old new : State) → ChangesFit Fits change old new → IsInside new
inside_fit Fits change old new h = record { known = h.known; inside = h.inside }

-- whatever the tables are
abbrev pub any_tables : ℕ → Tables → Type 0
any_tables n t = Unit {0}

pub changes_any : (n : ℕ) (change : Tables → Tables) (old new : State) → ChangesFit (any_tables n) change old new → Changes change old new
changes_any n change old new h = record { known = h.known; inside = h.inside; committed = h.committed; listed = h.listed; holds = λ t held. h.holds t tt held }

-- ---- loops

-- of whatever tables stood, those that stand now become by what is left what those become by all
pub record Reaches (Fits Here : Tables → Type 0) (left all : Tables → Tables) (old new : State) : Type 0 where
  pub known : new.now.schema ≡ schema
  pub inside : new.in_transaction ≡ true
  pub committed : new.committed ≡ old.committed
  pub listed : IsDatabase old.now → IsDatabase new.now
  pub holds : (t : Tables) → Fits t → Holds old.now.trees t → (u : Tables) × Here u × Holds new.now.trees u × (left u ≡ all t)

pub starts : (Fits : Tables → Type 0) (all : Tables → Tables) (old : State) → IsInside old → Reaches Fits Fits all all old old
starts Fits all old at = record { known = at.known; inside = at.inside; committed = refl; listed = λ d. d; holds = λ t fits held. (t, fits, held, refl) }

pub inside_reached : (Fits Here : Tables → Type 0) (left all : Tables → Tables) (old new : State) → Reaches Fits Here left all old new → IsInside new
inside_reached Fits Here left all old new r = record { known = r.known; inside = r.inside }

pub goes_on : (Fits Here There : Tables → Type 0) (left step rest all : Tables → Tables) (old mid new : State) → ((u : Tables) → Here u → There (step u)) → ((u : Tables) → left u ≡ rest (step u))
    → Reaches Fits Here left all old mid → ChangesFit Here step mid new → Reaches Fits There rest all old new
goes_on Fits Here There left step rest all old mid new fit is r h = record {
  known = h.known;
  inside = h.inside;
  committed = h.committed ∙ r.committed;
  listed = λ d. h.listed (r.listed d);
  holds = λ t fits held.
      let at = r.holds t fits held in
      (step at.0, fit at.0 at.1, h.holds at.0 at.1 at.2, sym (is at.0) ∙ at.3);
}

pub ends : (Fits Here : Tables → Type 0) (left all : Tables → Tables) (old new : State) → ((u : Tables) → left u ≡ u) → Reaches Fits Here left all old new → ChangesFit Fits all old new
ends Fits Here left all old new none r = record {
  known = r.known;
  inside = r.inside;
  committed = r.committed;
  listed = r.listed;
  holds = λ t fits held. let at = r.holds t fits held in subst (Holds new.now.trees) (sym (none at.0) ∙ at.3) at.2;
}

-- ---- what is left of a list

pub drop_at : {T : Type 0} (xs : List T) (i : ℕ) (x : T) → i < length xs → x ≡ get_or xs i x → drop i xs ≡ x ∷ drop (i + 1) xs
drop_at xs i x low is = rw add-one (drop-cons xs i x low ∙ ap (λ y. y ∷ drop (suc i) xs) (sym is))

pub drop_all : {T : Type 0} (xs : List T) (i : ℕ) → length xs ≤ i → drop i xs ≡ []
drop_all xs i past = drop_of_length-le xs past

module _ {T : Type 0} (made : T → ℕ → Tables → Tables) (next : T → ℕ → ℕ) where
  abbrev made_left : List T → ℕ → Tables → Tables
  made_left = made_each made next

  abbrev next_left : List T → ℕ → ℕ
  next_left = next_each next

  -- one more of the loop: the number that is free, and the tables
  pub next_on : (x : T) (left more all : List T) (from free : ℕ) (was : ℕ) → left ≡ x ∷ more → next_left left was ≡ next_left all from → free ≡ next x was → next_left more free ≡ next_left all from
  next_on x left more all from free was is same e = ap (next_left more) e ∙ sym (ap (λ l. next_left l was) is) ∙ same

  pub one_more : (Fits : ℕ → Tables → Type 0) → ((x : T) (n : ℕ) (t : Tables) → Fits n t → Fits (next x n) (made x n t)) → (x : T) (left more all : List T) (from was free : ℕ) → left ≡ x ∷ more → free ≡ next x was
      → (old mid new : State) → Reaches (Fits from) (Fits was) (made_left left was) (made_left all from) old mid → ChangesFit (Fits was) (made x was) mid new
      → Reaches (Fits from) (Fits free) (made_left more free) (made_left all from) old new
  one_more Fits stays x left more all from was free is e old mid new r h =
      goes_on (Fits from) (Fits was) (Fits free) (made_left left was) (made x was) (made_left more free) (made_left all from) old mid new
      (λ u fits. subst (λ n. Fits n (made x was u)) (sym e) (stays x was u fits))
      (λ u. ap (λ l. made_left l was u) is ∙ ap (λ n. made_left more n (made x was u)) (sym e)) r h

  pub all_done : (Fits : ℕ → Tables → Type 0) (left all : List T) (from free : ℕ) → left ≡ [] → (old new : State) → Reaches (Fits from) (Fits free) (made_left left free) (made_left all from) old new → ChangesFit (Fits from) (made_left all from) old new
  all_done Fits left all from free none old new r = ends (Fits from) (Fits free) (made_left left free) (made_left all from) old new (λ u. ap (λ l. made_left l free u) none) r
