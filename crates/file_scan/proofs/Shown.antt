-- What holds where each row of a table was shown.
use Rattle.std.proofs.Common.{Result, Ok, Err, Option, Some, None, IfSome, ◌≡◌, refl, subst}
use Rattle.file_schema.specs.declared.error.RowError.{RowError}
use Rattle.file_schema.specs.declared.error.RowError.TheVariants.{Memory, Foreign, Damaged, Store}
use Rattle.file_reads.specs.Damage.{IsFor}
use Rattle.file_scan.specs.Rests.{WhereDamaged, WhereShown}

pub where_damaged : (e : RowError) (P : Type 0) → P → WhereDamaged e P
where_damaged Memory P p = tt
where_damaged Foreign P p = tt
where_damaged Damaged P p = p
where_damaged Store P p = tt

-- a refusal that no damage is behind says nothing of it
pub not_damaged : (e : RowError) (F P : Type 0) → IsFor F ⊥ e → WhereDamaged e P
not_damaged Memory F P h = tt
not_damaged Foreign F P h = tt
not_damaged Damaged F P h = absurd h
not_damaged Store F P h = tt

-- one fact from another
pub where_then : {A : Type 0} (r : Result A RowError) (P Q : Type 0) → WhereShown r P → (P → Q) → WhereShown r Q
where_then (Ok a) P Q h k = k h
where_then (Err Memory) P Q h k = tt
where_then (Err Foreign) P Q h k = tt
where_then (Err Damaged) P Q h k = k h
where_then (Err Store) P Q h k = tt

pub damaged_then : (e : RowError) (P Q : Type 0) → WhereDamaged e P → (P → Q) → WhereDamaged e Q
damaged_then Memory P Q h k = tt
damaged_then Foreign P Q h k = tt
damaged_then Damaged P Q h k = k h
damaged_then Store P Q h k = tt

pub was_read : {A : Type 0} (r : Result A RowError) (a : A) (P : Type 0) → r ≡ Ok a → WhereShown r P → P
was_read r a P is h = subst (λ s. WhereShown s P) is h

pub was_damaged : {A : Type 0} (r : Result A RowError) (P : Type 0) → r ≡ Err Damaged → WhereShown r P → P
was_damaged r P is h = subst (λ s. WhereShown s P) is h

-- of the rows that were read, or are known to be damaged
pub shown_either : {A : Type 0} (o : Option A) (r : Result A RowError) (P : Type 0) → IfSome o (λ rows. r ≡ Ok rows) → (o ≡ None → r ≡ Err Damaged) → WhereShown r P → P
shown_either (Some rows) r P read unread h = was_read r rows P read h
shown_either None r P read unread h = was_damaged r P (unread refl) h
