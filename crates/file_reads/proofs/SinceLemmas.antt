-- What holds of the schema of each version that has a table.
use Rattle.std.proofs.Common.{◌≡◌, ◌≤◌, ◌<◌, ◌+◌, ◌-◌, ℕ, zero, suc, max, sym, subst, arith}
use Rattle.sqlite_schema.specs.declared.schema.Schema.{Schema}
use Rattle.file_schema.specs.Tables.{schema, this_version}
use Rattle.file_schema.specs.Versions.{schema_of_version}
use Rattle.file_reads.specs.Since.{IsSince}

-- it holds of the schemas of so many versions, from the first one on
abbrev pub HeldFrom : ℕ → ℕ → (Schema → Type 0) → Type 0
HeldFrom first zero P = Unit {0}
HeldFrom first (suc more) P = P (schema_of_version first) × HeldFrom (suc first) more P

-- and up to this program's
abbrev pub Throughout : ℕ → (Schema → Type 0) → Type 0
Throughout first = HeldFrom first (suc this_version - first)

held_at : (P : Schema → Type 0) (first count k version : ℕ) → HeldFrom first count P → k < count → version ≡ first + k → P (schema_of_version version)
held_at P first zero k version all within is = absurd (omega (arith, within))
held_at P first (suc count) zero version all within is = let same : first ≡ version = omega (arith, is) in subst (λ v. P (schema_of_version v)) same all.0
held_at P first (suc count) (suc k) version all within is = held_at P (suc first) count k version all.1 (omega (arith, within)) (omega (arith, is))

-- what holds throughout, from the first version that has a table, holds of each that has it
pub since_held : (first : ℕ) (P : Schema → Type 0) → Throughout first P → (s : Schema) → IsSince first s → P s
since_held first P all s h =
    subst P (sym h.is) (held_at P first (suc this_version - first) (h.version - first) h.version all (omega (arith, h.from, h.known)) (omega (arith, h.from)))

-- this program's has all tables
pub since_this : (first : ℕ) → first ≤ this_version → (s : Schema) → s ≡ schema → IsSince first s
since_this first from s is = record { version = this_version; from = from; known = omega arith; is = is }

pub since_one : (s : Schema) → s ≡ schema → IsSince 1 s
since_one s is = since_this 1 (omega arith) s is

-- and what an earlier version has
pub since_before : (first later : ℕ) → first ≤ later → (s : Schema) → IsSince later s → IsSince first s
since_before first later before s h = record { version = h.version; from = omega (arith, before, h.from); known = h.known; is = h.is }

-- what has both of two tables has each
pub since_left : (a b : ℕ) (s : Schema) → IsSince (max a b) s → IsSince a s
since_left a b s h = record { version = h.version; from = omega (arith, h.from); known = h.known; is = h.is }

pub since_right : (a b : ℕ) (s : Schema) → IsSince (max a b) s → IsSince b s
since_right a b s h = record { version = h.version; from = omega (arith, h.from); known = h.known; is = h.is }
