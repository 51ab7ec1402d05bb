-- The codes of vouchers.
use Rattle.std.specs.Prelude.{ℕ, Bool, false, not, ◌==◌, List, Option, Some, None, if◌then◌else◌}
use Rattle.base_values.specs.Texts.{same_text}
use Rattle.base_values.specs.declared.draw.Draw.{Draw}
use Rattle.model_rows.specs.declared.rows.Voucher.{Voucher}
use Rattle.model_rows.specs.Named.{voucher_of}
use Rattle.model_rows.specs.Lists.{Lists}
use Rattle.model_invariant.specs.MadeCodes.{made_code}
use Rattle.model_invariant.specs.Reserved.{is_reserved}

-- the one that is given, or else one that is made
abbrev pub code_of : Option (List ℕ) → Draw → ℕ → List ℕ
code_of (Some given) draw id = given
code_of None draw id = made_code draw id

-- a code that is given
abbrev pub is_reserved_if : Option (List ℕ) → Bool
is_reserved_if None = false
is_reserved_if (Some given) = is_reserved given

-- a code that is given and isn't the old one
abbrev pub new_code : Option (List ℕ) → List ℕ → Option (List ℕ)
new_code None old = None
new_code (Some given) old = if same_text given old then None else Some given

-- there is a voucher, and it has another id
abbrev pub is_another : ℕ → Option Voucher → Bool
is_another id None = false
is_another id (Some voucher) = not (voucher.id == id)

-- the voucher of this one's code is another
abbrev pub has_anothers_code : Voucher → Lists → Bool
has_anothers_code row lists = is_another row.id (voucher_of row.code lists)
