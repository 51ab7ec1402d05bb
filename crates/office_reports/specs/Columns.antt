-- Columns of a report.
use Rattle.std.specs.Prelude.{ℕ, ◌-◌, List, ◌∷◌, ◌++◌, length, replicate}

-- a text at the right end of a column that is so wide
abbrev pub right : ℕ → List ℕ → List ℕ
right width text = replicate (width - length text) 32 ++ text

-- a blank, and a text at the right end of a column of this width behind it
abbrev pub column : ℕ → List ℕ → List ℕ
column width text = 32 ∷ right width text
