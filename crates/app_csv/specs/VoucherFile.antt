-- A voucher file: the vouchers that its lines ask for, or the first fault, in the order of the file.
use Rattle.std.specs.Prelude.{◌≡◌, ◌≢◌, IfErr, ℕ, ◌+◌, Bool, ◌&&◌, ◌==◌, List, [], ◌∷◌, ◌++◌, length, Option, Some, None, Result, Ok, Err, codes, nat_le, if◌then◌else◌}
use Rattle.csv.specs.Reading.{AreRecords, default_config, strip_bom}
use Rattle.csv.specs.declared.parser.State.TheVariants as states
use Rattle.base_values.specs.Deciding.{◌>>=◌, ◌>>◌, check}
use Rattle.base_values.specs.Texts.{is_text}
use Rattle.model_commands.specs.declared.vouchers.NewVoucher.{NewVoucher}
use Rattle.app_csv.specs.Columns.{column, flag_in, id_in, is_code, is_column, is_named, mode_in, moment_in, uses_in, value_in}
use Rattle.app_csv.specs.declared.voucher_file.FileFault.{FileFault}
use Rattle.app_csv.specs.declared.voucher_file.FileFault.TheVariants.{Memory, Header, Line, Column, TooMany}

-- the columns from a place on have these names
abbrev pub names_four : List (List ℕ) → ℕ → List ℕ → List ℕ → List ℕ → List ℕ → Bool
names_four fields at a b c d = is_named fields at a && (is_named fields (at + 1) b && (is_named fields (at + 2) c && is_named fields (at + 3) d))

-- the first line names the columns, in this order, and no others
abbrev pub is_header : List (List ℕ) → Bool
is_header fields =
    (length fields == 12)
    && (names_four fields 0 (codes "code") (codes "max_usages") (codes "valid_until") (codes "block_quota")
    && (names_four fields 4 (codes "allow_ignore_quota") (codes "price_mode") (codes "value") (codes "item")
    && names_four fields 8 (codes "variation") (codes "quota") (codes "tag") (codes "comment")))

-- the four columns from a place on are there, and are texts
abbrev pub are_columns : List (List ℕ) → ℕ → Bool
are_columns fields at = is_column fields at && (is_column fields (at + 1) && (is_column fields (at + 2) && is_column fields (at + 3)))

-- a line has as many columns, all of them texts
abbrev pub is_line : List (List ℕ) → Bool
is_line fields = (length fields == 12) && (are_columns fields 0 && (are_columns fields 4 && are_columns fields 8))

-- the value of a column of a line, both from 1, where it can be read
abbrev pub known_value : {A : Type 0} → ℕ → ℕ → Option A → Result A FileFault
known_value line at None = Err (Column line at)
known_value line at (Some value) = Ok value

-- the voucher that a line of these fields asks for; a file gives no budget
unfoldable pub voucher_of : ℕ → List (List ℕ) → Result NewVoucher FileFault
voucher_of line fields = do
  check (is_line fields) (Line line)
  check (is_code (column fields 0)) (Column line 1)
  usages ← known_value line 2 (uses_in (column fields 1))
  until ← known_value line 3 (moment_in (column fields 2))
  block ← known_value line 4 (flag_in (column fields 3))
  ignore ← known_value line 5 (flag_in (column fields 4))
  mode ← known_value line 6 (mode_in (column fields 5))
  value ← known_value line 7 (value_in mode (column fields 6))
  item ← known_value line 8 (id_in (column fields 7))
  variation ← known_value line 9 (id_in (column fields 8))
  quota ← known_value line 10 (id_in (column fields 9))
  check (is_text (column fields 10)) (Column line 11)
  check (is_text (column fields 11)) (Column line 12)
  Ok (record {
    code = Some (column fields 0);
    max_usages = usages;
    valid_until = until;
    block_quota = block;
    allow_ignore_quota = ignore;
    price_mode = mode;
    value = value;
    item = item;
    variation = variation;
    quota = quota;
    tag = column fields 10;
    comment = column fields 11;
    budget = None;
  })

-- unless memory is refused, a reading that is refused has the fault that this one has
abbrev pub FailsAsRead : {A B : Type 0} → Result A FileFault → Result B FileFault → Type 0
FailsAsRead result read = IfErr result (λ e. e ≢ Memory → read ≡ Err e)

-- vouchers in front of others
abbrev pub behind : List NewVoucher → Result (List NewVoucher) FileFault → Result (List NewVoucher) FileFault
behind vouchers (Ok more) = Ok (vouchers ++ more)
behind vouchers (Err fault) = Err fault

-- a line that comes after so many others; there are 100,000 at most
abbrev pub line_read : ℕ → List (List ℕ) → Result NewVoucher FileFault
line_read earlier fields = if nat_le 100000 earlier then Err TooMany else voucher_of (earlier + 1) fields

-- the vouchers of lines that come after so many others
abbrev pub lines_read : ℕ → List (List (List ℕ)) → Result (List NewVoucher) FileFault
lines_read earlier [] = Ok []
lines_read earlier (fields ∷ more) = line_read earlier fields >>= λ new. behind (new ∷ []) (lines_read (earlier + 1) more)

-- the vouchers of a file with these lines
abbrev pub rows_read : List (List (List ℕ)) → Result (List NewVoucher) FileFault
rows_read [] = Err Header
rows_read (names ∷ lines) = if is_header names then lines_read 0 lines else Err Header

-- the lines of a text are its records, a byte order mark before them taken off: empty lines are none, and line ends in quotes stay
abbrev pub AreLinesOf : List ℕ → List (List (List ℕ)) → Type 0
AreLinesOf text lines = AreRecords default_config states.StartRecord (strip_bom text) lines

-- what is read of a text is what its lines ask for
pub record IsFile (text : List ℕ) (read : Result (List NewVoucher) FileFault) : Type 0 where
  pub lines : List (List (List ℕ))
  pub are_lines : AreLinesOf text lines
  pub is_read : read ≡ rows_read lines
