-- Why a shop's tables in a file refuse: for want of memory (6), or for all else that the file refuses (63).
use Rattle.model_answers.specs.declared.tables.TablesError.{TablesError}
use Rattle.model_answers.specs.declared.tables.TablesError.TheVariants as tables
use Rattle.file_schema.specs.declared.error.RowError.{RowError}
use Rattle.file_schema.specs.declared.error.RowError.TheVariants as rows
use Rattle.file_tables.specs.declared.error.CreateError.{CreateError}
use Rattle.file_tables.specs.declared.error.CreateError.TheVariants as making
use Rattle.file_tables.specs.declared.error.TokenError.{TokenError}
use Rattle.file_tables.specs.declared.error.TokenError.TheVariants as tokens

-- how a shop's tables refuse what a row's statement was refused for
abbrev pub refusal_of : RowError → TablesError
refusal_of rows.Memory = tables.Memory
refusal_of rows.Foreign = tables.Store
refusal_of rows.Damaged = tables.Store
refusal_of rows.Store = tables.Store

-- how a row's error is told where the tables can't be made
abbrev pub making_refusal : RowError → CreateError
making_refusal rows.Memory = making.Memory
making_refusal rows.Foreign = making.Store
making_refusal rows.Damaged = making.Store
making_refusal rows.Store = making.Store

-- and where they take no token
abbrev pub token_refusal : RowError → TokenError
token_refusal rows.Memory = tokens.Memory
token_refusal rows.Foreign = tokens.Store
token_refusal rows.Damaged = tokens.Store
token_refusal rows.Store = tokens.Store
