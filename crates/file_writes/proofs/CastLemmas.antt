-- A column leaves a value of a shop as it is.
use Rattle.std.proofs.Common.{◌≡◌, ℕ, List, Option, Some, None, refl}
use Rattle.sqlite_value.specs.declared.value.Value.TheVariants.{Text as Words}
use Rattle.sqlite_schema.specs.declared.schema.Kind.TheVariants.{Text}
use Rattle.sqlite_rules.specs.Cast.{cast}
use Rattle.sqlite.specs.Values.{or_null}
use Rattle.base_values.specs.declared.answer.Methods.{Methods}
use Rattle.base_values.specs.declared.price_mode.PriceMode.{PriceMode}
use Rattle.base_values.specs.declared.price_mode.PriceMode.TheVariants as modes
use Rattle.model_rows.specs.declared.rows.Status.{Status}
use Rattle.model_rows.specs.declared.rows.Status.TheVariants as statuses
use Rattle.model_rows.specs.declared.rows.CheckinKind.{CheckinKind}
use Rattle.model_rows.specs.declared.rows.CheckinKind.TheVariants as kinds
use Rattle.file_rows.specs.Cells.{mode, status, kind, methods}

pub cast_text_or_null : (o : Option (List ℕ)) → cast Text (or_null Words o) ≡ or_null Words o
cast_text_or_null None = refl
cast_text_or_null (Some x) = refl

pub cast_mode : (m : PriceMode) → cast Text (mode m) ≡ mode m
cast_mode modes.None = refl
cast_mode modes.Set = refl
cast_mode modes.Subtract = refl
cast_mode modes.Percent = refl

pub cast_status : (s : Status) → cast Text (status s) ≡ status s
cast_status statuses.Pending = refl
cast_status statuses.Paid = refl
cast_status statuses.Expired = refl
cast_status statuses.Cancelled = refl

pub cast_kind : (k : CheckinKind) → cast Text (kind k) ≡ kind k
cast_kind kinds.Entry = refl
cast_kind kinds.Exit = refl

pub cast_methods : (o : Option Methods) → cast Text (methods o) ≡ methods o
cast_methods None = refl
cast_methods (Some m) = refl
