use Rattle.std.proofs.Common.{sym, ap, ◌∙◌}
use Rattle.std.proofs.lemmas.Str.{is_utf8-from_IsUtf8}
use Rattle.app_csv.proofs.Utf8.{no_text}
use Rattle.app_csv.specs.Columns.{is_text_field}
use Rattle.app_csv.proofs.columns.is_column.Goals as goal

pub returns-in-Ok : goal.returns-in-Ok
returns-in-Ok c = sym (is_utf8-from_IsUtf8 c.in-Some.field.now c.in-Ok.ensures.cases.1) ∙ ap is_text_field c.in-Some.ensures.value

pub returns-in-Err : goal.returns-in-Err
returns-in-Err c = sym (no_text c.in-Some.field.now c.in-Err.ensures.cases.0) ∙ ap is_text_field c.in-Some.ensures.value
