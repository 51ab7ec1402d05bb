use Rattle.std.proofs.Common.{[], sym, ap, ◌∙◌, if◌then◌else◌, Bool}
use Rattle.std.proofs.lemmas.Str.{is_utf8-from_IsUtf8}
use Rattle.app_csv.proofs.Utf8.{no_text}
use Rattle.app_csv.specs.Columns.{text_or_empty}
use Rattle.app_csv.proofs.columns.column.Goals as goal

pub returns-in-Ok : goal.returns-in-Ok
returns-in-Ok c =
    let field = c.in-Some.field.now in
    let text = c.in-Ok.ensures.cases in
    text.0 ∙ sym (ap (λ (b : Bool). if b then field else []) (is_utf8-from_IsUtf8 field text.1)) ∙ ap text_or_empty c.in-Some.ensures.value

pub returns-in-Err : goal.returns-in-Err
returns-in-Err c =
    let field = c.in-Some.field.now in
    sym (ap (λ (b : Bool). if b then field else []) (no_text field c.in-Err.ensures.cases.0)) ∙ ap text_or_empty c.in-Some.ensures.value
