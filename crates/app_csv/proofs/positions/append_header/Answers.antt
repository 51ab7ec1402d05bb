use Rattle.std.proofs.Common.{◌≡◌, ◌∙◌, ◌++◌, ℕ, List, OnOk, refl, subst}
use Rattle.csv.specs.Records.{fields_of}
use Rattle.csv.specs.Writing.{default_writer, row_text}
use Rattle.app_csv.specs.Lines.{IsAtLine, written_text}
use Rattle.app_csv.specs.PositionLines.{header}
use Rattle.app_csv.proofs.positions.append_header.Goals as goal

pub returns-clause-text : goal.returns-clause-text
returns-clause-text c =
    let names : fields_of c.in_ok-names.names ≡ header =
    c.in_ok-names.ensures.fields
    ∙ rw (c.as_bytes.ensures.value, c.as_bytes-2.ensures.value, c.as_bytes-3.ensures.value, c.as_bytes-4.ensures.value, c.as_bytes-5.ensures.value, c.as_bytes-6.ensures.value, c.as_bytes-7.ensures.value, c.as_bytes-8.ensures.value) refl in
    subst (λ (fields : List (List ℕ)). OnOk c.append_line.result (IsAtLine c.args.writer.now → written_text (λ v. v.items) c.append_line.new.writer ≡ written_text (λ v. v.items) c.args.writer.now ++ row_text default_writer fields)) names c.append_line.ensures.text
