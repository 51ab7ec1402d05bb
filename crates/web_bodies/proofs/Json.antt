-- The reading of a text as JSON, by whether it is UTF-8.
use Rattle.std.proofs.Common.{◌≡◌, ℕ, true, false, cond, List, Some, None, Ok, Err, refl, ap}
use Rattle.std.specs.Str.{IsUtf8, is_utf8}
use Rattle.std.proofs.lemmas.Str.{IsUtf8-from_is_utf8, is_utf8-from_IsUtf8}
use Rattle.serde_json.specs.Data.{Data}
use Rattle.serde_json.specs.Read.{read}
use Rattle.web_fields.specs.declared.error.BodyFault.TheVariants as faults
use Rattle.web_bodies.specs.Body.{json_from, json_of}

pub json_read : (text : List ℕ) (d : Data) → IsUtf8 text → read text ≡ Some d → json_of text ≡ Ok d
unfolding json_of
json_read text d u e = rw (is_utf8-from_IsUtf8 text u) (ap json_from e)

pub json_refused : (text : List ℕ) → (IsUtf8 text → read text ≡ None) → json_of text ≡ Err faults.NotJson
unfolding json_of
json_refused text none =
    elim (is_utf8 text) as (λ b. is_utf8 text ≡ b → cond b (json_from (read text)) (Err faults.NotJson) ≡ Err faults.NotJson) [ true ↦ λ e. ap json_from (none (IsUtf8-from_is_utf8 text e)) | false ↦ λ e. refl ] refl
