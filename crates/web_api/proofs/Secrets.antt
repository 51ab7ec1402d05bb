-- The secret that a text of a path is, by whether it is UTF-8 and a text.
use Rattle.std.proofs.Common.{◌≡◌, ℕ, ◌&&◌, true, false, cond, List, refl}
use Rattle.std.specs.Str.{IsUtf8, is_utf8}
use Rattle.std.proofs.lemmas.Str.{IsUtf8-from_is_utf8, is_utf8-from_IsUtf8}
use Rattle.base_values.specs.Texts.{is_text}
use Rattle.model_commands.specs.declared.doors.Ticket.TheVariants as tickets
use Rattle.web_api.specs.Tickets.{secret_in}

-- a text of UTF-8 that a row could have is the secret
pub secret_known : (bytes text copy : List ℕ) → text ≡ bytes → IsUtf8 bytes → is_text text ≡ true → copy ≡ text → tickets.Secret copy ≡ secret_in bytes
secret_known bytes text copy e u t c =
    let whole : is_text bytes ≡ true = rw e at t in
    rw (c, e, is_utf8-from_IsUtf8 bytes u, whole) refl

-- what is no UTF-8 is no ticket's
pub secret_unknown : (bytes : List ℕ) → ¬ (IsUtf8 bytes) → tickets.Unreadable ≡ secret_in bytes
secret_unknown bytes broken =
    elim (is_utf8 bytes) as (λ b. is_utf8 bytes ≡ b → tickets.Unreadable ≡ cond (b && is_text bytes) (tickets.Secret bytes) tickets.Unreadable)
    [ true ↦ λ e. absurd (broken (IsUtf8-from_is_utf8 bytes e)) | false ↦ λ e. refl ] refl
