-- What can be read: one cause for another, and texts that are UTF-8.
use Rattle.std.proofs.Common.{◌≡◌, ℕ, ◌<◌, ◌≤◌, ltb, Bool, true, false, ◌&&◌, List, [], length, codes, Option, Some, None, refl, arith}
use Rattle.std.specs.List.{list_all}
use Rattle.std.specs.Str.{IsUtf8}
use Rattle.std.proofs.lemmas.Bool.Decides.{nat_tests}
use Rattle.std.proofs.lemmas.List.Sums.{AllPass-from_list_all}
use Rattle.std.proofs.lemmas.Str.{IsUtf8-from_ascii}
use Rattle.std.proofs.lemmas.Str.Ascii.{IsAscii-from_reads}
use Rattle.sqlite_value.specs.declared.value.Value.TheVariants.{Text}
use Rattle.base_values.specs.declared.answer.Methods.{Methods}
use Rattle.base_values.specs.declared.price_mode.PriceMode.{PriceMode}
use Rattle.base_values.specs.declared.price_mode.PriceMode.TheVariants as modes
use Rattle.base_values.specs.Slugs.{IsSlug, is_slug, is_slug_byte}
use Rattle.model_rows.specs.declared.rows.Status.{Status}
use Rattle.model_rows.specs.declared.rows.Status.TheVariants as statuses
use Rattle.model_rows.specs.declared.rows.CheckinKind.{CheckinKind}
use Rattle.model_rows.specs.declared.rows.CheckinKind.TheVariants as kinds
use Rattle.file_schema.specs.declared.error.RowError.{RowError}
use Rattle.file_schema.specs.declared.error.RowError.TheVariants.{Memory, Foreign, Damaged, Store}
use Rattle.file_rows.specs.Cells.{mode, status, kind, methods, methods_text}
use Rattle.file_rows.specs.Unread.{IsUnread}

pub unread : (D E : Type 0) → (D → E) → (e : RowError) → IsUnread D e → IsUnread E e
unread D E k Memory h = tt
unread D E k Foreign h = absurd h
unread D E k Damaged h = k h
unread D E k Store h = absurd h

abbrev is_low : ℕ → Bool
is_low b = ltb b 128

under : (b : ℕ) → is_low b ≡ true → b < 128
under b h = grind (arith, nat_tests, h)

-- bytes below 128 are UTF-8
low_utf8 : (t : List ℕ) → list_all is_low t ≡ true → IsUtf8 t
low_utf8 t h =
    let whole : length t ≤ length t = omega arith in
    IsUtf8-from_ascii t (IsAscii-from_reads t (length t) whole (λ k lt. under _ (AllPass-from_list_all is_low t h k 0 lt)))

pub mode_reads : (m : PriceMode) → (t : List ℕ) × (mode m ≡ Text t) × IsUtf8 t
mode_reads modes.None = (codes "none", refl, low_utf8 (codes "none") refl)
mode_reads modes.Set = (codes "set", refl, low_utf8 (codes "set") refl)
mode_reads modes.Subtract = (codes "subtract", refl, low_utf8 (codes "subtract") refl)
mode_reads modes.Percent = (codes "percent", refl, low_utf8 (codes "percent") refl)

pub status_reads : (s : Status) → (t : List ℕ) × (status s ≡ Text t) × IsUtf8 t
status_reads statuses.Pending = (codes "n", refl, low_utf8 (codes "n") refl)
status_reads statuses.Paid = (codes "p", refl, low_utf8 (codes "p") refl)
status_reads statuses.Expired = (codes "e", refl, low_utf8 (codes "e") refl)
status_reads statuses.Cancelled = (codes "c", refl, low_utf8 (codes "c") refl)

pub kind_reads : (k : CheckinKind) → (t : List ℕ) × (kind k ≡ Text t) × IsUtf8 t
kind_reads kinds.Entry = (codes "entry", refl, low_utf8 (codes "entry") refl)
kind_reads kinds.Exit = (codes "exit", refl, low_utf8 (codes "exit") refl)

named_low : (a b c d : Bool) → list_all is_low (methods_text (record { get = a; post = b; patch = c; delete = d })) ≡ true
named_low false false false false = refl
named_low true false false false = refl
named_low false true false false = refl
named_low true true false false = refl
named_low false false true false = refl
named_low true false true false = refl
named_low false true true false = refl
named_low true true true false = refl
named_low false false false true = refl
named_low true false false true = refl
named_low false true false true = refl
named_low true true false true = refl
named_low false false true true = refl
named_low true false true true = refl
named_low false true true true = refl
named_low true true true true = refl

pub methods_read : (allow : Option Methods) → (t : List ℕ) × (methods allow ≡ Text t) × IsUtf8 t
methods_read None = ([], refl, low_utf8 [] refl)
methods_read (Some m) = (methods_text m, refl, low_utf8 (methods_text m) (named_low m.get m.post m.patch m.delete))

low : (b : ℕ) → is_slug_byte b ≡ true → b < 128
low b h = grind (arith, nat_tests, h)

behind : (a b : Bool) → (a && b) ≡ true → b ≡ true
behind false b h = absurd (let e : false ≡ true = h in cc)
behind true b h = h

-- a slug is ASCII
pub slug_utf8 : (t : List ℕ) → IsSlug t → IsUtf8 t
unfolding is_slug
slug_utf8 t h =
    let whole : length t ≤ length t = omega arith in
    let bytes : list_all is_slug_byte t ≡ true = behind _ _ (behind _ _ h) in
    IsUtf8-from_ascii t (IsAscii-from_reads t (length t) whole (λ k lt. low _ (AllPass-from_list_all is_slug_byte t bytes k 0 lt)))
