-- Slugs: the short names of organizers and events, as they stand in paths.
use Rattle.std.specs.Prelude.{◌≡◌, ℕ, Bool, true, ◌&&◌, ◌||◌, ◌==◌, List, length, nat_le}
use Rattle.std.specs.List.{list_all}

-- an ASCII letter, a digit, `-`, `.` or `_`
abbrev pub is_slug_byte : ℕ → Bool
is_slug_byte b =
    (nat_le 97 b && nat_le b 122) || ((nat_le 65 b && nat_le b 90) || ((nat_le 48 b && nat_le b 57) || (b == 45 || (b == 46 || b == 95))))

-- 1 to 50 of them
unfoldable pub is_slug : List ℕ → Bool
is_slug text = nat_le 1 (length text) && (nat_le (length text) 50 && list_all is_slug_byte text)

-- a slug: 1 to 50 letters, digits, `-`, `.` and `_`
abbrev pub IsSlug : List ℕ → Type 0
IsSlug text = is_slug text ≡ true
