-- Answers that are kept under keys, and how long.
use Rattle.std.specs.Prelude.{◌≡◌, ℕ, ◌+◌, Bool, true, false, ◌&&◌, ◌==◌, nat_lt, List, [], ◌∷◌, find, Option, bytes_eq, option_map}
use Rattle.std.specs.List.{list_any}
use Rattle.base_values.specs.declared.answer.Response.{Response}
use Rattle.model_answers.specs.declared.kept.Kept.{Kept}

-- how long an answer is kept, in seconds
abbrev pub a_day : ℕ
a_day = 86400

-- a key has at least one byte
abbrev pub has_key : List ℕ → Bool
has_key [] = false
has_key (byte ∷ bytes) = true

-- what was kept since then isn't past at a moment
abbrev pub lasts : ℕ → ℕ → Bool
lasts now since = nat_lt now (since + a_day)

-- two answers are under the same key of the same token
abbrev pub same_key : Kept → Kept → Bool
same_key a b = (a.token == b.token) && bytes_eq a.key b.key

-- no token has a key twice
abbrev pub AreOneForEachKey : List Kept → Type 0
AreOneForEachKey [] = Unit {0}
AreOneForEachKey (k ∷ ks) = (list_any (same_key k) ks ≡ false) × AreOneForEachKey ks

-- an answer is under this key of this token, and still kept at a moment
abbrev pub is_for : ℕ → List ℕ → ℕ → Kept → Bool
is_for token key now k = has_key key && (k.token == token) && bytes_eq k.key key && lasts now k.at

-- what was told under a key of a token that is still kept at a moment
abbrev pub told_by : ℕ → List ℕ → ℕ → List Kept → Option Response
told_by token key now ks = option_map (λ k. k.response) (find (is_for token key now) ks)
