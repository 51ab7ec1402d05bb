-- Numbers by which texts and pairs of ids are found.
use Rattle.std.specs.Prelude.{ℕ, ◌+◌, ◌*◌, ◌%◌, List, [], ◌∷◌}

-- a number below 2^55 by which a text is found, counted on from the number of what is before the text
unfoldable pub digest_from : ℕ → List ℕ → ℕ
digest_from h [] = h
digest_from h (b ∷ bs) = digest_from ((h * 257 + b) % 36028797018963968) bs

-- texts that are the same have the same
abbrev pub digest : List ℕ → ℕ
digest text = digest_from 0 text

-- a number below 2^55 by which two ids together are found; other pairs may have it too
abbrev pub pair : ℕ → ℕ → ℕ
pair a b = (a * 257 + b) % 36028797018963968
