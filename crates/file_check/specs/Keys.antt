-- Numbers by which check-ins with nonces are told apart.
use Rattle.std.specs.Prelude.{ℕ, List, ◌++◌, Option, Some, None, codes}
use Rattle.std.specs.Fmt.{decimal}
use Rattle.book_indexes.specs.Digests.{digest}
use Rattle.model_rows.specs.declared.rows.Checkin.{Checkin}

-- the digest of the list's and the position's ids and the nonce, with `z` between them
abbrev pub key_of : ℕ → ℕ → Option (List ℕ) → Option ℕ
key_of list position None = None
key_of list position (Some nonce) = Some (digest (decimal list ++ (codes "z" ++ (decimal position ++ (codes "z" ++ nonce)))))

-- that of a check-in, where it has a nonce
abbrev pub nonce_key : Checkin → Option ℕ
nonce_key row = key_of row.list row.position row.nonce
