-- Pieces of which texts are made: so many bytes at most, and no control byte.
use Rattle.std.proofs.Common.{◌≡◌, ℕ, ◌+◌, ◌/◌, ◌%◌, ◌^◌, ◌<◌, ◌≤◌, Bool, true, ◌&&◌, List, [], ◌∷◌, ◌++◌, suc, length, length-append, decimal, codes, nat_le, slice_index, refl, ◌∙◌, arith}
use Rattle.std.specs.Char.{is_ascii_digit}
use Rattle.std.specs.List.{list_all}
use Rattle.std.specs.Str.Parse.{AllDigits}
use Rattle.std.proofs.lemmas.Bool.{agree_below_at}
use Rattle.std.proofs.lemmas.Bool.Decides.{nat_tests}
use Rattle.std.proofs.lemmas.Fmt.{decimal_is_IsNumeral, length-decimal-le}
use Rattle.std.proofs.lemmas.Str.Parse.{digit_from_value}
use Rattle.hex.specs.Hex.{encode_lower, encode_with, lower_digits, IsBytes}
use Rattle.hex.proofs.HexLemmas.{length-encode_with}
use Rattle.base_values.specs.declared.draw.Draw.{Draw}
use Rattle.base_values.specs.Draws.{IsDraw}
use Rattle.base_values.specs.Secrets.{secret}
use Rattle.base_values.specs.Texts.{is_plain_byte, is_text, IsText}
use Rattle.base_values.proofs.DigitLemmas.{list_all-append}

pub record IsPiece (most : ℕ) (text : List ℕ) : Type 0 where
  pub short : length text ≤ most
  pub plain : list_all is_plain_byte text ≡ true

-- a piece that is short enough is a text
pub text_of : (most : ℕ) (text : List ℕ) → IsPiece most text → most ≤ 254 → IsText text
unfolding is_text
text_of most text p le =
    let short : nat_le (length text) 254 ≡ true = grind (arith, nat_tests, p.short, le) in
    rw short p.plain

-- one piece behind another
pub behind : (n m : ℕ) (a b : List ℕ) → IsPiece n a → IsPiece m b → IsPiece (n + m) (a ++ b)
behind n m a b p q = record {
  short = omega (arith, length-append a b, p.short, q.short);
  plain = list_all-append is_plain_byte a b ∙ rw p.plain q.plain;
}

-- digits of a draw
hex_digit : (n : ℕ) → n < 16 → is_plain_byte (slice_index lower_digits n) ≡ true
hex_digit n small = agree_below_at (λ k. is_plain_byte (slice_index lower_digits k)) (λ k. true) 16 n refl small

hex_digits : (bytes : List ℕ) → IsBytes bytes → list_all is_plain_byte (encode_with lower_digits bytes) ≡ true
unfolding encode_with
hex_digits [] h = refl
hex_digits (b ∷ rest) h =
    let small : b < 256 = h 0 in
    rw (hex_digit (b / 16) (omega (arith, small)), hex_digit (b % 16) (omega arith)) (hex_digits rest (λ i. h (suc i)))

pub hex_piece : (draw : Draw) → IsDraw draw → IsPiece 32 (encode_lower draw.bytes)
hex_piece draw is = record { short = omega (arith, length-encode_with lower_digits draw.bytes, is.sixteen); plain = hex_digits draw.bytes is.bytes }

-- digits of a number
digits_pass : (ds : List ℕ) → AllDigits 10 ds → list_all is_plain_byte ds ≡ true
digits_pass [] d = refl
digits_pass (c ∷ cs) d =
    let range = digit_from_value c d.0 in
    let here : is_plain_byte c ≡ true = grind (arith, nat_tests, range) in
    rw here (digits_pass cs d.1)

pub decimal_piece : (n : ℕ) → n < 2 ^ 64 → IsPiece 20 (decimal n)
decimal_piece n small = record { short = length-decimal-le 20 n (omega arith) (omega (arith, small)) small; plain = digits_pass (decimal n) (decimal_is_IsNumeral n small).0.1 }

-- `z` and a number behind a piece
pub with_number : (most : ℕ) (text : List ℕ) (n : ℕ) → IsPiece most text → n < 2 ^ 64 → IsPiece (most + 1 + 20) (text ++ codes "z" ++ decimal n)
with_number most text n p small =
    behind (most + 1) 20 (text ++ codes "z") (decimal n) (behind most 1 text (codes "z") p (record { short = omega arith; plain = refl })) (decimal_piece n small)

-- a secret is a text
pub secret_text : (draw : Draw) (order position : ℕ) → IsDraw draw → order < 2 ^ 64 → position < 2 ^ 64 → IsText (secret draw order position)
unfolding secret
secret_text draw order position is low low_too =
    text_of 74 (secret draw order position) (with_number 53 (encode_lower draw.bytes ++ codes "z" ++ decimal order) position (with_number 32 (encode_lower draw.bytes) order (hex_piece draw is) low) low_too) (omega arith)
