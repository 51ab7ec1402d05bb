-- The methods of heads are ASCII.
use Rattle.std.proofs.Common.{◌≡◌, ℕ, ◌<◌, true, List, arith}
use Rattle.std.proofs.lemmas.Bool.Decides.{nat_tests}
use Rattle.std.proofs.lemmas.List.Elements.{All-weaker}
use Rattle.std.proofs.lemmas.Str.{IsUtf8-from_ascii, utf8_lossy-IsUtf8}
use Rattle.std.proofs.lemmas.Str.Ascii.{IsAscii-from_all}
use Rattle.std.specs.Str.Lossy.{utf8_lossy}
use Rattle.httparse.specs.Grammar.{is_token_byte, IsToken}

token_is_ascii : (b : ℕ) → is_token_byte b ≡ true → b < 128
unfolding is_token_byte
token_is_ascii b token = grind (arith, nat_tests)

pub method_as_given : (method : List ℕ) → IsToken method → utf8_lossy method ≡ method
method_as_given method token = utf8_lossy-IsUtf8 method (IsUtf8-from_ascii method (IsAscii-from_all method
    (All-weaker (λ b. is_token_byte b ≡ true) (λ b. b < 128) token_is_ascii method token.1)))
