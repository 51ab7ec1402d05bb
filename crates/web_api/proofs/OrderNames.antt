-- What is an order's code is UTF-8.
use Rattle.std.proofs.Common.{◌≡◌, ℕ, ◌%◌, ◌/◌, ◌^◌, ◌<◌, List, None, Ok, Err, refl, arith}
use Rattle.std.specs.Result.{result_ok}
use Rattle.std.specs.Str.{IsUtf8, IsAscii}
use Rattle.std.proofs.lemmas.Str.{IsUtf8-from_ascii}
use Rattle.base_values.specs.Codes.{letter, order_code, number_of_code}
use Rattle.base_values.proofs.CodeLemmas.{letter_ascii, five_ascii, only_these}

letter_small : (n : ℕ) → letter n < 128
unfolding letter
letter_small n = letter_ascii (n % 28) (omega arith)

code_ascii : (n : ℕ) → IsAscii (order_code n)
unfolding order_code
code_ascii n = five_ascii _ _ _ _ _ (letter_small (n / 28 ^ 4)) (letter_small (n / 28 ^ 3)) (letter_small (n / 28 ^ 2)) (letter_small (n / 28)) (letter_small n)

coded : (text : List ℕ) (n : ℕ) → number_of_code text ≡ Ok n → IsUtf8 text
coded text n h =
    let code : order_code n ≡ text = (only_these text n h).0 in
    rw code at (IsUtf8-from_ascii (order_code n) (code_ascii n))

-- what is no UTF-8 names no order
pub unnamed : (code : List ℕ) → ¬ (IsUtf8 code) → None ≡ result_ok (number_of_code code)
unnamed code broken =
    elim (number_of_code code) as (λ r. number_of_code code ≡ r → None ≡ result_ok r) [ Ok n ↦ λ e. absurd (broken (coded code n e)) | Err f ↦ λ e. refl ] refl
