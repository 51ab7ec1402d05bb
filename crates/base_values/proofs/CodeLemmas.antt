-- Letters and what they are worth, and the five places of a number.
use Rattle.std.proofs.Common.{◌≡◌, ◌≢◌, ℕ, zero, suc, ◌+◌, ◌*◌, ◌/◌, ◌%◌, ◌^◌, ◌<◌, ◌≤◌, ◌==◌, Bool, true, false, List, [], ◌∷◌, length, get_or, position, Option, Some, None, Ok, Err, refl, ap, ◌∙◌, arith, if◌then◌else◌, nat_lt}
use Rattle.std.proofs.lemmas.Bool.{agree_below_at, false≢true}
use Rattle.std.proofs.lemmas.Bool.Decides.{nat_tests}
use Rattle.std.proofs.lemmas.List.Quantifiers.{position-Some}
use Rattle.std.specs.Str.{IsAscii}
use Rattle.base_values.specs.declared.refusal.ValueRefusal.TheVariants.{NotCode}
use Rattle.base_values.specs.Texts.{is_plain_byte, is_text, IsText}
use Rattle.base_values.specs.Codes.{last_order, alphabet, letter, order_code, worth, with_place, five_letters, five_places, of_an_order, number_of_code}

abbrev is : ℕ → Option ℕ → Bool
is d None = false
is d (Some n) = n == d

is_some : (d : ℕ) (o : Option ℕ) → is d o ≡ true → o ≡ Some d
is_some d None h = absurd (false≢true h)
is_some d (Some n) h = grind (arith, nat_tests, h)

-- every letter is ASCII
pub letter_ascii : (d : ℕ) → d < 28 → get_or alphabet d 0 < 128
letter_ascii d below = grind (arith, nat_tests, agree_below_at (λ k. nat_lt (get_or alphabet k 0) 128) (λ k. true) 28 d refl below)

-- so a code is a text
letter_plain : (n : ℕ) → is_plain_byte (letter n) ≡ true
unfolding letter
letter_plain n = agree_below_at (λ k. is_plain_byte (get_or alphabet k 0)) (λ k. true) 28 (n % 28) refl (omega arith)

pub order_code_text : (n : ℕ) → IsText (order_code n)
unfolding order_code is_text
order_code_text n = rw (letter_plain (n / 28 ^ 4), letter_plain (n / 28 ^ 3), letter_plain (n / 28 ^ 2), letter_plain (n / 28), letter_plain n) refl

-- the letter of a number is worth its last place
letter_worth : (n : ℕ) → worth (letter n) ≡ Some (n % 28)
unfolding worth letter
letter_worth n = is_some (n % 28) _ (agree_below_at (λ k. is k (position (λ l. l == get_or alphabet k 0) alphabet)) (λ k. true) 28 (n % 28) refl (omega arith))

-- a letter that is worth something is the letter of that number
worth_letter : (b d : ℕ) → worth b ≡ Some d → (d < 28) × (letter d ≡ b)
unfolding worth letter
worth_letter b d h =
    let p = position-Some (λ l. l == b) alphabet d 0 h in
    let small : d < 28 = p.0 in
    let same : d % 28 ≡ d = omega arith in
    (small, rw same (grind (arith, nat_tests, p.1)))

-- the five places of a number make it up
five : (n : ℕ) → n ≤ 17210367 → (((n / 28 ^ 4 % 28 * 28 + n / 28 ^ 3 % 28) * 28 + n / 28 ^ 2 % 28) * 28 + n / 28 % 28) * 28 + n % 28 ≡ n
five n small = omega (arith, small)

-- five bytes below 128 are ASCII
pub five_ascii : (a b c d e : ℕ) → a < 128 → b < 128 → c < 128 → d < 128 → e < 128 → IsAscii (a ∷ b ∷ c ∷ d ∷ e ∷ [])
five_ascii a b c d e h i j k l zero = h
five_ascii a b c d e h i j k l (suc zero) = i
five_ascii a b c d e h i j k l (suc (suc zero)) = j
five_ascii a b c d e h i j k l (suc (suc (suc zero))) = k
five_ascii a b c d e h i j k l (suc (suc (suc (suc zero)))) = l
five_ascii a b c d e h i j k l (suc (suc (suc (suc (suc n))))) = omega arith

-- five letters, and no others, are read
pub five_read : (text : List ℕ) → length text ≡ 5
    → five_letters (get_or text 0 0) (get_or text 1 0) (get_or text 2 0) (get_or text 3 0) (get_or text 4 0) ≡ five_places text
unfolding five_places
five_read [] h = absurd (omega arith)
five_read (a ∷ []) h = absurd (omega arith)
five_read (a ∷ b ∷ []) h = absurd (omega arith)
five_read (a ∷ b ∷ c ∷ []) h = absurd (omega arith)
five_read (a ∷ b ∷ c ∷ d ∷ []) h = absurd (omega arith)
five_read (a ∷ b ∷ c ∷ d ∷ e ∷ []) h = refl
five_read (a ∷ b ∷ c ∷ d ∷ e ∷ f ∷ more) h = absurd (omega arith)

pub others_not : (text : List ℕ) → length text ≢ 5 → None ≡ five_places text
unfolding five_places
others_not [] h = refl
others_not (a ∷ []) h = refl
others_not (a ∷ b ∷ []) h = refl
others_not (a ∷ b ∷ c ∷ []) h = refl
others_not (a ∷ b ∷ c ∷ d ∷ []) h = refl
others_not (a ∷ b ∷ c ∷ d ∷ e ∷ []) h = absurd (h refl)
others_not (a ∷ b ∷ c ∷ d ∷ e ∷ f ∷ more) h = refl

an_order : (n : ℕ) → 1 ≤ n → of_an_order (Some n) ≡ Ok n
an_order n low = grind (arith, nat_tests, low)

an_order_at : (m n : ℕ) (b : Bool) → (m == 0) ≡ b → (if b then Err NotCode else Ok m) ≡ Ok n → (m ≡ n) × (1 ≤ m)
an_order_at m n true is h = absurd (cc)
an_order_at m n false is h = (cc, grind (arith, nat_tests, is))

an_order_is : (m n : ℕ) → of_an_order (Some m) ≡ Ok n → (m ≡ n) × (1 ≤ m)
an_order_is m n h = an_order_at m n _ refl h

-- the code of a number reads as that number
pub reads_back : (n : ℕ) → 1 ≤ n → n ≤ last_order → number_of_code (order_code n) ≡ Ok n
unfolding number_of_code order_code five_places five_letters
reads_back n low high =
    rw (letter_worth (n / 28 ^ 4), letter_worth (n / 28 ^ 3), letter_worth (n / 28 ^ 2), letter_worth (n / 28), letter_worth n)
    (ap (λ m. of_an_order (Some m)) (five n high) ∙ an_order n low)

same_letter : (m d b : ℕ) → m % 28 ≡ d → d < 28 → letter d ≡ b → letter m ≡ b
unfolding letter
same_letter m d b is small h =
    let same : d % 28 ≡ d = omega arith in
    rw is (rw same at h)

known : (n p q r s t : ℕ) → p < 28 → q < 28 → r < 28 → s < 28 → t < 28 → (((p * 28 + q) * 28 + r) * 28 + s) * 28 + t ≡ n
    → (n / 28 ^ 4 % 28 ≡ p) × (n / 28 ^ 3 % 28 ≡ q) × (n / 28 ^ 2 % 28 ≡ r) × (n / 28 % 28 ≡ s) × (n % 28 ≡ t) × (n ≤ last_order)
known n p q r s t hp hq hr hs ht is = (omega arith, omega arith, omega arith, omega arith, omega arith, omega arith)

from_letters : (a b c d e n : ℕ) (v w x y z : Option ℕ) → worth a ≡ v → worth b ≡ w → worth c ≡ x → worth d ≡ y → worth e ≡ z
    → of_an_order (with_place (with_place (with_place (with_place v w) x) y) z) ≡ Ok n
    → (order_code n ≡ a ∷ b ∷ c ∷ d ∷ e ∷ []) × (1 ≤ n) × (n ≤ last_order)
unfolding order_code
from_letters a b c d e n None w x y z ha hb hc hd he h = absurd (cc)
from_letters a b c d e n (Some p) None x y z ha hb hc hd he h = absurd (cc)
from_letters a b c d e n (Some p) (Some q) None y z ha hb hc hd he h = absurd (cc)
from_letters a b c d e n (Some p) (Some q) (Some r) None z ha hb hc hd he h = absurd (cc)
from_letters a b c d e n (Some p) (Some q) (Some r) (Some s) None ha hb hc hd he h = absurd (cc)
from_letters a b c d e n (Some p) (Some q) (Some r) (Some s) (Some t) ha hb hc hd he h =
    let m = an_order_is ((((p * 28 + q) * 28 + r) * 28 + s) * 28 + t) n h in
    let la = worth_letter a p ha in
    let lb = worth_letter b q hb in
    let lc = worth_letter c r hc in
    let ld = worth_letter d s hd in
    let le = worth_letter e t he in
    let k = known n p q r s t la.0 lb.0 lc.0 ld.0 le.0 m.0 in (
      rw (
        same_letter (n / 28 ^ 4) p a k.0 la.0 la.1,
        same_letter (n / 28 ^ 3) q b k.1 lb.0 lb.1,
        same_letter (n / 28 ^ 2) r c k.2 lc.0 lc.1,
        same_letter (n / 28) s d k.3 ld.0 ld.1,
        same_letter n t e k.4 le.0 le.1,
      ) refl,
      omega (arith, m.0, m.1),
      k.5,
    )

-- what reads is the code of its number
pub only_these : (text : List ℕ) (n : ℕ) → number_of_code text ≡ Ok n → (order_code n ≡ text) × (1 ≤ n) × (n ≤ last_order)
unfolding number_of_code five_places five_letters
only_these [] n h = absurd (cc)
only_these (a ∷ []) n h = absurd (cc)
only_these (a ∷ b ∷ []) n h = absurd (cc)
only_these (a ∷ b ∷ c ∷ []) n h = absurd (cc)
only_these (a ∷ b ∷ c ∷ d ∷ []) n h = absurd (cc)
only_these (a ∷ b ∷ c ∷ d ∷ e ∷ []) n h = from_letters a b c d e n (worth a) (worth b) (worth c) (worth d) (worth e) refl refl refl refl refl h
only_these (a ∷ b ∷ c ∷ d ∷ e ∷ f ∷ more) n h = absurd (cc)
