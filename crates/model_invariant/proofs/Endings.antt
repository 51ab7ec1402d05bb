-- Texts that end in `z` and a number.
use Rattle.std.proofs.Common.{◌≡◌, ℕ, ◌-◌, ◌^◌, ◌<◌, true, List, [], ◌∷◌, ◌++◌, take, drop, length, length-append, get_or, decimal, nat_eq, refl, sym, ap, ◌∙◌, subst, arith}
use Rattle.std.specs.List.{ends_with}
use Rattle.std.specs.Str.Parse.{AllDigits}
use Rattle.std.specs.Cmp.Lexicographic.{bytes_decides}
use Rattle.std.proofs.lemmas.Fmt.{decimal_is_IsNumeral, decimal_injective}
use Rattle.std.proofs.lemmas.List.{take-append-drop}
use Rattle.std.proofs.lemmas.Str.Parse.{digit_from_value}
use Rattle.std.proofs.Math.Seq.{drop-append_seam}

-- what stands at the end of a text is its end
pub ends_own : (front end : List ℕ) → ends_with nat_eq (front ++ end) end ≡ true
ends_own front end =
    let at : length (front ++ end) - length end ≡ length front = omega (arith, length-append front end) in
    let behind : drop (length (front ++ end) - length end) (front ++ end) ≡ end = ap (λ (n : ℕ). drop n (front ++ end)) at ∙ drop-append_seam front end in
    (bytes_decides end (drop (length (front ++ end) - length end) (front ++ end))).1 (sym behind)

-- what stands before the end of a text
abbrev pub before_end : List ℕ → List ℕ → List ℕ
before_end text end = take (length text - length end) text

pub ends_is : (text end : List ℕ) → ends_with nat_eq text end ≡ true → before_end text end ++ end ≡ text
ends_is text end h =
    let at = length text - length end in
    let same : end ≡ drop at text = (bytes_decides end (drop at text)).0 h in
    ap (λ (e : List ℕ). take at text ++ e) same ∙ take-append-drop at text

-- digits have no `z` among them
no_z : (front behind : List ℕ) → AllDigits 10 (front ++ (122 ∷ behind)) → ⊥
no_z [] behind d = omega (arith, digit_from_value 122 d.0)
no_z (x ∷ xs) behind d = no_z xs behind d.1

-- where only digits stand behind a `z`, it is the last one
pub last_z : (xs ys ds es : List ℕ) → AllDigits 10 ds → AllDigits 10 es → xs ++ (122 ∷ ds) ≡ ys ++ (122 ∷ es) → (xs ≡ ys) × (ds ≡ es)
last_z [] [] ds es d e h = (refl, ap (drop 1) h)
last_z [] (y ∷ ys) ds es d e h = absurd (no_z ys es (subst (AllDigits 10) (ap (drop 1) h) d))
last_z (x ∷ xs) [] ds es d e h = absurd (no_z xs ds (subst (AllDigits 10) (sym (ap (drop 1) h)) e))
last_z (x ∷ xs) (y ∷ ys) ds es d e h =
    let more = last_z xs ys ds es d e (ap (drop 1) h) in
    let first : x ≡ y = ap (λ (l : List ℕ). get_or l 0 0) h in (λ i. first i ∷ more.0 i, more.1)

pub decimal_digits : (n : ℕ) → n < 2 ^ 64 → AllDigits 10 (decimal n)
decimal_digits n small = (decimal_is_IsNumeral n small).0.1

-- two texts that are the same and end in `z` and a number have the same in front of it, and the same number
pub last_number : (xs ys : List ℕ) (a b : ℕ) → a < 2 ^ 64 → b < 2 ^ 64 → xs ++ (122 ∷ decimal a) ≡ ys ++ (122 ∷ decimal b) → (xs ≡ ys) × (a ≡ b)
last_number xs ys a b la lb h =
    let both = last_z xs ys (decimal a) (decimal b) (decimal_digits a la) (decimal_digits b lb) h in (both.0, decimal_injective a b la lb both.1)
