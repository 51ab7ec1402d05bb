-- A code that the shop makes is a text of its form, ends in its voucher's id, and is of no voucher that stands.
use Rattle.std.proofs.Common.{◌≡◌, ℕ, ◌/◌, ◌%◌, ◌^◌, ◌<◌, Bool, true, false, ◌&&◌, eqb, List, [], ◌∷◌, ◌++◌, suc, take, drop, length, length-append, decimal, codes, nat_le, nat_lt, nat_eq, append_assoc, slice_index, None, refl, sym, ap, ◌∙◌, subst, arith}
use Rattle.std.specs.Prelude.{find, not}
use Rattle.std.specs.Char.{is_ascii_digit}
use Rattle.std.specs.List.{ends_with, list_all, list_any, AllByRecursion}
use Rattle.std.specs.Str.Parse.{AllDigits}
use Rattle.std.proofs.lemmas.Bool.{agree_below_at}
use Rattle.std.proofs.lemmas.Bool.Decides.{nat_tests}
use Rattle.std.proofs.lemmas.Fmt.{decimal_nonempty}
use Rattle.std.proofs.lemmas.Str.Parse.{digit_from_value}
use Rattle.std.proofs.Math.Seq.{drop-append_seam, take-append_seam}
use Rattle.hex.specs.Hex.{encode_lower, encode_with, lower_digits, IsBytes}
use Rattle.hex.proofs.HexLemmas.{length-encode_with}
use Rattle.base_values.specs.Digits.{is_digits}
use Rattle.base_values.specs.Draws.{IsDraw}
use Rattle.base_values.specs.Texts.{IsText, same_text}
use Rattle.base_values.specs.declared.draw.Draw.{Draw}
use Rattle.base_values.proofs.Pieces.{text_of, behind, with_number, hex_piece}
use Rattle.model_rows.specs.declared.rows.Voucher.{Voucher}
use Rattle.model_rows.specs.Lists.{State}
use Rattle.model_rows.specs.Named.{voucher_of}
use Rattle.model_invariant.specs.MadeCodes.{made_code}
use Rattle.model_invariant.specs.OwnCodes.{code_ending}
use Rattle.model_invariant.specs.Reserved.{is_lower_hex, ends_as_made, goes_on_as_made, is_reserved}
use Rattle.model_invariant.specs.Sound.{IsSound}
use Rattle.model_invariant.proofs.Endings.{ends_own, decimal_digits}
use Rattle.model_invariant.proofs.OwnCodes.{own_ending, none_has, HasItsCode}

-- a code that is made is a text
pub made_text : (draw : Draw) (id : ℕ) → IsDraw draw → id < 2 ^ 64 → IsText (made_code draw id)
unfolding made_code
made_text draw id sixteen small =
    let front = behind 1 32 (codes "W") (encode_lower draw.bytes) (record { short = omega arith; plain = refl }) (hex_piece draw sixteen) in
    text_of 54 (made_code draw id) (with_number 33 (codes "W" ++ encode_lower draw.bytes) id front small) (omega arith)

-- a code that is made ends in its voucher's id
pub made_ends : (draw : Draw) (id : ℕ) → ends_with nat_eq (made_code draw id) (code_ending id) ≡ true
unfolding made_code
made_ends draw id =
    let front = codes "W" ++ encode_lower draw.bytes in
    subst (λ (text : List ℕ). ends_with nat_eq text (code_ending id) ≡ true) (sym (append_assoc front (codes "z") (decimal id))) (ends_own front (code_ending id))

-- and has the form of those that the shop makes, where the draw is one
all_three : (a b c : Bool) → a ≡ true → b ≡ true → c ≡ true → (a && (b && c)) ≡ true
all_three a b c ha hb hc = rw (ha, hb) hc

hex_digit : (n : ℕ) → n < 16 → is_lower_hex (slice_index lower_digits n) ≡ true
hex_digit n small = agree_below_at (λ k. is_lower_hex (slice_index lower_digits k)) (λ k. true) 16 n refl small

hex_digits : (bytes : List ℕ) → IsBytes bytes → list_all is_lower_hex (encode_with lower_digits bytes) ≡ true
unfolding encode_with
hex_digits [] h = refl
hex_digits (b ∷ rest) h =
    let small : b < 256 = h 0 in
    all_three (is_lower_hex (slice_index lower_digits (b / 16))) (is_lower_hex (slice_index lower_digits (b % 16))) (list_all is_lower_hex (encode_with lower_digits rest))
    (hex_digit (b / 16) (omega (arith, small))) (hex_digit (b % 16) (omega arith)) (hex_digits rest (λ i. h (suc i)))

digits_pass : (ds : List ℕ) → AllDigits 10 ds → is_digits ds ≡ true
digits_pass [] d = refl
digits_pass (c ∷ cs) d =
    let range = digit_from_value c d.0 in
    let here : is_ascii_digit c ≡ true = grind (arith, nat_tests, range) in
    rw here (digits_pass cs d.1)

goes_on : (hex ds : List ℕ) → length hex ≡ 32 → list_all is_lower_hex hex ≡ true → 0 < length ds → is_digits ds ≡ true → goes_on_as_made (hex ++ (122 ∷ ds)) ≡ true
goes_on hex ds len all some digits =
    let text = hex ++ (122 ∷ ds) in
    let front : take 32 text ≡ hex = ap (λ (n : ℕ). take n text) (sym len) ∙ take-append_seam hex (122 ∷ ds) in
    let end : drop 32 text ≡ 122 ∷ ds = ap (λ (n : ℕ). drop n text) (sym len) ∙ drop-append_seam hex (122 ∷ ds) in
    let more : nat_lt 0 (length ds) ≡ true = grind (arith, nat_tests, some) in
    let ends : ends_as_made (122 ∷ ds) ≡ true = rw more digits in
    all_three (nat_le 32 (length text)) (list_all is_lower_hex (take 32 text)) (ends_as_made (drop 32 text))
    (grind (arith, nat_tests, len, length-append hex (122 ∷ ds)))
    (ap (list_all is_lower_hex) front ∙ all)
    (ap ends_as_made end ∙ ends)

pub made_reserved : (draw : Draw) (id : ℕ) → IsDraw draw → id < 2 ^ 64 → is_reserved (made_code draw id) ≡ true
unfolding made_code
made_reserved draw id sixteen small =
    let hex = encode_lower draw.bytes in
    let len : length hex ≡ 32 = omega (arith, length-encode_with lower_digits draw.bytes, sixteen.sixteen) in
    ap goes_on_as_made (append_assoc hex (codes "z") (decimal id)) ∙ goes_on hex (decimal id) len (hex_digits draw.bytes sixteen.bytes) (decimal_nonempty id small) (digits_pass (decimal id) (decimal_digits id small))

-- the code that is made for the next id is of no voucher
none_of_code : (code : List ℕ) (rows : List Voucher) → AllByRecursion (λ v. same_text v.code code ≡ false) rows → find (λ v. same_text v.code code) rows ≡ None
none_of_code code [] h = refl
none_of_code code (v ∷ vs) h = rw h.0 (none_of_code code vs h.1)

none_takes : (id : ℕ) (code : List ℕ) (rows : List Voucher) → AllByRecursion (λ v. same_text v.code code ≡ false) rows → list_any (λ v. same_text v.code code && not (eqb v.id id)) rows ≡ false
none_takes id code [] h = refl
none_takes id code (v ∷ vs) h = rw h.0 (none_takes id code vs h.1)

module _ (draw : Draw) (state : State) (sixteen : IsDraw draw) (sound : IsSound state) where
  abbrev next_code : List ℕ
  next_code = made_code draw state.next.voucher

  none_has_it : AllByRecursion (λ v. same_text v.code next_code ≡ false) state.lists.vouchers
  none_has_it =
      let small : state.next.voucher < 2 ^ 64 = omega (arith, sound.range.next_ids.vouchers.within) in
      none_has next_code state.next.voucher (made_reserved draw state.next.voucher sixteen small) (made_ends draw state.next.voucher) small state.lists.vouchers sound.ids.vouchers.below sound.codes.own

  pub next_code_free : voucher_of next_code state.lists ≡ None
  next_code_free = none_of_code next_code state.lists.vouchers none_has_it

  -- and so the next voucher can be put with it
  pub next_code_its_own : (row : Voucher) → row.id ≡ state.next.voucher → row.code ≡ next_code → HasItsCode row state.lists
  next_code_its_own row id code = (
    rw code (none_takes row.id next_code state.lists.vouchers none_has_it),
    own_ending row (rw (code, id) (made_ends draw state.next.voucher)),
  )
