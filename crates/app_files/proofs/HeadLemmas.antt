-- Bytes that are looked at in pieces, of which each begins with the last bytes of the one before.
use Rattle.std.proofs.Common.{◌≡◌, ◌⊎◌, inl, inr, ℕ, ◌+◌, ◌-◌, ◌<◌, ◌≤◌, ◌==◌, true, List, [], ◌++◌, length, take, drop, sym, ap, subst, ◌∙◌, arith, length-append, Option}
use Rattle.std.proofs.lemmas.List.{drop-append-le, take-append-le, length-take, length-take-le, length-drop, append_assoc, take_at, drop-take, take-append-drop}
use Rattle.std.proofs.lemmas.Bool.{cases_lt}
use Rattle.std.proofs.Math.Seq.{drop-append-add, take-append-add}
use Rattle.std.specs.Cmp.Lexicographic.{pointwise}
use Rattle.base_devices.specs.Reported.{Gives}
use Rattle.base_devices.proofs.ToldLemmas.{Gives-append}
use Rattle.app_files.specs.Heads.{HasMarkAt, HasNoMark, shop_mark}

-- a mark that ends before the later bytes is in the earlier ones
pub mark_before : (xs ys : List ℕ) (at : ℕ) → at + 13 ≤ length xs → HasMarkAt (xs ++ ys) at → HasMarkAt xs at
mark_before xs ys at inside has =
    subst (λ (t : List ℕ). pointwise (λ (a b : ℕ). a == b) shop_mark t ≡ true)
    (ap (take 13) (drop-append-le at xs ys (omega (arith, inside))) ∙ take-append-le 13 (drop at xs) ys (omega (arith, inside, length-drop at xs)))
    has

-- a mark behind the earlier bytes is in the later ones
pub mark_behind : (xs ys : List ℕ) (n : ℕ) → HasMarkAt (xs ++ ys) (length xs + n) → HasMarkAt ys n
mark_behind xs ys n has = subst (λ (t : List ℕ). pointwise (λ (a b : ℕ). a == b) shop_mark (take 13 t) ≡ true) (drop-append-add xs ys n) has

-- no mark begins in the earlier bytes, where twelve are looked at with the next ones
pub none_before : (before last new : List ℕ) (at : ℕ) → (before ≡ []) ⊎ (12 ≤ length last) → at < length before → HasNoMark (before ++ last) → ¬ (HasMarkAt (before ++ (last ++ new)) at)
none_before before last new at (inl empty) inside none has = absurd (omega (arith, inside, ap length empty))
none_before before last new at (inr long) inside none has =
    none at (omega (arith, inside, length-append before last))
    (mark_before (before ++ last) new at (omega (arith, inside, long, length-append before last))
    (subst (λ (t : List ℕ). HasMarkAt t at) (sym (append_assoc before last new)) has))

-- nor behind them
pub none_behind : (before last new : List ℕ) (at : ℕ) → length before ≤ at → at < length (before ++ (last ++ new)) → HasNoMark (last ++ new) → ¬ (HasMarkAt (before ++ (last ++ new)) at)
none_behind before last new at behind inside none has =
    let n = at - length before in
    none n (omega (arith, behind, inside, length-append before (last ++ new)))
    (mark_behind before (last ++ new) n (subst (λ (k : ℕ). HasMarkAt (before ++ (last ++ new)) k) (omega (arith, behind)) has))

-- where there is none in both, there is none in all of them
pub none_joined : (before last new : List ℕ) → (before ≡ []) ⊎ (12 ≤ length last) → HasNoMark (before ++ last) → HasNoMark (last ++ new) → HasNoMark (before ++ (last ++ new))
none_joined before last new enough early late at inside has =
    elim (cases_lt at (length before)) [ inl lt ↦ none_before before last new at enough lt early has | inr ge ↦ none_behind before last new at ge inside late has ]

-- what is moved to the front of a piece, and over what is there, is the last of what was seen
pub kept_last : (piece one two behind_one behind_two : List ℕ) (seen from : ℕ) → seen ≤ length piece → from ≡ seen - 12 → one ≡ take (seen - from) (drop from piece)
    → two ≡ take (seen - from) (one ++ behind_one) → take (seen - from) (two ++ behind_two) ≡ drop (seen - 12) (take seen piece)
kept_last piece one two behind_one behind_two seen from inside is first second =
    let long : length one ≡ seen - from = ap length first ∙ (length-take (seen - from) (drop from piece) ∙ omega (arith, length-drop from piece, inside, is)) in
    let same : two ≡ one = second ∙ take_at one behind_one (seen - from) long in
    let whole : from + (seen - from) ≡ seen = omega (arith, is) in
    take_at two behind_two (seen - from) (ap length same ∙ long) ∙ same ∙ first ∙ sym (drop-take from (seen - from) piece)
    ∙ ap (λ (k : ℕ). drop from (take k piece)) whole ∙ ap (λ (k : ℕ). drop k (take seen piece)) is

-- How a look goes on: what came is all that was passed and the last bytes of it; a mark is in neither, nor in these with the next ones.
pub looks_on : (first now next : Option (List ℕ)) (before last new all kept : List ℕ) → Gives first (before ++ last) now → Gives now new next
    → HasNoMark (before ++ last) → (before ≡ []) ⊎ (12 ≤ length last) → all ≡ last ++ new → HasNoMark all → kept ≡ drop (length all - 12) all
    → (passed : List ℕ) × Gives first (passed ++ kept) next × HasNoMark (passed ++ kept) × ((passed ≡ []) ⊎ (12 ≤ length kept))
looks_on first now next before last new all kept came more early enough is late moved =
    let passed : List ℕ = before ++ take (length all - 12) all in
    let whole : passed ++ kept ≡ before ++ (last ++ new) =
    append_assoc before (take (length all - 12) all) kept
    ∙ ap (λ (t : List ℕ). before ++ t) (ap (λ (t : List ℕ). take (length all - 12) all ++ t) moved ∙ take-append-drop (length all - 12) all ∙ is) in
    let joined : Gives first (before ++ (last ++ new)) next = subst (λ (t : List ℕ). Gives first t next) (append_assoc before last new) (Gives-append _ _ _ _ _ came more) in
    let none : HasNoMark (before ++ (last ++ new)) = none_joined before last new enough early (subst HasNoMark is late) in
    let count : length all ≡ length last + length new = ap length is ∙ length-append last new in
    let rest : length kept ≡ length all - (length all - 12) = ap length moved ∙ length-drop (length all - 12) all in (
      passed,
      subst (λ (t : List ℕ). Gives first t next) (sym whole) joined,
      subst HasNoMark (sym whole) none,
      elim (cases_lt (length all) 12) [
        | inl few ↦ elim enough [
          | inl empty ↦ let nothing : length all - 12 ≡ 0 = omega (arith, few) in inl (ap (λ (b : List ℕ). b ++ take (length all - 12) all) empty ∙ ap (λ (k : ℕ). take k all) nothing)
          | inr long ↦ absurd (omega (arith, few, long, count))
        ]
        | inr many ↦ inr (omega (arith, many, rest))
      ],
    )

-- what was read behind the kept bytes
pub read_on : (kept n : ℕ) (piece read rest : List ℕ) → kept ≤ length piece → n ≤ length read → take (kept + n) (take kept piece ++ (read ++ rest)) ≡ take kept piece ++ take n read
read_on kept n piece read rest inside most =
    ap (λ (k : ℕ). take (k + n) (take kept piece ++ (read ++ rest))) (sym (length-take-le kept piece inside))
    ∙ take-append-add (take kept piece) (read ++ rest) n
    ∙ ap (λ (t : List ℕ). take kept piece ++ t) (take-append-le n read rest most)

-- all that came, with what was read last
pub comes_on : (first now next : Option (List ℕ)) (before last new all : List ℕ) → Gives first (before ++ last) now → Gives now new next → all ≡ last ++ new → Gives first (before ++ all) next
comes_on first now next before last new all came more is =
    subst (λ (t : List ℕ). Gives first t next) (append_assoc before last new ∙ ap (λ (t : List ℕ). before ++ t) (sym is)) (Gives-append _ _ _ _ _ came more)

-- a mark that is in what was looked at last is in all that came
pub mark_later : (before all : List ℕ) (n : ℕ) → HasMarkAt all n → HasMarkAt (before ++ all) (length before + n)
mark_later before all n has = subst (λ (t : List ℕ). pointwise (λ (a b : ℕ). a == b) shop_mark (take 13 t) ≡ true) (sym (drop-append-add before all n)) has

-- where none is in what was looked at last, there is none in all that came
pub none_on : (before last new all : List ℕ) → HasNoMark (before ++ last) → (before ≡ []) ⊎ (12 ≤ length last) → all ≡ last ++ new → HasNoMark all → HasNoMark (before ++ all)
none_on before last new all early enough is late =
    subst HasNoMark (ap (λ (t : List ℕ). before ++ t) (sym is)) (none_joined before last new enough early (subst HasNoMark is late))
