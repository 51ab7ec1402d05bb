-- The join of order positions, their orders and their vouchers: what it shows of the rows of the tables.
use Rattle.std.proofs.Common.{◌≡◌, Bool, true, false, cond, ◌&&◌, List, [], ◌∷◌, ◌++◌, map, filter, refl, sym, ap, ◌∙◌, arith, append-nil}
use Rattle.std.specs.List.{flat_map}
use Rattle.std.specs.List.Sorted.{IsPermutation}
use Rattle.std.proofs.lemmas.List.Sorted.{IsPermutation-trans, length_permutation}
use Rattle.sqlite.specs.Collation.TheVariants.{Binary}
use Rattle.sqlite_value.specs.declared.value.Value.{Value}
use Rattle.sqlite_value.specs.declared.value.Value.TheVariants.{Null}
use Rattle.sqlite_value.specs.Order.{Row, column}
use Rattle.sqlite_trees.specs.Tree.{Trees}
use Rattle.sqlite_trees.proofs.ListLemmas.{map-flat_map, flat_map-map, filter-map, flat_map-filter, flat_map_same_on, flat_map_none, IsPermutation-same, IsPermutation-flat_map, IsPermutation-flat_map_each, IsPermutation-filter}
use Rattle.sqlite_sql.specs.Ops.{is_true, binary}
use Rattle.sqlite_sql.specs.declared.ops.BinaryOp.TheVariants.{Compare}
use Rattle.sqlite_sql.specs.declared.ops.CompareOp.TheVariants.{Eq}
use Rattle.sqlite_sql.specs.Query.{Output, output, matches_as, or_nulls}
use Rattle.file_schema.specs.Tables.{schema}
use Rattle.file_schema.specs.Parts.{row_shown}
use Rattle.app_export.proofs.Asked.{joined, partner}

-- ---- of rows as the tables show them

abbrev pub equal : Value → Value → Bool
equal a b = is_true (binary (Compare Eq Binary) a b)

-- the order is the position's, and the voucher
abbrev pub is_of : Row → Row → Bool
is_of p o = equal (column o 0) (column p 1) && true

abbrev pub is_named : Row → Row → Bool
is_named p v = equal (column v 0) (column p 6) && true

-- what a row is sorted by, and what it shows
abbrev pub line : Row → Row → Value → Output
line p o code = (column p 1 ∷ column p 2 ∷ [], column p 1 ∷ column p 2 ∷ column o 2 ∷ column p 3 ∷ column p 4 ∷ column p 5 ∷ code ∷ column p 7 ∷ [])

abbrev pub if_of : Row → Row → Value → List Output
if_of p o code = cond (is_of p o) (line p o code ∷ []) []

-- with each voucher that is named, or with none
abbrev pub with_codes : Row → Row → List Row → List Output
with_codes p o [] = if_of p o Null
with_codes p o (v ∷ vs) = flat_map (λ w. if_of p o (column w 1)) (v ∷ vs)

abbrev pub lines_of : Row → List Row → Row → List Output
lines_of p vouchers o = with_codes p o (filter (is_named p) vouchers)

abbrev pub lines : List Row → List Row → List Row → List Output
lines positions orders vouchers = flat_map (λ p. flat_map (lines_of p vouchers) orders) positions

-- ---- from the trees

map_cond : {A B : Type 0} (f : A → B) (b : Bool) (x : A) → map f (cond b (x ∷ []) []) ≡ cond b (f x ∷ []) []
map_cond f true x = refl
map_cond f false x = refl

module _ (lost : Value) (db : Trees) (params : Row) where
  -- a position, an order, and the vouchers that are named
  after : (p o : Row) (vs : List Row) → map (output joined) (flat_map (λ v. cond (is_of (row_shown schema 12 p) (row_shown schema 11 o)) ((params ∷ p ∷ o ∷ v ∷ []) ∷ []) []) (or_nulls vs))
      ≡ with_codes (row_shown schema 12 p) (row_shown schema 11 o) (map (row_shown schema 8) vs)
  after p o [] = ap (λ l. l) (map-flat_map (output joined) (λ v. cond (is_of (row_shown schema 12 p) (row_shown schema 11 o)) ((params ∷ p ∷ o ∷ v ∷ []) ∷ []) []) ([] ∷ [])
      ∙ ap (λ l. l ++ []) (map_cond (output joined) (is_of (row_shown schema 12 p) (row_shown schema 11 o)) (params ∷ p ∷ o ∷ [] ∷ [])) ∙ append-nil _)
  after p o (v ∷ vs) =
      map-flat_map (output joined) (λ v. cond (is_of (row_shown schema 12 p) (row_shown schema 11 o)) ((params ∷ p ∷ o ∷ v ∷ []) ∷ []) []) (v ∷ vs)
      ∙ flat_map_same_on _ (λ w. if_of (row_shown schema 12 p) (row_shown schema 11 o) (column (row_shown schema 8 w) 1)) (λ w. map_cond (output joined) (is_of (row_shown schema 12 p) (row_shown schema 11 o)) (params ∷ p ∷ o ∷ w ∷ [])) (v ∷ vs)
      ∙ sym (flat_map-map (λ w. if_of (row_shown schema 12 p) (row_shown schema 11 o) (column w 1)) (row_shown schema 8) (v ∷ vs))

  -- a position and an order
  of_order : (p o : Row) → map (output joined) (flat_map (λ v. cond (is_of (row_shown schema 12 p) (row_shown schema 11 o)) ((params ∷ p ∷ o ∷ v ∷ []) ∷ []) []) (or_nulls (filter (λ v. is_named (row_shown schema 12 p) (row_shown schema 8 v)) (db 8))))
      ≡ lines_of (row_shown schema 12 p) (map (row_shown schema 8) (db 8)) (row_shown schema 11 o)
  of_order p o =
      after p o (filter (λ v. is_named (row_shown schema 12 p) (row_shown schema 8 v)) (db 8))
      ∙ ap (with_codes (row_shown schema 12 p) (row_shown schema 11 o)) (sym (filter-map (is_named (row_shown schema 12 p)) (row_shown schema 8) (db 8)))

  of_position : (p : Row)
      → map (output joined) (flat_map (λ o. flat_map (λ v. cond (is_of (row_shown schema 12 p) (row_shown schema 11 o)) ((params ∷ p ∷ o ∷ v ∷ []) ∷ []) []) (or_nulls (filter (λ v. is_named (row_shown schema 12 p) (row_shown schema 8 v)) (db 8)))) (db 11))
      ≡ flat_map (lines_of (row_shown schema 12 p) (map (row_shown schema 8) (db 8))) (map (row_shown schema 11) (db 11))
  of_position p = map-flat_map (output joined) _ (db 11) ∙ flat_map_same_on _ (λ o. lines_of (row_shown schema 12 p) (map (row_shown schema 8) (db 8)) (row_shown schema 11 o)) (of_order p) (db 11)
      ∙ sym (flat_map-map (lines_of (row_shown schema 12 p) (map (row_shown schema 8) (db 8))) (row_shown schema 11) (db 11))

  pub from_trees : map (output joined) (matches_as lost db partner joined.from (params ∷ [])) ≡ lines (map (row_shown schema 12) (db 12)) (map (row_shown schema 11) (db 11)) (map (row_shown schema 8) (db 8))
  from_trees = map-flat_map (output joined) _ (db 12) ∙ flat_map_same_on _ (λ p. flat_map (lines_of (row_shown schema 12 p) (map (row_shown schema 8) (db 8))) (map (row_shown schema 11) (db 11))) of_position (db 12)
      ∙ sym (flat_map-map (λ p. flat_map (lines_of p (map (row_shown schema 8) (db 8))) (map (row_shown schema 11) (db 11))) (row_shown schema 12) (db 12))

-- ---- whatever the order of the rows is

none_left : {A : Type 0} (ys : List A) → IsPermutation [] ys → ys ≡ []
none_left [] h = refl
none_left (y ∷ ys) h = absurd (omega (arith, length_permutation [] (y ∷ ys) h))

some_left : {A : Type 0} (x : A) (xs : List A) → ¬ IsPermutation (x ∷ xs) []
some_left x xs h = absurd (omega (arith, length_permutation (x ∷ xs) [] h))

codes_turned : (p o : Row) (vs ws : List Row) → IsPermutation vs ws → IsPermutation (with_codes p o vs) (with_codes p o ws)
codes_turned p o [] ws h = IsPermutation-same _ _ (ap (with_codes p o) (sym (none_left ws h)))
codes_turned p o (v ∷ vs) [] h = absurd (some_left v vs h)
codes_turned p o (v ∷ vs) (w ∷ ws) h = IsPermutation-flat_map (λ w. if_of p o (column w 1)) (v ∷ vs) (w ∷ ws) h

pub lines_turned : (ps qs os us vs ws : List Row) → IsPermutation ps qs → IsPermutation os us → IsPermutation vs ws → IsPermutation (lines ps os vs) (lines qs us ws)
lines_turned ps qs os us vs ws p o v =
    IsPermutation-trans _ _ _
    (IsPermutation-flat_map_each (λ p. flat_map (lines_of p vs) os) (λ p. flat_map (lines_of p ws) us)
    (λ p. IsPermutation-trans _ _ _
    (IsPermutation-flat_map_each (lines_of p vs) (lines_of p ws) (λ o. codes_turned p o _ _ (IsPermutation-filter (is_named p) vs ws v)) os)
    (IsPermutation-flat_map (lines_of p ws) os us o)) ps)
    (IsPermutation-flat_map (λ p. flat_map (lines_of p ws) us) ps qs p)

-- ---- one line for each position

-- where one order is the position's, with the voucher that is named, or none
module _ (p : Row) (vouchers : List Row) where
  no_line : (o : Row) (vs : List Row) → is_of p o ≡ false → with_codes p o vs ≡ []
  no_line o [] none = ap (λ b. cond b (line p o Null ∷ []) []) none
  no_line o (v ∷ vs) none = flat_map_none (λ w. if_of p o (column w 1)) (λ w. ap (λ b. cond b (line p o (column w 1) ∷ []) []) none) (v ∷ vs)

  pub of_one : (o : Row) (orders : List Row) → filter (is_of p) orders ≡ o ∷ [] → flat_map (lines_of p vouchers) orders ≡ lines_of p vouchers o
  of_one o orders one =
      sym (flat_map-filter (lines_of p vouchers) (is_of p) (λ o. no_line o (filter (is_named p) vouchers)) orders) ∙ ap (flat_map (lines_of p vouchers)) one ∙ append-nil (lines_of p vouchers o)

  pub without_code : (o : Row) → is_of p o ≡ true → filter (is_named p) vouchers ≡ [] → lines_of p vouchers o ≡ line p o Null ∷ []
  without_code o is none = ap (with_codes p o) none ∙ ap (λ b. cond b (line p o Null ∷ []) []) is

  pub with_code : (o v : Row) → is_of p o ≡ true → filter (is_named p) vouchers ≡ v ∷ [] → lines_of p vouchers o ≡ line p o (column v 1) ∷ []
  with_code o v is one = ap (with_codes p o) one ∙ ap (λ b. cond b (line p o (column v 1) ∷ []) [] ++ []) is
