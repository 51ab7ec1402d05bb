-- The index of a list of keys, with one more and with one fewer.
use Rattle.std.proofs.Common.{◌≡◌, ◌≢◌, ℕ, ◌+◌, Bool, true, false, eqb, List, [], ◌∷◌, ◌++◌, length, take, get_or, Some, None, Option, ◌⊎◌, inl, inr, refl, sym, ap, ap₂, ◌∙◌, subst, arith, length-append}
use Rattle.std.specs.Prelude.{if◌then◌else◌}
use Rattle.std.proofs.Math.Seq.{get_or-append_seam}
use Rattle.std.proofs.lemmas.Option.{none-some}
use Rattle.std.proofs.lemmas.List.{get_or_append_left, get_or-take, take-append-le, length-take-le, take_all, take_more, get_or_default}
use Rattle.std.proofs.lemmas.Bool.{cases_lt}
use Rattle.std.proofs.lemmas.Bool.Decides.{eqb_tells, nat_tests}
use Rattle.base_tables.specs.Tables.{with_row}
use Rattle.book_log.specs.declared.touched.Touch.{Touch}
use Rattle.book_log.specs.Places.{last_place, place_in}
use Rattle.book_log.specs.Keys.{IsKeyIndex}
use Rattle.book_log.proofs.LastPlaces.{last_place-more}
use Rattle.book_log.proofs.Indexes.{in_row}

pub keys_none : IsKeyIndex [] [] []
keys_none = record { lasts = λ key. refl; count = refl; befores = λ place d lt. absurd (omega (arith, lt)) }

abbrev with_key : ℕ → Option ℕ → List Touch → List Touch
with_key key place last = with_row (λ r. r.id) (record { id = key; place = place }) last

module _ (keys : List ℕ) (last : List Touch) (before : List (Option ℕ)) (key : ℕ) where
  abbrev n : ℕ
  n = length keys

  one_more : length (keys ++ key ∷ []) ≡ n + 1
  one_more = omega (arith, length-append keys (key ∷ []))

  all_taken : (l : List ℕ) → take (length l) (l ++ key ∷ []) ≡ l
  all_taken [] = refl
  all_taken (k ∷ l) = ap (λ (r : List ℕ). k ∷ r) (all_taken l)

  keys_more : IsKeyIndex keys last before → IsKeyIndex (keys ++ key ∷ []) (with_key key (Some n) last) (before ++ last_place (λ k. eqb k key) keys ∷ [])
  keys_more is = record {
    lasts = λ other.
        in_row key other (Some n) last
        ∙ ap (λ (o : Option ℕ). if eqb key other then Some n else o) (is.lasts other)
        ∙ sym (last_place-more (λ k. eqb k other) keys key);
    count = omega (arith, one_more, is.count, length-append before (last_place (λ k. eqb k key) keys ∷ []));
    befores = λ place d within. elim (cases_lt place n) [
      | inl below ↦
          get_or_append_left before _ None place (omega (arith, below, is.count))
          ∙ is.befores place d below
          ∙ ap₂ (λ (x : ℕ) (l : List ℕ). last_place (λ k. eqb k x) l) (sym (get_or_append_left keys (key ∷ []) d place below)) (sym (take-append-le place keys (key ∷ []) (omega (arith, below))))
      | inr above ↦
          let same : place ≡ n = omega (arith, above, within, one_more) in
          let old = last_place (λ k. eqb k key) keys in
          ap (λ i. get_or (before ++ old ∷ []) i None) (same ∙ sym is.count)
          ∙ get_or-append_seam before old [] None
          ∙ ap₂ (λ (x : ℕ) (l : List ℕ). last_place (λ k. eqb k x) l) (sym (ap (λ i. get_or (keys ++ key ∷ []) i d) same ∙ get_or-append_seam keys key [] d)) (sym (ap (λ i. take i (keys ++ key ∷ [])) same ∙ all_taken keys))
    ];
  }

  own_key : eqb key key ≡ true
  own_key = grind (arith, nat_tests)

  last_key : IsKeyIndex (keys ++ key ∷ []) last before → place_in key last ≡ Some n
  last_key is = is.lasts key ∙ last_place-more (λ k. eqb k key) keys key ∙ ap (λ (b : Bool). if b then Some n else last_place (λ k. eqb k key) keys) own_key

  keys_less : IsKeyIndex (keys ++ key ∷ []) last before → IsKeyIndex keys (with_key key (get_or before n None) last) (take n before)
  keys_less is = record {
    lasts = λ other. in_row key other (get_or before n None) last ∙ by_key other (eqb_tells key other);
    count = length-take-le n before (omega (arith, is.count, one_more));
    befores = λ place d below.
        get_or-take n before place None below
        ∙ is.befores place d (omega (arith, below, one_more))
        ∙ ap₂ (λ (x : ℕ) (l : List ℕ). last_place (λ k. eqb k x) l) (get_or_append_left keys (key ∷ []) d place below) (take-append-le place keys (key ∷ []) (omega (arith, below)));
  }
    where
      by_key : (other : ℕ) → ((eqb key other ≡ true) × (key ≡ other)) ⊎ ((eqb key other ≡ false) × (key ≢ other)) → (if eqb key other then get_or before n None else place_in other last) ≡ last_place (λ k. eqb k other) keys
      by_key other (inl e) =
          ap (λ (b : Bool). if b then get_or before n None else place_in other last) e.0
          ∙ is.befores n key (omega (arith, one_more))
          ∙ ap₂ (λ (x : ℕ) (l : List ℕ). last_place (λ k. eqb k x) l) (get_or-append_seam keys key [] key ∙ e.1) (all_taken keys)
      by_key other (inr e) =
          ap (λ (b : Bool). if b then get_or before n None else place_in other last) e.0
          ∙ is.lasts other
          ∙ last_place-more (λ k. eqb k other) keys key
          ∙ ap (λ (b : Bool). if b then Some n else last_place (λ k. eqb k other) keys) e.0

-- the same with what a push reads and writes by name
pub key_pushed : (keys : List ℕ) (last : List Touch) (before : List (Option ℕ)) (key place : ℕ) (o : Option ℕ) (row : List Touch) (more : List ℕ) (befores : List (Option ℕ)) → IsKeyIndex keys last before → place ≡ length keys
    → o ≡ place_in key last → row ≡ with_row (λ r. r.id) (record { id = key; place = Some place }) last → more ≡ keys ++ key ∷ [] → befores ≡ before ++ o ∷ [] → IsKeyIndex more row befores
key_pushed keys last before key place o row more befores is place_is o_is row_is more_is befores_is =
    let here = row_is ∙ ap (λ m. with_row (λ (r : Touch). r.id) (record { id = key; place = Some m }) last) place_is in
    rw (more_is, befores_is, here, o_is ∙ is.lasts key) (keys_more keys last before key is)

whole : (keys : List ℕ) (last key : ℕ) → last + 1 ≡ length keys → key ≡ get_or keys last key → keys ≡ take last keys ++ key ∷ []
whole keys last key last_is key_is =
    sym (take_all (last + 1) keys (omega (arith, last_is)))
    ∙ take_more keys last key (omega (arith, last_is))
    ∙ ap (λ (k : ℕ). take last keys ++ k ∷ []) (sym key_is)

-- a key of the list is kept
pub is_kept : (keys : List ℕ) (last : List Touch) (before : List (Option ℕ)) (place key : ℕ) → IsKeyIndex keys last before → place + 1 ≡ length keys → key ≡ get_or keys place key → place_in key last ≡ None → ⊥
is_kept keys last before place key is place_is key_is none =
    let index = subst (λ (l : List ℕ). IsKeyIndex l last before) (whole keys place key place_is key_is) is in
    none-some (length (take place keys)) (sym none ∙ last_key (take place keys) last before key index)

-- the same with what going back reads and writes by name
pub key_popped : (keys : List ℕ) (last : List Touch) (before : List (Option ℕ)) (place key : ℕ) (o : Option ℕ) (row : List Touch) (fewer : List ℕ) (befores : List (Option ℕ)) → IsKeyIndex keys last before → place + 1 ≡ length keys
    → key ≡ get_or keys place key → o ≡ get_or before place o → row ≡ with_row (λ r. r.id) (record { id = key; place = o }) last → fewer ≡ take place keys → befores ≡ take place before → IsKeyIndex fewer row befores
key_popped keys last before place key o row fewer befores is place_is key_is o_is row_is fewer_is befores_is =
    let index = subst (λ (l : List ℕ). IsKeyIndex l last before) (whole keys place key place_is key_is) is in
    let count : length (take place keys) ≡ place = length-take-le place keys (omega (arith, place_is)) in
    let less = keys_less (take place keys) last before key index in
    let back : o ≡ get_or before (length (take place keys)) None = o_is ∙ get_or_default before place o None (omega (arith, is.count, place_is)) ∙ ap (λ m. get_or before m None) (sym count) in
    let here = row_is ∙ ap (λ p. with_row (λ (r : Touch). r.id) (record { id = key; place = p }) last) back in
    rw (fewer_is, befores_is, here) (subst (λ m. IsKeyIndex (take place keys) (with_row (λ (r : Touch). r.id) (record { id = key; place = get_or before (length (take place keys)) None }) last) (take m before)) count less)
