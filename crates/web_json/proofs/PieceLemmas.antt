-- Objects as JSON, piece by piece.
use Rattle.std.proofs.Common.{◌≡◌, ℕ, ◌+◌, ◌-◌, Bool, true, false, List, [], ◌∷◌, ◌++◌, ap, ◌∙◌, refl, sym, length, map, drop, arith, Result}
use Rattle.std.specs.Result.{OnOk}
use Rattle.std.proofs.lemmas.List.{append_assoc, append-nil, length-append}
use Rattle.std.proofs.lemmas.Result.{on_ok_weaker}
use Rattle.std.proofs.Math.Seq.{take-append_seam}
use Rattle.serde_json.specs.Data.{Data, string, Members, no_members, member, object}
use Rattle.serde_json.specs.Written.{comma_if, compact_text, members_text}
use Rattle.web_json.specs.Pieces.{object_opened, inside, member_text}
use Rattle.web_json.specs.Values.{list}

-- members behind others
abbrev pub join : Members → Members → Members
join no_members more = more
join (member key value rest) more = member key value (join rest more)

-- the members of an object as they stand between its braces
abbrev pub between : Bool → Members → List ℕ
between later no_members = []
between later (member key value more) = comma_if later ++ (compact_text (string key) ++ 58 ∷ (compact_text value ++ between true more))

abbrev pub AreSome : Members → Type 0
AreSome no_members = ⊥
AreSome (member key value rest) = Unit {0}

regrouped : (a b c d e : List ℕ) → a ++ (b ++ 58 ∷ (c ++ (d ++ e))) ≡ (a ++ (b ++ 58 ∷ (c ++ d))) ++ e
regrouped a b c d e = simp (append_assoc {A = ℕ}) refl

-- further members stand behind the first ones
joined_later : (members more : Members) → between true (join members more) ≡ between true members ++ between true more
joined_later no_members more = refl
joined_later (member key value rest) more = rw (joined_later rest more) (regrouped (44 ∷ []) (compact_text (string key)) (compact_text value) (between true rest) (between true more))

joined : (members more : Members) → AreSome members → between false (join members more) ≡ between false members ++ between true more
joined no_members more some = absurd some
joined (member key value rest) more some = rw (joined_later rest more) (regrouped [] (compact_text (string key)) (compact_text value) (between true rest) (between true more))

behind_comma : (members : Members) → AreSome members → between true members ≡ 44 ∷ between false members
behind_comma no_members some = absurd some
behind_comma (member key value rest) some = refl

one_member : (key : List ℕ) (value : Data) → between true (member key value no_members) ≡ 44 ∷ member_text key value
one_member key value = simp (append-nil {A = ℕ}) refl

first_member : (key : List ℕ) (value : Data) → between false (member key value no_members) ≡ member_text key value
first_member key value = simp (append-nil {A = ℕ}) refl

closed_later : (members : Members) → members_text true members ≡ between true members ++ 125 ∷ []
closed_later no_members = refl
closed_later (member key value rest) = rw (closed_later rest) (regrouped (44 ∷ []) (compact_text (string key)) (compact_text value) (between true rest) (125 ∷ []))

closed : (members : Members) → compact_text (object members) ≡ 123 ∷ (between false members ++ 125 ∷ [])
closed no_members = refl
closed (member key value rest) = rw (closed_later rest) (ap (λ text. 123 ∷ text) (regrouped [] (compact_text (string key)) (compact_text value) (between true rest) (125 ∷ [])))

without_last : (xs : List ℕ) (x : ℕ) → object_opened (xs ++ x ∷ []) ≡ xs
without_last xs x = rw (length-append xs (x ∷ []), (let e : length xs + 1 - 1 ≡ length xs = omega arith in e)) (take-append_seam xs (x ∷ []))

opened_object : (members : Members) → object_opened (compact_text (object members)) ≡ 123 ∷ between false members
opened_object members = ap object_opened (closed members) ∙ without_last (123 ∷ between false members) 125

-- ---- a text to which an object is written, piece by piece: `old` is what stood before the object

-- the object was begun with these members
pub begun : (old new text : List ℕ) (members : Members) → text ≡ compact_text (object members) → new ≡ old ++ object_opened text → new ≡ old ++ 123 ∷ between false members
begun old new text members is added = added ∙ ap (λ t. old ++ object_opened t) is ∙ ap (λ t. old ++ t) (opened_object members)

-- the object was begun with one member, key and value
pub begun_with : (old mid new key : List ℕ) (value : Data) → mid ≡ old ++ 123 ∷ [] → new ≡ mid ++ member_text key value
    → new ≡ old ++ 123 ∷ between false (member key value no_members)
begun_with old mid new key value is added =
    added ∙ ap (λ t. t ++ member_text key value) is ∙ append_assoc old (123 ∷ []) (member_text key value)
    ∙ ap (λ t. old ++ 123 ∷ t) (sym (first_member key value))

behind : (old mid new more : List ℕ) (members behind : Members) → AreSome members → more ≡ between true behind
    → mid ≡ old ++ 123 ∷ between false members → new ≡ mid ++ more → new ≡ old ++ 123 ∷ between false (join members behind)
behind old mid new more members rest some is stands added =
    added ∙ ap (λ t. t ++ more) stands ∙ append_assoc old (123 ∷ between false members) more
    ∙ ap (λ t. old ++ 123 ∷ (between false members ++ t)) is
    ∙ ap (λ t. old ++ 123 ∷ t) (sym (joined members rest some))

-- one more member was written behind a comma
pub with_member : (old mid new key : List ℕ) (value : Data) (members : Members) → AreSome members
    → mid ≡ old ++ 123 ∷ between false members → new ≡ mid ++ 44 ∷ member_text key value
    → new ≡ old ++ 123 ∷ between false (join members (member key value no_members))
with_member old mid new key value members some = behind old mid new (44 ∷ member_text key value) members (member key value no_members) some (sym (one_member key value))

-- the same list in other words
pub list_of : {T : Type 0} (body : T → Data) (mid new key : List ℕ) (rows others : List T) → rows ≡ others
    → new ≡ mid ++ 44 ∷ member_text key (list (map body rows)) → new ≡ mid ++ 44 ∷ member_text key (list (map body others))
list_of body mid new key rows others same added = added ∙ ap (λ xs. mid ++ 44 ∷ member_text key (list (map body xs))) same

-- the members of another object were
pub with_members : (old mid new text : List ℕ) (members more : Members) → AreSome members → AreSome more
    → text ≡ compact_text (object more) → mid ≡ old ++ 123 ∷ between false members → new ≡ mid ++ 44 ∷ inside text
    → new ≡ old ++ 123 ∷ between false (join members more)
with_members old mid new text members more some are is = behind old mid new (44 ∷ inside text) members more some
    (ap (λ t. 44 ∷ inside t) is ∙ ap (λ t. 44 ∷ drop 1 t) (opened_object more) ∙ sym (behind_comma more are))

-- the object was closed
pub ended : {T E : Type 0} (r : Result T E) (old mid new : List ℕ) (members : Members) → mid ≡ old ++ 123 ∷ between false members
    → OnOk r (new ≡ mid ++ 125 ∷ []) → OnOk r (new ≡ old ++ compact_text (object members))
ended r old mid new members stands = on_ok_weaker r (λ added. added ∙ ap (λ t. t ++ 125 ∷ []) stands
    ∙ append_assoc old (123 ∷ between false members) (125 ∷ []) ∙ ap (λ t. old ++ t) (sym (closed members)))
