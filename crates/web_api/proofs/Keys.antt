-- The first field of that name counts.
use Rattle.std.proofs.Common.{◌≡◌, ℕ, Bool, true, false, cond, List, [], ◌∷◌, ◌++◌, unwrap_or, refl, ap, ◌∙◌, append-nil, sym}
use Rattle.std.specs.List.{AllByRecursion}
use Rattle.web_http.specs.Messages.{Header, Message, same_word, values_named, first_of_all}
use Rattle.web_api.specs.Key.{key_name, key_of}

-- fields of other names are passed over
skipped : (before rest : List Header) → AllByRecursion (λ h. same_word h.0 key_name ≡ false) before → values_named key_name (before ++ rest) ≡ values_named key_name rest
skipped [] rest all = refl
skipped (h ∷ hs) rest (miss, all) =
    ap (λ (b : Bool). cond b (h.1 ∷ values_named key_name (hs ++ rest)) (values_named key_name (hs ++ rest))) miss ∙ skipped hs rest all

pub first_key : (m : Message) (before after : List Header) (field : Header) → AllByRecursion (λ h. same_word h.0 key_name ≡ false) before → same_word field.0 key_name ≡ true
    → m.fields ≡ before ++ field ∷ after → key_of m ≡ field.1
first_key m before after field others hit is =
    ap (λ (fields : List Header). unwrap_or (first_of_all (values_named key_name fields)) []) is
    ∙ (ap (λ (values : List (List ℕ)). unwrap_or (first_of_all values) []) (skipped before (field ∷ after) others)
    ∙ ap (λ (b : Bool). unwrap_or (first_of_all (cond b (field.1 ∷ values_named key_name after) (values_named key_name after))) []) hit)

pub no_key : (m : Message) → AllByRecursion (λ h. same_word h.0 key_name ≡ false) m.fields → key_of m ≡ []
no_key m others =
    ap (λ (fields : List Header). unwrap_or (first_of_all (values_named key_name fields)) []) (sym (append-nil m.fields))
    ∙ ap (λ (values : List (List ℕ)). unwrap_or (first_of_all values) []) (skipped m.fields [] others)
