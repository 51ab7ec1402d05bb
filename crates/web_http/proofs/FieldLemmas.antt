-- Steps of a loop over the fields of a head.
use Rattle.std.proofs.Common.{◌≡◌, ℕ, ◌+◌, ◌<◌, true, false, List, ◌∷◌, ◌++◌, length, map, get_or, drop, Option, Some, None, Err, refl, ap, ◌∙◌}
use Rattle.std.specs.Borrow.{Bor}
use Rattle.std.specs.Option.{is_some}
use Rattle.std.proofs.lemmas.List.{drop_more}
use Rattle.httparse.specs.Spans.{span_bytes, header_bytes}
use Rattle.httparse.specs.declared.spans.HeaderSpan.{HeaderSpan}
use Rattle.web_http.specs.declared.fault.FrameFault.TheVariants.{BadHead}
use Rattle.web_http.specs.Messages.{Header, same_word, values_named, body_length}
use Rattle.web_http.specs.Found.{seen_value}

-- the values in the fields from i on
abbrev pub values_from : List ℕ → List HeaderSpan → List ℕ → ℕ → List (List ℕ)
values_from head headers name i = values_named name (map (header_bytes head) (drop i headers))

values_yes : (name : List ℕ) (h : Header) (hs : List Header) → same_word h.0 name ≡ true → values_named name (h ∷ hs) ≡ h.1 ∷ values_named name hs
values_yes name h hs hit = rw hit

values_no : (name : List ℕ) (h : Header) (hs : List Header) → same_word h.0 name ≡ false → values_named name (h ∷ hs) ≡ values_named name hs
values_no name h hs miss = rw miss

pub named : (head : List ℕ) (headers : List HeaderSpan) (name : List ℕ) (i : ℕ) (d : HeaderSpan) → i < length headers
    → same_word (span_bytes head (get_or headers i d).name) name ≡ true
    → values_from head headers name i ≡ span_bytes head (get_or headers i d).value ∷ values_from head headers name (i + 1)
named head headers name i d below hit =
    ap (λ (hs : List HeaderSpan). values_named name (map (header_bytes head) hs)) (drop_more headers i d below)
    ∙ values_yes name (header_bytes head (get_or headers i d)) _ hit

pub other : (head : List ℕ) (headers : List HeaderSpan) (name : List ℕ) (i : ℕ) (d : HeaderSpan) → i < length headers
    → same_word (span_bytes head (get_or headers i d).name) name ≡ false
    → values_from head headers name i ≡ values_from head headers name (i + 1)
other head headers name i d below miss =
    ap (λ (hs : List HeaderSpan). values_named name (map (header_bytes head) hs)) (drop_more headers i d below)
    ∙ values_no name (header_bytes head (get_or headers i d)) _ miss

pub second : (seen : Option (Bor (List ℕ))) (w : List ℕ) (vs : List (List ℕ)) → is_some seen ≡ true
    → body_length (seen_value seen ++ w ∷ vs) ≡ Err BadHead
second None w vs some = cc
second (Some v) w vs some = refl

pub first : (seen : Option (Bor (List ℕ))) (v : Bor (List ℕ)) (now : Option (Bor (List ℕ))) (vs : List (List ℕ)) → is_some seen ≡ false
    → now ≡ Some v → seen_value now ++ vs ≡ seen_value seen ++ v.now ∷ vs
first None v now vs none is = rw is
first (Some w) v now vs none is = cc
