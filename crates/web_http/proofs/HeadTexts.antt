-- The head of an answer: its parts, and that they fit.
use Rattle.std.proofs.Common.{◌≡◌, ℕ, ◌≤◌, ◌<◌, ◌^◌, Bool, true, false, ◌&&◌, nat_lt, zero, suc, List, [], ◌∷◌, ◌++◌, length, Option, Some, None, Result, Ok, Err, refl, sym, ap, subst, ◌∙◌, ◌+◌, get_or, take, append-nil, arith, codes, decimal, unwrap_or, length-append}
use Rattle.std.specs.List.{concat, flat_map}
use Rattle.std.specs.Result.{IsOk, OnOk}
use Rattle.std.proofs.lemmas.Bool.{ltb-true}
use Rattle.std.proofs.lemmas.Bool.Decides.{Decides-below_and}
use Rattle.std.proofs.lemmas.List.{take_more}
use Rattle.std.proofs.lemmas.List.Folds.{length-flat_map-take}
use Rattle.std.proofs.lemmas.Grind.{flat_map-append}
use Rattle.std.proofs.lemmas.Fmt.{length-decimal-le}
use Rattle.http.specs.StatusCode.{code_digits, reason_phrase}
use Rattle.base_values.specs.declared.answer.Methods.{Methods}
use Rattle.web_http.specs.Text.{when, phrase, status_line, has_content, content_fields, challenge, names_listed, name_if, method_names, allow_field, close_field, head_text}

-- ---- the texts

-- ---- how long they are

when_short : (holds : Bool) (text : List ℕ) (most : ℕ) → length text ≤ most → length (when holds text) ≤ most
when_short true text most short = short
when_short false text most short = omega arith

-- a phrase, where there is one, has at most 31 bytes
abbrev is_short : Option (List ℕ) → Bool
is_short words = nat_lt (length (unwrap_or words [])) 32

abbrev short_below : ℕ → Bool
short_below zero = true
short_below (suc n) = is_short (reason_phrase n) && short_below n

pub phrase_short : (status : ℕ) → status < 1000 → length (phrase status) ≤ 31
unfolding phrase
phrase_short status below =
    let test = λ (k : ℕ). is_short (reason_phrase k) in
    let short : is_short (reason_phrase status) ≡ true = (Decides-below_and test (λ k. test k ≡ true) short_below (λ k. (λ x. x, λ x. x)) refl (λ _. refl) 1000).0 refl status below in
    let less : length (unwrap_or (reason_phrase status) []) < 32 = ltb-true (length (unwrap_or (reason_phrase status) [])) 32 short in
    omega arith

pub status_line_short : (status : ℕ) → length (phrase status) ≤ 31 → length (status_line status) ≤ 46
status_line_short status short = omega (arith, short, length-append (phrase status) (codes "\r\n"))

pub content_fields_short : (status size : ℕ) → size < 2 ^ 64 → length (content_fields status size) ≤ 70
content_fields_short status size below =
    when_short (has_content status) _ 70 (omega (arith, length-decimal-le 20 size (omega arith) (omega (arith, below)) below, length-append (decimal size) (codes "\r\n")))

pub challenge_short : (status : ℕ) → length (challenge status) ≤ 25
challenge_short status = when_short _ (codes "WWW-Authenticate: Token\r\n") 25 (omega arith)

listed_short : (get post patch delete : Bool)
    → length (names_listed (name_if get (codes "GET") ++ name_if post (codes "POST") ++ name_if patch (codes "PATCH") ++ name_if delete (codes "DELETE"))) ≤ 24
listed_short true true true true = omega arith
listed_short true true true false = omega arith
listed_short true true false true = omega arith
listed_short true true false false = omega arith
listed_short true false true true = omega arith
listed_short true false true false = omega arith
listed_short true false false true = omega arith
listed_short true false false false = omega arith
listed_short false true true true = omega arith
listed_short false true true false = omega arith
listed_short false true false true = omega arith
listed_short false true false false = omega arith
listed_short false false true true = omega arith
listed_short false false true false = omega arith
listed_short false false false true = omega arith
listed_short false false false false = omega arith

pub allow_short : (allow : Option Methods) → length (allow_field allow) ≤ 33
allow_short None = omega arith
allow_short (Some m) = omega (arith, listed_short m.get m.post m.patch m.delete, length-append (names_listed (method_names m)) (codes "\r\n"))

pub close_short : (closes : Bool) → length (close_field closes) ≤ 19
close_short closes = when_short closes (codes "Connection: close\r\n") 19 (omega arith)

-- the parts of a head, one after another
pub parts : (a b c d e : List ℕ) → length a ≤ 46 → length b ≤ 70 → length c ≤ 25 → length d ≤ 33 → length e ≤ 19
    → length (concat (a ∷ b ∷ c ∷ d ∷ e ∷ codes "\r\n" ∷ [])) ≤ 256
parts a b c d e la lb lc ld le =
    let end = codes "\r\n" in
    omega (arith, la, lb, lc, ld, le, length-append a (b ++ (c ++ (d ++ (e ++ end)))), length-append b (c ++ (d ++ (e ++ end))), length-append c (d ++ (e ++ end)), length-append d (e ++ end), length-append e end)

pub head_short : (status : ℕ) (allow : Option Methods) (size : ℕ) (closes : Bool) → length (status_line status) ≤ 46 → size < 2 ^ 64
    → length (head_text status allow size closes) ≤ 256
unfolding head_text
head_short status allow size closes short below =
    parts (status_line status) (content_fields status size) (challenge status) (allow_field allow) (close_field closes) short (content_fields_short status size below) (challenge_short status) (allow_short allow) (close_short closes)

-- ---- how they are gathered

kept : {T E : Type 0} (r : Result T E) {P : Type 0} → IsOk r → OnOk r P → P
kept (Ok x) ok p = p
kept (Err e) ok p = absurd (let both : false ≡ true = ok in cc)

-- where all pieces fit, one more of them is added
pub gathered : {X T E : Type 0} (r : Result T E) (f : X → List ℕ) (xs : List X) (i : ℕ) (d : X) (old new : List ℕ) → i < length xs → length (flat_map f xs) ≤ 256
    → old ≡ flat_map f (take i xs) → (length old + length (f (get_or xs i d)) ≤ 256 → IsOk r) → OnOk r (new ≡ old ++ f (get_or xs i d))
    → new ≡ flat_map f (take (i + 1) xs)
gathered {X} r f xs i d old new below fits before room added =
    let is = kept r (room (omega (arith, length-flat_map-take f xs i d below, ap length before, fits))) added in
    is ∙ ap (λ (t : List ℕ). t ++ f (get_or xs i d)) before
    ∙ ap (λ (t : List ℕ). flat_map f (take i xs) ++ t) (sym (append-nil (f (get_or xs i d))))
    ∙ sym (flat_map-append f (take i xs) (get_or xs i d ∷ []))
    ∙ ap (flat_map f) (sym (take_more xs i d below))

-- the first line, in other words
pub line_is : (status : ℕ) (digits reason : List ℕ) → digits ≡ code_digits status → reason ≡ phrase status
    → concat (codes "HTTP/1.1 " ∷ digits ∷ codes " " ∷ reason ∷ codes "\r\n" ∷ []) ≡ status_line status
line_is status digits reason ed er =
    ap (λ (t : List ℕ). concat (codes "HTTP/1.1 " ∷ t ∷ codes " " ∷ reason ∷ codes "\r\n" ∷ [])) ed
    ∙ ap (λ (t : List ℕ). concat (codes "HTTP/1.1 " ∷ code_digits status ∷ codes " " ∷ t ∷ codes "\r\n" ∷ [])) er

pub line_fits : (status : ℕ) (reason line : List ℕ) → length reason ≤ 31 → reason ≡ phrase status → line ≡ status_line status → length line ≤ 46
line_fits status reason line short er is =
    subst (λ (t : List ℕ). length t ≤ 46) (sym is) (status_line_short status (subst (λ (t : List ℕ). length t ≤ 31) er short))

pub head_is : (status : ℕ) (allow : Option Methods) (size : ℕ) (closes : Bool) (a b c d e : List ℕ)
    → a ≡ status_line status → b ≡ content_fields status size → c ≡ challenge status → d ≡ allow_field allow → e ≡ close_field closes
    → concat (a ∷ b ∷ c ∷ d ∷ e ∷ codes "\r\n" ∷ []) ≡ head_text status allow size closes
unfolding head_text
head_is status allow size closes a b c d e ea eb ec ed ee =
    ap (λ (t : List ℕ). concat (t ∷ b ∷ c ∷ d ∷ e ∷ codes "\r\n" ∷ [])) ea
    ∙ ap (λ (t : List ℕ). concat (status_line status ∷ t ∷ c ∷ d ∷ e ∷ codes "\r\n" ∷ [])) eb
    ∙ ap (λ (t : List ℕ). concat (status_line status ∷ content_fields status size ∷ t ∷ d ∷ e ∷ codes "\r\n" ∷ [])) ec
    ∙ ap (λ (t : List ℕ). concat (status_line status ∷ content_fields status size ∷ challenge status ∷ t ∷ e ∷ codes "\r\n" ∷ [])) ed
    ∙ ap (λ (t : List ℕ). concat (status_line status ∷ content_fields status size ∷ challenge status ∷ allow_field allow ∷ t ∷ codes "\r\n" ∷ [])) ee

pub head_fits : (status : ℕ) (allow : Option Methods) (size : ℕ) (closes : Bool) (text line : List ℕ) → length line ≤ 46 → line ≡ status_line status
    → size < 2 ^ 64 → text ≡ head_text status allow size closes → length text ≤ 256
head_fits status allow size closes text line short el below is =
    subst (λ (t : List ℕ). length t ≤ 256) (sym is) (head_short status allow size closes (subst (λ (t : List ℕ). length t ≤ 46) el short) below)
