-- What httparse says of the lines that have come, as said of all the bytes.
use Rattle.std.proofs.Common.{◌≡◌, ◌≢◌, ℕ, ◌+◌, ◌-◌, ◌*◌, ◌<◌, ◌≤◌, List, [], ◌∷◌, ◌++◌, suc, length, get_or, take, drop, slice_index, refl, sym, ap, ap₂, IsTrue, ◌∙◌, subst, arith, inl, inr, take-append-drop, length-append, append_assoc}
use Rattle.std.specs.Prelude.{All, flat_map, Result, Err}
use Rattle.std.proofs.lemmas.List.{take-take, drop-append-le, get_or-take, get_or-append_right, length-take-le}
use Rattle.std.proofs.lemmas.List.Elements.{All-head, All-tail}
use Rattle.httparse.specs.Grammar.{AllPass, is_uri_byte, LineEnd, crlf, lf, print_end, print_blank, Field, print_field, IsField, print_section, print_version, RequestHead, print_request, ReadsRequest, HasNoRequest, NeverHasRequest, EndsInTarget, MayBecomeRequest}
use Rattle.httparse.specs.Spans.{RequestExceeds, IsRequestAt, IsRequestOf, IsRequestWithin}
use Rattle.httparse.specs.declared.Error.{Error}
use Rattle.httparse.specs.declared.Error.TheVariants.{TooManyHeaders}
use Rattle.httparse.specs.declared.Status.{Status}
use Rattle.httparse.specs.declared.spans.HeaderSpan.{HeaderSpan}
use Rattle.httparse.specs.declared.spans.RequestSpans.{RequestSpans}
use Rattle.httparse.proofs.GrammarLemmas.{ReadsRequest-append}
use Rattle.web_http.specs.Heads.{head_limit, field_room, EndsLine, HasHead, HasBadHead, Undecided, IsLastLine}

-- the longer prefix begins with the shorter
pub prefix_split : (bytes : List ℕ) (k n : ℕ) → k ≤ n → take n bytes ≡ take k bytes ++ drop k (take n bytes)
prefix_split bytes k n le = sym (take-append-drop k (take n bytes)) ∙ ap (λ (t : List ℕ). t ++ drop k (take n bytes)) (take-take k n bytes le)

-- the last byte of a space and a target is no line feed
last_of_target : (target : List ℕ) → AllPass is_uri_byte target → get_or (32 ∷ target) (length target) 0 ≡ 10 → ⊥
last_of_target [] uri is = cc
last_of_target (t ∷ ts) uri is =
    let bad : IsTrue (is_uri_byte 10) = subst (λ (x : ℕ). IsTrue (is_uri_byte x)) is (uri (length ts) 0 (omega arith)) in
    cc

-- a text that ends in a line feed does not end inside a target
pub not_in_target : (text : List ℕ) → slice_index text (length text - 1) ≡ 10 → EndsInTarget text → ⊥
not_in_target text feed (blank, method, target, token, uri, is) =
    let front = print_blank blank ++ method in
    let size : length text ≡ length front + suc (length target) = ap length is ∙ length-append front (32 ∷ target) in
    let at : length text - 1 ≡ length front + length target = omega arith in
    let skip = get_or-append_right front (32 ∷ target) (length front) (length front + length target) 0 refl (omega arith) in
    let place : length front + length target - length front ≡ length target = omega arith in
    last_of_target target uri (sym (ap (λ (i : ℕ). get_or (32 ∷ target) i 0) place) ∙ sym skip ∙ ap₂ (λ (t : List ℕ) (i : ℕ). get_or t i 0) (sym is) (sym at) ∙ feed)

feed_of : (bytes : List ℕ) (end : ℕ) → EndsLine bytes end → slice_index (take end bytes) (length (take end bytes) - 1) ≡ 10
feed_of bytes end line =
    let size = length-take-le end bytes line.here in
    let some = line.some in
    ap (λ (n : ℕ). get_or (take end bytes) (n - 1) 0) size ∙ get_or-take end bytes (end - 1) 0 (omega arith) ∙ line.feed

-- the lines that have come are cut short: so nothing is settled
pub undecided : (bytes : List ℕ) (end : ℕ) → 0 < end → IsLastLine bytes end → HasNoRequest (take end bytes)
    → MayBecomeRequest (take end bytes) → Undecided bytes
undecided bytes end some last none may k line settles =
    let le : k ≤ end = last.last k line in
    let ends = last.ends some in
    let split = prefix_split bytes k end le in
    elim settles [
      | inl (h, reads) ↦ none h _ (subst (λ (t : List ℕ). ReadsRequest t h ([] ++ drop k (take end bytes))) (sym split) (ReadsRequest-append (take k bytes) h [] (drop k (take end bytes)) reads))
      | inr never ↦ elim may [
        | inl (more, h, reads) ↦ never (drop k (take end bytes) ++ more) h [] (subst (λ (t : List ℕ). ReadsRequest t h []) (ap (λ (t : List ℕ). t ++ more) split ∙ append_assoc (take k bytes) (drop k (take end bytes)) more) reads)
        | inr inside ↦ not_in_target (take end bytes) (feed_of bytes end ends) inside
      ]
    ]

end_size : (e : LineEnd) → 1 ≤ length (print_end e)
end_size crlf = omega arith
end_size lf = omega arith

-- each field line has at least three bytes
field_size : (f : Field) → IsField f → 3 ≤ length (print_field f)
field_size f is =
    let name = is.name.0 in
    let end = end_size f.end in
    omega (arith, length-append (f.name ++ 58 ∷ f.raw) (print_end f.end), length-append f.name (58 ∷ f.raw))

fields_size : (fs : List Field) → All IsField fs → 3 * length fs ≤ length (flat_map print_field fs)
fields_size [] all = omega arith
fields_size (f ∷ fs) all =
    omega (arith, field_size f (All-head IsField f fs all), fields_size fs (All-tail IsField f fs all), length-append (print_field f) (flat_map print_field fs))

-- a head is longer than its field lines
head_size : (h : RequestHead) → All IsField h.fields → 3 * length h.fields ≤ length (print_request h)
unfolding print_request
head_size h all =
    omega (arith, fields_size h.fields all, length-append (print_blank h.blank ++ h.method ++ 32 ∷ h.target ++ 32 ∷ print_version h.minor ++ print_end h.line_end) (print_section h.fields h.last), length-append (flat_map print_field h.fields) (print_end h.last))

pub exceeds : (text : List ℕ) → length text ≤ head_limit → RequestExceeds field_room text → ⊥
exceeds text small (front, rest, split, h, reads, more) =
    let size = ap length split ∙ length-append front rest in
    let same = ap length reads.1 ∙ length-append (print_request h) [] in
    let long = length-append front (print_end lf) in
    omega (arith, size, same, long, head_size h reads.0.fields)

pub whole : (bytes : List ℕ) (end len : ℕ) (h : RequestHead) → end ≤ length bytes → len ≤ end
    → ReadsRequest (take end bytes) h (drop len (take end bytes)) → ReadsRequest bytes h (drop len bytes)
whole bytes end len h here fits reads =
    let more = ReadsRequest-append (take end bytes) h _ (drop end bytes) reads in
    let all = take-append-drop end bytes in
    let rest : drop len (take end bytes) ++ drop end bytes ≡ drop len bytes = sym (drop-append-le len (take end bytes) (drop end bytes) (omega (arith, length-take-le end bytes here))) ∙ ap (drop len) all in
    subst (λ (t : List ℕ). ReadsRequest t h (drop len bytes)) all (subst (λ (r : List ℕ). ReadsRequest (take end bytes ++ drop end bytes) h r) rest more)

-- a head that was found in the lines is the head of the bytes
pub found : (bytes : List ℕ) (end : ℕ) (headers : List HeaderSpan) (r : RequestSpans) → 0 < end → IsLastLine bytes end
    → IsRequestWithin (take end bytes) headers r → IsRequestOf (take end bytes) headers r
    → (h : RequestHead) × HasHead bytes h (drop r.len bytes) × IsRequestAt (take end bytes) headers r h
found bytes end headers r some last within (h, at) =
    let ends = last.ends some in
    let here = ends.here in
    let small = ends.small in
    let size = length-take-le end bytes here in
    let fits : r.len ≤ end = omega (arith, within.section.len_fits) in
    (h, record { reads = whole bytes end r.len h here fits at.reads; small = omega (arith, at.len) }, at)

-- an error as the parser answers it
abbrev pub refusal : Error → Result (Status RequestSpans) Error
refusal e = Err e

-- where the parser refuses the lines, no head begins with them
pub bad : (bytes : List ℕ) (end room : ℕ) (e : Error) → room ≡ field_room → 0 < end → IsLastLine bytes end
    → (e ≢ TooManyHeaders → NeverHasRequest (take end bytes))
    → (refusal e ≡ refusal TooManyHeaders → RequestExceeds room (take end bytes)) → HasBadHead bytes
bad bytes end room e is some last invalid over =
    let ends = last.ends some in
    let small = ends.small in
    let none : e ≢ TooManyHeaders = λ (same : e ≡ TooManyHeaders). exceeds (take end bytes) (omega (arith, length-take-le end bytes ends.here)) (subst (λ (n : ℕ). RequestExceeds n (take end bytes)) is (over (ap refusal same))) in
    (end, ends, invalid none)
