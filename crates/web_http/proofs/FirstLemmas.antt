-- What the front of the bytes is, from its head and its fields.
use Rattle.std.proofs.Common.{◌≡◌, ℕ, ◌+◌, ◌-◌, ◌<◌, ◌≤◌, List, ◌++◌, length, take, drop, map, Result, Ok, Err, slice_range, sym, ap, ap₂, ◌∙◌, arith, inl, inr, take-append-drop, length-append, length-drop}
use Rattle.std.proofs.lemmas.List.{drop-drop, length-take-le}
use Rattle.httparse.specs.Grammar.{RequestHead}
use Rattle.httparse.specs.Spans.{IsRequestAt, header_bytes}
use Rattle.httparse.specs.declared.spans.HeaderSpan.{HeaderSpan}
use Rattle.httparse.specs.declared.spans.RequestSpans.{RequestSpans}
use Rattle.web_http.specs.declared.fault.FrameFault.{FrameFault}
use Rattle.web_http.specs.Heads.{HasHead, HasNoHead}
use Rattle.web_http.specs.Messages.{Message, fields_of, check_fields, message_of, Takes, Faults, HasNone}
use Rattle.web_http.specs.Found.{message_at, Quiet}
use Rattle.web_http.proofs.MessageLemmas.{HasHead_unique, HasHead-append, bad_apart, undecided_apart, bad_or_undecided}

pub no_head : (bytes : List ℕ) → HasNoHead bytes → HasNone bytes
no_head bytes x = record {
  message = λ m rest t. undecided_apart bytes t.head t.after x.1 t.reads;
  fault = λ f y. fault f y;
}
  where
    fault : (f : FrameFault) → Faults bytes f → ⊥
    fault f (inl bad) = bad_or_undecided bytes bad.0 x.1
    fault f (inr (inl long)) = let few = x.0 in let many = long.0.0 in absurd (omega arith)
    fault f (inr (inr field)) = undecided_apart bytes field.0 field.1 x.1 field.2

range_take : (bytes : List ℕ) (i n : ℕ) → slice_range bytes i (i + n) ≡ take n (drop i bytes)
range_take bytes i n = let e : i + n - i ≡ n = omega arith in ap (λ (k : ℕ). take k (drop i bytes)) e

length_range : (bytes : List ℕ) (i n : ℕ) → i + n ≤ length bytes → length (slice_range bytes i (i + n)) ≡ n
length_range bytes i n room = ap length (range_take bytes i n) ∙ length-take-le n (drop i bytes) (omega (arith, length-drop i bytes))

range_split : (bytes : List ℕ) (i n : ℕ) → drop i bytes ≡ slice_range bytes i (i + n) ++ drop (i + n) bytes
range_split bytes i n =
    sym (take-append-drop n (drop i bytes)) ∙ ap₂ (λ (a b : List ℕ). a ++ b) (sym (range_take bytes i n)) (drop-drop n i bytes)

-- the fields of the head, as the spans cover them
pub fields_same : (text : List ℕ) (headers : List HeaderSpan) (r : RequestSpans) (h : RequestHead) → IsRequestAt text headers r h
    → map (header_bytes text) (take r.headers headers) ≡ fields_of h
fields_same text headers r h at = at.fields

abbrev pub is_ok : ℕ → Result ℕ FrameFault
is_ok n = Ok n

-- the body is not whole yet
pub short_body : (bytes : List ℕ) (h : RequestHead) (after : List ℕ) (n : ℕ) → HasHead bytes h after
    → is_ok n ≡ check_fields (fields_of h) → length after < n → HasNone bytes
short_body bytes h after n x fits short = record {
  message = λ m rest t. message m rest t;
  fault = λ f y. fault f y;
}
  where
    message : (m : Message) (rest : List ℕ) → Takes bytes m rest → ⊥
    message m rest t =
        let same = HasHead_unique bytes h t.head after t.after x t.reads in
        let both : is_ok n ≡ is_ok (length m.body) = fits ∙ ap (λ (k : RequestHead). check_fields (fields_of k)) same.0 ∙ t.fits in
        let size : n ≡ length m.body = cc in
        let long = ap length (same.1 ∙ t.body) ∙ length-append m.body rest in
        absurd (omega arith)

    fault : (f : FrameFault) → Faults bytes f → ⊥
    fault f (inl bad) = bad_apart bytes h after bad.0 x
    fault f (inr (inl long)) = undecided_apart bytes h after long.0.1 x
    fault f (inr (inr field)) =
        let same = HasHead_unique bytes h field.0 after field.1 x field.2 in
        let both : is_ok n ≡ Err f = fits ∙ ap (λ (k : RequestHead). check_fields (fields_of k)) same.0 ∙ field.3 in
        cc

message_same : (text : List ℕ) (headers : List HeaderSpan) (r : RequestSpans) (h : RequestHead) (body : List ℕ)
    → IsRequestAt text headers r h → message_at text headers r body ≡ message_of h body
message_same text headers r h body at =
    λ i. record { method = at.method i; target = at.path i; minor = at.version i; fields = at.fields i; body = body }

pub takes : (bytes : List ℕ) (end : ℕ) (headers : List HeaderSpan) (r : RequestSpans) (h : RequestHead) (n : ℕ)
    → HasHead bytes h (drop r.len bytes) → IsRequestAt (take end bytes) headers r h
    → is_ok n ≡ check_fields (fields_of h) → r.len + n ≤ length bytes
    → Takes bytes (message_at (take end bytes) headers r (slice_range bytes r.len (r.len + n))) (drop (r.len + n) bytes)
takes bytes end headers r h n x at fits room =
    let body = slice_range bytes r.len (r.len + n) in
    let size : length body ≡ n = omega (arith, length_range bytes r.len n room) in
    record {
      head = h;
      after = drop r.len bytes;
      reads = x;
      fits = sym fits ∙ ap is_ok (sym size);
      body = range_split bytes r.len n;
      is = message_same (take end bytes) headers r h body at;
    }

-- no body is whole before all its bytes are there
pub quiet : (bytes : List ℕ) (h : RequestHead) (len n : ℕ) → len ≤ length bytes → HasHead bytes h (drop len bytes)
    → is_ok n ≡ check_fields (fields_of h) → Quiet bytes (len + n)
quiet bytes h len n here x fits more few =
    short_body (bytes ++ more) h (drop len bytes ++ more) n (HasHead-append bytes h (drop len bytes) more x) fits
    (omega (arith, length-append bytes more, length-append (drop len bytes) more, length-drop len bytes))
