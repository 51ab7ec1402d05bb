-- What the framing's functions answer, as messages.
use Rattle.std.specs.Prelude.{ℕ, ◌+◌, ◌<◌, ◌≤◌, List, [], ◌∷◌, ◌++◌, length, take, drop, map, slice_range, Option, Some, None}
use Rattle.std.specs.Borrow.{Bor}
use Rattle.httparse.specs.Spans.{span_bytes, header_bytes, IsRequestWithin}
use Rattle.httparse.specs.declared.spans.HeaderSpan.{HeaderSpan}
use Rattle.httparse.specs.declared.spans.RequestSpans.{RequestSpans}
use Rattle.web_http.specs.declared.first.FoundMessage.{FoundMessage}
use Rattle.web_http.specs.declared.first.First.{First}
use Rattle.web_http.specs.declared.first.First.TheVariants as firsts
use Rattle.web_http.specs.Heads.{HasNoHead}
use Rattle.web_http.specs.Messages.{Header, Message, Takes, Faults, HasNone}

-- the values seen so far, where more than one is a fault
abbrev pub seen_value : Option (Bor (List ℕ)) → List (List ℕ)
seen_value None = []
seen_value (Some v) = v.now ∷ []

-- the fields that the spans cover in a head
abbrev pub fields_at : List ℕ → List HeaderSpan → List Header
fields_at head headers = map (header_bytes head) headers

-- the message that the spans cover in the text
abbrev pub message_at : List ℕ → List HeaderSpan → RequestSpans → List ℕ → Message
message_at text headers r body = record {
  method = span_bytes text r.method;
  target = span_bytes text r.path;
  minor = r.version;
  fields = fields_at text (take r.headers headers);
  body = body;
}

-- the message that was found at the front of the bytes
abbrev pub message_found : List ℕ → List HeaderSpan → FoundMessage → Message
message_found bytes headers f =
    message_at (take f.end bytes) headers f.head (slice_range bytes f.head.len (f.head.len + f.body))

-- the head lies in its lines, and the message in the bytes
pub record IsFoundWithin (bytes : List ℕ) (headers : List HeaderSpan) (f : FoundMessage) : Type 0 where
  pub lines : f.end ≤ length bytes
  pub head : IsRequestWithin (take f.end bytes) headers f.head
  pub body : f.head.len + f.body ≤ length bytes

-- as long as fewer than n bytes are there, there is neither a whole message nor a fault
abbrev pub Quiet : List ℕ → ℕ → Type 0
Quiet bytes n = (more : List ℕ) → length (bytes ++ more) < n → HasNone (bytes ++ more)

-- what is at the front of the bytes
abbrev pub FindsFirst : List ℕ → List HeaderSpan → First → Type 0
FindsFirst bytes headers (firsts.Message f) =
    IsFoundWithin bytes headers f × Takes bytes (message_found bytes headers f) (drop (f.head.len + f.body) bytes)
FindsFirst bytes headers (firsts.Broken f) = Faults bytes f
FindsFirst bytes headers firsts.NoHead = HasNoHead bytes
FindsFirst bytes headers (firsts.NoBody n) = (length bytes < n) × Quiet bytes n
