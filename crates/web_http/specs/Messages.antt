-- The messages of a stream of bytes, and the faults of framing.
use Rattle.std.specs.Prelude.{◌≡◌, ℕ, ◌⊎◌, Bool, true, false, ◌||◌, List, [], ◌∷◌, ◌++◌, length, map, Option, Some, None, Result, Ok, Err, if◌then◌else◌, ◌==◌, nat_lt, ⊤, codes, bytes_eq}
use Rattle.std.specs.List.{list_any, slice_split}
use Rattle.std.specs.Char.{to_ascii_lowercase}
use Rattle.base_values.specs.Digits.{number_of}
use Rattle.httparse.specs.Ascii.{comma}
use Rattle.httparse.specs.Grammar.{trim_ows, RequestHead}
use Rattle.httparse.specs.Spans.{name_and_value}
use Rattle.web_http.specs.declared.fault.FrameFault.{FrameFault}
use Rattle.web_http.specs.declared.fault.FrameFault.TheVariants.{BadHead, BodyTooLarge, HeadTooLarge, UnknownCoding}
use Rattle.web_http.specs.Heads.{HasHead, HasBadHead, HasLongHead}

-- the name and the value of a field
abbrev pub Header : Type 0
Header = List ℕ × List ℕ

-- a message as its texts, without where these are in the buffer
pub record Message : Type 0 where
  pub method : List ℕ
  pub target : List ℕ
  pub minor : ℕ
  pub fields : List Header
  pub body : List ℕ

-- the most fields of a head
abbrev pub field_limit : ℕ
field_limit = 64

-- the most bytes of a body: 1 MiB
abbrev pub body_limit : ℕ
body_limit = 1048576

-- equal but for ASCII case
unfoldable pub same_word : List ℕ → List ℕ → Bool
same_word a b = bytes_eq (map to_ascii_lowercase a) (map to_ascii_lowercase b)

-- the values of the fields of that name, in order
abbrev pub values_named : List ℕ → List Header → List (List ℕ)
values_named name [] = []
values_named name (h ∷ hs) = if same_word h.0 name then h.1 ∷ values_named name hs else values_named name hs

-- the first of a list
abbrev pub first_of_all : {X : Type 0} → List X → Option X
first_of_all [] = None
first_of_all (x ∷ xs) = Some x

-- the value of the first field of that name
abbrev pub first_named : List ℕ → List Header → Option (List ℕ)
first_named name fields = first_of_all (values_named name fields)

-- the length of a body, from what its one field says
abbrev pub length_limited : Option ℕ → Result ℕ FrameFault
length_limited None = Err BadHead
length_limited (Some n) = if nat_lt body_limit n then Err BodyTooLarge else Ok n

-- the length of a body, from the fields that name one
abbrev pub body_length : List (List ℕ) → Result ℕ FrameFault
body_length [] = Ok 0
body_length (v ∷ []) = length_limited (number_of v)
body_length (v ∷ w ∷ vs) = Err BadHead

-- the length that the fields declare for a body
abbrev pub declared_length : List Header → Result ℕ FrameFault
declared_length fields = body_length (values_named (codes "content-length") fields)

-- whether there is one
abbrev pub is_some_list : {X : Type 0} → List X → Bool
is_some_list [] = false
is_some_list (x ∷ xs) = true

-- the length of the body, or the first fault of the fields
abbrev pub check_fields : List Header → Result ℕ FrameFault
check_fields fields =
    if nat_lt field_limit (length fields) then Err HeadTooLarge
    else (if is_some_list (values_named (codes "transfer-encoding") fields) then Err UnknownCoding
    else declared_length fields)

-- the fields of a head
abbrev pub fields_of : RequestHead → List Header
fields_of h = map name_and_value h.fields

-- the message of a head and a body
abbrev pub message_of : RequestHead → List ℕ → Message
message_of h body = record { method = h.method; target = h.target; minor = h.minor; fields = fields_of h; body = body }

-- the message m is at the front of the bytes, and rest follows it
pub record Takes (bytes : List ℕ) (m : Message) (rest : List ℕ) : Type 0 where
  pub head : RequestHead
  pub after : List ℕ
  pub reads : HasHead bytes head after
  pub fits : check_fields (fields_of head) ≡ Ok (length m.body)
  pub body : after ≡ m.body ++ rest
  pub is : m ≡ message_of head m.body

-- the fields of the head at the front have that fault
abbrev pub HasFieldFault : List ℕ → FrameFault → Type 0
HasFieldFault bytes f = (h : RequestHead) × (after : List ℕ) × HasHead bytes h after × (check_fields (fields_of h) ≡ Err f)

-- the front of the bytes has that fault
abbrev pub Faults : List ℕ → FrameFault → Type 0
Faults bytes f = (HasBadHead bytes × (f ≡ BadHead)) ⊎ ((HasLongHead bytes × (f ≡ HeadTooLarge)) ⊎ HasFieldFault bytes f)

-- the bytes have no whole message at the front, and no fault
pub record HasNone (bytes : List ℕ) : Type 0 where
  pub message : (m : Message) (rest : List ℕ) → ¬ (Takes bytes m rest)
  pub fault : (f : FrameFault) → ¬ (Faults bytes f)

-- a word between the commas is `close`
abbrev pub lists_close : List ℕ → Bool
lists_close value = list_any (λ w. same_word (trim_ows w) (codes "close")) (slice_split (λ b. b == comma) value)

-- a `Connection` field lists `close`
abbrev pub says_close : List Header → Bool
says_close fields = list_any lists_close (values_named (codes "connection") fields)

-- the connection ends after the message
abbrev pub closes : Message → Bool
closes m = (m.minor == 0) || says_close m.fields

-- the bytes are these messages and then less than a whole one, or a fault ends them, or a message that closes
abbrev pub Messages : List ℕ → List (Result Message FrameFault) → Type 0
Messages bytes [] = HasNone bytes
Messages bytes (Ok m ∷ items) =
    (rest : List ℕ) × Takes bytes m rest
    × (closes m ≡ true → items ≡ []) × (closes m ≡ false → Messages rest items)
Messages bytes (Err f ∷ items) = Faults bytes f × (items ≡ [])

-- the messages are at the front of the bytes, none of them ends the connection, and rest follows
abbrev pub Reads : List ℕ → List Message → List ℕ → Type 0
Reads bytes [] rest = bytes ≡ rest
Reads bytes (m ∷ ms) rest = (mid : List ℕ) × Takes bytes m mid × (closes m ≡ false) × Reads mid ms rest

-- a whole message, as what a stream holds
abbrev pub whole : Message → Result Message FrameFault
whole m = Ok m

-- the last of them is a fault, or a message that ends the connection
abbrev pub AreLast : List (Result Message FrameFault) → Type 0
AreLast [] = ⊥
AreLast (Err f ∷ []) = ⊤
AreLast (Ok m ∷ []) = closes m ≡ true
AreLast (x ∷ y ∷ items) = AreLast (y ∷ items)
