-- Which prefix of the bytes that came decides on a message's head.
use Rattle.std.specs.Prelude.{◌≡◌, ℕ, ◌-◌, ◌<◌, ◌≤◌, ◌⊎◌, List, [], length, take, drop, slice_index, ⊤}
use Rattle.httparse.specs.Ascii.{line_feed}
use Rattle.httparse.specs.Grammar.{RequestHead, print_request, ReadsRequest, NeverHasRequest}
use Rattle.httparse.specs.Spans.{IsRequestAt, IsRequestWithin}
use Rattle.httparse.specs.declared.spans.HeaderSpan.{HeaderSpan}
use Rattle.web_http.specs.declared.heads.Head.{Head}
use Rattle.web_http.specs.declared.heads.Head.TheVariants as heads

-- the most bytes of a head
abbrev pub head_limit : ℕ
head_limit = 16384

-- how many fields the parser has room for
abbrev pub field_room : ℕ
field_room = 8192

-- the first n bytes are within the limit and end in a line feed
pub record EndsLine (bytes : List ℕ) (n : ℕ) : Type 0 where
  pub some : 0 < n
  pub here : n ≤ length bytes
  pub small : n ≤ head_limit
  pub feed : slice_index bytes (n - 1) ≡ line_feed

-- the text is a head, or no head begins with it
abbrev pub Settles : List ℕ → Type 0
Settles text = ((h : RequestHead) × ReadsRequest text h []) ⊎ NeverHasRequest text

-- a head of at most the limit is at the front, and rest follows it
pub record HasHead (bytes : List ℕ) (h : RequestHead) (rest : List ℕ) : Type 0 where
  pub reads : ReadsRequest bytes h rest
  pub small : length (print_request h) ≤ head_limit

-- with some lines at the front no head begins
abbrev pub HasBadHead : List ℕ → Type 0
HasBadHead bytes = (n : ℕ) × EndsLine bytes n × NeverHasRequest (take n bytes)

-- no lines at the front settle what the head is
abbrev pub Undecided : List ℕ → Type 0
Undecided bytes = (n : ℕ) → EndsLine bytes n → ¬ (Settles (take n bytes))

-- the lines of at most n bytes settle nothing
abbrev pub Unsettled : List ℕ → ℕ → Type 0
Unsettled bytes n = (k : ℕ) → k ≤ n → EndsLine bytes k → ¬ (Settles (take k bytes))

-- as many bytes are there as a head may have, and they settle nothing
abbrev pub HasLongHead : List ℕ → Type 0
HasLongHead bytes = (head_limit ≤ length bytes) × Undecided bytes

-- fewer bytes are there, and they settle nothing
abbrev pub HasNoHead : List ℕ → Type 0
HasNoHead bytes = (length bytes < head_limit) × Undecided bytes

-- what was found of the head at the front of the bytes
abbrev pub FindsHead : List ℕ → List HeaderSpan → Head → Type 0
FindsHead bytes headers (heads.Whole end r) =
    (h : RequestHead) × HasHead bytes h (drop r.len bytes) × IsRequestAt (take end bytes) headers r h
FindsHead bytes headers heads.Bad = HasBadHead bytes
FindsHead bytes headers heads.Long = HasLongHead bytes
FindsHead bytes headers heads.Waits = HasNoHead bytes

-- the spans lie in the head, and the head in the bytes
abbrev pub WithinHead : List ℕ → List HeaderSpan → Head → Type 0
WithinHead bytes headers (heads.Whole end r) = (end ≤ length bytes) × IsRequestWithin (take end bytes) headers r
WithinHead bytes headers heads.Bad = ⊤
WithinHead bytes headers heads.Long = ⊤
WithinHead bytes headers heads.Waits = ⊤

-- n bytes end the last line within the limit, or no line ends there and n is 0
pub record IsLastLine (bytes : List ℕ) (n : ℕ) : Type 0 where
  pub ends : 0 < n → EndsLine bytes n
  pub last : (k : ℕ) → EndsLine bytes k → k ≤ n
