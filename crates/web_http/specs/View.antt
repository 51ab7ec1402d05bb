-- How the fields of a framing show it.
use Rattle.std.specs.Prelude.{◌≡◌, ℕ, ◌≤◌, List, length, drop, option_map, IfSome}
use Rattle.web_http.specs.declared.frames.Frames.TheInside.{Inside}
use Rattle.web_http.specs.Heads.{field_room, Unsettled}
use Rattle.web_http.specs.Found.{message_found, IsFoundWithin, Quiet}
use Rattle.web_http.specs.Framed.{Framed}

-- the bytes of the buffer that are not yet taken, and the message that was found in it last, unless it is forgotten
abbrev pub frame_view : Inside → Framed
frame_view f = record {
  left = drop f.start f.buffer.items;
  taken = option_map (message_found (drop f.base f.buffer.items) f.headers.items) f.taken;
}

-- the lines of the first tried bytes settle nothing, and there is no message before wanted bytes are there
pub record Known (bytes : List ℕ) (tried wanted : ℕ) : Type 0 where
  pub tried_fits : tried ≤ length bytes
  pub lines : Unsettled bytes tried
  pub quiet : Quiet bytes wanted

-- the places are within the buffer, there is room for the fields of a head, and what is known of the bytes is true
pub record IsFraming (f : Inside) : Type 0 where
  pub start : f.start ≤ length f.buffer.items
  pub base : f.base ≤ length f.buffer.items
  pub room : length f.headers.items ≡ field_room
  pub known : Known (drop f.start f.buffer.items) f.tried f.wanted
  pub within : IfSome f.taken (IsFoundWithin (drop f.base f.buffer.items) f.headers.items)
