-- How the fields of a frame show its message.
use Rattle.httparse.specs.Spans.{IsRequestWithin}
use Rattle.web_http.specs.declared.frame.Frame.TheInside.{Inside}
use Rattle.web_http.specs.Messages.{Message}
use Rattle.web_http.specs.Found.{message_at}

-- the message that the spans of a frame cover in its lines, with its body
abbrev pub message_shown : Inside → Message
message_shown f = message_at f.head.now f.headers.now f.spans f.body.now

-- each span of a frame is within its head, and the head within its lines
abbrev pub IsShown : Inside → Type 0
IsShown f = IsRequestWithin f.head.now f.headers.now f.spans
