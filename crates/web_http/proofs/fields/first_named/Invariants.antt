use Rattle.std.proofs.Common.{◌≡◌, map, drop}
use Rattle.httparse.specs.Spans.{header_bytes}
use Rattle.web_http.specs.Messages.{first_named}
use Rattle.web_http.proofs.fields.first_named.Given as goal

abbrev pub invariant-loop-header : goal.invariant-loop-header
invariant-loop-header l =
    first_named l.name (map (header_bytes l.head) (drop l.header-index l.headers))
    ≡ first_named l.name (map (header_bytes l.head) l.headers)
