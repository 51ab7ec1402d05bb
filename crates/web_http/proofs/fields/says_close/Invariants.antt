use Rattle.std.proofs.Common.{◌≡◌, map, drop, codes}
use Rattle.std.specs.List.{list_any}
use Rattle.httparse.specs.Spans.{header_bytes}
use Rattle.web_http.specs.Messages.{values_named, lists_close}
use Rattle.web_http.proofs.fields.says_close.Given as goal

abbrev pub invariant-loop-header : goal.invariant-loop-header
invariant-loop-header l =
    list_any lists_close (values_named (codes "connection") (map (header_bytes l.head) (drop l.header-index l.headers)))
    ≡ list_any lists_close (values_named (codes "connection") (map (header_bytes l.head) l.headers))
