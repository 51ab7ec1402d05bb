use Rattle.std.proofs.Common.{◌≡◌, ◌++◌, map, drop, codes}
use Rattle.httparse.specs.Spans.{header_bytes}
use Rattle.web_http.specs.Messages.{values_named, body_length}
use Rattle.web_http.specs.Found.{seen_value}
use Rattle.web_http.proofs.fields.declared_length.Given as goal

abbrev pub invariant-loop-header : goal.invariant-loop-header
invariant-loop-header l =
    body_length (seen_value l.seen ++ values_named (codes "content-length") (map (header_bytes l.head) (drop l.header-index l.headers)))
    ≡ body_length (values_named (codes "content-length") (map (header_bytes l.head) l.headers))
