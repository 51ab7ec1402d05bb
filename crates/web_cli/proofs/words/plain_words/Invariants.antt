use Rattle.std.proofs.Common.{◌≡◌, ◌++◌, drop, map, string_bytes}
use Rattle.clap.specs.Walk.{texts}
use Rattle.web_cli.specs.Asked.{plain_behind, plain_words}
use Rattle.web_cli.proofs.words.plain_words.Given as goal

abbrev pub invariant-loop-word : goal.invariant-loop-word
invariant-loop-word l = texts l.all.items ++ plain_behind l.is_number (map string_bytes (drop l.word-index l.words)) ≡ plain_words (map string_bytes l.words)
