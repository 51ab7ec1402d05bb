use Rattle.std.proofs.Common.{◌≡◌, ◌++◌, map, drop}
use Rattle.serde_json.specs.View.{items_of}
use Rattle.serde_json.specs.Written.{compact_text, items_text}
use Rattle.web_json.specs.Values.{list}
use Rattle.web_json.proofs.pieces.append_list.Given as goal

-- with what is left of the list, the text is that of the whole list
abbrev pub invariant-loop-row : goal.invariant-loop-row
invariant-loop-row g l =
    l.out.items ++ items_text l.later (items_of (map (g.W.WriteRow.body l.writer) (drop l.row-index l.rows)))
    ≡ l.fn.out.items ++ compact_text (list (map (g.W.WriteRow.body l.fn.writer) l.fn.rows))
