use Rattle.std.proofs.Common.{ℕ, ◌+◌, List, Option, ◌∷◌, ◌++◌, sym, ap, ◌∙◌, codes}
use Rattle.std.specs.Borrow.{Bor}
use Rattle.web_http.specs.Messages.{same_word, body_length}
use Rattle.web_http.specs.Found.{seen_value}
use Rattle.web_http.proofs.FieldLemmas.{values_from, named, other, second, first}
use Rattle.web_http.proofs.fields.declared_length.Goals as goal
use Rattle.web_http.proofs.fields.declared_length.Goals.{then-same_word+else-is_some, else-same_word}

pub returns-then-is_some : goal.returns-then-is_some
returns-then-is_some c =
    let name = codes "content-length" in
    let hit = ap (λ (t : List ℕ). same_word t name) (sym c.of.ensures) ∙ sym c.if-same_word.ensures in
    let step = named c.args.head.now c.args.headers.now name c.loop-header.header-index _ c.loop-header-test.true hit in
    sym (second c.loop-header.seen _ _ (sym c.if-is_some.ensures))
    ∙ ap (λ (vs : List (List ℕ)). body_length (seen_value c.loop-header.seen ++ vs)) (sym step)
    ∙ c.loop-header.invariant

pub loop-header-preserved : goal.loop-header-preserved
loop-header-preserved c =
    let name = codes "content-length" in
    let head = c.args.head.now in
    let headers = c.args.headers.now in
    let i = c.loop-header.header-index in
    let below = c.loop-header-test.true in
    elim c.if-same_word.branch [
      | then-same_word+else-is_some w ↦
          let hit = ap (λ (t : List ℕ). same_word t name) (sym c.of.ensures) ∙ sym w.if-same_word.ensures in
          let step = named head headers name i _ below hit in
          let seen = first c.loop-header.seen w.of-then-same_word.result c.if-same_word.seen _ (sym w.if-is_some.ensures) w.seen-is in
          let value = w.of-then-same_word.ensures in
          ap body_length (seen ∙ ap (λ (v : List ℕ). seen_value c.loop-header.seen ++ v ∷ _) value ∙ ap (λ (vs : List (List ℕ)). seen_value c.loop-header.seen ++ vs) (sym step)) ∙ c.loop-header.invariant
      | else-same_word w ↦
          let miss = ap (λ (t : List ℕ). same_word t name) (sym c.of.ensures) ∙ sym w.if-same_word.ensures in
          let step = other head headers name i _ below miss in
          ap (λ (s : Option (Bor (List ℕ))). body_length (seen_value s ++ values_from head headers name (i + 1))) w.seen-is ∙ ap (λ (vs : List (List ℕ)). body_length (seen_value c.loop-header.seen ++ vs)) (sym step) ∙ c.loop-header.invariant
    ]
