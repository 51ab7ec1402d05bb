-- Rows that are gathered in a list.
use Rattle.std.proofs.Common.{◌≡◌, List, [], ◌∷◌, ◌++◌, map, refl, sym, ap, ◌∙◌, append-nil, append_assoc}
use Rattle.std.specs.List.{All}
use Rattle.std.proofs.lemmas.List.Elements.{All-nil, All-cons}
use Rattle.sqlite_value.specs.Order.{Row}
use Rattle.file_scan.specs.Took.{Took}

module _ {K T : Type 0} (items : K → List T) (as_row : T → Row) (fits : T → Type 0) where
  abbrev pub Adds : K → Row → K → Type 0
  Adds old row new = (w : T) × (row ≡ as_row w) × fits w × (items new ≡ items old ++ w ∷ [])

  -- the values of the rows stand behind those that stood there
  pub record Gathers (old : K) (rows : List Row) (new : K) : Type 0 where
    pub more : List T
    pub behind : items new ≡ items old ++ more
    pub values : map as_row more ≡ rows
    pub fit : All fits more

  pub gathers : (old new : K) (rows : List Row) → Took Adds old rows new → Gathers old rows new
  gathers old new [] t = record { more = []; behind = ap items t ∙ sym (append-nil (items old)); values = refl; fit = All-nil fits }
  gathers old new (row ∷ rows) (mid, step, rest) =
      let it = gathers mid new rows rest in
      record {
        more = step.0 ∷ it.more;
        behind = it.behind ∙ ap (λ l. l ++ it.more) step.3 ∙ append_assoc (items old) (step.0 ∷ []) it.more;
        values = ap (λ l. as_row step.0 ∷ l) it.values ∙ ap (λ r. r ∷ rows) (sym step.1);
        fit = All-cons fits step.0 it.more step.2 it.fit;
      }
